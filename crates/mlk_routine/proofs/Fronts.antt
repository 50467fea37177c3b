-- What precedes a line's commands.
use Rattle.std.proofs.Common.{◌≡◌, ◌<◌, ◌≤◌, ◌+◌, ℕ, suc, List, [], ◌∷◌, ◌++◌, length, drop, Some, None, Bool, true, false, inl, inr, refl, sym, ap, ◌∙◌, arith, subst, append_assoc}
use Rattle.std.specs.Prelude.{Option, ◌==◌, ◌⊎◌, is_some, not, if◌then◌else◌}
use Rattle.std.proofs.lemmas.Bool.{cases_Bool, and_parts}
use Rattle.std.proofs.lemmas.Bool.Decides.{nat_tests}
use Rattle.std.proofs.lemmas.Option.{same_Some}
use Rattle.std.specs.List.{list_all}
use Rattle.mlk_text.specs.Lexemes.{is_digit}
use Rattle.mlk_expr.specs.Theorem.{Stands, LabelEnds}
use Rattle.mlk_routine.specs.declared.front.Front.{Front}
use Rattle.mlk_routine_arguments.specs.PartsRead.{Found, Nowhere, first_of, byte_at}
use Rattle.mlk_routine_arguments.specs.Ends.{AnyEnds, Lacks, starts, is_commands_end}
use Rattle.mlk_routine.specs.RoutineGrammar.{is_blank, AreBlanks, IsFormals}
use Rattle.mlk_routine.specs.Lines.{is_label_byte, IsLabelPart, LabelPartEnds, IsFormalList, IsFormalsPart, FormalsPartEnds, IsOpening, OpeningEnds, IsFront, FrontEnds}
use Rattle.mlk_routine_arguments.specs.CommandGrammar.{Both}
use Rattle.mlk_routine_arguments.proofs.Sequences.{Parts, Turned, both_found, first_nowhere, second_nowhere}

-- a formal list begins with its parenthesis
formals_open : (formals : List (List ℕ)) (s rest : List ℕ) → IsFormals formals s → first_of (s ++ rest) ≡ Some 40
formals_open [] s rest is = ap (λ l. first_of (l ++ rest)) is
formals_open (n ∷ formals) s rest is = ap (λ l. first_of (l ++ rest)) is.1

module _ (labelled : Bool) (line : List ℕ) (at : ℕ) where
  pub formals_turned : labelled ≡ true → byte_at line at ≡ Some 40 → Turned line at IsFormalList AnyEnds (IsFormalsPart labelled) (FormalsPartEnds labelled) (λ formals. Some formals)
  formals_turned is_labelled here = record {
    into = λ formals s is. (is_labelled, is);
    ends = λ formals rest e. tt;
    apart = λ c u rest h is e. go c u rest h is e;
  }
    where
      go : (c : Option (List (List ℕ))) (u rest : List ℕ) → drop at line ≡ u ++ rest → IsFormalsPart labelled (suc at) c u → FormalsPartEnds labelled c rest → (formals : List (List ℕ)) × (c ≡ Some formals) × IsFormals formals u × Unit {0}
      go None u rest h is e = absurd (e is_labelled (sym (ap first_of (h ∙ ap (λ l. l ++ rest) is)) ∙ here))
      go (Some formals) u rest h is e = (formals, refl, is.1, tt)

  pub no_formals : at ≤ length line → (labelled ≡ true → byte_at line at ≡ Some 40 → ⊥) → Found (IsFormalsPart labelled) (FormalsPartEnds labelled) line at None at
  no_formals less missing = (stands, λ c u rest h is e. only c u rest h is)
    where
      stands : Stands (IsFormalsPart labelled) (FormalsPartEnds labelled) line at None at
      stands = record { text = []; within = less; joined = refl; spelled = refl; ended = missing }

      only : (c : Option (List (List ℕ))) (u rest : List ℕ) → drop at line ≡ u ++ rest → IsFormalsPart labelled (suc at) c u → (c ≡ None) × (rest ≡ drop at line)
      only None u rest h is = (refl, sym (h ∙ ap (λ l. l ++ rest) is))
      only (Some formals) u rest h is = absurd (missing is.0 (ap first_of h ∙ formals_open formals u rest is.1))

-- what begins after the formals: nothing, a comment or a blank
abbrev IsOpener : ℕ → Type 0
IsOpener b = (b ≡ 59) ⊎ ((b ≡ 32) ⊎ (b ≡ 9))

abbrev Opens : List ℕ → Type 0
Opens l = (l ≡ []) ⊎ ((b : ℕ) × (ys : List ℕ) × (l ≡ b ∷ ys) × IsOpener b)

blank_opener : (b : ℕ) → is_blank b ≡ true → IsOpener b
blank_opener b h = go (cases_Bool (b == 32))
  where
    go : ((b == 32) ≡ true) ⊎ ((b == 32) ≡ false) → IsOpener b
    go (inl e) = inr (inl (grind (arith, nat_tests, e)))
    go (inr e) = inr (inr (grind (arith, nat_tests, rw e at h)))

end_opens : (l : List ℕ) → is_commands_end l ≡ true → Opens l
end_opens [] h = inl refl
end_opens (b ∷ l) h = inr (b, l, refl, inl (grind (arith, nat_tests, h)))

blanks_open : (s rest : List ℕ) → AreBlanks s → 0 < length s → Opens (s ++ rest)
blanks_open [] rest all some = absurd (omega (arith, some))
blanks_open (b ∷ s) rest all some = inr (b, s ++ rest, refl, blank_opener b (and_parts (is_blank b) (list_all is_blank s) all).0)

opening_opens : (k : ℕ) (o : Option ℕ) (t rest : List ℕ) → IsOpening k o t → OpeningEnds o rest → Opens (t ++ rest)
opening_opens k None t rest is e = subst (λ l. Opens (l ++ rest)) (sym is) (end_opens rest e)
opening_opens k (Some level) t rest (periods, same, (blanks, more, is, some, all, next)) e =
    subst (λ l. Opens (l ++ rest)) (sym is) (subst Opens (sym (append_assoc blanks more rest)) (blanks_open blanks (more ++ rest) all some))

opens_lack : (l : List ℕ) → Opens l → Lacks 40 l
opens_lack l (inl none) bad = cc (sym (ap first_of none) ∙ bad)
opens_lack l (inr (b, ys, is, opener)) bad = go opener (same_Some b 40 (sym (ap first_of is) ∙ bad))
  where
    go : IsOpener b → b ≡ 40 → ⊥
    go (inl e) same = omega (arith, e, same)
    go (inr (inl e)) same = omega (arith, e, same)
    go (inr (inr e)) same = omega (arith, e, same)

opener_no_label : (b : ℕ) → IsOpener b → is_label_byte b ≡ false
opener_no_label b (inl e) = rw e refl
opener_no_label b (inr (inl e)) = rw e refl
opener_no_label b (inr (inr e)) = rw e refl

opens_no_label : (l : List ℕ) → Opens l → starts is_label_byte l ≡ false
opens_no_label l (inl none) = ap (starts is_label_byte) none
opens_no_label l (inr (b, ys, is, opener)) = ap (starts is_label_byte) is ∙ opener_no_label b opener

same_either : (b : Bool) → not (if b then false else false) ≡ true
same_either true = refl
same_either false = refl

label_opener : (label ys : List ℕ) (b : ℕ) → IsOpener b → LabelEnds label (b ∷ ys)
label_opener [] ys b opener = refl
label_opener (d ∷ label) ys b (inl e) = rw e (same_either (is_digit d))
label_opener (d ∷ label) ys b (inr (inl e)) = rw e (same_either (is_digit d))
label_opener (d ∷ label) ys b (inr (inr e)) = rw e (same_either (is_digit d))

label_none : (label : List ℕ) → LabelEnds label []
label_none [] = refl
label_none (d ∷ label) = refl

label_opens : (label l : List ℕ) → Opens l → LabelEnds label l
label_opens label l (inl none) = subst (LabelEnds label) (sym none) (label_none label)
label_opens label l (inr (b, ys, is, opener)) = subst (LabelEnds label) (sym is) (label_opener label ys b opener)

label_open : (label ys : List ℕ) → LabelEnds label (40 ∷ ys)
label_open [] ys = refl
label_open (d ∷ label) ys = same_either (is_digit d)

-- a list that begins with a parenthesis
open_first : (label l : List ℕ) → first_of l ≡ Some 40 → LabelEnds label l
open_first label [] h = cc h
open_first label (b ∷ l) h = let e = same_Some b 40 h in subst (λ c. LabelEnds label (c ∷ l)) (sym e) (label_open label l)

-- formals, and the line's start after them
abbrev pub FormalsThen : Bool → ℕ → Option (List (List ℕ)) × Option ℕ → List ℕ → Type 0
FormalsThen labelled at x s = Both (λ n r. IsFormalsPart labelled n x.0 r) (λ n r. IsOpening n x.1 r) at s

abbrev pub ThenEnds : Option (List (List ℕ)) × Option ℕ → List ℕ → Type 0
ThenEnds x rest = OpeningEnds x.1 rest

then_ends : (label : Option (List ℕ)) (k : ℕ) (x : Option (List (List ℕ)) × Option ℕ) (t rest : List ℕ) → FormalsThen (is_some label) k x t → ThenEnds x rest → LabelPartEnds label (t ++ rest)
then_ends None k (None, o) t rest (s, r, is, one, two) e =
    let opens = opening_opens (k + length s) o r rest two e in
    subst (λ l. starts is_label_byte (l ++ rest) ≡ false) (sym (is ∙ ap (λ l. l ++ r) one)) (opens_no_label (r ++ rest) opens)
then_ends None k (Some formals, o) t rest (s, r, is, one, two) e = cc one.0
then_ends (Some label) k (None, o) t rest (s, r, is, one, two) e =
    let opens = opening_opens (k + length s) o r rest two e in
    subst (λ l. LabelEnds label (l ++ rest)) (sym (is ∙ ap (λ l. l ++ r) one)) (label_opens label (r ++ rest) opens)
then_ends (Some label) k (Some formals, o) t rest (s, r, is, one, two) e =
    subst (λ l. LabelEnds label (l ++ rest)) (sym is) (open_first label ((s ++ r) ++ rest) (ap first_of (append_assoc s r rest) ∙ formals_open formals s (r ++ rest) one.1))

abbrev pub make_front : Option (List ℕ) → Option (List (List ℕ)) × Option ℕ → Front
make_front label x = record { label = label; formals = x.0; level = x.1 }

module _ (line : List ℕ) where
  pub then_parts : (labelled : Bool) (at : ℕ) → Parts line at (IsFormalsPart labelled) (FormalsPartEnds labelled) (λ f. IsOpening) (λ f. OpeningEnds) (FormalsThen labelled) ThenEnds (λ f o. (f, o))
  then_parts labelled at = record {
    into = λ f o s t one two. (s, t, refl, one, two);
    ends = λ f o k t rest is before after. after;
    apart = λ c u rest h (s, t, is, one, two) e. (c.0, c.1, s, t, is, refl, one, two, ended c.0 t rest (opening_opens (suc at + length s) c.1 t rest two e), e);
  }
    where
      ended : (f : Option (List (List ℕ))) (t rest : List ℕ) → Opens (t ++ rest) → FormalsPartEnds labelled f (t ++ rest)
      ended None t rest opens = λ is_labelled. opens_lack (t ++ rest) opens
      ended (Some formals) t rest opens = tt

  pub front_parts : Parts line 0 IsLabelPart LabelPartEnds (λ label. FormalsThen (is_some label)) (λ label. ThenEnds) IsFront FrontEnds make_front
  front_parts = record {
    into = λ label x s t one two. (s, t, refl, one, two);
    ends = λ label x k t rest is before after. after;
    apart = λ c u rest h (s, t, is, one, two) e. (c.label, (c.formals, c.level), s, t, is, refl, one, two, then_ends c.label (suc 0 + length s) (c.formals, c.level) t rest two e, e);
  }

  pub no_label_front : Nowhere IsLabelPart LabelPartEnds line 0 → Nowhere IsFront FrontEnds line 0
  no_label_front f = first_nowhere front_parts (omega arith) f

  module _ (label : Option (List ℕ)) (at : ℕ) (less : at ≤ length line) (found : Found IsLabelPart LabelPartEnds line 0 label at) where
    pub no_formals_front : Nowhere (IsFormalsPart (is_some label)) (FormalsPartEnds (is_some label)) line at → Nowhere IsFront FrontEnds line 0
    no_formals_front f = second_nowhere front_parts (omega arith) label at found (first_nowhere (then_parts (is_some label) at) less f)

    module _ (formals : Option (List (List ℕ))) (next : ℕ) (list : Found (IsFormalsPart (is_some label)) (FormalsPartEnds (is_some label)) line at formals next) where
      pub no_opening_front : Nowhere IsOpening OpeningEnds line next → Nowhere IsFront FrontEnds line 0
      no_opening_front f = second_nowhere front_parts (omega arith) label at found (second_nowhere (then_parts (is_some label) at) less formals next list f)

      pub front_found : (level : Option ℕ) (end : ℕ) → Found IsOpening OpeningEnds line next level end → Found IsFront FrontEnds line 0 (make_front label (formals, level)) end
      front_found level end f = both_found front_parts (omega arith) label (formals, level) at end found (both_found (then_parts (is_some label) at) less formals level next end list f)
