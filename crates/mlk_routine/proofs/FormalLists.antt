-- Formal lists, read name by name.
use Rattle.std.proofs.Common.{◌≡◌, ◌<◌, ◌≤◌, ◌+◌, ◌-◌, ℕ, suc, List, [], ◌∷◌, ◌++◌, length, take, drop, Some, Bool, true, false, not, inl, inr, refl, sym, ap, ◌∙◌, arith, subst, append_assoc, bytes_eq, add-one}
use Rattle.std.specs.Prelude.{◌⊎◌, Contains, ◌||◌}
use Rattle.std.specs.Borrow.{Bor}
use Rattle.std.proofs.Math.Seq.{take-append_seam}
use Rattle.std.proofs.lemmas.Bool.{cases_Bool}
use Rattle.std.proofs.lemmas.Option.{same_Some}
use Rattle.std.proofs.lemmas.List.Elements.{Contains-append_left, Contains-append_right, Contains-append_cases}
use Rattle.mlk_expr.specs.Grammar.{AreNext, IsNameText}
use Rattle.mlk_expr.specs.Theorem.{Stands, LabelEnds}
use Rattle.mlk_syntax.proofs.Distinct.{among, in_one, here, not_in_none, is_among, not_among}
use Rattle.mlk_routine_arguments.specs.PartsRead.{Found, Nowhere, first_of, byte_at}
use Rattle.mlk_routine_arguments.specs.Ends.{AnyEnds}
use Rattle.mlk_routine_arguments.specs.CommandGrammar.{After}
use Rattle.mlk_routine_arguments.specs.Stops.{name_stop}
use Rattle.mlk_routine.specs.RoutineGrammar.{IsFormals}
use Rattle.mlk_syntax.specs.Distinct.{AreDistinct}
use Rattle.mlk_routine.specs.Lines.{has_name, IsUnseen, IsFormalList}
use Rattle.mlk_routine_arguments.proofs.Sequences.{Parts, Turned, next_is, not_after, both_found, first_nowhere, second_nowhere, turned_found, turned_nowhere}
use Rattle.mlk_routine_arguments.proofs.Bytes.{AfterByte, after_found, after_nowhere, byte_there, byte_before, drop_next}

-- the bytes of a name at a place
pub text_of : (line : List ℕ) (at : ℕ) (name : List ℕ) (next : ℕ) → at ≤ length line → Stands IsNameText LabelEnds line at name next → take (next - at) (drop at line) ≡ name
text_of line at name next less s =
    let place = next_is line s.text at next less s.within s.joined in
    let size : next - at ≡ length s.text = omega (arith, place) in
    ap (λ n. take n (drop at line)) size ∙ ap (take (length s.text)) s.joined ∙ take-append_seam s.text (drop next line) ∙ s.spelled.0

pub text_within : (line : List ℕ) (at : ℕ) (name : List ℕ) (next : ℕ) → at ≤ length line → Stands IsNameText LabelEnds line at name next → at ≤ next
text_within line at name next less s = not_after IsNameText LabelEnds line at name next s less

-- a name that is new, and one that is not
module _ (keys : List (Bor (List ℕ))) (line : List ℕ) (at : ℕ) (name : List ℕ) (next : ℕ) (f : Found IsNameText LabelEnds line at name next) where
  pub unseen : has_name name keys ≡ false → Found (IsUnseen keys) LabelEnds line at name next
  unseen new =
      let stands : Stands (IsUnseen keys) LabelEnds line at name next = record { text = f.0.text; within = f.0.within; joined = f.0.joined; spelled = (f.0.spelled, new); ended = f.0.ended } in
      (stands, λ c u rest h is e. f.1 c u rest h is.0 e)

  pub seen_before : has_name name keys ≡ true → Nowhere (IsUnseen keys) LabelEnds line at
  seen_before old c u rest h is e =
      let same = f.1 c u rest h is.0 e in
      cc (sym old ∙ ap (λ n. has_name n keys) (sym same.0) ∙ is.1)

pub same_seen : (b : Bool) → true ≡ not b → b ≡ false
same_seen true h = cc h
same_seen false h = refl

pub same_new : (b : Bool) → false ≡ not b → b ≡ true
same_new true h = refl
same_new false h = cc h

-- names, each different from those seen
abbrev pub AllFresh : List (List ℕ) → List (List ℕ) → Type 0
AllFresh seen [] = Unit {0}
AllFresh seen (n ∷ names) = (among n seen ≡ false) × AllFresh (seen ++ n ∷ []) names

abbrev Apart : List (List ℕ) → List (List ℕ) → Type 0
Apart seen names = (x : List ℕ) → Contains seen x → Contains names x → ⊥

fresh_differ : (seen names : List (List ℕ)) → AllFresh seen names → AreDistinct names × Apart seen names
fresh_differ seen [] h = (tt, λ x a b. not_in_none x b)
fresh_differ seen (n ∷ names) h =
    let more = fresh_differ (seen ++ n ∷ []) names h.1 in
    ((λ c. more.1 n (Contains-append_right seen (n ∷ []) n (here n [])) c, more.0), λ x a b. apart x a (more.1 x) (Contains-append_cases (n ∷ []) names x b))
  where
    apart : (x : List ℕ) → Contains seen x → (Contains (seen ++ n ∷ []) x → Contains names x → ⊥) → Contains (n ∷ []) x ⊎ Contains names x → ⊥
    apart x a ih (inl first) = not_among n seen h.0 (subst (Contains seen) (sym (in_one n x first)) a)
    apart x a ih (inr more) = ih (Contains-append_left seen (n ∷ []) x a) more

differ_fresh : (seen names : List (List ℕ)) → AreDistinct names → Apart seen names → AllFresh seen names
differ_fresh seen [] d apart = tt
differ_fresh seen (n ∷ names) d apart = (new (cases_Bool (among n seen)), differ_fresh (seen ++ n ∷ []) names d.1 (λ x a b. more x b (Contains-append_cases seen (n ∷ []) x a)))
  where
    new : (among n seen ≡ true) ⊎ (among n seen ≡ false) → among n seen ≡ false
    new (inl e) = absurd (apart n (is_among n seen e) (here n names))
    new (inr e) = e

    more : (x : List ℕ) → Contains names x → Contains seen x ⊎ Contains (n ∷ []) x → ⊥
    more x b (inl old) = apart x old (Contains-append_right (n ∷ []) names x b)
    more x b (inr one) = d.0 (subst (Contains names) (sym (in_one n x one)) b)

pub fresh_distinct : (names : List (List ℕ)) → AllFresh [] names → AreDistinct names
fresh_distinct names h = (fresh_differ [] names h).0

pub distinct_fresh : (names : List (List ℕ)) → AreDistinct names → AllFresh [] names
distinct_fresh names d = differ_fresh [] names d (λ x a b. not_in_none x a)

-- A name that is new, and what follows it: more such names, each after a comma, and the closing parenthesis.
abbrev pub IsFresh : List (List ℕ) → ℕ → List ℕ → List ℕ → Type 0
IsFresh seen at n s = IsNameText at n s × (among n seen ≡ false)

abbrev NameThen : (ℕ → List ℕ → Type 0) → List (List ℕ) → List ℕ → ℕ → List ℕ → Type 0
NameThen More seen n at s = (front back : List ℕ) × (s ≡ front ++ back) × IsFresh seen at n front × More (at + length front) back

abbrev pub AreMore : List (List ℕ) → ℕ → List (List ℕ) → List ℕ → Type 0
AreMore seen at [] s = s ≡ 41 ∷ []
AreMore seen at (n ∷ names) s = After 44 (NameThen (λ m t. AreMore (seen ++ n ∷ []) m names t) seen n) at s

abbrev pub AreNames : List (List ℕ) → ℕ → List (List ℕ) → List ℕ → Type 0
AreNames seen at [] s = ⊥
AreNames seen at (n ∷ names) s = NameThen (λ m t. AreMore (seen ++ n ∷ []) m names t) seen n at s

more_parts : (seen names : List (List ℕ)) (k j : ℕ) (t : List ℕ) → AreMore seen k names t → (inner : List ℕ) × (t ≡ inner ++ 41 ∷ []) × AreNext IsNameText j names inner × AllFresh seen names
more_parts seen [] k j t is = ([], is, refl, tt)
more_parts seen (n ∷ names) k j t (rest, is, (front, back, joined, fresh, more)) =
    let r = more_parts (seen ++ n ∷ []) names (suc k + length front) (suc (j + length front)) back more in
    (44 ∷ (front ++ r.0), is ∙ ap (λ l. 44 ∷ l) (joined ∙ ap (λ l. front ++ l) r.1 ∙ sym (append_assoc front r.0 (41 ∷ []))), (front, r.0, refl, fresh.0, r.2), (fresh.1, r.3))

more_whole : (seen names : List (List ℕ)) (k j : ℕ) (inner t : List ℕ) → t ≡ inner ++ 41 ∷ [] → AreNext IsNameText j names inner → AllFresh seen names → AreMore seen k names t
more_whole seen [] k j inner t is next fresh = is ∙ ap (λ l. l ++ 41 ∷ []) next
more_whole seen (n ∷ names) k j inner t is (front, rest, joined, one, next) fresh =
    (front ++ (rest ++ 41 ∷ []), is ∙ ap (λ l. l ++ 41 ∷ []) joined ∙ ap (λ l. 44 ∷ l) (append_assoc front rest (41 ∷ [])), (front, rest ++ 41 ∷ [], refl, (one, fresh.0), more_whole (seen ++ n ∷ []) names (suc k + length front) (suc (j + length front)) rest (rest ++ 41 ∷ []) refl next fresh.1))

-- a list is its parenthesis and new names
list_whole : (n : List ℕ) (names : List (List ℕ)) (k : ℕ) (r : List ℕ) → AreNames [] k (n ∷ names) r → IsFormals (n ∷ names) (40 ∷ r)
list_whole n names k r (front, back, joined, fresh, more) =
    let m = more_parts (n ∷ []) names (k + length front) (0 + length front) back more in
    (front ++ m.0, ap (λ l. 40 ∷ l) (joined ∙ ap (λ l. front ++ l) m.1 ∙ sym (append_assoc front m.0 (41 ∷ []))), (n, names, front, m.0, refl, refl, fresh.0, m.2), fresh_distinct (n ∷ names) (fresh.1, m.3))

list_apart : (n : List ℕ) (names : List (List ℕ)) (k : ℕ) (u : List ℕ) → IsFormals (n ∷ names) u → After 40 (λ m r. AreNames [] m (n ∷ names) r) k u
list_apart n names k u (inner, is, (first, others, front, rest, same, joined, one, next), distinct) =
    let head : n ≡ first = cc same in
    let tail : names ≡ others = cc same in
    let one_here : IsNameText (suc k) n front = subst (λ x. IsNameText (suc k) x front) (sym head) one in
    let next_here : AreNext IsNameText (0 + length front) names rest = subst (λ l. AreNext IsNameText (0 + length front) l rest) (sym tail) next in
    let fresh = distinct_fresh (n ∷ names) distinct in
    (inner ++ 41 ∷ [], is, (front, rest ++ 41 ∷ [], ap (λ l. l ++ 41 ∷ []) joined ∙ append_assoc front rest (41 ∷ []), (one_here, fresh.0), more_whole (n ∷ []) names (suc k + length front) (0 + length front) rest (rest ++ 41 ∷ []) refl next_here fresh.1))

module _ (line : List ℕ) (at : ℕ) where
  names_parts : (seen : List (List ℕ)) → Parts line at (IsFresh seen) LabelEnds (λ n. AreMore (seen ++ n ∷ [])) (λ n. AnyEnds) (AreNames seen) AnyEnds (λ n names. n ∷ names)
  names_parts seen = record {
    into = λ n names s t one more. (s, t, refl, one, more);
    ends = λ n names k t rest is before after. tt;
    apart = λ c u rest h is e. go c u rest is;
  }
    where
      ended : (n : List ℕ) (names : List (List ℕ)) (k : ℕ) (t rest : List ℕ) → AreMore (seen ++ n ∷ []) k names t → LabelEnds n (t ++ rest)
      ended n [] k t rest is = subst (λ l. LabelEnds n (l ++ rest)) (sym is) (name_stop n (41 ∷ rest) refl)
      ended n (m ∷ names) k t rest (r, is, more) = subst (λ l. LabelEnds n (l ++ rest)) (sym is) (name_stop n (44 ∷ (r ++ rest)) refl)

      go : (c : List (List ℕ)) (u rest : List ℕ) → AreNames seen (suc at) c u
          → (n : List ℕ) × (names : List (List ℕ)) × (s t : List ℕ) × (u ≡ s ++ t) × (c ≡ n ∷ names) × IsFresh seen (suc at) n s × AreMore (seen ++ n ∷ []) (suc at + length s) names t × LabelEnds n (t ++ rest) × Unit {0}
      go [] u rest is = absurd is
      go (n ∷ names) u rest (front, back, is, fresh, more) = (n, names, front, back, is, refl, fresh, more, ended n names (suc at + length front) back rest more, tt)

  comma_turned : (seen : List (List ℕ)) → byte_at line at ≡ Some 44 → Turned line at (AfterByte 44 (AreNames seen)) AnyEnds (AreMore seen) AnyEnds (λ names. names)
  comma_turned seen comma = record {
    into = λ names s is. into names s is;
    ends = λ names rest e. tt;
    apart = λ c u rest h is e. go c u rest h is;
  }
    where
      into : (names : List (List ℕ)) (s : List ℕ) → AfterByte 44 (AreNames seen) (suc at) names s → AreMore seen (suc at) names s
      into [] s (r, is, bad) = absurd bad
      into (n ∷ names) s is = is

      go : (c : List (List ℕ)) (u rest : List ℕ) → drop at line ≡ u ++ rest → AreMore seen (suc at) c u → (names : List (List ℕ)) × (c ≡ names) × AfterByte 44 (AreNames seen) (suc at) names u × Unit {0}
      go [] u rest h is = let bad = same_Some 41 44 (sym (ap first_of (h ∙ ap (λ l. l ++ rest) is)) ∙ comma) in absurd (omega (arith, bad))
      go (n ∷ names) u rest h is = (n ∷ names, refl, is, tt)

  closed : (seen : List (List ℕ)) → byte_at line at ≡ Some 41 → Found (AreMore seen) AnyEnds line at [] (at + 1)
  closed seen close =
      let size = byte_before line at 41 close in
      let there = byte_there line at 41 close ∙ ap (λ k. 41 ∷ drop k line) (sym (add-one at)) in
      let stands : Stands (AreMore seen) AnyEnds line at [] (at + 1) = record { text = 41 ∷ []; within = omega (arith, size); joined = there; spelled = refl; ended = tt } in
      (stands, λ c u rest h is e. only c u rest h is)
    where
      only : (c : List (List ℕ)) (u rest : List ℕ) → drop at line ≡ u ++ rest → AreMore seen (suc at) c u → (c ≡ []) × (rest ≡ drop (at + 1) line)
      only [] u rest h is = (refl, sym (drop_next line at 41 rest (h ∙ ap (λ l. l ++ rest) is)) ∙ ap (λ k. drop k line) (sym (add-one at)))
      only (n ∷ names) u rest h (r, is, more) = let bad = same_Some 44 41 (sym (ap first_of (h ∙ ap (λ l. l ++ rest) is)) ∙ close) in absurd (omega (arith, bad))

  neither : (seen : List (List ℕ)) → (byte_at line at ≡ Some 41 → ⊥) → (byte_at line at ≡ Some 44 → ⊥) → Nowhere (AreMore seen) AnyEnds line at
  neither seen no_close no_comma [] u rest h is e = no_close (ap first_of (h ∙ ap (λ l. l ++ rest) is))
  neither seen no_close no_comma (n ∷ names) u rest h (r, is, more) e = no_comma (ap first_of (h ∙ ap (λ l. l ++ rest) is))

-- A formal list whose names before a place were read.
pub record NamesSoFar (line : List ℕ) (at : ℕ) (seen : List (List ℕ)) (next : ℕ) : Type 0 where
  pub within : next ≤ length line
  pub found : (more : List (List ℕ)) (n : ℕ) → Found (AreNames seen) AnyEnds line next more n → Found IsFormalList AnyEnds line at (seen ++ more) n
  pub none : Nowhere (AreNames seen) AnyEnds line next → Nowhere IsFormalList AnyEnds line at

module _ (line : List ℕ) (at : ℕ) (opened : byte_at line at ≡ Some 40) where
  pub no_names : byte_at line (at + 1) ≡ Some 41 → Found IsFormalList AnyEnds line at [] (at + 2)
  no_names close =
      let size = byte_before line (at + 1) 41 close in
      let last : suc (at + 1) ≡ at + 2 = omega arith in
      let second : drop (at + 1) line ≡ 41 ∷ drop (at + 2) line = byte_there line (at + 1) 41 close ∙ ap (λ k. 41 ∷ drop k line) last in
      let there : drop at line ≡ 40 ∷ 41 ∷ drop (at + 2) line = byte_there line at 40 opened ∙ ap (λ k. 40 ∷ drop k line) (sym (add-one at)) ∙ ap (λ l. 40 ∷ l) second in
      let stands : Stands IsFormalList AnyEnds line at [] (at + 2) = record { text = 40 ∷ 41 ∷ []; within = omega (arith, size); joined = there; spelled = refl; ended = tt } in
      (stands, λ c u rest h is e. only second c u rest h is)
    where
      only : drop (at + 1) line ≡ 41 ∷ drop (at + 2) line → (c : List (List ℕ)) (u rest : List ℕ) → drop at line ≡ u ++ rest → IsFormals c u → (c ≡ []) × (rest ≡ drop (at + 2) line)
      only second [] u rest h is =
          let after : drop (suc at) line ≡ 41 ∷ rest = drop_next line at 40 (41 ∷ rest) (h ∙ ap (λ l. l ++ rest) is) in
          let same : 41 ∷ rest ≡ 41 ∷ drop (at + 2) line = sym after ∙ ap (λ k. drop k line) (sym (add-one at)) ∙ second in
          (refl, cc same)
      only second (n ∷ names) u rest h is =
          let (r, joined, (front, back, more, fresh, others)) = list_apart n names 0 u is in
          let after : drop (suc at) line ≡ r ++ rest = drop_next line at 40 (r ++ rest) (h ∙ ap (λ l. l ++ rest) joined) in
          let byte : r ++ rest ≡ 41 ∷ drop (at + 2) line = sym after ∙ ap (λ k. drop k line) (sym (add-one at)) ∙ second in
          absurd (no_close_name n front (back ++ rest) (drop (at + 2) line) fresh.0 (sym (append_assoc front back rest) ∙ ap (λ l. l ++ rest) (sym more) ∙ byte))
        where
          no_close_name : (n s ys zs : List ℕ) → IsNameText 0 n s → s ++ ys ≡ 41 ∷ zs → ⊥
          no_close_name n [] ys zs is h = cc (ap (λ l. l) is.0, is.1)
          no_close_name n (b ∷ s) ys zs is h = cc (ap (λ l. l) is.0, is.1)

  opened_turned : (byte_at line (at + 1) ≡ Some 41 → ⊥) → Turned line at (AfterByte 40 (AreNames [])) AnyEnds IsFormalList AnyEnds (λ names. names)
  opened_turned missing = record {
    into = λ names s is. into names s is;
    ends = λ names rest e. tt;
    apart = λ c u rest h is e. go c u rest h is;
  }
    where
      into : (names : List (List ℕ)) (s : List ℕ) → AfterByte 40 (AreNames []) (suc at) names s → IsFormals names s
      into [] s (r, is, bad) = absurd bad
      into (n ∷ names) s (r, is, more) = subst (IsFormals (n ∷ names)) (sym is) (list_whole n names (suc (suc at)) r more)

      go : (c : List (List ℕ)) (u rest : List ℕ) → drop at line ≡ u ++ rest → IsFormals c u → (names : List (List ℕ)) × (c ≡ names) × AfterByte 40 (AreNames []) (suc at) names u × Unit {0}
      go [] u rest h is =
          let after : drop (suc at) line ≡ 41 ∷ rest = drop_next line at 40 (41 ∷ rest) (h ∙ ap (λ l. l ++ rest) is) in
          absurd (missing (ap first_of (ap (λ k. drop k line) (add-one at) ∙ after)))
      go (n ∷ names) u rest h is = (n ∷ names, refl, list_apart n names (suc at) u is, tt)

  pub names_begin : (byte_at line (at + 1) ≡ Some 41 → ⊥) → NamesSoFar line at [] (at + 1)
  names_begin missing =
      let size = byte_before line at 40 opened in
      record {
        within = omega (arith, size);
        found = λ more n f. turned_found (opened_turned missing) more n (after_found (AreNames []) AnyEnds line at 40 opened more n f);
        none = λ f. turned_nowhere (opened_turned missing) (after_nowhere (AreNames []) AnyEnds line at 40 f);
      }

module _ (line : List ℕ) (at : ℕ) (seen : List (List ℕ)) (next : ℕ) (l : NamesSoFar line at seen next) where
  pub no_name_here : Nowhere (IsFresh seen) LabelEnds line next → Nowhere IsFormalList AnyEnds line at
  no_name_here f = l.none (first_nowhere (names_parts line next seen) l.within f)

  module _ (name : List ℕ) (end : ℕ) (f : Found (IsFresh seen) LabelEnds line next name end) where
    pub names_close : byte_at line end ≡ Some 41 → Found IsFormalList AnyEnds line at (seen ++ name ∷ []) (end + 1)
    names_close close = l.found (name ∷ []) (end + 1) (both_found (names_parts line next seen) l.within name [] end (end + 1) f (closed line end (seen ++ name ∷ []) close))

    pub names_break : (byte_at line end ≡ Some 41 → ⊥) → (byte_at line end ≡ Some 44 → ⊥) → Nowhere IsFormalList AnyEnds line at
    names_break no_close no_comma = l.none (second_nowhere (names_parts line next seen) l.within name end f (neither line end (seen ++ name ∷ []) no_close no_comma))

    pub names_go_on : byte_at line end ≡ Some 44 → NamesSoFar line at (seen ++ name ∷ []) (end + 1)
    names_go_on comma =
        let size = byte_before line end 44 comma in
        record {
          within = omega (arith, size);
          found = λ more n g.
              let rest = turned_found (comma_turned line end (seen ++ name ∷ []) comma) more n (after_found (AreNames (seen ++ name ∷ [])) AnyEnds line end 44 comma more n g) in
              subst (λ z. Found IsFormalList AnyEnds line at z n) (sym (append_assoc seen (name ∷ []) more)) (l.found (name ∷ more) n (both_found (names_parts line next seen) l.within name more end n f rest));
          none = λ g.
              l.none (second_nowhere (names_parts line next seen) l.within name end f (turned_nowhere (comma_turned line end (seen ++ name ∷ []) comma) (after_nowhere (AreNames (seen ++ name ∷ [])) AnyEnds line end 44 g)));
        }

    pub names_nearer : byte_at line end ≡ Some 44 → length line - (end + 1) < length line - next
    names_nearer comma =
        let size = byte_before line end 44 comma in
        let far = not_after (IsFresh seen) LabelEnds line next name end f.0 l.within in
        omega (arith, size, far)

-- the seen names, by their texts
abbrev pub AreSeen : List (Bor (List ℕ)) → List (List ℕ) → Type 0
AreSeen keys names = (q : List ℕ) → has_name q keys ≡ among q names

module _ (keys : List (Bor (List ℕ))) (names : List (List ℕ)) (same : AreSeen keys names) (line : List ℕ) (at : ℕ) where
  fresh_turned : Turned line at (IsUnseen keys) LabelEnds (IsFresh names) LabelEnds (λ n. n)
  fresh_turned = record {
    into = λ n s is. (is.0, sym (same n) ∙ is.1);
    ends = λ n rest e. e;
    apart = λ c u rest h is e. (c, refl, (is.0, same c ∙ is.1), e);
  }

  pub fresh_found : (n : List ℕ) (end : ℕ) → Found (IsUnseen keys) LabelEnds line at n end → Found (IsFresh names) LabelEnds line at n end
  fresh_found n end f = turned_found fresh_turned n end f

  pub fresh_nowhere : Nowhere (IsUnseen keys) LabelEnds line at → Nowhere (IsFresh names) LabelEnds line at
  fresh_nowhere f = turned_nowhere fresh_turned f

-- one more seen name
or_turn : (a b : Bool) → (a || b) ≡ (b || (a || false))
or_turn true true = refl
or_turn true false = refl
or_turn false true = refl
or_turn false false = refl

among_more : (q : List ℕ) (names : List (List ℕ)) (n : List ℕ) → among q (names ++ n ∷ []) ≡ (among q names || (bytes_eq q n || false))
among_more q [] n = refl
among_more q (m ∷ names) n = rw (among_more q names n) (or_far (bytes_eq q m) (among q names) (bytes_eq q n || false))
  where
    or_far : (a b c : Bool) → (a || (b || c)) ≡ ((a || b) || c)
    or_far true b c = refl
    or_far false b c = refl

pub more_seen : (old new : List (Bor (List ℕ))) (names : List (List ℕ)) (n : List ℕ) → AreSeen old names → ((q : List ℕ) → has_name q new ≡ (bytes_eq q n || has_name q old)) → AreSeen new (names ++ n ∷ [])
more_seen old new names n same has q = has q ∙ ap (λ b. bytes_eq q n || b) (same q) ∙ or_turn (bytes_eq q n) (among q names) ∙ sym (among_more q names n)
