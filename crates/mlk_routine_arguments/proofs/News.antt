-- The arguments of NEW that may be traps.
use Rattle.std.proofs.Common.{◌≡◌, ◌≤◌, ◌+◌, ℕ, suc, true, false, List, [], ◌∷◌, ◌++◌, length, drop, take, Some, None, inl, inr, refl, sym, ap, ◌∙◌, subst, arith, codes}
use Rattle.std.specs.Prelude.{Option, Bool, not, ◌||◌, ◌==◌}
use Rattle.std.specs.Char.{to_ascii_lowercase}
use Rattle.std.specs.List.{list_all, prefix_len}
use Rattle.std.specs.Str.{str_to_ascii_lowercase, str_eq_ignore_ascii_case}
use Rattle.std.proofs.lemmas.Bool.{cases_Bool, or_cases}
use Rattle.std.proofs.lemmas.Bool.Decides.{nat_tests}
use Rattle.std.proofs.lemmas.List.{append_cancel_right}
use Rattle.mlk_text.specs.Spellings.{IsName}
use Rattle.mlk_text.proofs.Runs.{stops, run-is, parted}
use Rattle.mlk_expr_tokens.specs.Words.{is_either}
use Rattle.mlk_syntax.specs.Trees.{NewTree, NewOne, NewAllBut}
use Rattle.mlk_expr.specs.Theorem.{Stands}
use Rattle.mlk_routine_arguments.specs.PartsRead.{Found}
use Rattle.mlk_routine_arguments.specs.Ends.{is_stop, starts, NewEnds, NewedEnds}
use Rattle.mlk_routine_arguments.specs.Begins.{is_trap_byte, new_trap_starts}
use Rattle.mlk_routine_arguments.specs.Traps.{is_new_trap}
use Rattle.mlk_routine_arguments.specs.TrapParts.{is_argument_byte}
use Rattle.mlk_routine_arguments.specs.CommandGrammar.{IsNew, IsNewed}
use Rattle.mlk_routine_arguments.proofs.Sequences.{Turned, stands_at}
use Rattle.mlk_routine_arguments.proofs.Sole.{Alone, sole_found, sole_turned}
use Rattle.mlk_routine_arguments.proofs.SoleArguments.{new_alone}
use Rattle.mlk_routine_arguments.proofs.Stretches.{one_run}
use Rattle.mlk_routine_arguments.proofs.Words.{same_case}

-- a trap has no byte that may follow an argument
argument_lower : (b : ℕ) → is_argument_byte (to_ascii_lowercase b) ≡ is_argument_byte b
argument_lower b = grind (arith, nat_tests)

lower_argument : (s : List ℕ) → list_all is_argument_byte (str_to_ascii_lowercase s) ≡ list_all is_argument_byte s
lower_argument [] = refl
lower_argument (b ∷ s) = rw (argument_lower b, lower_argument s) refl

either_argument : (x y s : List ℕ) → is_either x y s ≡ true → list_all is_argument_byte x ≡ true → list_all is_argument_byte y ≡ true → list_all is_argument_byte s ≡ true
either_argument x y s h one two = elim (or_cases (str_eq_ignore_ascii_case s x) (str_eq_ignore_ascii_case s y) h) [
  | inl e ↦ sym (lower_argument s) ∙ ap (list_all is_argument_byte) (same_case s x e) ∙ lower_argument x ∙ one
  | inr e ↦ sym (lower_argument s) ∙ ap (list_all is_argument_byte) (same_case s y e) ∙ lower_argument y ∙ two
]

new_trap_bytes : (s : List ℕ) → is_new_trap s ≡ true → list_all is_argument_byte s ≡ true
unfolding is_new_trap
new_trap_bytes s h = elim (or_cases (is_either (codes "$ET") (codes "$ETRAP") s || is_either (codes "$ZT") (codes "$ZTRAP") s) (is_either (codes "1E0") (codes "1E00000") s) h) [
  | inl f ↦ elim (or_cases (is_either (codes "$ET") (codes "$ETRAP") s) (is_either (codes "$ZT") (codes "$ZTRAP") s) f) [
    | inl e ↦ either_argument (codes "$ET") (codes "$ETRAP") s e refl refl
    | inr e ↦ either_argument (codes "$ZT") (codes "$ZTRAP") s e refl refl
  ]
  | inr e ↦ either_argument (codes "1E0") (codes "1E00000") s e refl refl
]

-- which bytes may follow an argument
stop_starts : (rest : List ℕ) → is_stop rest ≡ true → starts is_argument_byte rest ≡ false
stop_starts [] h = refl
stop_starts (b ∷ rest) h = ap not h

not_not : (b : Bool) → not (not b) ≡ true → b ≡ true
not_not true h = refl
not_not false h = cc h

starts_stop : (rest : List ℕ) → stops is_argument_byte rest ≡ true → is_stop rest ≡ true
starts_stop [] h = refl
starts_stop (b ∷ rest) h = not_not ((b == 32) || (b == 44) || (b == 41) || (b == 59)) h

-- another argument does not begin like a trap
name_starts : (name : List ℕ) → IsName name → starts is_trap_byte name ≡ false
name_starts [] h = cc h
name_starts (b ∷ name) h = grind (arith, nat_tests)

new_starts : (k : ℕ) (x : NewTree) (s : List ℕ) → IsNew k x s → starts is_trap_byte s ≡ false
new_starts k (NewOne column name) s is = ap (starts is_trap_byte) (is.1).0 ∙ name_starts name (is.1).1
new_starts k (NewAllBut names) s (inner, is, list) = ap (starts is_trap_byte) is

front_starts : (kind : ℕ → Bool) (front rest : List ℕ) → starts kind front ≡ true → starts kind (front ++ rest) ≡ true
front_starts kind [] rest h = cc h
front_starts kind (b ∷ front) rest h = h

front_starts_not : (kind : ℕ → Bool) (front rest : List ℕ) (x : NewTree) (k : ℕ) → IsNew k x front → starts kind front ≡ false → starts kind (front ++ rest) ≡ false
front_starts_not kind [] rest (NewOne column name) k is h = cc (sym (is.1).0)
front_starts_not kind [] rest (NewAllBut names) k (inner, is, list) h = cc is
front_starts_not kind (b ∷ front) rest x k is h = h

module _ (line : List ℕ) (at : ℕ) where
  -- the bytes up to one that may follow an argument
  abbrev pub argument : List ℕ
  argument = take (prefix_len is_argument_byte (drop at line)) (drop at line)

  -- a trap is all of them
  all_of_it : (u rest : List ℕ) → drop at line ≡ u ++ rest → is_new_trap u ≡ true → is_stop rest ≡ true → (argument ≡ u) × (rest ≡ drop (prefix_len is_argument_byte (drop at line)) (drop at line))
  all_of_it u rest h is e =
      let (front, back, joined, all, stop, size) = run-is is_argument_byte (drop at line) in
      let p = parted (prefix_len is_argument_byte (drop at line)) front back (drop at line) joined size in
      let same = one_run is_argument_byte u front rest back (sym h ∙ joined) (new_trap_bytes u is) all (stop_starts rest e) (stop_starts back (starts_stop back stop)) in
      let text : u ≡ front = append_cancel_right u front back (ap (λ l. u ++ l) (sym same) ∙ sym h ∙ joined) in
      (p.0 ∙ sym text, same ∙ sym p.1)

  pub trap_newed : at ≤ length line → is_new_trap argument ≡ true → Found IsNewed NewedEnds line at None (at + prefix_len is_argument_byte (drop at line))
  trap_newed less is =
      let (front, back, joined, all, stop, size) = run-is is_argument_byte (drop at line) in
      let p = parted (prefix_len is_argument_byte (drop at line)) front back (drop at line) joined size in
      let own : is_new_trap front ≡ true = subst (λ l. is_new_trap l ≡ true) p.0 is in
      let s = stands_at IsNewed NewedEnds line at None front back less joined own (starts_stop back stop) in
      let place : at + length front ≡ at + prefix_len is_argument_byte (drop at line) = ap (λ n. at + n) (sym size) in
      (subst (λ n. Stands IsNewed NewedEnds line at None n) place s.0, λ c u rest h is e. only c u rest h is e (s.1 ∙ ap (λ n. drop n line) place) p.1)
    where
      only : (c : Option NewTree) (u rest : List ℕ) → drop at line ≡ u ++ rest → IsNewed (suc at) c u → NewedEnds c rest
          → {back : List ℕ} → back ≡ drop (at + prefix_len is_argument_byte (drop at line)) line → drop (prefix_len is_argument_byte (drop at line)) (drop at line) ≡ back
          → (c ≡ None) × (rest ≡ drop (at + prefix_len is_argument_byte (drop at line)) line)
      only None u rest h is e place after = (refl, (all_of_it u rest h is e).1 ∙ after ∙ place)
      only (Some x) u rest h other e place after =
          let (front, back, joined, all, stop, size) = run-is is_argument_byte (drop at line) in
          let p = parted (prefix_len is_argument_byte (drop at line)) front back (drop at line) joined size in
          let yes : starts is_trap_byte (drop at line) ≡ true = ap (starts is_trap_byte) joined ∙ front_starts is_trap_byte front back (new_trap_starts front (subst (λ l. is_new_trap l ≡ true) p.0 is)) in
          let no : starts is_trap_byte (drop at line) ≡ false = ap (starts is_trap_byte) h ∙ front_starts_not is_trap_byte u rest x (suc at) other (new_starts (suc at) x u other) in
          cc (sym yes ∙ no)

  pub local_newed : is_new_trap argument ≡ false → Turned line at IsNew NewEnds IsNewed NewedEnds Some
  local_newed other = record {
    into = λ x s is. is;
    ends = λ x rest e. e;
    apart = λ c u rest h is e. go c u rest h is e;
  }
    where
      go : (c : Option NewTree) (u rest : List ℕ) → drop at line ≡ u ++ rest → IsNewed (suc at) c u → NewedEnds c rest → (x : NewTree) × (c ≡ Some x) × IsNew (suc at) x u × NewEnds x rest
      go None u rest h is e = cc (sym other ∙ ap is_new_trap (all_of_it u rest h is e).0 ∙ is)
      go (Some x) u rest h is e = (x, refl, is, e)

pub newed_alone : Alone IsNewed NewedEnds
newed_alone line at less = elim (cases_Bool (is_new_trap (argument line at))) [
  | inl trap ↦ sole_found None (at + prefix_len is_argument_byte (drop at line)) (trap_newed line at less trap)
  | inr other ↦ sole_turned (local_newed line at other) (new_alone line at less)
]
