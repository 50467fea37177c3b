-- A certificate lists no case twice at one point: the cases of a point are in the order of their texts, and no text comes
-- before itself.
use Rattle.std.proofs.Common.{◌≡◌, zero, suc, true, false, List, [], ◌∷◌, map, refl, ap, subst, arith, ⊎_elim}
use Rattle.std.specs.Prelude.{not, Contains}
use Rattle.std.proofs.lemmas.Bool.{and_parts, and_from, not-true}
use Rattle.mlk_names.specs.Lists.{Among}
use Rattle.mlk_cert_lexemes.specs.Lists.{Each, ascends, upto}
use Rattle.mlk_cert_lexemes.proofs.TextOrder.{upto-self, not-through}
use Rattle.mlk_cert_parts.specs.declared.case.Case.{Case}
use Rattle.mlk_cert_parts.specs.declared.block.EntryCert.{EntryCert}
use Rattle.mlk_cert_parts.specs.Limits.{cases_below, IsPoint, IsBlock, IsCertificate}
use Rattle.mlk_cert_parts.specs.Texts.{case_text}
use Rattle.mlk_walk_state.specs.declared.state.State.{State}
use Rattle.mlk_walk_state.specs.States.{at_rest}
use Rattle.mlk_walk_laws.specs.Fewer.{StatesDiffer}
use Rattle.mlk_soundness_walk.specs.Forms.{ListOnce}

-- a property of each item of a list
each_one : {A : Type 0} (Is : A → Type 0) (xs : List A) (a : A) → Each Is xs → Contains xs a → Is a
each_one Is [] a h i = absurd (omega (arith, i.1))
each_one Is (x ∷ xs) a h (zero, low, same) = subst Is same h.0
each_one Is (x ∷ xs) a h (suc k, low, same) = each_one Is xs a h.1 (k, omega (arith, low), same)

itself : (c d : Case) → at_rest c ≡ at_rest d → cases_below c d ≡ true → ⊥
itself c d e h =
    let same : c ≡ d = ap (λ (s : State). s.case) e in
    let up : upto (case_text d) (case_text c) ≡ false = not-true (upto (case_text d) (case_text c)) h in
    let self : upto (case_text d) (case_text d) ≡ false = subst (λ x. upto (case_text d) (case_text x) ≡ false) same up in
    cc (self, upto-self (case_text d))

later : (c d e : Case) → cases_below c d ≡ true → cases_below d e ≡ true → cases_below c e ≡ true
later c d e h g =
    let up : upto (case_text e) (case_text c) ≡ false = not-through (case_text c) (case_text d) (case_text e) (not-true (upto (case_text d) (case_text c)) h) (not-true (upto (case_text e) (case_text d)) g) in
    ap not up

-- cases in order stay in order without the second of them, and the first is none of the others
without : (c d : Case) (ds : List Case) → cases_below c d ≡ true → ascends cases_below (d ∷ ds) ≡ true → ascends cases_below (c ∷ ds) ≡ true
without c d [] h up = refl
without c d (e ∷ ds) h up =
    let t = and_parts (cases_below d e) (ascends cases_below (e ∷ ds)) up in
    and_from (cases_below c e) (ascends cases_below (e ∷ ds)) (later c d e h t.0) t.1

alone : (c : Case) (ds : List Case) → ascends cases_below (c ∷ ds) ≡ true → Among (at_rest c) (map at_rest ds) → ⊥
alone c [] up i = i
alone c (d ∷ ds) up i =
    let t = and_parts (cases_below c d) (ascends cases_below (d ∷ ds)) up in
    ⊎_elim (λ (e : at_rest c ≡ at_rest d). itself c d e t.0) (λ (k : Among (at_rest c) (map at_rest ds)). alone c ds (without c d ds t.0 t.1) k) i

rest : (c : Case) (ds : List Case) → ascends cases_below (c ∷ ds) ≡ true → ascends cases_below ds ≡ true
rest c [] up = refl
rest c (d ∷ ds) up = (and_parts (cases_below c d) (ascends cases_below (d ∷ ds)) up).1

once : (cases : List Case) → ascends cases_below cases ≡ true → StatesDiffer (map at_rest cases)
once [] up = tt
once (c ∷ cases) up = (alone c cases up, once cases (rest c cases up))

pub list_once : (blocks : List EntryCert) → IsCertificate blocks → ListOnce blocks
list_once blocks is b i p k = once p.cases (each_one IsPoint b.points p (each_one IsBlock blocks b is.each i).each_point k).order
