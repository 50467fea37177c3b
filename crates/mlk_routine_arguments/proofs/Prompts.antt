-- Texts in quotes.
use Rattle.std.proofs.Common.{◌≡◌, ◌≤◌, ◌+◌, ◌-◌, ℕ, suc, List, [], ◌∷◌, ◌++◌, length, drop, Some, None, inl, inr, refl, sym, ap, ◌∙◌, arith, subst, add-one, length-append, length-drop}
use Rattle.std.proofs.lemmas.Bool.{cases_Bool, eqb-true}
use Rattle.std.proofs.lemmas.Option.{same_Some}
use Rattle.std.specs.Prelude.{◌==◌}
use Rattle.mlk_text.specs.Lexemes.{doubled, inside, byte_at}
use Rattle.mlk_text.proofs.Lexemes.{quoted-sound, quoted-complete}
use Rattle.mlk_text.proofs.Readers.{pair_parts}
use Rattle.mlk_expr.specs.Theorem.{Stands}
use Rattle.mlk_expr.proofs.JoinedParts.{quoted-after}
use Rattle.mlk_routine_arguments.specs.PartsRead as parts_read
use Rattle.mlk_routine_arguments.specs.PartsRead.{Found, Nowhere}
use Rattle.mlk_routine_arguments.specs.Ends.{Lacks, IsPrompt, PromptEnds}
use Rattle.mlk_routine_arguments.proofs.Sequences.{stands_at}
use Rattle.mlk_routine_arguments.proofs.Bytes.{byte_there, byte_before}

lacks_quote : (ys : List ℕ) → byte_at 34 ys ≡ None → Lacks 34 ys
lacks_quote [] h bad = cc bad
lacks_quote (b ∷ ys) h bad = cc (subst (λ c. byte_at 34 (c ∷ ys) ≡ None) (same_Some b 34 bad) h)

no_quote : (ys : List ℕ) → Lacks 34 ys → byte_at 34 ys ≡ None
no_quote [] lacks = refl
no_quote (b ∷ ys) lacks = elim (cases_Bool (b == 34)) [
  | inl e ↦ absurd (lacks (ap Some (eqb-true b 34 e)))
  | inr e ↦ rw e refl
]

module _ (line : List ℕ) (at : ℕ) (here : parts_read.byte_at line at ≡ Some 34) where
  there : drop at line ≡ 34 ∷ drop (at + 1) line
  there = byte_there line at 34 here ∙ ap (λ k. 34 ∷ drop k line) (sym (add-one at))

  pub read_inside : (prompt u rest : List ℕ) → drop at line ≡ u ++ rest → IsPrompt (suc at) prompt u → PromptEnds prompt rest → inside (drop (at + 1) line) ≡ Some (prompt, rest)
  read_inside prompt u rest h is e =
      let whole = sym there ∙ h ∙ ap (λ l. l ++ rest) is.0 ∙ quoted-after prompt rest in
      let r = quoted-complete prompt (34 ∷ drop (at + 1) line) rest (whole, is.1, no_quote rest e) in
      subst (λ l. inside l ≡ Some (prompt, rest)) (sym (cc r.1)) r.2

  pub prompt_nowhere : inside (drop (at + 1) line) ≡ None → Nowhere IsPrompt PromptEnds line at
  prompt_nowhere none prompt u rest h is e = cc (sym none ∙ read_inside prompt u rest h is e)

  module _ (value ys : List ℕ) (read : inside (drop (at + 1) line) ≡ Some (value, ys)) where
    joined : drop at line ≡ (34 ∷ (doubled value ++ 34 ∷ [])) ++ ys
    joined = let q = quoted-sound value (drop (at + 1) line) ys read in there ∙ q.0 ∙ sym (quoted-after value ys)

    sizes : length (drop at line) ≡ length (34 ∷ (doubled value ++ 34 ∷ [])) + length ys
    sizes = ap length joined ∙ length-append (34 ∷ (doubled value ++ 34 ∷ [])) ys

    pub no_longer : length ys ≤ length line
    no_longer = let all = length-drop at line in let size = sizes in omega arith

    pub prompt_found : Found IsPrompt PromptEnds line at value (length line - length ys)
    prompt_found =
        let q = quoted-sound value (drop (at + 1) line) ys read in
        let less = byte_before line at 34 here in
        let all = length-drop at line in
        let size = sizes in
        let text = 34 ∷ (doubled value ++ 34 ∷ []) in
        let stands = stands_at IsPrompt PromptEnds line at value text ys (omega arith) joined (refl, q.1) (lacks_quote ys q.2) in
        let end : at + length text ≡ length line - length ys = omega arith in
        let back : ys ≡ drop (length line - length ys) line = stands.1 ∙ ap (λ n. drop n line) end in
        (subst (λ n. Stands IsPrompt PromptEnds line at value n) end stands.0, λ c u rest h is e. let p = pair_parts c value rest ys (sym (read_inside c u rest h is e) ∙ read) in (p.0, p.1 ∙ back))
