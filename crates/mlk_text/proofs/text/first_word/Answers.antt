use Rattle.std.proofs.Common.{◌∙◌, ◌<◌, ℕ, get_or, sym, subst, rules}
use Rattle.std.proofs.lemmas.Nat.{le_bytes_8}
use Rattle.mlk_text.proofs.FirstWords.{small_taken}
use Rattle.mlk_text.proofs.text.first_word.Goals as goal

pub returns-in-Some : goal.returns-in-Some
returns-in-Some c =
    let small = small_taken 8 c.args.bytes.now (λ i. (c.type_inv.bytes i).fits) in
    let front = c.in-Some.ensures.cases.0 in
    le_bytes_8 _ _ (search rules) (subst (λ w. (i : ℕ) → get_or w i 0 < 256) (sym front) small) c.from_le_bytes.ensures ∙ front
