use Rattle.mlk_routine_arguments.proofs.Bytes.{byte_before}
use Rattle.std.proofs.Common.{◌≡◌, ◌+◌, drop, Some, None, inl, inr, refl, sym, subst, ◌∙◌}
use Rattle.std.specs.Prelude.{◌⊎◌}
use Rattle.mlk_text.specs.Lexemes.{word_at}
use Rattle.mlk_routine_arguments.specs.PartsRead.{byte_at}
use Rattle.mlk_routine_arguments.specs.Ends.{IsPartOpening, AnyEnds, part_of}
use Rattle.mlk_routine_arguments.proofs.Outcomes.{denies}
use Rattle.mlk_routine_arguments.proofs.Targets.{no_opening, opening_found}
use Rattle.mlk_routine_arguments.proofs.set.opening.Goals as goal
use Rattle.mlk_routine_arguments.proofs.set.opening.Goals.{in_default-via-in-Some+else-has_byte, in_default-via-in_default}

pub returns-in-Some : goal.returns-in-Some
returns-in-Some c =
    let word = c.word_at.result.0.now in
    let after = c.word_at.result.1.now in
    let read : (word, after) ≡ word_at (drop (c.args.at + 1) c.args.line.now) = subst (λ l. (word, after) ≡ word_at l) c.split_at.ensures.back c.word_at.ensures in
    opening_found c.args.line.now c.args.at c.requires word after read c.in-Some.part (sym c.part_of.ensures ∙ c.in-Some.is) (c.if-has_byte.ensures.yes refl)

pub returns-in_default : goal.returns-in_default
returns-in_default c =
    let word = c.word_at.result.0.now in
    let after = c.word_at.result.1.now in
    let read : (word, after) ≡ word_at (drop (c.args.at + 1) c.args.line.now) = subst (λ l. (word, after) ≡ word_at l) c.split_at.ensures.back c.word_at.ensures in
    let why : (part_of word ≡ None) ⊎ (byte_at after 0 ≡ Some 40 → ⊥) = elim c.in_default.branch [
      | in_default-via-in-Some+else-has_byte w ↦ inr (w.if-has_byte.ensures.no refl)
      | in_default-via-in_default w ↦ inl (sym c.part_of.ensures ∙ w.in_default.is)
    ] in
    denies IsPartOpening AnyEnds c.args.line.now c.args.at c.no_part.result (c.no_part.ensures.fault c.args.line.now (byte_before c.args.line.now c.args.at 36 c.requires)) (no_opening c.args.line.now c.args.at c.requires word after read why)
