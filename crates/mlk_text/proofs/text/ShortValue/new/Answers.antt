use Rattle.std.proofs.Common.{◌∙◌, length, refl}
use Rattle.std.proofs.lemmas.List.{drop_at}
use Rattle.mlk_text.proofs.FirstWords.{zeros_left}
use Rattle.mlk_text.proofs.text.ShortValue.new.Goals as goal

pub invariant_of-result : goal.invariant_of-result
invariant_of-result c =
    let bytes = c.args.bytes.now in
    let zeros = c.split_at_mut-front.ensures.back ∙ zeros_left (length bytes) 16 in
    (c.requires, rw c.copy_from_slice.ensures.after (drop_at bytes c.split_at_mut-front.result.1.now (length bytes) refl ∙ zeros))
