use Rattle.std.proofs.Common.{◌∙◌, ◌++◌, ap, take, take-append-drop}
use Rattle.mlk_reading.proofs.reading.next_texts.Goals as goal

pub returns-clause-cut : goal.returns-clause-cut
returns-clause-cut c =
    let back = c.split_at.result.1.now in
    let after = c.split_at-2.result.1.now in
    (after, ap (λ l. l ++ after) c.split_at-2.ensures.front ∙ ap (λ l. take c.min.result back ++ l) c.split_at-2.ensures.back ∙ take-append-drop c.min.result back ∙ c.split_at.ensures.back)
