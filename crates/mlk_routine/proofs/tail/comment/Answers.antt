use Rattle.std.proofs.Common.{◌≡◌, ◌<◌, ◌≤◌, length, drop, sym, ◌∙◌, subst, true}
use Rattle.std.specs.List.{prefix_len}
use Rattle.mlk_text.specs.Lexemes.{is_text_byte, is_text}
use Rattle.mlk_routine.proofs.Tails.{comment_text, text_comment, all_good, one_bad}
use Rattle.mlk_routine.proofs.tail.comment.Goals as goal

pub returns-then-good-bytes-clause-refused : goal.returns-then-good-bytes-clause-refused
returns-then-good-bytes-clause-refused c is =
    let bytes = c.split_at.result.1.now in
    let less : prefix_len is_text_byte bytes < length bytes = subst (λ n. n < length bytes) c.text_bytes-good.ensures.value c.if-good-bytes.true in
    let bad = one_bad is_text_byte bytes less in
    let good = comment_text (drop c.args.at c.args.line.now) is in
    cc (sym bad ∙ subst (λ l. is_text l ≡ true) (sym c.split_at.ensures.back) good)

pub returns-clause-ok : goal.returns-clause-ok
returns-clause-ok c =
    let bytes = c.split_at.result.1.now in
    let less : length bytes ≤ prefix_len is_text_byte bytes = subst (λ n. length bytes ≤ n) c.text_bytes-good.ensures.value c.if-good-bytes.false in
    text_comment (drop c.args.at c.args.line.now) c.requires.end (subst (λ l. is_text l ≡ true) c.split_at.ensures.back (all_good is_text_byte bytes less))
