use Rattle.std.proofs.Common.{◌<◌, ◌++◌, ◌∷◌, [], length, sym, ap, ◌∙◌, ◌&&◌, arith}
use Rattle.std.proofs.lemmas.Result.{err_from_is_err_and}
use Rattle.mlk_text.specs.Lexemes.{byte_at}
use Rattle.mlk_text.proofs.Readers.{many_stops, many_goes}
use Rattle.mlk_cert_lexemes.specs.Lists.{ascends}
use Rattle.mlk_cert_lexemes.specs.Reading.{next}
use Rattle.mlk_cert_lexemes.proofs.Room.{many_refused, byte-shorter, front-is, no-longer, ascends-push}
use Rattle.mlk_cert_lexemes.proofs.list.more_items.Goals as goal

pub returns-in_err-item-clause-read : goal.returns-in_err-item-clause-read
returns-in_err-item-clause-read g c =
    let p = err_from_is_err_and c.from_residual-in_err-item.result c.from_residual-in_err-item.ensures.1 in
    rw (p.1, p.2) (many_refused (byte_at c.args.between) (next g.T.Item.reads) _ c.loop-next.invariant.reading.0 c.loop-next.rest.now _ c.args.between c.in-Some.next.now c.in_err-item.field-0.0
    (sym c.in-Some.ensures) c.in_err-item.ensures.read c.loop-next.invariant.reading.1 c.loop-next.invariant.reading.2)

pub loop-next-preserved : goal.loop-next-preserved
loop-next-preserved g c =
    let near = byte-shorter c.args.between c.args.between c.loop-next.rest.now c.in-Some.next.now (sym c.in-Some.ensures) in
    let far = no-longer (g.T.Written.written c.in_ok-item.item) c.in-Some.next.now c.in_ok-item.after.now c.in_ok-item.ensures.text in
    let shorter : length c.in_ok-item.after.now < length c.loop-next.rest.now = omega arith in
    let text = c.front_of-item_text.ensures ∙ front-is (g.T.Written.written c.in_ok-item.item) c.in-Some.next.now c.in_ok-item.after.now c.in_ok-item.ensures.text in
    rw c.in_ok-push.ensures.items (record {
      reading = many_goes (byte_at c.args.between) (next g.T.Item.reads) (c.loop-next.found.items ++ c.loop-next.last ∷ []) c.loop-next.invariant.reading.0 c.loop-next.rest.now _ c.args.between c.in-Some.next.now c.in_ok-item.item c.in_ok-item.after.now
          (sym c.in-Some.ensures) c.in_ok-item.ensures.read shorter c.loop-next.invariant.reading.1 c.loop-next.invariant.reading.2;
      last = text;
      order = c.are_both-ordered.ensures ∙ ap (λ b. b && c.is_before.result) c.loop-next.invariant.order
          ∙ ap (λ b. ascends g.T.Item.before (c.loop-next.found.items ++ c.loop-next.last ∷ []) && b) c.is_before.ensures
          ∙ sym (ascends-push g.T.Item.before c.loop-next.found.items c.loop-next.last c.in_ok-item.item);
    })

pub returns-clause-read : goal.returns-clause-read
returns-clause-read g c =
    rw c.in_ok-push-2.ensures.items
    (many_stops (byte_at c.args.between) (next g.T.Item.reads) (c.loop-next.found.items ++ c.loop-next.last ∷ []) c.loop-next.invariant.reading.0 c.loop-next.rest.now _ (sym c.in_default.ensures) c.loop-next.invariant.reading.1 c.loop-next.invariant.reading.2)
