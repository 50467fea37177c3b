use Rattle.std.proofs.Common.{◌+◌, ◌∷◌, [], map, sym, ap, ◌∙◌, subst}
use Rattle.std.proofs.lemmas.List.{map-append}
use Rattle.mlk_routine.specs.Lines.{head_of, texts_of}
use Rattle.mlk_routine.proofs.FlatLines.{FlatSoFar, flat_refused, flat_more, flat_end, text_here, texts_end, line_told}
use Rattle.mlk_routine.proofs.lines.lines.Goals as goal

pub returns-in-Err-clause-refused : goal.returns-in-Err-clause-refused
returns-in-Err-clause-refused c =
    let texts = c.args.texts.now in
    flat_refused c.args.dialect (texts_of texts) c.loop-i.i (map head_of c.loop-i.lines.items) c.loop-i.before c.loop-i.invariant _ (text_here texts c.loop-i.i _ c.loop-i-test.true) c.in-Err.failure (rw c.new-number.ensures at c.in-Err.ensures.refused) c.in_line.result c.in_line.ensures.same

pub loop-i-preserved : goal.loop-i-preserved
loop-i-preserved c =
    let texts = c.args.texts.now in
    let items = ap (map head_of) c.in_ok-push_back-in-Ok.ensures.items ∙ map-append head_of c.loop-i.lines.items (c.in-Ok.read ∷ []) in
    subst (λ l. FlatSoFar c.args.dialect (texts_of texts) (c.loop-i.i + 1) l c.line.new.before) (sym items)
    (flat_more c.args.dialect (texts_of texts) c.loop-i.i (map head_of c.loop-i.lines.items) c.loop-i.before c.loop-i.invariant _ (text_here texts c.loop-i.i _ c.loop-i-test.true) (head_of c.in-Ok.read) c.line.new.before (rw c.new-number.ensures at c.in-Ok.ensures.line) c.in-Ok.ensures.plain c.in-Ok.ensures.fits c.in-Ok.ensures.after)

pub returns-clause-found : goal.returns-clause-found
returns-clause-found c =
    let texts = c.args.texts.now in
    flat_end c.args.dialect (texts_of texts) c.loop-i.i (map head_of c.loop-i.lines.items) c.loop-i.before c.loop-i.invariant (texts_end texts c.loop-i.i c.loop-i-test.false)

pub returns-in-Err-clause-place : goal.returns-in-Err-clause-place
returns-in-Err-clause-place c =
    let texts = c.args.texts.now in
    line_told c.args.routine.now (texts_of texts) c.loop-i.i _ (text_here texts c.loop-i.i _ c.loop-i-test.true) c.in_line.result (rw c.new-number.ensures at c.in_line.ensures.place)
