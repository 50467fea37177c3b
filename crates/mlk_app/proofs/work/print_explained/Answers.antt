use Rattle.std.proofs.Common.{ℕ, Option, map, subst, sym}
use Rattle.mlk_syntax.specs.Views.{routine_of}
use Rattle.mlk_app.specs.Ran.{AreCompared, IsPrintedBeside, style_in}
use Rattle.mlk_app.proofs.work.print_explained.Goals as goal

pub returns : goal.returns
returns g c = record {
  comparison = c.as_ref-2.result;
  compared = subst (AreCompared c.args.subject.now.known c.args.report.now) (sym c.as_ref-2.ensures.value) c.in_ok-beside.ensures;
  printed = subst (λ (rests : Option ℕ). IsPrintedBeside (style_in c.args.subject.now.request.now.asked) rests c.as_ref-2.result (map routine_of c.args.subject.now.program.now) c.args.report.now c.in_ok-printed.printed.text c.in_ok-printed.printed.status)
      c.rests.ensures c.in_ok-printed.ensures;
}
