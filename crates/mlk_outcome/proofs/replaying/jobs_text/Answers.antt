use Rattle.std.proofs.Common.{refl, inr, map, subst}
use Rattle.mlk_syntax.specs.Views.{routine_of}
use Rattle.mlk_outcome.specs.Replaying.{AreDeclared, IsShown, IsStopped, has_notes}
use Rattle.std.proofs.lemmas.Result.{IfOk-weaker, IfErr-weaker}
use Rattle.mlk_outcome.proofs.replaying.jobs_text.Goals as goal

pub returns-clause-ok : goal.returns-clause-ok
returns-clause-ok c =
    let listed = c.in_ok-listed.listed.items in
    let declared = subst (λ texts. AreDeclared (map routine_of c.args.program.now) texts listed) c.entries.ensures c.in_ok-listed.ensures.ok in
    IfOk-weaker c.text_after.result _ _ (λ text h. record {
      routines = c.args.program.now;
      are = refl;
      entries = listed;
      declared = declared;
      shown = subst (λ l. IsShown (has_notes c.args.showing) c.args.program.now l c.args.events.now text.items) c.as_slice.ensures.value h;
    }) c.text_after.ensures.ok

pub returns-clause-refused : goal.returns-clause-refused
returns-clause-refused c =
    let listed = c.in_ok-listed.listed.items in
    let declared = subst (λ texts. AreDeclared (map routine_of c.args.program.now) texts listed) c.entries.ensures c.in_ok-listed.ensures.ok in
    IfErr-weaker c.text_after.result _ _ (λ r h. inr (record {
      routines = c.args.program.now;
      are = refl;
      entries = listed;
      declared = declared;
      stopped = subst (λ l. IsStopped c.args.program.now l c.args.events.now r) c.as_slice.ensures.value h;
    })) c.text_after.ensures.refused
