use Rattle.std.proofs.Common.{ℕ, List, Bor, rules, subst, ap}
use Rattle.mlk_files.specs.Files.{AreSources}
use Rattle.mlk_app.specs.Ran.{TellsUnread}
use Rattle.mlk_app.proofs.Stubbing.{stubs-answer, unstubbed-answers}
use Rattle.mlk_app.proofs.stubs.answer_stubs.Goals as goal

pub returns-in-Ok : goal.returns-in-Ok
returns-in-Ok g c =
    let holds = g.F.Files.holds c.args.files.now in
    stubs-answer holds (g.F.Files.unreadable c.args.files.now) c.args.stubs.now c.in-Ok.sources.items c.stubs_answer.result
    (subst (λ paths. AreSources holds paths c.in-Ok.sources.items) c.as_slice.ensures.value c.in-Ok.ensures.ok) c.stubs_answer.ensures

pub returns-in-Err-Unread : goal.returns-in-Err-Unread
returns-in-Err-Unread g c =
    unstubbed-answers (g.F.Files.holds c.args.files.now) (g.F.Files.unreadable c.args.files.now) c.args.stubs.now c.in-Err-Unread.path c.unread_answer.result (grind rules)
    (subst (λ (text : List ℕ). TellsUnread text c.unread_answer.result) (ap (λ (p : Bor (List ℕ)). p.now) c.in-Err-Unread.path-is) c.unread_answer.ensures)
