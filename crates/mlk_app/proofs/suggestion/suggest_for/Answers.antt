use Rattle.std.proofs.Common.{ℕ, List, Bor, rules, subst, ap}
use Rattle.mlk_files.specs.Files.{AreSources}
use Rattle.mlk_app.specs.Ran.{TellsUnread}
use Rattle.mlk_app.proofs.Suggesting.{none-suggested, rules-suggested}
use Rattle.mlk_app.proofs.suggestion.suggest_for.Goals as goal

pub returns-in-Ok : goal.returns-in-Ok
returns-in-Ok g c =
    rules-suggested (g.F.Files.holds c.args.files.now) (g.F.Files.unreadable c.args.files.now) c.args.suggestion.now.routines.items c.in-Ok.sources.items c.suggestion_answer.result
    (subst (λ paths. AreSources (g.F.Files.holds c.args.files.now) paths c.in-Ok.sources.items) c.as_slice.ensures.value c.in-Ok.ensures.ok) c.suggestion_answer.ensures

pub returns-in-Err-Unread : goal.returns-in-Err-Unread
returns-in-Err-Unread g c =
    none-suggested (g.F.Files.holds c.args.files.now) (g.F.Files.unreadable c.args.files.now) c.args.suggestion.now.routines.items c.in-Err-Unread.path c.unread_answer.result (grind rules)
    (subst (λ (text : List ℕ). TellsUnread text c.unread_answer.result) (ap (λ (p : Bor (List ℕ)). p.now) c.in-Err-Unread.path-is) c.unread_answer.ensures)
