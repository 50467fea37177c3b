use Rattle.std.proofs.Common.{ℕ, List, Bor, rules, subst, ap}
use Rattle.mlk_app.specs.Ran.{TellsUnread}
use Rattle.mlk_app.proofs.Saying.{unread-answers}
use Rattle.mlk_app.proofs.program.answer_conversion.Goals as goal

pub returns : goal.returns
returns g c =
    unread-answers (g.F.Files.holds c.args.files.now) (g.F.Files.unreadable c.args.files.now) c.args.certificate c.args.format c.in-Err-Unread.path c.unread_answer.result (grind rules)
    (subst (λ (text : List ℕ). TellsUnread text c.unread_answer.result) (ap (λ (p : Bor (List ℕ)). p.now) c.in-Err-Unread.path-is) c.unread_answer.ensures)
