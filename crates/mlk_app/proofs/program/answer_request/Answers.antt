use Rattle.mlk_app.proofs.Saying.{page-answers}
use Rattle.mlk_app.proofs.program.answer_request.Goals as goal

pub returns-in-Explain : goal.returns-in-Explain
returns-in-Explain g c =
    rw c.in-Explain.is (page-answers (g.F.Files.holds c.args.files.now) (g.F.Files.unreadable c.args.files.now) c.in-Explain.code c.answer_page.result c.answer_page.ensures)
