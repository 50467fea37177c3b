use Rattle.mlk_app.proofs.Finding.{words-answer}
use Rattle.mlk_app.proofs.program.answer_words.Goals as goal

pub returns-in-Ok : goal.returns-in-Ok
returns-in-Ok g c = words-answer (g.F.Files.holds c.args.files.now) (g.F.Files.below c.args.files.now) (g.F.Files.unreadable c.args.files.now) c.args.words.now c.in-Ok.line c.answer_line.result c.in-Ok.ensures.asks c.answer_line.ensures
