use Rattle.std.proofs.Common.{◌∙◌}
use Rattle.mlk_app.proofs.NeverShut.{not-shut}
use Rattle.mlk_app.proofs.Saying.{program-reported, refusal-answers, report-answers}
use Rattle.mlk_app.proofs.program.answer_sources.Goals as goal

pub refusal_answer-requires-after_bounds : goal.refusal_answer-requires-after_bounds
refusal_answer-requires-after_bounds g c κs within = not-shut c.args.sources.now c.in-Err.refusal c.in-Err.ensures.refused

pub returns-in-Ok-print_sources : goal.returns-in-Ok-print_sources
returns-in-Ok-print_sources g c =
    let holds = g.F.Files.holds c.args.files.now in
    let program = c.args.program.now in
    let printed = c.in-Ok-print_sources.printed in
    let same = c.as_ref.ensures.variant ∙ c.in-Ok.ensures.ok in
    let reported = program-reported holds program c.args.sources.now c.as_ref.result printed.text printed.status c.requires same c.in-Ok-print_sources.ensures.ok in
    report-answers holds (g.F.Files.unreadable c.args.files.now) program printed.text printed.status c.report_answer.result reported c.report_answer.ensures

pub returns : goal.returns
returns g c =
    refusal-answers (g.F.Files.holds c.args.files.now) (g.F.Files.unreadable c.args.files.now) c.args.program.now c.args.sources.now c.in-Err.refusal c.refusal_answer.result c.requires
    c.in-Err.ensures.refused c.refusal_answer.ensures
