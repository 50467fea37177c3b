use Rattle.std.proofs.Common.{◌∙◌, ℕ, List, Bor, ap, subst}
use Rattle.std.specs.Prelude.{is_some}
use Rattle.mlk_cli.specs.CommandLine.{bytes_of}
use Rattle.mlk_app.specs.Ran.{AnswersFound}
use Rattle.mlk_app.proofs.Finding.{found-line, listed-if-given}
use Rattle.mlk_app.proofs.program.answer_line.Goals as goal

pub returns-in-Ok-all_paths : goal.returns-in-Ok-all_paths
returns-in-Ok-all_paths g c =
    let holds = g.F.Files.holds c.args.files.now in
    let below = g.F.Files.below c.args.files.now in
    let unreadable = g.F.Files.unreadable c.args.files.now in
    let line = c.args.line in
    let answer = c.answer_paths.result in
    let all = c.in-Ok-all_paths.ensures in
    let given = listed-if-given holds line.list c.in-Ok.text (is_some c.in-Ok-list_of.list) all.0 c.in-Ok.ensures.ok c.in-Ok-list_of.ensures all.1 in
    let paths = ap (λ (l : List (Bor (List ℕ))). bytes_of l) c.as_slice.ensures.value ∙ all.2 in
    found-line holds below unreadable line all.0 answer given (subst (λ (l : List (List ℕ)). AnswersFound holds below unreadable line.request l answer) paths c.answer_paths.ensures)
