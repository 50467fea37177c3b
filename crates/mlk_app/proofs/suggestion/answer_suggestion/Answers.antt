use Rattle.std.proofs.Common.{ap}
use Rattle.mlk_files.specs.Files.{given_path}
use Rattle.mlk_app.proofs.Suggesting.{suggestion-answers}
use Rattle.mlk_app.proofs.suggestion.answer_suggestion.Goals as goal

pub suggest_beside-requires : goal.suggest_beside-requires
suggest_beside-requires g c = ap given_path c.in-Some.is

pub returns-in-None : goal.returns-in-None
returns-in-None g c =
    let holds = g.F.Files.holds c.args.files.now in
    let unreadable = g.F.Files.unreadable c.args.files.now in
    suggestion-answers holds unreadable c.args.suggestion.now c.suggest_for.result (ap given_path c.in-None.is) c.suggest_for.ensures
