use Rattle.std.proofs.Common.{rules, [], sym, subst}
use Rattle.mlk_files.specs.Files.{LosesFirst, given_path}
use Rattle.mlk_files.proofs.Texts.{loses-front}
use Rattle.mlk_files.proofs.source.read_given.Goals as goal

pub returns-in_err-read_file-in-Some-clause-lost : goal.returns-in_err-read_file-in-Some-clause-lost
returns-in_err-read_file-in-Some-clause-lost g c =
    let holds = g.F.Files.holds c.args.files.now in
    let unreadable = g.F.Files.unreadable c.args.files.now in
    let e = c.in_err-read_file-in-Some.field-0.0 in
    let front = loses-front holds unreadable c.in-Some.path.now [] e c.in_err-read_file-in-Some.ensures.lost in
    let lost = subst (λ path. LosesFirst holds unreadable (given_path path) e) (sym c.in-Some.is) front in
    grind rules
