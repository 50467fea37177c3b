use Rattle.std.proofs.Common.{rules, []}
use Rattle.mlk_files.proofs.Texts.{loses-front}
use Rattle.mlk_files.proofs.source.read_work.Goals as goal

pub returns-in_err-read_file-in-Check-clause-lost : goal.returns-in_err-read_file-in-Check-clause-lost
returns-in_err-read_file-in-Check-clause-lost g c =
    let lost = loses-front (g.F.Files.holds c.args.files.now) (g.F.Files.unreadable c.args.files.now) c.in-Check.certificate.now [] c.in_err-read_file-in-Check.field-0.0 c.in_err-read_file-in-Check.ensures.lost in
    grind rules
