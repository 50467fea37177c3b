use Rattle.std.proofs.Common.{rules, subst, ◌++◌}
use Rattle.mlk_files.specs.Files.{AreSources, LosesFirst, given_path, work_path}
use Rattle.mlk_cli.specs.CommandLine.{bytes_of}
use Rattle.mlk_files.proofs.Texts.{loses-front, loses-after, loses-behind, loses-within, loses-past}
use Rattle.mlk_files.proofs.source.read_files.Goals as goal

pub returns-in_err-rules-clause-lost : goal.returns-in_err-rules-clause-lost
returns-in_err-rules-clause-lost g c =
    let request = c.args.request.now in
    let after = bytes_of request.routines.items ++ given_path request.baseline in
    let lost = loses-front (g.F.Files.holds c.args.files.now) (g.F.Files.unreadable c.args.files.now) request.rules.now (work_path request.asked ++ after) c.in_err-rules.field-0.0 c.in_err-rules.ensures.lost in
    grind rules

pub returns-in_err-work-clause-lost : goal.returns-in_err-work-clause-lost
returns-in_err-work-clause-lost g c =
    let holds = g.F.Files.holds c.args.files.now in
    let unreadable = g.F.Files.unreadable c.args.files.now in
    let request = c.args.request.now in
    let after = bytes_of request.routines.items ++ given_path request.baseline in
    let inner = loses-within holds unreadable (work_path request.asked) after c.in_err-work.field-0.0 c.in_err-work.ensures.lost in
    let lost = loses-after holds unreadable request.rules.now c.in_ok-rules.rules.items (work_path request.asked ++ after) c.in_err-work.field-0.0 c.in_ok-rules.ensures.ok inner in
    grind rules

pub returns-in_err-routines-clause-lost : goal.returns-in_err-routines-clause-lost
returns-in_err-routines-clause-lost g c =
    let holds = g.F.Files.holds c.args.files.now in
    let unreadable = g.F.Files.unreadable c.args.files.now in
    let request = c.args.request.now in
    let after = bytes_of request.routines.items ++ given_path request.baseline in
    let e = c.in_err-routines.field-0.0 in
    let paths = subst (λ l. LosesFirst holds unreadable (bytes_of l) e) c.as_slice.ensures.value c.in_err-routines.ensures.lost in
    let within = loses-within holds unreadable (bytes_of request.routines.items) (given_path request.baseline) e paths in
    let inner = loses-past holds unreadable request.asked c.in_ok-work.work after e c.in_ok-work.ensures.ok within in
    let lost = loses-after holds unreadable request.rules.now c.in_ok-rules.rules.items (work_path request.asked ++ after) e c.in_ok-rules.ensures.ok inner in
    grind rules

pub returns-in_err-baseline-clause-lost : goal.returns-in_err-baseline-clause-lost
returns-in_err-baseline-clause-lost g c =
    let holds = g.F.Files.holds c.args.files.now in
    let unreadable = g.F.Files.unreadable c.args.files.now in
    let request = c.args.request.now in
    let after = bytes_of request.routines.items ++ given_path request.baseline in
    let e = c.in_err-baseline.field-0.0 in
    let sources = c.in_ok-routines.routines.items in
    let read = subst (λ l. AreSources holds l sources) c.as_slice.ensures.value c.in_ok-routines.ensures.ok in
    let behind = loses-behind holds unreadable request.routines.items sources (given_path request.baseline) e read c.in_err-baseline.ensures.lost in
    let inner = loses-past holds unreadable request.asked c.in_ok-work.work after e c.in_ok-work.ensures.ok behind in
    let lost = loses-after holds unreadable request.rules.now c.in_ok-rules.rules.items (work_path request.asked ++ after) e c.in_ok-rules.ensures.ok inner in
    grind rules
