use Rattle.std.proofs.Common.{refl, ◌+◌, arith}
use Rattle.mlk_routine_arguments.proofs.Bytes.{byte_before}
use Rattle.mlk_routine_arguments.proofs.Stopping.{space_stops}
use Rattle.mlk_routine_arguments.proofs.spacing.first_argument.Goals as goal

pub returns-then-has_byte : goal.returns-then-has_byte
returns-then-has_byte c =
    let here = c.if-has_byte.ensures.yes refl in
    let size = byte_before c.args.line.now (c.args.at + 1) 32 here in
    (λ h. space_stops c.args.line.now (c.args.at + 1) here, c.refusal_at-then-has_byte.ensures.fault c.args.line.now (omega (arith, size)) refl refl)
