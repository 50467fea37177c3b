use Rattle.std.proofs.Common.{◌≤◌, length, List, sym, ◌∙◌, arith, subst}
use Rattle.mlk_cert_parts.specs.declared.block.EntryCert.{EntryCert}
use Rattle.mlk_cert_parts.specs.Limits.{longest}
use Rattle.mlk_cert.specs.Refusals.{IsRefusal}
use Rattle.mlk_cert.specs.declared.read.fault.CertFault.{CertFault}
use Rattle.mlk_cert.specs.Theorem.{Spells}
use Rattle.mlk_cert.proofs.Whole.{head-placed, later-placed, rest-short}
use Rattle.mlk_cert.proofs.BothFormats.{body-in-is, text-same, body-refused, head-refused}
use Rattle.mlk_cert.proofs.read.whole.read_cert.Goals as goal

pub returns-in_default-clause-back : goal.returns-in_default-clause-back
returns-in_default-clause-back c = λ bs s. head-refused bs c.args.bytes.now (sym c.in_default.ensures) s

pub returns-in_default-clause-place : goal.returns-in_default-clause-place
returns-in_default-clause-place c =
    let short : length c.args.bytes.now ≤ longest = omega arith in
    let P : CertFault → Type 0 = λ z. IsRefusal c.args.bytes.now z in
    subst P (sym c.at_first-in_default.ensures) (head-placed c.args.bytes.now short (sym c.in_default.ensures))

pub of-requires : goal.of-requires
of-requires c =
    let short : length c.args.bytes.now ≤ longest = omega arith in
    (body-in-is c.in-Some.format c.in-Ok.found.items c.args.bytes.now c.in-Some.rest.now (sym c.in-Some.ensures) c.in-Ok.ensures short).is

pub fault_at-requires : goal.fault_at-requires
fault_at-requires c =
    let short : length c.args.bytes.now ≤ longest = omega arith in
    rest-short c.in-Some.format c.args.bytes.now c.in-Some.rest.now short (sym c.in-Some.ensures)

pub returns-in-Ok-clause-ok : goal.returns-in-Ok-clause-ok
returns-in-Ok-clause-ok c =
    let short : length c.args.bytes.now ≤ longest = omega arith in
    let P : List EntryCert → Type 0 = λ z. Spells z c.args.bytes.now in
    subst P (sym c.of.ensures) (body-in-is c.in-Some.format c.in-Ok.found.items c.args.bytes.now c.in-Some.rest.now (sym c.in-Some.ensures) c.in-Ok.ensures short)

pub returns-in-Ok-clause-back : goal.returns-in-Ok-clause-back
returns-in-Ok-clause-back c = λ bs s. c.of.ensures ∙ text-same c.in-Some.format bs c.in-Ok.found.items c.args.bytes.now c.in-Some.rest.now (sym c.in-Some.ensures) c.in-Ok.ensures s

pub returns-in-Err-Refused-clause-back : goal.returns-in-Err-Refused-clause-back
returns-in-Err-Refused-clause-back c = λ bs s. body-refused c.in-Some.format bs c.args.bytes.now c.in-Some.rest.now (sym c.in-Some.ensures) (rw c.in-Err-Refused.field-0-is at c.in-Err-Refused.ensures) s

pub returns-in-Err-Refused-clause-place : goal.returns-in-Err-Refused-clause-place
returns-in-Err-Refused-clause-place c =
    let short : length c.args.bytes.now ≤ longest = omega arith in
    later-placed c.in-Some.format c.args.bytes.now c.in-Some.rest.now c.fault_at.result short (sym c.in-Some.ensures) c.fault_at.ensures
