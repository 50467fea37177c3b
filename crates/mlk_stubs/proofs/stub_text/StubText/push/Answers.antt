use Rattle.std.proofs.Common.{◌≡◌, ◌++◌, arith}
use Rattle.std.proofs.lemmas.Grind.{common_steps}
use Rattle.mlk_syntax.specs.Views.{routine_of}
use Rattle.mlk_stubs.proofs.StubLemmas.{one_stub_more}
use Rattle.mlk_stubs.proofs.stub_text.StubText.push.Goals as goal

pub returns : goal.returns
returns c =
    let added : c.extend_from_slice.new.self.items ≡ c.args.self.now ++ c.args.stub.now = grind (arith, common_steps) in
    λ stubs. one_stub_more c.args.self.now c.extend_from_slice.new.self.items (c.args.routine.now, c.args.stub.now) stubs (routine_of c.in_ok-_routine._routine, c.in_ok-_routine.ensures.found) added
