use Rattle.mlk_stubs.specs.StubTexts.{AreStubs}
use Rattle.mlk_stubs.proofs.stubs.checked_texts.Given as goal

abbrev pub invariant-loop-draft : goal.invariant-loop-draft
invariant-loop-draft l = AreStubs l.text
