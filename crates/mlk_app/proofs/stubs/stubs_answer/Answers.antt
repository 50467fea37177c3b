use Rattle.std.proofs.Common.{◌∙◌, refl, subst, sym}
use Rattle.mlk_stubs.specs.StubTexts.{AreStubs}
use Rattle.mlk_app.proofs.Stubbing.{fault-printed}
use Rattle.mlk_app.proofs.stubs.stubs_answer.Goals as goal

pub returns-in-Ok-stubs_for : goal.returns-in-Ok-stubs_for
returns-in-Ok-stubs_for c = (subst AreStubs (sym (c.of.ensures ∙ c.into_bytes.ensures)) c.in-Ok-stubs_for.ensures, refl)

pub returns : goal.returns
returns c = fault-printed c.in-Err-Refused.fault c.refused_stub.result c.refused_stub.ensures
