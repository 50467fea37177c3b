use Rattle.std.proofs.Common.{sym, subst}
use Rattle.std.specs.Prelude.{List}
use Rattle.mlk_cert.specs.Memories.{Recalls}
use Rattle.mlk_cert.proofs.MemoryLemmas.{recalled}
use Rattle.mlk_cert.proofs.read.memory.Memory.recall.Goals as goal

pub returns : goal.returns
returns g c =
    let known = rw c.in-Some.is at c.self.invariant in
    let P : List g.row.T.Denot → Type 0 = λ z. Recalls g.T.Item.reads g.T.Limited.fits c.args.bytes.now z c.in-Some-word_of.rest.now in
    subst P (sym c.in_ok-clone.ensures.cases)
    (recalled g.T.Item.reads g.T.Limited.fits c.in-Some.known.list c.in-Some.known.text.now c.in-Some.known.text.now c.args.bytes.now c.in-Some-word_of.rest.now c.in-Some-byte_of.field-0.now 32 known (sym c.in-Some-word_of.ensures) (sym c.in-Some-byte_of.ensures))
