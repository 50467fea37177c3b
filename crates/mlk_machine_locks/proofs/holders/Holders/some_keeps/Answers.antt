use Rattle.std.proofs.Common.{◌∙◌, sym, arith}
use Rattle.std.proofs.lemmas.Option.{slice_get_within}
use Rattle.mlk_machine_locks.proofs.HolderLemmas.{all_asked}
use Rattle.mlk_machine_locks.proofs.holders.Holders.some_keeps.Goals as goal

pub loop-place-smaller : goal.loop-place-smaller
loop-place-smaller g c = omega (
  arith,
  slice_get_within c.loop-place.self.places.keys c.loop-place.index c.in-Some.place
      (sym c.job_at.ensures.place ∙ c.in-Some.is),
)

pub returns-clause-free : goal.returns-clause-free
returns-clause-free g c = λ same. all_asked g.J.Seen.seen c.args.jobs.now c.args.key c.args.number c.args.name.now
    c.args.self.now.places.keys c.loop-place.self.places.keys c.loop-place.index c.loop-place.invariant
    (sym c.job_at.ensures.place ∙ c.in_default.is)
