use Rattle.std.proofs.Common.{◌≡◌, ◌∙◌, ◌++◌, take, drop, ap, sym, subst, rules, map}
use Rattle.std.proofs.lemmas.List.{map-append}
use Rattle.mlk_syntax.specs.Views.{routine_of}
use Rattle.mlk_reading.specs.Reading.{RefusesFirst}
use Rattle.mlk_reading.proofs.Firsts.{many-more, later-refused}
use Rattle.mlk_reading.proofs.Chunks.{cut, longer, still_within}
use Rattle.mlk_reading.proofs.reading.read_routines.Goals as goal

pub returns-in-Err-clause-refused : goal.returns-in-Err-clause-refused
returns-in-Err-clause-refused g c =
    let sources = c.args.sources.now in
    let done = c.loop-done.done in
    let next = c.next_texts-next.result.now in
    let after = c.next_texts-next.ensures.cut.0 in
    let left : next ++ after ≡ drop done sources = c.next_texts-next.ensures.cut.1 in
    subst (λ l. RefusesFirst l c.in-Err.failure) (sym (cut sources next after done c.loop-done.invariant.0 left))
    (later-refused (take done sources) next after (map routine_of c.loop-done.routines.items) c.in-Err.failure c.loop-done.invariant.1 c.in-Err.ensures.refused)

pub loop-done-preserved : goal.loop-done-preserved
loop-done-preserved g c =
    let sources = c.args.sources.now in
    let done = c.loop-done.done in
    let next = c.next_texts-next.result.now in
    let after = c.next_texts-next.ensures.cut.0 in
    let left : next ++ after ≡ drop done sources = c.next_texts-next.ensures.cut.1 in
    let routines = c.loop-done.routines.items in
    let read = c.in-Ok.read.items in
    let more : map routine_of c.append.new.self.items ≡ map routine_of routines ++ map routine_of read = ap (map routine_of) (grind rules) ∙ map-append routine_of routines read in (
      still_within sources next after done c.loop-done.invariant.0 left,
      rw (longer sources next after done c.loop-done.invariant.0 left, more)
          (many-more (take done sources) next (map routine_of routines) (map routine_of read) c.loop-done.invariant.1 c.in-Ok.ensures.ok),
    )
