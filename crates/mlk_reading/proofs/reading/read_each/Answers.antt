use Rattle.std.proofs.Common.{◌≡◌, ◌∙◌, ◌++◌, take, drop, ap, rules}
use Rattle.std.specs.List.{AllZip}
use Rattle.mlk_reading.specs.Answers.{IsAnswer}
use Rattle.mlk_reading.proofs.Chunks.{longer, still_within, more-zipped}
use Rattle.mlk_reading.proofs.reading.read_each.Goals as goal

pub loop-done-preserved : goal.loop-done-preserved
loop-done-preserved g c =
    let sources = c.args.sources.now in
    let done = c.loop-done.done in
    let next = c.next_texts-next.result.now in
    let after = c.next_texts-next.ensures.cut.0 in
    let left : next ++ after ≡ drop done sources = c.next_texts-next.ensures.cut.1 in
    let found = c.loop-done.found.items in
    let read = c.in_ok-read.read.items in
    let more : c.append.new.self.items ≡ found ++ read = grind rules in (
      still_within sources next after done c.loop-done.invariant.0 left,
      rw (longer sources next after done c.loop-done.invariant.0 left, more)
          (more-zipped IsAnswer (take done sources) next found read c.loop-done.invariant.1 c.in_ok-read.ensures),
    )
