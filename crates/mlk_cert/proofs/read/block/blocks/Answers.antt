use Rattle.std.proofs.Common.{◌≡◌, ◌++◌, ◌∷◌, [], codes, Some, sym, ap, ◌∙◌, refl}
use Rattle.std.proofs.lemmas.Result.{err_from_is_err_and}
use Rattle.mlk_text.specs.Failures.{FailsOn}
use Rattle.mlk_text.proofs.Readers.{many_goes}
use Rattle.mlk_cert_parts.specs.Checks.{entries}
use Rattle.mlk_cert_lexemes.specs.Reading.{word_at}
use Rattle.mlk_cert.specs.Blocks.{worded_at, block_at, new_block_at, blocks_at}
use Rattle.mlk_cert.proofs.Loops.{checked_stops}
use Rattle.mlk_cert.proofs.BlockLoops.{blocks_refused, blocks-step, entries-push, block-shorter, new-some}
use Rattle.mlk_cert.specs.Numbered.{listed_points_at}
use Rattle.std.specs.Prelude.{option_map}
use Rattle.mlk_cert.proofs.SecondFormat.{listed-room}
use Rattle.mlk_cert.proofs.NamedCases.{block-numbers}
use Rattle.mlk_cert.proofs.read.block.blocks.Goals as goal

pub returns-in_err-item-clause-read : goal.returns-in_err-item-clause-read
unfolding blocks_at worded_at
returns-in_err-item-clause-read c =
    let p = err_from_is_err_and c.from_residual.result c.from_residual.ensures.1 in
    let front = c.loop-after.found.items in
    let one : FailsOn c.in_err-item.field-0.0 (new_block_at (listed_points_at (option_map (λ x. x.now) c.args.cases)) (entries front) c.in-Some.after.now) = rw (sym c.loop-after.invariant.keys) c.in_err-item.ensures.read in
    rw (p.1, p.2) (blocks_refused (listed_points_at (option_map (λ x. x.now) c.args.cases)) (listed-room _) front c.loop-after.invariant.reading.0 c.loop-after.rest.now _ c.in-Some.after.now c.in_err-item.field-0.0 c.loop-after.invariant.fits (sym c.in-Some.ensures) one c.loop-after.invariant.reading.1 c.loop-after.invariant.reading.2)

pub loop-after-smaller : goal.loop-after-smaller
loop-after-smaller c = block-shorter (listed_points_at (option_map (λ x. x.now) c.args.cases)) (listed-room _) c.loop-after.rest.now c.in-Some.after.now c.in_ok-item.item c.in_ok-item.after.now (sym c.in-Some.ensures) (new-some (listed_points_at (option_map (λ x. x.now) c.args.cases)) _ c.in-Some.after.now c.in_ok-item.item c.in_ok-item.after.now c.in_ok-item.ensures.read).0

pub loop-after-preserved : goal.loop-after-preserved
loop-after-preserved c =
    let front = c.loop-after.found.items in
    let made : new_block_at (listed_points_at (option_map (λ x. x.now) c.args.cases)) (entries front) c.in-Some.after.now ≡ Some (c.in_ok-item.item, c.in_ok-item.after.now) = rw (sym c.loop-after.invariant.keys) c.in_ok-item.ensures.read in
    let s = new-some (listed_points_at (option_map (λ x. x.now) c.args.cases)) (entries front) c.in-Some.after.now c.in_ok-item.item c.in_ok-item.after.now made in
    let shorter = block-shorter (listed_points_at (option_map (λ x. x.now) c.args.cases)) (listed-room _) c.loop-after.rest.now c.in-Some.after.now c.in_ok-item.item c.in_ok-item.after.now (sym c.in-Some.ensures) s.0 in
    rw c.in_ok-push.ensures.items (record {
      reading = many_goes (word_at (codes "entry ")) (λ w. block_at (listed_points_at (option_map (λ x. x.now) c.args.cases))) front c.loop-after.invariant.reading.0 c.loop-after.rest.now _ (codes "entry ") c.in-Some.after.now c.in_ok-item.item c.in_ok-item.after.now
          (sym c.in-Some.ensures) s.0 shorter c.loop-after.invariant.reading.1 c.loop-after.invariant.reading.2;
      fits = blocks-step front c.in_ok-item.item c.loop-after.invariant.fits ∙ s.1;
      numbers = block-numbers (option_map (λ x. x.now) c.args.cases) c.args.named.now.items c.loop-after.named.items c.block.new.named.items front c.in_ok-item.item c.in_ok-item.ensures.numbers c.loop-after.invariant.numbers;
      keys = c.in_ok-item.ensures.keys ∙ ap (λ l. l ++ c.in_ok-item.item.entry ∷ []) c.loop-after.invariant.keys ∙ sym (entries-push front c.in_ok-item.item);
    })

pub returns-clause-read : goal.returns-clause-read
unfolding blocks_at worded_at
returns-clause-read c =
    let whole = checked_stops (word_at (codes "entry ")) (λ w. block_at (listed_points_at (option_map (λ x. x.now) c.args.cases))) c.loop-after.found.items c.loop-after.invariant.reading.0 c.loop-after.rest.now _ (sym c.in_default.ensures) c.loop-after.invariant.reading.1 c.loop-after.invariant.reading.2 in
    rw whole (rw c.loop-after.invariant.fits refl)
