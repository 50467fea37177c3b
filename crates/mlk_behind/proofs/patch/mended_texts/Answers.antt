use Rattle.std.proofs.Common.{◌≡◌, ◌∙◌, ◌+◌, ◌<◌, [], ℕ, List, Vec, Global, length, map, get_or, subst, sym, ap}
use Rattle.std.proofs.lemmas.List.{get_or-map}
use Rattle.mlk_behind.specs.Mending.{IsPatched, DiffersOnlyAt}
use Rattle.mlk_behind.proofs.Patches.{texts_more}
use Rattle.mlk_behind.proofs.patch.mended_texts.Goals as goal

pub loop-routine-preserved : goal.loop-routine-preserved
loop-routine-preserved c =
    let items : Vec ℕ Global → List ℕ = λ t. t.items in
    let patches = c.args.patches.now in
    let texts = c.args.texts.now in
    let r = c.loop-routine.routine in
    let v = c.in_ok-mended_text.field-0 in
    let given : get_or (map items texts) r [] ≡ c.as_slice.result.now =
    get_or-map items texts r c.index-texts-routine.result [] c.loop-routine-test.true ∙ ap items (sym c.index-texts-routine.is) ∙ sym c.as_slice.ensures.value in
    let this : DiffersOnlyAt (IsPatched patches r) (get_or (map items texts) r []) v.items =
    subst (λ old. DiffersOnlyAt (IsPatched patches r) old v.items) (sym given) c.in_ok-mended_text.ensures in
    subst (λ news. (length (map items news) ≡ r + 1) × ((q : ℕ) → q < r + 1 → DiffersOnlyAt (IsPatched patches q) (get_or (map items texts) q []) (get_or (map items news) q [])))
    (sym c.in_ok-push.ensures.items)
    (texts_more items items patches texts c.loop-routine.mended.items v r c.loop-routine.invariant.0 c.loop-routine.invariant.1 this)
