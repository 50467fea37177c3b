-- Texts that differ at some places only, and texts with patches.
use Rattle.std.proofs.Common.{◌≡◌, ◌∙◌, ◌+◌, ◌-◌, ◌^◌, ◌<◌, ◌≤◌, ◌++◌, ◌∷◌, [], ℕ, List, Bool, min, length, map, get_or, set, refl, sym, ap, subst, arith, below_more, length-append}
use Rattle.std.proofs.Math.ListN.{get_or-append}
use Rattle.std.proofs.Math.Seq.{map-set_same, get_or-append_seam}
use Rattle.std.proofs.lemmas.List.{get_or-set_other, map-append}
use Rattle.mlk_behind.specs.declared.patch.Patch.{Patch}
use Rattle.mlk_behind.specs.Mending.{ends_line, IsPatchAt, IsPatched, DiffersOnlyAt}

pub same_text : {IsPlace : ℕ → Type 0} (text : List ℕ) → DiffersOnlyAt IsPlace text text
same_text text = record { lines_stay = refl; others_stay = λ k h. refl }

-- one byte is replaced by another, and both end a line or neither
pub byte_put : (text : List ℕ) (place byte : ℕ) → ends_line byte ≡ ends_line (get_or text place 0) → DiffersOnlyAt (λ k. k ≡ place) text (set text place byte)
byte_put text place byte same =
    record { lines_stay = map-set_same ends_line text place byte 0 same; others_stay = λ k other. get_or-set_other text place k byte 0 other }

-- a text that is changed at some places, and then at others
pub further : (First Second Both : ℕ → Type 0) {old between new : List ℕ} → DiffersOnlyAt First old between → DiffersOnlyAt Second between new
    → ((k : ℕ) → First k → Both k) → ((k : ℕ) → Second k → Both k) → DiffersOnlyAt Both old new
further First Second Both f s one two = record {
  lines_stay = s.lines_stay ∙ f.lines_stay;
  others_stay = λ k h. s.others_stay k (λ x. h (two k x)) ∙ f.others_stay k (λ x. h (one k x));
}

-- a byte of a patch is put at a place that the patch is for
pub place_in : (p : Patch) (offset place : ℕ) → p.start < 2 ^ 64 → offset < length p.bytes.items → place ≡ min (p.start + offset) (2 ^ 64 - 1) → IsPatchAt place p
place_in p offset place fits within is = (omega (arith, fits, is), omega (arith, within, is))

-- the patch at an index is one of the patches
pub patch_among : (patches : List Patch) (routine i : ℕ) (p : Patch) → i < length patches → p ≡ get_or patches i p → p.routine ≡ routine
    → (k : ℕ) → IsPatchAt k p → IsPatched patches routine k
patch_among patches routine i p within is same k at = (i, p, within, sym is, (same, at))

-- one more text is mended
pub texts_more : {X Y : Type 0} (f : X → List ℕ) (g : Y → List ℕ) (patches : List Patch) (olds : List X) (news : List Y) (v : Y) (r : ℕ)
    → length (map g news) ≡ r
    → ((q : ℕ) → q < r → DiffersOnlyAt (IsPatched patches q) (get_or (map f olds) q []) (get_or (map g news) q []))
    → DiffersOnlyAt (IsPatched patches r) (get_or (map f olds) r []) (g v)
    → (length (map g (news ++ v ∷ [])) ≡ r + 1)
    × ((q : ℕ) → q < r + 1 → DiffersOnlyAt (IsPatched patches q) (get_or (map f olds) q []) (get_or (map g (news ++ v ∷ [])) q []))
texts_more f g patches olds news v r count before this =
    let joined : map g (news ++ v ∷ []) ≡ map g news ++ g v ∷ [] = map-append g news (v ∷ []) in
    let Holds : ℕ → List ℕ → Type 0 = λ q new. DiffersOnlyAt (IsPatched patches q) (get_or (map f olds) q []) new in
    let earlier : (q : ℕ) → q < r → Holds q (get_or (map g news ++ g v ∷ []) q []) =
    λ q lt. subst (Holds q) (sym (get_or-append (map g news) (g v ∷ []) [] q (omega (arith, lt, count)))) (before q lt) in
    let last : Holds r (get_or (map g news ++ g v ∷ []) r []) =
    subst (Holds r) (sym (subst (λ n. get_or (map g news ++ g v ∷ []) n [] ≡ g v) count (get_or-append_seam (map g news) (g v) [] []))) this in
    let all : (q : ℕ) → q < r + 1 → Holds q (get_or (map g news ++ g v ∷ []) q []) = below_more _ _ earlier last in (
      ap length joined ∙ length-append (map g news) (g v ∷ []) ∙ ap (λ n. n + 1) count,
      λ q lt. subst (λ texts. Holds q (get_or texts q [])) (sym joined) (all q lt),
    )
