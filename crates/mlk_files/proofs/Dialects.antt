-- Reading texts by their plain ones, in their order.
use Rattle.std.proofs.Common.{◌≡◌, ◌∙◌, ℕ, ◌<◌, ◌≤◌, ◌+◌, ◌++◌, List, [], ◌∷◌, length, drop, slice_index_or, sym, ap, subst, append_assoc, append-nil, arith}
use Rattle.std.specs.Prelude.{min}
use Rattle.std.proofs.lemmas.List.{drop_all, drop_more}
use Rattle.mlk_reading.specs.declared.source.Source.{Source}
use Rattle.mlk_dialect.specs.Plain.{inert}
use Rattle.mlk_files.specs.Dialects.{IsPlain, ArePlain, inert_of}

pub plain-more : (sources : List Source) (i : ℕ) (d source : Source) (done longer : List Source) → i < length sources → longer ≡ done ++ source ∷ [] → IsPlain (slice_index_or sources i d) source
    → ((more : List Source) → ArePlain (drop i sources) more → ArePlain sources (done ++ more)) → (more : List Source) → ArePlain (drop (i + 1) sources) more → ArePlain sources (longer ++ more)
plain-more sources i d source done longer less is here before more h =
    let this : ArePlain (drop i sources) (source ∷ more) = subst (λ l. ArePlain l (source ∷ more)) (sym (drop_more sources i d less)) (here, h) in
    subst (ArePlain sources) (sym (append_assoc done (source ∷ []) more) ∙ ap (λ l. l ++ more) (sym is)) (before (source ∷ more) this)

pub plain-all : (sources : List Source) (i : ℕ) (done : List Source) → length sources ≤ i → ((more : List Source) → ArePlain (drop i sources) more → ArePlain sources (done ++ more)) → ArePlain sources done
plain-all sources i done past before = subst (ArePlain sources) (append-nil done) (before [] (subst (λ l. ArePlain l []) (sym (drop_all i sources past)) (record {})))

add-capped : (a b n m : ℕ) → min (a + b) n ≡ m → min (min a n + b) n ≡ m
add-capped a b n m is = omega (arith, is)

pub inert-more : (sources : List Source) (i : ℕ) (d : Source) (count longer : ℕ) → i < length sources → longer ≡ min (count + inert (slice_index_or sources i d).text.items) 18446744073709551615
    → min (count + inert_of (drop i sources)) 18446744073709551615 ≡ min (inert_of sources) 18446744073709551615 → min (longer + inert_of (drop (i + 1) sources)) 18446744073709551615 ≡ min (inert_of sources) 18446744073709551615
inert-more sources i d count longer less is before =
    let here = inert (slice_index_or sources i d).text.items in
    let left = inert_of (drop (i + 1) sources) in
    let whole = ap inert_of (drop_more sources i d less) in
    ap (λ n. min (n + left) 18446744073709551615) is ∙ add-capped (count + here) left 18446744073709551615 (min (inert_of sources) 18446744073709551615) (omega (arith, before, whole))

pub inert-all : (sources : List Source) (i count : ℕ) → length sources ≤ i → min (count + inert_of (drop i sources)) 18446744073709551615 ≡ min (inert_of sources) 18446744073709551615 → count ≤ 18446744073709551615 → count ≡ min (inert_of sources) 18446744073709551615
inert-all sources i count past before fits =
    let none = ap inert_of (drop_all i sources past) in
    omega (arith, before, none, fits)
