-- Routines that are found at paths.
use Rattle.std.proofs.Common.{◌≡◌, ◌∙◌, ℕ, ◌<◌, ◌≤◌, ◌+◌, ◌++◌, List, [], ◌∷◌, length, drop, slice_index_or, sym, ap, subst, refl, Bor, Option, append_assoc, append-nil}
use Rattle.std.proofs.lemmas.List.{drop_all, drop_more, map-append}
use Rattle.mlk_cli.specs.CommandLine.{bytes_of}
use Rattle.mlk_files.specs.Files.{AreFound, Folders, or_itself}

pub found-more : (below : Folders) (paths : List (Bor (List ℕ))) (i : ℕ) (d : Bor (List ℕ)) (at : Option (List (List ℕ))) (done longer : List (List ℕ)) → i < length paths
    → below (slice_index_or paths i d).now at → longer ≡ done ++ or_itself (slice_index_or paths i d).now at
    → ((more : List (List ℕ)) → AreFound below (bytes_of (drop i paths)) more → AreFound below (bytes_of paths) (done ++ more))
    → (more : List (List ℕ)) → AreFound below (bytes_of (drop (i + 1) paths)) more → AreFound below (bytes_of paths) (longer ++ more)
found-more below paths i d at done longer less here is before more h =
    let path = (slice_index_or paths i d).now in
    let this : AreFound below (bytes_of (drop i paths)) (or_itself path at ++ more) =
    subst (λ l. AreFound below (bytes_of l) (or_itself path at ++ more)) (sym (drop_more paths i d less)) (at, more, here, h, refl) in
    subst (AreFound below (bytes_of paths)) (sym (append_assoc done (or_itself path at) more) ∙ ap (λ l. l ++ more) (sym is)) (before (or_itself path at ++ more) this)

pub found-all : (below : Folders) (paths : List (Bor (List ℕ))) (i : ℕ) (done : List (List ℕ)) → length paths ≤ i
    → ((more : List (List ℕ)) → AreFound below (bytes_of (drop i paths)) more → AreFound below (bytes_of paths) (done ++ more)) → AreFound below (bytes_of paths) done
found-all below paths i done past before =
    subst (AreFound below (bytes_of paths)) (append-nil done) (before [] (subst (λ l. AreFound below (bytes_of l) []) (sym (drop_all i paths past)) refl))

-- a line is added to the paths
pub line-more : (start added : List (List ℕ)) (paths longer : List (Bor (List ℕ))) (line : Bor (List ℕ)) → bytes_of paths ≡ start ++ added → longer ≡ paths ++ line ∷ []
    → bytes_of longer ≡ start ++ (added ++ line.now ∷ [])
line-more start added paths longer line before pushed =
    ap (λ (l : List (Bor (List ℕ))). bytes_of l) pushed ∙ map-append (λ (p : Bor (List ℕ)). p.now) paths (line ∷ []) ∙ ap (λ t. t ++ line.now ∷ []) before
    ∙ append_assoc start added (line.now ∷ [])
