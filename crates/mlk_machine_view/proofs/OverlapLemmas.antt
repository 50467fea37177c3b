-- The test of two regions decides whether they share a node.
use Rattle.std.proofs.Common.{◌≡◌, ◌∙◌, ℕ, true, List, [], ◌∷◌, ◌++◌, refl, sym, subst}
use Rattle.std.specs.Prelude.{bytes_eq}
use Rattle.std.proofs.lemmas.Bool.{and_parts, and_from, false≢true}
use Rattle.std.proofs.lemmas.Slice.Eq.{bytes_eq-Decides}
use Rattle.mlk_names.specs.declared.reference.Extent.{Extent}
use Rattle.mlk_names.specs.declared.reference.Extent.TheVariants.{Node, Tree}
use Rattle.mlk_names.specs.References.{GlobalNode, Region, Reaches, Overlap}
use Rattle.mlk_names.proofs.OverlapLemmas.{reaches_itself, reaches_cons}
use Rattle.mlk_machine_view.specs.Regions.{is_tree, subs_meet, overlap, OverlapIsTested}

-- subscripts that are reached from both
abbrev Meet : List (List ℕ) → Extent → List (List ℕ) → Extent → Type 0
Meet xs far ys wide = (ws : List (List ℕ)) × Reaches far xs ws × Reaches wide ys ws

reaches_all : (e : Extent) (ws : List (List ℕ)) → is_tree e ≡ true → Reaches e [] ws
reaches_all Node ws h = absurd (false≢true h)
reaches_all Tree ws h = record { tail = ws; is = refl }

meets : (xs : List (List ℕ)) (far : Extent) (ys : List (List ℕ)) (wide : Extent) → subs_meet xs far ys wide ≡ true
    → Meet xs far ys wide
meets [] far [] wide h = ([], reaches_itself far [], reaches_itself wide [])
meets [] far (y ∷ ys) wide h = (y ∷ ys, reaches_all far (y ∷ ys) h, reaches_itself wide (y ∷ ys))
meets (x ∷ xs) far [] wide h = (x ∷ xs, reaches_itself far (x ∷ xs), reaches_all wide (x ∷ xs) h)
meets (x ∷ xs) far (y ∷ ys) wide h =
    let p = and_parts (bytes_eq x y) (subs_meet xs far ys wide) h in
    let e : x ≡ y = (bytes_eq-Decides x y).0 p.0 in
    let m = meets xs far ys wide p.1 in
    let P : List ℕ → Type 0 = λ z. Reaches wide (y ∷ ys) (z ∷ m.0) in
    (x ∷ m.0, reaches_cons far x xs m.0 m.1, subst P (sym e) (reaches_cons wide y ys m.0 m.2))

reached : (e : Extent) (x : List ℕ) (xs ws : List (List ℕ)) → Reaches e (x ∷ xs) ws
    → (vs : List (List ℕ)) × (ws ≡ x ∷ vs) × Reaches e xs vs
reached Node x xs ws h = (xs, h, refl)
reached Tree x xs ws h = (xs ++ h.tail, sym h.is, record { tail = h.tail; is = refl })

is_wide : (e : Extent) (y : List ℕ) (ys : List (List ℕ)) → Reaches e [] (y ∷ ys) → is_tree e ≡ true
is_wide Node y ys h = absurd (cc)
is_wide Tree y ys h = refl

met : (xs : List (List ℕ)) (far : Extent) (ys : List (List ℕ)) (wide : Extent) (ws : List (List ℕ)) → Reaches far xs ws
    → Reaches wide ys ws → subs_meet xs far ys wide ≡ true
met [] far [] wide ws a b = refl
met [] far (y ∷ ys) wide ws a b =
    let t = reached wide y ys ws b in
    let P : List (List ℕ) → Type 0 = λ zs. Reaches far [] zs in
    is_wide far y t.0 (subst P t.1 a)
met (x ∷ xs) far [] wide ws a b =
    let t = reached far x xs ws a in
    let P : List (List ℕ) → Type 0 = λ zs. Reaches wide [] zs in
    is_wide wide x t.0 (subst P t.1 b)
met (x ∷ xs) far (y ∷ ys) wide ws a b =
    let s = reached far x xs ws a in
    let t = reached wide y ys ws b in
    let e : x ∷ s.0 ≡ y ∷ t.0 = sym s.1 ∙ t.1 in
    let same : x ≡ y = cc in
    let rest : t.0 ≡ s.0 = cc in
    let P : List (List ℕ) → Type 0 = λ zs. Reaches wide ys zs in
    and_from (bytes_eq x y) (subs_meet xs far ys wide) ((bytes_eq-Decides x y).1 same)
    (met xs far ys wide s.0 s.2 (subst P rest t.2))

overlap_is : (g h : Region) → overlap g h ≡ true → Overlap g h
overlap_is g h e =
    let p = and_parts (bytes_eq g.node.root h.node.root) (subs_meet g.node.subs g.extent h.node.subs h.extent) e in
    let same : g.node.root ≡ h.node.root = (bytes_eq-Decides g.node.root h.node.root).0 p.0 in
    let m = meets g.node.subs g.extent h.node.subs h.extent p.1 in
    let n : GlobalNode = record { root = g.node.root; subs = m.0 } in
    (n, record { root = refl; subs = m.1 }, record { root = same; subs = m.2 })

overlap_if : (g h : Region) → Overlap g h → overlap g h ≡ true
overlap_if g h o =
    let same : g.node.root ≡ h.node.root = sym o.1.root ∙ o.2.root in
    and_from (bytes_eq g.node.root h.node.root) (subs_meet g.node.subs g.extent h.node.subs h.extent)
    ((bytes_eq-Decides g.node.root h.node.root).1 same)
    (met g.node.subs g.extent h.node.subs h.extent o.0.subs o.1.subs o.2.subs)

pub overlap_is_tested : OverlapIsTested
overlap_is_tested g h = (overlap_is g h, overlap_if g h)
