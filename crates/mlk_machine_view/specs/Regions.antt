-- Whether regions have a common node, as a test; a law says that it decides `Overlap` of `mlk_names`. This project's own.
use Rattle.std.specs.Prelude.{◌≡◌, ◌↔◌, ℕ, Bool, true, false, ◌&&◌, List, [], ◌∷◌, bytes_eq}
use Rattle.mlk_names.specs.declared.reference.Extent.{Extent}
use Rattle.mlk_names.specs.declared.reference.Extent.TheVariants.{Node, Tree}
use Rattle.mlk_names.specs.References.{Region, Overlap}

abbrev pub same_value : List ℕ → List ℕ → Bool
same_value x y = bytes_eq x y

abbrev pub is_tree : Extent → Bool
is_tree Node = false
is_tree Tree = true

-- the same subscripts are reached from both
abbrev pub subs_meet : List (List ℕ) → Extent → List (List ℕ) → Extent → Bool
subs_meet [] far [] wide = true
subs_meet [] far (y ∷ ys) wide = is_tree far
subs_meet (x ∷ xs) far [] wide = is_tree wide
subs_meet (x ∷ xs) far (y ∷ ys) wide = same_value x y && subs_meet xs far ys wide

-- two regions have a common node
abbrev pub overlap : Region → Region → Bool
overlap g h = bytes_eq g.node.root h.node.root && subs_meet g.node.subs g.extent h.node.subs h.extent

-- The test decides whether both reach a common node.
abbrev pub OverlapIsTested : Type 0
OverlapIsTested = (g h : Region) → (overlap g h ≡ true) ↔ Overlap g h
