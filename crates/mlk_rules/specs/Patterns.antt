-- The meaning of patterns, and their relation to references. This project's own choice.
use Rattle.std.specs.Prelude.{◌≡◌, ℕ, List, [], ◌++◌}
use Rattle.std.specs.List.{AllZip}
use Rattle.mlk_names.specs.declared.symbol.Sym.{Sym}
use Rattle.mlk_names.specs.declared.symbol.Sym.TheVariants.{Const, Job}
use Rattle.mlk_names.specs.declared.reference.Extent.{Extent}
use Rattle.mlk_names.specs.declared.reference.Extent.TheVariants.{Node, Tree}
use Rattle.mlk_names.specs.declared.reference.Reference.{Reference}
use Rattle.mlk_names.specs.References.{GlobalNode, Region, InRegion, MayReach}
use Rattle.mlk_rules.specs.declared.pattern.Element.{Element}
use Rattle.mlk_rules.specs.declared.pattern.Element.TheVariants as element
use Rattle.mlk_rules.specs.declared.pattern.Pattern.{Pattern}

-- a literal takes only its own value, and all others take any value
abbrev pub Takes : Element → List ℕ → Type 0
Takes (element.Literal value) v = v ≡ value
Takes element.Variable v = Unit {0}
Takes element.Job v = Unit {0}

-- the region is an instance of the pattern, each subscript considered separately
pub record IsInstance (p : Pattern) (g : Region) : Type 0 where
  pub root : g.node.root ≡ p.global
  pub extent : g.extent ≡ p.extent
  pub subs : AllZip Takes p.elements g.node.subs

-- the region of a pattern, as a test on nodes: what its instances reach
abbrev pub LiesIn : Pattern → GlobalNode → Type 0
LiesIn p n = (g : Region) × IsInstance p g × InRegion g n

-- some node that the reference may reach lies in the pattern
abbrev pub MayMeet : Pattern → Reference → Type 0
MayMeet p r = (g : Region) × (n : GlobalNode) × MayReach r g × InRegion g n × LiesIn p n

-- the symbol surely is a value that the element takes
abbrev pub Suits : Element → Sym → Type 0
Suits (element.Literal value) s = s ≡ Const value
Suits element.Variable s = Unit {0}
Suits element.Job s = s ≡ Job

-- a reference of this extent, with these subscripts left after those that suit, reaches no further than the pattern
abbrev pub StaysIn : Extent → Extent → List Sym → Type 0
StaysIn Tree far rest = Unit {0}
StaysIn Node Node rest = rest ≡ []
StaysIn Node Tree rest = ⊥

-- each element of the pattern has a subscript that suits it
pub record SurelyLies (p : Pattern) (r : Reference) : Type 0 where
  pub root : r.root ≡ p.global
  pub front : List Sym
  pub rest : List Sym
  pub subs : front ++ rest ≡ r.subs
  pub suits : AllZip Suits p.elements front
  pub stays : StaysIn p.extent r.extent rest

-- a tree each of whose subscripts suits the element at its place, while the pattern may have more elements
pub record SurelyAbove (p : Pattern) (r : Reference) : Type 0 where
  pub root : r.root ≡ p.global
  pub tree : r.extent ≡ Tree
  pub front : List Element
  pub rest : List Element
  pub elements : front ++ rest ≡ p.elements
  pub suits : AllZip Suits front r.subs
