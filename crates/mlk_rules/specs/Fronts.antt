-- Elements and subscripts from the front on, without the names of the globals. For private clauses only: the contracts of
-- public calls use `Patterns` and `Coverage`. This project's own choice.
use Rattle.std.specs.Prelude.{◌≡◌, ℕ, List, ◌++◌, Some, map, slice_get}
use Rattle.std.specs.List.{AllZip}
use Rattle.mlk_names.specs.declared.symbol.Sym.{Sym}
use Rattle.mlk_names.specs.declared.symbol.Sym.TheVariants.{Const, Job, Unknown}
use Rattle.mlk_names.specs.declared.known_symbol.KnownSym.{KnownSym}
use Rattle.mlk_names.specs.declared.term.LockTerm.{LockTerm}
use Rattle.mlk_names.specs.declared.reference.Extent.{Extent}
use Rattle.mlk_names.specs.Lists.{Begins}
use Rattle.mlk_rules.specs.declared.pattern.Element.{Element}
use Rattle.mlk_rules.specs.declared.pattern.Element.TheVariants as element
use Rattle.mlk_rules.specs.declared.template.TemplatePart.{TemplatePart}
use Rattle.mlk_rules.specs.Patterns.{Suits, StaysIn}
use Rattle.mlk_rules.specs.Coverage.{before_missing, symbol_at}

-- an element as a symbol with the values that it takes: any value, unless it is a literal
abbrev pub symbol_of : Element → Sym
symbol_of (element.Literal value) = Const value
symbol_of element.Variable = Unknown
symbol_of element.Job = Unknown

-- each element has a subscript that suits it, and the subscripts after these stay in
pub record SubsLie (es : List Element) (wide : Extent) (subs : List Sym) (far : Extent) : Type 0 where
  pub front : List Sym
  pub rest : List Sym
  pub is : front ++ rest ≡ subs
  pub suits : AllZip Suits es front
  pub stays : StaysIn wide far rest

-- each subscript suits the element at its place
pub record SubsAbove (es : List Element) (subs : List Sym) : Type 0 where
  pub front : List Element
  pub rest : List Element
  pub is : front ++ rest ≡ es
  pub suits : AllZip Suits front subs

-- `$JOB` is wherever `$J` is
abbrev pub OwnSubs : List Element → List Sym → Type 0
OwnSubs es subs = (k : ℕ) → slice_get es k ≡ Some element.Job → slice_get subs k ≡ Some Job

-- some terms were added to these, with a given property
abbrev pub Gained : (List LockTerm → Type 0) → List LockTerm → List LockTerm → Type 0
Gained P old new = (ts : List LockTerm) × (new ≡ old ++ ts) × P ts

-- the symbols begin the subscripts of a rule's lock at a reference with these subscripts
abbrev pub BeginsCut : List KnownSym → List TemplatePart → List Sym → Type 0
BeginsCut symbols parts subs = Begins symbols (before_missing (map (symbol_at subs) parts))
