-- Inclusion of cases. This project's own choice.
use Rattle.std.specs.Prelude.{◌≡◌, ◌⊎◌, Contains}
use Rattle.mlk_cert_parts.specs.declared.case.Case.{Case}
use Rattle.mlk_cert_parts.specs.declared.case.Test.{Test}
use Rattle.mlk_cert_parts.specs.declared.case.Test.TheVariants.{Any}
use Rattle.mlk_cert_lexemes.specs.Lists.{Each, EachPair}

-- the second test says no more than the first
abbrev pub Covers : Test → Test → Type 0
Covers s t = (t ≡ Any) ⊎ (t ≡ s)

-- The first case is included in the second, which says no more, so it holds whenever the first does.
pub record Included (a b : Case) : Type 0 where
  pub test : Covers a.test b.test
  pub held : b.held ≡ a.held
  pub own : b.own ≡ a.own
  pub kept : Each (Contains a.kept) b.kept
  pub saved : EachPair Covers a.saved b.saved
