-- Worked examples, with answers from outside the program.
use Rattle.std.proofs.Common.{◌≡◌, ℕ, List, [], ◌∷◌, Option, Some, refl}
use Rattle.std.specs.Prelude.{codes}
use Rattle.mlk_names.specs.declared.lock_name.LockName.{LockName}
use Rattle.mlk_text.specs.declared.root.Root.TheVariants.{Global}
use Rattle.mlk_names.specs.declared.symbol.Sym.{Sym}
use Rattle.mlk_names.specs.declared.symbol.Sym.TheVariants.{Const, Local, Job, Unknown}
use Rattle.mlk_names.specs.declared.known_symbol.KnownSym.TheVariants as known
use Rattle.mlk_names.specs.declared.reference.Extent.TheVariants.{Node, Tree}
use Rattle.mlk_names.specs.declared.reference.Access.TheVariants.{Writes}
use Rattle.mlk_names.specs.declared.reference.Reference.{Reference}
use Rattle.mlk_names.specs.LockNames.{IsAbove}
use Rattle.mlk_names.specs.Symbols.{Assignment, StandsFor}
use Rattle.mlk_names.specs.References.{GlobalNode, MayOverlap}
use Rattle.mlk_names.specs.Actuals.{put_in}
use Rattle.mlk_names.proofs.OverlapLemmas.{overlap_subs, subs_meet_not_below}

abbrev acct : List (List ℕ) → LockName
acct subs = record { root = Global (codes "ACCT"); subs = subs }

-- `^ACCT("A")` is above `^ACCT("A","bal")`, and not below it
pub account_above : IsAbove (acct (codes "A" ∷ [])) (acct (codes "A" ∷ codes "bal" ∷ []))
account_above = record { root = refl; subs = record { tail = codes "bal" ∷ []; is = refl } }

-- in the job with number 7, with `ID` equal to `A`, the values of symbols
abbrev here : Assignment
here = record { locals = λ name. Some (codes "A"); job = codes "7" }

pub job_number : StandsFor here Job (codes "7")
job_number = refl

pub local_value : StandsFor here (Local (codes "ID")) (codes "A")
local_value = refl

-- `^A(X)` by itself and the tree below `^A("1")`: they may overlap, at `^A("1")`
pub local_and_constant : MayOverlap (record { root = codes "A"; subs = Local (codes "X") ∷ []; extent = Node; access = Writes }) (record { root = codes "A"; subs = Const (codes "1") ∷ []; extent = Tree; access = Writes })
local_and_constant =
    let node : GlobalNode = record { root = codes "A"; subs = codes "1" ∷ [] } in (
      record { node = node; extent = Node },
      record { node = node; extent = Tree },
      record { root = refl; extent = refl; subs = (tt, tt) },
      record { root = refl; extent = refl; subs = (refl, tt) },
      (node, record { root = refl; subs = refl }, record { root = refl; subs = record { tail = []; is = refl } }),
    )

-- `^A` by itself and the tree below `^A("1")` do not
pub whole_and_below : MayOverlap (record { root = codes "A"; subs = []; extent = Node; access = Writes }) (record { root = codes "A"; subs = Const (codes "1") ∷ []; extent = Tree; access = Writes }) → ⊥
whole_and_below h =
    let r : Reference = record { root = codes "A"; subs = []; extent = Node; access = Writes } in
    let s : Reference = record { root = codes "A"; subs = Const (codes "1") ∷ []; extent = Tree; access = Writes } in
    subs_meet_not_below Tree (Const (codes "1")) [] (overlap_subs r s h)

-- `GRAB(K,L)` called as `GRAB(ID)`: `K` is `ID`, `L` is unknown, and `M` and the constant `K` stay
abbrev formals : List (List ℕ)
formals = codes "K" ∷ codes "L" ∷ []

abbrev actuals : List (Option Sym)
actuals = Some (Local (codes "ID")) ∷ []

pub formal_is_actual : put_in formals actuals (known.Local (codes "K")) ≡ Local (codes "ID")
formal_is_actual = refl

pub actual_past_the_end : put_in formals actuals (known.Local (codes "L")) ≡ Unknown
actual_past_the_end = refl

pub other_local_stays : put_in formals actuals (known.Local (codes "M")) ≡ Local (codes "M")
other_local_stays = refl

pub constant_stays : put_in formals actuals (known.Const (codes "K")) ≡ Const (codes "K")
constant_stays = refl
