-- NEW: names that are created, and exist until their block or frame ends. Standard: NEW; that items are in order is this
-- project's own choice, that of certificates.
use Rattle.std.specs.Prelude.{ℕ, if◌then◌else◌, List, [], ◌∷◌, Result, Ok, Err}
use Rattle.mlk_text.specs.declared.code.Code.{Code}
use Rattle.mlk_text.specs.declared.code.Code.TheVariants.{Pinned}
use Rattle.mlk_cert_parts.specs.declared.names.NameSet.{NameSet}
use Rattle.mlk_cert_parts.specs.declared.names.Own.{Own}
use Rattle.mlk_walk_state.specs.declared.state.State.{State}
use Rattle.mlk_walk_state.specs.Terms.{mention}
use Rattle.mlk_calls.specs.Changes.{changed_state}
use Rattle.mlk_walk_exprs.specs.Walks.{Outcome, placed}
use Rattle.mlk_walk_exprs.specs.Spots.{Spot}
use Rattle.mlk_walk_commands.specs.Order.{put_own}

-- the state with an item of own names
abbrev pub with_own : Own → State → State
with_own o s = record s { case = record s.case { own = put_own o s.case.own } }

-- The effect of NEW on names: 705 if a held term mentions one; a summary need not list it. Captured symbols that mention one
-- become unknown.
abbrev pub renewed : List NameSet → State → Result State Code
renewed names s = if mention names s.case.held then Err Pinned else Ok (changed_state names s)

-- these names are own from then on, at the line's level
abbrev pub owned : Own → Result State Code → Result State Code
owned o (Ok s) = Ok (with_own o s)
owned o (Err code) = Err code

abbrev pub renew : Spot → ℕ → NameSet → State → List Outcome
renew p column names s =
    placed p.line column (owned (record { level = p.level; names = names }) (renewed (names ∷ []) s))
