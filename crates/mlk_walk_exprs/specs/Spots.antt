-- Where in a line the walk is. This project's own choice.
use Rattle.std.specs.Prelude.{ℕ, Option, option_copied}
use Rattle.mlk_walk_state.specs.Scope.{Scope, scope_of}
use Rattle.mlk_walk_exprs.specs.declared.spot.Block.{Block}
use Rattle.mlk_walk_exprs.specs.declared.spot.Spot.{Spot as GivenSpot}

-- the scope of the walk; the line's number, level and block, which has the number of its first line and the cases in which it may
-- end; and the column of the running command's word
pub record Spot : Type 0 where
  pub scope : Scope
  pub line : ℕ
  pub level : ℕ
  pub block : Option Block
  pub word : ℕ

-- the place of the code's value
abbrev pub spot_of : GivenSpot → Spot
spot_of p = record {
  scope = scope_of p.scope.now;
  line = p.line;
  level = p.level;
  block = option_copied p.block;
  word = p.word;
}
