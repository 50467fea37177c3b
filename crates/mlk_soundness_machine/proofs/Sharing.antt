-- What is required of the names that are shared. This project's own choice.
use Rattle.std.specs.Prelude.{◌≡◌, ℕ, Bool, true, false, List}
use Rattle.mlk_cert_parts.specs.declared.names.Own.{Own}
use Rattle.mlk_walk_state.specs.Names.{is_own}

-- Of two frames, one of which may call the other: whether a name is shared in a frame depends on whether it is own there; and
-- what is not shared where it is not own is shared nowhere.
pub record SharesByOwn (caller callee : List Own → List ℕ → Bool) : Type 0 where
  pub by_own : (own more : List Own) (x : List ℕ) → is_own own x ≡ is_own more x → caller own x ≡ caller more x
  pub nowhere : (own other : List Own) (x : List ℕ) → is_own other x ≡ false → callee other x ≡ false → caller own x ≡ false

-- a name that is passed by reference is shared where it is not own, and the formal that receives it is shared where it is own
pub record SharesPassed (callee : List Own → List ℕ → Bool) (name filled : List ℕ) : Type 0 where
  pub actual : (own : List Own) → is_own own name ≡ false → callee own name ≡ true
  pub formal : (own : List Own) → is_own own filled ≡ true → callee own filled ≡ true
