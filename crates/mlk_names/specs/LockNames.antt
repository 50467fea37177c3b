-- Lock names, and which of them conflict. Restates ISO/IEC 11756, LOCK: a lock name covers itself, the names above it and the
-- names below it, whether it begins with a global or a local name.
use Rattle.std.specs.Prelude.{◌≡◌, ◌⊎◌}
use Rattle.mlk_names.specs.declared.lock_name.LockName.{LockName}
use Rattle.mlk_names.specs.Lists.{Begins}

-- the first name is the second, or above it
pub record IsAbove (m n : LockName) : Type 0 where
  pub root : m.root ≡ n.root
  pub subs : Begins m.subs n.subs

-- one name is the other, or above it
abbrev pub Conflict : LockName → LockName → Type 0
Conflict m n = IsAbove m n ⊎ IsAbove n m
