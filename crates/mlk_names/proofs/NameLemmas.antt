-- Lock names above one another.
use Rattle.std.proofs.Common.{◌≡◌, inl, inr, sym, ◌∙◌}
use Rattle.mlk_names.specs.declared.lock_name.LockName.{LockName}
use Rattle.mlk_names.specs.LockNames.{IsAbove, Conflict}
use Rattle.mlk_names.proofs.ListLemmas.{begins_on, begins_two}

-- two names above one name conflict
pub above_one : (m n o : LockName) → IsAbove m o → IsAbove n o → Conflict m n
above_one m n o h k =
    let e : m.root ≡ n.root = h.root ∙ sym k.root in
    elim (begins_two m.subs n.subs o.subs h.subs k.subs) [
      | inl b ↦ inl (record { root = e; subs = b })
      | inr b ↦ inr (record { root = sym e; subs = b })
    ]

-- what conflicts with a name conflicts with one above it
pub conflict_above : (m n o : LockName) → IsAbove m n → Conflict n o → Conflict m o
conflict_above m n o a (inl h) = inl (record { root = a.root ∙ h.root; subs = begins_on m.subs n.subs o.subs a.subs h.subs })
conflict_above m n o a (inr h) = above_one m o n a h
