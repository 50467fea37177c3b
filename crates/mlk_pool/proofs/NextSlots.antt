-- The next entry of a list: its slot, if it is a task, and its rows; and what is left for the later ones.
use Rattle.std.proofs.Common.{◌≡◌, ◌+◌, ◌<◌, ℕ, Bool, true, false, List, [], ◌∷◌, Option, Some, drop, ◌++◌, append_assoc, filter, flat_map, length, slice_index_or, sym, ap, subst, ◌∙◌}
use Rattle.std.proofs.lemmas.List.{append-nil, drop_more}
use Rattle.std.specs.Prelude.{cond}
use Rattle.std.specs.List.{AllZip}
use Rattle.std.specs.Option.{ForSome}
use Rattle.mlk_program.specs.declared.entry.EntryId.{EntryId}
use Rattle.mlk_pool.specs.declared.board.Slot.{Slot}
use Rattle.mlk_pool.specs.Boards.{next_slot}

same : {X : Type 0} {x y : X} → Some x ≡ Some y → x ≡ y
same e = cc

-- of an entry that is a task or not, before the others
next_of : (R : EntryId → Slot → Type 0) (task : Bool) (entry : EntryId) (others : List EntryId) (slots : List Slot)
    → AllZip R (cond task (entry ∷ others) others) slots → ForSome (next_slot task slots).0 (R entry) × AllZip R others (next_slot task slots).1
next_of R false entry others slots all = (λ x is. absurd (cc is), all)
next_of R true entry others [] all = absurd all
next_of R true entry others (slot ∷ slots) all = (λ x is. subst (R entry) (same is) all.0, all.1)

-- of the entry at a place of a list
pub slot_left : (R : EntryId → Slot → Type 0) (is_task : EntryId → Bool) (entries : List EntryId) (i : ℕ) (d : EntryId) (slots later : List Slot) (slot : Option Slot)
    → i < length entries → AllZip R (filter is_task (drop i entries)) slots → (slot, later) ≡ next_slot (is_task (slice_index_or entries i d)) slots
    → ForSome slot (R (slice_index_or entries i d)) × AllZip R (filter is_task (drop (i + 1) entries)) later
slot_left R is_task entries i d slots later slot less all is =
    let entry = slice_index_or entries i d in
    let others = filter is_task (drop (i + 1) entries) in
    let next = next_of R (is_task entry) entry others slots (subst (λ l. AllZip R (filter is_task l) slots) (drop_more entries i d less) all) in
    (subst (λ s. ForSome s (R entry)) (sym (ap (λ q. q.0) is)) next.0, subst (AllZip R others) (sym (ap (λ q. q.1) is)) next.1)

-- the rows of the entry at a place, after those of the earlier ones
pub rows_left : {Row : Type 0} (rows : EntryId → List Row) (entries : List EntryId) (i : ℕ) (d : EntryId) (before after : List Row)
    → i < length entries → before ++ flat_map rows (drop i entries) ≡ flat_map rows entries → after ≡ before ++ rows (slice_index_or entries i d)
    → after ++ flat_map rows (drop (i + 1) entries) ≡ flat_map rows entries
rows_left rows entries i d before after less all is =
    let entry = slice_index_or entries i d in
    let later = flat_map rows (drop (i + 1) entries) in
    ap (λ r. r ++ later) is ∙ append_assoc before (rows entry) later
    ∙ ap (λ l. before ++ l) (sym (ap (flat_map rows) (drop_more entries i d less))) ∙ all

-- what is added if a test gives true
pub added : {X : Type 0} (is_so : Bool) (before after xs : List X) → is_so ≡ true → after ≡ before ++ xs → after ≡ before ++ cond is_so xs []
added true before after xs is e = e
added false before after xs is e = absurd (cc is)

pub not_added : {X : Type 0} (is_so : Bool) (before after xs : List X) → is_so ≡ false → after ≡ before → after ≡ before ++ cond is_so xs []
not_added false before after xs is e = e ∙ sym (append-nil before)
not_added true before after xs is e = absurd (cc is)
