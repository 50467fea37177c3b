-- What names are bound to, binder by binder.
use Rattle.std.proofs.Common.{◌≡◌, ℕ, List, [], ◌∷◌, ◌++◌, map, reverse, Some, None, refl, sym, ap, ◌∙◌, inl, inr, arith, ◌+◌, ◌-◌, ◌<◌, ◌≤◌, length, take, get_or}
use Rattle.std.proofs.lemmas.List.{map-append, reverse-append, take_more}
use Rattle.std.specs.Prelude.{bytes_eq}
use Rattle.std.proofs.lemmas.Bool.{cases_Bool}
use Rattle.mlk_machine_jobs.specs.declared.binding.Binder.{Binder as BinderIn}
use Rattle.mlk_machine_jobs.specs.Bindings.{Cell, Binder, Fresh, ByReference, Bindings, covers, look}
use Rattle.mlk_machine_jobs.specs.Views.{binder_of, bindings_of, bound_by}

-- the newest of some binders
pub newest : (before : List BinderIn) (b : BinderIn) → bindings_of (before ++ b ∷ []) ≡ binder_of b ∷ bindings_of before
newest before b = ap reverse (map-append binder_of before (b ∷ [])) ∙ reverse-append (map binder_of before) (binder_of b ∷ [])

bound_look : (b : Binder) (bs : Bindings) (n : List ℕ) (c : Cell) → Some c ≡ bound_by b n → c ≡ look (b ∷ bs) n
bound_look (Fresh g names) bs n c h = elim (cases_Bool (covers names n)) [
  | inl e ↦ let s : Some c ≡ Some (record { generation = g; name = n }) = rw e at h in rw e (cc)
  | inr e ↦ let s : Some c ≡ None = rw e at h in absurd (cc)
]
bound_look (ByReference formal cell) bs n c h = elim (cases_Bool (bytes_eq formal n)) [
  | inl e ↦ let s : Some c ≡ Some cell = rw e at h in rw e (cc)
  | inr e ↦ let s : Some c ≡ None = rw e at h in absurd (cc)
]

past_look : (b : Binder) (bs : Bindings) (n : List ℕ) → None ≡ bound_by b n → look bs n ≡ look (b ∷ bs) n
past_look (Fresh g names) bs n h = elim (cases_Bool (covers names n)) [
  | inl e ↦ let s : None ≡ Some (record { generation = g; name = n }) = rw e at h in absurd (cc)
  | inr e ↦ rw e refl
]
past_look (ByReference formal cell) bs n h = elim (cases_Bool (bytes_eq formal n)) [
  | inl e ↦ let s : None ≡ Some cell = rw e at h in absurd (cc)
  | inr e ↦ rw e refl
]

-- the binders up to an index, the newest first
pub turned : (bs : List BinderIn) (count : ℕ) (b : BinderIn) → 0 < count → count ≤ length bs → b ≡ get_or bs (count - 1) b
    → bindings_of (take count bs) ≡ binder_of b ∷ bindings_of (take (count - 1) bs)
turned bs count b p l e =
    let k : count - 1 + 1 ≡ count = omega arith in
    ap (λ m. bindings_of (take m bs)) (sym k)
    ∙ ap (λ (z : List BinderIn). bindings_of z) (take_more bs (count - 1) b (omega arith))
    ∙ newest (take (count - 1) bs) (get_or bs (count - 1) b)
    ∙ ap (λ (z : BinderIn). binder_of z ∷ bindings_of (take (count - 1) bs)) (sym e)

pub look_bound : (bs : List BinderIn) (count : ℕ) (b : BinderIn) (n : List ℕ) (c : Cell) → 0 < count → count ≤ length bs
    → b ≡ get_or bs (count - 1) b → Some c ≡ bound_by (binder_of b) n → c ≡ look (bindings_of (take count bs)) n
look_bound bs count b n c p l e h =
    rw (turned bs count b p l e) (bound_look (binder_of b) (bindings_of (take (count - 1) bs)) n c h)

pub look_past : (bs : List BinderIn) (count : ℕ) (b : BinderIn) (n : List ℕ) → 0 < count → count ≤ length bs
    → b ≡ get_or bs (count - 1) b → None ≡ bound_by (binder_of b) n
    → look (bindings_of (take (count - 1) bs)) n ≡ look (bindings_of (take count bs)) n
look_past bs count b n p l e h =
    rw (turned bs count b p l e) (past_look (binder_of b) (bindings_of (take (count - 1) bs)) n h)
