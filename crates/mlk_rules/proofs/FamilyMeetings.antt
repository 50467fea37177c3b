-- Families that meet an earlier one, and families apart.
use Rattle.std.proofs.Common.{◌≡◌, ℕ, suc, ◌+◌, ◌<◌, ◌≤◌, List, [], ◌∷◌, ◌++◌, length, take, drop, arith, inl, inr, refl, sym, ap, ◌∙◌, subst, take-append-drop, length-take-le, length-append, append-nil}
use Rattle.std.specs.Prelude.{◌↔◌, slice_index_or, Option, Some, None, Bool, true, false, not, is_some, IsTrue, MatchOption}
use Rattle.std.proofs.lemmas.Bool.{cases_order}
use Rattle.std.proofs.lemmas.List.{take_more, get_or_append_left, get_or_at}
use Rattle.std.proofs.lemmas.List.Elements.{Contains-get_or}
use Rattle.std.proofs.lemmas.List.Quantifiers.{all_pairs_push}
use Rattle.mlk_names.specs.LockNames.{Conflict}
use Rattle.mlk_rules.specs.declared.family.Family.{Family}
use Rattle.mlk_rules.specs.Ranks.{FamiliesApart, IsFirstMeeting}
use Rattle.mlk_rules.proofs.CheckLemmas.{drop_step}
use Rattle.mlk_rules.proofs.RankLemmas.{turned}
use Rattle.mlk_rules.proofs.SoundLemmas.{Meets}

apart_push : (fs : List Family) (f : Family) → FamiliesApart fs → (Meets f fs → ⊥) → FamiliesApart (fs ++ f ∷ [])
apart_push fs f h free =
    let R : Family → Family → Type 0 = λ g k. Conflict g.name k.name → ⊥ in
    all_pairs_push R fs f h (λ k d l c. free (slice_index_or fs k d, Contains-get_or fs k d l, turned (slice_index_or fs k d).name f.name c))

pub apart_more : (fs : List Family) (i : ℕ) (f : Family) → i < length fs → f ≡ slice_index_or fs i f → FamiliesApart (take i fs) → (Meets f (take i fs) → ⊥)
    → FamiliesApart (take (i + 1) fs)
apart_more fs i f l is h free =
    let e : take (i + 1) fs ≡ take i fs ++ f ∷ [] = take_more fs i f l ∙ ap (λ g. take i fs ++ g ∷ []) (sym is) in
    subst FamiliesApart (sym e) (apart_push (take i fs) f h free)

pub first_found : (fs : List Family) (i : ℕ) (f : Family) → i < length fs → f ≡ slice_index_or fs i f → FamiliesApart (take i fs) → Meets f (take i fs)
    → IsFirstMeeting fs (i + 1)
first_found fs i f l is h m =
    let size : length (take i fs) ≡ i = length-take-le i fs (omega arith) in
    record {
      before = take i fs;
      family = f;
      after = drop (i + 1) fs;
      are = ap (λ gs. take i fs ++ gs) (sym (drop_step fs i f l is)) ∙ take-append-drop i fs;
      place = omega arith;
      apart = h;
      earlier = m.0;
      stands = m.1;
      meets = m.2;
    }

-- families up to one that meets an earlier one, or further, are not apart
met_within : (front rest fs : List Family) (k : ℕ) → front ++ rest ≡ fs → IsFirstMeeting fs k → k ≤ length front → FamiliesApart front → ⊥
met_within front rest fs k is m within apart =
    let d = m.earlier in
    let p : ℕ = m.stands.0 in
    let q : ℕ = length m.before in
    let place : suc q ≡ k = m.place in
    let below : p < q = m.stands.1 in
    let whole : front ++ rest ≡ m.before ++ m.family ∷ m.after = is ∙ sym m.are in
    let first : slice_index_or front p d ≡ d =
    sym (get_or_append_left front rest d p (omega arith)) ∙ ap (λ l. slice_index_or l p d) whole ∙ get_or_append_left m.before (m.family ∷ m.after) d p below ∙ m.stands.2 in
    let second : slice_index_or front q d ≡ m.family =
    sym (get_or_append_left front rest d q (omega arith)) ∙ ap (λ l. slice_index_or l q d) whole ∙ get_or_at m.before m.family m.after d q refl in
    let P : Family → Type 0 = λ x. Conflict x.name (slice_index_or front q d).name in
    let Q : Family → Type 0 = λ x. Conflict m.earlier.name x.name in
    apart p q d below (omega arith) (subst P (sym first) (subst Q (sym second) (turned m.family.name m.earlier.name m.meets)))

pub not_apart : (fs : List Family) (k : ℕ) → IsFirstMeeting fs k → FamiliesApart fs → ⊥
not_apart fs k m apart =
    let size = length-append m.before (m.family ∷ m.after) in
    let whole = ap length m.are in
    let place = m.place in
    met_within fs [] fs k (append-nil fs) m (omega arith) apart

pub first_one : (fs : List Family) (j k : ℕ) → IsFirstMeeting fs j → IsFirstMeeting fs k → j ≡ k
first_one fs j k m n =
    let first = m.place in
    let second = n.place in
    elim (cases_order j k) [
      | inl same ↦ same
      | inr other ↦ elim other [
        | inl less ↦ absurd (met_within n.before (n.family ∷ n.after) fs j n.are m (omega arith) n.apart)
        | inr more ↦ absurd (met_within m.before (m.family ∷ m.after) fs k m.are n (omega arith) m.apart)
      ]
    ]

-- none is found if all are apart
pub none_met : (found : Option ℕ) (b : Bool) (fs : List Family) → MatchOption found (FamiliesApart fs) (IsFirstMeeting fs) → is_some found ≡ not b
    → IsTrue b ↔ FamiliesApart fs
none_met None true fs h e = (λ is. h, λ apart. refl)
none_met None false fs h e = cc e
none_met (Some k) true fs h e = cc e
none_met (Some k) false fs h e = (λ is. cc is, λ apart. absurd (not_apart fs k h apart))
