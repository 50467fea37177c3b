-- Runs of bytes of one kind.
use Rattle.std.proofs.Common.{◌≡◌, ◌≤◌, ◌+◌, ℕ, Bool, true, false, List, [], ◌∷◌, ◌++◌, length, drop, refl, sym, ap, ◌∙◌, arith, subst, inl, inr}
use Rattle.std.specs.Prelude.{◌⊎◌}
use Rattle.std.specs.List.{list_all, prefix_len}
use Rattle.std.proofs.lemmas.Bool.{cases_Bool, and_parts}
use Rattle.mlk_expr.specs.Theorem.{Stands}
use Rattle.mlk_routine_arguments.specs.PartsRead.{Found}
use Rattle.mlk_routine_arguments.specs.Ends.{IsRun, RunEnds, starts}
use Rattle.mlk_routine_arguments.proofs.Sequences.{stands_at}

module _ (kind : ℕ → Bool) where
  -- the run at the front
  split_run : (xs : List ℕ) → (s rest : List ℕ) × (xs ≡ s ++ rest) × (list_all kind s ≡ true) × (starts kind rest ≡ false) × (length s ≡ prefix_len kind xs)
  split_run [] = ([], [], refl, refl, refl, refl)
  split_run (b ∷ xs) = go (cases_Bool (kind b)) (split_run xs)
    where
      go : (kind b ≡ true) ⊎ (kind b ≡ false) → (s rest : List ℕ) × (xs ≡ s ++ rest) × (list_all kind s ≡ true) × (starts kind rest ≡ false) × (length s ≡ prefix_len kind xs)
          → (s rest : List ℕ) × (b ∷ xs ≡ s ++ rest) × (list_all kind s ≡ true) × (starts kind rest ≡ false) × (length s ≡ prefix_len kind (b ∷ xs))
      go (inl same) (s, rest, is, all, stop, size) = (b ∷ s, rest, ap (λ l. b ∷ l) is, rw same all, stop, rw same (omega (arith, size)))
      go (inr other) r = ([], b ∷ xs, refl, refl, other, rw other refl)

  -- there is one such run
  pub one_run : (s t ys zs : List ℕ) → s ++ ys ≡ t ++ zs → list_all kind s ≡ true → list_all kind t ≡ true → starts kind ys ≡ false → starts kind zs ≡ false → ys ≡ zs
  one_run [] [] ys zs h all also stop end = h
  one_run [] (c ∷ t) ys zs h all also stop end = let p = and_parts (kind c) (list_all kind t) also in cc (sym stop ∙ ap (starts kind) h ∙ p.0)
  one_run (b ∷ s) [] ys zs h all also stop end = let p = and_parts (kind b) (list_all kind s) all in cc (sym end ∙ ap (starts kind) (sym h) ∙ p.0)
  one_run (b ∷ s) (c ∷ t) ys zs h all also stop end =
      one_run s t ys zs (cc h) (and_parts (kind b) (list_all kind s) all).1 (and_parts (kind c) (list_all kind t) also).1 stop end

  pub run_found : (line : List ℕ) (at n : ℕ) → at ≤ length line → n ≡ prefix_len kind (drop at line) → Found (IsRun kind) (RunEnds kind) line at tt (at + n)
  run_found line at n less count =
      let r = split_run (drop at line) in
      let stands = stands_at (IsRun kind) (RunEnds kind) line at tt (r.0) (r.1) less (r.2) (r.3) (r.4) in
      let same : length (r.0) ≡ n = r.5 ∙ sym count in
      let back = stands.1 ∙ ap (λ k. drop (at + k) line) same in
      (subst (λ k. Stands (IsRun kind) (RunEnds kind) line at tt (at + k)) same stands.0, λ u s rest h is e. (refl, one_run s (r.0) rest (r.1) (sym h ∙ r.2) is (r.3) e (r.4) ∙ back))
