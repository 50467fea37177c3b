-- What a reading of the end of a line says of the line.
use Rattle.std.proofs.Common.{◌≡◌, ◌≤◌, ◌+◌, ◌-◌, ℕ, suc, List, ◌++◌, length, take, drop, Some, refl, sym, ap, ◌∙◌, arith, subst, inl, inr, append_assoc, take-append-drop, length-append, length-drop}
use Rattle.std.specs.Prelude.{Option}
use Rattle.std.proofs.Math.Seq.{drop-append_seam}
use Rattle.std.proofs.lemmas.Bool.{cases_Bool}
use Rattle.mlk_text.proofs.Readers.{then_some, pair_parts, Exact, one_reading, after_length}
use Rattle.mlk_text.specs.declared.failure.Failure.{Failure}
use Rattle.mlk_expr.specs.declared.refusal.Offence.{Offence}
use Rattle.mlk_text.specs.declared.failure.Failure.TheVariants.{OutOfMemory, Refused}
use Rattle.mlk_text.specs.declared.fault.Fault.{Fault}
use Rattle.mlk_expr_tokens.specs.Lexemes.{ends}
use Rattle.mlk_expr.proofs.Followed.{IsExpr}
use Rattle.mlk_expr.specs.Reading.{chain_with, atom_at, pattern_at, ended, expr_at}
use Rattle.mlk_text.specs.Failures.{FailsOn, IsLike}
use Rattle.mlk_expr.specs.Theorem.{Stands, Only, Refuses}
use Rattle.mlk_expr.proofs.Operands.{expr-exact}
use Rattle.mlk_expr.proofs.Joined.{Same}

pub whole-exact : (end : ℕ) → Exact (expr_at end) (IsExpr end)
unfolding expr_at IsExpr
whole-exact end = record {
  sound = λ t xs ys h.
      let r = then_some (chain_with (atom_at end 64) (pattern_at 64) xs) ended (t, ys) h in
      elim (cases_Bool (ends r.0.1)) [
        | inl e ↦
            let p = pair_parts r.0.0 t r.0.1 ys (rw e at (r.2)) in
            let read : chain_with (atom_at end 64) (pattern_at 64) xs ≡ Some (t, ys) = r.1 ∙ ap (λ z. Some (z, r.0.1)) p.0 ∙ ap (λ z. Some (t, z)) p.1 in
            ((expr-exact end 64).sound t xs ys read, sym (ap ends p.1) ∙ e)
        | inr e ↦ cc (rw e at (r.2))
      ];
  complete = λ t xs ys h. rw ((expr-exact end 64).complete t xs ys h.0) (rw (h.1) refl);
  after = λ t xs ys h. (expr-exact end 64).after t xs ys h.0;
}

-- what a reading says of a line
module _ {A : Type 0} (read : ℕ → List ℕ → Option (A × List ℕ)) (Is : ℕ → A → List ℕ → List ℕ → Type 0) (Text : ℕ → A → List ℕ → Type 0) (Ends : A → List ℕ → Type 0)
    (exact : (end : ℕ) → Exact (read end) (Is end)) (same : Same Is Text Ends) (line : List ℕ) (at : ℕ) where
  e : Exact (read (suc (length line))) (Is (suc (length line)))
  e = exact (suc (length line))

  pub rest-within : (a : A) (ys : List ℕ) → read (suc (length line)) (drop at line) ≡ Some (a, ys) → length ys ≤ length line
  rest-within a ys h =
      let f = after_length (drop at line) ys (e.after a (drop at line) ys (e.sound a (drop at line) ys h)) in
      let d = length-drop at line in
      omega arith

  place-after : (a : A) (ys : List ℕ) → read (suc (length line)) (drop at line) ≡ Some (a, ys) → drop (length line - length ys) line ≡ ys
  place-after a ys h =
      let f = e.after a (drop at line) ys (e.sound a (drop at line) ys h) in
      let whole : (take at line ++ f.0) ++ ys ≡ line = append_assoc (take at line) f.0 ys ∙ ap (λ l. take at line ++ l) f.1 ∙ take-append-drop at line in
      let size : length (take at line ++ f.0) + length ys ≡ length line = sym (length-append (take at line ++ f.0) ys) ∙ ap length whole in
      let n : length line - length ys ≡ length (take at line ++ f.0) = omega arith in
      rw n (subst (λ l. drop (length (take at line ++ f.0)) l ≡ ys) whole (drop-append_seam (take at line ++ f.0) ys))

  -- the column of the place
  placed : at ≤ length line → suc (length line) ≡ suc at + length (drop at line)
  placed less = let d = length-drop at line in omega arith

  pub stands : at ≤ length line → (a : A) (ys : List ℕ) → read (suc (length line)) (drop at line) ≡ Some (a, ys) → Stands Text Ends line at a (length line - length ys)
  stands less a ys h =
      let f = same.apart (suc (length line)) (suc at) a (drop at line) ys (placed less) (e.sound a (drop at line) ys h) in
      let back = sym (place-after a ys h) in
      record { text = f.0; within = omega arith; joined = f.1 ∙ ap (λ l. f.0 ++ l) back; spelled = f.2; ended = subst (λ l. Ends a l) back (f.3) }

  -- every text that is written there is read
  written : at ≤ length line → (b : A) (text rest : List ℕ) → drop at line ≡ text ++ rest → Text (suc at) b text → Ends b rest → Is (suc (length line)) b (drop at line) rest
  written less b text rest is one ended =
      subst (λ l. Is (suc (length line)) b l rest) (sym is) (same.together (suc (length line)) (suc at) b text rest (placed less ∙ ap (λ l. suc at + length l) is) one ended)

  pub only : at ≤ length line → (a : A) (ys : List ℕ) → read (suc (length line)) (drop at line) ≡ Some (a, ys) → Only Text Ends line at a (length line - length ys)
  only less a ys h b text rest is one ended =
      let p = one_reading (read (suc (length line))) (Is (suc (length line))) e b a (drop at line) rest ys (written less b text rest is one ended) (e.sound a (drop at line) ys h) in
      (p.0, p.1 ∙ sym (place-after a ys h))

  pub refuses : at ≤ length line → (r : Failure Offence) (t : Failure Fault) → FailsOn r (read (suc (length line)) (drop at line)) → IsLike r t → Refuses Text Ends line at t
  refuses less OutOfMemory OutOfMemory h g = tt
  refuses less OutOfMemory (Refused f) h g = absurd g
  refuses less (Refused o) OutOfMemory h g = tt
  refuses less (Refused o) (Refused f) h g = λ b text rest is one ended.
      let bad = sym h ∙ e.complete b (drop at line) rest (written less b text rest is one ended) in cc bad
