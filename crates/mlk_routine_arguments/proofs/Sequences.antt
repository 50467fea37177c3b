-- Two parts, one after the other: what the readers of the parts say of the whole.
use Rattle.std.proofs.Common.{◌≡◌, ◌≤◌, ◌+◌, ℕ, suc, List, ◌++◌, length, drop, sym, ap, ◌∙◌, arith, subst, append_assoc, length-append, length-drop, drop-drop}
use Rattle.std.proofs.Math.Seq.{drop-append_seam}
use Rattle.std.specs.Prelude.{Result, Ok, Err}
use Rattle.mlk_expr.specs.Grammar.{Spelled}
use Rattle.mlk_expr.specs.Theorem.{Stands}
use Rattle.mlk_text.specs.declared.failure.Failure.{Failure}
use Rattle.mlk_text.specs.declared.failure.Failure.TheVariants.{OutOfMemory, Refused}
use Rattle.mlk_text.specs.declared.fault.Fault.{Fault}
use Rattle.mlk_routine_arguments.specs.PartsRead.{Found, Nowhere, Denied, ReadsPart}

-- where a text ends
pub next_is : (line text : List ℕ) (at m : ℕ) → at ≤ length line → m ≤ length line → drop at line ≡ text ++ drop m line → m ≡ at + length text
next_is line text at m a b h =
    let d = length-drop at line in
    let e = length-drop m line in
    let f : length (drop at line) ≡ length text + length (drop m line) = ap length h ∙ length-append text (drop m line) in
    omega arith

pub not_after : {A : Type 0} (Is : Spelled A) (Ends : A → List ℕ → Type 0) (line : List ℕ) (at : ℕ) (a : A) (next : ℕ) → Stands Is Ends line at a next → at ≤ length line → at ≤ next
not_after Is Ends line at a next s h = let e = next_is line s.text at next h s.within s.joined in omega arith

-- A whole of two parts, at a place.
pub record Parts {A B C : Type 0} (line : List ℕ) (at : ℕ) (IsA : Spelled A) (EndsA : A → List ℕ → Type 0) (IsB : A → Spelled B) (EndsB : A → B → List ℕ → Type 0) (IsC : Spelled C) (EndsC : C → List ℕ → Type 0) (make : A → B → C) : Type 0 where
  pub into : (a : A) (b : B) (s t : List ℕ) → IsA (suc at) a s → IsB a (suc at + length s) b t → IsC (suc at) (make a b) (s ++ t)
  pub ends : (a : A) (b : B) (k : ℕ) (t rest : List ℕ) → IsB a k b t → EndsA a (t ++ rest) → EndsB a b rest → EndsC (make a b) rest
  pub apart : (c : C) (u rest : List ℕ) → drop at line ≡ u ++ rest → IsC (suc at) c u → EndsC c rest → (a : A) × (b : B) × (s t : List ℕ) × (u ≡ s ++ t) × (c ≡ make a b) × IsA (suc at) a s × IsB a (suc at + length s) b t × EndsA a (t ++ rest) × EndsB a b rest

module _ {A B C : Type 0} {line : List ℕ} {at : ℕ} {IsA : Spelled A} {EndsA : A → List ℕ → Type 0} {IsB : A → Spelled B} {EndsB : A → B → List ℕ → Type 0} {IsC : Spelled C} {EndsC : C → List ℕ → Type 0} {make : A → B → C}
    (p : Parts line at IsA EndsA IsB EndsB IsC EndsC make) (within : at ≤ length line) where
  pub both_found : (a : A) (b : B) (m n : ℕ) → Found IsA EndsA line at a m → Found (IsB a) (EndsB a) line m b n → Found IsC EndsC line at (make a b) n
  both_found a b m n (first, only_first) (second, only_second) =
      let place = next_is line first.text at m within first.within first.joined in
      let moved : IsB a (suc at + length first.text) b second.text = subst (λ k. IsB a k b second.text) (omega arith) second.spelled in
      let whole = first.joined ∙ ap (λ l. first.text ++ l) second.joined ∙ sym (append_assoc first.text second.text (drop n line)) in
      let stands : Stands IsC EndsC line at (make a b) n = record { text = first.text ++ second.text; within = second.within; joined = whole; spelled = p.into a b first.text second.text first.spelled moved; ended = p.ends a b (suc m) second.text (drop n line) second.spelled (subst (EndsA a) second.joined first.ended) second.ended } in (
        stands,
        λ c u rest h is e.
            let r = p.apart c u rest h is e in
            let far : drop at line ≡ r.2 ++ (r.3 ++ rest) = h ∙ ap (λ l. l ++ rest) (r.4) ∙ append_assoc (r.2) (r.3) rest in
            let same = only_first (r.0) (r.2) (r.3 ++ rest) far (r.6) (r.8) in
            let there = next_is line (r.2) at m within first.within (far ∙ ap (λ l. r.2 ++ l) same.1) in
            let here : IsB (r.0) (suc m) (r.1) (r.3) = subst (λ k. IsB (r.0) k (r.1) (r.3)) (omega arith) (r.7) in
            let also = only_second (r.1) (r.3) rest (sym same.1) (subst (λ x. IsB x (suc m) (r.1) (r.3)) same.0 here) (subst (λ x. EndsB x (r.1) rest) same.0 (r.9)) in
            (r.5 ∙ ap (λ x. make x (r.1)) same.0 ∙ ap (make a) also.0, also.1),
      )

  pub first_nowhere : Nowhere IsA EndsA line at → Nowhere IsC EndsC line at
  first_nowhere none c u rest h is e =
      let r = p.apart c u rest h is e in
      none (r.0) (r.2) (r.3 ++ rest) (h ∙ ap (λ l. l ++ rest) (r.4) ∙ append_assoc (r.2) (r.3) rest) (r.6) (r.8)

  pub second_nowhere : (a : A) (m : ℕ) → Found IsA EndsA line at a m → Nowhere (IsB a) (EndsB a) line m → Nowhere IsC EndsC line at
  second_nowhere a m (first, only_first) none c u rest h is e =
      let r = p.apart c u rest h is e in
      let far : drop at line ≡ r.2 ++ (r.3 ++ rest) = h ∙ ap (λ l. l ++ rest) (r.4) ∙ append_assoc (r.2) (r.3) rest in
      let same = only_first (r.0) (r.2) (r.3 ++ rest) far (r.6) (r.8) in
      let there = next_is line (r.2) at m within first.within (far ∙ ap (λ l. r.2 ++ l) same.1) in
      let here : IsB (r.0) (suc m) (r.1) (r.3) = subst (λ k. IsB (r.0) k (r.1) (r.3)) (omega arith) (r.7) in
      none (r.1) (r.3) rest (sym same.1) (subst (λ x. IsB x (suc m) (r.1) (r.3)) same.0 here) (subst (λ x. EndsB x (r.1) rest) same.0 (r.9))

  -- what a failure of either part says of the whole
  pub denied_first : (e : Failure Fault) → Denied IsA EndsA line at e → Denied IsC EndsC line at e
  denied_first OutOfMemory h = tt
  denied_first (Refused fault) h = (first_nowhere h.0, h.1)

  pub denied_second : (a : A) (m : ℕ) → Found IsA EndsA line at a m → (e : Failure Fault) → Denied (IsB a) (EndsB a) line m e → Denied IsC EndsC line at e
  denied_second a m f OutOfMemory h = tt
  denied_second a m f (Refused fault) h = (second_nowhere a m f h.0, h.1)

  -- what a result says of the second part it says of the whole
  pub both_told : {X : Type 0} (a : A) (m : ℕ) → Found IsA EndsA line at a m → (r : Result (X × ℕ) (Failure Fault)) (view : X → B) → ReadsPart view (IsB a) (EndsB a) line m r → ReadsPart (λ x. make a (view x)) IsC EndsC line at r
  both_told a m f (Ok r) view h = both_found a (view r.0) m r.1 f h
  both_told a m f (Err e) view h = denied_second a m f e h

-- A whole that is one part in another form, at a place.
pub record Turned {A C : Type 0} (line : List ℕ) (at : ℕ) (IsA : Spelled A) (EndsA : A → List ℕ → Type 0) (IsC : Spelled C) (EndsC : C → List ℕ → Type 0) (make : A → C) : Type 0 where
  pub into : (a : A) (s : List ℕ) → IsA (suc at) a s → IsC (suc at) (make a) s
  pub ends : (a : A) (rest : List ℕ) → EndsA a rest → EndsC (make a) rest
  pub apart : (c : C) (u rest : List ℕ) → drop at line ≡ u ++ rest → IsC (suc at) c u → EndsC c rest → (a : A) × (c ≡ make a) × IsA (suc at) a u × EndsA a rest

module _ {A C : Type 0} {line : List ℕ} {at : ℕ} {IsA : Spelled A} {EndsA : A → List ℕ → Type 0} {IsC : Spelled C} {EndsC : C → List ℕ → Type 0} {make : A → C}
    (p : Turned line at IsA EndsA IsC EndsC make) where
  pub turned_found : (a : A) (n : ℕ) → Found IsA EndsA line at a n → Found IsC EndsC line at (make a) n
  turned_found a n (first, only_first) =
      let stands : Stands IsC EndsC line at (make a) n = record { text = first.text; within = first.within; joined = first.joined; spelled = p.into a first.text first.spelled; ended = p.ends a (drop n line) first.ended } in (
        stands,
        λ c u rest h is e.
            let r = p.apart c u rest h is e in
            let same = only_first (r.0) u rest h (r.2) (r.3) in
            (r.1 ∙ ap make same.0, same.1),
      )

  pub turned_nowhere : Nowhere IsA EndsA line at → Nowhere IsC EndsC line at
  turned_nowhere none c u rest h is e =
      let r = p.apart c u rest h is e in
      none (r.0) u rest h (r.2) (r.3)

  pub turned_denied : (e : Failure Fault) → Denied IsA EndsA line at e → Denied IsC EndsC line at e
  turned_denied OutOfMemory h = tt
  turned_denied (Refused fault) h = (turned_nowhere h.0, h.1)

  -- what a result says of the part it says of the whole
  pub turned_told : {X : Type 0} (r : Result (X × ℕ) (Failure Fault)) (view : X → A) → ReadsPart view IsA EndsA line at r → ReadsPart (λ x. make (view x)) IsC EndsC line at r
  turned_told (Ok r) view h = turned_found (view r.0) r.1 h
  turned_told (Err e) view h = turned_denied e h

-- If things of one kind at a place are exactly those of another kind there, a result for one kind is one for the other.
module _ {A : Type 0} (IsA IsC : Spelled A) (Ends : A → List ℕ → Type 0) (line : List ℕ) (at : ℕ) (wide : (a : A) (s : List ℕ) → IsC (suc at) a s → IsA (suc at) a s)
    (narrow : (a : A) (s rest : List ℕ) → drop at line ≡ s ++ rest → IsA (suc at) a s → Ends a rest → IsC (suc at) a s) where
  pub narrow_told : {X : Type 0} (r : Result (X × ℕ) (Failure Fault)) (view : X → A) → ReadsPart view IsA Ends line at r → ReadsPart view IsC Ends line at r
  narrow_told (Ok r) view (one, only) =
      let is = narrow (view r.0) one.text (drop r.1 line) one.joined one.spelled one.ended in
      (record { text = one.text; within = one.within; joined = one.joined; spelled = is; ended = one.ended }, λ c u rest h is e. only c u rest h (wide c u is) e)
  narrow_told (Err OutOfMemory) view h = tt
  narrow_told (Err (Refused fault)) view h = (λ c u rest g is e. h.0 c u rest g (wide c u is) e, h.1)

-- a text at the front of what begins at a place
pub stands_at : {A : Type 0} (Is : Spelled A) (Ends : A → List ℕ → Type 0) (line : List ℕ) (at : ℕ) (a : A) (s rest : List ℕ) → at ≤ length line → drop at line ≡ s ++ rest → Is (suc at) a s → Ends a rest
    → Stands Is Ends line at a (at + length s) × (rest ≡ drop (at + length s) line)
stands_at Is Ends line at a s rest less h is e =
    let back : rest ≡ drop (at + length s) line = sym (drop-append_seam s rest) ∙ ap (drop (length s)) (sym h) ∙ drop-drop (length s) at line ∙ ap (λ n. drop n line) (omega arith) in
    let size : length (drop at line) ≡ length s + length rest = ap length h ∙ length-append s rest in
    let all = length-drop at line in
    (record { text = s; within = omega arith; joined = h ∙ ap (λ l. s ++ l) back; spelled = is; ended = subst (Ends a) back e }, back)
