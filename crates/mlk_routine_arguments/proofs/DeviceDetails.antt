-- Details of devices: the longest text that may be the front of details is all that may be details there.
use Rattle.std.proofs.Common.{◌≡◌, ◌≤◌, ◌+◌, ◌-◌, ℕ, suc, Bool, true, false, List, [], ◌∷◌, ◌++◌, length, drop, Some, None, refl, sym, ap, ◌∙◌, arith, subst, inl, inr, ◌==◌, length-append, length-drop, drop-drop}
use Rattle.std.proofs.Math.Seq.{drop-append_seam}
use Rattle.std.specs.Prelude.{Option, if◌then◌else◌, option_and_then}
use Rattle.std.proofs.lemmas.Bool.{cases_Bool, eqb-true}
use Rattle.std.proofs.lemmas.Option.{same_Some}
use Rattle.mlk_syntax.specs.ExprTrees.{Tree}
use Rattle.mlk_expr.specs.Theorem.{ExprEnds}
use Rattle.mlk_routine_arguments.specs.declared.details.Within.{Within}
use Rattle.mlk_routine_arguments.specs.declared.details.Within.TheVariants as within
use Rattle.mlk_routine_arguments.specs.declared.details.Spot.{Spot}
use Rattle.mlk_routine_arguments.specs.PartsRead.{Found, Nowhere}
use Rattle.mlk_routine_arguments.specs.Details.{AreDetails, first_spot, after, after_in, after_all, in_parameter, is_quoted, is_closed}
use Rattle.mlk_routine_arguments.specs.Ends.{is_stop, DetailsEnd, DeviceEnds}
use Rattle.mlk_routine_arguments.specs.Stops.{by_stop, expr_stop}
use Rattle.mlk_routine_arguments.specs.Kinds.{IsLongest}
use Rattle.mlk_routine_arguments.specs.CommandGrammar.{IsValue, IsDevice}
use Rattle.mlk_routine_arguments.proofs.Sequences.{Parts, stands_at}
use Rattle.mlk_routine_arguments.proofs.Sole.{Alone}
use Rattle.mlk_routine_arguments.proofs.Parameters.{colon_ends}

none_runs : (s : List ℕ) → after_all None s ≡ None
none_runs [] = refl
none_runs (b ∷ s) = none_runs s

-- nothing that follows may be there
abbrev Stuck : Spot → List ℕ → Type 0
Stuck x rest = (b : ℕ) (more : List ℕ) → rest ≡ b ∷ more → after x b ≡ None

stuck_on : (x y z : Spot) (b : ℕ) (s : List ℕ) → after_all (Some x) (b ∷ s) ≡ Some z → x ≡ y → after y b ≡ None → ⊥
stuck_on x y z b s runs same none =
    let here : after x b ≡ None = ap (λ q. after q b) same ∙ none in
    cc (sym (none_runs s) ∙ ap (λ o. after_all o s) (sym here) ∙ runs)

first_step : (y z : Spot) (s t : List ℕ) (R : Type 0) (o : Option Spot) → after_all o s ≡ Some y → after_all o t ≡ Some z → ((q : Spot) → after_all (Some q) s ≡ Some y → after_all (Some q) t ≡ Some z → R) → R
first_step y z s t R None one two more = cc (sym (none_runs s) ∙ one)
first_step y z s t R (Some q) one two more = more q one two

pub runs_on : (o : Option Spot) (s : List ℕ) (b : ℕ) → after_all o (s ++ b ∷ []) ≡ option_and_then (λ x. after x b) (after_all o s)
runs_on o [] b = refl
runs_on o (c ∷ s) b = runs_on (option_and_then (λ x. after x c) o) s b

same_front : (x y z : Spot) (s t rest more : List ℕ) → s ++ rest ≡ t ++ more → after_all (Some x) s ≡ Some y → Stuck y rest → after_all (Some x) t ≡ Some z → Stuck z more → (y ≡ z) × (rest ≡ more)
same_front x y z [] [] rest more is runs stuck also blocked = (same_Some y z (sym runs ∙ also), is)
same_front x y z [] (b ∷ t) rest more is runs stuck also blocked = absurd (stuck_on x y z b t also (same_Some x y runs) (stuck b (t ++ more) is))
same_front x y z (b ∷ s) [] rest more is runs stuck also blocked = absurd (stuck_on x z y b s runs (same_Some x z also) (blocked b (s ++ rest) (sym is)))
same_front x y z (b ∷ s) (c ∷ t) rest more is runs stuck also blocked =
    let one : b ≡ c = cc is in
    let tail : s ++ rest ≡ t ++ more = cc is in
    first_step y z s t ((y ≡ z) × (rest ≡ more)) (after x b) runs (ap (λ d. after_all (after x d) t) one ∙ also) (λ q first second. same_front q y z s t rest more tail first stuck second blocked)

-- where details may end, what may follow them does not continue them
stop_stuck : (w : Within) (x : Spot) (b : ℕ) → (if is_quoted w then false else x.depth == 0) ≡ true → (b == 58) ≡ false → ((x.depth == 0) ≡ true → in_parameter x b ≡ None) → after_in w x b ≡ None
stop_stuck within.Front x b closed no_colon none = rw no_colon refl
stop_stuck within.Quoted x b closed no_colon none = cc closed
stop_stuck within.First x b closed no_colon none = none closed
stop_stuck within.AfterE x b closed no_colon none = none closed
stop_stuck within.AfterEx x b closed no_colon none = none closed
stop_stuck within.Later x b closed no_colon none = none closed

closed_byte : (x : Spot) (b : ℕ) (rest : List ℕ) → after x b ≡ None → Stuck x (b ∷ rest)
closed_byte x b rest none c more is = let same : b ≡ c = cc is in subst (λ d. after x d ≡ None) same none

closed_stuck : (x : Spot) → is_closed x ≡ true → (rest : List ℕ) → is_stop rest ≡ true → Stuck x rest
unfolding is_closed after in_parameter
closed_stuck x closed =
    by_stop (Stuck x) (λ b more is. cc is) (λ rest. closed_byte x 32 rest (stop_stuck x.within x 32 closed refl (λ d. refl)))
    (λ rest. closed_byte x 44 rest (stop_stuck x.within x 44 closed refl (λ d. rw d refl)))
    (λ rest. closed_byte x 41 rest (stop_stuck x.within x 41 closed refl (λ d. rw d refl)))
    (λ rest. closed_byte x 59 rest (stop_stuck x.within x 59 closed refl (λ d. refl)))

-- the same text, and the same place after it
same_details : (x : Spot) (s t rest more : List ℕ) → s ++ rest ≡ t ++ more → after_all (Some first_spot) s ≡ Some x → Stuck x rest → (k : ℕ) (is_timed : Bool) → AreDetails k is_timed t → is_stop more ≡ true
    → (is_timed ≡ x.is_timed) × (is_closed x ≡ true) × (rest ≡ more)
same_details x s t rest more is runs stuck k is_timed (last, also, closed, timed) e =
    let r = same_front first_spot x last s t rest more is runs stuck also (closed_stuck last closed more e) in
    (timed ∙ ap (λ q. q.is_timed) (sym r.0), subst (λ q. is_closed q ≡ true) (sym r.0) closed, r.1)

module _ (line : List ℕ) (at : ℕ) (last : Spot) (rest : List ℕ) (longest : IsLongest (drop at line) last rest) where
  pub details_found : at ≤ length line → is_closed last ≡ true → is_stop rest ≡ true → Found AreDetails DetailsEnd line at last.is_timed (at + length longest.front)
  details_found less closed stop =
      let r = stands_at AreDetails DetailsEnd line at last.is_timed longest.front rest less longest.joined (last, longest.runs, closed, refl) stop in (
        r.0,
        λ c u others h is e.
            let same = same_details last longest.front u rest others (sym longest.joined ∙ h) longest.runs longest.stuck (suc at) c is e in
            (same.0, sym same.2 ∙ r.1),
      )

  pub details_nowhere : (is_closed last ≡ true → is_stop rest ≡ true → ⊥) → Nowhere AreDetails DetailsEnd line at
  details_nowhere bad c u others h is e =
      let same = same_details last longest.front u rest others (sym longest.joined ∙ h) longest.runs longest.stuck (suc at) c is e in
      bad same.1 (subst (λ l. is_stop l ≡ true) (sym same.2) e)

  -- where they end, counted from the line's end
  pub details_next : at ≤ length line → length line - length rest ≡ at + length longest.front
  details_next less =
      let size : length (drop at line) ≡ length longest.front + length rest = ap length longest.joined ∙ length-append longest.front rest in
      let all = length-drop at line in
      omega arith

  pub details_rest : at ≤ length line → drop (length line - length rest) line ≡ rest
  details_rest less =
      let place = details_next less in
      ap (λ n. drop n line) (place ∙ omega arith) ∙ sym (drop-drop (length longest.front) at line) ∙ ap (drop (length longest.front)) longest.joined ∙ drop-append_seam longest.front rest

pub details_alone : Alone AreDetails DetailsEnd
details_alone line at less a n s b u rest h is e =
    let (last, runs, closed, timed) = s.spelled in
    let same = same_details last s.text u (drop n line) rest (sym s.joined ∙ h) runs (closed_stuck last closed (drop n line) s.ended) (suc at) b is e in
    (same.0 ∙ sym timed, sym same.2)

-- details begin with a colon, or there are none
front_byte : (b : ℕ) (s : List ℕ) (x : Spot) → after_all (Some first_spot) (b ∷ s) ≡ Some x → b ≡ 58
unfolding after
front_byte b s x runs = elim (cases_Bool (b == 58)) [
  | inl e ↦ eqb-true b 58 e
  | inr e ↦ cc (sym (none_runs s) ∙ rw e at runs)
]

details_after : (t : Tree) (k : ℕ) (is_timed : Bool) (s rest : List ℕ) → AreDetails k is_timed s → is_stop rest ≡ true → ExprEnds t (s ++ rest)
details_after t k is_timed [] rest is e = expr_stop t rest e
details_after t k is_timed (b ∷ s) rest is e = subst (λ c. ExprEnds t (c ∷ (s ++ rest))) (sym (front_byte b s is.0 is.1)) (colon_ends t (s ++ rest))

-- a device with its details
pub device_parts : (line : List ℕ) (at : ℕ) → Parts line at IsValue ExprEnds (λ t. AreDetails) (λ t. DetailsEnd) IsDevice DeviceEnds (λ t is_timed. (t, is_timed))
device_parts line at = record {
  into = λ t is_timed s r one two. (s, r, refl, one, two);
  ends = λ t is_timed k r rest is before e. e;
  apart = λ c u rest h (s, r, is, one, two) e. (c.0, c.1, s, r, is, refl, one, two, details_after (c.0) (suc at + length s) (c.1) r rest two e, e);
}
