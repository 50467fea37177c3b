-- The start of a line.
use Rattle.std.proofs.Common.{◌≡◌, ◌<◌, ◌≤◌, ◌+◌, ◌-◌, ℕ, zero, suc, List, [], ◌∷◌, ◌++◌, length, drop, Some, None, Bool, true, false, inl, inr, refl, sym, ap, ◌∙◌, arith, subst, append_assoc, add-one}
use Rattle.std.specs.Prelude.{Option, ◌||◌, ◌==◌, ◌⊎◌}
use Rattle.std.proofs.lemmas.Bool.Decides.{nat_tests}
use Rattle.std.specs.List.{list_all}
use Rattle.std.proofs.lemmas.Bool.{cases_Bool, and_parts}
use Rattle.std.proofs.lemmas.Option.{same_Some}
use Rattle.mlk_expr.specs.Theorem.{Stands}
use Rattle.mlk_routine_arguments.specs.PartsRead.{Found, Nowhere, first_of, byte_at}
use Rattle.mlk_routine_arguments.specs.Ends.{IsRun, RunEnds, starts, is_commands_end}
use Rattle.mlk_routine.specs.RoutineGrammar.{is_blank, AreBlanks, ArePeriods, IsStart}
use Rattle.mlk_routine.specs.Lines.{is_lead, ArePeriodsHere, PeriodsEnd, IsOpening, OpeningEnds}
use Rattle.mlk_routine_arguments.proofs.Sequences.{Parts, Turned, next_is, not_after, both_found, turned_found}
use Rattle.mlk_routine_arguments.proofs.Bytes.{AfterByte, after_found, byte_before}

no_lead : (b : ℕ) → is_lead b ≡ false → is_blank b ≡ false
no_lead b h = go (is_blank b) h
  where
    go : (t : Bool) → (t || (b == 46)) ≡ false → t ≡ false
    go true h = cc h
    go false h = refl

no_lead_there : (rest : List ℕ) → starts is_lead rest ≡ false → starts is_blank rest ≡ false
no_lead_there [] h = refl
no_lead_there (b ∷ rest) h = no_lead b h

lead_from : (rest : List ℕ) → starts is_blank rest ≡ false → (first_of rest ≡ Some 46 → ⊥) → starts is_lead rest ≡ false
lead_from [] no_blank no_period = refl
lead_from (b ∷ rest) no_blank no_period = go (cases_Bool (b == 46))
  where
    go : ((b == 46) ≡ true) ⊎ ((b == 46) ≡ false) → starts is_lead (b ∷ rest) ≡ false
    go (inl e) = let same : b ≡ 46 = grind (arith, nat_tests, e) in absurd (no_period (ap (λ x. Some x) same))
    go (inr e) = rw (no_blank, e) refl

-- what follows periods
after_blanks : (n : ℕ) (t rest : List ℕ) → ArePeriods n t → PeriodsEnd n rest → starts is_blank (t ++ rest) ≡ false
after_blanks zero t rest is e = subst (λ l. starts is_blank (l ++ rest) ≡ false) (sym is) (no_lead_there rest e)
after_blanks (suc n) t rest (blanks, more, is, all, next) e = subst (λ l. starts is_blank (l ++ rest) ≡ false) (sym is) refl

module _ (line : List ℕ) (at : ℕ) where
  -- a period and its blanks, before more periods
  pub period_parts : byte_at line at ≡ Some 46 → Parts line at (AfterByte 46 (IsRun is_blank)) (RunEnds is_blank) (λ u. ArePeriodsHere) (λ u. PeriodsEnd) ArePeriodsHere PeriodsEnd (λ u n. suc n)
  period_parts here = record {
    into = λ u n s t (blanks, is, all) more. (blanks, t, ap (λ l. l ++ t) is, all, more);
    ends = λ u n k t rest is before after. after;
    apart = λ c u rest h is e. go c u rest h is e;
  }
    where
      go : (c : ℕ) (u rest : List ℕ) → drop at line ≡ u ++ rest → ArePeriods c u → PeriodsEnd c rest
          → (a : Unit {0}) × (n : ℕ) × (s t : List ℕ) × (u ≡ s ++ t) × (c ≡ suc n) × AfterByte 46 (IsRun is_blank) (suc at) a s × ArePeriods n t × (starts is_blank (t ++ rest) ≡ false) × PeriodsEnd n rest
      go zero u rest h is e =
          let byte : first_of rest ≡ Some 46 = sym (ap first_of (h ∙ ap (λ l. l ++ rest) is)) ∙ here in
          absurd (bad rest byte e)
        where
          bad : (l : List ℕ) → first_of l ≡ Some 46 → starts is_lead l ≡ false → ⊥
          bad [] byte e = cc byte
          bad (b ∷ l) byte e = let same = same_Some b 46 byte in cc (sym e ∙ ap is_lead same)
      go (suc n) u rest h (blanks, more, is, all, next) e = (tt, n, 46 ∷ blanks, more, is, refl, (blanks, refl, all), next, after_blanks n more rest next e, e)

  none_more : at ≤ length line → starts is_blank (drop at line) ≡ false → (byte_at line at ≡ Some 46 → ⊥) → Found ArePeriodsHere PeriodsEnd line at 0 at
  none_more less no_blank no_period = (stands, λ c u rest h is e. only c u rest h is e)
    where
      stands : Stands ArePeriodsHere PeriodsEnd line at 0 at
      stands = record { text = []; within = less; joined = refl; spelled = refl; ended = lead_from (drop at line) no_blank no_period }

      only : (c : ℕ) (u rest : List ℕ) → drop at line ≡ u ++ rest → ArePeriods c u → PeriodsEnd c rest → (c ≡ 0) × (rest ≡ drop at line)
      only zero u rest h is e = (refl, sym (h ∙ ap (λ l. l ++ rest) is))
      only (suc n) u rest h (blanks, more, is, all, next) e = absurd (no_period (ap first_of (h ∙ ap (λ l. l ++ rest) is)))

-- Periods some of which were read.
pub record PeriodsSoFar (line : List ℕ) (at count next : ℕ) : Type 0 where
  pub within : next ≤ length line
  pub few : count ≤ next
  pub blank : starts is_blank (drop next line) ≡ false
  pub found : (more n : ℕ) → Found ArePeriodsHere PeriodsEnd line next more n → Found ArePeriodsHere PeriodsEnd line at (count + more) n

pub periods_begin : (line : List ℕ) (at : ℕ) → at ≤ length line → starts is_blank (drop at line) ≡ false → PeriodsSoFar line at 0 at
periods_begin line at less none = record {
  within = less;
  few = omega arith;
  blank = none;
  found = λ more n f. let e : more ≡ 0 + more = omega arith in subst (λ k. Found ArePeriodsHere PeriodsEnd line at k n) e f;
}

module _ (line : List ℕ) (at count next : ℕ) (l : PeriodsSoFar line at count next) where
  module _ (here : byte_at line next ≡ Some 46) (end : ℕ) (run : Found (IsRun is_blank) (RunEnds is_blank) line (next + 1) tt end) where
    far : next + 1 ≤ end
    far =
        let size = byte_before line next 46 here in
        not_after (IsRun is_blank) (RunEnds is_blank) line (next + 1) tt end run.0 (omega (arith, size))

    pub one_period : PeriodsSoFar line at (count + 1) end
    one_period =
        let enough = l.few in
        record {
          within = run.0.within;
          few = omega (arith, far, enough);
          blank = run.0.ended;
          found = λ more n f.
              let one = after_found (IsRun is_blank) (RunEnds is_blank) line next 46 here tt end run in
              let both = both_found (period_parts line next here) l.within tt more end n one f in
              let e : count + suc more ≡ count + 1 + more = omega arith in
              subst (λ k. Found ArePeriodsHere PeriodsEnd line at k n) e (l.found (suc more) n both);
        }

    pub periods_nearer : length line - end < length line - next
    periods_nearer = let size = byte_before line next 46 here in omega (arith, size, far)

  pub all_periods : (byte_at line next ≡ Some 46 → ⊥) → Found ArePeriodsHere PeriodsEnd line at count next
  all_periods missing =
      let e : count + 0 ≡ count = omega arith in
      subst (λ k. Found ArePeriodsHere PeriodsEnd line at k next) e (l.found 0 next (none_more line next l.within l.blank missing))

-- blanks, at least one
abbrev pub SomeBlanks : ℕ → Unit {0} → List ℕ → Type 0
SomeBlanks at u s = AreBlanks s × (0 < length s)

blank_first : (s rest : List ℕ) → AreBlanks s → 0 < length s → starts is_blank (s ++ rest) ≡ true
blank_first [] rest all some = absurd (omega (arith, some))
blank_first (b ∷ s) rest all some = (and_parts (is_blank b) (list_all is_blank s) all).0

start_first : (n : ℕ) (s rest : List ℕ) → IsStart n s → starts is_blank (s ++ rest) ≡ true
start_first n s rest (blanks, more, is, some, all, next) =
    ap (λ l. starts is_blank (l ++ rest)) is ∙ ap (starts is_blank) (append_assoc blanks more rest) ∙ blank_first blanks (more ++ rest) all some

blank_no_end : (l : List ℕ) → starts is_blank l ≡ true → is_commands_end l ≡ true → ⊥
blank_no_end [] blank end = cc blank
blank_no_end (b ∷ l) blank end = let e : b ≡ 59 = grind (arith, nat_tests, end) in cc (sym blank ∙ ap is_blank e)

module _ (line : List ℕ) (at : ℕ) (less : at ≤ length line) (blank : ℕ) (run : Found (IsRun is_blank) (RunEnds is_blank) line at tt blank) where
  blanks_found : at < blank → Found SomeBlanks (RunEnds is_blank) line at tt blank
  blanks_found some =
      let place = next_is line run.0.text at blank less run.0.within run.0.joined in
      let stands : Stands SomeBlanks (RunEnds is_blank) line at tt blank = record { text = run.0.text; within = run.0.within; joined = run.0.joined; spelled = (run.0.spelled, omega (arith, place, some)); ended = run.0.ended } in
      (stands, λ c u rest h is e. run.1 c u rest h is.0 e)

  pub start_parts : Parts line at SomeBlanks (RunEnds is_blank) (λ u. ArePeriodsHere) (λ u. PeriodsEnd) (λ k n s. IsStart n s) PeriodsEnd (λ u n. n)
  start_parts = record {
    into = λ u n s t is more. (s, t, refl, is.1, is.0, more);
    ends = λ u n k t rest is before after. after;
    apart = λ c u rest h (blanks, more, is, some, all, next) e. (tt, c, blanks, more, is, refl, (all, some), next, after_blanks c more rest next e, e);
  }

  pub opening_turned : at < blank → Turned line at (λ k n s. IsStart n s) PeriodsEnd IsOpening OpeningEnds (λ n. Some (suc n))
  opening_turned some = record {
    into = λ n s is. (n, refl, is);
    ends = λ n rest e. e;
    apart = λ c u rest h is e. go c u rest h is e;
  }
    where
      go : (c : Option ℕ) (u rest : List ℕ) → drop at line ≡ u ++ rest → IsOpening (suc at) c u → OpeningEnds c rest → (n : ℕ) × (c ≡ Some (suc n)) × IsStart n u × PeriodsEnd n rest
      go None u rest h is e =
          let f = blanks_found some in
          let first : starts is_blank (drop at line) ≡ true = ap (starts is_blank) f.0.joined ∙ blank_first f.0.text (drop blank line) f.0.spelled.0 f.0.spelled.1 in
          absurd (blank_no_end rest (sym (ap (starts is_blank) (h ∙ ap (λ l. l ++ rest) is)) ∙ first) e)
      go (Some level) u rest h (n, same, is) e = (n, ap (λ l. Some l) same, is, e)

  pub start_found : at < blank → (n next : ℕ) → Found ArePeriodsHere PeriodsEnd line blank n next → Found IsOpening OpeningEnds line at (Some (n + 1)) next
  start_found some n next f = subst (λ k. Found IsOpening OpeningEnds line at (Some k) next) (sym (add-one n)) (turned_found (opening_turned some) n next (both_found start_parts less tt n blank next (blanks_found some) f))

  no_blank : blank ≤ at → starts is_blank (drop at line) ≡ false
  no_blank none =
      let far = not_after (IsRun is_blank) (RunEnds is_blank) line at tt blank run.0 less in
      let same : blank ≡ at = omega (arith, far, none) in
      subst (λ k. starts is_blank (drop k line) ≡ false) same run.0.ended

  no_start : blank ≤ at → (n : ℕ) (u rest : List ℕ) → drop at line ≡ u ++ rest → IsStart n u → ⊥
  no_start none n u rest h is = cc (sym (no_blank none) ∙ ap (starts is_blank) h ∙ start_first n u rest is)

  pub no_opening : blank ≤ at → is_commands_end (drop at line) ≡ true → Found IsOpening OpeningEnds line at None at
  no_opening none end = (stands, λ c u rest h is e. only c u rest h is)
    where
      stands : Stands IsOpening OpeningEnds line at None at
      stands = record { text = []; within = less; joined = refl; spelled = refl; ended = end }

      only : (c : Option ℕ) (u rest : List ℕ) → drop at line ≡ u ++ rest → IsOpening (suc at) c u → (c ≡ None) × (rest ≡ drop at line)
      only None u rest h is = (refl, sym (h ∙ ap (λ l. l ++ rest) is))
      only (Some level) u rest h (n, same, is) = absurd (no_start none n u rest h is)

  pub opening_nowhere : blank ≤ at → is_commands_end (drop at line) ≡ false → Nowhere IsOpening OpeningEnds line at
  opening_nowhere none other c u rest h is e = go c is e
    where
      go : (c : Option ℕ) → IsOpening (suc at) c u → OpeningEnds c rest → ⊥
      go None is e = cc (sym other ∙ ap is_commands_end (h ∙ ap (λ l. l ++ rest) is) ∙ e)
      go (Some level) (n, same, is) e = no_start none n u rest h is
