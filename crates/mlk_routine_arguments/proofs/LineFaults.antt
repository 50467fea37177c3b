-- Faults of a line: those that are created, and those that are passed on.
use Rattle.std.proofs.Common.{◌≡◌, ◌≤◌, ℕ, suc, Bool, true, false, length, List, sym, ap, ◌∙◌, arith, ◌==◌}
use Rattle.std.specs.Prelude.{Option, ◌||◌, ◌&&◌, nat_le, not, is_some}
use Rattle.std.proofs.Math.Nat.{min-le_left, le-min}
use Rattle.std.proofs.lemmas.Bool.Decides.{nat_tests}
use Rattle.mlk_text.specs.Codes.{number_of}
use Rattle.mlk_text.specs.Places.{column_at, greatest_column}
use Rattle.mlk_text.specs.declared.code.Code.{Code}
use Rattle.mlk_text.specs.declared.failure.Failure.{Failure}
use Rattle.mlk_text.specs.declared.failure.Failure.TheVariants.{OutOfMemory, Refused}
use Rattle.mlk_text.specs.declared.fault.Fault.{Fault}
use Rattle.mlk_text.specs.declared.fault.LeftOut.{LeftOut}
use Rattle.mlk_expr.specs.declared.context.Passing.{Passing}
use Rattle.mlk_expr.specs.Touches.{lends}
use Rattle.mlk_expr.specs.Theorem.{IsFault, Faults}
use Rattle.mlk_expr.specs.Theorem as expr
use Rattle.mlk_routine_arguments.specs.Faults.{RefusesAt, is_line_code, has_word, IsLineFault, IsFaulty}

column_first : (at : ℕ) → 1 ≤ column_at (suc at)
column_first at = le-min (omega arith) (omega arith)

-- a fault that is created
pub made_fault : (line : List ℕ) (code : Code) (left_out : Option LeftOut) (at : ℕ) (e : Failure Fault) → RefusesAt code left_out at e → is_line_code (number_of code) ≡ true → is_some left_out ≡ has_word (number_of code) → at ≤ length line → IsFaulty line e
made_fault line code left_out at OutOfMemory t coded worded less = absurd t
made_fault line code left_out at (Refused fault) t coded worded less =
    let place = t.placed in
    let low = min-le_left (suc at) greatest_column in
    let first = column_first at in
    record {
      coded = ap (λ c. is_line_code (number_of c)) t.coded ∙ coded;
      worded = ap (λ (o : Option LeftOut). is_some o) t.worded ∙ worded ∙ sym (ap (λ c. has_word (number_of c)) t.coded);
      first = omega (arith, place, first);
      last = omega (arith, place, low, less);
    }

no_command : (p : Passing) (n : ℕ) → expr.is_expression_code p n ≡ true → (n == 102) ≡ has_word n
no_command p n h = go (lends p) h
  where
    go : (b : Bool) → ((nat_le 101 n && nat_le n 104) || (not b && (n == 207))) ≡ true → (n == 102) ≡ has_word n
    go true h = grind (arith, nat_tests)
    go false h = grind (arith, nat_tests)

known : (p : Passing) (n : ℕ) → expr.is_expression_code p n ≡ true → is_line_code n ≡ true
known p n h = go (lends p) h
  where
    go : (b : Bool) → ((nat_le 101 n && nat_le n 104) || (not b && (n == 207))) ≡ true → is_line_code n ≡ true
    go true h = grind (arith, nat_tests)
    go false h = grind (arith, nat_tests)

-- a fault of what the readers of expressions read
pub expr_fault : (p : Passing) (line : List ℕ) (at : ℕ) (fault : Fault) → IsFault p line at fault → IsLineFault line fault
expr_fault p line at fault f =
    let first = column_first at in
    let after = f.after in
    record {
      coded = known p (number_of fault.code) f.coded;
      worded = f.worded ∙ no_command p (number_of fault.code) f.coded;
      first = omega (arith, first, after);
      last = f.within;
    }

pub expr_faulty : (p : Passing) (line : List ℕ) (at : ℕ) (e : Failure Fault) → Faults p line at e → IsFaulty line e
expr_faulty p line at OutOfMemory f = tt
expr_faulty p line at (Refused fault) f = expr_fault p line at fault f
