-- The calls of a program fit.
use Rattle.std.proofs.Common.{◌≡◌, refl, sym, ap, ◌∙◌, ℕ, List, Option, Some, None, Bool, true, false}
use Rattle.std.specs.Prelude.{option_map, option_and_then}
use Rattle.mlk_syntax.specs.declared.expr.Callee.{Callee}
use Rattle.mlk_syntax.specs.ExprTrees.{ActualTree}
use Rattle.mlk_syntax.specs.Trees.{RoutineTree, HeadTree, LineTrees, CallTree, Called}
use Rattle.mlk_program.specs.Entries.{formals_of, target_of, line_of_entry}
use Rattle.mlk_program.specs.Program.{calls_of, takes, arity_fault, fault_with, call_fault, AreResolved, IsProgram}
use Rattle.mlk_program.specs.Laws.{IsFitting, CallsFit}
use Rattle.mlk_program.specs.declared.entry.EntryId.{EntryId}

fits : (routines : List RoutineTree) (r column : ℕ) (callee : Callee) (given : Option (List ActualTree))
    → fault_with given (option_map (λ l. formals_of l.0) (option_and_then (line_of_entry routines) (target_of routines r callee))) ≡ None
    → IsFitting routines r (Called column callee given)
fits routines r column callee given h = entry (target_of routines r callee) refl h
  where
    taken : (b : Bool) → arity_fault b ≡ None → b ≡ true
    taken true k = refl
    taken false k = cc k

    line : (e : EntryId) (o : Option (HeadTree × LineTrees)) → target_of routines r callee ≡ Some e → line_of_entry routines e ≡ o
        → fault_with given (option_map (λ l. formals_of l.0) o) ≡ None → IsFitting routines r (Called column callee given)
    line e None is here k = cc k
    line e (Some l) is here k = (e, l, is, here, taken (takes (formals_of l.0) given) k)

    entry : (o : Option EntryId) → target_of routines r callee ≡ o
        → fault_with given (option_map (λ l. formals_of l.0) (option_and_then (line_of_entry routines) o)) ≡ None
        → IsFitting routines r (Called column callee given)
    entry None is k = cc k
    entry (Some e) is k = line e (line_of_entry routines e) is refl k

resolved : (routines : List RoutineTree) → IsProgram routines → AreResolved routines (calls_of routines)
unfolding IsProgram
resolved routines h = h.2

pub calls-fit : CallsFit
calls-fit routines p program h = go p.call refl (resolved routines program p h)
  where
    go : (c : CallTree) → p.call ≡ c → call_fault routines p ≡ None → IsFitting routines p.routine c
    go (Called column callee given) is k = fits routines p.routine column callee given
        (sym (ap (λ c. call_fault routines (record { routine = p.routine; line = p.line; call = c })) is) ∙ k)
