-- GOTO of a line of the entry, in a case that is listed at it: one step, after which the lines from there on are safe.
use Rattle.std.proofs.Common.{◌≡◌, ℕ, suc, true, List, [], ◌∷◌, Option, Some, None, refl, sym, ap, ◌∙◌, subst, arith}
use Rattle.std.specs.Prelude.{◌==◌, option_and_then}
use Rattle.mlk_program.specs.Entries.{target_of}
use Rattle.mlk_program.specs.declared.entry.EntryId.{EntryId}
use Rattle.mlk_syntax.specs.declared.expr.Callee.{Callee}
use Rattle.mlk_syntax.specs.Trees.{RoutineTree}
use Rattle.mlk_cert_parts.specs.declared.case.Case.{Case}
use Rattle.mlk_machine_locks.specs.declared.refusal.Refusal.TheVariants.{NotEnabled}
use Rattle.mlk_machine_jobs.specs.Calling.{lines_after, gone}
use Rattle.mlk_machine_jobs.specs.Choices.{doing}
use Rattle.mlk_machine_jobs.specs.Lines.{to_end}
use Rattle.mlk_machine_jobs.specs.Tasks as task
use Rattle.mlk_machine_jobs.specs.Tasks.{Task, Job, LineTree, RunLines}
use Rattle.mlk_walk_state.specs.declared.state.State.{State}
use Rattle.mlk_walk_state.specs.Cases.{is_listed}
use Rattle.mlk_walk_state.specs.Scope.{Scope, listed, line_within, own_line}
use Rattle.mlk_walk_lines.specs.Endings.{number_of}
use Rattle.mlk_soundness_machine.specs.Described.{World, Level, idle, Describes}
use Rattle.mlk_soundness_machine.proofs.Facts.{plain_facts}
use Rattle.mlk_soundness_machine.proofs.Going.{by_step, steady}
use Rattle.mlk_soundness_machine.proofs.Steps.{Comes, done, refused, unasked, of_if}
use Rattle.mlk_soundness_machine.proofs.Values.{Safe, Fits}
use Rattle.mlk_soundness_walk.specs.Commands.{Jumps}
use Rattle.mlk_soundness_walk.proofs.Lines.{at_rest_law}

-- a callee names a line of the entry at which the case is listed
pub record IsGoneTo (sc : Scope) (callee : Callee) (c : Case) : Type 0 where
  pub line : LineTree
  pub own : own_line sc callee ≡ Some line
  pub its : is_listed (listed sc (number_of line.0) 0) c ≡ true

module _ (routines : List RoutineTree) (sc : Scope) (same : sc.routines ≡ routines) (w : World) (b : Level) (n : ℕ) where
  pub goes_fit : (callee : Callee) (ts : List Task) (s : State) → IsGoneTo sc callee s.case → Jumps routines w b sc n (to_end ts) → Fits routines sc w b [] n (task.GoTo callee ∷ ts) s
  goes_fit callee ts s to jump j d tasks =
      by_step routines sc w b n j (task.GoTo callee ∷ ts) tasks (plain_facts sc w b j (task.GoTo callee) ts tasks refl) (λ m less free c.
      steady routines sc w b free c j (task.GoTo callee) ts refl m _ refl (unasked (Safe routines sc w b m) c _ (goes m less)))
    where
      target : target_of routines j.routine callee ≡ target_of sc.routines sc.own callee
      target = ap (λ r. target_of routines r callee) d.stands.routine ∙ ap (λ z. target_of z sc.own callee) (sym same)

      goes : (m : ℕ) → n ≡ suc m → Comes (Safe routines sc w b m) (gone routines (target_of routines j.routine callee) ts j)
      goes m less = on (target_of sc.routines sc.own callee) refl to.own
        where
          on : (o : Option EntryId) → target_of sc.routines sc.own callee ≡ o → option_and_then (line_within sc) o ≡ Some to.line
              → Comes (Safe routines sc w b m) (gone routines (target_of routines j.routine callee) ts j)
          on None e h = absurd (cc h)
          on (Some x) e h =
              subst (λ z. Comes (Safe routines sc w b m) (gone routines z ts j)) (sym (target ∙ e))
              (of_if (Safe routines sc w b m) (x.routine == j.routine) _ _
              (done (Safe routines sc w b m) (doing (RunLines (lines_after routines x) ∷ to_end ts) j)
              (jump m (omega (arith, less)) x to.line h s.case to.its (doing (RunLines (lines_after routines x) ∷ to_end ts) j) (at_rest_law sc w b s (idle j) d) refl))
              (refused (Safe routines sc w b m) NotEnabled))
