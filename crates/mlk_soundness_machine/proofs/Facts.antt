-- The invariants of a job, by its first task.
use Rattle.std.proofs.Common.{◌≡◌, ℕ, true, false, List, [], ◌∷◌, ◌++◌, Some, None, refl, sym, ap, ◌∙◌, subst}
use Rattle.mlk_names.specs.Lists.{Among}
use Rattle.mlk_names.specs.References.{Touch}
use Rattle.mlk_walk_state.specs.Scope.{Scope, has_entry, listed}
use Rattle.mlk_program.specs.declared.entry.EntryId.{EntryId}
use Rattle.mlk_syntax.specs.declared.expr.Callee.{Callee}
use Rattle.mlk_syntax.specs.ExprTrees.{ActualTree}
use Rattle.mlk_machine_locks.specs.Waiting.{awaited}
use Rattle.mlk_machine_jobs.specs.Tasks as task
use Rattle.mlk_machine_jobs.specs.Tasks.{Task, Job, LineTree, RunLines, RunCommands}
use Rattle.mlk_machine_jobs.specs.Runs.{next_claim}
use Rattle.mlk_machine_jobs.specs.Seen.{ready_in}
use Rattle.mlk_machine_laws.specs.Moments.{IsCoveredAt, EndsEmpty}
use Rattle.mlk_rules.specs.declared.rules.RuleLists.{RuleLists}
use Rattle.mlk_syntax.specs.Trees.{ActionTree, CommandTrees, LineTrees, line}
use Rattle.mlk_program.specs.Entries.{as_lines, target_of}
use Rattle.mlk_cert_parts.specs.declared.case.Case.{Case}
use Rattle.mlk_soundness_machine.specs.Described.{World, Level, bare, idle, Stands}
use Rattle.mlk_soundness_machine.specs.Facts.{Facts}
use Rattle.mlk_soundness_machine.specs.Listed.{IsAtLine, IsAtRound, IsInside}
use Rattle.mlk_soundness_machine.specs.Places.{line_number, StandIn, none_follows, open_round, arguments_from, ComesTo, ComesAfter}
use Rattle.mlk_soundness_machine.proofs.Listing.{own_lines, is_at_line, BeginsRound, is_at_round, is_inside, begins_lines, begins_commands, starts_listed, no_start, no_line, no_round, no_command, ends_argument, starts_job, no_argument, no_start_of_job}
use Rattle.mlk_soundness_machine.specs.Safe.{KeepsIn, is_quiet, is_plain}

no_touch : (t : Task) (ts : List Task) → is_quiet t ≡ true → ready_in (t ∷ ts) ≡ None
no_touch (task.DoTouch touch) ts h = cc
no_touch t ts h = refl

no_claim : (t : Task) (ts : List Task) → is_quiet t ≡ true → next_claim (t ∷ ts) ≡ None
no_claim (task.Claim names timed) ts h = cc
no_claim t ts h = refl

not_ended : (j : Job) (t : Task) (ts : List Task) → j.tasks ≡ t ∷ ts → EndsEmpty j
not_ended j t ts e ended = let z : [] ≡ t ∷ ts = sym ended.0 ∙ e in cc

quiet_facts : (rules : RuleLists) (j : Job) (t : Task) (ts : List Task) → j.tasks ≡ t ∷ ts → is_quiet t ≡ true → Facts rules j
quiet_facts rules j t ts e h = record {
  covered = λ u r. let z : None ≡ Some u = sym (no_touch t ts h) ∙ sym (ap ready_in e) ∙ r in cc;
  in_order = λ n i.
      let z : next_claim j.tasks ≡ None = ap next_claim e ∙ no_claim t ts h in
      let k : Among n (awaited (next_claim j.tasks)) = i in
      absurd (subst (λ o. Among n (awaited o)) z k);
  ends = not_ended j t ts e;
}

plain_quiet : (t : Task) → is_plain t ≡ true → is_quiet t ≡ true
plain_quiet (task.DoTouch touch) h = h
plain_quiet (task.Claim names timed) h = h
plain_quiet (RunLines (l ∷ lines)) h = refl
plain_quiet (RunCommands rest block) h = refl
plain_quiet (task.NextArgument action count) h = refl
plain_quiet (task.StartJob callee given) h = refl
plain_quiet t h = refl

plain_lines : (t : Task) (ts : List Task) → is_plain t ≡ true → begins_lines (t ∷ ts) ≡ false
plain_lines (RunLines (l ∷ lines)) ts h = cc
plain_lines t ts h = refl

plain_commands : (t : Task) (ts : List Task) → is_plain t ≡ true → begins_commands (t ∷ ts) ≡ false
plain_commands (RunCommands rest block) ts h = cc
plain_commands t ts h = refl

plain_arguments : (t : Task) (ts : List Task) → is_plain t ≡ true → ends_argument (t ∷ ts) ≡ false
plain_arguments (task.NextArgument action count) ts h = cc
plain_arguments t ts h = refl

plain_jobs : (t : Task) (ts : List Task) → is_plain t ≡ true → starts_job (t ∷ ts) ≡ false
plain_jobs (task.StartJob callee given) ts h = cc
plain_jobs t ts h = refl

pub plain_facts : (sc : Scope) (w : World) (b : Level) (j : Job) (t : Task) (ts : List Task) → j.tasks ≡ t ∷ ts → is_plain t ≡ true → KeepsIn sc w b j
plain_facts sc w b j t ts e h k = record {
  facts = quiet_facts sc.rules j t ts e (plain_quiet t h);
  starts = no_start sc.routines sc.blocks w.begun j (t ∷ ts) e (plain_commands t ts h);
  lines = no_line sc.routines sc.blocks w.begun j (t ∷ ts) e (plain_lines t ts h);
  rounds = no_round sc.routines sc.blocks w.begun j (t ∷ ts) e (plain_commands t ts h);
  inside = no_command sc.routines sc.rules (sc.blocks, sc.declared_entries) w.begun j (t ∷ ts) e (plain_commands t ts h);
  between = no_argument sc.routines sc.rules (sc.blocks, sc.declared_entries) w.begun j (t ∷ ts) e (plain_arguments t ts h);
  jobs = no_start_of_job sc.routines sc.declared_entries j (t ∷ ts) e (plain_jobs t ts h);
}

-- if it moves on to a line, and if commands begin
pub lines_facts : (sc : Scope) (w : World) (b : Level) (j : Job) (l : LineTree) (lines : List LineTree) (ts : List Task) → j.tasks ≡ RunLines (l ∷ lines) ∷ ts
    → (c : Case) → Among c (listed sc (line_number l.0) 0) → (behind : LineTrees) → StandIn (line l.0 l.1 behind) (own_lines sc w) → (others : List LineTree) → lines ≡ as_lines behind ++ others → none_follows others ≡ true
    → Stands sc w b c (bare (idle j)) → KeepsIn sc w b j
lines_facts sc w b j l lines ts e c i behind is others ahead none d k = record {
  facts = quiet_facts sc.rules j (RunLines (l ∷ lines)) ts e refl;
  starts = no_start sc.routines sc.blocks w.begun j (RunLines (l ∷ lines) ∷ ts) e refl;
  lines = λ m more us at.
      let z : RunLines (l ∷ lines) ∷ ts ≡ RunLines (m ∷ more) ∷ us = sym e ∙ at in
      let same : l ≡ m = (let y = z in cc) in
      let others_same : lines ≡ more = (let y = z in cc) in
      subst (λ q. IsAtLine sc.routines sc.blocks q more w.begun j) same
      (subst (λ q. IsAtLine sc.routines sc.blocks l q w.begun j) others_same (is_at_line sc w b c l lines i behind is others ahead none j k.marks k.begun d));
  rounds = no_round sc.routines sc.blocks w.begun j (RunLines (l ∷ lines) ∷ ts) e refl;
  inside = no_command sc.routines sc.rules (sc.blocks, sc.declared_entries) w.begun j (RunLines (l ∷ lines) ∷ ts) e refl;
  between = no_argument sc.routines sc.rules (sc.blocks, sc.declared_entries) w.begun j (RunLines (l ∷ lines) ∷ ts) e refl;
  jobs = no_start_of_job sc.routines sc.declared_entries j (RunLines (l ∷ lines) ∷ ts) e refl;
}

pub commands_facts : (sc : Scope) (w : World) (b : Level) (j : Job) (cs : CommandTrees) (here : LineTree) (ts : List Task) → j.tasks ≡ RunCommands cs here ∷ ts
    → (c : Case) → ComesTo sc (own_lines sc w) cs here ts c → (open_round ts ≡ Some cs → BeginsRound sc (own_lines sc w) cs here ts c)
    → Stands sc w b c (bare (idle j)) → KeepsIn sc w b j
commands_facts sc w b j cs here ts e c comes round d k = record {
  facts = quiet_facts sc.rules j (RunCommands cs here) ts e refl;
  starts = starts_listed sc w b j k;
  lines = no_line sc.routines sc.blocks w.begun j (RunCommands cs here ∷ ts) e refl;
  rounds = λ rest inner t us at is.
      let z : RunCommands cs here ∷ ts ≡ RunCommands rest inner ∷ t ∷ us = sym e ∙ at in
      let same : cs ≡ rest = (let y = z in cc) in
      let its : here ≡ inner = (let y = z in cc) in
      let behind : ts ≡ t ∷ us = (let y = z in cc) in
      let r = round (ap open_round behind ∙ is ∙ ap (λ q. Some q) (sym same)) in
      subst (λ q. IsAtRound sc.routines sc.blocks q inner (t ∷ us) w.begun j) same
      (subst (λ q. IsAtRound sc.routines sc.blocks cs q (t ∷ us) w.begun j) its
      (subst (λ q. IsAtRound sc.routines sc.blocks cs here q w.begun j) behind (is_at_round sc w b cs here ts c r j k.marks k.begun d)));
  inside = λ left inner us at.
      let z : RunCommands cs here ∷ ts ≡ RunCommands left inner ∷ us = sym e ∙ at in
      let same : cs ≡ left = (let y = z in cc) in
      let its : here ≡ inner = (let y = z in cc) in
      let behind : ts ≡ us = (let y = z in cc) in
      subst (λ q. IsInside sc.routines sc.rules (sc.blocks, sc.declared_entries) (λ z lines x. ComesTo z lines q inner us x) w.begun j) same
      (subst (λ q. IsInside sc.routines sc.rules (sc.blocks, sc.declared_entries) (λ z lines x. ComesTo z lines cs q us x) w.begun j) its
      (subst (λ q. IsInside sc.routines sc.rules (sc.blocks, sc.declared_entries) (λ z lines x. ComesTo z lines cs here q x) w.begun j) behind (is_inside sc w b (λ z lines x. ComesTo z lines cs here ts x) c comes j k.marks k.begun d)));
  between = no_argument sc.routines sc.rules (sc.blocks, sc.declared_entries) w.begun j (RunCommands cs here ∷ ts) e refl;
  jobs = no_start_of_job sc.routines sc.declared_entries j (RunCommands cs here ∷ ts) e refl;
}

-- after an argument of a command
cancelled : (xs ys zs : List Task) → xs ++ ys ≡ xs ++ zs → ys ≡ zs
cancelled [] ys zs h = h
cancelled (x ∷ xs) ys zs h = cancelled xs ys zs (let z : x ∷ (xs ++ ys) ≡ x ∷ (xs ++ zs) = h in cc)

pub argument_facts : (sc : Scope) (w : World) (b : Level) (j : Job) (action : ActionTree) (count : ℕ) (left : CommandTrees) (here : LineTree) (ts : List Task)
    → j.tasks ≡ task.NextArgument action count ∷ (arguments_from action count ++ RunCommands left here ∷ ts)
    → (c : Case) → ComesAfter sc (own_lines sc w) action count left here ts c → Stands sc w b c (bare (idle j)) → KeepsIn sc w b j
argument_facts sc w b j action count left here ts e c comes d k =
    let more : List Task = arguments_from action count ++ RunCommands left here ∷ ts in
    record {
      facts = quiet_facts sc.rules j (task.NextArgument action count) more e refl;
      starts = no_start sc.routines sc.blocks w.begun j (task.NextArgument action count ∷ more) e refl;
      lines = no_line sc.routines sc.blocks w.begun j (task.NextArgument action count ∷ more) e refl;
      rounds = no_round sc.routines sc.blocks w.begun j (task.NextArgument action count ∷ more) e refl;
      inside = no_command sc.routines sc.rules (sc.blocks, sc.declared_entries) w.begun j (task.NextArgument action count ∷ more) e refl;
      between = λ act n last on us at.
          let z : task.NextArgument action count ∷ more ≡ task.NextArgument act n ∷ (arguments_from act n ++ RunCommands last on ∷ us) = sym e ∙ at in
          let same : act ≡ action = (let y = z in cc) in
          let many : n ≡ count = (let y = z in cc) in
          let behind : more ≡ arguments_from act n ++ RunCommands last on ∷ us = (let y = z in cc) in
          let rests : more ≡ arguments_from action count ++ RunCommands last on ∷ us = behind ∙ ap (λ q. arguments_from q n ++ RunCommands last on ∷ us) same ∙ ap (λ q. arguments_from action q ++ RunCommands last on ∷ us) many in
          let x : RunCommands left here ∷ ts ≡ RunCommands last on ∷ us = cancelled (arguments_from action count) (RunCommands left here ∷ ts) (RunCommands last on ∷ us) rests in
          let its : left ≡ last = (let y = x in cc) in
          let line_is : here ≡ on = (let y = x in cc) in
          let after : ts ≡ us = (let y = x in cc) in
          subst (λ q. IsInside sc.routines sc.rules (sc.blocks, sc.declared_entries) (λ y lines x. ComesAfter y lines q n last on us x) w.begun j) (sym same)
          (subst (λ q. IsInside sc.routines sc.rules (sc.blocks, sc.declared_entries) (λ y lines x. ComesAfter y lines action q last on us x) w.begun j) (sym many)
          (subst (λ q. IsInside sc.routines sc.rules (sc.blocks, sc.declared_entries) (λ y lines x. ComesAfter y lines action count q on us x) w.begun j) its
          (subst (λ q. IsInside sc.routines sc.rules (sc.blocks, sc.declared_entries) (λ y lines x. ComesAfter y lines action count left q us x) w.begun j) line_is
          (subst (λ q. IsInside sc.routines sc.rules (sc.blocks, sc.declared_entries) (λ y lines x. ComesAfter y lines action count left here q x) w.begun j) after
          (is_inside sc w b (λ y lines x. ComesAfter y lines action count left here ts x) c comes j k.marks k.begun d)))));
      jobs = no_start_of_job sc.routines sc.declared_entries j (task.NextArgument action count ∷ more) e refl;
    }

-- if JOB starts a declared entry
pub job_facts : (sc : Scope) (w : World) (b : Level) (j : Job) (callee : Callee) (given : List ActualTree) (ts : List Task) → j.tasks ≡ task.StartJob callee given ∷ ts
    → (e : EntryId) → target_of sc.routines j.routine callee ≡ Some e → has_entry sc.declared_entries e ≡ true → KeepsIn sc w b j
job_facts sc w b j callee given ts at e is declared k = record {
  facts = quiet_facts sc.rules j (task.StartJob callee given) ts at refl;
  starts = no_start sc.routines sc.blocks w.begun j (task.StartJob callee given ∷ ts) at refl;
  lines = no_line sc.routines sc.blocks w.begun j (task.StartJob callee given ∷ ts) at refl;
  rounds = no_round sc.routines sc.blocks w.begun j (task.StartJob callee given ∷ ts) at refl;
  inside = no_command sc.routines sc.rules (sc.blocks, sc.declared_entries) w.begun j (task.StartJob callee given ∷ ts) at refl;
  between = no_argument sc.routines sc.rules (sc.blocks, sc.declared_entries) w.begun j (task.StartJob callee given ∷ ts) at refl;
  jobs = λ other passed us to.
      let z : task.StartJob callee given ∷ ts ≡ task.StartJob other passed ∷ us = sym at ∙ to in
      let same : callee ≡ other = (let y = z in cc) in
      (e, subst (λ q. target_of sc.routines j.routine q ≡ Some e) same is, declared);
}

touching : (rules : RuleLists) (j : Job) (t : Touch) (ts : List Task) → j.tasks ≡ task.DoTouch t ∷ ts → IsCoveredAt rules j t → Facts rules j
touching rules j t ts e h = record {
  covered = λ u r. (let z : Some t ≡ Some u = sym (ap ready_in e) ∙ r in let y : t ≡ u = cc in subst (IsCoveredAt rules j) y h);
  in_order = λ n i.
      let z : next_claim j.tasks ≡ None = ap next_claim e in
      absurd (subst (λ o. Among n (awaited o)) z i);
  ends = not_ended j (task.DoTouch t) ts e;
}

pub touch_facts : (sc : Scope) (w : World) (b : Level) (j : Job) (t : Touch) (ts : List Task) → j.tasks ≡ task.DoTouch t ∷ ts → IsCoveredAt sc.rules j t → KeepsIn sc w b j
touch_facts sc w b j t ts e h k = record {
  facts = touching sc.rules j t ts e h;
  starts = no_start sc.routines sc.blocks w.begun j (task.DoTouch t ∷ ts) e refl;
  lines = no_line sc.routines sc.blocks w.begun j (task.DoTouch t ∷ ts) e refl;
  rounds = no_round sc.routines sc.blocks w.begun j (task.DoTouch t ∷ ts) e refl;
  inside = no_command sc.routines sc.rules (sc.blocks, sc.declared_entries) w.begun j (task.DoTouch t ∷ ts) e refl;
  between = no_argument sc.routines sc.rules (sc.blocks, sc.declared_entries) w.begun j (task.DoTouch t ∷ ts) e refl;
  jobs = no_start_of_job sc.routines sc.declared_entries j (task.DoTouch t ∷ ts) e refl;
}
