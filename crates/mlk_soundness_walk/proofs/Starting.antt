-- A job that begins at a declared entry: the entry's lines are safe, from its begin to its end, with no lock held at the begin.
use Rattle.std.proofs.Common.{◌≡◌, ℕ, Bool, true, false, ◌+◌, List, [], ◌∷◌, ◌++◌, drop, reverse, Some, Ok, Err, refl, sym, ◌∙◌, subst, arith, ⊎_elim, inl, inr, Option, None}
use Rattle.std.specs.Prelude.{◌&&◌, if◌then◌else◌, nat_lt, length}
use Rattle.std.specs.List.{list_any}
use Rattle.std.proofs.lemmas.Bool.{cases_Bool, and_parts, or_left, or_right}
use Rattle.mlk_names.specs.Lists.{Among}
use Rattle.mlk_syntax.specs.Distinct.{AreDistinct}
use Rattle.mlk_syntax.specs.ExprTrees.{ActualTree}
use Rattle.mlk_syntax.specs.Trees.{RoutineTree, HeadTree, LineTrees}
use Rattle.mlk_names.specs.declared.lock_name.LockName.{LockName}
use Rattle.mlk_rules.specs.declared.rules.RuleLists.{RuleLists}
use Rattle.mlk_program.specs.declared.entry.EntryId.{EntryId}
use Rattle.mlk_cert_parts.specs.declared.block.EntryCert.{EntryCert}
use Rattle.mlk_cert_parts.specs.declared.case.ExitCase.{ExitCase}
use Rattle.mlk_machine_locks.specs.declared.refusal.Refusal.TheVariants.{NotEnabled, BadChoice}
use Rattle.mlk_machine_jobs.specs.Bindings.{Cell, Bindings, Cells, look, no_values}
use Rattle.mlk_machine_jobs.specs.Calling.{binders, with_actuals, count_given, formals_in, commands_in, lines_after, entered, back_to}
use Rattle.mlk_machine_jobs.specs.Choices.{last_values, doing}
use Rattle.mlk_machine_jobs.specs.Runs.{blank, present, by_value, formals_at, begun, is_job_number, machine}
use Rattle.mlk_machine_jobs.specs.Tasks.{Job, NoValue, AwaitsValue, LineTree, RunLines, RunCommands, EndFrame}
use Rattle.mlk_soundness_machine.specs.Moments.{AtEachMomentSince}
use Rattle.mlk_soundness_machine.specs.Marked.{Begun}
use Rattle.mlk_machine_laws.specs.Sharing.{is_lent}
use Rattle.mlk_machine_laws.proofs.Sharing.{ordered_binders}
use Rattle.mlk_machine_laws.proofs.Tidy.{binders_below}
use Rattle.mlk_walk_state.specs.Cases.{holds_some}
use Rattle.mlk_walk_state.specs.Names.{is_among}
use Rattle.mlk_walk_state.specs.Scope.{Scope, block_at, has_entry, is_declared}
use Rattle.mlk_walk_state.specs.States.{at_rest}
use Rattle.mlk_calls.specs.Order.{in_order}
use Rattle.mlk_walk_exprs.specs.declared.walk.Fault.{Fault}
use Rattle.mlk_walk.specs.Verdicts.{known, begin_case, leaves_some}
use Rattle.mlk_walk.specs.Reports.{report}
use Rattle.mlk_soundness_machine.specs.Described.{some_local, World, IsWorld, idle, Describes}
use Rattle.mlk_soundness_machine.specs.Listed.{FactsSince}
use Rattle.mlk_soundness_machine.specs.Reads.{now, times, mentions}
use Rattle.mlk_soundness_machine.specs.Safe.{SafeFor, KeepsTo}
use Rattle.mlk_soundness_machine.proofs.Calling.{none_held}
use Rattle.mlk_soundness_machine.proofs.Facts.{plain_facts}
use Rattle.mlk_soundness_machine.proofs.Killing.{ended_safe}
use Rattle.mlk_soundness_machine.proofs.Passing.{passes, binds_call, lent_call}
use Rattle.mlk_soundness_machine.proofs.Reading.{differs}
use Rattle.mlk_soundness_machine.proofs.Runs.{moments, stopped_facts}
use Rattle.mlk_soundness_machine.proofs.Steps.{done, unasked}
use Rattle.mlk_soundness_machine.proofs.Going.{end_step}
use Rattle.mlk_soundness_walk.specs.Entries.{first_level, scope, EndsFit, EntryFits}
use Rattle.mlk_soundness_walk.proofs.Entries.{own_formals, at_formals, at_others, low_formals, in_order_same, none_local, leaves_same}
use Rattle.mlk_soundness_walk.proofs.Reported.{clean_entry, certified_entry}

-- values pass no name
none_passed : (formals : List (List ℕ)) (values : List (Option (List ℕ))) (n : List ℕ) → passes formals (by_value values) n ≡ false
none_passed [] values n = refl
none_passed (f ∷ formals) [] n = none_passed formals [] n
none_passed (f ∷ formals) (None ∷ values) n = none_passed formals values n
none_passed (f ∷ formals) (Some v ∷ values) n = none_passed formals values n

none_mentioned : (x : List ℕ) → mentions x [] ≡ false
unfolding mentions
none_mentioned x = refl

no_fault : (x y : Bool) (f : Fault) → x ≡ true → (if x && y then f ∷ [] else []) ≡ [] → y ≡ false
no_fault x true f is h = let z : f ∷ [] ≡ [] = (rw is at h) in absurd (cc z)
no_fault x false f is h = refl

none_any : {A : Type 0} (p : A → Bool) (xs : List A) (x : A) → list_any p xs ≡ false → Among x xs → p x ≡ false
none_any p [] x h i = absurd i
none_any p (y ∷ ys) x h i =
    ⊎_elim
    (λ (e : x ≡ y). ⊎_elim (λ (u : p x ≡ true). differs (list_any p (y ∷ ys)) (or_left (p y) (list_any p ys) (subst (λ z. p z ≡ true) e u)) h) (λ (u : p x ≡ false). u) (cases_Bool (p x)))
    (λ (k : Among x ys). none_any p ys x (⊎_elim (λ (u : list_any p ys ≡ true). differs (list_any p (y ∷ ys)) (or_right (p y) (list_any p ys) u) h) (λ (u : list_any p ys ≡ false). u) (cases_Bool (list_any p ys))) k)
    i

module _ (routines : List RoutineTree) (rules : RuleLists) (blocks : List EntryCert) (clean : report routines rules blocks ≡ []) where
  abbrev entries : List (EntryId × EntryCert) × List EntryId
  entries = known routines rules blocks

  module _ (e : EntryId) (blk : EntryCert) (at : block_at (known routines rules blocks).0 e ≡ Some blk) (is : has_entry (known routines rules blocks).1 e ≡ true) where
    abbrev sc : Scope
    sc = scope routines rules (known routines rules blocks) e blk

    -- a declared entry needs nothing, and leaves nothing held
    needs_nothing : blk.summary.need ≡ []
    needs_nothing = none_held blk.summary.need (no_fault (has_entry (known routines rules blocks).1 e) (holds_some blk.summary.need) _ is (clean_entry routines rules blocks clean e blk at).needs)

    leaves_nothing : (x : ExitCase) → Among x blk.summary.exits → x.held ≡ []
    leaves_nothing x i =
        let none : list_any leaves_some blk.summary.exits ≡ false = no_fault (has_entry (known routines rules blocks).1 e) (list_any leaves_some blk.summary.exits) _ is (clean_entry routines rules blocks clean e blk at).exits in
        none_held x.held (none_any leaves_some blk.summary.exits x none i)

    -- the first frame, in a world without waiting frames
    module _ (head : HeadTree) (body : LineTrees) (lines : List LineTree) (heads : lines_after routines e ≡ (head, body) ∷ lines) (distinct : AreDistinct (formals_in head)) (k : ℕ) (test : Bool) (values : List (Option (List ℕ))) where
      abbrev given : List ActualTree
      given = by_value values

      abbrev front : Bindings
      front = binders [] 1 (formals_in head) given

      abbrev cells : Cells
      cells = with_actuals 1 (formals_in head) given (last_values (count_given given) (blank k test values)) no_values

      abbrev first : Job
      first = record (blank k test values) {
        routine = e.routine;
        bindings = front ++ [];
        next = 2;
        cells = cells;
        values = drop (count_given given) (reverse (present values));
        tasks = RunCommands (commands_in head) (head, body) ∷ RunLines lines ∷ EndFrame NoValue [] 1 0 ∷ [];
      }

      abbrev world : World
      world = record {
        number = k;
        back = [];
        waiting = [];
        saved = cells;
        values = drop (count_given given) (reverse (present values));
        formals = is_among (formals_in head);
        refs = λ x. false;
        snap = λ x. cells (look (front ++ []) x);
        begun = first ∷ [];
        entry = e;
      }

      is_world : IsWorld sc world
      is_world = record { nested = tt; rests = tt; quiet = λ n h. tt; ranks = λ low i m h. absurd (omega (arith, h)); drops = λ h m. refl }

      sole : (d : Cell) → is_lent (front ++ []) d ≡ false
      sole d = lent_call [] 1 (formals_in head) given [] d refl (λ n h z. differs (passes (formals_in head) given n) h (none_passed (formals_in head) values n))

      begins : Describes sc world (first_level world) [] (at_rest (begin_case blk.summary (formals_in head))) (idle first)
      begins = record {
        stands = record {
          test = tt;
          saved = tt;
          counts = λ m. rw needs_nothing refl;
          defined = λ x h. differs (mentions x []) (subst (λ z. mentions x z ≡ true) needs_nothing h) (none_mentioned x);
          frame = record { front = front; split = refl; bound = λ n. binds_call [] 1 (formals_in head) given n ∙ sym (own_formals (in_order (formals_in head)) n ∙ in_order_same (formals_in head) n) };
          block = record { front = front; split = refl; bound = λ n. binds_call [] 1 (formals_in head) given n ∙ sym (at_formals (in_order (formals_in head)) n ∙ own_formals (in_order (formals_in head)) n ∙ in_order_same (formals_in head) n) };
          outer = at_others (in_order (formals_in head));
          low = low_formals (in_order (formals_in head));
          formals = λ x h. at_formals (in_order (formals_in head)) x ∙ own_formals (in_order (formals_in head)) x ∙ in_order_same (formals_in head) x ∙ h;
          held_sole = λ x h. sole (look (front ++ []) x);
          kept_sole = λ x h r. sole (look (front ++ []) x);
          unshared = λ x h. sole (look (front ++ []) x);
          kept = λ x h r. refl;
          kept_formal = λ x h. sym (in_order_same (formals_in head) x) ∙ h;
          kept_out = λ x h l g. at_others (in_order (formals_in head)) l (λ i. omega (arith, i, g)) x;
          guarded = tt;
          numbered = refl;
          running = refl;
          routine = refl;
          ordered = ordered_binders [] 1 (formals_in head) given [] distinct (omega arith) (omega arith) tt;
          older = binders_below [] 1 (formals_in head) given [] (omega arith) (omega arith);
        };
        captured_sole = λ x h. differs (some_local x []) h (none_local x);
        values = refl;
      }

      abbrev AtEnd : ℕ → Job → Type 0
      AtEnd n i = (i.tasks ≡ []) × SafeFor routines (KeepsTo sc) n [] i

      -- at its end the job has nothing left to do, and holds nothing
      ends : (n : ℕ) → EndsFit routines rules (known routines rules blocks) sc world n NoValue [] 1 0 []
      ends n c x among leaves stays slots end (inr q) i d tasks = let z : NoValue ≡ AwaitsValue q.0 = q.1 in absurd (cc z)
      ends n c x among leaves stays slots end (inl q) i d tasks =
          let ended : i.tasks ≡ EndFrame NoValue [] 1 0 ∷ [] = subst (λ z. i.tasks ≡ EndFrame z [] 1 0 ∷ []) q.0 tasks in
          let held : c.held ≡ [] = (leaves_same c x leaves).0 ∙ leaves_nothing x among in
          let to : Job = doing [] (record (back_to [] 1 i) { routine = 0 }) in
          end_step routines sc world (first_level world) n i NoValue [] 1 0 [] ended (plain_facts sc world (first_level world) i (EndFrame NoValue [] 1 0) [] ended refl) (λ free y.
          unasked (AtEnd n) y (Ok to) (done (AtEnd n) to (
            refl,
            ended_safe routines sc world (first_level world) is_world n [] to refl (λ m. d.stands.counts m ∙ none_times i m held),
          )))
        where
          none_times : (i : Job) (m : LockName) → c.held ≡ [] → times (now i) c.held m + 0 ≡ 0
          none_times i m h = rw h refl

      begun_first : Begun sc world
      begun_first = record {
        block = blk;
        certified = at;
        scope = refl;
        first = first;
        others = [];
        since = refl;
        began = record { head = head; body = body; lines = lines; more = EndFrame NoValue [] 1 0 ∷ []; are = heads; tasks = refl };
        back = refl;
        values = λ x f r. (refl, refl);
        rests = tt;
        held = begins.stands.counts;
      }

      first_safe : ((n : ℕ) → EntryFits routines rules (known routines rules blocks) n) → (n : ℕ) → SafeFor routines (KeepsTo sc) n (first ∷ []) first
      unfolding begun_first
      first_safe each n = each n e blk at head body lines heads world is_world refl (λ x. refl) NoValue 1 0 [] (ends n) first begins refl begun_first refl refl (record { tests = refl; frames = refl })

  -- each job that begins is safe for each number of steps
  module _ (distinct : (e : EntryId) (head : HeadTree) (body : LineTrees) (lines : List LineTree) → lines_after routines e ≡ (head, body) ∷ lines → AreDistinct (formals_in head))
      (each : (n : ℕ) → EntryFits routines rules (known routines rules blocks) n) where
    begins_safe : (e : EntryId) (test : Bool) (values : List (Option (List ℕ))) (k : ℕ) (first : Job) → (machine routines (is_declared routines rules.entries)).begin e test values k ≡ Ok first
        → (n : ℕ) → SafeFor routines (FactsSince routines rules (known routines rules blocks)) n (first ∷ []) first
    begins_safe e test values k j h n =
        ⊎_elim
        (λ (d : (is_declared routines rules.entries e && is_job_number k) ≡ true).
        let g : begun routines e k test values ≡ Ok j = (rw d at h) in
        let b = certified_entry routines rules blocks clean e (and_parts (is_declared routines rules.entries e) (is_job_number k) d).0 in
        ⊎_elim
        (λ (u : nat_lt (formals_at (lines_after routines e)) (length values) ≡ true). let z : Err BadChoice ≡ Ok j = (rw u at g) in absurd (cc z))
        (λ (u : nat_lt (formals_at (lines_after routines e)) (length values) ≡ false).
        let f : entered NoValue e.routine (by_value values) (lines_after routines e) [] (blank k test values) ≡ Ok j = (rw u at g) in
        on b.0 b.1 b.2 (lines_after routines e) refl f)
        (cases_Bool (nat_lt (formals_at (lines_after routines e)) (length values))))
        (λ (d : (is_declared routines rules.entries e && is_job_number k) ≡ false). let z : Err NotEnabled ≡ Ok j = (rw d at h) in absurd (cc z))
        (cases_Bool (is_declared routines rules.entries e && is_job_number k))
      where
        on : (blk : EntryCert) → block_at (known routines rules blocks).0 e ≡ Some blk → has_entry (known routines rules blocks).1 e ≡ true
            → (ls : List LineTree) → lines_after routines e ≡ ls → entered NoValue e.routine (by_value values) ls [] (blank k test values) ≡ Ok j → SafeFor routines (FactsSince routines rules (known routines rules blocks)) n (j ∷ []) j
        on blk at is [] heads f = let z : Err NotEnabled ≡ Ok j = f in absurd (cc z)
        on blk at is ((head, body) ∷ lines) heads f =
            let z : first e blk at is head body lines heads (distinct e head body lines heads) k test values ≡ j = (let y : Ok (first e blk at is head body lines heads (distinct e head body lines heads) k test values) ≡ Ok j = f in cc) in
            subst (λ i. SafeFor routines (FactsSince routines rules (known routines rules blocks)) n (i ∷ []) i) z (first_safe e blk at is head body lines heads (distinct e head body lines heads) k test values each n)

    -- so it is safe at each moment of each run of its own
    pub each_moment : AtEachMomentSince routines (is_declared routines rules.entries) (FactsSince routines rules (known routines rules blocks))
    each_moment e test values k first j acts h run =
        moments routines (is_declared routines rules.entries) (FactsSince routines rules (known routines rules blocks)) (stopped_facts routines rules (known routines rules blocks)) acts (first ∷ []) first j (begins_safe e test values k first h (length acts)) run
