-- What a run is given, by what its parts are given.
use Rattle.std.proofs.Common.{◌≡◌, ℕ, List, Some, filter, refl, sym, ap, ◌∙◌, subst, slice_get}
use Rattle.std.specs.List.{AllZip}
use Rattle.mlk_syntax.specs.Trees.{RoutineTree}
use Rattle.mlk_program.specs.declared.entry.EntryId.{EntryId}
use Rattle.mlk_rules.specs.declared.rules.RuleLists.{RuleLists}
use Rattle.mlk_cert_parts.specs.declared.block.EntryCert.{EntryCert}
use Rattle.mlk_walk_exprs.specs.declared.walk.Fault.{Fault}
use Rattle.mlk_walk_state.specs.Scope.{certified, declared}
use Rattle.mlk_walk.specs.Verdicts.{known, verdict}
use Rattle.mlk_walk.specs.Reports.{entries_from}
use Rattle.mlk_pool.specs.declared.board.Slot.{Slot}
use Rattle.mlk_pool.specs.Boards.{IsSlotOf}
use Rattle.mlk_pool.specs.Given.{Given, AreInputs, AreKnown, is_certified, tasks_of, verdict_of}

-- the tables that are made of what a run is given
pub known_inputs : (given : Given) (routines : List RoutineTree) (rules : RuleLists) (blocks : List EntryCert) (entries : List (EntryId × EntryCert) × List EntryId)
    → AreInputs given routines rules blocks → entries.0 ≡ certified routines blocks → entries.1 ≡ declared routines rules.entries
    → AreKnown given routines rules entries
known_inputs given routines rules blocks entries inputs first second =
    let blocks_are : entries.0 ≡ certified given.routines given.blocks =
    first ∙ ap (λ r. certified r blocks) inputs.same_routines ∙ ap (certified given.routines) inputs.same_blocks in
    let declared_are : entries.1 ≡ declared given.routines given.rules.entries =
    second ∙ ap (λ r. declared r rules.entries) inputs.same_routines ∙ ap (λ (l : RuleLists). declared given.routines l.entries) inputs.same_rules in
    let whole : (entries.0, entries.1) ≡ known given.routines given.rules given.blocks =
    ap (λ x. (x, entries.1)) blocks_are ∙ ap (λ y. (certified given.routines given.blocks, y)) declared_are in
    record {
      same_routines = inputs.same_routines;
      same_rules = inputs.same_rules;
      same_entries = whole;
    }

-- the tasks are the certified ones of all entries
pub tasks_by : (given : Given) (routines : List RoutineTree) (blocks : List (EntryId × EntryCert)) (entries tasks : List EntryId)
    → routines ≡ given.routines → blocks ≡ certified given.routines given.blocks → entries ≡ entries_from 0 routines → tasks ≡ filter (is_certified blocks) entries
    → tasks ≡ tasks_of given
unfolding tasks_of
tasks_by given routines blocks entries tasks same_routines same_blocks entries_are tasks_are =
    tasks_are ∙ ap (λ b. filter (is_certified b) entries) same_blocks
    ∙ ap (filter (is_certified (certified given.routines given.blocks))) (entries_are ∙ ap (entries_from 0) same_routines)

-- by the tables of what the run is given
pub tasks_known : (given : Given) (routines : List RoutineTree) (rules : RuleLists) (entries : List (EntryId × EntryCert) × List EntryId) (all tasks : List EntryId)
    → AreKnown given routines rules entries → all ≡ entries_from 0 routines → tasks ≡ filter (is_certified entries.0) all
    → tasks ≡ tasks_of given
tasks_known given routines rules entries all tasks are all_are tasks_are =
    tasks_by given routines entries.0 all tasks are.same_routines (ap (λ k. k.0) are.same_entries) all_are tasks_are

pub tasks_inputs : (given : Given) (routines : List RoutineTree) (rules : RuleLists) (blocks : List EntryCert) (entries : List (EntryId × EntryCert) × List EntryId) (all tasks : List EntryId)
    → AreInputs given routines rules blocks → entries.0 ≡ certified routines blocks → all ≡ entries_from 0 routines → tasks ≡ filter (is_certified entries.0) all
    → tasks ≡ tasks_of given
tasks_inputs given routines rules blocks entries all tasks inputs first all_are tasks_are =
    tasks_by given routines entries.0 all tasks inputs.same_routines
    (first ∙ ap (λ r. certified r blocks) inputs.same_routines ∙ ap (certified given.routines) inputs.same_blocks) all_are tasks_are

-- what is at the tasks is at the certified ones of all entries
pub slots_known : (given : Given) (routines : List RoutineTree) (rules : RuleLists) (entries : List (EntryId × EntryCert) × List EntryId) (all : List EntryId) (slots : List Slot)
    → AreKnown given routines rules entries → all ≡ entries_from 0 routines → AllZip (IsSlotOf given) (tasks_of given) slots
    → AllZip (IsSlotOf given) (filter (is_certified entries.0) all) slots
slots_known given routines rules entries all slots are all_are stand =
    subst (λ l. AllZip (IsSlotOf given) l slots) (sym (tasks_known given routines rules entries all (filter (is_certified entries.0) all) are all_are refl)) stand

pub verdict_given : (given : Given) (routines : List RoutineTree) (rules : RuleLists) (entries : List (EntryId × EntryCert) × List EntryId)
    → AreKnown given routines rules entries → (e : EntryId) → verdict routines rules entries e ≡ verdict_of given e
verdict_given given routines rules entries are e =
    ap (λ r. verdict r rules entries e) are.same_routines
    ∙ ap (λ r. verdict given.routines r entries e) are.same_rules
    ∙ ap (λ k. verdict given.routines given.rules k e) are.same_entries

some_same : {X : Type 0} {x y : X} → Some x ≡ Some y → x ≡ y
some_same e = cc

-- the verdict of the task's entry is that of the task
pub verdict_of_task : (given : Given) (routines : List RoutineTree) (rules : RuleLists) (entries : List (EntryId × EntryCert) × List EntryId) (task : ℕ) (e : EntryId) (v : List Fault)
    → AreKnown given routines rules entries → slice_get (tasks_of given) task ≡ Some e → v ≡ verdict routines rules entries e
    → (entry : EntryId) → slice_get (tasks_of given) task ≡ Some entry → v ≡ verdict_of given entry
verdict_of_task given routines rules entries task e v are there is entry here =
    is ∙ verdict_given given routines rules entries are e ∙ ap (verdict_of given) (some_same (sym there ∙ here))
