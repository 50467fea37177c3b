-- Worked examples, whose answers were found by hand: locks, reads and writes, runs of two jobs.
use Rattle.std.proofs.Common.{◌≡◌, refl, ℕ, Bool, true, false, List, [], ◌∷◌, ◌++◌, Option, Some, None}
use Rattle.std.specs.Prelude.{codes, map, Result, Ok, Err}
use Rattle.mlk_text.specs.declared.root.Root.TheVariants as root
use Rattle.mlk_names.specs.declared.lock_name.LockName.{LockName}
use Rattle.mlk_names.specs.References.{Touch}
use Rattle.mlk_names.specs.declared.reference.Extent.TheVariants as extent
use Rattle.mlk_names.specs.declared.reference.Access.TheVariants.{Reads, Writes}
use Rattle.mlk_machine_locks.specs.declared.refusal.Refusal.{Refusal}
use Rattle.mlk_machine_locks.specs.declared.refusal.Refusal.TheVariants.{NotEnabled, BadChoice, UnknownJob}
use Rattle.mlk_machine_locks.specs.NameTests.{is_above, in_conflict, same_name}
use Rattle.mlk_machine_locks.specs.Counts.{Counts}
use Rattle.mlk_machine_locks.specs.Systems.{Act, Begin, Go, Abort, Event, after}
use Rattle.mlk_machine_locks.specs.Laws.{has_ring_of}
use Rattle.mlk_syntax.specs.declared.expr.Function.TheVariants as function
use Rattle.mlk_syntax.specs.ExprTrees.{Tree, Lit, GlobalName, Func, tree, no_trees, no_subs, sub}
use Rattle.mlk_syntax.specs.declared.command.Sign.TheVariants as sign
use Rattle.mlk_syntax.specs.declared.command.Part.TheVariants as part
use Rattle.mlk_syntax.specs.Trees.{VariableTree, ActionTree, Lock, LockNames, Set, SetTo, SetPart, Quit, Write, WriteValue, Merge, MergeInto, no_lines, RoutineTree}
use Rattle.mlk_program.specs.declared.entry.EntryId.{EntryId}
use Rattle.mlk_machine_jobs.specs.declared.choice.Choice.{Choice}
use Rattle.mlk_machine_jobs.specs.declared.choice.Choice.TheVariants as choice
use Rattle.mlk_machine_jobs.specs.Tasks.{Job}
use Rattle.mlk_machine_jobs.specs.Choices.{Stepped}
use Rattle.mlk_machine_jobs.specs.Locking.{granted}
use Rattle.mlk_machine_jobs.specs.Runs.{blank, machine, seen, go, begun}
use Rattle.mlk_machine_jobs.specs.Seen.{Ready, Claims, Releases, Stuck, settled, ready}
use Rattle.mlk_machine_jobs.proofs.Trees.{value_of, global, global_at, set, commands, at_label, routine, first_entry, played, writes_at}

abbrev a : LockName
a = record { root = root.Global (codes "A"); subs = [] }

abbrev b : LockName
b = record { root = root.Global (codes "B"); subs = [] }

abbrev lock : List VariableTree → ActionTree
lock names = Lock (LockNames sign.None names None ∷ [])

abbrev claim : List VariableTree → ActionTree
claim names = Lock (LockNames sign.Plus names None ∷ [])

abbrev pub release : List VariableTree → ActionTree
release names = Lock (LockNames sign.Minus names None ∷ [])

abbrev claim_within : Tree → List VariableTree → ActionTree
claim_within timeout names = Lock (LockNames sign.Plus names (Some timeout) ∷ [])

abbrev pub straight : List ActionTree → List RoutineTree
straight actions = routine ((at_label (codes "A") None (commands actions), no_lines) ∷ [])

abbrev held_of : Stepped → Option Counts
held_of (Ok j) = Some j.held
held_of (Err why) = None

-- what a lone job holds after these choices, each made when the job no longer runs by itself
abbrev goes_on : (Job → Option Counts) → Stepped → Option Counts
goes_on f (Ok j) = f j
goes_on f (Err why) = None

abbrev holds_after : List RoutineTree → List Choice → Job → Option Counts
holds_after routines [] j = Some j.held
holds_after routines (c ∷ choices) j =
    goes_on (holds_after routines choices) (go routines (λ n. true) c (settled routines 100 j).0)

abbrev pub held_after : List RoutineTree → List Choice → Option Counts
held_after routines choices = goes_on (holds_after routines choices) (begun routines first_entry 1 false [])

-- A LOCK ^A
-- Without a sign all is released in a step of its own, even if nothing is held.
pub releases_first : played (straight (lock (global (codes "A") ∷ []) ∷ [])) [] ≡ Releases
unfolding settled
releases_first = refl

pub then_claims : played (straight (lock (global (codes "A") ∷ []) ∷ [])) (choice.None ∷ []) ≡ Claims (a ∷ []) false
unfolding settled
then_claims = refl

-- A LOCK +(^A,^A) LOCK -^A
-- A name that occurs twice counts twice.
pub counts_twice : held_after (straight (claim (global (codes "A") ∷ global (codes "A") ∷ []) ∷ [])) (choice.None ∷ []) ≡ Some ((a, 2) ∷ [])
unfolding settled same_name is_above
counts_twice = refl

pub takes_one : held_after (straight (claim (global (codes "A") ∷ global (codes "A") ∷ []) ∷ release (global (codes "A") ∷ []) ∷ [])) (choice.None ∷ choice.None ∷ []) ≡ Some ((a, 1) ∷ [])
unfolding settled same_name is_above
takes_one = refl

pub takes_two : held_after (straight (claim (global (codes "A") ∷ global (codes "A") ∷ []) ∷ release (global (codes "A") ∷ global (codes "A") ∷ []) ∷ [])) (choice.None ∷ choice.None ∷ []) ≡ Some []
unfolding settled same_name is_above
takes_two = refl

-- a claim that would exceed the maximum count is never granted
pub has_no_room : granted (λ n. true) (a ∷ []) (record (blank 1 false []) { held = (a, 4294967295) ∷ [] }) ≡ Err NotEnabled
unfolding same_name is_above
has_no_room = refl

-- A LOCK +^A:1
-- With a timeout an event says whether the claim was granted; if not, nothing is held.
pub asks_whether : held_after (straight (claim_within (Lit (codes "1")) (global (codes "A") ∷ []) ∷ [])) (choice.Truth true ∷ []) ≡ Some ((a, 1) ∷ [])
unfolding settled same_name is_above
asks_whether = refl

pub may_fail : held_after (straight (claim_within (Lit (codes "1")) (global (codes "A") ∷ []) ∷ [])) (choice.Truth false ∷ []) ≡ Some []
unfolding settled same_name is_above
may_fail = refl

-- A SET $PIECE(^A,1)=5
-- The node is read, and then written.
pub part_reads : played (straight (Set (SetTo (SetPart part.Piece (global (codes "A")) (Lit (codes "1") ∷ []) ∷ []) (Lit (codes "5")) ∷ []) ∷ [])) []
    ≡ Ready (record { region = record { node = record { root = codes "A"; subs = [] }; extent = extent.Node }; access = Reads })
unfolding settled
part_reads = refl

pub part_writes : played (straight (Set (SetTo (SetPart part.Piece (global (codes "A")) (Lit (codes "1") ∷ []) ∷ []) (Lit (codes "5")) ∷ []) ∷ [])) (choice.Value (codes "0") ∷ []) ≡ writes_at []
unfolding settled
part_writes = refl

-- A SET ^A(1)=^B(2)
-- The right side is read before the left one is written.
pub reads_before : played (straight (set (global_at (codes "A") (Lit (codes "1"))) (GlobalName 0 (codes "B") (sub 0 (Lit (codes "2")) no_subs)) ∷ [])) []
    ≡ Ready (record { region = record { node = record { root = codes "B"; subs = codes "2" ∷ [] }; extent = extent.Node }; access = Reads })
unfolding settled
reads_before = refl

-- A WRITE $ORDER(^A(1,2)) reads the tree above the last subscript.
pub order_reads_above : played (straight (Write (WriteValue (Func function.Order (tree (GlobalName 0 (codes "A") (sub 0 (Lit (codes "1")) (sub 0 (Lit (codes "2")) no_subs))) no_trees)) ∷ []) ∷ [])) []
    ≡ Ready (record { region = record { node = record { root = codes "A"; subs = codes "1" ∷ [] }; extent = extent.Tree }; access = Reads })
unfolding settled
order_reads_above = refl

-- A MERGE ^A=^B reads the tree of the right side, and then writes the left one.
pub merge_reads : played (straight (Merge (MergeInto (global (codes "A")) (global (codes "B")) ∷ []) ∷ [])) []
    ≡ Ready (record { region = record { node = record { root = codes "B"; subs = [] }; extent = extent.Tree }; access = Reads })
unfolding settled
merge_reads = refl

pub merge_writes : played (straight (Merge (MergeInto (global (codes "A")) (global (codes "B")) ∷ []) ∷ [])) (choice.Value [] ∷ [])
    ≡ Ready (record { region = record { node = record { root = codes "A"; subs = [] }; extent = extent.Tree }; access = Writes })
unfolding settled
merge_writes = refl

-- A WRITE X
-- If a local has no value, the job can only be aborted, whatever is chosen.
pub unread : played (straight (Write (WriteValue (value_of (codes "X")) ∷ []) ∷ [])) [] ≡ Stuck
unfolding settled
unread = refl

-- Two jobs: A LOCK +^A LOCK +^B QUIT / B LOCK +^B LOCK +^A QUIT
abbrev crossed : List RoutineTree
crossed = routine (
    (at_label (codes "A") None (commands (claim (global (codes "A") ∷ []) ∷ claim (global (codes "B") ∷ []) ∷ Quit None ∷ [])), no_lines)
    ∷ (at_label (codes "B") None (commands (claim (global (codes "B") ∷ []) ∷ claim (global (codes "A") ∷ []) ∷ Quit None ∷ [])), no_lines)
    ∷ [])

abbrev second_entry : EntryId
second_entry = record { routine = 0; line = 1 }

abbrev event : ℕ → Act Choice EntryId → Event Choice EntryId
event k act = record { job = k; act = act }

abbrev goes : ℕ → Event Choice EntryId
goes k = event k (Go choice.None)

abbrev ring_after : Result (List Job) Refusal → Option Bool
ring_after (Ok jobs) = Some (has_ring_of seen jobs)
ring_after (Err why) = None

-- three steps until the first name is held: the command, the name, the claim; three more to its next claim: after the argument,
-- the command, the name
abbrev write_a : Touch
write_a = record { region = record { node = record { root = codes "A"; subs = [] }; extent = extent.Node }; access = Writes }

abbrev both_begin : List (Event Choice EntryId)
both_begin = event 7 (Begin first_entry false []) ∷ event 8 (Begin second_entry false [])
    ∷ goes 7 ∷ goes 7 ∷ goes 7 ∷ goes 8 ∷ goes 8 ∷ goes 8 ∷ goes 7 ∷ goes 7 ∷ goes 7 ∷ goes 8 ∷ goes 8 ∷ goes 8 ∷ []

pub meets_a_ring : ring_after (after (machine crossed (λ e. true)) both_begin []) ≡ Some true
unfolding is_above in_conflict same_name
meets_a_ring = refl

-- then each claim is blocked
pub is_held_up : after (machine crossed (λ e. true)) (both_begin ++ goes 7 ∷ []) [] ≡ Err NotEnabled
unfolding is_above in_conflict same_name
is_held_up = refl

-- and is granted once the other job is aborted
pub goes_on_after_abort : ring_after (after (machine crossed (λ e. true)) (both_begin ++ event 8 Abort ∷ goes 7 ∷ []) []) ≡ Some false
unfolding is_above in_conflict same_name
goes_on_after_abort = refl

-- Two jobs of A SET ^A=1: both stand ready to write one node.
abbrev ready_both : Result (List Job) Refusal → List (Option Touch)
ready_both (Ok jobs) = map ready jobs
ready_both (Err why) = []

pub two_writers : ready_both (after (machine (straight (set (global (codes "A")) (Lit (codes "1")) ∷ [])) (λ e. true))
    (event 1 (Begin first_entry false []) ∷ event 2 (Begin first_entry false [])
    ∷ goes 1 ∷ goes 1 ∷ goes 1 ∷ goes 1 ∷ goes 2 ∷ goes 2 ∷ goes 2 ∷ goes 2 ∷ []) []) ≡ Some write_a ∷ Some write_a ∷ []
two_writers = refl

pub one_number_once : after (machine crossed (λ e. true)) (event 7 (Begin first_entry false []) ∷ event 7 (Begin first_entry false []) ∷ []) [] ≡ Err NotEnabled
one_number_once = refl

pub undeclared : after (machine crossed (λ e. false)) (event 7 (Begin first_entry false []) ∷ []) [] ≡ Err NotEnabled
undeclared = refl

pub too_many_values : after (machine crossed (λ e. true)) (event 7 (Begin first_entry false (Some (codes "1") ∷ [])) ∷ []) [] ≡ Err BadChoice
too_many_values = refl

pub nobody : after (machine crossed (λ e. true)) (goes 9 ∷ []) [] ≡ Err UnknownJob
nobody = refl
