-- The theorem applies to real programs: for four worked programs all its premises are shown, so each of their runs keeps the
-- rules. And what it implies for one given run, in which two jobs of one program claim the same lock.
use Rattle.std.proofs.Common.{◌≡◌, refl, sym, ap, ◌∙◌, subst, ℕ, zero, suc, true, false, List, [], ◌∷◌, arith, ⊎_elim, inl, inr, length, eqb-true}
use Rattle.std.specs.Prelude.{◌==◌, ◌++◌, Option, Some, None, Ok, Err, codes}
use Rattle.std.proofs.lemmas.Bool.{cases_Bool, and_parts}
use Rattle.mlk_text.specs.declared.root.Root.{Root}
use Rattle.mlk_text.specs.declared.root.Root.TheVariants as root
use Rattle.mlk_names.specs.declared.lock_name.LockName.{LockName}
use Rattle.mlk_names.specs.LockNames.{Conflict, IsAbove}
use Rattle.mlk_names.specs.Symbols.{Assignment}
use Rattle.mlk_names.specs.declared.reference.Reference.{Reference}
use Rattle.mlk_names.proofs.OverlapLemmas.{may_touch}
use Rattle.mlk_rules.specs.declared.cover.Cover.{Cover}
use Rattle.mlk_rules.specs.declared.cover.ReadPolicy.TheVariants.{Locked, Free}
use Rattle.mlk_rules.specs.declared.pattern.Element.TheVariants as element
use Rattle.mlk_rules.specs.declared.template.TemplatePart.TheVariants.{Place}
use Rattle.mlk_rules.specs.declared.template.Template.{Template}
use Rattle.mlk_rules.specs.Coverage.{HoldLocks, HoldsLock, Satisfies}
use Rattle.mlk_rules.specs.Patterns.{MayMeet}
use Rattle.mlk_rules.proofs.Apart.{locked_by_test}
use Rattle.mlk_rules.proofs.Instances.{lock_of_node}
use Rattle.mlk_rules.specs.declared.rules.RuleLists.{RuleLists}
use Rattle.mlk_rules.specs.Ranks.{FamiliesApart}
use Rattle.mlk_rules.specs.Sound.{IsSound}
use Rattle.mlk_syntax.specs.Trees.{ControlTree, CommandTrees, finished, then_for, HeadTree, LineHead, LineTrees, no_lines, line}
use Rattle.mlk_program.specs.Entries.{same_entry}
use Rattle.mlk_cert_parts.specs.declared.block.EntryCert.{EntryCert}
use Rattle.mlk_cert_parts.specs.Limits.{IsCertificate}
use Rattle.mlk_machine_jobs.specs.Calling.{commands_in}
use Rattle.mlk_machine_jobs.specs.Tasks.{Task, Job, LineTree, RunCommands}
use Rattle.mlk_machine_laws.specs.WellFormed.{AreFormed}
use Rattle.mlk_walk.proofs.Examples.{base_rules, deposit-yes-routines, deposit-yes-blocks, deposit-yes}
use Rattle.mlk_walk.proofs.Examples.{wrapper-takes-lock-routines, wrapper-takes-lock-blocks, wrapper-takes-lock}
use Rattle.mlk_walk.proofs.Examples.{loop-under-lock-routines, loop-under-lock-blocks, loop-under-lock}
use Rattle.mlk_walk.proofs.Examples.{timed-lock-block-keeps-test-routines, timed-lock-block-keeps-test-blocks, timed-lock-block-keeps-test}
use Rattle.std.specs.Fmt.{digits}
use Rattle.mlk_text.specs.Lexemes.{name_at, entry_of, label_at, digits_at}
use Rattle.mlk_cert_lexemes.specs.Texts.{byte_text}
use Rattle.mlk_names.specs.declared.reference.Extent.TheVariants.{Node, Tree}
use Rattle.mlk_names.specs.declared.reference.Access.TheVariants.{Writes}
use Rattle.mlk_names.specs.References.{Touch, Touches}
use Rattle.mlk_program.specs.declared.entry.EntryId.{EntryId}
use Rattle.mlk_machine_locks.specs.NameTests.{same_name, is_above, in_conflict}
use Rattle.mlk_machine_locks.specs.Counts.{count_of}
use Rattle.mlk_machine_locks.specs.Waiting.{Holds, waits}
use Rattle.mlk_machine_locks.specs.Systems.{Machine, Event, Act, Begin, Go, after, happens, lone_run}
use Rattle.mlk_machine_locks.specs.declared.refusal.Refusal.TheVariants.{NotEnabled}
use Rattle.mlk_machine_jobs.specs.declared.choice.Choice.{Choice}
use Rattle.mlk_machine_jobs.specs.declared.choice.Choice.TheVariants as choice
use Rattle.mlk_machine_jobs.specs.Choices.{Stepped, touch_at}
use Rattle.mlk_machine_jobs.specs.Runs.{machine, begun, blank, seen, next_claim}
use Rattle.mlk_machine_jobs.specs.Seen.{Clash, ready, HasEnded}
use Rattle.mlk_numbers.specs.Operators.{fold_between, whole}
use Rattle.mlk_machine_laws.specs.Moments.{IsCoveredAt, IsHeld}
use Rattle.mlk_machine_laws.specs.Laws.{IsWithoutRing}
use Rattle.mlk_walk_state.specs.Scope.{block_at, certified, declared, is_declared}
use Rattle.mlk_soundness_machine.specs.Listed.{IsInside}
use Rattle.mlk_soundness_machine.specs.Moments.{begun_by}
use Rattle.mlk_soundness_machine.specs.Places.{line_number, entry_trees, open_round, AreLastOf, AreRoundOf, BeginsWith, ComesTo}
use Rattle.mlk_check.specs.Theorem.{AreSafe, KeepsRules}
use Rattle.mlk_check.proofs.Theorem.{keeps_rules}
use Rattle.mlk_check.proofs.Tested.{certificate_by, formed_by}

-- The rules: each is well formed, and `^ACCT` is neither `^LOG` nor above or below it.
abbrev size : Root → ℕ
size (root.Global name) = length name
size (root.Local name) = length name

differ : root.Global (codes "ACCT") ≡ root.Global (codes "LOG") → ⊥
differ e = let z : 4 ≡ 3 = ap size e in absurd (omega (arith, z))

abbrev acct : LockName
acct = record { root = root.Global (codes "ACCT"); subs = [] }

abbrev log : LockName
log = record { root = root.Global (codes "LOG"); subs = [] }

no_conflict : Conflict acct log → ⊥
no_conflict (inl above) = differ above.root
no_conflict (inr above) = differ (sym above.root)

apart : (entries : List (List ℕ)) → FamiliesApart (base_rules entries).families
apart entries zero zero d l m = absurd (omega (arith, l))
apart entries zero (suc zero) d l m = no_conflict
apart entries zero (suc (suc j)) d l m = absurd (omega (arith, m))
apart entries (suc i) zero d l m = absurd (omega (arith, l))
apart entries (suc i) (suc zero) d l m = absurd (omega (arith, l))
apart entries (suc i) (suc (suc j)) d l m = absurd (omega (arith, m))

sound : (entries : List (List ℕ)) → IsSound (base_rules entries)
sound entries = record { formed = refl; apart = apart entries }

-- DEP(ID,AMT) LOCK +^ACCT(ID) SET ^ACCT(ID,"bal")=$GET(^ACCT(ID,"bal"))+AMT LOCK -^ACCT(ID) QUIT
-- One entry that acquires its lock, reads and writes what the lock covers, and releases the lock.
abbrev deposit_rules : RuleLists
deposit_rules = base_rules (codes "DEP^BANK" ∷ [])

deposit_formed : AreFormed deposit-yes-routines
deposit_formed = formed_by deposit-yes-routines refl

deposit_certificate : IsCertificate deposit-yes-blocks
unfolding name_at byte_text
deposit_certificate = certificate_by deposit-yes-blocks refl

pub deposit_keeps_rules : KeepsRules deposit-yes-routines deposit_rules deposit-yes-blocks
deposit_keeps_rules = keeps_rules deposit-yes-routines deposit_rules deposit-yes-blocks (sound _) deposit_certificate deposit_formed deposit-yes

-- USE(ID) DO GRAB(ID) SET ^ACCT(ID)=1 LOCK -^ACCT(ID) QUIT
-- GRAB(K) LOCK +^ACCT(K) QUIT
-- The entry that acquires the lock is not the one that writes and releases it.
wrapper_formed : AreFormed wrapper-takes-lock-routines
wrapper_formed = formed_by wrapper-takes-lock-routines refl

wrapper_certificate : IsCertificate wrapper-takes-lock-blocks
unfolding name_at byte_text
wrapper_certificate = certificate_by wrapper-takes-lock-blocks refl

pub wrapper_keeps_rules : KeepsRules wrapper-takes-lock-routines (base_rules (codes "USE^WRAP" ∷ [])) wrapper-takes-lock-blocks
wrapper_keeps_rules =
    keeps_rules wrapper-takes-lock-routines (base_rules (codes "USE^WRAP" ∷ [])) wrapper-takes-lock-blocks (sound _) wrapper_certificate wrapper_formed wrapper-takes-lock

-- L LOCK +^LOG FOR I=1:1:3 SET ^LOG(I)=I
--  LOCK -^LOG QUIT
-- A FOR whose rounds write under a lock that the line before them acquires.
loop_formed : AreFormed loop-under-lock-routines
loop_formed = formed_by loop-under-lock-routines refl

loop_certificate : IsCertificate loop-under-lock-blocks
unfolding name_at byte_text
loop_certificate = certificate_by loop-under-lock-blocks refl

pub loop_keeps_rules : KeepsRules loop-under-lock-routines (base_rules (codes "L^LOOP" ∷ [])) loop-under-lock-blocks
loop_keeps_rules =
    keeps_rules loop-under-lock-routines (base_rules (codes "L^LOOP" ∷ [])) loop-under-lock-blocks (sound _) loop_certificate loop_formed loop-under-lock

-- T(ID) LOCK +^ACCT(ID):5 DO
--  . IF 0
--  ELSE  QUIT
--  SET ^ACCT(ID)=1 LOCK -^ACCT(ID) QUIT
-- `$TEST` says whether a LOCK with a timeout was granted, and the end of the block restores it.
timed_formed : AreFormed timed-lock-block-keeps-test-routines
timed_formed = formed_by timed-lock-block-keeps-test-routines refl

timed_certificate : IsCertificate timed-lock-block-keeps-test-blocks
unfolding name_at byte_text
timed_certificate = certificate_by timed-lock-block-keeps-test-blocks refl

pub timed_keeps_rules : KeepsRules timed-lock-block-keeps-test-routines (base_rules (codes "T^BLOCK" ∷ [])) timed-lock-block-keeps-test-blocks
timed_keeps_rules =
    keeps_rules timed-lock-block-keeps-test-routines (base_rules (codes "T^BLOCK" ∷ [])) timed-lock-block-keeps-test-blocks (sound _) timed_certificate timed_formed timed-lock-block-keeps-test

-- One run of DEP^BANK. Two jobs deposit into account 7: the first one 5, the second one 9. Both run up to their claim of
-- ^ACCT(7). The first one acquires it, reads a balance of 100, and runs up to its write.
abbrev deposit_entry : EntryId
deposit_entry = record { routine = 0; line = 0 }

abbrev bank : Machine Job Choice EntryId
bank = machine deposit-yes-routines (is_declared deposit-yes-routines deposit_rules.entries)

-- `n` steps without a choice
abbrev steps : ℕ → List (Act Choice EntryId)
steps zero = []
steps (suc n) = Go choice.None ∷ steps n

-- the acts of a job, as events of the run
abbrev pub events_of : ℕ → List (Act Choice EntryId) → List (Event Choice EntryId)
events_of k [] = []
events_of k (a ∷ acts) = record { job = k; act = a } ∷ events_of k acts

abbrev deposits : ℕ → List ℕ → Event Choice EntryId
deposits k amount = record { job = k; act = Begin deposit_entry false (Some (codes "7") ∷ Some amount ∷ []) }

abbrev events : List (Event Choice EntryId)
events =
    deposits 1 (codes "5") ∷ deposits 2 (codes "9") ∷ events_of 1 (steps 4) ++ events_of 2 (steps 4)
    ++ events_of 1 (steps 14 ++ Go (choice.Value (codes "100")) ∷ steps 5)

-- Each job by itself: at its begin, and after these acts of its own.
abbrev pub job_of : Stepped → Job
job_of (Ok j) = j
job_of (Err why) = blank 0 false []

abbrev begun_with : ℕ → List ℕ → Job
begun_with k amount = job_of (begun deposit-yes-routines deposit_entry k false (Some (codes "7") ∷ Some amount ∷ []))

abbrev up_to_write : List (Act Choice EntryId)
up_to_write = steps 18 ++ Go (choice.Value (codes "100")) ∷ steps 5

abbrev first : Job
first = job_of (lone_run bank up_to_write (begun_with 1 (codes "5")))

abbrev second : Job
second = job_of (lone_run bank (steps 4) (begun_with 2 (codes "9")))

pub both_jobs : after bank events [] ≡ Ok (first ∷ second ∷ [])
unfolding entry_of label_at name_at digits_at digits fold_between whole same_name is_above in_conflict
both_jobs = refl

-- The first job stands ready at SET ^ACCT(7,"bal"), and holds ^ACCT(7) once.
abbrev account : LockName
account = record { root = root.Global (codes "ACCT"); subs = codes "7" ∷ [] }

abbrev balance : Touch
balance = touch_at (codes "ACCT") (codes "7" ∷ codes "bal" ∷ []) Node Writes

first_is_ready : ready first ≡ Some balance
unfolding digits fold_between whole same_name is_above
first_is_ready = refl

pub first_holds : count_of first.held account ≡ 1
unfolding digits fold_between whole same_name is_above
first_holds = refl

-- The second job is at LOCK +^ACCT(7). It cannot continue, whatever is chosen: it waits for the first one.
pub second_claims : next_claim second.tasks ≡ Some (record { names = account ∷ []; timed = false })
second_claims = refl

pub second_waits : (c : Choice) → happens bank (first ∷ second ∷ []) 2 (Go c) ≡ Err NotEnabled
unfolding digits fold_between whole same_name is_above in_conflict
second_waits choice.None = refl
second_waits (choice.Value v) = refl
second_waits (choice.Truth b) = refl

pub second_waits_for_first : waits (seen second) (seen first) ≡ true
unfolding digits fold_between whole same_name is_above in_conflict
second_waits_for_first = refl

-- What the theorem implies at this moment: the jobs do not clash, they do not wait for each other in a ring, and the first one
-- holds what covers the node that it is about to write.
pub both_are_safe : AreSafe deposit_rules (first ∷ second ∷ [])
both_are_safe = deposit_keeps_rules.all_jobs events (first ∷ second ∷ []) both_jobs

pub no_ring_of_both : IsWithoutRing (first ∷ second ∷ [])
no_ring_of_both = both_are_safe.no_ring

pub they_do_not_clash : Clash first second → ⊥
they_do_not_clash = both_are_safe.no_clash (locked_by_test deposit_rules.covers refl) first second (inl refl) (inr (inl refl))

pub write_is_covered : IsCoveredAt deposit_rules first balance
unfolding entry_of label_at name_at digits_at digits fold_between whole same_name is_above
write_is_covered =
    (deposit_keeps_rules.each_job deposit_entry false (Some (codes "7") ∷ Some (codes "5") ∷ []) 1 (begun_with 1 (codes "5")) first up_to_write refl refl).facts.covered balance first_is_ready

-- That is, it holds ^ACCT(7) or a name above it: by the rules that is the lock of each node at or below ^ACCT(7).
abbrev account_lock : Template
account_lock = record { root = root.Global (codes "ACCT"); parts = Place 0 ∷ [] }

abbrev account_cover : Cover
account_cover = record {
  pattern = record { global = codes "ACCT"; elements = element.Variable ∷ []; extent = Tree };
  lock = account_lock;
  also = None;
  reads = Locked;
}

may_meet : (a : Assignment) (r : Reference) → Touches a r balance → MayMeet account_cover.pattern r
may_meet a r h = (
  balance.region,
  balance.region.node,
  may_touch a r balance h,
  record { root = refl; subs = refl },
  (
    record { node = record { root = codes "ACCT"; subs = codes "7" ∷ [] }; extent = Tree },
    record { root = refl; extent = refl; subs = (tt, tt) },
    record { root = refl; subs = record { tail = codes "bal" ∷ []; is = refl } },
  ),
)

holds_above : IsCoveredAt deposit_rules first balance → (n : LockName) × Holds (seen first) n × IsAbove n account
holds_above c =
    let satisfied : Satisfies c.held c.reference account_cover = c.covered.covers account_cover (0, omega arith, refl) (may_meet c.values c.reference c.touches) in
    let held : HoldLocks c.reference.access c.held c.reference (account_lock ∷ []) = elim satisfied [ inl free ↦ absurd (let e : Locked ≡ Free = free.0 in cc) | inr locks ↦ locks ] in
    let locks : HoldLocks Writes c.held c.reference (account_lock ∷ []) = subst (λ x. HoldLocks x c.held c.reference (account_lock ∷ [])) (sym c.touches.access) held in
    let h : HoldsLock c.held account_lock c.reference = locks account_lock (0, omega arith, refl) in
    let one : IsHeld c.values first h.0 = c.each_held h.0 h.1 in
    let above : IsAbove one.name account =
    (lock_of_node account_lock balance.region.node).above c.values c.reference balance h.0 one.name c.touches (record { root = refl; subs = refl }) h.2 one.names in
    (one.name, one.holds, above)

pub holds_its_cover : (n : LockName) × Holds (seen first) n × IsAbove n account
holds_its_cover = holds_above write_is_covered

-- The first job runs to its end, while the second one waits: the write, LOCK -^ACCT(7), QUIT. It has ended by itself, and so,
-- by the theorem, holds nothing. Now the second one is granted its claim.
abbrev to_the_end : List (Act Choice EntryId)
to_the_end = steps 11

abbrev ended : Job
ended = job_of (lone_run bank to_the_end first)

abbrev granted : Job
granted = job_of (lone_run bank (steps 1) second)

pub first_at_its_end : after bank (events ++ events_of 1 to_the_end) [] ≡ Ok (ended ∷ second ∷ [])
unfolding entry_of label_at name_at digits_at digits fold_between whole same_name is_above in_conflict
first_at_its_end = refl

first_has_ended : HasEnded ended
unfolding digits fold_between whole same_name is_above
first_has_ended = (refl, refl)

pub holds_nothing : (n : LockName) → Holds (seen ended) n → ⊥
holds_nothing =
    (deposit_keeps_rules.all_jobs (events ++ events_of 1 to_the_end) (ended ∷ second ∷ []) first_at_its_end).all_end_empty ended (inl refl) first_has_ended

pub second_is_granted : happens bank (ended ∷ second ∷ []) 2 (Go choice.None) ≡ Ok (ended ∷ granted ∷ [])
unfolding digits fold_between whole same_name is_above in_conflict
second_is_granted = refl

-- L^LOOP before SET, in its first round. What the theorem implies at this moment: the job is on the line of the FOR, and the walk
-- of its rounds reaches a state whose case describes the job.
abbrev loop_entry : EntryId
loop_entry = record { routine = 0; line = 0 }

abbrev loop_rules : RuleLists
loop_rules = base_rules (codes "L^LOOP" ∷ [])

abbrev looping : Machine Job Choice EntryId
looping = machine loop-under-lock-routines (is_declared loop-under-lock-routines loop_rules.entries)

abbrev up_to_set : List (Act Choice EntryId)
up_to_set = steps 14 ++ Go (choice.Truth true) ∷ []

abbrev loop_begun : Job
loop_begun = job_of (begun loop-under-lock-routines loop_entry 1 false [])

abbrev before_set : Job
before_set = job_of (lone_run looping up_to_set loop_begun)

-- what is left of the line, and after it
abbrev left_in : List Task → CommandTrees
left_in (RunCommands left here ∷ ts) = left
left_in ts = finished

-- the line that a job is on
abbrev here_in : List Task → LineTree
here_in (RunCommands left here ∷ ts) = here
here_in ts = (LineHead 0 0 0 None None finished, no_lines)

abbrev behind_in : List Task → List Task
behind_in [] = []
behind_in (t ∷ ts) = ts

abbrev loop_entries : List (EntryId × EntryCert) × List EntryId
loop_entries = (certified loop-under-lock-routines loop-under-lock-blocks, declared loop-under-lock-routines loop_rules.entries)

pub set_is_walked : IsInside loop-under-lock-routines loop_rules loop_entries
    (λ sc lines c. ComesTo sc lines (left_in before_set.tasks) (here_in before_set.tasks) (behind_in before_set.tasks) c)
    (begun_by looping up_to_set (loop_begun ∷ []) loop_begun) before_set
unfolding entry_of label_at name_at digits_at digits fold_between whole same_name is_above
set_is_walked =
    (loop_keeps_rules.each_job loop_entry false [] 1 loop_begun before_set up_to_set refl refl).inside (left_in before_set.tasks)
    (here_in before_set.tasks) (behind_in before_set.tasks) refl

-- So it is on line 1, in the rounds of that line's FOR.
abbrev first_head : LineTrees → HeadTree
first_head no_lines = LineHead 0 0 0 None None finished
first_head (line head block rest) = head

abbrev first_line : HeadTree
first_line = first_head (entry_trees loop-under-lock-routines loop_entry)

line_is_first : (here_in before_set.tasks).0 ≡ first_line
unfolding entry_of label_at name_at digits_at digits fold_between whole same_name is_above
line_is_first = refl

in_its_for : (left : CommandTrees) (index column : ℕ) (control : Option ControlTree) → AreLastOf (then_for column index control left) (commands_in first_line) → index ≡ 1
in_its_for left index column control (inl e) = absurd (cc e)
in_its_for left index column control (inr (inl e)) = cc e
in_its_for left index column control (inr (inr (inl e))) = absurd (cc e)
in_its_for left index column control (inr (inr (inr e))) = absurd (cc e)

not_both : (o : Option CommandTrees) (left : CommandTrees) → o ≡ Some left → o ≡ None → ⊥
not_both o left e f = let z : Some left ≡ None = sym e ∙ f in cc z

round_is_open : open_round (behind_in before_set.tasks) ≡ Some (left_in before_set.tasks)
unfolding entry_of label_at name_at digits_at digits fold_between whole same_name is_above
round_is_open = refl

pub set_is_on_line_1 : line_number (here_in before_set.tasks).0 ≡ 1
unfolding entry_of label_at name_at digits_at digits fold_between whole same_name is_above
set_is_on_line_1 = refl

pub set_is_in_for : set_is_walked.comes.round ≡ 1
set_is_in_for = by set_is_walked.comes.first set_is_walked.comes.round set_is_walked.comes.begins
  where
    by : (first : CommandTrees) (round : ℕ) → BeginsWith first round (commands_in (here_in before_set.tasks).0) (behind_in before_set.tasks) → round ≡ 1
    by first round (inl k) = absurd (not_both (open_round (behind_in before_set.tasks)) (left_in before_set.tasks) round_is_open k.2)
    by first round (inr k) =
        let r : AreRoundOf first round (commands_in first_line) = subst (λ h. AreRoundOf first round (commands_in h)) line_is_first k.0 in
        in_its_for first round r.0 r.1 r.2
