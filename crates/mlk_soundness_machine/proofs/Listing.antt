-- Where a listed case describes a job, and where one does that the walk derives from a listed one: at the begin of a line and of
-- a round, and before each command. Elsewhere none is required.
use Rattle.std.proofs.Common.{◌≡◌, ℕ, Bool, true, false, List, ◌∷◌, ◌++◌, refl, sym, ap, ◌∙◌, subst, ◌+◌}
use Rattle.std.specs.List.{AllZip}
use Rattle.mlk_names.specs.Lists.{Among}
use Rattle.mlk_syntax.specs.Trees.{CommandTrees, RoutineTree, LineTrees, line}
use Rattle.mlk_rules.specs.declared.rules.RuleLists.{RuleLists}
use Rattle.mlk_program.specs.declared.entry.EntryId.{EntryId}
use Rattle.mlk_program.specs.Entries.{as_lines}
use Rattle.mlk_cert_parts.specs.declared.block.EntryCert.{EntryCert}
use Rattle.mlk_cert_parts.specs.declared.case.Case.{Case}
use Rattle.mlk_machine_jobs.specs.Calling.{commands_in}
use Rattle.mlk_machine_jobs.specs.Tasks.{Task, Job, marks, LineTree, StartJob, RunLines, RunCommands, NextArgument}
use Rattle.mlk_walk_state.specs.Names.{is_own}
use Rattle.mlk_walk_state.specs.Scope.{Scope, listed, listed_at}
use Rattle.mlk_soundness_machine.specs.Described.{World, Level, bare, idle, Stands}
use Rattle.mlk_soundness_machine.specs.Frames.{Binds, Agrees, times_waiting}
use Rattle.mlk_names.specs.declared.lock_name.LockName.{LockName}
use Rattle.mlk_machine_laws.specs.Sharing.{is_lent}
use Rattle.mlk_soundness_machine.specs.Marked.{Begun, AreMarked, Marked}
use Rattle.mlk_soundness_machine.specs.Reads.{now, times}
use Rattle.mlk_soundness_machine.proofs.Worlds.{guarded_map, waiting_kept}
use Rattle.mlk_soundness_machine.specs.Places.{line_number, entry_trees, StandIn, none_follows, OnLine, AreRoundOf}
use Rattle.mlk_soundness_machine.specs.Listed.{IsDescribed, IsListedAt, IsAtStart, IsAtLine, IsAtRound, IsInside, StartListed, GoesListed, RoundListed, CommandWalked, ArgumentWalked, StartsDeclared}

-- what the open blocks and frames, and the begin of the running frame, add to the description of a frame
module _ (sc : Scope) (w : World) (b : Level) (c : Case) (j : Job) (k : AreMarked w b (marks j.tasks)) (u : Begun sc w) (d : Stands sc w b c (bare (idle j))) where
  -- what others have set aside denotes what it denoted at the frame's begin
  aside_same : (m : LockName) → times_waiting j.cells j.number w.waiting m ≡ times_waiting w.saved w.number w.waiting m
  aside_same m =
      waiting_kept w.saved j.cells j.number w.waiting u.rests (guarded_map (λ e. (j.cells e ≡ w.saved e) × (is_lent j.bindings e ≡ false)) (λ e. j.cells e ≡ w.saved e) (λ e g. g.0) w.waiting d.guarded) m
      ∙ ap (λ z. times_waiting w.saved z w.waiting m) d.numbered

  pub is_described : IsDescribed u.block.summary.need c w.begun j
  is_described = record {
    test = d.test;
    saved = subst (AllZip Agrees c.saved) (sym k.tests) d.saved;
    waiting = w.waiting;
    frames = k.frames;
    own = subst (λ z. Binds j.bindings z (λ n. is_own c.own n)) u.back d.frame;
    counts = d.counts;
    first = u.first;
    others = u.others;
    since = u.since;
    aside = λ m. u.held m ∙ ap (λ z. times (now u.first) u.block.summary.need m + z) (sym (aside_same m));
    kept = λ n h r. let v = u.values n (d.kept_formal n h) r in d.kept n h v.0 ∙ v.1;
  }

-- the entry is one of the running routine
own_is : (sc : Scope) (w : World) (u : Begun sc w) → w.entry.routine ≡ sc.own
own_is sc w u = sym (ap (λ (z : Scope). z.own) u.scope)

pub is_listed_at : (sc : Scope) (w : World) (b : Level) (c : Case) (number round : ℕ) → Among c (listed sc number round) → (j : Job) → AreMarked w b (marks j.tasks) → (u : Begun sc w)
    → Stands sc w b c (bare (idle j)) → IsListedAt sc.routines sc.blocks number round w.begun j
unfolding is_described
is_listed_at sc w b c number round i j k u d = record {
  entry = w.entry;
  running = own_is sc w u ∙ sym d.routine;
  block = u.block;
  is_certified = u.certified;
  case = c;
  is_listed = subst (λ (z : Scope). Among c (listed_at z.points number round)) u.scope i;
  describes = is_described sc w b c j k u d;
  began = u.began;
}

pub is_at_start : (sc : Scope) (w : World) (b : Level) (c : Case) (number : ℕ) → Among c (listed sc number 0) → (j : Job) → AreMarked w b (marks j.tasks) → (u : Begun sc w)
    → Stands sc w b c (bare (idle j)) → line_number u.began.head ≡ number → IsAtStart sc.routines sc.blocks w.begun j
unfolding is_listed_at
is_at_start sc w b c number i j k u d same = (number, is_listed_at sc w b c number 0 i j k u d, same)

-- the lines of the world's entry
abbrev pub own_lines : Scope → World → LineTrees
own_lines sc w = entry_trees sc.routines w.entry

-- at such a line
pub is_at_line : (sc : Scope) (w : World) (b : Level) (c : Case) (l : LineTree) (lines : List LineTree) → Among c (listed sc (line_number l.0) 0)
    → (behind : LineTrees) → StandIn (line l.0 l.1 behind) (own_lines sc w) → (others : List LineTree) → lines ≡ as_lines behind ++ others → none_follows others ≡ true → (j : Job) → AreMarked w b (marks j.tasks) → (u : Begun sc w)
    → Stands sc w b c (bare (idle j)) → IsAtLine sc.routines sc.blocks l lines w.begun j
unfolding is_listed_at
is_at_line sc w b c l lines i behind is others ahead none j k u d = record { at = is_listed_at sc w b c (line_number l.0) 0 i j k u d; behind = behind; is_line = is; others = others; ahead = ahead; no_more = none }

-- A case is listed for rounds that run these commands, on the line that the job is on.
pub record BeginsRound (sc : Scope) (lines : LineTrees) (rest : CommandTrees) (here : LineTree) (ts : List Task) (c : Case) : Type 0 where
  pub on : OnLine lines here ts
  pub index : ℕ
  pub runs : AreRoundOf rest index (commands_in here.0)
  pub is_listed : Among c (listed sc (line_number here.0) index)

pub is_at_round : (sc : Scope) (w : World) (b : Level) (rest : CommandTrees) (here : LineTree) (ts : List Task) (c : Case) → BeginsRound sc (own_lines sc w) rest here ts c → (j : Job) → AreMarked w b (marks j.tasks) → (u : Begun sc w)
    → Stands sc w b c (bare (idle j)) → IsAtRound sc.routines sc.blocks rest here ts w.begun j
unfolding is_listed_at
is_at_round sc w b rest here ts c r j k u d = record {
  entry = w.entry;
  on = r.on;
  index = r.index;
  runs = r.runs;
  at = is_listed_at sc w b c (line_number here.0) r.index r.is_listed j k u d;
  its = refl;
}

-- if the walk reaches a case
pub is_inside : (sc : Scope) (w : World) (b : Level) (Comes : Scope → LineTrees → Case → Type 0) (c : Case) → Comes sc (own_lines sc w) c → (j : Job) → AreMarked w b (marks j.tasks) → (u : Begun sc w)
    → Stands sc w b c (bare (idle j)) → IsInside sc.routines sc.rules (sc.blocks, sc.declared_entries) Comes w.begun j
unfolding is_described
is_inside sc w b Comes c r j k u d = record {
  entry = w.entry;
  running = own_is sc w u ∙ sym d.routine;
  certificate = u.block;
  is_certified = u.certified;
  case = c;
  comes = subst (λ z. Comes z (own_lines sc w) c) u.scope r;
  describes = is_described sc w b c j k u d;
  began = u.began;
}

-- if the frame has just begun
pub starts_listed : (sc : Scope) (w : World) (b : Level) (j : Job) → Marked sc w b (marks j.tasks) → StartListed sc.routines sc.blocks w.begun j
starts_listed sc w b j k others commands block ts since at =
    let z : k.begun.first ∷ k.begun.others ≡ j ∷ others = sym k.begun.since ∙ since in
    let same : k.begun.first ≡ j = cc z in
    subst (IsAtStart sc.routines sc.blocks w.begun) same k.starts

-- a job that begins no commands, moves on to no line, and begins no round
abbrev pub begins_lines : List Task → Bool
begins_lines (RunLines (l ∷ lines) ∷ ts) = true
begins_lines ts = false

abbrev pub begins_commands : List Task → Bool
begins_commands (RunCommands rest block ∷ ts) = true
begins_commands ts = false

pub no_start : (routines : List RoutineTree) (blocks : List (EntryId × EntryCert)) (begun : List Job) (j : Job) (ts : List Task) → j.tasks ≡ ts → begins_commands ts ≡ false → StartListed routines blocks begun j
no_start routines blocks begun j ts e h others commands block us since at = let z : true ≡ false = sym (ap begins_commands (sym e ∙ at)) ∙ h in absurd (cc z)

pub no_line : (routines : List RoutineTree) (blocks : List (EntryId × EntryCert)) (begun : List Job) (j : Job) (ts : List Task) → j.tasks ≡ ts → begins_lines ts ≡ false → GoesListed routines blocks begun j
no_line routines blocks begun j ts e h l lines us at = let z : true ≡ false = sym (ap begins_lines (sym e ∙ at)) ∙ h in absurd (cc z)

pub no_round : (routines : List RoutineTree) (blocks : List (EntryId × EntryCert)) (begun : List Job) (j : Job) (ts : List Task) → j.tasks ≡ ts → begins_commands ts ≡ false → RoundListed routines blocks begun j
no_round routines blocks begun j ts e h rest block t us at is = let z : true ≡ false = sym (ap begins_commands (sym e ∙ at)) ∙ h in absurd (cc z)

pub no_command : (routines : List RoutineTree) (rules : RuleLists) (entries : List (EntryId × EntryCert) × List EntryId) (begun : List Job) (j : Job) (ts : List Task) → j.tasks ≡ ts → begins_commands ts ≡ false
    → CommandWalked routines rules entries begun j
no_command routines rules entries begun j ts e h left block us at = let z : true ≡ false = sym (ap begins_commands (sym e ∙ at)) ∙ h in absurd (cc z)

-- a job that ends no argument, and starts no job
abbrev pub ends_argument : List Task → Bool
ends_argument (NextArgument action count ∷ ts) = true
ends_argument ts = false

abbrev pub starts_job : List Task → Bool
starts_job (StartJob callee given ∷ ts) = true
starts_job ts = false

pub no_argument : (routines : List RoutineTree) (rules : RuleLists) (entries : List (EntryId × EntryCert) × List EntryId) (begun : List Job) (j : Job) (ts : List Task) → j.tasks ≡ ts → ends_argument ts ≡ false
    → ArgumentWalked routines rules entries begun j
no_argument routines rules entries begun j ts e h action count left here us at = let z : true ≡ false = sym (ap ends_argument (sym e ∙ at)) ∙ h in absurd (cc z)

pub no_start_of_job : (routines : List RoutineTree) (declared : List EntryId) (j : Job) (ts : List Task) → j.tasks ≡ ts → starts_job ts ≡ false → StartsDeclared routines declared j
no_start_of_job routines declared j ts e h callee given us at = let z : true ≡ false = sym (ap starts_job (sym e ∙ at)) ∙ h in absurd (cc z)
