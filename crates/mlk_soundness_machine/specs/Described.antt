-- How a case describes a job. This project's own choice.
use Rattle.std.specs.Prelude.{◌≡◌, ◌<◌, ◌≤◌, ℕ, ◌+◌, ◌==◌, ◌&&◌, Bool, true, false, List}
use Rattle.std.specs.Prelude.{[], ◌∷◌, ◌++◌, reverse, Option, Some, None, bytes_eq}
use Rattle.std.specs.List.{list_any, AllZip}
use Rattle.mlk_cert_lexemes.specs.Lists.{Each}
use Rattle.mlk_names.specs.declared.lock_name.LockName.{LockName}
use Rattle.mlk_names.specs.declared.term.LockTerm.{LockTerm}
use Rattle.mlk_names.specs.declared.symbol.Sym.{Sym}
use Rattle.mlk_names.specs.declared.symbol.Sym.TheVariants as sym
use Rattle.mlk_names.specs.declared.symbol.Sym.TheVariants.{Unknown}
use Rattle.mlk_names.specs.Symbols.{Assignment, StandsFor}
use Rattle.mlk_cert_parts.specs.declared.names.Own.{Own}
use Rattle.mlk_cert_parts.specs.declared.case.Case.{Case}
use Rattle.mlk_program.specs.declared.entry.EntryId.{EntryId}
use Rattle.mlk_rules.specs.Ranks.{NameHasRank}
use Rattle.mlk_machine_locks.specs.Counts.{count_of}
use Rattle.mlk_machine_jobs.specs.Bindings.{Cell, Bindings, Cells, look}
use Rattle.mlk_machine_jobs.specs.Tasks.{Job}
use Rattle.mlk_walk_state.specs.declared.state.State.{State}
use Rattle.mlk_walk_state.specs.Names.{has, have, is_own, is_among}
use Rattle.mlk_walk_state.specs.Scope.{Scope}
use Rattle.mlk_machine_laws.specs.Sharing.{is_lent}
use Rattle.mlk_machine_laws.specs.Tidy.{Below}
use Rattle.mlk_machine_laws.proofs.Sharing.{Ordered}
use Rattle.mlk_soundness_machine.specs.Reads.{now, times, mentions}
use Rattle.mlk_soundness_machine.specs.Frames.{Waiting, times_waiting, Agrees, Binds}

-- a symbol is this local, and one of these symbols is
abbrev pub is_local : List ℕ → Sym → Bool
is_local x (sym.Const value) = false
is_local x (sym.Local name) = bytes_eq name x
is_local x sym.Job = false
is_local x sym.Unknown = false

unfoldable pub some_local : List ℕ → List Sym → Bool
some_local x symbols = list_any (is_local x) symbols

-- What is fixed while a frame runs: the job's number, the bindings of names at its begin, the waiting frames, the values of
-- their cells, and the values that they have computed; its formals, which of them are another's by reference, and the values
-- of names at its begin; the job at the begin of each open frame, the running one first; and the entry by which the running
-- one began.
pub record World : Type 0 where
  pub number : ℕ
  pub back : Bindings
  pub waiting : List Waiting
  pub saved : Cells
  pub values : List (List ℕ)
  pub formals : List ℕ → Bool
  pub refs : List ℕ → Bool
  pub snap : List ℕ → Option (List ℕ)
  pub begun : List Job
  pub entry : EntryId

-- what is fixed while a block runs, or the lines of a frame: the level, how names were bound and which were own at its begin, and
-- the values of `$TEST` that the frame's open blocks restore, the outermost first
pub record Level : Type 0 where
  pub level : ℕ
  pub back : Bindings
  pub own : List Own
  pub tests : List Bool

-- What is computed and not yet used, the last one first: a value whose symbol is captured; one without a symbol, which may be
-- known; and a captured symbol whose value the job no longer has, or never had.
pub data Slot : Type 0 where
  Kept : Slot
  Bare : (known : Option (List ℕ)) → Slot
  Spent : (value : List ℕ) → Slot
  Blank : Slot

abbrev pub IsGiven : Option (List ℕ) → List ℕ → Type 0
IsGiven None v = Unit {0}
IsGiven (Some value) v = v ≡ value

-- the job has these values, and below them those of the waiting frames; the captured symbols, the last one first, denote
-- theirs
abbrev pub Fills : Assignment → List Slot → List Sym → List (List ℕ) → List (List ℕ) → Type 0
Fills a [] [] values below = values ≡ below
Fills a [] (s ∷ ss) values below = ⊥
Fills a (Kept ∷ slots) [] values below = ⊥
Fills a (Kept ∷ slots) (s ∷ ss) [] below = ⊥
Fills a (Kept ∷ slots) (s ∷ ss) (v ∷ values) below = StandsFor a s v × Fills a slots ss values below
Fills a (Bare known ∷ slots) ss [] below = ⊥
Fills a (Bare known ∷ slots) ss (v ∷ values) below = IsGiven known v × Fills a slots ss values below
Fills a (Spent v ∷ slots) [] values below = ⊥
Fills a (Spent v ∷ slots) (s ∷ ss) values below = StandsFor a s v × Fills a slots ss values below
Fills a (Blank ∷ slots) [] values below = ⊥
Fills a (Blank ∷ slots) (s ∷ ss) values below = (s ≡ Unknown) × Fills a slots ss values below

-- `P` holds of each cell that a waiting frame depends on
abbrev pub Guarded : (Cell → Type 0) → List Waiting → Type 0
Guarded P [] = Unit {0}
Guarded P (w ∷ ws) = ((x : List ℕ) → w.guards x ≡ true → P (look w.bindings x)) × Guarded P ws

-- each frame's bindings are a tail of those of its callee
abbrev pub Nested : Bindings → List Waiting → Type 0
Nested back [] = Unit {0}
Nested back (w ∷ ws) = (front : Bindings) × (back ≡ front ++ w.bindings) × Nested w.bindings ws

-- each frame depends on what its terms mention
abbrev pub Rests : List Waiting → Type 0
Rests [] = Unit {0}
Rests (w ∷ ws) = ((x : List ℕ) → mentions x w.terms ≡ true → w.guards x ≡ true) × Rests ws

-- each name that terms mention has a value
abbrev pub Defined : Cells → Bindings → List LockTerm → Type 0
Defined cells bindings terms = (x : List ℕ) → mentions x terms ≡ true → (v : List ℕ) × (cells (look bindings x) ≡ Some v)

-- own by an item of this level
abbrev pub own_at : ℕ → List Own → List ℕ → Bool
own_at level own n = list_any (λ (o : Own). (o.level == level) && has o.names n) own

-- what is required of a world while lines of an entry with this summary run in it
pub record IsWorld (sc : Scope) (w : World) : Type 0 where
  pub nested : Nested w.back w.waiting
  pub rests : Rests w.waiting
  -- the entry changes nothing that waiting frames depend on
  pub quiet : (n : List ℕ) → have sc.summary.mods n ≡ true → Guarded (λ d. look w.back n ≡ d → ⊥) w.waiting
  -- each name that they hold is below all that the entry claims
  pub ranks : (low : ℕ) → sc.summary.low ≡ Some low → (m : LockName) → 0 < times_waiting w.saved w.number w.waiting m
      → (r : ℕ) × NameHasRank sc.rules.families m r × (r < low)
  -- and if the entry may release all, they hold none
  pub drops : sc.summary.drops ≡ true → (m : LockName) → times_waiting w.saved w.number w.waiting m ≡ 0

-- the job without its remaining tasks; and without its computed values too
abbrev pub idle : Job → Job
idle j = record j { tasks = [] }

abbrev pub bare : Job → Job
bare j = record j { tasks = []; values = [] }

-- The case describes the job, while the frame and the block run in what is fixed.
pub record Stands (sc : Scope) (w : World) (b : Level) (c : Case) (j : Job) : Type 0 where
  pub test : Agrees c.test j.test
  pub saved : AllZip Agrees c.saved b.tests
  pub counts : (m : LockName) → count_of j.held m ≡ times (now j) c.held m + times_waiting j.cells j.number w.waiting m
  pub defined : Defined j.cells j.bindings c.held
  -- the names bound since the frame began are the own ones, and those bound since the block began are own at its level
  pub frame : Binds j.bindings w.back (λ n. is_own c.own n)
  pub block : Binds j.bindings b.back (λ n. own_at b.level c.own n)
  pub outer : (level : ℕ) → (level ≡ b.level → ⊥) → (n : List ℕ) → own_at level c.own n ≡ own_at level b.own n
  pub low : Each (λ (o : Own). o.level ≤ b.level) c.own
  pub formals : (x : List ℕ) → w.formals x ≡ true → own_at 1 c.own x ≡ true
  -- what the frame depends on is nobody else's
  pub held_sole : (x : List ℕ) → mentions x c.held ≡ true → is_lent j.bindings (look j.bindings x) ≡ false
  pub kept_sole : (x : List ℕ) → is_among c.kept x ≡ true → w.refs x ≡ false → is_lent j.bindings (look j.bindings x) ≡ false
  pub unshared : (x : List ℕ) → sc.is_shared c.own x ≡ false → is_lent j.bindings (look j.bindings x) ≡ false
  -- kept names are formals with their values of the begin, and are not own at a block's level
  pub kept : (x : List ℕ) → is_among c.kept x ≡ true → w.refs x ≡ false → j.cells (look j.bindings x) ≡ w.snap x
  pub kept_formal : (x : List ℕ) → is_among c.kept x ≡ true → w.formals x ≡ true
  pub kept_out : (x : List ℕ) → is_among c.kept x ≡ true → (level : ℕ) → 1 < level → own_at level c.own x ≡ false
  -- what waiting frames depend on is unchanged, and nobody else's
  pub guarded : Guarded (λ d. (j.cells d ≡ w.saved d) × (is_lent j.bindings d ≡ false)) w.waiting
  pub numbered : j.number ≡ w.number
  pub running : j.stopped ≡ false
  pub routine : j.routine ≡ sc.own
  pub ordered : Ordered j.bindings
  pub older : Below j.next j.bindings

-- The state describes the job, with what is computed and not yet used.
pub record Describes (sc : Scope) (w : World) (b : Level) (slots : List Slot) (s : State) (j : Job) : Type 0 where
  pub stands : Stands sc w b s.case (bare j)
  pub captured_sole : (x : List ℕ) → some_local x s.captured ≡ true → is_lent j.bindings (look j.bindings x) ≡ false
  pub values : Fills (now j) slots (reverse s.captured) j.values w.values
