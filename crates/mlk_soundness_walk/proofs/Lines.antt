-- Commands one after another, and lines: each continues in a case that is listed.
use Rattle.std.proofs.Common.{◌≡◌, ℕ, suc, Bool, true, false, List, [], ◌∷◌, ◌++◌, reverse, Option, Some, None, refl, sym, ap, ◌∙◌, subst, arith, ⊎_elim, inl, inr}
use Rattle.std.specs.Prelude.{◌⊎◌, is_some}
use Rattle.std.specs.List.{list_any, AllZip}
use Rattle.std.proofs.lemmas.Bool.{cases_Bool, or_cases, or_left, or_right, false≢true}
use Rattle.std.specs.Prelude.{Contains, bytes_eq}
use Rattle.mlk_names.specs.Lists.{Among}
use Rattle.mlk_names.specs.declared.symbol.Sym.{Sym}
use Rattle.mlk_names.specs.Symbols.{Assignment}
use Rattle.mlk_names.proofs.ListLemmas.{contains_cases}
use Rattle.mlk_soundness_machine.specs.Frames.{Agrees}
use Rattle.mlk_soundness_machine.specs.Reads.{now}
use Rattle.mlk_soundness_machine.specs.Described.{some_local, World, Level, Fills, idle, bare, Stands, Describes}
use Rattle.mlk_syntax.specs.Trees.{RoutineTree, CommandTree, ControlTree, CommandTrees, finished, then_command, then_for, HeadTree, LineHead, LineTrees, no_lines, line, Does}
use Rattle.mlk_program.specs.Entries.{as_lines, formals_of}
use Rattle.mlk_cert_parts.specs.declared.case.Case.{Case}
use Rattle.mlk_cert_parts.specs.declared.case.Test.{Test}
use Rattle.mlk_cert_parts.specs.Inclusion.{Included, Covers}
use Rattle.mlk_cert_lexemes.specs.Lists.{Each, EachPair}
use Rattle.mlk_machine_jobs.specs.Tasks as task
use Rattle.mlk_machine_jobs.specs.Tasks.{Task, Job, RunLines, RunCommands, LineTree}
use Rattle.mlk_machine_jobs.specs.Choices.{doing}
use Rattle.mlk_machine_jobs.specs.Calling.{commands_in}
use Rattle.mlk_machine_jobs.specs.Lines.{is_end, skipped, quit, to_end, next_command, command_parts, for_parts}
use Rattle.mlk_walk_state.specs.declared.state.State.{State}
use Rattle.mlk_walk_state.specs.States.{at_rest}
use Rattle.mlk_walk_state.specs.Scope.{Scope, listed}
use Rattle.mlk_walk_state.specs.Names.{is_among}
use Rattle.mlk_walk_state.specs.Cases.{includes, is_listed}
use Rattle.mlk_walk_state.proofs.CaseTests.{includes_decides}
use Rattle.mlk_walk_exprs.specs.declared.walk.Quit.{Quit}
use Rattle.mlk_walk_exprs.specs.Spots.{Spot}
use Rattle.mlk_walk_lines.specs.Loops.{commands, one_command}
use Rattle.mlk_walk_lines.specs.Endings.{Around, OfBlock, LineEnd, number_of, into_line, continuation, case_end, quit_end, state_end, level_end}
use Rattle.mlk_walk_lines.specs.Lines.{next_head, block_with, walk_lines}
use Rattle.mlk_walk_laws.specs.Fewer.{ListsEachOnce}
use Rattle.mlk_soundness_machine.specs.Safe.{KeepsIn}
use Rattle.mlk_soundness_machine.proofs.Facts.{lines_facts, commands_facts, argument_facts}
use Rattle.mlk_soundness_machine.specs.Places.{StandIn, none_follows, alone}
use Rattle.mlk_soundness_machine.proofs.Listing.{own_lines}
use Rattle.mlk_soundness_machine.proofs.Going.{step}
use Rattle.mlk_walk_laws.specs.Passing.{IsRight, PassesFromEach, EachLinePasses}
use Rattle.mlk_walk_laws.proofs.Rounds.{one_keeps, commands_keep}
use Rattle.mlk_soundness_machine.proofs.Reading.{differs, name_is, name_self}
use Rattle.mlk_soundness_machine.proofs.Stack.{turned_twice}
use Rattle.mlk_soundness_machine.proofs.Steps.{done, refused, unasked}
use Rattle.mlk_soundness_machine.proofs.Values.{Safe, Fits, plain_step}
use Rattle.mlk_soundness_walk.proofs.Alone.{Leads}
use Rattle.mlk_soundness_walk.proofs.Alone.{leads_both, leads_stay, leads_there}
use Rattle.mlk_soundness_walk.proofs.Places.{AreWithin, lines_behind, lines_below, first_in, Opens, opens_line, opens_rest, comes_to, begins_round, comes_after}
use Rattle.mlk_soundness_walk.specs.Commands.{AreOnLine}
use Rattle.mlk_soundness_walk.specs.Commands as stated
use Rattle.mlk_soundness_walk.specs.Ours.{IsOf, AreOf, IsHeadOf, AreLinesOf}
use Rattle.mlk_soundness_walk.proofs.Ours.{first_of, rest_of}

-- a case that says no more than another describes all that the other describes
test_less : (s t : Test) (b : Bool) → Covers s t → Agrees s b → Agrees t b
test_less s t b (inl e) h = subst (λ z. Agrees z b) (sym e) tt
test_less s t b (inr e) h = subst (λ z. Agrees z b) (sym e) h

tests_less : (ss ts : List Test) (bs : List Bool) → EachPair Covers ss ts → AllZip Agrees ss bs → AllZip Agrees ts bs
tests_less [] [] bs e h = h
tests_less [] (t ∷ ts) bs e h = absurd e
tests_less (s ∷ ss) [] bs e h = absurd e
tests_less (s ∷ ss) (t ∷ ts) [] e h = absurd h
tests_less (s ∷ ss) (t ∷ ts) (b ∷ bs) e h = (test_less s t b e.0 h.0, tests_less ss ts bs e.1 h.1)

among_contains : (names : List (List ℕ)) (x : List ℕ) → Contains names x → is_among names x ≡ true
unfolding is_among
among_contains [] x h = absurd (omega (arith, h.1))
among_contains (n ∷ names) x h =
    ⊎_elim
    (λ (e : n ≡ x). or_left (bytes_eq x n) (is_among names x) (subst (λ z. bytes_eq x z ≡ true) (sym e) (name_self x)))
    (λ (k : Contains names x). or_right (bytes_eq x n) (is_among names x) (among_contains names x k))
    (contains_cases n names x h)

kept_each : (names more : List (List ℕ)) (x : List ℕ) → Each (Contains more) names → is_among names x ≡ true → is_among more x ≡ true
unfolding is_among
kept_each [] more x e h = differs false h refl
kept_each (n ∷ names) more x e h =
    ⊎_elim
    (λ (u : bytes_eq x n ≡ true). subst (λ z. is_among more z ≡ true) (sym (name_is x n u)) (among_contains more n e.0))
    (λ (u : is_among names x ≡ true). kept_each names more x e.1 u)
    (or_cases (bytes_eq x n) (is_among names x) h)

pub none_local : (x : List ℕ) → some_local x [] ≡ false
unfolding some_local
none_local x = refl

pub nothing : (a : Assignment) (ss : List Sym) (values below : List (List ℕ)) → Fills a [] ss values below → values ≡ below
nothing a [] values below f = f
nothing a (s ∷ ss) values below f = absurd f

-- a state that describes a job without values of its own has nothing captured
none_captured : (a : Assignment) (ss : List Sym) (values below : List (List ℕ)) → Fills a [] ss values below → ss ≡ []
none_captured a [] values below f = refl
none_captured a (s ∷ ss) values below f = absurd f

pub rests : (sc : Scope) (w : World) (b : Level) (s : State) (j : Job) → Describes sc w b [] s j → s ≡ at_rest s.case
rests sc w b s j d =
    let e : s.captured ≡ [] = sym (turned_twice s.captured) ∙ ap reverse (none_captured (now j) (reverse s.captured) j.values w.values d.values) in
    ap (λ z. record s { captured = z }) e

-- if nothing is captured, a state is its case
pub at_rest_law : (sc : Scope) (w : World) (b : Level) (u : State) (j : Job) → Describes sc w b [] u j → Describes sc w b [] (at_rest u.case) j
at_rest_law sc w b u j k = record { stands = k.stands; captured_sole = λ x h. differs (some_local x []) h (none_local x); values = nothing (now j) (reverse u.captured) j.values w.values k.values }

module _ (sc : Scope) (w : World) (b : Level) (c d : Case) (i : Included c d) where
  kept_in : (x : List ℕ) → is_among d.kept x ≡ true → is_among c.kept x ≡ true
  kept_in x h = kept_each d.kept c.kept x i.kept h

  pub less_stands : (j : Job) → Stands sc w b c j → Stands sc w b d j
  less_stands j k =
      let first : Stands sc w b (record { test = d.test; saved = d.saved; held = c.held; own = c.own; kept = d.kept }) j = record {
        test = test_less c.test d.test j.test i.test k.test;
        saved = tests_less c.saved d.saved b.tests i.saved k.saved;
        counts = k.counts;
        defined = k.defined;
        frame = k.frame;
        block = k.block;
        outer = k.outer;
        low = k.low;
        formals = k.formals;
        held_sole = k.held_sole;
        kept_sole = λ x h r. k.kept_sole x (kept_in x h) r;
        unshared = k.unshared;
        kept = λ x h r. k.kept x (kept_in x h) r;
        kept_formal = λ x h. k.kept_formal x (kept_in x h);
        kept_out = λ x h. k.kept_out x (kept_in x h);
        guarded = k.guarded;
        numbered = k.numbered;
        running = k.running;
        routine = k.routine;
        ordered = k.ordered;
        older = k.older;
      } in
      subst (λ o. Stands sc w b (record { test = d.test; saved = d.saved; held = d.held; own = o; kept = d.kept }) j) (sym i.own)
      (subst (λ h. Stands sc w b (record { test = d.test; saved = d.saved; held = h; own = c.own; kept = d.kept }) j) (sym i.held) first)

  pub less_law : (u : State) → u.case ≡ c → (j : Job) → Describes sc w b [] u j → Describes sc w b [] (at_rest d) j
  less_law u e j k = record {
    stands = less_stands (bare j) (subst (λ z. Stands sc w b z (bare j)) e k.stands);
    captured_sole = λ x h. differs (some_local x []) h (none_local x);
    values = nothing (now j) (reverse u.captured) j.values w.values k.values;
  }

-- the listed case for this one
pub listed_for : (cases : List Case) (c : Case) → is_listed cases c ≡ true → (d : Case) × Among d cases × Included c d
listed_for [] c h = differs false h refl
listed_for (d ∷ cases) c h =
    ⊎_elim
    (λ (u : includes c d ≡ true). (d, inl refl, (includes_decides c d).0 u))
    (λ (u : list_any (includes c) cases ≡ true). let r = listed_for cases c u in (r.0, inr r.1, r.2))
    (or_cases (includes c d) (list_any (includes c) cases) h)

module _ (routines : List RoutineTree) (w : World) (b : Level) where
  abbrev Fit : Spot → ℕ → List Task → State → Type 0
  Fit p n ts s = Fits routines p.scope w b [] n ts s

  abbrev Gives : Scope → ℕ → List Task → State → Type 0
  Gives = stated.Gives routines w b

  abbrev Jumps : Scope → ℕ → List Task → Type 0
  Jumps = stated.Jumps routines w b

  -- a command, and a FOR, if the walk finds nothing wrong: what follows it, what it skips to and what it quits to
  pub record CommandFits (p : Spot) (here : LineTree) (n : ℕ) : Type 1 where
    pub one : (may : Bool) (c : CommandTree) → IsOf p.scope may c → (ts : List Task) (s : State) → stated.KeepsBetween routines w b p c ts s → (A : State → Type 0) (S : Case → Type 0) (Q : Quit → Type 0) → Leads (λ v. one_command p v c) s A S Q
        → ((u : State) → A u → Fit p n ts u) → ((d : Case) → S d → Fit p n (skipped ts) (at_rest d)) → ((q : Quit) → Q q → Fit p n (quit ts) (at_rest q.case))
        → (may ≡ true → (q : Quit) → Q q → Gives p.scope n (to_end ts) (at_rest q.case)) → (may ≡ true → Jumps p.scope n (to_end ts)) → Fit p n (command_parts here.1 c ++ ts) s
    pub loop : (may : Bool) (column index : ℕ) (control : Option ControlTree) (rest : CommandTrees) → AreOf p.scope may (then_for column index control rest) → (ts : List Task) → AreOnLine w p here (then_for column index control rest) ts → (s : State) (A : State → Type 0) (S : Case → Type 0) (Q : Quit → Type 0)
        → Leads (commands p (then_for column index control rest)) s A S Q
        → ((u : State) → A u → Fit p n ts u) → ((d : Case) → S d → Fit p n (skipped ts) (at_rest d)) → ((q : Quit) → Q q → Fit p n (quit ts) (at_rest q.case))
        → Fit p n (for_parts control rest here ∷ ts) s

  -- the commands of a line from here on
  abbrev pub RestFits : Spot → LineTree → CommandTrees → ℕ → Type 1
  RestFits p here cs n =
      (may : Bool) → AreOf p.scope may cs → (ts : List Task) (s : State) (A : State → Type 0) (S : Case → Type 0) (Q : Quit → Type 0) → Opens w p here cs ts s → Leads (commands p cs) s A S Q
      → ((u : State) → A u → Fit p n ts u) → ((d : Case) → S d → Fit p n (skipped ts) (at_rest d)) → ((q : Quit) → Q q → Fit p n (quit ts) (at_rest q.case))
      → (may ≡ true → (q : Quit) → Q q → Gives p.scope n (to_end ts) (at_rest q.case)) → (may ≡ true → Jumps p.scope n (to_end ts)) → Fit p n (RunCommands cs here ∷ ts) s

  -- a statement about the outcomes of the walk, made for all that it leads to
  pub as_said : (p : Spot) (here : LineTree) (n : ℕ) → stated.CommandsAreSafe routines w b p here n → CommandFits p here n
  as_said p here n h = record {
    one = λ may c of ts s between A S Q l go skip stop give jump.
        h.one may c of ts s between l.clean (record { going = λ u i. go u (l.going u i); skips = λ d i. skip d (l.skips d i); quits = λ q i. stop q (l.quits q i); gives = λ y q i. give y q (l.quits q i); jumps = jump });
    loop = λ may column index control rest of ts on s A S Q l go skip stop.
        h.loop may column index control rest of ts on s l.clean (record { going = λ u i. go u (l.going u i); skips = λ d i. skip d (l.skips d i); quits = λ q i. stop q (l.quits q i); gives = λ y q i. absurd (false≢true y); jumps = λ y. absurd (false≢true y) });
  }

  -- after each argument of a command
  pub between : (p : Spot) (here : LineTree) (c : CommandTree) (rest : CommandTrees) (ts : List Task) (s : State) → Opens w p here (then_command c rest) ts s → s ≡ at_rest s.case → stated.KeepsBetween routines w b p c (RunCommands rest here ∷ ts) s
  between p here (Does column condition action) rest ts s o at = λ begun holds count u acts j d e.
      argument_facts p.scope w b j action count rest here ts e u.case
      (comes_after w p here column condition action rest ts s o at begun holds count u acts (rests p.scope w b u (idle j) d)) d.stands

  module _ (p : Spot) (here : LineTree) (n : ℕ) (once : ListsEachOnce p.scope) (each : CommandFits p here n) (S : Case → Type 0) (Q : Quit → Type 0) (may : Bool) where
    opened : (cs : CommandTrees) (ts : List Task) (s : State) → Opens w p here cs ts s → Fit p n (next_command cs here ts) s → Fit p n (RunCommands cs here ∷ ts) s
    opened cs ts s o k j d e =
        step routines p.scope w b n j (RunCommands cs here) ts e refl (commands_facts p.scope w b j cs here ts e s.case (comes_to w p here cs ts s o (rests p.scope w b s (idle j) d)) (begins_round w p here cs ts s o) d.stands) (λ free c.
        unasked (Safe routines p.scope w b n) c _ (done (Safe routines p.scope w b n) (doing (next_command cs here ts) j) (k (doing (next_command cs here ts) j) d refl)))

    pub commands_fit : (cs : CommandTrees) → AreOf p.scope may cs → (ts : List Task) (s : State) (A : State → Type 0) → Opens w p here cs ts s → Leads (commands p cs) s A S Q
        → ((u : State) → A u → Fit p n ts u) → ((d : Case) → S d → Fit p n (skipped ts) (at_rest d)) → ((q : Quit) → Q q → Fit p n (quit ts) (at_rest q.case))
        → (may ≡ true → (q : Quit) → Q q → Gives p.scope n (to_end ts) (at_rest q.case)) → (may ≡ true → Jumps p.scope n (to_end ts)) → Fit p n (RunCommands cs here ∷ ts) s
    commands_fit finished of ts s A o l go skip stop give jump = opened finished ts s o (go s (leads_stay A S Q s l))
    commands_fit (then_command c rest) of ts s A o l go skip stop give jump = λ j d e.
        opened (then_command c rest) ts s o
        (each.one may c (first_of p.scope may c rest of) (RunCommands rest here ∷ ts) s (between p here c rest ts s o (rests p.scope w b s (idle j) d)) (λ u. Leads (commands p rest) u A S Q × Among u (one_command p (alone s) c).going) S Q
        (leads_there (λ u. Leads (commands p rest) u A S Q) S Q (λ v. one_command p v c) s (leads_both A S Q (λ v. one_command p v c) (commands p rest) (one_keeps p c) (commands_keep p once rest) s l))
        (λ u m. commands_fit rest (rest_of p.scope may c rest of) ts u A (opens_rest w p here once c rest ts s u o m.1) m.0 go skip stop give jump) skip stop give jump) j d e
    commands_fit (then_for column index control rest) of ts s A o l go skip stop give jump =
        opened (then_for column index control rest) ts s o (each.loop may column index control rest of ts o.place s A S Q l go skip stop)

-- on each line of a level, commands are safe
module _ (routines : List RoutineTree) (sc : Scope) (w : World) (b : Level) (n : ℕ) where
  abbrev pub BlockFits : LineTrees → Type 1
  BlockFits block = (head : HeadTree) (p : Spot) → p.scope ≡ sc → p.level ≡ b.level → p.block ≡ block_with block (walk_lines sc OfBlock block).ends → CommandFits routines w b p (head, block) n

  abbrev pub EachBlockFits : LineTrees → Type 1
  EachBlockFits no_lines = Unit {1}
  EachBlockFits (line head block rest) = BlockFits block × EachBlockFits rest

  -- if they are safe whatever the line's block is
  pub all_fit : ((block : LineTrees) → AreLinesOf sc (suc b.level) false block → EachLinePasses sc OfBlock (walk_lines sc OfBlock block).ends block → AreWithin block (own_lines sc w) → BlockFits block)
      → (may : Bool) (around : Around) (ends : List Case) (lines : LineTrees) → AreLinesOf sc b.level may lines → EachLinePasses sc around ends lines → AreWithin lines (own_lines sc w) → EachBlockFits lines
  all_fit all may around ends no_lines leveled passes are = tt
  all_fit all may around ends (line head block rest) leveled passes are = (
    all block leveled.1 passes.1 (lines_below head block rest (own_lines sc w) are),
    all_fit all may around ends rest leveled.2 passes.2 (lines_behind head block rest (own_lines sc w) are),
  )

-- the lines of a level, which `E` ends
module _ (routines : List RoutineTree) (sc : Scope) (w : World) (b : Level) (around : Around) (ends : List Case) (once : ListsEachOnce sc) (n : ℕ)
    (E : Task) (is : is_end E ≡ true) (ts : List Task) (tail : List task.LineTree) (none : none_follows tail ≡ true)
    (last : ((tail ≡ []) × (next_head around no_lines ≡ None)) ⊎ ((h : HeadTree) × (next_head around no_lines ≡ Some h) × (is_some (formals_of h) ≡ true)))
    (end : (e : LineEnd) (column : ℕ) (c : Case) → e.scope ≡ sc → e.level ≡ b.level → IsRight ends (level_end around e column c) → Fits routines sc w b [] n (E ∷ ts) (at_rest c))
    (may : Bool) (give : may ≡ true → (e : LineEnd) (column : ℕ) (c : Case) → e.scope ≡ sc → e.level ≡ b.level → IsRight ends (level_end around e column c) → stated.Gives routines w b sc n (E ∷ ts) (at_rest c))
    (jump : may ≡ true → stated.Jumps routines w b sc n (E ∷ ts)) where
  abbrev Goes : List Task → State → Type 0
  Goes = Fits routines sc w b [] n

  -- a case may enter the lines, or end the level if there are none
  abbrev pub Enters : LineTrees → Case → Type 0
  Enters no_lines c = (tail ≡ []) × (e : LineEnd) × (column : ℕ) × (e.scope ≡ sc) × (e.level ≡ b.level) × IsRight ends (level_end around e column c)
  Enters (line head block rest) c = is_listed (listed sc (number_of head) 0) c ≡ true

  enters_next : (e : LineEnd) → e.scope ≡ sc → e.level ≡ b.level → e.around ≡ around → (more : LineTrees) → e.next ≡ next_head around more → (c : Case) → IsRight ends (case_end e c) → Enters more c
  enters_next e same deep also no_lines next c h =
      ⊎_elim
      (λ (z : (tail ≡ []) × (next_head around no_lines ≡ None)).
      let f : e.next ≡ None = next ∙ z.1 in
      let g : IsRight ends (level_end e.around e e.column c) = subst (λ o. IsRight ends (continuation o e c)) f h in
      (z.0, e, e.column, same, deep, subst (λ a. IsRight ends (level_end a e e.column c)) also g))
      (λ (z : (h : HeadTree) × (next_head around no_lines ≡ Some h) × (is_some (formals_of h) ≡ true)).
      let f : e.next ≡ Some z.0 = next ∙ z.1 in
      let g : IsRight ends (into_line e.scope z.0 c) = subst (λ o. IsRight ends (continuation o e c)) f h in
      let y = z.2 in absurd (rw y at g))
      last
  enters_next e same deep also (line head block rest) next c h =
      let f : IsRight ends (into_line sc head c) = subst (λ z. IsRight ends (into_line z head c)) same (subst (λ o. IsRight ends (continuation o e c)) next h) in
      ⊎_elim
      (λ (u : is_some (formals_of head) ≡ true). absurd (rw u at f))
      (λ (u : is_some (formals_of head) ≡ false).
      ⊎_elim (λ (v : is_listed (listed sc (number_of head) 0) c ≡ true). v) (λ (v : is_listed (listed sc (number_of head) 0) c ≡ false). absurd (rw (u, v) at f))
      (cases_Bool (is_listed (listed sc (number_of head) 0) c)))
      (cases_Bool (is_some (formals_of head)))

  to_the_end : (lines : List task.LineTree) → quit (RunLines lines ∷ E ∷ ts) ≡ E ∷ ts
  to_the_end lines = rw is refl

  end_is : (lines : List task.LineTree) → to_end (RunLines lines ∷ E ∷ ts) ≡ E ∷ ts
  end_is lines = rw is refl

  -- the commands of a line that begins in a case that is listed at it
  pub head_fits : (head : HeadTree) (inner more : LineTrees) → StandIn (line head inner more) (own_lines sc w) → BlockFits routines sc w b n inner → IsHeadOf sc b.level may head
      → PassesFromEach sc around (next_head around more) (block_with inner (walk_lines sc OfBlock inner).ends) ends head
      → ((c : Case) → Enters more c → Goes (RunLines (as_lines more ++ tail) ∷ E ∷ ts) (at_rest c))
      → (c : Case) → is_listed (listed sc (number_of head) 0) c ≡ true → Goes (RunCommands (commands_in head) (head, inner) ∷ RunLines (as_lines more ++ tail) ∷ E ∷ ts) (at_rest c)
  head_fits (LineHead number level at label formals cs) inner more is_line fits deep passes later c h j d tasks =
      let r = listed_for (listed sc number 0) c h in
      let p : Spot = record { scope = sc; line = number; level = level; block = block_with inner (walk_lines sc OfBlock inner).ends; word = 1 } in
      let e : LineEnd = record { scope = sc; around = around; next = next_head around more; line = number; level = level; column = at } in
      let g = passes r.0 r.1 in
      let A : State → Type 0 = λ u. IsRight ends (state_end e u) in
      let S : Case → Type 0 = λ x. IsRight ends (case_end e x) in
      let Q : Quit → Type 0 = λ q. IsRight ends (quit_end e q) in
      let l : Leads (commands p cs) (at_rest r.0) A S Q = record { clean = g.clean; going = g.going; skips = g.skips; quits = g.quits } in
      let rest : List Task = RunLines (as_lines more ++ tail) ∷ E ∷ ts in
      commands_fit routines w b p (LineHead number level at label formals cs, inner) n once (fits (LineHead number level at label formals cs) p refl deep.0 refl) S Q may cs deep.1 rest (at_rest r.0) A (opens_line w p (LineHead number level at label formals cs) inner more is_line refl tail none (E ∷ ts) r.0 r.1 g.clean) l
      (λ u m k f t. later u.case (enters_next e refl deep.0 refl more refl u.case m) k (at_rest_law sc w b u (idle k) f) t)
      (λ x m. later x (enters_next e refl deep.0 refl more refl x m))
      (λ q m. subst (λ z. Goes z (at_rest q.case)) (sym (to_the_end (as_lines more ++ tail))) (end e q.column q.case refl deep.0 m))
      (λ y q m. subst (λ z. stated.Gives routines w b sc n z (at_rest q.case)) (sym (end_is (as_lines more ++ tail))) (give y e q.column q.case refl deep.0 m))
      (λ y. subst (λ z. stated.Jumps routines w b sc n z) (sym (end_is (as_lines more ++ tail))) (jump y))
      j (less_law sc w b c r.0 r.2 (at_rest c) refl (idle j) d) tasks

  -- when the job moves on to a line, a listed case describes it
  at_line : (head : HeadTree) (inner more : LineTrees) → StandIn (line head inner more) (own_lines sc w) → (c : Case) → is_listed (listed sc (number_of head) 0) c ≡ true → (j : Job) → Describes sc w b [] (at_rest c) (idle j)
      → j.tasks ≡ RunLines ((head, inner) ∷ (as_lines more ++ tail)) ∷ E ∷ ts → KeepsIn sc w b j
  at_line (LineHead number level at label formals cs) inner more is_line c h j d tasks =
      let r = listed_for (listed sc number 0) c h in
      lines_facts sc w b j (LineHead number level at label formals cs, inner) (as_lines more ++ tail) (E ∷ ts) tasks r.0 r.1 more is_line tail refl none (less_stands sc w b c r.0 r.2 (bare (idle j)) d.stands)

  pub lines_fit : (lines : LineTrees) → AreWithin lines (own_lines sc w) → EachBlockFits routines sc w b n lines → AreLinesOf sc b.level may lines → EachLinePasses sc around ends lines → (c : Case) → Enters lines c → Goes (RunLines (as_lines lines ++ tail) ∷ E ∷ ts) (at_rest c)
  lines_fit no_lines are fits leveled passes c enters j d tasks =
      plain_step routines sc w b [] n (E ∷ ts) (at_rest c) (RunLines []) refl j (tasks ∙ ap (λ z. RunLines z ∷ E ∷ ts) enters.0) (λ free x.
      unasked (Safe routines sc w b n) x _ (done (Safe routines sc w b n) (doing (E ∷ ts) j) (end enters.1 enters.2 c enters.3 enters.4 enters.5 (doing (E ∷ ts) j) d refl)))
  lines_fit (line (LineHead number level at label (Some formals) cs) inner more) are fits leveled passes c h j d tasks =
      step routines sc w b n j (RunLines (as_lines (line (LineHead number level at label (Some formals) cs) inner more) ++ tail)) (E ∷ ts) tasks refl (at_line (LineHead number level at label (Some formals) cs) inner more (first_in (LineHead number level at label (Some formals) cs) inner more (own_lines sc w) are) c h j d tasks) (λ free x.
      unasked (Safe routines sc w b n) x _ (refused (Safe routines sc w b n) _))
  lines_fit (line (LineHead number level at label None cs) inner more) are fits leveled passes c h j d tasks =
      let i : Job = doing (RunCommands cs (LineHead number level at label None cs, inner) ∷ RunLines (as_lines more ++ tail) ∷ E ∷ ts) j in
      step routines sc w b n j (RunLines (as_lines (line (LineHead number level at label None cs) inner more) ++ tail)) (E ∷ ts) tasks refl (at_line (LineHead number level at label None cs) inner more (first_in (LineHead number level at label None cs) inner more (own_lines sc w) are) c h j d tasks) (λ free x.
      unasked (Safe routines sc w b n) x _ (done (Safe routines sc w b n) i
      (head_fits (LineHead number level at label None cs) inner more (first_in (LineHead number level at label None cs) inner more (own_lines sc w) are) fits.0 leveled.0 passes.0
      (λ f m. lines_fit more (lines_behind (LineHead number level at label None cs) inner more (own_lines sc w) are) fits.1 leveled.2 passes.2 f m) c h i d refl)))
