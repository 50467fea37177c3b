-- An entry's lines: from its begin to its exits.
use Rattle.std.proofs.Common.{◌≡◌, ℕ, zero, suc, ◌+◌, ◌-◌, ◌<◌, ◌≤◌, Bool, true, false, List, [], ◌∷◌, ◌++◌, length, take, drop, Option, Some, None, refl, sym, ap, ◌∙◌, subst, arith, ⊎_elim, inl, inr, is_some}
use Rattle.std.specs.Prelude.{◌⊎◌, ◌&&◌, ◌==◌, nat_lt, if◌then◌else◌, take_while, slice_get, is_none}
use Rattle.std.specs.List.{prefix_len}
use Rattle.std.proofs.lemmas.Bool.{cases_Bool, or_cases, eqb-true, ltb-false}
use Rattle.std.proofs.lemmas.List.{drop_all}
use Rattle.mlk_names.specs.Lists.{Among}
use Rattle.mlk_syntax.specs.Trees.{RoutineTree, HeadTree, LineTrees, no_lines, line, LineHead}
use Rattle.mlk_syntax.specs.Views.{lines_from}
use Rattle.mlk_program.specs.Entries.{as_lines, formals_of, has_no_formals}
use Rattle.mlk_text.specs.declared.code.Code.TheVariants.{HeldAtEnd, NameEscapes, CaseNotListed}
use Rattle.mlk_cert_parts.specs.declared.case.Case.{Case}
use Rattle.mlk_cert_parts.specs.declared.case.ExitCase.{ExitCase}
use Rattle.mlk_walk_state.specs.Cases.{leaves_by, is_exit, holds_some}
use Rattle.mlk_walk_state.specs.Terms.{mention_such}
use Rattle.mlk_walk_lines.specs.Endings.{LineEnd, Faulty, Passes, frame_end, escapes}
use Rattle.mlk_walk_laws.specs.Passing.{IsRight}
use Rattle.std.specs.Prelude.{option_map, option_and_then}
use Rattle.mlk_program.specs.declared.entry.EntryId.{EntryId}
use Rattle.mlk_program.specs.Entries.{lines_in, lines_of, line_of_entry}
use Rattle.mlk_cert_parts.specs.declared.block.EntryCert.{EntryCert}
use Rattle.mlk_rules.specs.declared.rules.RuleLists.{RuleLists}
use Rattle.mlk_machine_jobs.specs.Tasks.{Task, Job, RunLines, RunCommands, EndFrame, Frame, NoValue, AwaitsValue, HasValue, marks}
use Rattle.mlk_machine_jobs.specs.Choices.{doing, dropped}
use Rattle.mlk_machine_jobs.specs.Calling.{formals_in, commands_in, lines_after}
use Rattle.mlk_walk_state.specs.Scope.{Scope, block_at, line_within, listed}
use Rattle.mlk_walk_state.specs.Cases.{is_listed}
use Rattle.mlk_walk_state.specs.States.{at_rest}
use Rattle.mlk_calls.specs.Calls as walked
use Rattle.mlk_walk_exprs.specs.Spots.{Spot}
use Rattle.mlk_walk_lines.specs.Endings.{Around, OfBlock, OfFrame, number_of}
use Rattle.mlk_walk_lines.specs.Lines.{block_with, walk_lines, next_head}
use Rattle.mlk_walk.specs.Verdicts.{known, begin_case, begin_faults, fault_at, head_after, entry_number}
use Rattle.mlk_walk.specs.Reports.{report}
use Rattle.mlk_walk_laws.specs.Fewer.{ListsEachOnce}
use Rattle.mlk_walk_laws.specs.Passing.{EachLinePasses}
use Rattle.mlk_walk_laws.proofs.Passing.{lines_pass}
use Rattle.mlk_soundness_machine.specs.Described.{World, Bare, IsWorld, Describes, idle, Level, bare}
use Rattle.mlk_soundness_machine.proofs.Worlds.{drop_law}
use Rattle.mlk_soundness_machine.proofs.Values.{Fits}
use Rattle.mlk_soundness_walk.specs.Ours.{AreLinesOf}
use Rattle.mlk_soundness_walk.specs.Commands.{Gives, Jumps}
use Rattle.mlk_soundness_walk.proofs.Lines.{CommandFits, as_said, listed_for, less_stands, EachBlockFits, Enters, all_fit, head_fits, lines_fit}
use Rattle.mlk_soundness_walk.proofs.Entries.{scope, EndsFit, EntryFits, first_line, formals_same}
use Rattle.mlk_soundness_walk.proofs.Rests.{at_most}
use Rattle.mlk_soundness_walk.specs.Entries.{first_level, LinesFit}
use Rattle.mlk_soundness_machine.specs.Safe.{SafeFor, KeepsTo}
use Rattle.mlk_soundness_walk.specs.Laws.{AllCommands}
use Rattle.mlk_soundness_walk.proofs.Reported.{clean_entry}
use Rattle.mlk_soundness_machine.specs.Marked.{Begun, AreMarked}
use Rattle.mlk_soundness_machine.specs.Listed.{IsAtStart}
use Rattle.mlk_soundness_machine.specs.Places.{line_number, entry_trees, none_follows}
use Rattle.mlk_soundness_machine.proofs.Listing.{own_lines, is_at_start}
use Rattle.mlk_soundness_walk.proofs.Places.{AreWithin, lines_behind, first_in}

-- an end of a frame without a fault leaves by an exit
pub record LeavesBy (e : LineEnd) (c : Case) : Type 0 where
  pub exit : ExitCase
  pub is_its : Among exit e.scope.summary.exits
  pub leaves : leaves_by c exit ≡ true
  pub stays : mention_such (escapes c) c.held ≡ false

some_exit : (exits : List ExitCase) (c : Case) → is_exit exits c ≡ true → (x : ExitCase) × Among x exits × (leaves_by c x ≡ true)
some_exit [] c h = cc h
some_exit (x ∷ exits) c h =
    ⊎_elim (λ (u : leaves_by c x ≡ true). (x, inl refl, u)) (λ (u : is_exit exits c ≡ true). let r = some_exit exits c u in (r.0, inr r.1, r.2))
    (or_cases (leaves_by c x) (is_exit exits c) h)

pub frame_right : (ends : List Case) (e : LineEnd) (column : ℕ) (c : Case) → IsRight ends (frame_end e column c) → LeavesBy e c
frame_right ends e column c right = by (e.scope.declared && holds_some c.held) (mention_such (escapes c) c.held) (is_exit e.scope.summary.exits c) refl refl right
  where
    by : (x y z : Bool) → mention_such (escapes c) c.held ≡ y → is_exit e.scope.summary.exits c ≡ z
        → IsRight ends (if x then Faulty e.line column HeldAtEnd else if y then Faulty e.line column NameEscapes else if z then Passes else Faulty e.line column CaseNotListed) → LeavesBy e c
    by true y z g h r = absurd r
    by false true z g h r = absurd r
    by false false false g h r = absurd r
    by false false true g h r = (let f = some_exit e.scope.summary.exits c h in record { exit = f.0; is_its = f.1; leaves = f.2; stays = g })

-- lines as trees, and back
pub listed_back : (ls : List (HeadTree × LineTrees)) → as_lines (lines_from ls) ≡ ls
listed_back [] = refl
listed_back (l ∷ ls) = ap (λ z. l ∷ z) (listed_back ls)

-- the machine's lines continue after the entry's
pub record Behind (lines : List (HeadTree × LineTrees)) : Type 0 where
  pub tail : List (HeadTree × LineTrees)
  pub are : lines ≡ take_while has_no_formals lines ++ tail
  pub starts : (tail ≡ []) ⊎ ((l : HeadTree × LineTrees) × (more : List (HeadTree × LineTrees)) × (tail ≡ l ∷ more) × (is_some (formals_of l.0) ≡ true))

-- into which no job continues
none_past : (tail : List (HeadTree × LineTrees)) → (tail ≡ []) ⊎ ((l : HeadTree × LineTrees) × (more : List (HeadTree × LineTrees)) × (tail ≡ l ∷ more) × (is_some (formals_of l.0) ≡ true)) → none_follows tail ≡ true
none_past tail (inl e) = subst (λ z. none_follows z ≡ true) (sym e) refl
none_past tail (inr (l, more, e, h)) = subst (λ z. none_follows z ≡ true) (sym e) h

no_none : {A : Type 0} (o : Option A) → is_none o ≡ false → is_some o ≡ true
no_none None h = cc h
no_none (Some a) h = refl

pub behind : (lines : List (HeadTree × LineTrees)) → Behind lines
behind [] = record { tail = []; are = refl; starts = inl refl }
behind (l ∷ lines) = by (behind lines)
  where
    by : Behind lines → Behind (l ∷ lines)
    by r =
        ⊎_elim
        (λ (h : has_no_formals l ≡ true). record { tail = r.tail; are = (let n = prefix_len has_no_formals lines in let e : suc n ≡ 1 + n = omega arith in rw h (ap (λ z. l ∷ z) r.are ∙ ap (λ k. take k (l ∷ lines) ++ r.tail) e)); starts = r.starts })
        (λ (h : has_no_formals l ≡ false). record { tail = l ∷ lines; are = rw h refl; starts = inr (l, lines, refl, no_none (formals_of l.0) h) })
        (cases_Bool (has_no_formals l))

get_after : (front tail : List (HeadTree × LineTrees)) → slice_get (front ++ tail) (length front) ≡ slice_get tail 0
get_after [] tail = refl
get_after (f ∷ front) tail = get_after front tail

-- the line at the index at which they continue
pub place_after : (n : ℕ) (xs front tail : List (HeadTree × LineTrees)) → drop n xs ≡ front ++ tail → slice_get xs (n + length front) ≡ slice_get tail 0
place_after zero xs front tail h = let z : 0 + length front ≡ length front = omega arith in ap (λ k. slice_get xs k) z ∙ ap (λ x. slice_get x (length front)) h ∙ get_after front tail
place_after (suc n) [] [] [] h = refl
place_after (suc n) [] [] (t ∷ tail) h = cc h
place_after (suc n) [] (f ∷ front) tail h = cc h
place_after (suc n) (x ∷ xs) front tail h = let z : suc n + length front ≡ suc (n + length front) = omega arith in ap (λ k. slice_get (x ∷ xs) k) z ∙ place_after n xs front tail h

listed_begin : (sc : Scope) (number : ℕ) (formals : List (List ℕ)) → begin_faults sc number formals ≡ [] → is_listed (listed sc number 0) (begin_case sc.summary formals) ≡ true
listed_begin sc number formals h = by (is_listed (listed sc number 0) (begin_case sc.summary formals)) refl h
  where
    by : (x : Bool) → is_listed (listed sc number 0) (begin_case sc.summary formals) ≡ x → (if x then [] else fault_at number 1 CaseNotListed ∷ []) ≡ [] → is_listed (listed sc number 0) (begin_case sc.summary formals) ≡ true
    by true e g = e
    by false e g = cc g

-- lines from a later one on
further : (n k : ℕ) (xs : List (HeadTree × LineTrees)) → drop (n + k) xs ≡ drop k (drop n xs)
further zero k xs = let z : 0 + k ≡ k = omega arith in ap (λ i. drop i xs) z
further (suc n) k [] = drop_all (suc n + k) [] (omega arith) ∙ sym (drop_all k [] (omega arith))
further (suc n) k (x ∷ xs) = let z : suc n + k ≡ suc (n + k) = omega arith in ap (λ i. drop i (x ∷ xs)) z ∙ further n k xs

drop_front : (n : ℕ) (front tail : List (HeadTree × LineTrees)) (l : HeadTree × LineTrees) → slice_get front n ≡ Some l → drop n (front ++ tail) ≡ drop n front ++ tail
drop_front n [] tail l h = absurd (cc h)
drop_front zero (x ∷ front) tail l h = refl
drop_front (suc n) (x ∷ front) tail l h = drop_front n front tail l h

-- an entry's own lines among the machine's
record Placed (routines : List RoutineTree) (e : EntryId) (head : HeadTree) (body : LineTrees) (lines : List (HeadTree × LineTrees)) (tail : List (HeadTree × LineTrees)) : Type 0 where
  pub own : lines_of routines e ≡ (head, body) ∷ take_while has_no_formals lines
  pub its : line_of_entry routines e ≡ Some (head, body)
  pub after : head_after routines e ≡ option_map (λ l. l.0) (slice_get tail 0)

module _ (routines : List RoutineTree) (rules : RuleLists) (entries : List (EntryId × EntryCert) × List EntryId) where
  placed : (e : EntryId) (head : HeadTree) (body : LineTrees) (lines : List (HeadTree × LineTrees)) → lines_after routines e ≡ (head, body) ∷ lines → (r : Behind lines) → Placed routines e head body lines r.tail
  placed e head body lines h r = on (slice_get routines e.routine) refl h
    where
      on : (o : Option RoutineTree) → slice_get routines e.routine ≡ o → lines_after routines e ≡ (head, body) ∷ lines → Placed routines e head body lines r.tail
      on None f g = let z : [] ≡ (head, body) ∷ lines = (rw f at g) in absurd (cc z)
      on (Some tree) f g =
          let z : drop e.line (lines_in tree) ≡ (head, body) ∷ lines = (rw f at g) in
          let own : lines_of routines e ≡ (head, body) ∷ take_while has_no_formals lines = rw (f, z) refl in
          let y : drop e.line (lines_in tree) ≡ ((head, body) ∷ take_while has_no_formals lines) ++ r.tail = z ∙ ap (λ q. (head, body) ∷ q) r.are in
          record {
            own = own;
            its = ap (λ o. option_and_then (λ x. slice_get (lines_in x) e.line) o) f ∙ first_line routines rules entries (lines_in tree) e.line (head, body) lines z;
            after =
                ap (λ q. option_map (λ l. l.0) (line_of_entry routines (record e { line = e.line + length q }))) own
                ∙ ap (λ o. option_map (λ l. l.0) (option_and_then (λ x. slice_get (lines_in x) (e.line + length ((head, body) ∷ take_while has_no_formals lines))) o)) f
                ∙ ap (option_map (λ l. l.0)) (place_after e.line (lines_in tree) ((head, body) ∷ take_while has_no_formals lines) r.tail y);
          }

  -- the lines from a later line of an entry on; and an entry without lines
  further_on : (e : EntryId) (head : HeadTree) (body : LineTrees) (lines : List (HeadTree × LineTrees)) → lines_after routines e ≡ (head, body) ∷ lines → (n : ℕ)
      → lines_after routines (record e { line = e.line + n }) ≡ drop n ((head, body) ∷ lines)
  further_on e head body lines h n = on (slice_get routines e.routine) refl h
    where
      on : (o : Option RoutineTree) → slice_get routines e.routine ≡ o → lines_after routines e ≡ (head, body) ∷ lines → lines_after routines (record e { line = e.line + n }) ≡ drop n ((head, body) ∷ lines)
      on None f g = let z : [] ≡ (head, body) ∷ lines = (rw f at g) in absurd (cc z)
      on (Some tree) f g =
          let z : drop e.line (lines_in tree) ≡ (head, body) ∷ lines = (rw f at g) in
          let y : drop (e.line + n) (lines_in tree) ≡ drop n ((head, body) ∷ lines) = further e.line n (lines_in tree) ∙ ap (λ q. drop n q) z in
          rw f y

  none_own : (e : EntryId) → lines_after routines e ≡ [] → lines_of routines e ≡ []
  none_own e h = on (slice_get routines e.routine) refl h
    where
      on : (o : Option RoutineTree) → slice_get routines e.routine ≡ o → lines_after routines e ≡ [] → lines_of routines e ≡ []
      on None f g = rw f refl
      on (Some tree) f g = let z : drop e.line (lines_in tree) ≡ [] = (rw f at g) in rw (f, z) refl

  goes_past : (lines : List (HeadTree × LineTrees)) (r : Behind lines) (after : Option HeadTree) → after ≡ option_map (λ l. l.0) (slice_get r.tail 0)
      → ((r.tail ≡ []) × (next_head (OfFrame after) no_lines ≡ None)) ⊎ ((h : HeadTree) × (next_head (OfFrame after) no_lines ≡ Some h) × (is_some (formals_of h) ≡ true))
  goes_past lines r after e =
      ⊎_elim
      (λ (z : r.tail ≡ []). inl (z, e ∙ ap (λ q. option_map (λ l. l.0) (slice_get q 0)) z))
      (λ (z : (l : HeadTree × LineTrees) × (more : List (HeadTree × LineTrees)) × (r.tail ≡ l ∷ more) × (is_some (formals_of l.0) ≡ true)).
      inr (z.0.0, e ∙ ap (λ q. option_map (λ l. l.0) (slice_get q 0)) z.2, z.3))
      r.starts

-- an end of a frame with a value: the frame of an extrinsic call keeps it
module _ (routines : List RoutineTree) (rules : RuleLists) (entries : List (EntryId × EntryCert) × List EntryId) (sc : Scope) (w : World) (m : ℕ) where
  one_less : (c : Case) (j : Job) (v : List ℕ) (more : List (List ℕ)) → Describes sc w (first_level w) (Bare None ∷ []) (at_rest c) (idle j) → j.values ≡ v ∷ more → Describes sc w (first_level w) [] (at_rest c) (idle (dropped 1 j))
  one_less c j v more d e = subst (λ z. Describes sc w (first_level w) [] (at_rest c) (record (idle j) { values = z })) (sym (ap (drop 1) e)) (drop_law sc w (first_level w) None [] (at_rest c) (idle j) d v more e)

  gives : (frame : Frame) (next r : ℕ) (ts : List Task) → EndsFit routines rules entries sc w m frame w.back next r ts → (c : Case) (x : ExitCase) → Among x sc.summary.exits → leaves_by c x ≡ true
      → mention_such (escapes c) c.held ≡ false → Gives routines w (first_level w) sc m (EndFrame frame w.back next r ∷ ts) (at_rest c)
  gives NoValue next r ts f c x among leaves stays j v more d e = f c x among leaves stays [] NoValue (inl (refl, refl)) (doing (EndFrame NoValue w.back next r ∷ ts) (dropped 1 j)) (one_less c j v more d e) refl
  gives (HasValue t) next r ts f c x among leaves stays j v more d e = f c x among leaves stays [] (HasValue t) (inl (refl, refl)) (doing (EndFrame (HasValue t) w.back next r ∷ ts) (dropped 1 j)) (one_less c j v more d e) refl
  gives (AwaitsValue t) next r ts f c x among leaves stays j v more d e = f c x among leaves stays (Bare None ∷ []) (HasValue t) (inr (t, refl, refl, refl)) (doing (EndFrame (HasValue t) w.back next r ∷ ts) j) d refl

-- An entry that is on one of the walked entry's lines.
record ItsLine (routines : List RoutineTree) (e x : EntryId) (l : HeadTree × LineTrees) : Type 0 where
  index : ℕ
  same : x ≡ record e { line = e.line + index }
  its : slice_get (lines_of routines e) index ≡ Some l

its_line : (routines : List RoutineTree) (rules : RuleLists) (entries : List (EntryId × EntryCert) × List EntryId) (e : EntryId) (blk : EntryCert) (x : EntryId) (l : HeadTree × LineTrees)
    → line_within (scope routines rules entries e blk) x ≡ Some l → ItsLine routines e x l
its_line routines rules entries e blk x l h = on (x.routine == e.routine) refl (nat_lt x.line e.line) refl h
  where
    on : (a : Bool) → (x.routine == e.routine) ≡ a → (b : Bool) → nat_lt x.line e.line ≡ b
        → (if a then (if b then None else slice_get (lines_of routines e) (x.line - e.line)) else None) ≡ Some l → ItsLine routines e x l
    on true p true q g = absurd (cc g)
    on false p b q g = absurd (cc g)
    on true p false q g =
        let le : e.line ≤ x.line = ltb-false x.line e.line q in
        let far : x.line ≡ e.line + (x.line - e.line) = omega (arith, le) in
        let near : x.routine ≡ e.routine = eqb-true x.routine e.routine p in
        record {
          index = x.line - e.line;
          same = ap (λ (r : ℕ). record x { routine = r }) near ∙ ap (λ (n : ℕ). record e { line = n }) far;
          its = g;
        }

-- the end of a frame that is safe for some steps is safe for fewer
module _ (routines : List RoutineTree) (rules : RuleLists) (entries : List (EntryId × EntryCert) × List EntryId) (sc : Scope) (w : World) where
  ends_less : (m k : ℕ) → k < m → (frame : Frame) (next r : ℕ) (ts : List Task) → EndsFit routines rules entries sc w m frame w.back next r ts → EndsFit routines rules entries sc w k frame w.back next r ts
  ends_less m k lt frame next r ts f c x among leaves stays slots end is i d tasks =
      at_most routines sc w (first_level w) i k m (omega (arith, lt)) (f c x among leaves stays slots end is i d tasks)

-- when an entry's frame begins, a case that is listed at the entry's line describes it
starts : (sc : Scope) (w : World) (b : Level) (head : HeadTree) (c : Case) → is_listed (listed sc (number_of head) 0) c ≡ true → (j : Job) → Describes sc w b [] (at_rest c) (idle j)
    → (begun : Begun sc w) → begun.first ≡ j → begun.began.head ≡ head → AreMarked w b (marks j.tasks) → IsAtStart sc.routines sc.blocks w.begun begun.first
starts sc w b (LineHead number level at label formals cs) c h j d begun is same marked =
    let r = listed_for (listed sc number 0) c h in
    subst (IsAtStart sc.routines sc.blocks w.begun) (sym is)
    (is_at_start sc w b r.0 number r.1 j marked begun (less_stands sc w b c r.0 r.2 (bare (idle j)) d.stands) (ap line_number same))

-- an entry is safe for `n` steps if its commands are
module _ (routines : List RoutineTree) (rules : RuleLists) (blocks : List EntryCert) (clean : report routines rules blocks ≡ []) where
  abbrev entries : List (EntryId × EntryCert) × List EntryId
  entries = known routines rules blocks

  abbrev sc_of : EntryId → EntryCert → Scope
  sc_of e blk = scope routines rules (known routines rules blocks) e blk

  -- commands of each certified entry's lines fit
  abbrev pub EachFits : ℕ → Type 1
  EachFits m =
      (e : EntryId) (blk : EntryCert) → block_at entries.0 e ≡ Some blk → (w : World) → IsWorld (sc_of e blk) w → (p : Spot) (head : HeadTree) (block : LineTrees) → p.scope ≡ sc_of e blk → p.level ≡ 1
      → p.block ≡ block_with block (walk_lines (sc_of e blk) OfBlock block).ends → AreLinesOf (sc_of e blk) 2 false block → EachLinePasses (sc_of e blk) OfBlock (walk_lines (sc_of e blk) OfBlock block).ends block
      → AreWithin block (own_lines (sc_of e blk) w) → CommandFits routines w (first_level w) p (head, block) m

  -- the lines of an entry, in a frame whose ends are safe
  module _ (m : ℕ) (once : (e : EntryId) (blk : EntryCert) → block_at entries.0 e ≡ Some blk → ListsEachOnce (sc_of e blk)) (leveled : (e : EntryId) (blk : EntryCert) → AreLinesOf (sc_of e blk) 1 true (lines_from (lines_of routines e)))
      (each : EachFits m)
      (jumps : (k : ℕ) → k < m → LinesFit routines rules entries k) where
    module _ (e : EntryId) (blk : EntryCert) (at : block_at entries.0 e ≡ Some blk) (head : HeadTree) (body : LineTrees) (lines : List (HeadTree × LineTrees)) (heads : lines_after routines e ≡ (head, body) ∷ lines)
        (w : World) (world : IsWorld (sc_of e blk) w) (of : w.entry ≡ e) (frame : Frame) (next r : ℕ) (ts : List Task) (ends_fit : EndsFit routines rules entries (sc_of e blk) w m frame w.back next r ts) where
      abbrev past : Behind lines
      past = behind lines

      abbrev around : Around
      around = OfFrame (head_after routines e)

      abbrev ends : List Case
      ends = (walk_lines (sc_of e blk) (OfFrame (head_after routines e)) (lines_from (lines_of routines e))).ends

      abbrev its_lines : List (HeadTree × LineTrees)
      its_lines = (head, body) ∷ take_while has_no_formals lines

      pl : Placed routines e head body lines past.tail
      pl = placed routines rules entries e head body lines heads past

      passes : EachLinePasses (sc_of e blk) around ends (lines_from its_lines)
      passes = subst (λ z. EachLinePasses (sc_of e blk) around ends (lines_from z)) pl.own
          (lines_pass (sc_of e blk) around (lines_from (lines_of routines e)) (once e blk at) (clean_entry routines rules blocks clean e blk at).lines)

      deep : AreLinesOf (sc_of e blk) 1 true (lines_from its_lines)
      deep = subst (λ z. AreLinesOf (sc_of e blk) 1 true (lines_from z)) pl.own (leveled e blk)

      are : AreWithin (lines_from its_lines) (own_lines (sc_of e blk) w)
      are = subst (λ z. AreWithin (lines_from its_lines) (entry_trees routines z)) (sym of) (subst (λ z. AreWithin (lines_from its_lines) (lines_from z)) (sym pl.own) (λ some i. i))

      fits : EachBlockFits routines (sc_of e blk) w (first_level w) m (lines_from its_lines)
      fits = all_fit routines (sc_of e blk) w (first_level w) m (λ block inside below its h p same deep is. each e blk at w world p h block same deep is inside below its) true around ends (lines_from its_lines) deep passes are

      abbrev end : Task
      end = EndFrame frame w.back next r

      at_end : (x : LineEnd) (column : ℕ) (f : Case) → x.scope ≡ sc_of e blk → x.level ≡ 1 → IsRight ends (frame_end x column f) → Fits routines (sc_of e blk) w (first_level w) [] m (end ∷ ts) (at_rest f)
      at_end x column f same low right i given to =
          let l = frame_right ends x column f right in
          ends_fit f l.exit (subst (λ z. Among l.exit z.summary.exits) same l.is_its) l.leaves l.stays [] frame (inl (refl, refl)) i given to

      give : true ≡ true → (x : LineEnd) (column : ℕ) (f : Case) → x.scope ≡ sc_of e blk → x.level ≡ 1 → IsRight ends (frame_end x column f) → Gives routines w (first_level w) (sc_of e blk) m (end ∷ ts) (at_rest f)
      give y x column f same low right =
          let l = frame_right ends x column f right in
          gives routines rules (known routines rules blocks) (sc_of e blk) w m frame next r ts ends_fit f l.exit (subst (λ z. Among l.exit z.summary.exits) same l.is_its) l.leaves l.stays

      -- GOTO of a line of the entry is one step, after which the lines from there on are safe
      jump : true ≡ true → Jumps routines w (first_level w) (sc_of e blk) m (end ∷ ts)
      jump y k lt x l within f in_list =
          let i = its_line routines rules (known routines rules blocks) e blk x l within in
          subst (λ z. Fits routines (sc_of e blk) w (first_level w) [] k (RunLines (lines_after routines z) ∷ end ∷ ts) (at_rest f)) (sym i.same)
          (jumps k lt e blk at w world of frame next r ts (ends_less routines rules (known routines rules blocks) (sc_of e blk) w m k lt frame next r ts ends_fit) i.index l i.its f in_list)

      goes : ((past.tail ≡ []) × (next_head around no_lines ≡ None)) ⊎ ((h : HeadTree) × (next_head around no_lines ≡ Some h) × (is_some (formals_of h) ≡ true))
      goes = goes_past routines rules entries lines past (head_after routines e) pl.after

      -- from any of them on
      lines_go : (some : LineTrees) → AreWithin some (own_lines (sc_of e blk) w) → EachBlockFits routines (sc_of e blk) w (first_level w) m some → AreLinesOf (sc_of e blk) 1 true some → EachLinePasses (sc_of e blk) around ends some
          → (f : Case) → Enters routines (sc_of e blk) w (first_level w) around ends (once e blk at) m end refl ts past.tail (none_past past.tail past.starts) goes at_end true give jump some f
          → Fits routines (sc_of e blk) w (first_level w) [] m (RunLines (as_lines some ++ past.tail) ∷ end ∷ ts) (at_rest f)
      lines_go = lines_fit routines (sc_of e blk) w (first_level w) around ends (once e blk at) m end refl ts past.tail (none_past past.tail past.starts) goes at_end true give jump

      begins : (j : Job) → Describes (sc_of e blk) w (first_level w) [] (at_rest (begin_case blk.summary (formals_in head))) (idle j) → j.tasks ≡ RunCommands (commands_in head) (head, body) ∷ RunLines lines ∷ end ∷ ts
          → (begun : Begun (sc_of e blk) w) → begun.first ≡ j → begun.began.head ≡ head → AreMarked w (first_level w) (marks j.tasks) → SafeFor routines (KeepsTo (sc_of e blk)) m w.begun j
      begins j d tasks begun is same marks =
          let in_list : is_listed (listed (sc_of e blk) (number_of head) 0) (begin_case blk.summary (formals_in head)) ≡ true =
          subst (λ z. is_listed (listed (sc_of e blk) (number_of head) 0) (begin_case blk.summary z) ≡ true) (formals_same routines rules entries e head body lines heads)
          (subst (λ z. is_listed (listed (sc_of e blk) (entry_number z) 0) (begin_case blk.summary (walked.formals_in (line_of_entry routines e))) ≡ true) pl.its
          (listed_begin (sc_of e blk) (entry_number (line_of_entry routines e)) (walked.formals_in (line_of_entry routines e)) (clean_entry routines rules blocks clean e blk at).begins)) in
          let later : LineTrees = lines_from (take_while has_no_formals lines) in
          head_fits routines (sc_of e blk) w (first_level w) around ends (once e blk at) m end refl ts past.tail (none_past past.tail past.starts) goes at_end
          true give jump head body later (first_in head body later (own_lines (sc_of e blk) w) are) fits.0 deep.0 passes.0
          (lines_go later (lines_behind head body later (own_lines (sc_of e blk) w) are) fits.1 deep.2 passes.2)
          (begin_case blk.summary (formals_in head)) in_list j d
          (tasks ∙ ap (λ z. RunCommands (commands_in head) (head, body) ∷ RunLines z ∷ end ∷ ts) (past.are ∙ ap (λ z. z ++ past.tail) (sym (listed_back (take_while has_no_formals lines)))))
          (record { marks = marks; begun = begun; starts = starts (sc_of e blk) w (first_level w) head (begin_case blk.summary (formals_in head)) in_list j d begun is same marks })

      -- from one of them on, in a case that is listed at it
      from_line : (n : ℕ) (some : List (HeadTree × LineTrees)) → AreWithin (lines_from some) (own_lines (sc_of e blk) w) → EachBlockFits routines (sc_of e blk) w (first_level w) m (lines_from some) → AreLinesOf (sc_of e blk) 1 true (lines_from some)
          → EachLinePasses (sc_of e blk) around ends (lines_from some) → (l : HeadTree × LineTrees) → slice_get some n ≡ Some l → (f : Case) → is_listed (listed (sc_of e blk) (number_of l.0) 0) f ≡ true
          → Fits routines (sc_of e blk) w (first_level w) [] m (RunLines (drop n some ++ past.tail) ∷ end ∷ ts) (at_rest f)
      from_line n [] within fit at_level pass l h f in_list = absurd (cc h)
      from_line zero (s ∷ some) within fit at_level pass l h f in_list =
          let first : s ≡ l = cc h in
          subst (λ z. Fits routines (sc_of e blk) w (first_level w) [] m (RunLines (z ++ past.tail) ∷ end ∷ ts) (at_rest f)) (listed_back (s ∷ some))
          (lines_go (lines_from (s ∷ some)) within fit at_level pass f (subst (λ z. is_listed (listed (sc_of e blk) (number_of z.0) 0) f ≡ true) (sym first) in_list))
      from_line (suc n) (s ∷ some) within fit at_level pass l h f in_list =
          from_line n some (lines_behind s.0 s.1 (lines_from some) (own_lines (sc_of e blk) w) within) fit.1 at_level.2 pass.2 l h f in_list

    pub entry_fits : EntryFits routines rules entries m
    entry_fits e blk at head body lines heads w world of formals frame next r ts ends_fit j d tasks begun is same marks =
        begins e blk at head body lines heads w world of frame next r ts ends_fit j d tasks begun is same marks

    pub entry_lines_fit : LinesFit routines rules entries m
    entry_lines_fit e blk at w world of frame next r ts ends_fit n l its c in_list = on (lines_after routines e) refl
      where
        on : (ls : List (HeadTree × LineTrees)) → lines_after routines e ≡ ls
            → Fits routines (sc_of e blk) w (first_level w) [] m (RunLines (lines_after routines (record e { line = e.line + n })) ∷ EndFrame frame w.back next r ∷ ts) (at_rest c)
        on [] none = let h : slice_get [] n ≡ Some l = subst (λ z. slice_get z n ≡ Some l) (none_own routines rules entries e none) its in absurd (cc h)
        on ((head, body) ∷ lines) heads =
            let past = behind lines in
            let own : List (HeadTree × LineTrees) = (head, body) ∷ take_while has_no_formals lines in
            let h : slice_get own n ≡ Some l = subst (λ z. slice_get z n ≡ Some l) (placed routines rules entries e head body lines heads past).own its in
            let from : Fits routines (sc_of e blk) w (first_level w) [] m (RunLines (drop n own ++ past.tail) ∷ EndFrame frame w.back next r ∷ ts) (at_rest c) =
            from_line e blk at head body lines heads w world of frame next r ts ends_fit n own
            (are e blk at head body lines heads w world of frame next r ts ends_fit) (fits e blk at head body lines heads w world of frame next r ts ends_fit)
            (deep e blk at head body lines heads w world of frame next r ts ends_fit) (passes e blk at head body lines heads w world of frame next r ts ends_fit) l h c in_list in
            let same : lines_after routines (record e { line = e.line + n }) ≡ drop n own ++ past.tail =
            further_on routines rules entries e head body lines heads n ∙ ap (λ z. drop n ((head, body) ∷ z)) past.are ∙ drop_front n own past.tail l h in
            subst (λ z. Fits routines (sc_of e blk) w (first_level w) [] m (RunLines z ∷ EndFrame frame w.back next r ∷ ts) (at_rest c)) (sym same) from

  -- the induction for calls and for GOTO is on the number of steps
  module _ (once : (e : EntryId) (blk : EntryCert) → block_at entries.0 e ≡ Some blk → ListsEachOnce (sc_of e blk)) (leveled : (e : EntryId) (blk : EntryCert) → AreLinesOf (sc_of e blk) 1 true (lines_from (lines_of routines e))) where
    pub all_below : ((n : ℕ) → ((k : ℕ) → k < n → EntryFits routines rules entries k) → EachFits n) → (n k : ℕ) → k < n → EntryFits routines rules entries k × LinesFit routines rules entries k
    all_below each zero k h = absurd (omega (arith, h))
    all_below each (suc n) k h =
        let its : EachFits k = each k (λ i l. (all_below each n i (omega (arith, l, h))).0) in
        let jumps : (i : ℕ) → i < k → LinesFit routines rules entries i = λ i l. (all_below each n i (omega (arith, l, h))).1 in
        (entry_fits k once leveled its jumps, entry_lines_fit k once leveled its jumps)

    pub all_entries : ((n : ℕ) → ((k : ℕ) → k < n → EntryFits routines rules entries k) → AllCommands routines rules entries n) → (n : ℕ) → EntryFits routines rules entries n
    all_entries fits n =
        (all_below (λ k lower e blk at w world p head block same deep is lines pass are. as_said routines w (first_level w) p (head, block) k (fits k lower e blk at w world p head block same deep is lines pass are)) (suc n) n (omega arith)).0
