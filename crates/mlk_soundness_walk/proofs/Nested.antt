-- DO of a line's block: it begins in a case that is listed at its first line, and ends in one of its ends.
use Rattle.std.proofs.Common.{◌≡◌, ℕ, suc, ◌<◌, Bool, true, false, List, [], ◌∷◌, ◌++◌, map, Option, Some, None, refl, sym, ap, subst, ⊎_elim, inl, inr, append-nil}
use Rattle.std.specs.Prelude.{◌||◌, ◌&&◌, ◌==◌, if◌then◌else◌}
use Rattle.std.specs.List.{list_any, AllZip}
use Rattle.std.proofs.lemmas.Bool.{cases_Bool, false≢true}
use Rattle.mlk_names.specs.Lists.{Among}
use Rattle.mlk_syntax.specs.Trees.{RoutineTree, HeadTree, LineTrees, line}
use Rattle.mlk_program.specs.Entries.{as_lines}
use Rattle.mlk_cert_parts.specs.declared.case.Case.{Case}
use Rattle.mlk_text.specs.declared.code.Code.TheVariants.{NameEscapes}
use Rattle.mlk_cert_parts.specs.declared.case.Test.{Test}
use Rattle.mlk_cert_parts.specs.declared.names.Own.{Own}
use Rattle.mlk_walk_exprs.specs.declared.spot.Block.{Block}
use Rattle.mlk_machine_jobs.specs.Tasks as task
use Rattle.mlk_machine_jobs.specs.Tasks.{Task, Job, RunLines, EndBlock, BlockMark, marks}
use Rattle.mlk_machine_jobs.specs.Choices.{doing}
use Rattle.mlk_machine_jobs.specs.Locking.{tested}
use Rattle.mlk_machine_jobs.specs.Calling.{back_to}
use Rattle.mlk_walk_state.specs.declared.state.State.{State}
use Rattle.mlk_walk_state.specs.Scope.{listed}
use Rattle.mlk_walk_state.specs.States.{at_rest}
use Rattle.mlk_walk_state.specs.Cases.{is_listed, last_saved}
use Rattle.mlk_walk_state.specs.Terms.{mention}
use Rattle.mlk_walk_exprs.specs.declared.walk.Quit.{Quit}
use Rattle.mlk_walk_exprs.specs.Spots.{Spot}
use Rattle.mlk_walk_lines.specs.Commands.{entering, enters, block_ends, do_block}
use Rattle.mlk_walk_lines.specs.Endings.{OfBlock, LineEnd, number_of, block_end, escapes_block}
use Rattle.mlk_walk_lines.specs.Endings as ending
use Rattle.mlk_walk_lines.specs.Lines.{block_with, walk_lines}
use Rattle.mlk_walk_laws.specs.Passing.{IsRight, EachLinePasses}
use Rattle.mlk_walk_laws.proofs.Lists.{all_new}
use Rattle.mlk_walk_laws.specs.Fewer.{ListsEachOnce}
use Rattle.mlk_soundness_machine.specs.Frames.{Agrees}
use Rattle.mlk_soundness_machine.specs.Described.{some_local, World, Level, IsWorld, idle, Describes}
use Rattle.mlk_soundness_machine.proofs.Listing.{own_lines}
use Rattle.mlk_soundness_machine.proofs.Sharing.{SharesByOwn}
use Rattle.mlk_soundness_machine.proofs.Reading.{differs}
use Rattle.mlk_soundness_machine.proofs.Steps.{done, unasked}
use Rattle.mlk_soundness_machine.proofs.Going.{Next, by_step, into_level, one_fewer}
use Rattle.mlk_soundness_machine.proofs.Facts.{plain_facts}
use Rattle.mlk_soundness_machine.specs.Marked.{Marked}
use Rattle.mlk_soundness_machine.proofs.Values.{Safe, Fits}
use Rattle.mlk_soundness_machine.proofs.Blocks.{inner, begin_stands, end_stands}
use Rattle.mlk_soundness_walk.specs.Ours.{AreLinesOf}
use Rattle.mlk_soundness_walk.proofs.Alone.{Leads}
use Rattle.mlk_soundness_walk.proofs.Places.{AreWithin}
use Rattle.mlk_soundness_walk.proofs.Lines.{EachBlockFits}
use Rattle.mlk_soundness_walk.proofs.Lines.{none_local, at_rest_law, lines_fit, Enters}

among_map : {A B : Type 0} (f : A → B) (a : A) (xs : List A) → Among a xs → Among (f a) (map f xs)
among_map f a [] m = absurd m
among_map f a (x ∷ xs) m = ⊎_elim (λ e. inl (ap f e)) (λ k. inr (among_map f a xs k)) m

-- what a clean walk of DO implies
leads_block : (A : State → Type 0) (S : Case → Type 0) (Q : Quit → Type 0) (p : Spot) (b : Block) (s : State) → Leads (do_block p (Some b)) s A S Q → (enters p b s ≡ true) × ((d : Case) → Among d b.ends → A (at_rest d))
leads_block A S Q p b s l = ⊎_elim here (λ (h : enters p b s ≡ false). absurd (refused h)) (cases_Bool (enters p b s))
  where
    refused : enters p b s ≡ false → ⊥
    refused h = (let f = l.clean.faultless in cc (rw h at f))

    here : enters p b s ≡ true → (enters p b s ≡ true) × ((d : Case) → Among d b.ends → A (at_rest d))
    here h = (
      h,
      λ d m.
          let some : (enters p b s || false) ≡ true = ap (λ z. z || false) h in
          l.going (at_rest d) (subst (λ z. Among (at_rest d) (block_ends z b)) (sym some) (all_new (at_rest d) (map at_rest b.ends) [] (among_map at_rest d b.ends m))),
    )

-- a block has a saved `$TEST`
saved_some : (ss : List Test) (bs : List Bool) (x : Bool) → AllZip Agrees ss (bs ++ x ∷ []) → last_saved ss ≡ None → ⊥
saved_some [] [] x h e = h
saved_some [] (b ∷ bs) x h e = h
saved_some (s ∷ []) bs x h e = cc e
saved_some (s ∷ t ∷ ss) [] x h e = h.1
saved_some (s ∷ t ∷ ss) (b ∷ bs) x h e = saved_some (t ∷ ss) bs x h.1 e

module _ (routines : List RoutineTree) (p : Spot) (w : World) (b : Level) (world : IsWorld p.scope w) (pos : 0 < b.level) (shares : SharesByOwn p.scope.is_shared p.scope.is_shared) (once : ListsEachOnce p.scope) (n : ℕ) where
  abbrev Inside : ℕ → LineTrees → Type 1
  Inside level block = (inside : Level) → inside.level ≡ level → EachBlockFits routines p.scope w inside n block

  module _ (block : LineTrees) (ts : List Task) (are : AreWithin block (own_lines p.scope w)) (each : Inside (suc b.level) block) (leveled : AreLinesOf p.scope (suc b.level) false block) (passes : EachLinePasses p.scope OfBlock (walk_lines p.scope OfBlock block).ends block)
      (next : (d : Case) → Among d (walk_lines p.scope OfBlock block).ends → Fits routines p.scope w b [] n ts (at_rest d)) where
    abbrev ends : List Case
    ends = (walk_lines p.scope OfBlock block).ends

    module _ (s : State) (j : Job) (d : Describes p.scope w b [] s (idle j)) where
      abbrev level : Level
      level = inner p.scope w b s.case j d.stands world pos

      abbrev E : Task
      E = EndBlock j.bindings j.next j.test

      leaves : Marked p.scope w b (marks ts) → (e : LineEnd) → e.level ≡ suc b.level → (column : ℕ) (f : Case) → (o : Option Test) → last_saved f.saved ≡ o → IsRight ends (block_end e column f o) → Fits routines p.scope w level [] n (E ∷ ts) (at_rest f)
      leaves marked e deep column f None last right i given tasks = absurd (saved_some f.saved b.tests j.test given.stands.saved last)
      leaves marked e deep column f (Some t) last right i given tasks = by (list_any (escapes_block e.level f) f.own) refl right
        where
          by : (x : Bool) → list_any (escapes_block e.level f) f.own ≡ x → IsRight ends (if x then ending.Faulty e.line column NameEscapes else ending.Leaves (ending.restored e.level t f)) → Safe routines p.scope w level n i
          by true h r = absurd r
          by false h r =
              let esc : list_any (λ (o : Own). (o.level == suc b.level) && mention (o.names ∷ []) f.held) f.own ≡ false = subst (λ z. list_any (escapes_block z f) f.own ≡ false) deep h in
              let m : Among (ending.restored (suc b.level) t f) ends = subst (λ z. Among (ending.restored z t f) ends) deep r in
              by_step routines p.scope w level n i (E ∷ ts) tasks (plain_facts p.scope w level i E ts tasks refl) (λ m' one_less free c.
              unasked (Next routines p.scope w level (E ∷ ts) m') c _ (done (Next routines p.scope w level (E ∷ ts) m') (doing ts (tested j.test (back_to j.bindings j.next i)))
              (into_level routines p.scope w level b (E ∷ ts) ts m' (doing ts (tested j.test (back_to j.bindings j.next i))) refl refl (λ inside. marked) (λ inside.
              one_fewer routines p.scope w b n m' one_less (doing ts (tested j.test (back_to j.bindings j.next i)))
              (next (ending.restored (suc b.level) t f) m (doing ts (tested j.test (back_to j.bindings j.next i)))
              (record {
                stands = end_stands p.scope w b s.case j d.stands world pos shares f i given.stands t last esc;
                captured_sole = λ x q. differs (some_local x []) q (none_local x);
                values = given.values;
              }) refl)))))

      -- the block's mark is the innermost
      marked_in : Marked p.scope w b (marks ts) → Marked p.scope w level (BlockMark j.bindings j.next j.test ∷ marks ts)
      marked_in k = record { marks = record { tests = ap (λ z. z ++ j.test ∷ []) k.marks.tests; frames = k.marks.frames }; begun = k.begun; starts = k.starts }

      pub enters_block : (head : HeadTree) (inner_block more : LineTrees) → block ≡ line head inner_block more → is_listed (listed p.scope (number_of head) 0) (entering s.case) ≡ true
          → j.tasks ≡ task.Block block ∷ ts → Safe routines p.scope w b n j
      enters_block head inner_block more is in_list tasks =
          let here : Describes p.scope w level [] (at_rest (entering s.case)) (idle j) = record {
            stands = begin_stands p.scope w b s.case j d.stands world pos;
            captured_sole = λ x q. differs (some_local x []) q (none_local x);
            values = (at_rest_law p.scope w b s (idle j) d).values;
          } in
          let to : Job = doing (RunLines (as_lines block) ∷ E ∷ ts) j in
          by_step routines p.scope w b n j (task.Block block ∷ ts) tasks (plain_facts p.scope w b j (task.Block block) ts tasks refl) (λ m one_less free c.
          unasked (Next routines p.scope w b (task.Block block ∷ ts) m) c _ (done (Next routines p.scope w b (task.Block block ∷ ts) m) to
          (into_level routines p.scope w b level (task.Block block ∷ ts) (RunLines (as_lines block) ∷ E ∷ ts) m to refl refl marked_in (λ marked.
          one_fewer routines p.scope w level n m one_less to
          (lines_fit routines p.scope w level OfBlock ends once n E refl ts [] refl (inl (refl, refl)) (λ e column f same deep right. leaves marked e deep column f (last_saved f.saved) refl right)
          false (λ y. absurd (false≢true y)) (λ y. absurd (false≢true y)) block are (each level refl) leveled passes (entering s.case) (subst (λ z. Enters routines p.scope w level OfBlock ends once n E refl ts [] refl (inl (refl, refl)) (λ e column f same deep right. leaves marked e deep column f (last_saved f.saved) refl right) false (λ y. absurd (false≢true y)) (λ y. absurd (false≢true y)) z (entering s.case)) (sym is) in_list) (doing (RunLines (as_lines block) ∷ E ∷ ts) j) here (ap (λ z. RunLines z ∷ E ∷ ts) (sym (append-nil (as_lines block)))))))))

  -- DO of a block
  pub block_fits : (head : HeadTree) (inside more : LineTrees) (ts : List Task) → AreWithin (line head inside more) (own_lines p.scope w) → Inside (suc b.level) (line head inside more) → AreLinesOf p.scope (suc b.level) false (line head inside more)
      → EachLinePasses p.scope OfBlock (walk_lines p.scope OfBlock (line head inside more)).ends (line head inside more)
      → (s : State) (A : State → Type 0) (S : Case → Type 0) (Q : Quit → Type 0) → Leads (do_block p (block_with (line head inside more) (walk_lines p.scope OfBlock (line head inside more)).ends)) s A S Q
      → ((u : State) → A u → Fits routines p.scope w b [] n ts u) → Fits routines p.scope w b [] n (task.Block (line head inside more) ∷ ts) s
  block_fits head inside more ts are each leveled passes s A S Q l go j d tasks =
      let r = leads_block A S Q p (record { first = number_of head; ends = (walk_lines p.scope OfBlock (line head inside more)).ends }) s l in
      enters_block (line head inside more) ts are each leveled passes (λ f m. go (at_rest f) (r.1 f m)) s j d head inside more refl r.0 tasks
