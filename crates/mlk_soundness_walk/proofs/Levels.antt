-- The commands of lines at each level: a line's block is one level deeper.
use Rattle.std.proofs.Common.{◌≡◌, ◌<◌, ◌≤◌, ℕ, suc, Bool, true, false, List, [], ◌∷◌, ◌++◌, Option, Some, sym, ap, ◌∙◌, subst, arith}
use Rattle.mlk_rules.specs.declared.rules.RuleLists.{RuleLists}
use Rattle.mlk_rules.specs.Ranks.{FamiliesApart}
use Rattle.mlk_rules.specs.Laws.{RankedOnce}
use Rattle.mlk_program.specs.Calls.{in_tree}
use Rattle.mlk_program.specs.Entries.{target_of}
use Rattle.mlk_program.specs.declared.entry.EntryId.{EntryId}
use Rattle.mlk_syntax.specs.declared.expr.Callee.{Callee}
use Rattle.mlk_syntax.specs.ExprTrees.{Tree, ActualTree}
use Rattle.mlk_syntax.specs.Trees.{RoutineTree, Called, HeadTree, LineTrees, no_lines, line, CommandTree, Does, Do}
use Rattle.mlk_cert_parts.specs.declared.block.EntryCert.{EntryCert}
use Rattle.mlk_cert_parts.specs.declared.case.Case.{Case}
use Rattle.mlk_machine_jobs.specs.Calling.{formals_in, lines_after}
use Rattle.mlk_machine_jobs.specs.Commands.{action_parts}
use Rattle.mlk_machine_jobs.specs.Lines.{skipped, quit, to_end, command_parts}
use Rattle.mlk_machine_jobs.specs.Tasks as task
use Rattle.mlk_machine_jobs.specs.Tasks.{Task, LineTree}
use Rattle.mlk_walk_state.specs.Scope.{Scope}
use Rattle.mlk_walk_state.specs.States.{at_rest}
use Rattle.mlk_walk_state.specs.declared.state.State.{State}
use Rattle.mlk_walk_exprs.specs.Expressions.{value}
use Rattle.mlk_walk_exprs.specs.Spots.{Spot}
use Rattle.mlk_walk_exprs.specs.declared.spot.Block.{Block}
use Rattle.mlk_walk_exprs.specs.declared.walk.Quit.{Quit}
use Rattle.mlk_walk_commands.specs.Arguments.{given_list}
use Rattle.mlk_walk_lines.specs.Commands.{do_block}
use Rattle.mlk_walk_lines.specs.Endings.{Around, OfBlock}
use Rattle.mlk_walk_lines.specs.Lines.{block_with, walk_lines}
use Rattle.mlk_walk_lines.specs.Loops.{one_command}
use Rattle.mlk_walk_laws.specs.Fewer.{ListsEachOnce}
use Rattle.mlk_walk_laws.specs.Passing.{EachLinePasses}
use Rattle.mlk_soundness_machine.specs.Described.{World, Level, Slot, IsWorld}
use Rattle.mlk_soundness_machine.proofs.Listing.{own_lines}
use Rattle.mlk_soundness_machine.proofs.Sharing.{SharesByOwn}
use Rattle.mlk_soundness_machine.proofs.Values.{Fits, FitsValue}
use Rattle.mlk_soundness_walk.specs.Commands.{Gives, Jumps, KeepsBetween}
use Rattle.mlk_soundness_walk.specs.Entries.{scope, EntryFits}
use Rattle.mlk_soundness_walk.specs.Ours.{IsOurs, AreOurs, IsOf, AreLinesOf}
use Rattle.mlk_soundness_walk.proofs.Alone.{Leads, leads_stay}
use Rattle.mlk_soundness_walk.proofs.Commanding as commanding
use Rattle.mlk_soundness_walk.proofs.Entries.{IsWell}
use Rattle.mlk_soundness_walk.proofs.Lines.{CommandFits, BlockFits, EachBlockFits}
use Rattle.mlk_soundness_walk.proofs.Nested.{block_fits}
use Rattle.mlk_soundness_walk.proofs.Parameters.{Some_case, Some_quit}
use Rattle.mlk_soundness_walk.proofs.Places.{AreWithin, lines_behind, lines_below}
use Rattle.mlk_soundness_walk.proofs.Rests.{command_fits}

module _ (routines : List RoutineTree) (rules : RuleLists) (entries : List (EntryId × EntryCert) × List EntryId) (e : EntryId) (blk : EntryCert) (w : World) (world : IsWorld (scope routines rules entries e blk) w)
    (apart : FamiliesApart rules.families) (ranked : RankedOnce rules.families)
    (well : (column : ℕ) (callee : Callee) (written : Option (List ActualTree)) → IsOurs (scope routines rules entries e blk) (Called column callee written) → (t : EntryId) (its : EntryCert)
    → target_of routines e.routine callee ≡ Some t → (head : HeadTree) (body : LineTrees) (lines : List LineTree) → lines_after routines t ≡ (head, body) ∷ lines
    → IsWell (scope routines rules entries e blk).is_shared (scope routines rules entries t its).is_shared (formals_in head) (given_list written))
    (once : ListsEachOnce (scope routines rules entries e blk)) (shares : SharesByOwn (scope routines rules entries e blk).is_shared (scope routines rules entries e blk).is_shared)
    (bound : ℕ) (lower : (k : ℕ) → k < bound → EntryFits routines rules entries k) where
  abbrev sc : Scope
  sc = scope routines rules entries e blk

  abbrev spot : ℕ → ℕ → Option Block → ℕ → Spot
  spot number level in_block word = record { scope = scope routines rules entries e blk; line = number; level = level; block = in_block; word = word }

  -- the commands of one line, given that its block's lines are safe
  module _ (block : LineTrees) (b : Level) (pos : 0 < b.level) (leveled : AreLinesOf sc (suc b.level) false block) (passes : EachLinePasses sc OfBlock (walk_lines sc OfBlock block).ends block) (are : AreWithin block (own_lines sc w))
      (inner : (inside : Level) → inside.level ≡ suc b.level → (m : ℕ) → m ≤ bound → EachBlockFits routines sc w inside m block) where
    abbrev its : Option Block
    its = block_with block (walk_lines sc OfBlock block).ends

    in_block : (number level word : ℕ) (S : Case → Type 0) (Q : Quit → Type 0) (m : ℕ) → m ≤ bound → (ts : List Task) (B : State → Type 0) → ((u : State) → B u → Fits routines sc w b [] m ts u)
        → (s : State) → Leads (do_block (spot number level its word) its) s B S Q → Fits routines sc w b [] m (action_parts block (Do []) ++ ts) s
    in_block number level word S Q m le ts B go s l = by block leveled passes are (λ inside eq. inner inside eq m le) l
      where
        by : (body : LineTrees) → AreLinesOf sc (suc b.level) false body → EachLinePasses sc OfBlock (walk_lines sc OfBlock body).ends body → AreWithin body (own_lines sc w)
            → ((inside : Level) → inside.level ≡ suc b.level → EachBlockFits routines sc w inside m body)
            → Leads (do_block (spot number level its word) (block_with body (walk_lines sc OfBlock body).ends)) s B S Q → Fits routines sc w b [] m (action_parts body (Do []) ++ ts) s
        by no_lines deep pass its_lines each h = go s (leads_stay B S Q s h)
        by (line head inside more) deep pass its_lines each h = block_fits routines (spot number level its word) w b world pos shares once m head inside more ts its_lines each deep pass s B S Q h go

    one_fits : (number level word m : ℕ) → level ≡ b.level → m ≤ bound → (may : Bool) (c : CommandTree) → IsOf sc may c → (ts : List Task) (s : State) → KeepsBetween routines w b (spot number level its word) c ts s → (A : State → Type 0) (S : Case → Type 0) (Q : Quit → Type 0)
        → Leads (λ v. one_command (spot number level its word) v c) s A S Q
        → ((u : State) → A u → Fits routines sc w b [] m ts u) → ((d : Case) → S d → Fits routines sc w b [] m (skipped ts) (at_rest d))
        → ((q : Quit) → Q q → Fits routines sc w b [] m (quit ts) (at_rest q.case)) → (may ≡ true → (q : Quit) → Q q → Gives routines w b sc m (to_end ts) (at_rest q.case)) → (may ≡ true → Jumps routines w b sc m (to_end ts))
        → Fits routines sc w b [] m (command_parts block c ++ ts) s
    one_fits number level word m deep le may (Does column condition a) of ts s between A S Q l go skip stop give jump =
        commanding.one_fits routines rules entries e blk w world apart ranked well b bound lower number level its column S Q m le block may ts skip stop give jump
        (in_block number level column S Q m le ts) shares deep A go condition a of s between l

    evaluate : (number level word m : ℕ) → m ≤ bound → (t : Tree) → AreOurs sc (in_tree t) → (slots : List Slot) (us : List Task) (s : State) (A : State → Type 0)
        → Leads (value (spot number level its word) t) s A Some_case Some_quit → ((u : State) → A u → FitsValue routines sc w b t slots m us u) → Fits routines sc w b slots m (task.Evaluate t ∷ us) s
    evaluate number level word m le =
        commanding.evaluate routines rules entries e blk w world apart ranked well b bound lower number level its word Some_case Some_quit m le

    pub block_fit : (m : ℕ) → m ≤ bound → BlockFits routines sc w b m block
    block_fit m le head p same deep is =
        let here : Spot = record p { scope = scope routines rules entries e blk; block = its } in
        let eq : p ≡ here = ap (λ z. record p { scope = z }) same ∙ ap (λ z. record p { scope = scope routines rules entries e blk; block = z }) is in
        subst (λ q. CommandFits routines w b q (head, block) m) (sym eq)
        (command_fits routines here w b world (head, block) bound once (λ word k lk. evaluate p.line p.level word k lk) (λ k lk. one_fits p.line p.level p.word k deep lk) m le)

  -- the lines of a level
  pub blocks_fit : (lines : LineTrees) (b : Level) → 0 < b.level → (may : Bool) (around : Around) (ends : List Case) → AreLinesOf sc b.level may lines → EachLinePasses sc around ends lines → AreWithin lines (own_lines sc w)
      → (m : ℕ) → m ≤ bound → EachBlockFits routines sc w b m lines
  blocks_fit no_lines b pos may around ends leveled passes are m le = tt
  blocks_fit (line head block rest) b pos may around ends leveled passes are m le = (
    block_fit block b pos leveled.1 passes.1 (lines_below head block rest (own_lines sc w) are)
        (λ inside eq k lk.
        let more : 0 < inside.level = (let z = eq in omega (arith, z)) in
        blocks_fit block inside more false OfBlock (walk_lines sc OfBlock block).ends (subst (λ z. AreLinesOf sc z false block) (sym eq) leveled.1) passes.1 (lines_below head block rest (own_lines sc w) are) k lk) m le,
    blocks_fit rest b pos may around ends leveled.2 passes.2 (lines_behind head block rest (own_lines sc w) are) m le,
  )

  -- the commands of a line of the entry
  pub line_fits : (block : LineTrees) (b : Level) → 0 < b.level → AreLinesOf sc (suc b.level) false block → EachLinePasses sc OfBlock (walk_lines sc OfBlock block).ends block → AreWithin block (own_lines sc w)
      → (m : ℕ) → m ≤ bound → BlockFits routines sc w b m block
  line_fits block b pos leveled passes are m le =
      block_fit block b pos leveled passes are
      (λ inside eq k lk.
      let more : 0 < inside.level = (let z = eq in omega (arith, z)) in
      blocks_fit block inside more false OfBlock (walk_lines sc OfBlock block).ends (subst (λ z. AreLinesOf sc z false block) (sym eq) leveled) passes are k lk) m le
