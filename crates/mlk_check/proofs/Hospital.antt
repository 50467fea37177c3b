-- The hospital of examples/: all premises of the theorem are shown for it, so every run of its five routines keeps the rules. And
-- what the theorem implies for one given run, in which a patient is admitted to a ward while another is moved there.
use Rattle.std.proofs.Common.{◌≡◌, refl, sym, ◌∙◌, ℕ, zero, suc, true, false, List, [], ◌∷◌, arith, inl, inr}
use Rattle.std.specs.Prelude.{◌++◌, bytes_eq, Some, None, Ok, Err, codes}
use Rattle.std.specs.Fmt.{digits}
use Rattle.std.proofs.lemmas.Bool.{false≢true}
use Rattle.std.proofs.lemmas.Slice.Eq.{bytes_eq-Decides}
use Rattle.mlk_text.specs.Lexemes.{entry_of, label_at, name_at, digits_at}
use Rattle.mlk_text.specs.declared.root.Root.TheVariants as root
use Rattle.mlk_text.specs.declared.operator.Op.TheVariants as op
use Rattle.mlk_text.specs.declared.operator.UnaryOp.TheVariants as unary
use Rattle.mlk_text.specs.declared.operator.Relation.TheVariants as relation
use Rattle.mlk_syntax.specs.declared.expr.Special.TheVariants as special
use Rattle.mlk_syntax.specs.declared.expr.Function.TheVariants as function
use Rattle.mlk_syntax.specs.declared.command.Sign.TheVariants as sign
use Rattle.mlk_syntax.specs.ExprTrees.{Lit, LocalName, GlobalName, SpecialName, Prefixed, Chain, Func, CallOf, no_trees, tree, no_subs, sub, no_links, link, Given, no_actuals, actual}
use Rattle.mlk_syntax.specs.Trees.{RoutineTree, Named_routine, no_lines, line, LineHead, finished, then_command, then_for, Does, Do, Else, If, Kill, Lock, New, Quit, Set, Write, Named, Called, DoCall, KillOne, NewOne, LockNames, SetWhole, SetTo, WriteValue, WriteFormat}
use Rattle.mlk_names.specs.declared.lock_name.LockName.{LockName}
use Rattle.mlk_names.specs.declared.known_symbol.KnownSym.TheVariants as known
use Rattle.mlk_names.specs.declared.reference.Extent.TheVariants as extent
use Rattle.mlk_names.specs.LockNames.{Conflict}
use Rattle.mlk_rules.specs.declared.pattern.Element.TheVariants as element
use Rattle.mlk_rules.specs.declared.template.TemplatePart.TheVariants as part_of
use Rattle.mlk_rules.specs.declared.rules.RuleLists.{RuleLists}
use Rattle.mlk_rules.specs.Ranks.{FamiliesApart}
use Rattle.mlk_rules.specs.Sound.{IsSound}
use Rattle.mlk_rules.specs.Computed.{answer}
use Rattle.mlk_cert_parts.specs.declared.case.Test.TheVariants.{Any, Zero, One}
use Rattle.mlk_cert_parts.specs.declared.names.NameSet.TheVariants.{Only}
use Rattle.mlk_cert_parts.specs.declared.block.EntryCert.{EntryCert}
use Rattle.mlk_cert_parts.specs.Limits.{IsCertificate}
use Rattle.mlk_cert_lexemes.specs.Texts.{byte_text}
use Rattle.mlk_numbers.specs.Operators.{fold_between, fold_before, whole}
use Rattle.mlk_walk_state.specs.Terms.{same_term}
use Rattle.mlk_walk_state.specs.Cases.{same_case, includes, leaves_by}
use Rattle.mlk_walk_state.specs.States.{same_state}
use Rattle.mlk_walk_state.specs.Names.{is_among, have, spares}
use Rattle.mlk_walk_exprs.specs.Walks.{too_many, few}
use Rattle.mlk_walk.specs.Faults.{fault_cmp}
use Rattle.mlk_walk.specs.Verdicts.{entry_faults}
use Rattle.mlk_walk.specs.Reports.{report}
use Rattle.mlk_walk.proofs.Examples.{callee, lock_term, lock_name, own_item, case_of, exit_of, point_of, block, pattern_of, template, family, cover, rules_of}
use Rattle.mlk_names.specs.declared.reference.Access.TheVariants.{Writes}
use Rattle.mlk_names.specs.References.{Touch}
use Rattle.mlk_program.specs.declared.entry.EntryId.{EntryId}
use Rattle.mlk_machine_locks.specs.NameTests.{same_name, is_above, in_conflict}
use Rattle.mlk_machine_locks.specs.Waiting.{waits}
use Rattle.mlk_machine_locks.specs.Systems.{Machine, Event, Act, Begin, Go, after, lone_run}
use Rattle.mlk_machine_jobs.specs.declared.choice.Choice.{Choice}
use Rattle.mlk_machine_jobs.specs.declared.choice.Choice.TheVariants as choice
use Rattle.mlk_machine_jobs.specs.Choices.{Stepped, touch_at}
use Rattle.mlk_machine_jobs.specs.Runs.{machine, begun, seen, next_claim}
use Rattle.mlk_machine_jobs.specs.Seen.{ready, state, silent_step}
use Rattle.mlk_machine_jobs.specs.Tasks.{Job}
use Rattle.mlk_machine_laws.specs.Moments.{IsCoveredAt}
use Rattle.mlk_walk_state.specs.Scope.{certified, declared, is_declared}
use Rattle.mlk_machine_laws.specs.WellFormed.{AreFormed}
use Rattle.mlk_check.specs.Theorem.{AreSafe, KeepsRules}
use Rattle.mlk_check.proofs.Theorem.{keeps_rules}
use Rattle.mlk_check.proofs.Tested.{certificate_by, formed_by}
use Rattle.mlk_check.proofs.Examples.{job_of, events_of}

-- ADMIT(ID,W) ; admits a patient to a ward, if a bed is free there
--  NEW B
--  LOCK +^PAT(ID),+^WARD(W)
--  SET B=$$FREE^BED(W)
--  IF B'="" SET ^WARD(W,"bed",B)=ID,^PAT(ID,"ward")=W,^PAT(ID,"bed")=B
--  LOCK -^WARD(W),-^PAT(ID)
--  QUIT
-- OUT(ID) ; discharges a patient, and charges the stay
--  NEW B,W
--  LOCK +^PAT(ID)
--  SET W=$GET(^PAT(ID,"ward")),B=$GET(^PAT(ID,"bed"))
--  IF W="" LOCK -^PAT(ID) QUIT
--  LOCK +^WARD(W)
--  KILL ^WARD(W,"bed",B),^PAT(ID,"ward"),^PAT(ID,"bed")
--  DO STAY^BIL(ID)
--  LOCK -^WARD(W),-^PAT(ID)
--  QUIT
abbrev adm_routine : RoutineTree
adm_routine = (Named_routine (codes "ADM") (line (LineHead 1 1 65 (Some (codes "ADMIT")) (Some ((codes "ID") ∷ (codes "W") ∷ []))
    finished)
    no_lines
    (line (LineHead 2 1 7 None None
    (then_command (Does 2 None (New ((NewOne 6 (codes "B")) ∷ []))) finished))
    no_lines
    (line (LineHead 3 1 26 None None
    (then_command (Does 2 None (Lock ((LockNames sign.Plus ((Named 8 (GlobalName 8 (codes "PAT") (sub 13 (LocalName (codes "ID") no_subs) no_subs))) ∷ []) None) ∷ (LockNames sign.Plus ((Named 18 (GlobalName 18 (codes "WARD") (sub 24 (LocalName (codes "W") no_subs) no_subs))) ∷ []) None) ∷ []))) finished))
    no_lines
    (line (LineHead 4 1 21 None None
    (then_command (Does 2 None (Set ((SetTo ((SetWhole (Named 6 (LocalName (codes "B") no_subs))) ∷ []) (CallOf 8 (callee (Some (codes "FREE")) (Some (codes "BED"))) (actual (Given (LocalName (codes "W") no_subs)) no_actuals))) ∷ []))) finished))
    no_lines
    (line (LineHead 5 1 69 None None
    (then_command (Does 2 None (If ((Chain (LocalName (codes "B") no_subs) (link (op.IsNot relation.Equals) (Lit []) no_links)) ∷ []))) (then_command (Does 11 None (Set ((SetTo ((SetWhole (Named 15 (GlobalName 15 (codes "WARD") (sub 21 (LocalName (codes "W") no_subs) (sub 23 (Lit (codes "bed")) (sub 29 (LocalName (codes "B") no_subs) no_subs)))))) ∷ []) (LocalName (codes "ID") no_subs)) ∷ (SetTo ((SetWhole (Named 35 (GlobalName 35 (codes "PAT") (sub 40 (LocalName (codes "ID") no_subs) (sub 43 (Lit (codes "ward")) no_subs))))) ∷ []) (LocalName (codes "W") no_subs)) ∷ (SetTo ((SetWhole (Named 53 (GlobalName 53 (codes "PAT") (sub 58 (LocalName (codes "ID") no_subs) (sub 61 (Lit (codes "bed")) no_subs))))) ∷ []) (LocalName (codes "B") no_subs)) ∷ []))) finished)))
    no_lines
    (line (LineHead 6 1 26 None None
    (then_command (Does 2 None (Lock ((LockNames sign.Minus ((Named 8 (GlobalName 8 (codes "WARD") (sub 14 (LocalName (codes "W") no_subs) no_subs))) ∷ []) None) ∷ (LockNames sign.Minus ((Named 18 (GlobalName 18 (codes "PAT") (sub 23 (LocalName (codes "ID") no_subs) no_subs))) ∷ []) None) ∷ []))) finished))
    no_lines
    (line (LineHead 7 1 6 None None
    (then_command (Does 2 None (Quit None)) finished))
    no_lines
    (line (LineHead 8 1 53 (Some (codes "OUT")) (Some ((codes "ID") ∷ []))
    finished)
    no_lines
    (line (LineHead 9 1 9 None None
    (then_command (Does 2 None (New ((NewOne 6 (codes "B")) ∷ (NewOne 8 (codes "W")) ∷ []))) finished))
    no_lines
    (line (LineHead 10 1 16 None None
    (then_command (Does 2 None (Lock ((LockNames sign.Plus ((Named 8 (GlobalName 8 (codes "PAT") (sub 13 (LocalName (codes "ID") no_subs) no_subs))) ∷ []) None) ∷ []))) finished))
    no_lines
    (line (LineHead 11 1 52 None None
    (then_command (Does 2 None (Set ((SetTo ((SetWhole (Named 6 (LocalName (codes "W") no_subs))) ∷ []) (Func function.Get (tree (GlobalName 13 (codes "PAT") (sub 18 (LocalName (codes "ID") no_subs) (sub 21 (Lit (codes "ward")) no_subs))) no_trees))) ∷ (SetTo ((SetWhole (Named 30 (LocalName (codes "B") no_subs))) ∷ []) (Func function.Get (tree (GlobalName 37 (codes "PAT") (sub 42 (LocalName (codes "ID") no_subs) (sub 45 (Lit (codes "bed")) no_subs))) no_trees))) ∷ []))) finished))
    no_lines
    (line (LineHead 12 1 29 None None
    (then_command (Does 2 None (If ((Chain (LocalName (codes "W") no_subs) (link (op.Is relation.Equals) (Lit []) no_links)) ∷ []))) (then_command (Does 10 None (Lock ((LockNames sign.Minus ((Named 16 (GlobalName 16 (codes "PAT") (sub 21 (LocalName (codes "ID") no_subs) no_subs))) ∷ []) None) ∷ []))) (then_command (Does 25 None (Quit None)) finished))))
    no_lines
    (line (LineHead 13 1 16 None None
    (then_command (Does 2 None (Lock ((LockNames sign.Plus ((Named 8 (GlobalName 8 (codes "WARD") (sub 14 (LocalName (codes "W") no_subs) no_subs))) ∷ []) None) ∷ []))) finished))
    no_lines
    (line (LineHead 14 1 54 None None
    (then_command (Does 2 None (Kill ((KillOne (Named 7 (GlobalName 7 (codes "WARD") (sub 13 (LocalName (codes "W") no_subs) (sub 15 (Lit (codes "bed")) (sub 21 (LocalName (codes "B") no_subs) no_subs)))))) ∷ (KillOne (Named 24 (GlobalName 24 (codes "PAT") (sub 29 (LocalName (codes "ID") no_subs) (sub 32 (Lit (codes "ward")) no_subs))))) ∷ (KillOne (Named 40 (GlobalName 40 (codes "PAT") (sub 45 (LocalName (codes "ID") no_subs) (sub 48 (Lit (codes "bed")) no_subs))))) ∷ []))) finished))
    no_lines
    (line (LineHead 15 1 17 None None
    (then_command (Does 2 None (Do ((DoCall (Called 5 (callee (Some (codes "STAY")) (Some (codes "BIL"))) (Some ((Given (LocalName (codes "ID") no_subs)) ∷ []))) None) ∷ []))) finished))
    no_lines
    (line (LineHead 16 1 26 None None
    (then_command (Does 2 None (Lock ((LockNames sign.Minus ((Named 8 (GlobalName 8 (codes "WARD") (sub 14 (LocalName (codes "W") no_subs) no_subs))) ∷ []) None) ∷ (LockNames sign.Minus ((Named 18 (GlobalName 18 (codes "PAT") (sub 23 (LocalName (codes "ID") no_subs) no_subs))) ∷ []) None) ∷ []))) finished))
    no_lines
    (line (LineHead 17 1 6 None None
    (then_command (Does 2 None (Quit None)) finished))
    no_lines
    no_lines))))))))))))))))))

-- FREE(W) ; the first free bed of a ward, or nothing; whoever calls holds the ward
--  NEW B
--  SET B=""
--  FOR  SET B=$ORDER(^WARD(W,"beds",B)) QUIT:B=""  QUIT:'$DATA(^WARD(W,"bed",B))
--  QUIT B
abbrev bed_routine : RoutineTree
bed_routine = (Named_routine (codes "BED") (line (LineHead 1 1 81 (Some (codes "FREE")) (Some ((codes "W") ∷ []))
    finished)
    no_lines
    (line (LineHead 2 1 7 None None
    (then_command (Does 2 None (New ((NewOne 6 (codes "B")) ∷ []))) finished))
    no_lines
    (line (LineHead 3 1 10 None None
    (then_command (Does 2 None (Set ((SetTo ((SetWhole (Named 6 (LocalName (codes "B") no_subs))) ∷ []) (Lit [])) ∷ []))) finished))
    no_lines
    (line (LineHead 4 1 79 None None
    (then_for 2 1 None (then_command (Does 7 None (Set ((SetTo ((SetWhole (Named 11 (LocalName (codes "B") no_subs))) ∷ []) (Func function.Order (tree (GlobalName 20 (codes "WARD") (sub 26 (LocalName (codes "W") no_subs) (sub 28 (Lit (codes "beds")) (sub 35 (LocalName (codes "B") no_subs) no_subs)))) no_trees))) ∷ []))) (then_command (Does 39 (Some (Chain (LocalName (codes "B") no_subs) (link (op.Is relation.Equals) (Lit []) no_links))) (Quit None)) (then_command (Does 50 (Some (Prefixed unary.Not (Func function.Data (tree (GlobalName 62 (codes "WARD") (sub 68 (LocalName (codes "W") no_subs) (sub 70 (Lit (codes "bed")) (sub 76 (LocalName (codes "B") no_subs) no_subs)))) no_trees)))) (Quit None)) finished)))))
    no_lines
    (line (LineHead 5 1 8 None None
    (then_command (Does 2 None (Quit (Some (LocalName (codes "B") no_subs)))) finished))
    no_lines
    no_lines))))))

-- BILL(ID,CODE) ; charges a patient for a service
--  LOCK +^PAT(ID)
--  DO CHARGE(ID,CODE,$GET(^PRICE(CODE)))
--  LOCK -^PAT(ID)
--  QUIT
-- STAY(ID) ; charges a stay; whoever calls holds the patient
--  DO CHARGE(ID,"stay",$GET(^PRICE("stay")))
--  QUIT
-- CHARGE(ID,CODE,SUM) ; writes a charge under the next number
--  NEW N
--  SET N=$$NEXT()
--  SET ^BILL(ID,N)=CODE_" "_SUM
--  QUIT
-- NEXT() ; the next number of a bill
--  NEW N
--  LOCK +^SEQ
--  SET N=$GET(^SEQ)+1,^SEQ=N
--  LOCK -^SEQ
--  QUIT N
abbrev bil_routine : RoutineTree
bil_routine = (Named_routine (codes "BIL") (line (LineHead 1 1 48 (Some (codes "BILL")) (Some ((codes "ID") ∷ (codes "CODE") ∷ []))
    finished)
    no_lines
    (line (LineHead 2 1 16 None None
    (then_command (Does 2 None (Lock ((LockNames sign.Plus ((Named 8 (GlobalName 8 (codes "PAT") (sub 13 (LocalName (codes "ID") no_subs) no_subs))) ∷ []) None) ∷ []))) finished))
    no_lines
    (line (LineHead 3 1 39 None None
    (then_command (Does 2 None (Do ((DoCall (Called 5 (callee (Some (codes "CHARGE")) None) (Some ((Given (LocalName (codes "ID") no_subs)) ∷ (Given (LocalName (codes "CODE") no_subs)) ∷ (Given (Func function.Get (tree (GlobalName 25 (codes "PRICE") (sub 32 (LocalName (codes "CODE") no_subs) no_subs)) no_trees))) ∷ []))) None) ∷ []))) finished))
    no_lines
    (line (LineHead 4 1 16 None None
    (then_command (Does 2 None (Lock ((LockNames sign.Minus ((Named 8 (GlobalName 8 (codes "PAT") (sub 13 (LocalName (codes "ID") no_subs) no_subs))) ∷ []) None) ∷ []))) finished))
    no_lines
    (line (LineHead 5 1 6 None None
    (then_command (Does 2 None (Quit None)) finished))
    no_lines
    (line (LineHead 6 1 59 (Some (codes "STAY")) (Some ((codes "ID") ∷ []))
    finished)
    no_lines
    (line (LineHead 7 1 43 None None
    (then_command (Does 2 None (Do ((DoCall (Called 5 (callee (Some (codes "CHARGE")) None) (Some ((Given (LocalName (codes "ID") no_subs)) ∷ (Given (Lit (codes "stay"))) ∷ (Given (Func function.Get (tree (GlobalName 27 (codes "PRICE") (sub 34 (Lit (codes "stay")) no_subs)) no_trees))) ∷ []))) None) ∷ []))) finished))
    no_lines
    (line (LineHead 8 1 6 None None
    (then_command (Does 2 None (Quit None)) finished))
    no_lines
    (line (LineHead 9 1 60 (Some (codes "CHARGE")) (Some ((codes "ID") ∷ (codes "CODE") ∷ (codes "SUM") ∷ []))
    finished)
    no_lines
    (line (LineHead 10 1 7 None None
    (then_command (Does 2 None (New ((NewOne 6 (codes "N")) ∷ []))) finished))
    no_lines
    (line (LineHead 11 1 16 None None
    (then_command (Does 2 None (Set ((SetTo ((SetWhole (Named 6 (LocalName (codes "N") no_subs))) ∷ []) (CallOf 8 (callee (Some (codes "NEXT")) None) no_actuals)) ∷ []))) finished))
    no_lines
    (line (LineHead 12 1 30 None None
    (then_command (Does 2 None (Set ((SetTo ((SetWhole (Named 6 (GlobalName 6 (codes "BILL") (sub 12 (LocalName (codes "ID") no_subs) (sub 15 (LocalName (codes "N") no_subs) no_subs))))) ∷ []) (Chain (LocalName (codes "CODE") no_subs) (link op.Concatenate (Lit (codes " ")) (link op.Concatenate (LocalName (codes "SUM") no_subs) no_links)))) ∷ []))) finished))
    no_lines
    (line (LineHead 13 1 6 None None
    (then_command (Does 2 None (Quit None)) finished))
    no_lines
    (line (LineHead 14 1 35 (Some (codes "NEXT")) (Some [])
    finished)
    no_lines
    (line (LineHead 15 1 7 None None
    (then_command (Does 2 None (New ((NewOne 6 (codes "N")) ∷ []))) finished))
    no_lines
    (line (LineHead 16 1 12 None None
    (then_command (Does 2 None (Lock ((LockNames sign.Plus ((Named 8 (GlobalName 8 (codes "SEQ") no_subs)) ∷ []) None) ∷ []))) finished))
    no_lines
    (line (LineHead 17 1 27 None None
    (then_command (Does 2 None (Set ((SetTo ((SetWhole (Named 6 (LocalName (codes "N") no_subs))) ∷ []) (Chain (Func function.Get (tree (GlobalName 13 (codes "SEQ") no_subs) no_trees)) (link op.Add (Lit (codes "1")) no_links))) ∷ (SetTo ((SetWhole (Named 21 (GlobalName 21 (codes "SEQ") no_subs))) ∷ []) (LocalName (codes "N") no_subs)) ∷ []))) finished))
    no_lines
    (line (LineHead 18 1 12 None None
    (then_command (Does 2 None (Lock ((LockNames sign.Minus ((Named 8 (GlobalName 8 (codes "SEQ") no_subs)) ∷ []) None) ∷ []))) finished))
    no_lines
    (line (LineHead 19 1 8 None None
    (then_command (Does 2 None (Quit (Some (LocalName (codes "N") no_subs)))) finished))
    no_lines
    no_lines))))))))))))))))))))

-- BEDS(W) ; lists who lies where; it only reads
--  NEW B
--  LOCK +^WARD(W):5 ELSE  WRITE "the ward is in use",! QUIT
--  KILL ^TMP($JOB)
--  SET B=""
--  FOR  SET B=$ORDER(^WARD(W,"bed",B)) QUIT:B=""  SET ^TMP($JOB,B)=^WARD(W,"bed",B)
--  LOCK -^WARD(W)
--  FOR  SET B=$ORDER(^TMP($JOB,B)) QUIT:B=""  WRITE B," ",^TMP($JOB,B),!
--  KILL ^TMP($JOB)
--  QUIT
abbrev rep_routine : RoutineTree
rep_routine = (Named_routine (codes "REP") (line (LineHead 1 1 46 (Some (codes "BEDS")) (Some ((codes "W") ∷ []))
    finished)
    no_lines
    (line (LineHead 2 1 7 None None
    (then_command (Does 2 None (New ((NewOne 6 (codes "B")) ∷ []))) finished))
    no_lines
    (line (LineHead 3 1 58 None None
    (then_command (Does 2 None (Lock ((LockNames sign.Plus ((Named 8 (GlobalName 8 (codes "WARD") (sub 14 (LocalName (codes "W") no_subs) no_subs))) ∷ []) (Some (Lit (codes "5")))) ∷ []))) (then_command (Does 19 None Else) (then_command (Does 25 None (Write ((WriteValue (Lit (codes "the ward is in use"))) ∷ (WriteFormat None) ∷ []))) (then_command (Does 54 None (Quit None)) finished)))))
    no_lines
    (line (LineHead 4 1 17 None None
    (then_command (Does 2 None (Kill ((KillOne (Named 7 (GlobalName 7 (codes "TMP") (sub 12 (SpecialName special.Job) no_subs)))) ∷ []))) finished))
    no_lines
    (line (LineHead 5 1 10 None None
    (then_command (Does 2 None (Set ((SetTo ((SetWhole (Named 6 (LocalName (codes "B") no_subs))) ∷ []) (Lit [])) ∷ []))) finished))
    no_lines
    (line (LineHead 6 1 82 None None
    (then_for 2 1 None (then_command (Does 7 None (Set ((SetTo ((SetWhole (Named 11 (LocalName (codes "B") no_subs))) ∷ []) (Func function.Order (tree (GlobalName 20 (codes "WARD") (sub 26 (LocalName (codes "W") no_subs) (sub 28 (Lit (codes "bed")) (sub 34 (LocalName (codes "B") no_subs) no_subs)))) no_trees))) ∷ []))) (then_command (Does 38 (Some (Chain (LocalName (codes "B") no_subs) (link (op.Is relation.Equals) (Lit []) no_links))) (Quit None)) (then_command (Does 49 None (Set ((SetTo ((SetWhole (Named 53 (GlobalName 53 (codes "TMP") (sub 58 (SpecialName special.Job) (sub 63 (LocalName (codes "B") no_subs) no_subs))))) ∷ []) (GlobalName 66 (codes "WARD") (sub 72 (LocalName (codes "W") no_subs) (sub 74 (Lit (codes "bed")) (sub 80 (LocalName (codes "B") no_subs) no_subs))))) ∷ []))) finished)))))
    no_lines
    (line (LineHead 7 1 16 None None
    (then_command (Does 2 None (Lock ((LockNames sign.Minus ((Named 8 (GlobalName 8 (codes "WARD") (sub 14 (LocalName (codes "W") no_subs) no_subs))) ∷ []) None) ∷ []))) finished))
    no_lines
    (line (LineHead 8 1 71 None None
    (then_for 2 1 None (then_command (Does 7 None (Set ((SetTo ((SetWhole (Named 11 (LocalName (codes "B") no_subs))) ∷ []) (Func function.Order (tree (GlobalName 20 (codes "TMP") (sub 25 (SpecialName special.Job) (sub 30 (LocalName (codes "B") no_subs) no_subs))) no_trees))) ∷ []))) (then_command (Does 34 (Some (Chain (LocalName (codes "B") no_subs) (link (op.Is relation.Equals) (Lit []) no_links))) (Quit None)) (then_command (Does 45 None (Write ((WriteValue (LocalName (codes "B") no_subs)) ∷ (WriteValue (Lit (codes " "))) ∷ (WriteValue (GlobalName 57 (codes "TMP") (sub 62 (SpecialName special.Job) (sub 67 (LocalName (codes "B") no_subs) no_subs)))) ∷ (WriteFormat None) ∷ []))) finished)))))
    no_lines
    (line (LineHead 9 1 17 None None
    (then_command (Does 2 None (Kill ((KillOne (Named 7 (GlobalName 7 (codes "TMP") (sub 12 (SpecialName special.Job) no_subs)))) ∷ []))) finished))
    no_lines
    (line (LineHead 10 1 6 None None
    (then_command (Does 2 None (Quit None)) finished))
    no_lines
    no_lines)))))))))))

-- MOVE(ID,TO) ; moves a patient to another ward, if a bed is free there
--  NEW B,FROM
--  LOCK +^PAT(ID)
--  SET FROM=$GET(^PAT(ID,"ward"))
--  LOCK +(^WARD(FROM),^WARD(TO)) ; both wards in one claim: two moves can't wait for each other
--  SET B=$$FREE^BED(TO)
--  IF B="" LOCK  QUIT
--  KILL ^WARD(FROM,"bed",$GET(^PAT(ID,"bed")))
--  SET ^WARD(TO,"bed",B)=ID,^PAT(ID,"ward")=TO,^PAT(ID,"bed")=B
--  LOCK  QUIT
abbrev trf_routine : RoutineTree
trf_routine = (Named_routine (codes "TRF") (line (LineHead 1 1 70 (Some (codes "MOVE")) (Some ((codes "ID") ∷ (codes "TO") ∷ []))
    finished)
    no_lines
    (line (LineHead 2 1 12 None None
    (then_command (Does 2 None (New ((NewOne 6 (codes "B")) ∷ (NewOne 8 (codes "FROM")) ∷ []))) finished))
    no_lines
    (line (LineHead 3 1 16 None None
    (then_command (Does 2 None (Lock ((LockNames sign.Plus ((Named 8 (GlobalName 8 (codes "PAT") (sub 13 (LocalName (codes "ID") no_subs) no_subs))) ∷ []) None) ∷ []))) finished))
    no_lines
    (line (LineHead 4 1 32 None None
    (then_command (Does 2 None (Set ((SetTo ((SetWhole (Named 6 (LocalName (codes "FROM") no_subs))) ∷ []) (Func function.Get (tree (GlobalName 16 (codes "PAT") (sub 21 (LocalName (codes "ID") no_subs) (sub 24 (Lit (codes "ward")) no_subs))) no_trees))) ∷ []))) finished))
    no_lines
    (line (LineHead 5 1 94 None None
    (then_command (Does 2 None (Lock ((LockNames sign.Plus ((Named 9 (GlobalName 9 (codes "WARD") (sub 15 (LocalName (codes "FROM") no_subs) no_subs))) ∷ (Named 21 (GlobalName 21 (codes "WARD") (sub 27 (LocalName (codes "TO") no_subs) no_subs))) ∷ []) None) ∷ []))) finished))
    no_lines
    (line (LineHead 6 1 22 None None
    (then_command (Does 2 None (Set ((SetTo ((SetWhole (Named 6 (LocalName (codes "B") no_subs))) ∷ []) (CallOf 8 (callee (Some (codes "FREE")) (Some (codes "BED"))) (actual (Given (LocalName (codes "TO") no_subs)) no_actuals))) ∷ []))) finished))
    no_lines
    (line (LineHead 7 1 20 None None
    (then_command (Does 2 None (If ((Chain (LocalName (codes "B") no_subs) (link (op.Is relation.Equals) (Lit []) no_links)) ∷ []))) (then_command (Does 10 None (Lock [])) (then_command (Does 16 None (Quit None)) finished))))
    no_lines
    (line (LineHead 8 1 45 None None
    (then_command (Does 2 None (Kill ((KillOne (Named 7 (GlobalName 7 (codes "WARD") (sub 13 (LocalName (codes "FROM") no_subs) (sub 18 (Lit (codes "bed")) (sub 24 (Func function.Get (tree (GlobalName 29 (codes "PAT") (sub 34 (LocalName (codes "ID") no_subs) (sub 37 (Lit (codes "bed")) no_subs))) no_trees)) no_subs)))))) ∷ []))) finished))
    no_lines
    (line (LineHead 9 1 62 None None
    (then_command (Does 2 None (Set ((SetTo ((SetWhole (Named 6 (GlobalName 6 (codes "WARD") (sub 12 (LocalName (codes "TO") no_subs) (sub 15 (Lit (codes "bed")) (sub 21 (LocalName (codes "B") no_subs) no_subs)))))) ∷ []) (LocalName (codes "ID") no_subs)) ∷ (SetTo ((SetWhole (Named 27 (GlobalName 27 (codes "PAT") (sub 32 (LocalName (codes "ID") no_subs) (sub 35 (Lit (codes "ward")) no_subs))))) ∷ []) (LocalName (codes "TO") no_subs)) ∷ (SetTo ((SetWhole (Named 46 (GlobalName 46 (codes "PAT") (sub 51 (LocalName (codes "ID") no_subs) (sub 54 (Lit (codes "bed")) no_subs))))) ∷ []) (LocalName (codes "B") no_subs)) ∷ []))) finished))
    no_lines
    (line (LineHead 10 1 12 None None
    (then_command (Does 2 None (Lock [])) (then_command (Does 8 None (Quit None)) finished)))
    no_lines
    no_lines)))))))))))

abbrev pub hospital_routines : List RoutineTree
hospital_routines = (adm_routine ∷ bed_routine ∷ bil_routine ∷ rep_routine ∷ trf_routine ∷ [])

abbrev pub hospital_rules : RuleLists
hospital_rules = rules_of ((family (lock_name (root.Global (codes "PAT")) []) 10) ∷ (family (lock_name (root.Global (codes "WARD")) []) 20) ∷ (family (lock_name (root.Global (codes "SEQ")) []) 30) ∷ [])
    ((cover (pattern_of (codes "PAT") (element.Variable ∷ []) extent.Tree) (template (root.Global (codes "PAT")) ((part_of.Place 0) ∷ []))) ∷ (cover (pattern_of (codes "BILL") (element.Variable ∷ []) extent.Tree) (template (root.Global (codes "PAT")) ((part_of.Place 0) ∷ []))) ∷ (cover (pattern_of (codes "WARD") (element.Variable ∷ []) extent.Tree) (template (root.Global (codes "WARD")) ((part_of.Place 0) ∷ []))) ∷ (cover (pattern_of (codes "SEQ") [] extent.Node) (template (root.Global (codes "SEQ")) [])) ∷ [])
    ((pattern_of (codes "TMP") (element.Job ∷ []) extent.Tree) ∷ [])
    ((pattern_of (codes "PRICE") [] extent.Tree) ∷ [])
    ((codes "ADMIT^ADM") ∷ (codes "OUT^ADM") ∷ (codes "MOVE^TRF") ∷ (codes "BILL^BIL") ∷ (codes "BEDS^REP") ∷ [])

abbrev pub hospital_blocks : List EntryCert
hospital_blocks = (block (codes "ADMIT^ADM") [] (Some 10) false []
    ((exit_of Zero [] ((codes "ID") ∷ (codes "W") ∷ [])) ∷
    (exit_of One [] ((codes "ID") ∷ (codes "W") ∷ [])) ∷ [])
    ((point_of 1 0 ((case_of Any [] ((own_item 1 (Only (codes "ID"))) ∷ (own_item 1 (Only (codes "W"))) ∷ []) ((codes "ID") ∷ (codes "W") ∷ []) []) ∷ [])) ∷
    (point_of 2 0 ((case_of Any [] ((own_item 1 (Only (codes "ID"))) ∷ (own_item 1 (Only (codes "W"))) ∷ []) ((codes "ID") ∷ (codes "W") ∷ []) []) ∷ [])) ∷
    (point_of 3 0 ((case_of Any [] ((own_item 1 (Only (codes "B"))) ∷ (own_item 1 (Only (codes "ID"))) ∷ (own_item 1 (Only (codes "W"))) ∷ []) ((codes "ID") ∷ (codes "W") ∷ []) []) ∷ [])) ∷
    (point_of 4 0 ((case_of Any ((lock_term (root.Global (codes "PAT")) ((known.Local (codes "ID")) ∷ [])) ∷ (lock_term (root.Global (codes "WARD")) ((known.Local (codes "W")) ∷ [])) ∷ []) ((own_item 1 (Only (codes "B"))) ∷ (own_item 1 (Only (codes "ID"))) ∷ (own_item 1 (Only (codes "W"))) ∷ []) ((codes "ID") ∷ (codes "W") ∷ []) []) ∷ [])) ∷
    (point_of 5 0 ((case_of Any ((lock_term (root.Global (codes "PAT")) ((known.Local (codes "ID")) ∷ [])) ∷ (lock_term (root.Global (codes "WARD")) ((known.Local (codes "W")) ∷ [])) ∷ []) ((own_item 1 (Only (codes "B"))) ∷ (own_item 1 (Only (codes "ID"))) ∷ (own_item 1 (Only (codes "W"))) ∷ []) ((codes "ID") ∷ (codes "W") ∷ []) []) ∷ [])) ∷
    (point_of 6 0 ((case_of Zero ((lock_term (root.Global (codes "PAT")) ((known.Local (codes "ID")) ∷ [])) ∷ (lock_term (root.Global (codes "WARD")) ((known.Local (codes "W")) ∷ [])) ∷ []) ((own_item 1 (Only (codes "B"))) ∷ (own_item 1 (Only (codes "ID"))) ∷ (own_item 1 (Only (codes "W"))) ∷ []) ((codes "ID") ∷ (codes "W") ∷ []) []) ∷ (case_of One ((lock_term (root.Global (codes "PAT")) ((known.Local (codes "ID")) ∷ [])) ∷ (lock_term (root.Global (codes "WARD")) ((known.Local (codes "W")) ∷ [])) ∷ []) ((own_item 1 (Only (codes "B"))) ∷ (own_item 1 (Only (codes "ID"))) ∷ (own_item 1 (Only (codes "W"))) ∷ []) ((codes "ID") ∷ (codes "W") ∷ []) []) ∷ [])) ∷
    (point_of 7 0 ((case_of Zero [] ((own_item 1 (Only (codes "B"))) ∷ (own_item 1 (Only (codes "ID"))) ∷ (own_item 1 (Only (codes "W"))) ∷ []) ((codes "ID") ∷ (codes "W") ∷ []) []) ∷ (case_of One [] ((own_item 1 (Only (codes "B"))) ∷ (own_item 1 (Only (codes "ID"))) ∷ (own_item 1 (Only (codes "W"))) ∷ []) ((codes "ID") ∷ (codes "W") ∷ []) []) ∷ [])) ∷ []))
    ∷ (block (codes "OUT^ADM") [] (Some 10) false []
    ((exit_of Any [] ((codes "ID") ∷ [])) ∷
    (exit_of One [] ((codes "ID") ∷ [])) ∷ [])
    ((point_of 8 0 ((case_of Any [] ((own_item 1 (Only (codes "ID"))) ∷ []) ((codes "ID") ∷ []) []) ∷ [])) ∷
    (point_of 9 0 ((case_of Any [] ((own_item 1 (Only (codes "ID"))) ∷ []) ((codes "ID") ∷ []) []) ∷ [])) ∷
    (point_of 10 0 ((case_of Any [] ((own_item 1 (Only (codes "B"))) ∷ (own_item 1 (Only (codes "ID"))) ∷ (own_item 1 (Only (codes "W"))) ∷ []) ((codes "ID") ∷ []) []) ∷ [])) ∷
    (point_of 11 0 ((case_of Any ((lock_term (root.Global (codes "PAT")) ((known.Local (codes "ID")) ∷ [])) ∷ []) ((own_item 1 (Only (codes "B"))) ∷ (own_item 1 (Only (codes "ID"))) ∷ (own_item 1 (Only (codes "W"))) ∷ []) ((codes "ID") ∷ []) []) ∷ [])) ∷
    (point_of 12 0 ((case_of Any ((lock_term (root.Global (codes "PAT")) ((known.Local (codes "ID")) ∷ [])) ∷ []) ((own_item 1 (Only (codes "B"))) ∷ (own_item 1 (Only (codes "ID"))) ∷ (own_item 1 (Only (codes "W"))) ∷ []) ((codes "ID") ∷ []) []) ∷ [])) ∷
    (point_of 13 0 ((case_of Zero ((lock_term (root.Global (codes "PAT")) ((known.Local (codes "ID")) ∷ [])) ∷ []) ((own_item 1 (Only (codes "B"))) ∷ (own_item 1 (Only (codes "ID"))) ∷ (own_item 1 (Only (codes "W"))) ∷ []) ((codes "ID") ∷ []) []) ∷ [])) ∷
    (point_of 14 0 ((case_of Zero ((lock_term (root.Global (codes "PAT")) ((known.Local (codes "ID")) ∷ [])) ∷ (lock_term (root.Global (codes "WARD")) ((known.Local (codes "W")) ∷ [])) ∷ []) ((own_item 1 (Only (codes "B"))) ∷ (own_item 1 (Only (codes "ID"))) ∷ (own_item 1 (Only (codes "W"))) ∷ []) ((codes "ID") ∷ []) []) ∷ [])) ∷
    (point_of 15 0 ((case_of Zero ((lock_term (root.Global (codes "PAT")) ((known.Local (codes "ID")) ∷ [])) ∷ (lock_term (root.Global (codes "WARD")) ((known.Local (codes "W")) ∷ [])) ∷ []) ((own_item 1 (Only (codes "B"))) ∷ (own_item 1 (Only (codes "ID"))) ∷ (own_item 1 (Only (codes "W"))) ∷ []) ((codes "ID") ∷ []) []) ∷ [])) ∷
    (point_of 16 0 ((case_of Any ((lock_term (root.Global (codes "PAT")) ((known.Local (codes "ID")) ∷ [])) ∷ (lock_term (root.Global (codes "WARD")) ((known.Local (codes "W")) ∷ [])) ∷ []) ((own_item 1 (Only (codes "B"))) ∷ (own_item 1 (Only (codes "ID"))) ∷ (own_item 1 (Only (codes "W"))) ∷ []) ((codes "ID") ∷ []) []) ∷ [])) ∷
    (point_of 17 0 ((case_of Any [] ((own_item 1 (Only (codes "B"))) ∷ (own_item 1 (Only (codes "ID"))) ∷ (own_item 1 (Only (codes "W"))) ∷ []) ((codes "ID") ∷ []) []) ∷ [])) ∷ []))
    ∷ (block (codes "FREE^BED") ((lock_term (root.Global (codes "WARD")) ((known.Local (codes "W")) ∷ [])) ∷ []) None false []
    ((exit_of Any ((lock_term (root.Global (codes "WARD")) ((known.Local (codes "W")) ∷ [])) ∷ []) ((codes "W") ∷ [])) ∷ [])
    ((point_of 1 0 ((case_of Any ((lock_term (root.Global (codes "WARD")) ((known.Local (codes "W")) ∷ [])) ∷ []) ((own_item 1 (Only (codes "W"))) ∷ []) ((codes "W") ∷ []) []) ∷ [])) ∷
    (point_of 2 0 ((case_of Any ((lock_term (root.Global (codes "WARD")) ((known.Local (codes "W")) ∷ [])) ∷ []) ((own_item 1 (Only (codes "W"))) ∷ []) ((codes "W") ∷ []) []) ∷ [])) ∷
    (point_of 3 0 ((case_of Any ((lock_term (root.Global (codes "WARD")) ((known.Local (codes "W")) ∷ [])) ∷ []) ((own_item 1 (Only (codes "B"))) ∷ (own_item 1 (Only (codes "W"))) ∷ []) ((codes "W") ∷ []) []) ∷ [])) ∷
    (point_of 4 0 ((case_of Any ((lock_term (root.Global (codes "WARD")) ((known.Local (codes "W")) ∷ [])) ∷ []) ((own_item 1 (Only (codes "B"))) ∷ (own_item 1 (Only (codes "W"))) ∷ []) ((codes "W") ∷ []) []) ∷ [])) ∷
    (point_of 4 1 ((case_of Any ((lock_term (root.Global (codes "WARD")) ((known.Local (codes "W")) ∷ [])) ∷ []) ((own_item 1 (Only (codes "B"))) ∷ (own_item 1 (Only (codes "W"))) ∷ []) ((codes "W") ∷ []) []) ∷ [])) ∷
    (point_of 5 0 ((case_of Any ((lock_term (root.Global (codes "WARD")) ((known.Local (codes "W")) ∷ [])) ∷ []) ((own_item 1 (Only (codes "B"))) ∷ (own_item 1 (Only (codes "W"))) ∷ []) ((codes "W") ∷ []) []) ∷ [])) ∷ []))
    ∷ (block (codes "BILL^BIL") [] (Some 10) false []
    ((exit_of Any [] ((codes "CODE") ∷ (codes "ID") ∷ [])) ∷ [])
    ((point_of 1 0 ((case_of Any [] ((own_item 1 (Only (codes "CODE"))) ∷ (own_item 1 (Only (codes "ID"))) ∷ []) ((codes "CODE") ∷ (codes "ID") ∷ []) []) ∷ [])) ∷
    (point_of 2 0 ((case_of Any [] ((own_item 1 (Only (codes "CODE"))) ∷ (own_item 1 (Only (codes "ID"))) ∷ []) ((codes "CODE") ∷ (codes "ID") ∷ []) []) ∷ [])) ∷
    (point_of 3 0 ((case_of Any ((lock_term (root.Global (codes "PAT")) ((known.Local (codes "ID")) ∷ [])) ∷ []) ((own_item 1 (Only (codes "CODE"))) ∷ (own_item 1 (Only (codes "ID"))) ∷ []) ((codes "CODE") ∷ (codes "ID") ∷ []) []) ∷ [])) ∷
    (point_of 4 0 ((case_of Any ((lock_term (root.Global (codes "PAT")) ((known.Local (codes "ID")) ∷ [])) ∷ []) ((own_item 1 (Only (codes "CODE"))) ∷ (own_item 1 (Only (codes "ID"))) ∷ []) ((codes "CODE") ∷ (codes "ID") ∷ []) []) ∷ [])) ∷
    (point_of 5 0 ((case_of Any [] ((own_item 1 (Only (codes "CODE"))) ∷ (own_item 1 (Only (codes "ID"))) ∷ []) ((codes "CODE") ∷ (codes "ID") ∷ []) []) ∷ [])) ∷ []))
    ∷ (block (codes "STAY^BIL") ((lock_term (root.Global (codes "PAT")) ((known.Local (codes "ID")) ∷ [])) ∷ []) (Some 30) false []
    ((exit_of Any ((lock_term (root.Global (codes "PAT")) ((known.Local (codes "ID")) ∷ [])) ∷ []) ((codes "ID") ∷ [])) ∷ [])
    ((point_of 6 0 ((case_of Any ((lock_term (root.Global (codes "PAT")) ((known.Local (codes "ID")) ∷ [])) ∷ []) ((own_item 1 (Only (codes "ID"))) ∷ []) ((codes "ID") ∷ []) []) ∷ [])) ∷
    (point_of 7 0 ((case_of Any ((lock_term (root.Global (codes "PAT")) ((known.Local (codes "ID")) ∷ [])) ∷ []) ((own_item 1 (Only (codes "ID"))) ∷ []) ((codes "ID") ∷ []) []) ∷ [])) ∷
    (point_of 8 0 ((case_of Any ((lock_term (root.Global (codes "PAT")) ((known.Local (codes "ID")) ∷ [])) ∷ []) ((own_item 1 (Only (codes "ID"))) ∷ []) ((codes "ID") ∷ []) []) ∷ [])) ∷ []))
    ∷ (block (codes "CHARGE^BIL") ((lock_term (root.Global (codes "PAT")) ((known.Local (codes "ID")) ∷ [])) ∷ []) (Some 30) false []
    ((exit_of Any ((lock_term (root.Global (codes "PAT")) ((known.Local (codes "ID")) ∷ [])) ∷ []) ((codes "CODE") ∷ (codes "ID") ∷ (codes "SUM") ∷ [])) ∷ [])
    ((point_of 9 0 ((case_of Any ((lock_term (root.Global (codes "PAT")) ((known.Local (codes "ID")) ∷ [])) ∷ []) ((own_item 1 (Only (codes "CODE"))) ∷ (own_item 1 (Only (codes "ID"))) ∷ (own_item 1 (Only (codes "SUM"))) ∷ []) ((codes "CODE") ∷ (codes "ID") ∷ (codes "SUM") ∷ []) []) ∷ [])) ∷
    (point_of 10 0 ((case_of Any ((lock_term (root.Global (codes "PAT")) ((known.Local (codes "ID")) ∷ [])) ∷ []) ((own_item 1 (Only (codes "CODE"))) ∷ (own_item 1 (Only (codes "ID"))) ∷ (own_item 1 (Only (codes "SUM"))) ∷ []) ((codes "CODE") ∷ (codes "ID") ∷ (codes "SUM") ∷ []) []) ∷ [])) ∷
    (point_of 11 0 ((case_of Any ((lock_term (root.Global (codes "PAT")) ((known.Local (codes "ID")) ∷ [])) ∷ []) ((own_item 1 (Only (codes "CODE"))) ∷ (own_item 1 (Only (codes "ID"))) ∷ (own_item 1 (Only (codes "N"))) ∷ (own_item 1 (Only (codes "SUM"))) ∷ []) ((codes "CODE") ∷ (codes "ID") ∷ (codes "SUM") ∷ []) []) ∷ [])) ∷
    (point_of 12 0 ((case_of Any ((lock_term (root.Global (codes "PAT")) ((known.Local (codes "ID")) ∷ [])) ∷ []) ((own_item 1 (Only (codes "CODE"))) ∷ (own_item 1 (Only (codes "ID"))) ∷ (own_item 1 (Only (codes "N"))) ∷ (own_item 1 (Only (codes "SUM"))) ∷ []) ((codes "CODE") ∷ (codes "ID") ∷ (codes "SUM") ∷ []) []) ∷ [])) ∷
    (point_of 13 0 ((case_of Any ((lock_term (root.Global (codes "PAT")) ((known.Local (codes "ID")) ∷ [])) ∷ []) ((own_item 1 (Only (codes "CODE"))) ∷ (own_item 1 (Only (codes "ID"))) ∷ (own_item 1 (Only (codes "N"))) ∷ (own_item 1 (Only (codes "SUM"))) ∷ []) ((codes "CODE") ∷ (codes "ID") ∷ (codes "SUM") ∷ []) []) ∷ [])) ∷ []))
    ∷ (block (codes "NEXT^BIL") [] (Some 30) false []
    ((exit_of Any [] []) ∷ [])
    ((point_of 14 0 ((case_of Any [] [] [] []) ∷ [])) ∷
    (point_of 15 0 ((case_of Any [] [] [] []) ∷ [])) ∷
    (point_of 16 0 ((case_of Any [] ((own_item 1 (Only (codes "N"))) ∷ []) [] []) ∷ [])) ∷
    (point_of 17 0 ((case_of Any ((lock_term (root.Global (codes "SEQ")) []) ∷ []) ((own_item 1 (Only (codes "N"))) ∷ []) [] []) ∷ [])) ∷
    (point_of 18 0 ((case_of Any ((lock_term (root.Global (codes "SEQ")) []) ∷ []) ((own_item 1 (Only (codes "N"))) ∷ []) [] []) ∷ [])) ∷
    (point_of 19 0 ((case_of Any [] ((own_item 1 (Only (codes "N"))) ∷ []) [] []) ∷ [])) ∷ []))
    ∷ (block (codes "BEDS^REP") [] None false []
    ((exit_of Zero [] ((codes "W") ∷ [])) ∷
    (exit_of One [] ((codes "W") ∷ [])) ∷ [])
    ((point_of 1 0 ((case_of Any [] ((own_item 1 (Only (codes "W"))) ∷ []) ((codes "W") ∷ []) []) ∷ [])) ∷
    (point_of 2 0 ((case_of Any [] ((own_item 1 (Only (codes "W"))) ∷ []) ((codes "W") ∷ []) []) ∷ [])) ∷
    (point_of 3 0 ((case_of Any [] ((own_item 1 (Only (codes "B"))) ∷ (own_item 1 (Only (codes "W"))) ∷ []) ((codes "W") ∷ []) []) ∷ [])) ∷
    (point_of 4 0 ((case_of One ((lock_term (root.Global (codes "WARD")) ((known.Local (codes "W")) ∷ [])) ∷ []) ((own_item 1 (Only (codes "B"))) ∷ (own_item 1 (Only (codes "W"))) ∷ []) ((codes "W") ∷ []) []) ∷ [])) ∷
    (point_of 5 0 ((case_of One ((lock_term (root.Global (codes "WARD")) ((known.Local (codes "W")) ∷ [])) ∷ []) ((own_item 1 (Only (codes "B"))) ∷ (own_item 1 (Only (codes "W"))) ∷ []) ((codes "W") ∷ []) []) ∷ [])) ∷
    (point_of 6 0 ((case_of One ((lock_term (root.Global (codes "WARD")) ((known.Local (codes "W")) ∷ [])) ∷ []) ((own_item 1 (Only (codes "B"))) ∷ (own_item 1 (Only (codes "W"))) ∷ []) ((codes "W") ∷ []) []) ∷ [])) ∷
    (point_of 6 1 ((case_of One ((lock_term (root.Global (codes "WARD")) ((known.Local (codes "W")) ∷ [])) ∷ []) ((own_item 1 (Only (codes "B"))) ∷ (own_item 1 (Only (codes "W"))) ∷ []) ((codes "W") ∷ []) []) ∷ [])) ∷
    (point_of 7 0 ((case_of One ((lock_term (root.Global (codes "WARD")) ((known.Local (codes "W")) ∷ [])) ∷ []) ((own_item 1 (Only (codes "B"))) ∷ (own_item 1 (Only (codes "W"))) ∷ []) ((codes "W") ∷ []) []) ∷ [])) ∷
    (point_of 8 0 ((case_of One [] ((own_item 1 (Only (codes "B"))) ∷ (own_item 1 (Only (codes "W"))) ∷ []) ((codes "W") ∷ []) []) ∷ [])) ∷
    (point_of 8 1 ((case_of One [] ((own_item 1 (Only (codes "B"))) ∷ (own_item 1 (Only (codes "W"))) ∷ []) ((codes "W") ∷ []) []) ∷ [])) ∷
    (point_of 9 0 ((case_of One [] ((own_item 1 (Only (codes "B"))) ∷ (own_item 1 (Only (codes "W"))) ∷ []) ((codes "W") ∷ []) []) ∷ [])) ∷
    (point_of 10 0 ((case_of One [] ((own_item 1 (Only (codes "B"))) ∷ (own_item 1 (Only (codes "W"))) ∷ []) ((codes "W") ∷ []) []) ∷ [])) ∷ []))
    ∷ (block (codes "MOVE^TRF") [] (Some 10) true []
    ((exit_of Zero [] ((codes "ID") ∷ (codes "TO") ∷ [])) ∷
    (exit_of One [] ((codes "ID") ∷ (codes "TO") ∷ [])) ∷ [])
    ((point_of 1 0 ((case_of Any [] ((own_item 1 (Only (codes "ID"))) ∷ (own_item 1 (Only (codes "TO"))) ∷ []) ((codes "ID") ∷ (codes "TO") ∷ []) []) ∷ [])) ∷
    (point_of 2 0 ((case_of Any [] ((own_item 1 (Only (codes "ID"))) ∷ (own_item 1 (Only (codes "TO"))) ∷ []) ((codes "ID") ∷ (codes "TO") ∷ []) []) ∷ [])) ∷
    (point_of 3 0 ((case_of Any [] ((own_item 1 (Only (codes "B"))) ∷ (own_item 1 (Only (codes "FROM"))) ∷ (own_item 1 (Only (codes "ID"))) ∷ (own_item 1 (Only (codes "TO"))) ∷ []) ((codes "ID") ∷ (codes "TO") ∷ []) []) ∷ [])) ∷
    (point_of 4 0 ((case_of Any ((lock_term (root.Global (codes "PAT")) ((known.Local (codes "ID")) ∷ [])) ∷ []) ((own_item 1 (Only (codes "B"))) ∷ (own_item 1 (Only (codes "FROM"))) ∷ (own_item 1 (Only (codes "ID"))) ∷ (own_item 1 (Only (codes "TO"))) ∷ []) ((codes "ID") ∷ (codes "TO") ∷ []) []) ∷ [])) ∷
    (point_of 5 0 ((case_of Any ((lock_term (root.Global (codes "PAT")) ((known.Local (codes "ID")) ∷ [])) ∷ []) ((own_item 1 (Only (codes "B"))) ∷ (own_item 1 (Only (codes "FROM"))) ∷ (own_item 1 (Only (codes "ID"))) ∷ (own_item 1 (Only (codes "TO"))) ∷ []) ((codes "ID") ∷ (codes "TO") ∷ []) []) ∷ [])) ∷
    (point_of 6 0 ((case_of Any ((lock_term (root.Global (codes "PAT")) ((known.Local (codes "ID")) ∷ [])) ∷ (lock_term (root.Global (codes "WARD")) ((known.Local (codes "FROM")) ∷ [])) ∷ (lock_term (root.Global (codes "WARD")) ((known.Local (codes "TO")) ∷ [])) ∷ []) ((own_item 1 (Only (codes "B"))) ∷ (own_item 1 (Only (codes "FROM"))) ∷ (own_item 1 (Only (codes "ID"))) ∷ (own_item 1 (Only (codes "TO"))) ∷ []) ((codes "ID") ∷ (codes "TO") ∷ []) []) ∷ [])) ∷
    (point_of 7 0 ((case_of Any ((lock_term (root.Global (codes "PAT")) ((known.Local (codes "ID")) ∷ [])) ∷ (lock_term (root.Global (codes "WARD")) ((known.Local (codes "FROM")) ∷ [])) ∷ (lock_term (root.Global (codes "WARD")) ((known.Local (codes "TO")) ∷ [])) ∷ []) ((own_item 1 (Only (codes "B"))) ∷ (own_item 1 (Only (codes "FROM"))) ∷ (own_item 1 (Only (codes "ID"))) ∷ (own_item 1 (Only (codes "TO"))) ∷ []) ((codes "ID") ∷ (codes "TO") ∷ []) []) ∷ [])) ∷
    (point_of 8 0 ((case_of Zero ((lock_term (root.Global (codes "PAT")) ((known.Local (codes "ID")) ∷ [])) ∷ (lock_term (root.Global (codes "WARD")) ((known.Local (codes "FROM")) ∷ [])) ∷ (lock_term (root.Global (codes "WARD")) ((known.Local (codes "TO")) ∷ [])) ∷ []) ((own_item 1 (Only (codes "B"))) ∷ (own_item 1 (Only (codes "FROM"))) ∷ (own_item 1 (Only (codes "ID"))) ∷ (own_item 1 (Only (codes "TO"))) ∷ []) ((codes "ID") ∷ (codes "TO") ∷ []) []) ∷ [])) ∷
    (point_of 9 0 ((case_of Zero ((lock_term (root.Global (codes "PAT")) ((known.Local (codes "ID")) ∷ [])) ∷ (lock_term (root.Global (codes "WARD")) ((known.Local (codes "FROM")) ∷ [])) ∷ (lock_term (root.Global (codes "WARD")) ((known.Local (codes "TO")) ∷ [])) ∷ []) ((own_item 1 (Only (codes "B"))) ∷ (own_item 1 (Only (codes "FROM"))) ∷ (own_item 1 (Only (codes "ID"))) ∷ (own_item 1 (Only (codes "TO"))) ∷ []) ((codes "ID") ∷ (codes "TO") ∷ []) []) ∷ [])) ∷
    (point_of 10 0 ((case_of Zero ((lock_term (root.Global (codes "PAT")) ((known.Local (codes "ID")) ∷ [])) ∷ (lock_term (root.Global (codes "WARD")) ((known.Local (codes "FROM")) ∷ [])) ∷ (lock_term (root.Global (codes "WARD")) ((known.Local (codes "TO")) ∷ [])) ∷ []) ((own_item 1 (Only (codes "B"))) ∷ (own_item 1 (Only (codes "FROM"))) ∷ (own_item 1 (Only (codes "ID"))) ∷ (own_item 1 (Only (codes "TO"))) ∷ []) ((codes "ID") ∷ (codes "TO") ∷ []) []) ∷ [])) ∷ []))
    ∷ []

-- The report has no row.
pub hospital-yes : report hospital_routines hospital_rules hospital_blocks ≡ []
unfolding report entry_faults fault_cmp answer same_term same_case includes leaves_by same_state too_many few certified declared fold_between fold_before byte_text digits entry_of label_at name_at digits_at is_among have spares whole
hospital-yes = refl

-- No family is equal to another, or above it: their names differ.
other : (m n : List ℕ) → bytes_eq m n ≡ false → m ≡ n → ⊥
other m n h e = false≢true (sym h ∙ (bytes_eq-Decides m n).1 e)

no_conflict : (m n : List ℕ) → bytes_eq m n ≡ false → Conflict (lock_name (root.Global m) []) (lock_name (root.Global n) []) → ⊥
no_conflict m n h (inl above) = let e : root.Global m ≡ root.Global n = above.root in other m n h (cc e)
no_conflict m n h (inr above) = let e : root.Global n ≡ root.Global m = above.root in other m n h (cc e)

apart : FamiliesApart hospital_rules.families
apart zero zero d l m = absurd (omega (arith, l))
apart zero (suc zero) d l m = no_conflict (codes "PAT") (codes "WARD") refl
apart zero (suc (suc zero)) d l m = no_conflict (codes "PAT") (codes "SEQ") refl
apart (suc zero) (suc (suc zero)) d l m = no_conflict (codes "WARD") (codes "SEQ") refl
apart (suc zero) zero d l m = absurd (omega (arith, l))
apart (suc zero) (suc zero) d l m = absurd (omega (arith, l))
apart (suc (suc i)) zero d l m = absurd (omega (arith, l))
apart (suc (suc i)) (suc zero) d l m = absurd (omega (arith, l))
apart (suc (suc i)) (suc (suc zero)) d l m = absurd (omega (arith, l))
apart i (suc (suc (suc j))) d l m = absurd (omega (arith, m))

sound : IsSound hospital_rules
sound = record { formed = refl; apart = apart }

certificate : IsCertificate hospital_blocks
unfolding name_at byte_text
certificate = certificate_by hospital_blocks refl

formed : AreFormed hospital_routines
formed = formed_by hospital_routines refl

pub hospital_keeps_rules : KeepsRules hospital_routines hospital_rules hospital_blocks
hospital_keeps_rules = keeps_rules hospital_routines hospital_rules hospital_blocks sound certificate formed hospital-yes

-- One run. Patient 17 is admitted to ward C1 by the first job, which finds bed 1 free. Meanwhile the second job moves
-- patient 18 from ward B2 to C1.
abbrev hospital : Machine Job Choice EntryId
hospital = machine hospital_routines (is_declared hospital_routines hospital_rules.entries)

abbrev admit : EntryId
admit = record { routine = 0; line = 0 }

abbrev move : EntryId
move = record { routine = 4; line = 0 }

-- the silent steps of a job, at most `n`; and its acts with these choices in between
abbrev quiet_from : (Job → List (Act Choice EntryId)) → Stepped → List (Act Choice EntryId)
quiet_from more (Ok i) = Go choice.None ∷ more i
quiet_from more (Err why) = []

abbrev quiet : ℕ → Job → List (Act Choice EntryId)
quiet zero j = []
quiet (suc n) j = quiet_from (λ i. quiet n i) (silent_step hospital_routines j (state hospital_routines j))

abbrev played : List Choice → Job → List (Act Choice EntryId)
played [] j = quiet 100 j
played (c ∷ cs) j =
    let acts = quiet 100 j ++ Go c ∷ [] in
    acts ++ played cs (job_of (lone_run hospital acts j))

abbrev first_begun : Job
first_begun = job_of (begun hospital_routines admit 1 false (Some (codes "17") ∷ Some (codes "C1") ∷ []))

abbrev second_begun : Job
second_begun = job_of (begun hospital_routines move 2 false (Some (codes "18") ∷ Some (codes "C1") ∷ []))

-- Both claims are granted; the next bed is 1, which is not the end; nobody is in it; so a bed was found.
abbrev admission : List (Act Choice EntryId)
admission =
    played (choice.None ∷ choice.None ∷ choice.Value (codes "1") ∷ choice.Value (codes "0") ∷ choice.Value (codes "0") ∷ choice.Value (codes "1") ∷ []) first_begun

-- The claim of the patient is granted, and the patient is in ward B2.
abbrev removal : List (Act Choice EntryId)
removal = played (choice.None ∷ choice.Value (codes "B2") ∷ []) second_begun

abbrev first : Job
first = job_of (lone_run hospital admission first_begun)

abbrev second : Job
second = job_of (lone_run hospital removal second_begun)

abbrev events : List (Event Choice EntryId)
events =
    record { job = 1; act = Begin admit false (Some (codes "17") ∷ Some (codes "C1") ∷ []) } ∷ record { job = 2; act = Begin move false (Some (codes "18") ∷ Some (codes "C1") ∷ []) }
    ∷ events_of 1 admission ++ events_of 2 removal

pub both_jobs : after hospital events [] ≡ Ok (first ∷ second ∷ [])
unfolding entry_of label_at name_at digits_at digits fold_between fold_before whole same_name is_above in_conflict
both_jobs = refl

-- The first job stands ready at SET ^WARD("C1","bed",1), and the second one at its claim of both wards, for which it waits.
abbrev bed : Touch
bed = touch_at (codes "WARD") (codes "C1" ∷ codes "bed" ∷ codes "1" ∷ []) extent.Node Writes

first_is_ready : ready first ≡ Some bed
unfolding digits fold_between fold_before whole same_name is_above
first_is_ready = refl

abbrev ward : List ℕ → LockName
ward name = record { root = root.Global (codes "WARD"); subs = name ∷ [] }

pub second_claims : next_claim second.tasks ≡ Some (record { names = ward (codes "B2") ∷ ward (codes "C1") ∷ []; timed = false })
unfolding digits fold_between fold_before whole same_name is_above
second_claims = refl

pub second_waits_for_first : waits (seen second) (seen first) ≡ true
unfolding digits fold_between fold_before whole same_name is_above in_conflict
second_waits_for_first = refl

-- What the theorem implies at this moment: the jobs do not clash and do not wait in a ring, and the first one holds what covers
-- the bed that it is about to write.
pub both_are_safe : AreSafe hospital_rules (first ∷ second ∷ [])
both_are_safe = hospital_keeps_rules.all_jobs events (first ∷ second ∷ []) both_jobs

pub bed_is_covered : IsCoveredAt hospital_rules first bed
unfolding entry_of label_at name_at digits_at digits fold_between fold_before whole same_name is_above
bed_is_covered = (hospital_keeps_rules.each_job admit false (Some (codes "17") ∷ Some (codes "C1") ∷ []) 1 first_begun first admission refl refl).facts.covered bed first_is_ready
