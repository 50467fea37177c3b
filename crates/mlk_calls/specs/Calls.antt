-- The effect of a call on a state: the callee's summary, translated by the actuals, describes everything that it does. Standard:
-- DO, extrinsic functions, parameter passing, `$TEST`; summaries are this project's own choice.
use Rattle.std.specs.Prelude.{◌≡◌, ℕ, Bool, true, false, not, ◌&&◌, nat_lt, if◌then◌else◌}
use Rattle.std.specs.Prelude.{List, [], ◌∷◌, ◌++◌, length, map, flat_map, Option, Some, None}
use Rattle.std.specs.Prelude.{◌≡◌, option_map, option_and_then, Result, Ok, Err}
use Rattle.std.specs.List.{list_all}
use Rattle.mlk_text.specs.declared.code.Code.{Code}
use Rattle.mlk_text.specs.declared.code.Code.TheVariants.{RankOrder, NeedMissing, SummaryShort, NoCertificate, UnknownSubscript, DropsFrame}
use Rattle.mlk_text.specs.Lexemes.{or_else}
use Rattle.mlk_syntax.specs.declared.expr.Callee.{Callee}
use Rattle.mlk_syntax.specs.ExprTrees.{ActualTree, Given, ByRef, Missing}
use Rattle.mlk_syntax.specs.Trees.{HeadTree, LineTrees}
use Rattle.mlk_program.specs.declared.entry.EntryId.{EntryId}
use Rattle.mlk_program.specs.Entries.{formals_of, target_of, line_of_entry}
use Rattle.mlk_names.specs.declared.symbol.Sym.{Sym}
use Rattle.mlk_names.specs.declared.term.LockTerm.{LockTerm}
use Rattle.mlk_rules.specs.declared.family.Family.{Family}
use Rattle.mlk_cert_parts.specs.declared.case.Test.{Test}
use Rattle.mlk_cert_parts.specs.declared.case.ExitCase.{ExitCase}
use Rattle.mlk_cert_parts.specs.declared.names.NameSet.{NameSet}
use Rattle.mlk_cert_parts.specs.declared.names.NameSet.TheVariants.{Only}
use Rattle.mlk_cert_parts.specs.declared.block.Summary.{Summary}
use Rattle.mlk_walk_state.specs.Lists.{all_some}
use Rattle.mlk_walk_state.specs.Terms.{add_terms, all_taken, first_missing, rank_of, put_terms}
use Rattle.mlk_walk_state.specs.Cases.{holds_some}
use Rattle.mlk_walk_state.specs.declared.state.State.{State}
use Rattle.mlk_calls.specs.declared.call.KnownCallee.{KnownCallee}
use Rattle.mlk_calls.specs.declared.call.Calling.{Calling}
use Rattle.mlk_calls.specs.declared.call.Calling.TheVariants.{ByDo, Extrinsic}
use Rattle.mlk_walk_state.specs.States.{last_captured, without_last}
use Rattle.mlk_calls.specs.Claims.{is_low_enough}
use Rattle.mlk_walk_state.specs.Scope.{Scope, summary_for, begins_jobs}
use Rattle.mlk_calls.specs.Changes.{marked, changed_state, change_fault, unless}

-- DO with a label takes over the callee's `$TEST`, an extrinsic function keeps it
abbrev pub test_after : Calling → Test → Test → Test
test_after ByDo before after = after
test_after Extrinsic before after = before

-- what is known of a callee
pub record Called : Type 0 where
  pub formals : List (List ℕ)
  pub summary : Summary

abbrev pub called_of : KnownCallee → Called
called_of t = record { formals = t.formals.now; summary = t.summary.now }

abbrev pub formals_in : Option (HeadTree × LineTrees) → List (List ℕ)
formals_in None = []
formals_in (Some l) = given (formals_of l.0)
  where
    given : Option (List (List ℕ)) → List (List ℕ)
    given None = []
    given (Some formals) = formals

abbrev pub called_entry : Scope → EntryId → Option Called
called_entry sc e = option_map
    (λ summary. record { formals = formals_in (line_of_entry sc.routines e); summary = summary }) (summary_for sc e)

-- none if the entry has no certificate
abbrev pub called : Scope → Callee → Option Called
called sc callee = option_and_then (called_entry sc) (target_of sc.routines sc.own callee)

-- the names that the callee may change: those of its summary, and those that it receives by reference
abbrev pub lent_set : ActualTree → List NameSet
lent_set (ByRef column name) = Only name ∷ []
lent_set (Given t) = []
lent_set Missing = []

abbrev pub changed_by_call : Summary → List ActualTree → List NameSet
changed_by_call summary given = summary.mods ++ flat_map lent_set given

-- a term that is set aside must have a rank below everything that the callee claims; without a rank it is below `-` only
abbrev pub ranks_below : Option ℕ → Option ℕ → Bool
ranks_below None rank = true
ranks_below (Some low) None = false
ranks_below (Some low) (Some rank) = nat_lt rank low

abbrev pub all_below : List Family → Option ℕ → List LockTerm → Bool
all_below families low terms = list_all (λ t. ranks_below low (rank_of families t)) terms

-- the state after an exit: the terms set aside and the exit's terms are held
abbrev pub leave : Calling → List (List ℕ) → List (Option Sym) → List LockTerm → State → ExitCase → Option State
leave how formals given aside s x = option_map
    (λ terms. record s { case = record s.case { test = test_after how s.case.test x.test; held = add_terms terms aside } })
    (put_terms formals given x.held)

-- With these actuals or those, the exits result in the same states. For private clauses only.
abbrev pub SameEnds : List (Option Sym) → List (Option Sym) → List ExitCase → Type 0
SameEnds given others exits = (how : Calling) (formals : List (List ℕ)) (aside : List LockTerm) (s : State)
    → all_some (leave how formals given aside s) exits ≡ all_some (leave how formals others aside s) exits

abbrev pub or_unknown : {A : Type 0} → Option A → Result A Code
or_unknown None = Err UnknownSubscript
or_unknown (Some a) = Ok a

-- The call's end, with the actuals as they are then: 715 if an exit's term would have an unknown subscript. One refused exit
-- refuses all.
abbrev pub after_call : Calling → Called → List Sym → List NameSet → List LockTerm → State → Result (List State) Code
after_call how callee actuals changed aside s = or_unknown (all_some
    (leave how callee.formals (map Some (map (marked changed) actuals)) aside (changed_state changed s))
    callee.summary.exits)

-- The fault of a call, once the callee's needs are separated from the other held terms, the first of these: 705 if a held term,
-- set aside or needed, mentions a name that may change; 712 if such a name is neither own nor listed; 708 and 712 for ranks; 719
-- and 712 for the release of all locks.
abbrev pub ranks_fault : Scope → Summary → List LockTerm → Option Code
ranks_fault sc summary aside =
    if not (all_below sc.rules.families summary.low aside) then Some RankOrder
    else if not (is_low_enough sc.summary.low summary.low) then Some SummaryShort
    else if summary.drops && holds_some aside then Some DropsFrame
    else if summary.drops && not sc.summary.drops then Some SummaryShort
    else None

abbrev pub call_fault : Scope → Summary → List NameSet → List LockTerm → State → Option Code
call_fault sc summary changed aside s = or_else (change_fault sc changed s) (ranks_fault sc summary aside)

abbrev pub or_missing : {A : Type 0} → Option A → Result A Code
or_missing None = Err NeedMissing
or_missing (Some a) = Ok a

-- The needs are translated by the actuals as they are at the call: 715; then each is taken from the held terms: 711.
abbrev pub needs_taken : List LockTerm → Option (List LockTerm) → Result (List LockTerm) Code
needs_taken held None = Err UnknownSubscript
needs_taken held (Some needs) = or_missing (all_taken needs held)

abbrev pub set_aside : Called → List Sym → List LockTerm → Result (List LockTerm) Code
set_aside callee actuals held = needs_taken held (put_terms callee.formals (map Some actuals) callee.summary.need)

abbrev pub with_aside :
    Scope → Calling → Called → List NameSet → List Sym → State → Result (List LockTerm) Code → Result (List State) Code
with_aside sc how callee changed actuals s (Err code) = Err code
with_aside sc how callee changed actuals s (Ok aside) =
    unless (call_fault sc callee.summary changed aside s) (after_call how callee actuals changed aside s)

-- the call of a certified entry that may change the given names
abbrev pub call_changing : Scope → Calling → Called → List NameSet → List Sym → State → Result (List State) Code
call_changing sc how callee changed actuals s =
    with_aside sc how callee changed actuals s (set_aside callee actuals s.case.held)

abbrev pub call_known : Scope → Calling → Option Called → List ActualTree → List Sym → State → Result (List State) Code
call_known sc how None given actuals s = Err NoCertificate
call_known sc how (Some callee) given actuals s =
    call_changing sc how callee (changed_by_call callee.summary given) actuals s

-- A call with the given actual list, whose symbols were captured last. First 713 without a certificate. An actual that is
-- missing, passed by reference, or past the list's end is unknown.
abbrev pub at_call : Scope → Calling → Callee → List ActualTree → State → Result (List State) Code
at_call sc how callee given s =
    call_known sc how (called sc callee) given (last_captured (length given) s) (without_last (length given) s)

-- The corrections for a refused call: the callee's summary, none without a certificate; the names that it may change; and the
-- first of its needs, translated for the caller, that is not held.
abbrev pub callee_summary : Scope → Callee → Option Summary
callee_summary sc callee = option_map (λ (c : Called). c.summary) (called sc callee)

abbrev pub changes_by : Option Summary → List ActualTree → List NameSet
changes_by None given = []
changes_by (Some summary) given = changed_by_call summary given

abbrev pub missing_by : Option Called → List Sym → List LockTerm → Option LockTerm
missing_by None actuals held = None
missing_by (Some callee) actuals held = option_and_then (λ needs. first_missing needs held)
    (put_terms callee.formals (map Some actuals) callee.summary.need)

abbrev pub missing_need : Scope → Callee → List ActualTree → State → Option LockTerm
missing_need sc callee given s = missing_by (called sc callee) (last_captured (length given) s) s.case.held

-- JOB with the given actual list, whose symbols were captured last: 713 unless the entry is declared.
abbrev pub is_begun : Scope → Option EntryId → Bool
is_begun sc None = false
is_begun sc (Some e) = begins_jobs sc e

abbrev pub at_job : Scope → Callee → List ActualTree → State → Result State Code
at_job sc callee given s =
    if is_begun sc (target_of sc.routines sc.own callee) then Ok (without_last (length given) s) else Err NoCertificate
