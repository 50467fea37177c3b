use Rattle.std.proofs.Common.{map, option_map, ap, ◌∙◌, subst}
use Rattle.std.proofs.lemmas.Result.{err_from_is_err_and}
use Rattle.mlk_syntax.specs.ExprTrees.{tree_of}
use Rattle.mlk_syntax.specs.Views.{variable_of}
use Rattle.mlk_routine_arguments.specs.PartsRead.{Found, Denied}
use Rattle.mlk_routine_arguments.specs.Ends.{TimeoutEnds}
use Rattle.mlk_routine_arguments.specs.CommandGrammar.{IsLockTimeout, after_names}
use Rattle.mlk_routine_arguments.proofs.Sequences.{both_found, denied_first, denied_second}
use Rattle.mlk_routine_arguments.proofs.Locks.{timed_parts, lock_parts}
use Rattle.mlk_routine_arguments.proofs.lock.lock.Goals as goal

pub returns-in_err-names : goal.returns-in_err-names
returns-in_err-names c =
    let p = err_from_is_err_and c.from_residual.result c.from_residual.ensures.1 in
    let s = c.sign-sign.result in
    rw (p.1, p.2) (denied_second (lock_parts c.args.dialect c.args.line.now c.args.at) c.requires (s.0) (s.1) c.sign-sign.ensures c.in_err-names.field-0.0
    (denied_first (timed_parts c.args.dialect (s.0) c.args.line.now (s.1)) c.sign-sign.ensures.0.within c.in_err-names.field-0.0 c.in_err-names.ensures))

pub returns-in_err-timeout : goal.returns-in_err-timeout
returns-in_err-timeout c =
    let p = err_from_is_err_and c.from_residual-in_err-timeout.result c.from_residual-in_err-timeout.ensures.1 in
    let s = c.sign-sign.result in
    let names = map variable_of c.in_ok-names.names.items in
    let plus = c.after_names-plus.ensures ∙ ap (λ ns. after_names c.args.dialect (map variable_of ns)) c.as_slice.ensures.value in
    let none = subst (λ a. Denied (IsLockTimeout a (s.0)) TimeoutEnds c.args.line.now c.in_ok-names.next c.in_err-timeout.field-0.0) plus c.in_err-timeout.ensures in
    rw (p.1, p.2) (denied_second (lock_parts c.args.dialect c.args.line.now c.args.at) c.requires (s.0) (s.1) c.sign-sign.ensures c.in_err-timeout.field-0.0
    (denied_second (timed_parts c.args.dialect (s.0) c.args.line.now (s.1)) c.sign-sign.ensures.0.within names c.in_ok-names.next c.in_ok-names.ensures c.in_err-timeout.field-0.0 none))

pub returns : goal.returns
returns c =
    let s = c.sign-sign.result in
    let names = map variable_of c.in_ok-names.names.items in
    let timeout = option_map tree_of c.in_ok-timeout.timeout in
    let plus = c.after_names-plus.ensures ∙ ap (λ ns. after_names c.args.dialect (map variable_of ns)) c.as_slice.ensures.value in
    let found = subst (λ a. Found (IsLockTimeout a (s.0)) TimeoutEnds c.args.line.now c.in_ok-names.next timeout c.in_ok-timeout.next) plus c.in_ok-timeout.ensures in
    both_found (lock_parts c.args.dialect c.args.line.now c.args.at) c.requires (s.0) (names, timeout) (s.1) c.in_ok-timeout.next c.sign-sign.ensures
    (both_found (timed_parts c.args.dialect (s.0) c.args.line.now (s.1)) c.sign-sign.ensures.0.within names timeout c.in_ok-names.next c.in_ok-timeout.next c.in_ok-names.ensures found)
