use Rattle.std.proofs.Common.{◌≤◌, ◌+◌, length, arith, option_map, refl, sym, subst}
use Rattle.std.proofs.lemmas.Result.{err_from_is_err_and}
use Rattle.mlk_expr.specs.declared.context.Allows.TheVariants.{Everything}
use Rattle.mlk_syntax.specs.ExprTrees.{tree_of}
use Rattle.mlk_routine_arguments.specs.PartsRead.{Found, Denied}
use Rattle.mlk_routine_arguments.specs.Ends.{AfterEnds, VariableEnds}
use Rattle.mlk_syntax.specs.Views.{variable_of}
use Rattle.mlk_routine_arguments.specs.CommandGrammar.{IsAfter, IsLocal, after_local, after_most}
use Rattle.mlk_routine_arguments.proofs.Sequences.{both_found, denied_first, denied_second, turned_found, turned_denied}
use Rattle.mlk_routine_arguments.proofs.Bytes.{byte_before, after_found, after_denied}
use Rattle.mlk_routine_arguments.proofs.ReadArguments.{timed_parts, local_colon, most_colon, IsTimedLocal, TimedLocalEnds, read_prompt, read_format, read_character, line_parts}
use Rattle.mlk_routine_arguments.proofs.devices.read_argument.Goals as goal

pub returns-in_err-prompt : goal.returns-in_err-prompt
returns-in_err-prompt c =
    let p = err_from_is_err_and c.from_residual.result c.from_residual.ensures.1 in
    rw (p.1, p.2) (turned_denied (read_prompt c.args.dialect c.args.line.now c.args.at (c.if-has_byte.ensures.yes refl)) c.in_err-prompt.field-0.0 c.in_err-prompt.ensures)

pub returns-then-has_byte : goal.returns-then-has_byte
returns-then-has_byte c = turned_found (read_prompt c.args.dialect c.args.line.now c.args.at (c.if-has_byte.ensures.yes refl)) c.in_ok-prompt.prompt c.in_ok-prompt.next c.in_ok-prompt.ensures

pub returns-in_err-tab : goal.returns-in_err-tab
returns-in_err-tab c =
    let p = err_from_is_err_and c.from_residual-in_err-tab.result c.from_residual-in_err-tab.ensures.1 in
    rw (p.1, p.2) (turned_denied (read_format c.args.dialect c.args.line.now c.args.at (sym c.if-starts_format.ensures)) c.in_err-tab.field-0.0 c.in_err-tab.ensures)

pub returns-then-starts_format : goal.returns-then-starts_format
returns-then-starts_format c = turned_found (read_format c.args.dialect c.args.line.now c.args.at (sym c.if-starts_format.ensures)) (option_map tree_of c.in_ok-tab.tab) c.in_ok-tab.next c.in_ok-tab.ensures

pub returns-in_err-variable : goal.returns-in_err-variable
returns-in_err-variable c =
    let p = err_from_is_err_and c.from_residual-in_err-variable.result c.from_residual-in_err-variable.ensures.1 in
    let here = c.if-has_byte-2.ensures.yes refl in
    let size = byte_before c.args.line.now c.args.at 42 here in
    let within : c.args.at + 1 ≤ length c.args.line.now = omega (arith, size) in
    let none = denied_first (timed_parts (after_local c.args.dialect) IsLocal VariableEnds local_colon c.args.line.now (c.args.at + 1)) within c.in_err-variable.field-0.0 c.in_err-variable.ensures in
    rw (p.1, p.2) (turned_denied (read_character c.args.dialect c.args.line.now c.args.at here) c.in_err-variable.field-0.0 (after_denied (IsTimedLocal c.args.dialect) TimedLocalEnds c.args.line.now c.args.at 42 c.in_err-variable.field-0.0 none))

pub returns-in_err-timeout : goal.returns-in_err-timeout
returns-in_err-timeout c =
    let p = err_from_is_err_and c.from_residual-in_err-timeout.result c.from_residual-in_err-timeout.ensures.1 in
    let here = c.if-has_byte-2.ensures.yes refl in
    let size = byte_before c.args.line.now c.args.at 42 here in
    let within : c.args.at + 1 ≤ length c.args.line.now = omega (arith, size) in
    let denied = subst (λ a. Denied (IsAfter 58 a) (AfterEnds 58) c.args.line.now c.in_ok-variable.next c.in_err-timeout.field-0.0) c.after_local-allows.ensures c.in_err-timeout.ensures in
    let none = denied_second (timed_parts (after_local c.args.dialect) IsLocal VariableEnds local_colon c.args.line.now (c.args.at + 1)) within (variable_of c.in_ok-variable.variable) c.in_ok-variable.next c.in_ok-variable.ensures c.in_err-timeout.field-0.0 denied in
    rw (p.1, p.2) (turned_denied (read_character c.args.dialect c.args.line.now c.args.at here) c.in_err-timeout.field-0.0 (after_denied (IsTimedLocal c.args.dialect) TimedLocalEnds c.args.line.now c.args.at 42 c.in_err-timeout.field-0.0 none))

pub returns-then-has_byte-2 : goal.returns-then-has_byte-2
returns-then-has_byte-2 c =
    let here = c.if-has_byte-2.ensures.yes refl in
    let size = byte_before c.args.line.now c.args.at 42 here in
    let within : c.args.at + 1 ≤ length c.args.line.now = omega (arith, size) in
    let v = variable_of c.in_ok-variable.variable in
    let timeout = option_map tree_of c.in_ok-timeout.timeout in
    let timed = subst (λ a. Found (IsAfter 58 a) (AfterEnds 58) c.args.line.now c.in_ok-variable.next timeout c.in_ok-timeout.next) c.after_local-allows.ensures c.in_ok-timeout.ensures in
    turned_found (read_character c.args.dialect c.args.line.now c.args.at here) (v, timeout) c.in_ok-timeout.next (after_found (IsTimedLocal c.args.dialect) TimedLocalEnds c.args.line.now c.args.at 42 here (v, timeout) c.in_ok-timeout.next
    (both_found (timed_parts (after_local c.args.dialect) IsLocal VariableEnds local_colon c.args.line.now (c.args.at + 1)) within v timeout c.in_ok-variable.next c.in_ok-timeout.next c.in_ok-variable.ensures timed))

pub returns-in_err-variable-2 : goal.returns-in_err-variable-2
returns-in_err-variable-2 c =
    let p = err_from_is_err_and c.from_residual-in_err-variable-2.result c.from_residual-in_err-variable-2.ensures.1 in
    let parts = line_parts c.args.dialect c.args.line.now c.args.at (c.if-has_byte.ensures.no refl) (sym c.if-starts_format.ensures) (c.if-has_byte-2.ensures.no refl) in
    rw (p.1, p.2) (denied_first parts c.requires c.in_err-variable-2.field-0.0 c.in_err-variable-2.ensures)

pub returns-in_err-most : goal.returns-in_err-most
returns-in_err-most c =
    let p = err_from_is_err_and c.from_residual-in_err-most.result c.from_residual-in_err-most.ensures.1 in
    let parts = line_parts c.args.dialect c.args.line.now c.args.at (c.if-has_byte.ensures.no refl) (sym c.if-starts_format.ensures) (c.if-has_byte-2.ensures.no refl) in
    let found = c.in_ok-variable-2 in
    rw (p.1, p.2) (denied_second parts c.requires (variable_of found.variable) found.next found.ensures c.in_err-most.field-0.0
    (denied_first (timed_parts (after_most c.args.dialect (variable_of found.variable)) (IsAfter 35 Everything) (AfterEnds 35) most_colon c.args.line.now found.next) found.ensures.0.within c.in_err-most.field-0.0 c.in_err-most.ensures))

pub returns-in_err-timeout-2 : goal.returns-in_err-timeout-2
returns-in_err-timeout-2 c =
    let p = err_from_is_err_and c.from_residual-in_err-timeout-2.result c.from_residual-in_err-timeout-2.ensures.1 in
    let parts = line_parts c.args.dialect c.args.line.now c.args.at (c.if-has_byte.ensures.no refl) (sym c.if-starts_format.ensures) (c.if-has_byte-2.ensures.no refl) in
    let found = c.in_ok-variable-2 in
    let denied = subst (λ a. Denied (IsAfter 58 a) (AfterEnds 58) c.args.line.now c.in_ok-most.next c.in_err-timeout-2.field-0.0) c.after_most-allows.ensures c.in_err-timeout-2.ensures in
    rw (p.1, p.2) (denied_second parts c.requires (variable_of found.variable) found.next found.ensures c.in_err-timeout-2.field-0.0
    (denied_second (timed_parts (after_most c.args.dialect (variable_of found.variable)) (IsAfter 35 Everything) (AfterEnds 35) most_colon c.args.line.now found.next) found.ensures.0.within (option_map tree_of c.in_ok-most.most) c.in_ok-most.next c.in_ok-most.ensures c.in_err-timeout-2.field-0.0 denied))

pub returns : goal.returns
returns c =
    let parts = line_parts c.args.dialect c.args.line.now c.args.at (c.if-has_byte.ensures.no refl) (sym c.if-starts_format.ensures) (c.if-has_byte-2.ensures.no refl) in
    let found = c.in_ok-variable-2 in
    let most = option_map tree_of c.in_ok-most.most in
    let timeout = option_map tree_of c.in_ok-timeout-2.timeout in
    let timed = subst (λ a. Found (IsAfter 58 a) (AfterEnds 58) c.args.line.now c.in_ok-most.next timeout c.in_ok-timeout-2.next) c.after_most-allows.ensures c.in_ok-timeout-2.ensures in
    both_found parts c.requires (variable_of found.variable) (most, timeout) found.next c.in_ok-timeout-2.next found.ensures
    (both_found (timed_parts (after_most c.args.dialect (variable_of found.variable)) (IsAfter 35 Everything) (AfterEnds 35) most_colon c.args.line.now found.next) found.ensures.0.within most timeout c.in_ok-most.next c.in_ok-timeout-2.next c.in_ok-most.ensures timed)
