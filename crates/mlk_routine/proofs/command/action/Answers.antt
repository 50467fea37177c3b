use Rattle.std.proofs.Common.{map, option_map, refl}
use Rattle.std.proofs.lemmas.Result.{err_from_is_err_and}
use Rattle.mlk_syntax.specs.ExprTrees.{tree_of, trees}
use Rattle.mlk_routine_arguments.specs.declared.word.Word.TheVariants as word
use Rattle.mlk_syntax.specs.Views.{action_of, do_of, call_of, kill_of, lock_of, merge_of, read_of, write_of}
use Rattle.mlk_routine_arguments.proofs.Sequences.{turned_found, turned_denied, turned_told}
use Rattle.mlk_routine.proofs.Doing.{opened, added_turned, halting_turned}
use Rattle.mlk_routine.proofs.command.action.Goals as goal

pub returns-in_err-arguments-in-Do : goal.returns-in_err-arguments-in-Do
returns-in_err-arguments-in-Do c =
    let p = err_from_is_err_and c.from_residual.result c.from_residual.ensures.1 in
    rw (p.1, p.2, c.in-Do.is) (turned_denied (opened word.Do refl c.args.manner.dialect c.args.manner.returns c.args.line.now c.args.at) c.in_err-arguments-in-Do.field-0.0 c.in_err-arguments-in-Do.ensures)

pub returns-in_ok-arguments-in-Do : goal.returns-in_ok-arguments-in-Do
returns-in_ok-arguments-in-Do c =
    rw (c.in-Do.is) (turned_found (opened word.Do refl c.args.manner.dialect c.args.manner.returns c.args.line.now c.args.at) (map do_of c.in_ok-arguments-in-Do.arguments.items) c.in_ok-arguments-in-Do.next c.in_ok-arguments-in-Do.ensures)

pub returns-in_err-arguments-in-Hang : goal.returns-in_err-arguments-in-Hang
returns-in_err-arguments-in-Hang c =
    let p = err_from_is_err_and c.from_residual-in_err-arguments-in-Hang.result c.from_residual-in_err-arguments-in-Hang.ensures.1 in
    rw (p.1, p.2, c.in-Hang.is) (turned_denied (opened word.Hang refl c.args.manner.dialect c.args.manner.returns c.args.line.now c.args.at) c.in_err-arguments-in-Hang.field-0.0 c.in_err-arguments-in-Hang.ensures)

pub returns-in_ok-arguments-in-Hang : goal.returns-in_ok-arguments-in-Hang
returns-in_ok-arguments-in-Hang c =
    rw (c.in-Hang.is) (turned_found (opened word.Hang refl c.args.manner.dialect c.args.manner.returns c.args.line.now c.args.at) (trees c.in_ok-arguments-in-Hang.arguments.items) c.in_ok-arguments-in-Hang.next c.in_ok-arguments-in-Hang.ensures)

pub returns-in_err-arguments-in-If : goal.returns-in_err-arguments-in-If
returns-in_err-arguments-in-If c =
    let p = err_from_is_err_and c.from_residual-in_err-arguments-in-If.result c.from_residual-in_err-arguments-in-If.ensures.1 in
    rw (p.1, p.2, c.in-If.is) (turned_denied (opened word.If refl c.args.manner.dialect c.args.manner.returns c.args.line.now c.args.at) c.in_err-arguments-in-If.field-0.0 c.in_err-arguments-in-If.ensures)

pub returns-in_ok-arguments-in-If : goal.returns-in_ok-arguments-in-If
returns-in_ok-arguments-in-If c =
    rw (c.in-If.is) (turned_found (opened word.If refl c.args.manner.dialect c.args.manner.returns c.args.line.now c.args.at) (trees c.in_ok-arguments-in-If.arguments.items) c.in_ok-arguments-in-If.next c.in_ok-arguments-in-If.ensures)

pub returns-in_err-arguments-in-Job : goal.returns-in_err-arguments-in-Job
returns-in_err-arguments-in-Job c =
    let p = err_from_is_err_and c.from_residual-in_err-arguments-in-Job.result c.from_residual-in_err-arguments-in-Job.ensures.1 in
    rw (p.1, p.2, c.in-Job.is) (turned_denied (opened word.Job refl c.args.manner.dialect c.args.manner.returns c.args.line.now c.args.at) c.in_err-arguments-in-Job.field-0.0 c.in_err-arguments-in-Job.ensures)

pub returns-in_ok-arguments-in-Job : goal.returns-in_ok-arguments-in-Job
returns-in_ok-arguments-in-Job c =
    rw (c.in-Job.is) (turned_found (opened word.Job refl c.args.manner.dialect c.args.manner.returns c.args.line.now c.args.at) (map call_of c.in_ok-arguments-in-Job.arguments.items) c.in_ok-arguments-in-Job.next c.in_ok-arguments-in-Job.ensures)

pub returns-in_err-arguments-in-Kill : goal.returns-in_err-arguments-in-Kill
returns-in_err-arguments-in-Kill c =
    let p = err_from_is_err_and c.from_residual-in_err-arguments-in-Kill.result c.from_residual-in_err-arguments-in-Kill.ensures.1 in
    rw (p.1, p.2, c.in-Kill.is) (turned_denied (opened word.Kill refl c.args.manner.dialect c.args.manner.returns c.args.line.now c.args.at) c.in_err-arguments-in-Kill.field-0.0 c.in_err-arguments-in-Kill.ensures)

pub returns-in_ok-arguments-in-Kill : goal.returns-in_ok-arguments-in-Kill
returns-in_ok-arguments-in-Kill c =
    rw (c.in-Kill.is) (turned_found (opened word.Kill refl c.args.manner.dialect c.args.manner.returns c.args.line.now c.args.at) (map kill_of c.in_ok-arguments-in-Kill.arguments.items) c.in_ok-arguments-in-Kill.next c.in_ok-arguments-in-Kill.ensures)

pub returns-in_err-arguments-in-Lock : goal.returns-in_err-arguments-in-Lock
returns-in_err-arguments-in-Lock c =
    let p = err_from_is_err_and c.from_residual-in_err-arguments-in-Lock.result c.from_residual-in_err-arguments-in-Lock.ensures.1 in
    rw (p.1, p.2, c.in-Lock.is) (turned_denied (opened word.Lock refl c.args.manner.dialect c.args.manner.returns c.args.line.now c.args.at) c.in_err-arguments-in-Lock.field-0.0 c.in_err-arguments-in-Lock.ensures)

pub returns-in_ok-arguments-in-Lock : goal.returns-in_ok-arguments-in-Lock
returns-in_ok-arguments-in-Lock c =
    rw (c.in-Lock.is) (turned_found (opened word.Lock refl c.args.manner.dialect c.args.manner.returns c.args.line.now c.args.at) (map lock_of c.in_ok-arguments-in-Lock.arguments.items) c.in_ok-arguments-in-Lock.next c.in_ok-arguments-in-Lock.ensures)

pub returns-in_err-arguments-in-Merge : goal.returns-in_err-arguments-in-Merge
returns-in_err-arguments-in-Merge c =
    let p = err_from_is_err_and c.from_residual-in_err-arguments-in-Merge.result c.from_residual-in_err-arguments-in-Merge.ensures.1 in
    rw (p.1, p.2, c.in-Merge.is) (turned_denied (opened word.Merge refl c.args.manner.dialect c.args.manner.returns c.args.line.now c.args.at) c.in_err-arguments-in-Merge.field-0.0 c.in_err-arguments-in-Merge.ensures)

pub returns-in_ok-arguments-in-Merge : goal.returns-in_ok-arguments-in-Merge
returns-in_ok-arguments-in-Merge c =
    rw (c.in-Merge.is) (turned_found (opened word.Merge refl c.args.manner.dialect c.args.manner.returns c.args.line.now c.args.at) (map merge_of c.in_ok-arguments-in-Merge.arguments.items) c.in_ok-arguments-in-Merge.next c.in_ok-arguments-in-Merge.ensures)

pub returns-in_err-arguments-in-Quit : goal.returns-in_err-arguments-in-Quit
returns-in_err-arguments-in-Quit c =
    let p = err_from_is_err_and c.from_residual-in_err-arguments-in-Quit.result c.from_residual-in_err-arguments-in-Quit.ensures.1 in
    rw (p.1, p.2, c.in-Quit.is) (turned_denied (opened word.Quit refl c.args.manner.dialect c.args.manner.returns c.args.line.now c.args.at) c.in_err-arguments-in-Quit.field-0.0 c.in_err-arguments-in-Quit.ensures)

pub returns-in_ok-arguments-in-Quit : goal.returns-in_ok-arguments-in-Quit
returns-in_ok-arguments-in-Quit c =
    rw (c.in-Quit.is) (turned_found (opened word.Quit refl c.args.manner.dialect c.args.manner.returns c.args.line.now c.args.at) (option_map (λ b. tree_of b.value) c.in_ok-arguments-in-Quit.arguments) c.in_ok-arguments-in-Quit.next c.in_ok-arguments-in-Quit.ensures)

pub returns-in_err-arguments-in-Read : goal.returns-in_err-arguments-in-Read
returns-in_err-arguments-in-Read c =
    let p = err_from_is_err_and c.from_residual-in_err-arguments-in-Read.result c.from_residual-in_err-arguments-in-Read.ensures.1 in
    rw (p.1, p.2, c.in-Read.is) (turned_denied (opened word.Read refl c.args.manner.dialect c.args.manner.returns c.args.line.now c.args.at) c.in_err-arguments-in-Read.field-0.0 c.in_err-arguments-in-Read.ensures)

pub returns-in_ok-arguments-in-Read : goal.returns-in_ok-arguments-in-Read
returns-in_ok-arguments-in-Read c =
    rw (c.in-Read.is) (turned_found (opened word.Read refl c.args.manner.dialect c.args.manner.returns c.args.line.now c.args.at) (map read_of c.in_ok-arguments-in-Read.arguments.items) c.in_ok-arguments-in-Read.next c.in_ok-arguments-in-Read.ensures)

pub returns-in_err-arguments-in-Write : goal.returns-in_err-arguments-in-Write
returns-in_err-arguments-in-Write c =
    let p = err_from_is_err_and c.from_residual-in_err-arguments-in-Write.result c.from_residual-in_err-arguments-in-Write.ensures.1 in
    rw (p.1, p.2, c.in-Write.is) (turned_denied (opened word.Write refl c.args.manner.dialect c.args.manner.returns c.args.line.now c.args.at) c.in_err-arguments-in-Write.field-0.0 c.in_err-arguments-in-Write.ensures)

pub returns-in_ok-arguments-in-Write : goal.returns-in_ok-arguments-in-Write
returns-in_ok-arguments-in-Write c =
    rw (c.in-Write.is) (turned_found (opened word.Write refl c.args.manner.dialect c.args.manner.returns c.args.line.now c.args.at) (map write_of c.in_ok-arguments-in-Write.arguments.items) c.in_ok-arguments-in-Write.next c.in_ok-arguments-in-Write.ensures)

pub returns-in_err-arguments-in-HaltOrHang : goal.returns-in_err-arguments-in-HaltOrHang
returns-in_err-arguments-in-HaltOrHang c =
    let p = err_from_is_err_and c.from_residual-in_err-arguments-in-HaltOrHang.result c.from_residual-in_err-arguments-in-HaltOrHang.ensures.1 in
    rw (p.1, p.2, c.in-HaltOrHang.is) (turned_denied (halting_turned c.args.manner.dialect c.args.manner.returns c.args.line.now c.args.at) c.in_err-arguments-in-HaltOrHang.field-0.0 c.in_err-arguments-in-HaltOrHang.ensures)

pub returns-in_ok-arguments-in-HaltOrHang : goal.returns-in_ok-arguments-in-HaltOrHang
returns-in_ok-arguments-in-HaltOrHang c =
    rw (c.in-HaltOrHang.is, c.halt_or_hang.ensures) (turned_found (halting_turned c.args.manner.dialect c.args.manner.returns c.args.line.now c.args.at) (trees c.in_ok-arguments-in-HaltOrHang.arguments.items) c.in_ok-arguments-in-HaltOrHang.next c.in_ok-arguments-in-HaltOrHang.ensures)

pub returns-in-Added : goal.returns-in-Added
returns-in-Added c =
    rw (c.in-Added.is) (turned_told (added_turned c.in-Added.added c.args.manner.dialect c.args.manner.returns c.args.line.now c.args.at) c.added_action.result action_of c.added_action.ensures)

pub returns-in-New : goal.returns-in-New
returns-in-New c = rw (c.in-New.is) c.new_action.ensures

pub returns-in-Set : goal.returns-in-Set
returns-in-Set c = rw (c.in-Set.is) c.set_action.ensures
