use Rattle.std.proofs.Common.{◌+◌, refl, sym, ap, ◌∙◌, subst}
use Rattle.std.proofs.lemmas.Result.{err_from_is_err_and}
use Rattle.mlk_expr.specs.Theorem.{LabelEnds}
use Rattle.mlk_routine_arguments.specs.PartsRead.{Found}
use Rattle.mlk_routine_arguments.specs.Ends.{AnyEnds}
use Rattle.mlk_routine.specs.Lines.{IsUnseen, IsFormalList}
use Rattle.mlk_routine_arguments.proofs.Outcomes.{denies, hands_on}
use Rattle.mlk_routine.proofs.FormalLists.{NamesSoFar, AreSeen, no_names, names_begin, no_name_here, names_close, names_break, names_go_on, names_nearer, fresh_found, fresh_nowhere, more_seen}
use Rattle.mlk_syntax.proofs.Distinct.{among}
use Rattle.mlk_routine.proofs.formals.formals.Goals as goal

pub returns-then-has_byte : goal.returns-then-has_byte
returns-then-has_byte c =
    subst (λ l. Found IsFormalList AnyEnds c.args.line.now c.args.at l (c.args.at + 2)) (sym c.new-names.ensures)
    (no_names c.args.line.now c.args.at c.requires.open (c.if-has_byte.ensures.yes refl))

pub loop-seen-init : goal.loop-seen-init
loop-seen-init c = record {
  read = subst (λ l. NamesSoFar c.args.line.now c.args.at l (c.args.at + 1)) (sym c.new-names.ensures) (names_begin c.args.line.now c.args.at c.requires.open (c.if-has_byte.ensures.no refl));
  seen = λ q. c.new-seen.ensures q ∙ ap (λ l. among q l) (sym c.new-names.ensures);
}

pub returns-in_err-name : goal.returns-in_err-name
returns-in_err-name c =
    let p = err_from_is_err_and c.from_residual.result c.from_residual.ensures.1 in
    let line = c.args.line.now in
    let keys = c.loop-seen.seen.texts.keys in
    rw (p.1, p.2) (hands_on (IsUnseen keys) LabelEnds IsFormalList AnyEnds line c.args.at c.loop-seen.next
    (λ f. no_name_here line c.args.at c.loop-seen.names c.loop-seen.next c.loop-seen.invariant.read (fresh_nowhere keys c.loop-seen.names c.loop-seen.invariant.seen line c.loop-seen.next f)) c.in_err-name.field-0.0 c.in_err-name.ensures.read)

pub returns-then-has_byte-2 : goal.returns-then-has_byte-2
returns-then-has_byte-2 c =
    let line = c.args.line.now in
    let keys = c.loop-seen.seen.texts.keys in
    let found = fresh_found keys c.loop-seen.names c.loop-seen.invariant.seen line c.loop-seen.next c.in_ok-name.name c.in_ok-name.end c.in_ok-name.ensures.read in
    subst (λ l. Found IsFormalList AnyEnds line c.args.at l (c.in_ok-name.end + 1)) (sym c.in_ok-push.ensures.ok)
    (names_close line c.args.at c.loop-seen.names c.loop-seen.next c.loop-seen.invariant.read c.in_ok-name.name c.in_ok-name.end found (c.if-has_byte-2.ensures.yes refl))

pub returns-then-not-has_byte : goal.returns-then-not-has_byte
returns-then-not-has_byte c =
    let line = c.args.line.now in
    let keys = c.loop-seen.seen.texts.keys in
    let found = fresh_found keys c.loop-seen.names c.loop-seen.invariant.seen line c.loop-seen.next c.in_ok-name.name c.in_ok-name.end c.in_ok-name.ensures.read in
    denies IsFormalList AnyEnds line c.args.at c.refusal_at.result (c.refusal_at.ensures.fault line found.0.within refl refl)
    (names_break line c.args.at c.loop-seen.names c.loop-seen.next c.loop-seen.invariant.read c.in_ok-name.name c.in_ok-name.end found (c.if-has_byte-2.ensures.no refl) (c.if-not-has_byte.ensures.no refl))

pub loop-seen-smaller : goal.loop-seen-smaller
loop-seen-smaller c =
    let line = c.args.line.now in
    let keys = c.loop-seen.seen.texts.keys in
    let found = fresh_found keys c.loop-seen.names c.loop-seen.invariant.seen line c.loop-seen.next c.in_ok-name.name c.in_ok-name.end c.in_ok-name.ensures.read in
    names_nearer line c.args.at c.loop-seen.names c.loop-seen.next c.loop-seen.invariant.read c.in_ok-name.name c.in_ok-name.end found (c.if-not-has_byte.ensures.yes refl)

pub loop-seen-preserved : goal.loop-seen-preserved
loop-seen-preserved c =
    let line = c.args.line.now in
    let keys = c.loop-seen.seen.texts.keys in
    let found = fresh_found keys c.loop-seen.names c.loop-seen.invariant.seen line c.loop-seen.next c.in_ok-name.name c.in_ok-name.end c.in_ok-name.ensures.read in
    record {
      read = subst (λ l. NamesSoFar line c.args.at l (c.in_ok-name.end + 1)) (sym c.in_ok-push.ensures.ok) (names_go_on line c.args.at c.loop-seen.names c.loop-seen.next c.loop-seen.invariant.read c.in_ok-name.name c.in_ok-name.end found (c.if-not-has_byte.ensures.yes refl));
      seen = subst (λ l. AreSeen c.formal.new.seen.texts.keys l) (sym c.in_ok-push.ensures.ok) (more_seen keys c.formal.new.seen.texts.keys c.loop-seen.names c.in_ok-name.name c.loop-seen.invariant.seen c.in_ok-name.ensures.seen);
    }
