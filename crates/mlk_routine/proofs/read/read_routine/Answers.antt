use Rattle.std.proofs.Common.{length, map, ap, ◌∙◌, subst, arith}
use Rattle.std.proofs.lemmas.Result.{err_from_is_err_and}
use Rattle.mlk_syntax.specs.Views.{line_of, lines_from}
use Rattle.mlk_routine.specs.Lines.{head_of, texts_of, IsStemName, AreHeadsOnly, NoHeads}
use Rattle.mlk_routine.proofs.WholeRoutines.{routine_found, routine_only, no_name_routine, long_routine, many_routine, no_heads_routine, texts_size}
use Rattle.mlk_routine.proofs.read.read_routine.Goals as goal

pub returns-in_default-clause-refused : goal.returns-in_default-clause-refused
returns-in_default-clause-refused c =
    no_name_routine c.args.dialect c.args.stem.now c.args.text.now (subst (IsStemName c.args.stem.now) c.in_default.is c.in_ok-name.ensures) c.routine_refusal.result

pub returns-then-text-gt-MOST_BYTES-clause-refused : goal.returns-then-text-gt-MOST_BYTES-clause-refused
returns-then-text-gt-MOST_BYTES-clause-refused c =
    let more = c.if-text-gt-MOST_BYTES.true in
    long_routine c.args.dialect c.args.stem.now c.args.text.now (omega (arith, more)) c.routine_refusal-then-text-gt-MOST_BYTES.result

pub returns-then-len-gt-MOST_LINES-clause-refused : goal.returns-then-len-gt-MOST_LINES-clause-refused
returns-then-len-gt-MOST_LINES-clause-refused c =
    let texts = c.in_ok-texts.texts in
    let more = c.if-len-gt-MOST_LINES.true in
    let size = texts_size texts.items in
    let same = ap length c.in_ok-texts.ensures in
    many_routine c.args.dialect c.args.stem.now c.args.text.now (omega (arith, more, c.len.ensures, texts.ok, size, same)) c.routine_refusal-then-len-gt-MOST_LINES.result

pub returns-in_err-left-clause-refused : goal.returns-in_err-left-clause-refused
returns-in_err-left-clause-refused c =
    let p = err_from_is_err_and c.from_residual-in_err-left.result c.from_residual-in_err-left.ensures.1 in
    let same = ap texts_of c.deref.ensures.value ∙ c.in_ok-texts.ensures in
    rw (p.1, p.2) (no_heads_routine c.args.dialect c.args.stem.now c.args.text.now c.in_err-left.field-0.0 (subst (λ ts. NoHeads c.args.dialect ts c.in_err-left.field-0.0) same c.in_err-left.ensures.refused))

pub returns-clause-found : goal.returns-clause-found
returns-clause-found c =
    let texts = c.in_ok-texts.texts in
    let less = c.if-text-gt-MOST_BYTES.false in
    let few = c.if-len-gt-MOST_LINES.false in
    let size = texts_size texts.items in
    let count = ap length c.in_ok-texts.ensures in
    let same = ap texts_of c.deref.ensures.value ∙ c.in_ok-texts.ensures in
    let named = subst (IsStemName c.args.stem.now) c.in-Some.is c.in_ok-name.ensures in
    routine_found c.args.dialect c.args.stem.now c.args.text.now c.in-Some.name named.0 named.1 (map head_of c.in_ok-left.left.items) (subst (λ ts. AreHeadsOnly c.args.dialect ts (map head_of c.in_ok-left.left.items)) same c.in_ok-left.ensures.found)
    (lines_from (map line_of c.in_ok-lines.lines.items)) (map head_of c.block.new.lines.items) c.in_ok-lines.ensures
    (omega (arith, less)) (omega (arith, few, c.len.ensures, texts.ok, size, count))

pub returns-clause-only : goal.returns-clause-only
returns-clause-only c tree is =
    let same = ap texts_of c.deref.ensures.value ∙ c.in_ok-texts.ensures in
    let named = subst (IsStemName c.args.stem.now) c.in-Some.is c.in_ok-name.ensures in
    routine_only c.args.dialect c.args.stem.now c.args.text.now c.in-Some.name named.0 named.1 (map head_of c.in_ok-left.left.items) (subst (λ ts. AreHeadsOnly c.args.dialect ts (map head_of c.in_ok-left.left.items)) same c.in_ok-left.ensures.found)
    (lines_from (map line_of c.in_ok-lines.lines.items)) (map head_of c.block.new.lines.items) c.in_ok-lines.ensures tree is
