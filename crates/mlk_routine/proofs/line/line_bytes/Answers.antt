use Rattle.std.proofs.Common.{sym, subst, arith}
use Rattle.memchr.specs.Find.{IsFirstByte}
use Rattle.mlk_routine.specs.RoutineGrammar.{is_line_byte}
use Rattle.mlk_routine.proofs.LineBytes.{ends_line, goes_on, first_found, first_none}
use Rattle.mlk_routine.proofs.line.line_bytes.Goals as goal

pub find_byteset-requires : goal.find_byteset-requires
find_byteset-requires c = tt

pub returns-in-Some-clause-value : goal.returns-in-Some-clause-value
returns-in-Some-clause-value c =
    sym (first_found ends_line is_line_byte goes_on c.args.text.now c.in-Some.end (subst (IsFirstByte ends_line c.args.text.now) c.in-Some.is c.find_byteset.ensures))

pub returns-in-Some-clause-within : goal.returns-in-Some-clause-within
returns-in-Some-clause-within c =
    let h = (subst (IsFirstByte ends_line c.args.text.now) c.in-Some.is c.find_byteset.ensures).0.high in
    omega (arith, h)

pub returns-in-None-clause-value : goal.returns-in-None-clause-value
returns-in-None-clause-value c =
    sym (first_none ends_line is_line_byte goes_on c.args.text.now (subst (IsFirstByte ends_line c.args.text.now) c.in-None.is c.find_byteset.ensures))

pub returns-in-None-clause-within : goal.returns-in-None-clause-within
returns-in-None-clause-within c = omega arith
