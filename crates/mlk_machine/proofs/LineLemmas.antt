-- The length of what follows a line.
use Rattle.std.proofs.Common.{◌≡◌, ◌<◌, ◌≤◌, ℕ, List, [], ◌∷◌, ◌++◌, length, Some, ap, arith, length-append}
use Rattle.mlk_cert_lexemes.specs.Texts.{constant_text}
use Rattle.mlk_cert_lexemes.specs.Reading.{constant_at}
use Rattle.mlk_machine.specs.declared.event_line.EventLine.{EventLine}
use Rattle.mlk_machine.specs.EventTexts.{event_line_text, line_text}
use Rattle.mlk_machine.specs.EventReading.{line_at}
use Rattle.mlk_cert_lexemes.proofs.TermFormats.{constant-is}
use Rattle.mlk_machine.proofs.EventFormats.{line-format}

pub constant-leaves : (v xs ys : List ℕ) → constant_at xs ≡ Some (v, ys) → length ys ≤ length xs
constant-leaves v xs ys h =
    let e = ap length (constant-is v xs ys h).0 in
    let l = length-append (constant_text v) ys in omega arith

pub line-shorter : (o : EventLine) (xs ys : List ℕ) → line_at xs ≡ Some (o, ys) → length ys < length xs
line-shorter o xs ys h =
    let e = ap length (line-format.sound o xs ys h).0 in
    let l = length-append (line_text o) ys in
    let k = some_text o in omega arith
  where
    some_text : (o : EventLine) → 0 < length (line_text o)
    some_text o = let n = length-append (event_line_text o) (10 ∷ []) in omega arith
