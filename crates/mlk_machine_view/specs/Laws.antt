-- Laws of the printed text. This project's own.
use Rattle.std.specs.Prelude.{◌≡◌, true}
use Rattle.std.specs.List.Sorted.{IsPermutation}
use Rattle.mlk_cert_lexemes.specs.Lists.{ascends, upto}
use Rattle.mlk_machine_locks.specs.Counts.{Counts}
use Rattle.mlk_machine_view.specs.StateTexts.{ascending, name_text}

-- The locks of a job are printed in the order of the names' texts, and all of them are printed.
abbrev pub HeldIsSorted : Type 0
HeldIsSorted = (held : Counts)
    → (ascends (λ g h. upto (name_text g.0) (name_text h.0)) (ascending (λ h. name_text h.0) held) ≡ true)
    × IsPermutation held (ascending (λ h. name_text h.0) held)
