-- Bytes that are written as themselves in a quoted text. For private clauses only. This project's own.
use Rattle.std.specs.Prelude.{ℕ, List, Bool, not, ◌==◌, ◌&&◌}
use Rattle.std.specs.List.{prefix_len}
use Rattle.mlk_text.specs.Lexemes.{is_text_byte}

abbrev pub is_plain : ℕ → Bool
is_plain b = not (b == 34) && is_text_byte b

-- the number of such bytes at the front
abbrev pub plain_bytes : List ℕ → ℕ
plain_bytes bytes = prefix_len is_plain bytes
