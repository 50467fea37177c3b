-- The bytes of a text. For private clauses only. This project's own.
use Rattle.std.specs.Prelude.{ℕ, List}
use Rattle.mlk_text.specs.declared.text.Text.{Text}
use Rattle.mlk_text.specs.declared.text.Text.TheVariants.{Short, Long}
use Rattle.mlk_text.specs.declared.text.NameText.{NameText}
use Rattle.mlk_text.specs.declared.text.NameText.TheVariants as name

abbrev pub bytes_of : Text → List ℕ
bytes_of (Short short) = short
bytes_of (Long bytes) = bytes.items

abbrev pub name_bytes_of : NameText → List ℕ
name_bytes_of (name.Short short) = short
name_bytes_of (name.Long bytes) = bytes.value.items
