-- One or more items. This project's own.
use Rattle.std.specs.Prelude.{List}
use Rattle.mlk_syntax.specs.declared.several.OneOrMore.{OneOrMore}
use Rattle.mlk_syntax.specs.declared.several.OneOrMore.TheVariants as items

-- the list of them
abbrev pub items_of : {T : Type 0} → OneOrMore T → List T
items_of (items.One item) = item
items_of (items.More v) = v.items
