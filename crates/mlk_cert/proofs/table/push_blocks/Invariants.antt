use Rattle.std.proofs.Common.{◌≡◌, ◌++◌, drop}
use Rattle.mlk_cert_lexemes.specs.Lists.{flat}
use Rattle.mlk_cert_parts.specs.Texts.{block_with}
use Rattle.mlk_cert.specs.Named.{texts_in}
use Rattle.mlk_cert.specs.Second.{point_line}
use Rattle.mlk_cert.proofs.table.push_blocks.Given as goal

abbrev pub invariant-loop-block : goal.invariant-loop-block
invariant-loop-block l = l.text ++ flat (block_with (point_line (texts_in l.texts.keys))) (drop l.block-index l.blocks) ≡ l.fn.text ++ flat (block_with (point_line (texts_in l.texts.keys))) l.blocks
