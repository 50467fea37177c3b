use Rattle.std.proofs.Common.{◌∙◌}
use Rattle.std.specs.Str.{str_eq_ignore_ascii_case}
use Rattle.mlk_dialect.proofs.Names.{any_now}
use Rattle.mlk_dialect.proofs.tables.is_one_of.Goals as goal

pub returns : goal.returns
returns c = c.has_word.ensures ∙ any_now (str_eq_ignore_ascii_case c.args.word.now) c.args.names.now
