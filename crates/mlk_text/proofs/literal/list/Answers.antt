use Rattle.mlk_text.proofs.Lexemes.{literal-leaves, comma-shortens}
use Rattle.mlk_text.proofs.literal.list.Goals as goal

pub separated_items-requires-clause-leaves : goal.separated_items-requires-clause-leaves
separated_items-requires-clause-leaves c = literal-leaves

pub separated_items-requires-clause-shortens : goal.separated_items-requires-clause-shortens
separated_items-requires-clause-shortens c = comma-shortens 44
