use Rattle.mlk_machine.proofs.NumberLemmas.{is_place}
use Rattle.mlk_machine.proofs.number.place_in.Goals as goal

pub returns : goal.returns
returns c =
    is_place c.args.numbers.now.keys c.args.number c.get_index_of.result c.get_index_of.ensures.index
    c.get_index_of.ensures.within
