use Rattle.mlk_machine_view.proofs.SpellingLemmas.{name_written}
use Rattle.mlk_machine_view.proofs.spelling.push_name.Goals as goal

pub returns : goal.returns
returns c = name_written c.args.text.now c.push_to.new.text c.push_values.new.text c.args.name.now c.as_slice.result.now
    c.as_slice.ensures c.in_ok-push_to.ensures c.in_ok-push_values.ensures
