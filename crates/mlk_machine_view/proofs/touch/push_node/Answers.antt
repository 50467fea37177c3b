use Rattle.mlk_machine_view.proofs.TouchLemmas.{node_written}
use Rattle.mlk_machine_view.proofs.touch.push_node.Goals as goal

pub returns : goal.returns
returns c = node_written c.args.text.now c.push_global.new.text c.push_values.new.text c.args.touch.now
    c.as_slice.result.now c.as_slice.ensures c.in_ok-push_global.ensures c.in_ok-push_values.ensures
