use Rattle.std.proofs.Common.{◌∙◌, ap, map}
use Rattle.std.specs.BTreeSet.{insert_key}
use Rattle.std.specs.Ordering.{nat_cmp}
use Rattle.std.specs.Cmp.Lexicographic.{slice_cmp}
use Rattle.mlk_calls.proofs.Ordered.{bytes_in, put_bytes}
use Rattle.mlk_calls.proofs.order.put_name.Goals as goal

pub returns : goal.returns
returns c = ap (map bytes_in) c.in_ok-insert.ensures.keys
    ∙ put_bytes c.args.found.now.keys c.in_ok-bytes.bytes
    ∙ ap (insert_key (slice_cmp nat_cmp) (map bytes_in c.args.found.now.keys)) (c.in_ok-bytes.ensures.items ∙ c.as_bytes.ensures)
