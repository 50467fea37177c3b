use Rattle.std.proofs.Common.{drop, length, sym}
use Rattle.std.proofs.lemmas.Slice.Eq.{starts_is}
use Rattle.mlk_names.proofs.list.begins.Goals as goal

pub returns : goal.returns
returns g c =
    let s = starts_is c.requires c.args.second.now c.args.first.now c.starts_with.result c.starts_with.ensures.value in
    (λ is. record { tail = drop (length c.args.first.now) c.args.second.now; is = sym (s.0 is) }, λ b. s.1 b.tail (sym b.is))
