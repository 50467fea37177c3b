use Rattle.std.proofs.Common.{refl, arith}
use Rattle.std.specs.Ordering.{nat_cmp, is_le}
use Rattle.std.proofs.lemmas.Cmp.{same_from_slice_cmp_tested}
use Rattle.std.proofs.lemmas.Bool.Decides.{nat_tests}
use Rattle.mlk_cert_lexemes.specs.Lists.{upto}
use Rattle.mlk_walk_commands.proofs.order.is_upto.Goals as goal

pub returns : goal.returns
returns c = same_from_slice_cmp_tested nat_cmp is_le upto refl (λ _ _. refl) (λ _ _. refl) (λ x y xs ys o h. grind (arith, nat_tests)) c.args.x.now c.args.y.now c.le.result c.le.ensures
