use Rattle.std.proofs.Common.{ℕ}
use Rattle.std.specs.Prelude.{Vec}
use Rattle.std.specs.Global.{Global}
use Rattle.mlk_forms.specs.Rendering.{IsPlace}
use Rattle.mlk_forms.proofs.Placing.{if-ok}
use Rattle.mlk_forms.proofs.row.place_text.Goals as goal

pub returns : goal.returns
returns c = if-ok c.text_of.result _ (λ (text : Vec ℕ Global). IsPlace c.args.row.now text.items) (λ (text : Vec ℕ Global) is. (c.args.path.now, is)) c.text_of.ensures
