use Rattle.std.proofs.Common.{◌≡◌, ◌∙◌, ap, sym, subst, ◌∷◌, []}
use Rattle.std.specs.Prelude.{OnOk, Err}
use Rattle.mlk_text.specs.declared.failure.Failure.TheVariants.{Refused}
use Rattle.mlk_walk_state.specs.Refusals.{RefusedAs}
use Rattle.mlk_walk_exprs.specs.Spots.{spot_of}
use Rattle.mlk_walk_exprs.specs.Walks.{add_all, placed}
use Rattle.mlk_walk_commands.specs.News.{renewed, owned}
use Rattle.mlk_walk_commands.proofs.news.RenewalTransfer.make.Goals as goal

pub returns : goal.returns
returns c =
    let p = spot_of c.args.self.now.spot.now in
    let names = c.args.self.now.names.now in
    let answer : RefusedAs c.args.state (Refused c.in-Err-Refused.refusal) (renewed (c.in_ok-copy_of.field-0 ∷ []) c.args.state) =
    subst (λ e. RefusedAs c.args.state e (renewed (c.in_ok-copy_of.field-0 ∷ []) c.args.state)) c.in-Err-Refused.field-0-is c.in-Err-Refused.ensures in
    let refused : renewed (names ∷ []) c.args.state ≡ Err c.in-Err-Refused.refusal.code =
    ap (λ n. renewed (n ∷ []) c.args.state) (sym c.in_ok-copy_of.ensures) ∙ answer.0 in
    subst (λ os. OnOk c.refuse.result (c.refuse.new.self ≡ add_all os c.args.walk.now))
    (sym (ap (λ r. placed p.line c.args.self.now.column (owned (record { level = p.level; names = names }) r)) refused))
    c.refuse.ensures
