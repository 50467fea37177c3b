use Rattle.std.proofs.Common.{◌∙◌, sym, ap, is_some}
use Rattle.mlk_rules.proofs.GroupTables.{found_in, none_from, gains_none, gains_put}
use Rattle.mlk_rules.proofs.groups.Groups.add.Goals as goal

pub returns-then-contains_key : goal.returns-then-contains_key
returns-then-contains_key c =
    let entries = c.self.inside.by_global.entries in
    let found = found_in c.args.name.now entries in
    let has = ap is_some (sym found) ∙ sym c.contains_key.ensures ∙ c.if-contains_key.true in
    rw (← c.self.view_is) (gains_none c.args.rules.now c.args.name.now entries has)

pub put-requires : goal.put-requires
put-requires c =
    let found = found_in c.args.name.now c.self.inside.by_global.entries in
    let absent = none_from _ (sym c.contains_key.ensures ∙ c.if-contains_key.false) in
    rw (c.in_ok-copy.ensures, ← c.self.view_is) (sym found ∙ absent)

pub returns : goal.returns
returns c = gains_put c.args.rules.now c.args.name.now c.in_ok-copy.field-0 c.in_ok-group.group c.args.self.now _ c.in_ok-copy.ensures c.in_ok-group.ensures c.in_ok-put.ensures
