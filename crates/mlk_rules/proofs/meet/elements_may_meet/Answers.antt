use Rattle.std.proofs.Common.{◌≡◌, true, false, length, refl, sym, ap, ◌∙◌}
use Rattle.std.specs.Prelude.{◌==◌, map}
use Rattle.std.proofs.lemmas.Bool.{eqb-true}
use Rattle.mlk_names.proofs.OverlapLemmas.{subs_meet_none, subs_meet_below, subs_meet_turned, subs_meet_parts}
use Rattle.mlk_rules.specs.Fronts.{symbol_of}
use Rattle.mlk_rules.proofs.FrontLemmas.{no_symbols, meet_ends}
use Rattle.mlk_rules.proofs.meet.elements_may_meet.Goals as goal

pub returns-in-Tree : goal.returns-in-Tree
returns-in-Tree c =
    let a = c.args in
    let l = c.loop-element in
    let below = subs_meet_below a.far a.wide l.symbols.now (map symbol_of l.elements.now) c.in_default-split_first.ensures.cases c.in-Tree.is in
    (λ is. l.invariant.0 (subs_meet_turned a.far a.wide l.symbols.now (map symbol_of l.elements.now) below), λ h. refl)

pub loop-element-preserved : goal.loop-element-preserved
loop-element-preserved c =
    let a = c.args in
    let l = c.loop-element in
    let v = c.in-Some in
    let w = c.in-Some-split_first in
    let first = ap (map symbol_of) v.ensures.cases.0 in
    let second = w.ensures.cases.0 in
    let parts =
    subs_meet_parts a.wide a.far (symbol_of v.element.now) w.symbol.now (map symbol_of l.elements.now) l.symbols.now (map symbol_of v.other_elements.now) w.other_symbols.now first second (c.element_may_meet.ensures.0 c.if-not-element_may_meet.false) in
    (λ k. l.invariant.0 (parts.0 k), λ h. parts.1 (l.invariant.1 h))

pub returns-then-is_empty : goal.returns-then-is_empty
returns-then-is_empty c =
    let a = c.args in
    let l = c.loop-element in
    let empty = eqb-true (length l.symbols.now) 0 (sym c.is_empty.ensures ∙ c.if-is_empty.true) in
    let none = subs_meet_none a.wide a.far (map symbol_of l.elements.now) l.symbols.now (no_symbols l.elements.now c.in_default.ensures.cases) empty in
    (λ is. l.invariant.0 none, λ h. c.if-is_empty.true)

pub returns-in-Tree-matches : goal.returns-in-Tree-matches
returns-in-Tree-matches c =
    let a = c.args in
    let l = c.loop-element in
    let below = subs_meet_below a.wide a.far (map symbol_of l.elements.now) l.symbols.now (no_symbols l.elements.now c.in_default.ensures.cases) c.in-Tree-matches.is in
    (λ is. l.invariant.0 below, λ h. refl)

pub returns-in_default-matches-2 : goal.returns-in_default-matches-2
returns-in_default-matches-2 c =
    let a = c.args in
    let l = c.loop-element in
    let some : length l.symbols.now ≡ 0 → ⊥ = λ e.
    let is : (length l.symbols.now == 0) ≡ true = rw e refl in
    let clash : true ≡ false = sym is ∙ sym c.is_empty.ensures ∙ c.if-is_empty.false in
    cc clash in
    (λ is. absurd (cc), λ h. absurd (meet_ends l.elements.now a.wide l.symbols.now a.far c.in_default.ensures.cases some c.in_default-matches-2.not-Tree (l.invariant.1 h)))
