use Rattle.std.proofs.Common.{[], ◌∷◌, refl, sym, ap, ◌∙◌, append-nil}
use Rattle.mlk_text.specs.Reading.{put}
use Rattle.mlk_text.proofs.Readers.{put_put}
use Rattle.mlk_rules_file.specs.RuleTexts.{quoted}
use Rattle.mlk_rules_file.proofs.Quotes.{quoted-other, quoted-twice, quoted-closed, quoted-empty}
use Rattle.mlk_rules_file.proofs.read.quoted.quoted_value.Goals as goal

pub loop-first-preserved-then-first-ne34 : goal.loop-first-preserved-then-first-ne34
loop-first-preserved-then-first-ne34 c =
    let step = ap quoted c.in-Some.ensures.cases.0 ∙ quoted-other c.in-Some.first.now c.in-Some.after.now c.if-first-ne34.true in
    rw c.in_ok-push.ensures.items (sym (put_put c.loop-first.value.items (c.in-Some.first.now ∷ []) (quoted c.in-Some.after.now)) ∙ ap (put c.loop-first.value.items) (sym step) ∙ c.loop-first.invariant)

pub returns-in_default-byte_of : goal.returns-in_default-byte_of
returns-in_default-byte_of c =
    let step = ap quoted c.in-Some.ensures.cases.0 ∙ ap (λ b. quoted (b ∷ c.in-Some.after.now)) c.if-first-ne34.false ∙ quoted-closed c.in-Some.after.now (sym c.in_default-byte_of.ensures) in
    rw c.new.ensures (sym c.loop-first.invariant ∙ rw step (rw (append-nil c.loop-first.value.items) refl))

pub loop-first-preserved : goal.loop-first-preserved
loop-first-preserved c =
    let step = ap quoted c.in-Some.ensures.cases.0 ∙ ap (λ b. quoted (b ∷ c.in-Some.after.now)) c.if-first-ne34.false ∙ quoted-twice c.in-Some.after.now c.in-Some-byte_of.after.now (sym c.in-Some-byte_of.ensures) in
    rw c.in_ok-push-2.ensures.items (sym (put_put c.loop-first.value.items (34 ∷ []) (quoted c.in-Some-byte_of.after.now)) ∙ ap (put c.loop-first.value.items) (sym step) ∙ c.loop-first.invariant)

pub returns : goal.returns
returns c = sym c.loop-first.invariant ∙ ap (put c.loop-first.value.items) (quoted-empty c.loop-first.rest.now c.in_default.ensures.cases)
