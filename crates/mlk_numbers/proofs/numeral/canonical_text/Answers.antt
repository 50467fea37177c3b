use Rattle.std.proofs.Common.{◌≡◌, ℕ, List, take, drop, refl, sym, ap, ◌∙◌, subst}
use Rattle.std.proofs.lemmas.Bool.{false≢true}
use Rattle.mlk_text.specs.Lexemes.{zeros, to_last}
use Rattle.mlk_numbers.specs.Numbers.{pointed, IsExact, IsCanonical}
use Rattle.mlk_numbers.proofs.Numerals.{one_numeral}
use Rattle.mlk_numbers.proofs.CanonicalTexts.{canonical-made}
use Rattle.mlk_numbers.proofs.CanonicalReading.{canonical-complete, canonical-none}
use Rattle.mlk_numbers.proofs.numeral.canonical_text.Goals as goal

pub returns-then-not-is_exact-clause-found : goal.returns-then-not-is_exact-clause-found
returns-then-not-is_exact-clause-found c = λ text h.
    let same = one_numeral h.before h.after c.in-Some.before.now c.in-Some.after.now c.args.literal.now h.numeral c.in-Some.ensures in
    let moved = subst (λ l. IsExact h.before l) same.1 h.exact in
    false≢true (c.if-not-is_exact.ensures.1 (subst (λ l. IsExact l c.in-Some.after.now) same.0 moved))

pub returns-clause-found : goal.returns-clause-found
returns-clause-found c =
    let before : List ℕ = c.in-Some.before.now in
    let after : List ℕ = c.in-Some.after.now in
    let whole : c.split_at.result.1.now ≡ drop (zeros before) before = c.split_at.ensures.back ∙ ap (λ n. drop n before) c.zeros.ensures.value in
    let fraction : c.split_at-2.result.0.now ≡ take (to_last after) after = c.split_at-2.ensures.front ∙ ap (λ n. take n after) c.to_last.ensures in
    let text = c.in_ok-join_digits.ensures ∙ ap (λ l. pointed l c.split_at-2.result.0.now) whole ∙ ap (λ l. pointed (drop (zeros before) before) l) fraction in
    subst (λ l. IsCanonical c.args.literal.now l) (sym text) (canonical-made before after c.args.literal.now c.in-Some.ensures (c.if-not-is_exact.ensures.0 refl))

pub returns-in_default-clause-found : goal.returns-in_default-clause-found
returns-in_default-clause-found c = λ text h. c.in_default.ensures h.before h.after h.numeral

pub returns-then-not-is_exact-clause-same : goal.returns-then-not-is_exact-clause-same
returns-then-not-is_exact-clause-same c = sym (canonical-none c.args.literal.now (returns-then-not-is_exact-clause-found c))

pub returns-clause-same : goal.returns-clause-same
returns-clause-same c = sym (canonical-complete c.args.literal.now _ (returns-clause-found c))

pub returns-in_default-clause-same : goal.returns-in_default-clause-same
returns-in_default-clause-same c = sym (canonical-none c.args.literal.now (returns-in_default-clause-found c))
