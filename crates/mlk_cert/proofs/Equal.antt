-- Parts of certificates are equal if all their parts are.
use Rattle.std.proofs.Common.{◌≡◌, List, refl, ap, ◌∙◌}
use Rattle.std.specs.Prelude.{ℕ, Decides, Option, Some, None, nat_eq}
use Rattle.std.specs.Cmp.{booleans_Decides}
use Rattle.std.specs.Option.{option_eq}
use Rattle.std.proofs.lemmas.Option.{same_Some}
use Rattle.std.proofs.lemmas.Bool.Decides.{Decides-and, Decides-like, Decides-eqb}
use Rattle.std.proofs.lemmas.Slice.Eq.{bytes_eq-Decides}
use Rattle.mlk_cert_parts.specs.declared.case.Case.{Case}
use Rattle.mlk_cert_parts.specs.declared.case.ExitCase.{ExitCase}
use Rattle.mlk_cert_parts.specs.declared.block.Point.{Point}
use Rattle.mlk_cert_parts.specs.declared.block.Summary.{Summary}
use Rattle.mlk_cert_parts.specs.declared.block.EntryCert.{EntryCert}
use Rattle.mlk_cert_parts.specs.contracts.case.ExitCasePartialEq.TheImpl as exit_eq
use Rattle.mlk_cert_parts.specs.contracts.block.PointPartialEq.TheImpl as point_eq
use Rattle.mlk_cert_parts.specs.contracts.block.SummaryPartialEq.TheImpl as summary_eq
use Rattle.mlk_cert_parts.specs.contracts.block.EntryCertPartialEq.TheImpl as block_eq
use Rattle.mlk_cert_parts.specs.Reading.{exit_of}
use Rattle.mlk_cert.specs.Blocks.{summary_of, block_of}
use Rattle.mlk_cert_parts.proofs.EqualCases.{lists-equal, test-equal, term-equal, set-equal, case-equal}

exit-parts-equal : (a b : ExitCase) → (a.test ≡ b.test) × ((a.held ≡ b.held) × (a.kept ≡ b.kept)) → a ≡ b
exit-parts-equal a b (t, (h, k)) = ap (λ z. exit_of z a.held a.kept) t ∙ ap (λ z. exit_of b.test z a.kept) h ∙ ap (λ z. exit_of b.test b.held z) k

exit-equal : (a b : ExitCase) → Decides (exit_eq.eq-value.it a b) (a ≡ b)
exit-equal a b =
    Decides-like _ (exit-parts-equal a b) (λ e. (ap (λ z. z.test) e, (ap (λ z. z.held) e, ap (λ z. z.kept) e)))
    (Decides-and _ _ (test-equal a.test b.test)
    (Decides-and _ _ (lists-equal term-equal a.held b.held) (lists-equal bytes_eq-Decides a.kept b.kept)))

abbrev point_with : ℕ → ℕ → List Case → Point
point_with line round cases = record { line = line; round = round; cases = cases }

point-parts-equal : (a b : Point) → (a.line ≡ b.line) × ((a.round ≡ b.round) × (a.cases ≡ b.cases)) → a ≡ b
point-parts-equal a b (l, (r, c)) = ap (λ z. point_with z a.round a.cases) l ∙ ap (λ z. point_with b.line z a.cases) r ∙ ap (λ z. point_with b.line b.round z) c

pub point-equal : (a b : Point) → Decides (point_eq.eq-value.it a b) (a ≡ b)
point-equal a b =
    Decides-like _ (point-parts-equal a b) (λ e. (ap (λ z. z.line) e, (ap (λ z. z.round) e, ap (λ z. z.cases) e)))
    (Decides-and _ _ (Decides-eqb a.line b.line)
    (Decides-and _ _ (Decides-eqb a.round b.round) (lists-equal case-equal a.cases b.cases)))

low-equal : (a b : Option ℕ) → Decides (option_eq nat_eq a b) (a ≡ b)
low-equal None None = (λ _. refl, λ _. refl)
low-equal None (Some m) = (λ e. cc e, λ e. cc e)
low-equal (Some n) None = (λ e. cc e, λ e. cc e)
low-equal (Some n) (Some m) = let d = Decides-eqb n m in (λ e. ap (λ z. Some z) (d.0 e), λ e. d.1 (same_Some n m e))

summary-parts-equal : (a b : Summary) → (a.need ≡ b.need) × ((a.exits ≡ b.exits) × ((a.mods ≡ b.mods) × ((a.low ≡ b.low) × (a.drops ≡ b.drops)))) → a ≡ b
summary-parts-equal a b (n, (e, (m, (l, d)))) =
    ap (λ z. summary_of z a.low a.drops a.mods a.exits) n
    ∙ ap (λ z. summary_of b.need a.low a.drops a.mods z) e
    ∙ ap (λ z. summary_of b.need a.low a.drops z b.exits) m
    ∙ ap (λ z. summary_of b.need z a.drops b.mods b.exits) l
    ∙ ap (λ z. summary_of b.need b.low z b.mods b.exits) d

summary-equal : (a b : Summary) → Decides (summary_eq.eq-value.it a b) (a ≡ b)
summary-equal a b =
    Decides-like _ (summary-parts-equal a b) (λ e. (ap (λ z. z.need) e, (ap (λ z. z.exits) e, (ap (λ z. z.mods) e, (ap (λ z. z.low) e, ap (λ z. z.drops) e)))))
    (Decides-and _ _ (lists-equal term-equal a.need b.need)
    (Decides-and _ _ (lists-equal exit-equal a.exits b.exits)
    (Decides-and _ _ (lists-equal set-equal a.mods b.mods)
    (Decides-and _ _ (low-equal a.low b.low) (booleans_Decides a.drops b.drops)))))

block-parts-equal : (a b : EntryCert) → (a.entry ≡ b.entry) × ((a.summary ≡ b.summary) × (a.points ≡ b.points)) → a ≡ b
block-parts-equal a b (e, (s, p)) = ap (λ z. block_of z a.summary a.points) e ∙ ap (λ z. block_of b.entry z a.points) s ∙ ap (λ z. block_of b.entry b.summary z) p

pub block-equal : (a b : EntryCert) → Decides (block_eq.eq-value.it a b) (a ≡ b)
block-equal a b =
    Decides-like _ (block-parts-equal a b) (λ e. (ap (λ z. z.entry) e, (ap (λ z. z.summary) e, ap (λ z. z.points) e)))
    (Decides-and _ _ (bytes_eq-Decides a.entry b.entry)
    (Decides-and _ _ (summary-equal a.summary b.summary) (lists-equal point-equal a.points b.points)))
