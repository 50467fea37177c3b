-- What is read again from its own text is within all limits, and what is within them is read again.
use Rattle.std.proofs.Common.{◌≡◌, ◌↔◌, ◌++◌, ℕ, List, [], ◌∷◌, Some, None, Bool, false, IsTrue, refl, sym, ap, ◌∙◌, subst, append-nil}
use Rattle.std.specs.Prelude.{Option, ◌&&◌}
use Rattle.std.proofs.lemmas.Option.{same_Some}
use Rattle.mlk_cert_parts.specs.declared.case.Case.{Case}
use Rattle.mlk_cert_parts.specs.declared.block.Point.{Point}
use Rattle.mlk_cert_parts.specs.declared.block.EntryCert.{EntryCert}
use Rattle.mlk_cert_lexemes.specs.Lists.{flat}
use Rattle.mlk_cert_parts.specs.Texts.{case_text, point_text, block_text, end_line}
use Rattle.mlk_cert_parts.specs.Limits.{IsCase, IsPoint, IsBlock, IsCertificate}
use Rattle.mlk_cert_parts.specs.Checks.{fits_case}
use Rattle.mlk_cert_lexemes.specs.Reading.{word_at}
use Rattle.mlk_cert_parts.specs.Reading.{case_at}
use Rattle.mlk_cert.specs.Blocks.{points_at, body_at}
use Rattle.mlk_cert.specs.Numbered.{listed_points_at}
use Rattle.mlk_cert_parts.proofs.CaseFormats.{case-format}
use Rattle.mlk_cert_lexemes.proofs.Formats.{both_true, both_back}
use Rattle.mlk_cert.proofs.Goods.{case-good, case-has}
use Rattle.mlk_cert.proofs.BlockFormats.{ArePoints, points-format}
use Rattle.mlk_cert.proofs.Whole.{body-is, body-back}

first-same : {A : Type 0} (a b : A) → a ∷ [] ≡ b ∷ [] → a ≡ b
first-same a b h = cc h

read-same : {A : Type 0} (a b : A) (xs ys : List ℕ) → ◌≡◌ {A = Option (A × List ℕ)} (Some (a, xs)) (Some (b, ys)) → a ≡ b
read-same {A} a b xs ys h = ap (λ (r : A × List ℕ). r.0) (same_Some (a, xs) (b, ys) h)

case-again : (c : Case) (text : List ℕ) → text ≡ case_text c → IsCase c → case_at text ≡ Some (c, [])
case-again c text is good = ap case_at (is ∙ sym (append-nil (case_text c))) ∙ case-format.complete c [] (case-has c good).0 refl

pub case-kept : (c found : Case) (text rest : List ℕ) (b fit equal : Bool) → text ≡ case_text c → case_at text ≡ Some (found, rest) → fit ≡ fits_case found → b ≡ (fit && equal) → (IsTrue equal ↔ (found ∷ [] ≡ c ∷ [])) → IsTrue b ↔ IsCase c
case-kept c found text rest b fit equal is read fits_is b_is same = (
  λ t.
      let h = both_true fit equal (sym b_is ∙ t) in
      let good = case-good found (case-format.sound found text rest read).1 (sym fits_is ∙ h.0) in
      subst (λ z. IsCase z) (first-same found c (same.0 h.1)) good,
  λ good.
      let e : found ≡ c = read-same found c rest [] (sym read ∙ case-again c text is good) in
      b_is ∙ both_back fit equal (fits_is ∙ ap fits_case e ∙ (case-has c good).1) (same.1 (ap (λ z. z ∷ []) e)),
)

pub case-refused : (c : Case) (text : List ℕ) → text ≡ case_text c → case_at text ≡ None → IsTrue false ↔ IsCase c
case-refused c text is none = (λ t. cc t, λ good. let k : ◌≡◌ {A = Option (Case × List ℕ)} None (Some (c, [])) = sym none ∙ case-again c text is good in cc k)

point-again : (p : Point) (text : List ℕ) → text ≡ flat point_text (p ∷ []) → IsPoint p → points_at text ≡ Some (p ∷ [], [])
unfolding word_at
point-again p text is good =
    ap points_at (is ∙ sym (append-nil (point_text p ++ [])))
    ∙ points-format.complete (p ∷ []) [] (record { each = (good, tt); order = refl }) refl

pub point-kept : (p : Point) (found : List Point) (text rest : List ℕ) (b : Bool) → text ≡ flat point_text (p ∷ []) → points_at text ≡ Some (found, rest) → (IsTrue b ↔ (found ≡ p ∷ [])) → IsTrue b ↔ IsPoint p
point-kept p found text rest b is read same = (
  λ t. (subst (λ z. ArePoints z) (same.0 t) (points-format.sound found text rest read).1).each.0,
  λ good. same.1 (read-same found (p ∷ []) rest [] (sym read ∙ point-again p text is good)),
)

pub point-refused : (p : Point) (text : List ℕ) → text ≡ flat point_text (p ∷ []) → points_at text ≡ None → IsTrue false ↔ IsPoint p
point-refused p text is none = (λ t. cc t, λ good. let k : ◌≡◌ {A = Option (List Point × List ℕ)} None (Some (p ∷ [], [])) = sym none ∙ point-again p text is good in cc k)

pub blocks-kept : (bs found : List EntryCert) (xs : List ℕ) (b : Bool) → xs ≡ flat block_text bs ++ end_line → body_at (listed_points_at None) xs ≡ Some found → (IsTrue b ↔ (found ≡ bs)) → IsTrue b ↔ IsCertificate bs
blocks-kept bs found xs b is read same = (
  λ t. subst (λ z. IsCertificate z) (same.0 t) (body-is found xs read).0,
  λ good. same.1 (same_Some found bs (sym read ∙ body-back bs xs is good)),
)

pub blocks-refused : (bs : List EntryCert) (xs : List ℕ) → xs ≡ flat block_text bs ++ end_line → body_at (listed_points_at None) xs ≡ None → IsTrue false ↔ IsCertificate bs
blocks-refused bs xs is none = (λ t. cc t, λ good. let k : ◌≡◌ {A = Option (List EntryCert)} None (Some bs) = sym none ∙ body-back bs xs is good in cc k)

pub one-block : (b : EntryCert) → IsCertificate (b ∷ []) → IsBlock b
one-block b is = is.each.0

pub block-alone : (b : EntryCert) → IsBlock b → IsCertificate (b ∷ [])
block-alone b is = record { each = (is, tt); distinct = (tt, tt) }
