-- Texts that are already noted.
use Rattle.std.proofs.Common.{◌≡◌, ℕ, ◌++◌, List, [], ◌∷◌, Bool, true, false, refl, sym, ap, ◌∙◌, inl, inr, nat_eq, Global}
use Rattle.std.specs.Prelude.{◌⊎◌, ◌||◌, if◌then◌else◌, bytes_eq, Vec}
use Rattle.std.specs.Cmp.Lexicographic.{pointwise}
use Rattle.std.specs.List.{list_any}
use Rattle.std.proofs.lemmas.Bool.{cases_Bool}
use Rattle.std.proofs.lemmas.List.{map-append}
use Rattle.std.proofs.lemmas.Slice.Eq.{bytes_eq-Decides}
use Rattle.mlk_cert_parts.specs.Checks.{has_text}
use Rattle.mlk_cert.specs.Named.{texts_in, Adds}
use Rattle.mlk_cert.proofs.BlockLoops.{seen-text, has-append}

pub or-nothing : (b : Bool) → (b || false) ≡ b
or-nothing true = refl
or-nothing false = refl

or-both : (a b c : Bool) → ((a || b) || c) ≡ (a || (b || c))
or-both true b c = refl
or-both false b c = refl

pub inserted : (ks ns : List (Vec ℕ Global)) (v : Vec ℕ Global) (text : List ℕ) → v.items ≡ text → ns ≡ (if list_any (λ k. pointwise nat_eq v.items k.items) ks then ks else ks ++ v ∷ []) → Adds (texts_in ks) (texts_in ns) (text ∷ [])
inserted ks ns v text is made t = elim (cases_Bool (list_any (λ k. pointwise nat_eq v.items k.items) ks)) [
  | inl e ↦
      let kept : ns ≡ ks = made ∙ (rw e refl) in
      let had : has_text (texts_in ks) text ≡ true = ap (has_text (texts_in ks)) (sym is) ∙ sym (seen-text ks v) ∙ e in
      ap (λ z. has_text (texts_in z) t) kept ∙ there (cases_Bool (bytes_eq t text)) had
  | inr e ↦
      let more : ns ≡ ks ++ v ∷ [] = made ∙ (rw e refl) in
      ap (λ z. has_text (texts_in z) t) more ∙ ap (λ z. has_text z t) (map-append (λ k. k.items) ks (v ∷ [])) ∙ has-append (texts_in ks) (v.items ∷ []) t ∙ ap (λ z. has_text (texts_in ks) t || has_text (z ∷ []) t) is
]
  where
    there : (bytes_eq t text ≡ true) ⊎ (bytes_eq t text ≡ false) → has_text (texts_in ks) text ≡ true → has_text (texts_in ks) t ≡ (has_text (texts_in ks) t || has_text (text ∷ []) t)
    there (inl e) had =
        let same : t ≡ text = (bytes_eq-Decides t text).0 e in
        let k : has_text (texts_in ks) t ≡ true = ap (has_text (texts_in ks)) same ∙ had in rw k refl
    there (inr e) had = rw e (sym (or-nothing (has_text (texts_in ks) t)))

-- one step of a loop
pub noted : (old new more rest : List (List ℕ)) (t : List ℕ) → Adds old new more → (has_text new t || has_text rest t) ≡ (has_text old t || has_text (more ++ rest) t)
noted old new more rest t adds = ap (λ b. b || has_text rest t) (adds t) ∙ or-both (has_text old t) (has_text more t) (has_text rest t) ∙ ap (λ b. has_text old t || b) (sym (has-append more rest t))

pub none-left : (texts : List (List ℕ)) (t : List ℕ) → has_text texts t ≡ (has_text texts t || has_text [] t)
none-left texts t = sym (or-nothing (has_text texts t))
