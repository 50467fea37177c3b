-- The texts of entries are read exactly.
use Rattle.std.proofs.Common.{◌≡◌, ℕ, ◌++◌, List, [], ◌∷◌, Some, None, refl, sym, ap, ◌∙◌, subst, inl, inr}
use Rattle.std.specs.Prelude.{Option}
use Rattle.std.proofs.lemmas.Bool.{cases_Bool}
use Rattle.mlk_text.specs.Reading.{◌>>=◌}
use Rattle.mlk_text.specs.Spellings.{is_name, IsName, IsLabel, IsEntry}
use Rattle.mlk_text.specs.Lexemes.{or_else, byte_at, name_at, digits_at, label_at, entry_by, entry_of}
use Rattle.mlk_text.specs.SpellingLaws.{EntriesWritten}
use Rattle.mlk_text.proofs.Readers.{pair_parts}
use Rattle.mlk_text.proofs.Lexemes.{byte-is}
use Rattle.mlk_text.proofs.Spelled.{label-reads, label-spelled}

-- after the label
ended : (found rest label routine : List ℕ) → entry_by found (byte_at 94 rest) ≡ Some (label, routine) → (found ≡ label) × IsName routine × (rest ≡ 94 ∷ routine)
ended found rest label routine h = go (byte_at 94 rest) refl h
  where
    go : (o : Option (ℕ × List ℕ)) → byte_at 94 rest ≡ o → entry_by found o ≡ Some (label, routine) → (found ≡ label) × IsName routine × (rest ≡ 94 ∷ routine)
    go None is i = cc i
    go (Some caret) is i = elim (cases_Bool (is_name caret.1)) [
      | inr e ↦ cc (rw e at i)
      | inl e ↦
          let p = pair_parts found label caret.1 routine (rw e at i) in
          (p.0, subst IsName p.1 e, byte-is 94 caret.0 rest caret.1 is ∙ ap (λ l. 94 ∷ l) p.1)
    ]

ends : (label routine : List ℕ) → IsName routine → entry_by label (byte_at 94 (94 ∷ routine)) ≡ Some (label, routine)
ends label routine h = rw h refl

no-label : (rest : List ℕ) → label_at (94 ∷ rest) ≡ None
unfolding label_at name_at digits_at
no-label rest = refl

pub entries-written : EntriesWritten
unfolding entry_of
entries-written text label routine = (sound, complete)
  where
    found : (o : Option (List ℕ × List ℕ)) → label_at text ≡ o → (or_else o (Some ([], text)) >>= λ l. entry_by l.0 (byte_at 94 l.1)) ≡ Some (label, routine) → IsEntry label routine text
    found None is h =
        let e = ended [] text label routine h in
        (inl (sym e.0), e.1, subst (λ l. text ≡ l ++ 94 ∷ routine) e.0 e.2)
    found (Some l) is h =
        let e = ended l.0 l.1 label routine h in
        let s = label-spelled l.0 text l.1 is in
        (inr (subst IsLabel e.0 s.0), e.1, s.1 ∙ ap (λ t. t ++ l.1) e.0 ∙ ap (λ t. label ++ t) e.2)

    sound : entry_of text ≡ Some (label, routine) → IsEntry label routine text
    sound h = found (label_at text) refl h

    complete : IsEntry label routine text → entry_of text ≡ Some (label, routine)
    complete (inl none, named, is) =
        let whole : text ≡ 94 ∷ routine = is ∙ ap (λ l. l ++ 94 ∷ routine) none in
        rw whole (rw (no-label routine) (rw none (ends [] routine named)))
    complete (inr labelled, named, is) = rw is (rw (label-reads label (94 ∷ routine) labelled refl) (ends label routine named))
