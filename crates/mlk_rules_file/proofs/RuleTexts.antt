-- Laws of the texts of rule files.
use Rattle.std.proofs.Common.{◌≡◌, ◌≤◌, ℕ, List, [], ◌∷◌, length, drop, take, Some, None, arith, inl, inr, ap}
use Rattle.std.specs.Prelude.{Option, ◌==◌, ◌||◌, codes, bytes_eq}
use Rattle.std.proofs.lemmas.Bool.{cases_Bool}
use Rattle.std.proofs.lemmas.List.{length-drop}
use Rattle.mlk_text.specs.Reading.{Leaves, Shortens}
use Rattle.mlk_text.specs.Lexemes.{is_digit, byte_at, name_at}
use Rattle.mlk_text.proofs.Lexemes.{byte-takes, name-after}
use Rattle.mlk_text.proofs.Readers.{pair_parts, with_some, after_length}
use Rattle.mlk_rules_file.specs.declared.read.kinds.SpelledItem.{SpelledItem}
use Rattle.mlk_rules_file.specs.declared.read.kinds.SpelledItem.TheVariants.{Literal, Variable}
use Rattle.mlk_numbers.specs.Canonical.{canonical_text}
use Rattle.mlk_rules_file.specs.RuleNumbers.{numeral_len, valued, literal_value_at, negative, negative_at}
use Rattle.mlk_rules_file.specs.RuleTexts.{job, quoted, item_at, comma_at}
use Rattle.mlk_rules_file.proofs.Quotes.{quoted-after}

number-length : (v xs ys : List ℕ) → literal_value_at xs ≡ Some (v, ys) → length ys ≤ length xs
unfolding literal_value_at
number-length v xs ys h = go (canonical_text (take (numeral_len xs) xs)) h
  where
    go : (o : Option (List ℕ)) → valued (drop (numeral_len xs) xs) o ≡ Some (v, ys) → length ys ≤ length xs
    go None h = cc h
    go (Some value) h =
        let p = pair_parts value v (drop (numeral_len xs) xs) ys h in
        let size = length-drop (numeral_len xs) xs in
        let same = ap length p.1 in
        omega arith

quoted-length : (v xs ys : List ℕ) → quoted xs ≡ Some (v, ys) → length ys ≤ length xs
quoted-length v xs ys h = after_length xs ys (quoted-after v xs ys h)

item-length : (i : SpelledItem) (xs ys : List ℕ) → item_at xs ≡ Some (i, ys) → length ys ≤ length xs
unfolding item_at
item-length i [] ys h = cc h
item-length i (b ∷ xs) ys h = elim (cases_Bool (b == 36)) [
  | inl e ↦
      let w = with_some job (byte_at 74 xs) i ys (rw e at h) in
      let s = (byte-takes 74 w.0 xs ys w.1).1 in
      omega arith
  | inr e ↦ elim (cases_Bool (b == 45)) [
    | inl f ↦
        let w = with_some Literal (negative_at xs) i ys (rw (e, f) at h) in
        let u = with_some negative (literal_value_at xs) w.0 ys w.1 in
        let s = number-length u.0 xs ys u.1 in
        omega arith
    | inr f ↦ elim (cases_Bool (b == 34)) [
      | inl q ↦
          let w = with_some Literal (quoted xs) i ys (rw (e, f, q) at h) in
          let s = quoted-length w.0 xs ys w.1 in
          omega arith
      | inr q ↦ elim (cases_Bool ((b == 46) || is_digit b)) [
        | inl g ↦
            let w = with_some Literal (literal_value_at (b ∷ xs)) i ys (rw (e, f, q, g) at h) in
            number-length w.0 (b ∷ xs) ys w.1
        | inr g ↦
            let w = with_some Variable (name_at (b ∷ xs)) i ys (rw (e, f, q, g) at h) in
            after_length (b ∷ xs) ys (name-after w.0 (b ∷ xs) ys w.1)
      ]
    ]
  ]
]

pub commas-shorten : Shortens comma_at
commas-shorten c xs ys h = elim (cases_Bool (bytes_eq xs (codes ",...)"))) [
  | inl e ↦ cc (rw e at h)
  | inr e ↦ (byte-takes 44 c xs ys (rw e at h)).1
]

-- needed by the reader of items
pub items-leave : Leaves item_at
items-leave i xs ys h = item-length i xs ys h
