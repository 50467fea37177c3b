-- Lists that are found again.
use Rattle.std.proofs.Common.{◌≡◌, ◌-◌, ℕ, ◌++◌, List, ◌∷◌, length, take, Some, Bool, true, sym, ap, ◌∙◌}
use Rattle.std.specs.Prelude.{Option}
use Rattle.mlk_text.specs.Lexemes.{byte_at}
use Rattle.mlk_cert_lexemes.specs.Reading.{word_at, listed_at}
use Rattle.mlk_cert.specs.Memories.{Remembers, Recalls}
use Rattle.mlk_cert_lexemes.proofs.Formats.{Format, byte-is, word-is}
use Rattle.mlk_cert_lexemes.proofs.Room.{front-is}

pub remembered : {A : Type 0} (text : List A → List ℕ) (Is : List A → Type 0) (Stops : List ℕ → Type 0) (reads : List ℕ → Option (A × List ℕ)) (fits : List A → Bool) → Format text Is Stops (listed_at reads)
    → ((n : List ℕ) → Stops (32 ∷ n)) → (list : List A) (xs ys front : List ℕ) → listed_at reads xs ≡ Some (list, ys) → front ≡ take (length xs - length ys) xs → fits list ≡ true → Remembers reads fits list front
remembered text Is Stops reads fits f stops list xs ys front h is good =
    let s = f.sound list xs ys h in
    let same : front ≡ text list = is ∙ front-is (text list) xs ys s.0 in
    record { read = λ zs. ap (λ l. listed_at reads (l ++ 32 ∷ zs)) same ∙ f.complete list (32 ∷ zs) s.1 (stops zs); fits_all = good }

pub recalled : {A : Type 0} (reads : List ℕ → Option (A × List ℕ)) (fits : List A → Bool) (list : List A) (text v bytes rest after : List ℕ) (b : ℕ)
    → Remembers reads fits list text → word_at text bytes ≡ Some (v, rest) → byte_at 32 rest ≡ Some (b, after) → Recalls reads fits bytes list rest
recalled reads fits list text v bytes rest after b known word space =
    let w = (word-is text v bytes rest word).0 in
    let s = (byte-is 32 b rest after space).0 in
    (ap (listed_at reads) (w ∙ ap (λ l. text ++ l) s) ∙ known.read after ∙ ap (λ l. Some (list, l)) (sym s), known.fits_all)
