-- Constants, spelled like subscripts of terms.
use Rattle.std.proofs.Common.{◌≡◌, ◌++◌, ℕ, List, [], ◌∷◌, map, refl, ap, append_assoc}
use Rattle.mlk_names.specs.declared.known_symbol.KnownSym.TheVariants.{Const}
use Rattle.mlk_names.specs.declared.lock_name.LockName.{LockName}
use Rattle.mlk_cert_lexemes.specs.Lists.{more}
use Rattle.mlk_cert_lexemes.specs.Texts.{constant_text, root_text, subs_text, symbol_text}
use Rattle.mlk_machine_view.specs.StateTexts.{name_text}
use Rattle.mlk_machine_view.specs.Spelling.{constants_in}

more_values : (vs : List (List ℕ)) → more 44 constant_text vs ≡ more 44 symbol_text (map Const vs)
more_values [] = refl
more_values (v ∷ vs) = ap (λ t. 44 ∷ (constant_text v ++ t)) (more_values vs)

pub values_as_subs : (vs : List (List ℕ)) → constants_in constant_text vs ≡ subs_text (map Const vs)
values_as_subs [] = refl
values_as_subs (v ∷ vs) = ap (λ t. 40 ∷ (constant_text v ++ (t ++ 41 ∷ []))) (more_values vs)

pub name_written : (old rooted new : List ℕ) (n : LockName) (vs : List (List ℕ)) → vs ≡ n.subs
    → rooted ≡ old ++ root_text n.root → new ≡ rooted ++ constants_in constant_text vs → new ≡ old ++ name_text n
name_written old rooted new n vs same root subs = rw (subs, root, same, values_as_subs n.subs)
    (append_assoc old (root_text n.root) (subs_text (map Const n.subs)))
