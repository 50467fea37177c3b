-- Names of locals, one or infinitely many: those that may change, and those that are own. Standard: NEW, KILL (a list of names in
-- parentheses means all except these); that a certificate lists them is this project's own choice.
use Rattle.std.specs.Prelude.{ℕ, Bool, false, not, ◌||◌, List, filter, bytes_eq}
use Rattle.std.specs.List.{list_any, list_all}
use Rattle.mlk_cert_parts.specs.declared.names.NameSet.{NameSet}
use Rattle.mlk_cert_parts.specs.declared.names.NameSet.TheVariants.{Only, AllBut}
use Rattle.mlk_cert_parts.specs.declared.names.Own.{Own}

unfoldable pub is_among : List (List ℕ) → List ℕ → Bool
is_among names name = list_any (bytes_eq name) names

-- one name, or all except these
abbrev pub has : NameSet → List ℕ → Bool
has (Only n) name = bytes_eq n name
has (AllBut names) name = not (is_among names name)

unfoldable pub have : List NameSet → List ℕ → Bool
have sets name = list_any (λ s. has s name) sets

-- A name is own if it was created since the frame began, at any level, and still exists.
abbrev pub is_own : List Own → List ℕ → Bool
is_own own name = list_any (λ (o : Own). has o.names name) own

-- all names but some, each of which is in the list
unfoldable pub spares : List (List ℕ) → NameSet → Bool
spares names (Only n) = false
spares names (AllBut others) = list_all (is_among names) others

-- Whether names may change: they are own, or the entry's summary lists them. All names but some may change if one item covers
-- them all: of the own names, or of the summary's list.
abbrev pub may_change : List Own → List NameSet → NameSet → Bool
may_change own mods (Only name) = is_own own name || have mods name
may_change own mods (AllBut names) = list_any (λ (o : Own). spares names o.names) own || list_any (spares names) mods

-- the names except the changed ones
abbrev pub without : List NameSet → List (List ℕ) → List (List ℕ)
without changed names = filter (λ n. not (have changed n)) names
