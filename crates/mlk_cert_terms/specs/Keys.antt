-- Keys of the set of terms, and places of numbers. For private clauses alone.
use Rattle.std.specs.Prelude.{ℕ, nat_lt, List, map}
use Rattle.std.specs.List.{prefix_len}
use Rattle.mlk_text.specs.declared.root.Root.{Root}
use Rattle.mlk_text.specs.declared.root.Root.TheVariants as root
use Rattle.mlk_names.specs.declared.term.LockTerm.{LockTerm}
use Rattle.mlk_cert_terms.specs.declared.key.TermKey.{TermKey}

-- the name of a root
abbrev pub root_name : Root → List ℕ
root_name (root.Global name) = name
root_name (root.Local name) = name

-- the terms of keys
abbrev pub terms_in : List TermKey → List LockTerm
terms_in keys = map (λ k. k.term) keys

-- how many numbers are before the first that is not below this one
abbrev pub numbers_before : List ℕ → ℕ → ℕ
numbers_before ns n = prefix_len (λ m. nat_lt m n) ns
