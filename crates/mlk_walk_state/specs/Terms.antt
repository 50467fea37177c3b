-- Lists of held lock terms, each as often as it is held. Standard: LOCK (a name that is claimed again counts once more);
-- their order in the list, and ranks, are this project's own choice.
use Rattle.std.specs.Prelude.{ℕ, Bool, true, false, ◌&&◌, List, [], ◌∷◌, map, insert, remove}
use Rattle.std.specs.Prelude.{position, Option, Some, None, option_map, option_and_then, find}
use Rattle.std.specs.List.{list_any}
use Rattle.mlk_names.specs.declared.symbol.Sym.{Sym}
use Rattle.mlk_names.specs.declared.known_symbol.KnownSym.{KnownSym}
use Rattle.mlk_names.specs.declared.known_symbol.KnownSym.TheVariants as known
use Rattle.mlk_names.specs.declared.term.LockTerm.{LockTerm}
use Rattle.mlk_names.specs.Symbols.{known_of}
use Rattle.mlk_names.specs.Actuals.{put_in}
use Rattle.mlk_cert_parts.specs.declared.names.NameSet.{NameSet}
use Rattle.mlk_cert_parts.specs.TermOrder.{terms_before}
use Rattle.mlk_rules.specs.declared.family.Family.{Family}
use Rattle.mlk_rules.specs.Computed.{same_root, same_symbol, is_prefix}
use Rattle.mlk_rules.specs.Ranks.{constant_term}
use Rattle.mlk_walk_state.specs.Lists.{all_some}
use Rattle.mlk_walk_state.specs.Names.{have}

abbrev pub same_known : List KnownSym → List KnownSym → Bool
same_known [] [] = true
same_known [] (y ∷ ys) = false
same_known (x ∷ xs) [] = false
same_known (x ∷ xs) (y ∷ ys) = same_symbol x y && same_known xs ys

unfoldable pub same_term : LockTerm → LockTerm → Bool
same_term t u = same_root t.root u.root && same_known t.subs u.subs

-- inserts a term before the first whose text is not below its own
abbrev pub add_term : LockTerm → List LockTerm → List LockTerm
add_term t held = insert held (terms_before held t) t

abbrev pub add_terms : List LockTerm → List LockTerm → List LockTerm
add_terms [] held = held
add_terms (t ∷ ts) held = add_terms ts (add_term t held)

-- removes one occurrence of a term, or nothing if it isn't held
abbrev pub taken : LockTerm → List LockTerm → Option (List LockTerm)
taken t held = option_map (remove held) (position (same_term t) held)

abbrev pub all_taken : List LockTerm → List LockTerm → Option (List LockTerm)
all_taken [] held = Some held
all_taken (t ∷ ts) held = option_and_then (all_taken ts) (taken t held)

-- the first of these that is not held besides those before it
abbrev pub missing_at : LockTerm → Option (Option LockTerm) → Option LockTerm
missing_at t None = Some t
missing_at t (Some later) = later

abbrev pub first_missing : List LockTerm → List LockTerm → Option LockTerm
first_missing [] held = None
first_missing (t ∷ ts) held = missing_at t (option_map (first_missing ts) (taken t held))

-- whether a subscript is a local whose name satisfies a test
abbrev pub is_such : (List ℕ → Bool) → KnownSym → Bool
is_such test (known.Const value) = false
is_such test (known.Local name) = test name
is_such test known.Job = false

-- Whether some term mentions such a name in a subscript; its root does not count.
abbrev pub mention_such : (List ℕ → Bool) → List LockTerm → Bool
mention_such test terms = list_any (λ (t : LockTerm). list_any (is_such test) t.subs) terms

abbrev pub mention : List NameSet → List LockTerm → Bool
mention names terms = mention_such (have names) terms

-- at or below a held one
abbrev pub is_within : List LockTerm → LockTerm → Bool
is_within held t = list_any (λ h. is_prefix h t) held

-- the rank of the one family that is the term or above it
abbrev pub rank_of : List Family → LockTerm → Option ℕ
rank_of families t =
    option_map (λ (f : Family). f.rank) (find (λ (f : Family). is_prefix (constant_term f.name) t) families)

-- symbols that are all known
abbrev pub all_known : List Sym → Option (List KnownSym)
all_known symbols = all_some known_of symbols

-- A callee's term, translated for its caller: none if a subscript would become unknown. Standard: parameter passing.
abbrev pub put_term : List (List ℕ) → List (Option Sym) → LockTerm → Option LockTerm
put_term formals given t =
    option_map (λ subs. record { root = t.root; subs = subs }) (all_known (map (put_in formals given) t.subs))

abbrev pub put_terms : List (List ℕ) → List (Option Sym) → List LockTerm → Option (List LockTerm)
put_terms formals given terms = all_some (put_term formals given) terms
