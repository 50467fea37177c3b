-- The tests decide what the callee's terms are for the caller.
use Rattle.std.proofs.Common.{◌≡◌, ℕ, List, [], ◌∷◌, Option, Some, None, refl, ap, sym, ◌∙◌, ⊎_elim, arith}
use Rattle.std.specs.Prelude.{map, Contains, option_map, option_and_then}
use Rattle.mlk_names.specs.declared.symbol.Sym.{Sym}
use Rattle.mlk_names.specs.declared.symbol.Sym.TheVariants.{Unknown}
use Rattle.mlk_names.specs.declared.known_symbol.KnownSym.{KnownSym}
use Rattle.mlk_names.specs.declared.known_symbol.KnownSym.TheVariants as known
use Rattle.mlk_names.specs.declared.term.LockTerm.{LockTerm}
use Rattle.mlk_names.specs.Symbols.{known_of, sym_of}
use Rattle.mlk_names.specs.Actuals.{put_in, PutsIn}
use Rattle.mlk_rules.proofs.Computing.{in_list}
use Rattle.mlk_walk_state.specs.Terms.{all_known, put_term}

known_again : (k : KnownSym) → known_of (sym_of k) ≡ Some k
known_again (known.Const value) = refl
known_again (known.Local name) = refl
known_again known.Job = refl

all_again : (ks : List KnownSym) → all_known (map sym_of ks) ≡ Some ks
all_again [] = refl
all_again (k ∷ ks) = rw (known_again k, all_again ks) refl

unknown_among : (ss : List Sym) → Contains ss Unknown → all_known ss ≡ None
unknown_among [] c = let l = c.1 in absurd (omega arith)
unknown_among (s ∷ ss) c = ⊎_elim (λ (e : s ≡ Unknown). rw e refl) (λ d. later (known_of s) (unknown_among ss d)) (in_list s Unknown ss c)
  where
    later : (o : Option KnownSym) → all_known ss ≡ None → option_and_then (λ k. option_map (λ ks. k ∷ ks) (all_known ss)) o ≡ None
    later None e = refl
    later (Some k) e = rw e refl

pub put_term_is : (formals : List (List ℕ)) (given : List (Option Sym)) (t : LockTerm) (found : Option LockTerm) → PutsIn formals given t found → found ≡ put_term formals given t
put_term_is formals given t None h = rw (unknown_among (map (put_in formals given) t.subs) h) refl
put_term_is formals given t (Some u) h =
    let e : all_known (map (put_in formals given) t.subs) ≡ Some u.subs = ap all_known (sym h.1) ∙ all_again u.subs in
    rw e (ap (λ z. Some (record u { root = z })) h.0)
