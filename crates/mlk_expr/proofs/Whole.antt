-- Whole expressions, names with subscripts, and actual lists.
use Rattle.std.proofs.Common.{◌≡◌, ℕ, List, ◌∷◌, Some, None, refl, sym, subst, inl, inr}
use Rattle.std.specs.Prelude.{Option}
use Rattle.std.proofs.lemmas.Bool.{cases_Bool}
use Rattle.mlk_text.specs.Lexemes.{byte_at}
use Rattle.mlk_text.proofs.Lexemes.{byte-is}
use Rattle.mlk_text.proofs.Readers.{After, after-one, after_then, Exact}
use Rattle.mlk_expr.specs.declared.context.Passing.TheVariants.{ByReference}
use Rattle.mlk_syntax.specs.ExprTrees.{ActualTree}
use Rattle.mlk_expr_tokens.specs.Lexemes.{starts_reference}
use Rattle.mlk_expr.proofs.Followed.{IsPattern, IsChain, IsActuals, IsAtom, IsReference, IsActualList}
use Rattle.mlk_expr.specs.Reading.{pattern_at, chain_with, actuals_with, atom_at, reference_at, after_open, actual_list_at}
use Rattle.mlk_expr.proofs.Arguments.{actuals-exact}
use Rattle.mlk_expr.proofs.Operands.{atom-exact, expr-exact}

pub reference-exact : (end : ℕ) → Exact (reference_at end) (IsReference end)
unfolding reference_at IsReference
reference-exact end = record {
  sound = λ t xs ys h. elim (cases_Bool (starts_reference xs)) [
    | inl s ↦ ((atom-exact end 64).sound t xs ys (rw s at h), s)
    | inr s ↦ cc (rw s at h)
  ];
  complete = λ t xs ys h. rw (h.1) ((atom-exact end 64).complete t xs ys h.0);
  after = λ t xs ys h. (atom-exact end 64).after t xs ys h.0;
}

pub actual_list-exact : (end : ℕ) → Exact (actual_list_at end) (IsActualList end)
unfolding actual_list_at IsActualList
actual_list-exact end = by-list (actuals-exact end (chain_with (atom_at end 63) (pattern_at 63)) (IsChain (IsAtom end 63) (IsPattern 63)) (expr-exact end 63))
  where
    by-list : Exact (actuals_with ByReference end (chain_with (atom_at end 63) (pattern_at 63))) (IsActuals end (IsChain (IsAtom end 63) (IsPattern 63))) → Exact (actual_list_at end) (IsActualList end)
    by-list l = record {
      sound = λ given xs ys h. go given xs ys (byte_at 40 xs) refl h;
      complete = λ given xs ys (m, is, list). rw is (l.complete given m ys list);
      after = λ given xs ys (m, is, list). subst (λ z. After ys z) (sym is) (after_then (40 ∷ m) m ys (after-one 40 m) (l.after given m ys list));
    }
      where
        go : (given : List ActualTree) (xs ys : List ℕ) (o : Option (ℕ × List ℕ)) → byte_at 40 xs ≡ o → after_open end o ≡ Some (given, ys)
            → (m : List ℕ) × (xs ≡ 40 ∷ m) × IsActuals end (IsChain (IsAtom end 63) (IsPattern 63)) given m ys
        go given xs ys None b h = cc h
        go given xs ys (Some o) b h = (o.1, byte-is 40 o.0 xs o.1 b, l.sound given o.1 ys h)
