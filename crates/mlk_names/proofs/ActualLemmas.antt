-- The callee's terms and the caller's denote the same names.
use Rattle.std.proofs.Common.{◌≡◌, ◌↔◌, ℕ, List, Option, sym, ◌∙◌}
use Rattle.std.specs.Prelude.{Contains, map}
use Rattle.mlk_names.specs.declared.symbol.Sym.{Sym}
use Rattle.mlk_names.specs.declared.known_symbol.KnownSym.{KnownSym}
use Rattle.mlk_names.specs.declared.known_symbol.KnownSym.TheVariants.{Const, Local, Job}
use Rattle.mlk_names.specs.declared.term.LockTerm.{LockTerm}
use Rattle.mlk_names.specs.Symbols.{Assignment, StandsFor, sym_of}
use Rattle.mlk_names.specs.Actuals.{put_in, IsCall, NamesAlike}
use Rattle.mlk_names.proofs.ListLemmas.{zip_along}

module _ (formals : List (List ℕ)) (actuals : List (Option Sym)) (t : LockTerm) (caller callee : Assignment) (call : IsCall formals actuals t caller callee) where
  stands_alike : (s u : KnownSym) (v : List ℕ) → Contains t.subs s → put_in formals actuals s ≡ sym_of u → StandsFor caller (sym_of u) v ↔ StandsFor callee (sym_of s) v
  stands_alike (Const value) u v c e = rw (← e) (λ h. h, λ h. h)
  stands_alike (Local name) u v c e = let l = call.locals name c u e v in (l.1, l.0)
  stands_alike Job u v c e = rw (← e) (λ h. h ∙ sym call.job, λ h. h ∙ call.job)

-- terms one of which is the other with the actuals substituted
pub names_alike : (formals : List (List ℕ)) (actuals : List (Option Sym)) (t u : LockTerm) → u.root ≡ t.root → map sym_of u.subs ≡ map (put_in formals actuals) t.subs → NamesAlike formals actuals t u
names_alike formals actuals t u e f caller callee n call =
    let alike = stands_alike formals actuals t caller callee call in
    let at_caller : KnownSym → List ℕ → Type 0 = λ s v. StandsFor caller (sym_of s) v in
    let at_callee : KnownSym → List ℕ → Type 0 = λ s v. StandsFor callee (sym_of s) v in (
      λ h. record {
        root = h.root ∙ e;
        subs = zip_along sym_of (put_in formals actuals) at_caller at_callee u.subs t.subs n.subs (λ s r v c k i. (alike r s v k (sym i)).0) f h.subs;
      },
      λ h. record {
        root = h.root ∙ sym e;
        subs = zip_along (put_in formals actuals) sym_of at_callee at_caller t.subs u.subs n.subs (λ r s v k c i. (alike r s v k i).1) (sym f) h.subs;
      },
    )
