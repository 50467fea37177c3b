-- Calls: the row of a call in the walk, and a job that enters the callee and returns.
use Rattle.std.proofs.Common.{◌≡◌, ℕ, suc, List, [], ◌∷◌, ◌++◌, length, reverse, map, Option, Some, None, Ok, Err, refl, sym, ap, ◌∙◌, subst, inl, inr}
use Rattle.std.specs.Prelude.{◌⊎◌, option_map, option_and_then, Result}
use Rattle.mlk_text.specs.Lexemes.{or_else}
use Rattle.mlk_names.specs.Lists.{Among}
use Rattle.mlk_names.specs.declared.term.LockTerm.{LockTerm}
use Rattle.mlk_names.specs.declared.symbol.Sym.{Sym}
use Rattle.mlk_names.specs.Symbols.{Assignment}
use Rattle.mlk_text.specs.declared.code.Code.{Code}
use Rattle.mlk_syntax.specs.declared.expr.Callee.{Callee}
use Rattle.mlk_syntax.specs.ExprTrees.{ActualTree, Given, ByRef, Missing}
use Rattle.mlk_cert_parts.specs.declared.case.Case.{Case}
use Rattle.mlk_cert_parts.specs.declared.case.ExitCase.{ExitCase}
use Rattle.mlk_cert_parts.specs.declared.names.NameSet.{NameSet}
use Rattle.mlk_machine_jobs.specs.Calling.{count_given}
use Rattle.mlk_walk_state.specs.declared.state.State.{State}
use Rattle.mlk_walk_state.specs.Scope.{Scope}
use Rattle.mlk_walk_state.specs.Lists.{all_some}
use Rattle.mlk_walk_state.specs.Terms.{add_terms, all_taken, put_terms}
use Rattle.mlk_calls.specs.declared.call.Calling.{Calling}
use Rattle.mlk_calls.specs.Changes.{marked, changed_state, change_fault, unless}
use Rattle.mlk_calls.specs.Calls as walked
use Rattle.mlk_calls.specs.Calls.{Called, test_after, changed_by_call, leave, or_unknown, after_call, ranks_fault, call_fault, or_missing, needs_taken, with_aside, call_known}
use Rattle.mlk_walk_exprs.specs.declared.walk.Quit.{Quit}
use Rattle.mlk_walk_exprs.specs.Walks.{Outcome, Goes, Refused, all_placed}
use Rattle.mlk_walk_laws.proofs.Lists.{in_map}
use Rattle.mlk_soundness_machine.specs.Described.{Slot, Kept, Blank, Fills}
use Rattle.mlk_soundness_machine.proofs.Stack.{back_one}
use Rattle.mlk_soundness_machine.proofs.Passing.{Passed}
use Rattle.mlk_soundness_walk.proofs.Alone.{Meets}

-- what a call that is not refused implies
pub record CallRow (sc : Scope) (how : Calling) (callee : Callee) (given : List ActualTree) (syms : List Sym) (s : State) (G : State → Type 0) : Type 0 where
  pub called : Called
  pub is : walked.called sc callee ≡ Some called
  pub needs : List LockTerm
  pub aside : List LockTerm
  pub put : put_terms called.formals (map Some syms) called.summary.need ≡ Some needs
  pub taken : all_taken needs s.case.held ≡ Some aside
  pub changed : change_fault sc (changed_by_call called.summary given) s ≡ None
  pub ranked : ranks_fault sc called.summary aside ≡ None
  pub exits : (x : ExitCase) → Among x called.summary.exits
      → (terms : List LockTerm) × (put_terms called.formals (map Some (map (marked (changed_by_call called.summary given)) syms)) x.held ≡ Some terms)
      × G (record (changed_state (changed_by_call called.summary given) s) {
        case = record (changed_state (changed_by_call called.summary given) s).case { test = test_after how s.case.test x.test; held = add_terms terms aside };
      })

each_some : {A B : Type 0} (by : A → Option B) (items : List A) (found : List B) → all_some by items ≡ Some found → (a : A) → Among a items → (b : B) × (by a ≡ Some b) × Among b found
each_some by [] found h a i = absurd i
each_some {A} {B} by (x ∷ items) found h a i = on (by x) refl (all_some by items) refl h i (λ rest e j. each_some by items rest e a j)
  where
    on : (o : Option B) → by x ≡ o → (p : Option (List B)) → all_some by items ≡ p → option_and_then (λ b. option_map (λ bs. b ∷ bs) (all_some by items)) (by x) ≡ Some found → (a ≡ x) ⊎ Among a items
        → ((rest : List B) → all_some by items ≡ Some rest → Among a items → (b : B) × (by a ≡ Some b) × Among b rest) → (b : B) × (by a ≡ Some b) × Among b found
    on None e p f h i more = let z : None ≡ Some found = (rw e at h) in absurd (cc z)
    on (Some b) e None f h i more = let z : None ≡ Some found = (rw (e, f) at h) in absurd (cc z)
    on (Some b) e (Some bs) f h (inl q) more =
        let z : Some (b ∷ bs) ≡ Some found = (rw (e, f) at h) in
        let y : b ∷ bs ≡ found = cc z in
        (b, ap by q ∙ e, subst (Among b) y (inl refl))
    on (Some b) e (Some bs) f h (inr q) more =
        let z : Some (b ∷ bs) ≡ Some found = (rw (e, f) at h) in
        let y : b ∷ bs ≡ found = cc z in
        let r = more bs f q in
        (r.0, r.1, subst (Among r.0) y (inr r.2))

module _ (G : State → Type 0) (S : Case → Type 0) (Q : Quit → Type 0) (line column : ℕ) where
  abbrev Fine : Result (List State) Code → Type 0
  Fine r = (o : Outcome) → Among o (all_placed line column r) → Meets G S Q o

  not_fine : (code : Code) → Fine (Err code) → ⊥
  not_fine code f = f (Refused line column code) (inl refl)

  fine_each : (states : List State) → Fine (Ok states) → (t : State) → Among t states → G t
  fine_each states f t i = f (Goes t) (in_map Goes t states i)

  module _ (sc : Scope) (how : Calling) (callee : Callee) (given : List ActualTree) (syms : List Sym) (s : State) where
    no_fault : (c d : Option Code) → or_else c d ≡ None → (c ≡ None) × (d ≡ None)
    no_fault None d h = (refl, h)
    no_fault (Some code) d h = let z : Some code ≡ None = h in absurd (cc z)

    pub call_row : Fine (call_known sc how (walked.called sc callee) given syms s) → CallRow sc how callee given syms s G
    call_row f = on (walked.called sc callee) refl f
      where
        on : (o : Option Called) → walked.called sc callee ≡ o → Fine (call_known sc how o given syms s) → CallRow sc how callee given syms s G
        on None e f = absurd (not_fine _ f)
        on (Some c) e f = needed (put_terms c.formals (map Some syms) c.summary.need) refl f
          where
            ch : List NameSet
            ch = changed_by_call c.summary given

            needed : (o : Option (List LockTerm)) → put_terms c.formals (map Some syms) c.summary.need ≡ o
                → Fine (with_aside sc how c (changed_by_call c.summary given) syms s (needs_taken s.case.held o)) → CallRow sc how callee given syms s G
            needed None k f = absurd (not_fine _ f)
            needed (Some needs) k f = aside (all_taken needs s.case.held) refl f
              where
                aside : (o : Option (List LockTerm)) → all_taken needs s.case.held ≡ o → Fine (with_aside sc how c (changed_by_call c.summary given) syms s (or_missing o)) → CallRow sc how callee given syms s G
                aside None l f = absurd (not_fine _ f)
                aside (Some rest) l f = faulted (call_fault sc c.summary (changed_by_call c.summary given) rest s) refl f
                  where
                    faulted : (o : Option Code) → call_fault sc c.summary (changed_by_call c.summary given) rest s ≡ o
                        → Fine (unless o (after_call how c syms (changed_by_call c.summary given) rest s)) → CallRow sc how callee given syms s G
                    faulted (Some code) m f = absurd (not_fine code f)
                    faulted None m f = left (all_some (leave how c.formals (map Some (map (marked (changed_by_call c.summary given)) syms)) rest (changed_state (changed_by_call c.summary given) s)) c.summary.exits) refl f
                      where
                        left : (o : Option (List State)) → all_some (leave how c.formals (map Some (map (marked (changed_by_call c.summary given)) syms)) rest (changed_state (changed_by_call c.summary given) s)) c.summary.exits ≡ o
                            → Fine (or_unknown o) → CallRow sc how callee given syms s G
                        left None q f = absurd (not_fine _ f)
                        left (Some states) q f =
                            let n = no_fault (change_fault sc (changed_by_call c.summary given) s) (ranks_fault sc c.summary rest) m in
                            record {
                              called = c;
                              is = e;
                              needs = needs;
                              aside = rest;
                              put = k;
                              taken = l;
                              changed = n.0;
                              ranked = n.1;
                              exits = λ x i. (let r = each_some (leave how c.formals (map Some (map (marked (changed_by_call c.summary given)) syms)) rest (changed_state (changed_by_call c.summary given) s)) c.summary.exits states q x i in
                                  exit x r.0 r.1 (fine_each states f r.0 r.2));
                            }
                          where
                            exit : (x : ExitCase) (t : State) → leave how c.formals (map Some (map (marked (changed_by_call c.summary given)) syms)) rest (changed_state (changed_by_call c.summary given) s) x ≡ Some t → G t
                                → (terms : List LockTerm) × (put_terms c.formals (map Some (map (marked (changed_by_call c.summary given)) syms)) x.held ≡ Some terms)
                                × G (record (changed_state (changed_by_call c.summary given) s) {
                                  case = record (changed_state (changed_by_call c.summary given) s).case { test = test_after how s.case.test x.test; held = add_terms terms rest };
                                })
                            exit x t u g = by (put_terms c.formals (map Some (map (marked (changed_by_call c.summary given)) syms)) x.held) refl u
                              where
                                by : (o : Option (List LockTerm)) → put_terms c.formals (map Some (map (marked (changed_by_call c.summary given)) syms)) x.held ≡ o
                                    → option_map (λ terms. record (changed_state (changed_by_call c.summary given) s) { case = record (changed_state (changed_by_call c.summary given) s).case { test = test_after how s.case.test x.test; held = add_terms terms rest } }) o ≡ Some t
                                    → (terms : List LockTerm) × (put_terms c.formals (map Some (map (marked (changed_by_call c.summary given)) syms)) x.held ≡ Some terms)
                                    × G (record (changed_state (changed_by_call c.summary given) s) {
                                      case = record (changed_state (changed_by_call c.summary given) s).case { test = test_after how s.case.test x.test; held = add_terms terms rest };
                                    })
                                by None y z = let v : None ≡ Some t = z in absurd (cc v)
                                by (Some terms) y z = (terms, y, (let v : record (changed_state (changed_by_call c.summary given) s) { case = record (changed_state (changed_by_call c.summary given) s).case { test = test_after how s.case.test x.test; held = add_terms terms rest } } ≡ t = cc z in subst G (sym v) g))

-- the actuals: their symbols were captured last, and those by value have values
abbrev pub given_slots : List ActualTree → List Slot → List Slot
given_slots [] slots = slots
given_slots (Given t ∷ given) slots = given_slots given (Kept ∷ slots)
given_slots (ByRef column name ∷ given) slots = given_slots given (Blank ∷ slots)
given_slots (Missing ∷ given) slots = given_slots given (Blank ∷ slots)

pub record GivenTaken (a : Assignment) (given : List ActualTree) (slots : List Slot) (ss : List Sym) (values below : List (List ℕ)) : Type 0 where
  pub front : List Sym
  pub vals : List (List ℕ)
  pub syms : List Sym
  pub more : List (List ℕ)
  pub symbols : ss ≡ reverse front ++ syms
  pub values_are : values ≡ reverse vals ++ more
  pub count : length front ≡ length given
  pub many : length vals ≡ count_given given
  pub passed : Passed a given front vals
  pub fills : Fills a slots syms more below

pub given_taken : (a : Assignment) (given : List ActualTree) (slots : List Slot) (ss : List Sym) (values below : List (List ℕ)) → Fills a (given_slots given slots) ss values below → GivenTaken a given slots ss values below
given_taken a [] slots ss values below f = record { front = []; vals = []; syms = ss; more = values; symbols = refl; values_are = refl; count = refl; many = refl; passed = tt; fills = f }
given_taken a (Given t ∷ given) slots ss values below f = one (given_taken a given (Kept ∷ slots) ss values below f)
  where
    by : (r : GivenTaken a given (Kept ∷ slots) ss values below) (syms : List Sym) (more : List (List ℕ)) → r.syms ≡ syms → r.more ≡ more → Fills a (Kept ∷ slots) syms more below → GivenTaken a (Given t ∷ given) slots ss values below
    by r [] more e k f = absurd f
    by r (s ∷ syms) [] e k f = absurd f
    by r (s ∷ syms) (v ∷ more) e k f = record {
      front = s ∷ r.front;
      vals = v ∷ r.vals;
      syms = syms;
      more = more;
      symbols = r.symbols ∙ ap (λ z. reverse r.front ++ z) e ∙ back_one s r.front syms;
      values_are = r.values_are ∙ ap (λ z. reverse r.vals ++ z) k ∙ back_one v r.vals more;
      count = ap suc r.count;
      many = ap suc r.many;
      passed = (f.0, r.passed);
      fills = f.1;
    }

    one : GivenTaken a given (Kept ∷ slots) ss values below → GivenTaken a (Given t ∷ given) slots ss values below
    one r = by r r.syms r.more refl refl r.fills
given_taken a (ByRef column name ∷ given) slots ss values below f = one (given_taken a given (Blank ∷ slots) ss values below f)
  where
    by : (r : GivenTaken a given (Blank ∷ slots) ss values below) (syms : List Sym) → r.syms ≡ syms → Fills a (Blank ∷ slots) syms r.more below → GivenTaken a (ByRef column name ∷ given) slots ss values below
    by r [] e f = absurd f
    by r (s ∷ syms) e f = record {
      front = s ∷ r.front;
      vals = r.vals;
      syms = syms;
      more = r.more;
      symbols = r.symbols ∙ ap (λ z. reverse r.front ++ z) e ∙ back_one s r.front syms;
      values_are = r.values_are;
      count = ap suc r.count;
      many = r.many;
      passed = (f.0, r.passed);
      fills = f.1;
    }

    one : GivenTaken a given (Blank ∷ slots) ss values below → GivenTaken a (ByRef column name ∷ given) slots ss values below
    one r = by r r.syms refl r.fills
given_taken a (Missing ∷ given) slots ss values below f = one (given_taken a given (Blank ∷ slots) ss values below f)
  where
    by : (r : GivenTaken a given (Blank ∷ slots) ss values below) (syms : List Sym) → r.syms ≡ syms → Fills a (Blank ∷ slots) syms r.more below → GivenTaken a (Missing ∷ given) slots ss values below
    by r [] e f = absurd f
    by r (s ∷ syms) e f = record {
      front = s ∷ r.front;
      vals = r.vals;
      syms = syms;
      more = r.more;
      symbols = r.symbols ∙ ap (λ z. reverse r.front ++ z) e ∙ back_one s r.front syms;
      values_are = r.values_are;
      count = ap suc r.count;
      many = r.many;
      passed = (f.0, r.passed);
      fills = f.1;
    }

    one : GivenTaken a given (Blank ∷ slots) ss values below → GivenTaken a (Missing ∷ given) slots ss values below
    one r = by r r.syms refl r.fills
