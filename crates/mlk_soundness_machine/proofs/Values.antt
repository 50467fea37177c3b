-- Values: what each task of an expression leaves on a job's stack.
use Rattle.std.proofs.Common.{◌≡◌, ℕ, Bool, true, false, List, ◌∷◌, ◌++◌, drop, Option, Some, None, Ok, refl, sym, ap, ◌∙◌, subst, ⊎_elim}
use Rattle.std.specs.Prelude.{bytes_eq, codes, if◌then◌else◌, not, option_map, ◌&&◌}
use Rattle.std.specs.Fmt.{decimal}
use Rattle.std.proofs.lemmas.Bool.{cases_Bool, and_parts}
use Rattle.std.proofs.lemmas.Slice.Eq.{bytes_eq-Decides}
use Rattle.mlk_text.specs.declared.operator.Op.{Op}
use Rattle.mlk_text.specs.declared.operator.UnaryOp.{UnaryOp}
use Rattle.mlk_text.specs.declared.operator.UnaryOp.TheVariants.{Plus, Minus, Not}
use Rattle.mlk_names.specs.declared.lock_name.LockName.{LockName}
use Rattle.mlk_names.specs.declared.symbol.Sym.{Sym}
use Rattle.mlk_names.specs.declared.symbol.Sym.TheVariants as known
use Rattle.mlk_names.specs.Symbols.{Assignment, StandsFor}
use Rattle.mlk_cert_parts.specs.declared.case.Test.{Test}
use Rattle.mlk_cert_parts.specs.declared.case.Test.TheVariants.{Any, Zero, One}
use Rattle.mlk_syntax.specs.ExprTrees.{Tree, Lit, LocalName, SpecialName, Prefixed, no_subs}
use Rattle.mlk_syntax.specs.declared.expr.Special.TheVariants as special
use Rattle.mlk_syntax.specs.Trees.{RoutineTree}
use Rattle.mlk_machine_jobs.specs.declared.choice.Choice.{Choice}
use Rattle.mlk_machine_jobs.specs.Bindings.{look}
use Rattle.mlk_machine_jobs.specs.Tasks as task
use Rattle.mlk_machine_jobs.specs.Tasks.{Task, Job}
use Rattle.mlk_numbers.specs.Operators.{truth_of_text, fold_before, fold_between, opposite}
use Rattle.mlk_machine_jobs.specs.Expressions.{parts_of}
use Rattle.mlk_machine_jobs.specs.Choices.{pushed, dropped, doing, fetched, test_text}
use Rattle.mlk_machine_jobs.specs.Advance.{advance}
use Rattle.mlk_walk_state.specs.declared.state.State.{State}
use Rattle.mlk_walk_state.specs.Scope.{Scope}
use Rattle.mlk_walk_state.specs.Symbols.{constant_if, before_symbol, after_constant, between_symbols, local_symbol, symbol_of, truth_of_symbol, before_truth, truth_in}
use Rattle.mlk_walk_state.specs.Cases.{known_test}
use Rattle.mlk_soundness_machine.specs.Frames.{Agrees}
use Rattle.mlk_soundness_machine.specs.Reads.{now}
use Rattle.mlk_soundness_machine.specs.Described.{World, Level, Slot, Bare, idle, Describes}
use Rattle.mlk_soundness_machine.proofs.Known.{IsConstant, IsTruth, KnowsBy, Knows}
use Rattle.mlk_soundness_machine.specs.Safe.{SafeIn, Fit, is_plain, is_steady}
use Rattle.mlk_soundness_machine.proofs.Reading.{differs}
use Rattle.mlk_soundness_machine.proofs.Worlds.{push_law, drop_law, know_law, is_known}
use Rattle.mlk_soundness_machine.proofs.Steps.{Comes, done, refused, unasked, of_last, of_result}
use Rattle.mlk_soundness_machine.proofs.Going.{step}
use Rattle.mlk_soundness_machine.proofs.Facts.{plain_facts}

constant_of : (o : Option (List ℕ)) (r : List ℕ) → ((c : List ℕ) → o ≡ Some c → r ≡ c) → IsConstant (constant_if o) r
constant_of None r h = tt
constant_of (Some c) r h = h c refl

unary_constant : (op : UnaryOp) (s : Sym) (a r : List ℕ) → IsConstant s a → ((u : List ℕ) → fold_before op a ≡ Some u → r ≡ u) → IsConstant (before_symbol op s) r
unary_constant op (known.Const c) a r h k = constant_of (fold_before op c) r (λ u e. k u (subst (λ z. fold_before op z ≡ Some u) (sym h) e))
unary_constant op (known.Local n) a r h k = tt
unary_constant op known.Job a r h k = tt
unary_constant op known.Unknown a r h k = tt

after_const : (op : Op) (c : List ℕ) (t : Sym) (a b r : List ℕ) → a ≡ c → IsConstant t b → ((u : List ℕ) → fold_between op a b ≡ Some u → r ≡ u) → IsConstant (after_constant op c t) r
after_const op c (known.Const d) a b r e h k =
    constant_of (fold_between op c d) r (λ u f. k u (subst (λ z. fold_between op z b ≡ Some u) (sym e) (subst (λ z. fold_between op c z ≡ Some u) (sym h) f)))
after_const op c (known.Local n) a b r e h k = tt
after_const op c known.Job a b r e h k = tt
after_const op c known.Unknown a b r e h k = tt

binary_constant : (op : Op) (s t : Sym) (a b r : List ℕ) → IsConstant s a → IsConstant t b → ((u : List ℕ) → fold_between op a b ≡ Some u → r ≡ u) → IsConstant (between_symbols op s t) r
binary_constant op (known.Const c) t a b r h i k = after_const op c t a b r h i k
binary_constant op (known.Local n) t a b r h i k = tt
binary_constant op known.Job t a b r h i k = tt
binary_constant op known.Unknown t a b r h i k = tt

-- a symbol that an operator yields is constant or unknown
constant_stands : (w : Assignment) (o : Option (List ℕ)) (r : List ℕ) → IsConstant (constant_if o) r → StandsFor w (constant_if o) r
constant_stands w None r h = tt
constant_stands w (Some c) r h = h

before_stands : (w : Assignment) (op : UnaryOp) (s : Sym) (r : List ℕ) → IsConstant (before_symbol op s) r → StandsFor w (before_symbol op s) r
before_stands w op (known.Const c) r h = constant_stands w (fold_before op c) r h
before_stands w op (known.Local n) r h = tt
before_stands w op known.Job r h = tt
before_stands w op known.Unknown r h = tt

after_stands : (w : Assignment) (op : Op) (c : List ℕ) (t : Sym) (r : List ℕ) → IsConstant (after_constant op c t) r → StandsFor w (after_constant op c t) r
after_stands w op c (known.Const d) r h = constant_stands w (fold_between op c d) r h
after_stands w op c (known.Local n) r h = tt
after_stands w op c known.Job r h = tt
after_stands w op c known.Unknown r h = tt

between_stands : (w : Assignment) (op : Op) (s t : Sym) (r : List ℕ) → IsConstant (between_symbols op s t) r → StandsFor w (between_symbols op s t) r
between_stands w op (known.Const c) t r h = after_stands w op c t r h
between_stands w op (known.Local n) t r h = tt
between_stands w op known.Job t r h = tt
between_stands w op known.Unknown t r h = tt

-- truths
truth_is : (o : Option Bool) (v : List ℕ) → truth_of_text v ≡ o → IsTruth o v
truth_is None v h = tt
truth_is (Some t) v h = h

text_of_truth : (v : List ℕ) (t : Bool) → truth_of_text v ≡ Some t → v ≡ test_text t
text_of_truth v t h = on (bytes_eq v (codes "0")) refl (bytes_eq v (codes "1")) refl t h
  where
    on : (x : Bool) → bytes_eq v (codes "0") ≡ x → (y : Bool) → bytes_eq v (codes "1") ≡ y → (t : Bool)
        → (if x then Some false else if y then Some true else None) ≡ Some t → v ≡ test_text t
    on true e y d true h = cc
    on true e y d false h = (bytes_eq-Decides v (codes "0")).0 e
    on false e true d true h = (bytes_eq-Decides v (codes "1")).0 d
    on false e true d false h = cc
    on false e false d t h = cc

pub symbol_truth : (s : Sym) (v : List ℕ) → IsConstant s v → IsTruth (truth_of_symbol s) v
symbol_truth (known.Const c) v h = subst (IsTruth (truth_of_text c)) (sym h) (truth_is (truth_of_text c) c refl)
symbol_truth (known.Local n) v h = tt
symbol_truth known.Job v h = tt
symbol_truth known.Unknown v h = tt

not_truth : (o : Option Bool) (a r : List ℕ) → IsTruth o a → ((u : List ℕ) → fold_before Not a ≡ Some u → r ≡ u) → IsTruth (option_map not o) r
unfolding fold_before
not_truth None a r h k = tt
not_truth (Some true) a r h k =
    let e : r ≡ codes "0" = k (codes "0") (subst (λ z. opposite z ≡ Some (codes "0")) (sym (text_of_truth a true h)) refl) in
    subst (λ z. truth_of_text z ≡ Some false) (sym e) refl
not_truth (Some false) a r h k =
    let e : r ≡ codes "1" = k (codes "1") (subst (λ z. opposite z ≡ Some (codes "1")) (sym (text_of_truth a false h)) refl) in
    subst (λ z. truth_of_text z ≡ Some true) (sym e) refl

prefixed_truth : (op : UnaryOp) (s : Sym) (o : Option Bool) (a r : List ℕ) → IsTruth o a → IsConstant s r → ((u : List ℕ) → fold_before op a ≡ Some u → r ≡ u) → IsTruth (before_truth op s o) r
prefixed_truth Not s o a r h i k = not_truth o a r h k
prefixed_truth Plus s o a r h i k = symbol_truth s r i
prefixed_truth Minus s o a r h i k = symbol_truth s r i

test_truth : (t : Test) (b : Bool) → Agrees t b → IsTruth (known_test t) (test_text b)
test_truth Any b h = tt
test_truth Zero true h = differs true refl h
test_truth Zero false h = refl
test_truth One true h = refl
test_truth One false h = differs false h refl

module _ (routines : List RoutineTree) (sc : Scope) (w : World) (b : Level) where
  abbrev pub Safe : ℕ → Job → Type 0
  Safe = SafeIn routines sc w b

  abbrev pub Fits : List Slot → ℕ → List Task → State → Type 0
  Fits = Fit routines sc w b

  -- each job with one more value, about which this is known, is safe
  abbrev pub FitsBy : ((List ℕ → Bool) → Sym) → List Slot → ℕ → List Task → State → Type 0
  FitsBy by slots n ts s = (j : Job) (v : List ℕ) (more : List (List ℕ)) → Describes sc w b (Bare None ∷ slots) s (idle j) → j.values ≡ v ∷ more
      → KnowsBy sc s by (now j) v → j.tasks ≡ ts → Safe n j

  abbrev pub FitsValue : Tree → List Slot → ℕ → List Task → State → Type 0
  FitsValue t slots n ts s = (j : Job) (v : List ℕ) (more : List (List ℕ)) → Describes sc w b (Bare None ∷ slots) s (idle j) → j.values ≡ v ∷ more
      → Knows sc s t (now j) v → j.tasks ≡ ts → Safe n j

  module _ (slots : List Slot) (n : ℕ) (ts : List Task) (s : State) where
    -- a plain task
    pub plain_step : (t : Task) → (is_plain t && is_steady t) ≡ true → (j : Job) → j.tasks ≡ t ∷ ts
        → ((free : LockName → Bool) (c : Choice) → Comes (Safe n) (advance routines free c j (t ∷ ts))) → Safe n j
    plain_step t h j e k =
        let both = and_parts (is_plain t) (is_steady t) h in
        step routines sc w b n j t ts e both.1 (plain_facts sc w b j t ts e both.0) k

    pub expand : (t : Tree) → Fits slots n (parts_of t ++ ts) s → Fits slots n (task.Evaluate t ∷ ts) s
    expand t f j d e = plain_step (task.Evaluate t) refl j e (λ free c.
        unasked (Safe n) c (Ok (doing (parts_of t ++ ts) j)) (done (Safe n) (doing (parts_of t ++ ts) j) (f (doing (parts_of t ++ ts) j) d refl)))

    pub literal : (value : List ℕ) → FitsValue (Lit value) slots n ts s → Fits slots n (task.Evaluate (Lit value) ∷ ts) s
    literal value k = expand (Lit value) (λ j d e. plain_step (task.Push value) refl j e (λ free c.
        unasked (Safe n) c (Ok (doing ts (pushed value j))) (done (Safe n) (doing ts (pushed value j))
        (k (doing ts (pushed value j)) value j.values (push_law sc w b slots s (idle j) d value) refl
        (record { symbol = record { constant = λ shared. refl; stands = refl }; truth = truth_is (truth_of_text value) value refl }) refl))))

    -- a local without subscripts
    local_knows : (name : List ℕ) (j : Job) (v : List ℕ) → j.cells (look j.bindings name) ≡ Some v → (shared : List ℕ → Bool)
        → IsConstant (local_symbol (shared name) name no_subs) v × StandsFor (now j) (local_symbol (shared name) name no_subs) v
    local_knows name j v e shared =
        ⊎_elim (λ (u : shared name ≡ true). rw u (tt, tt)) (λ (u : shared name ≡ false). rw u (tt, e)) (cases_Bool (shared name))

    pub local : (name : List ℕ) → FitsValue (LocalName name no_subs) slots n ts s → Fits slots n (task.Evaluate (LocalName name no_subs) ∷ ts) s
    local name k = expand (LocalName name no_subs) (λ j d e. plain_step (task.Fetch name) refl j e (λ free c.
        unasked (Safe n) c (fetched j ts (j.cells (look j.bindings name))) (by j d (j.cells (look j.bindings name)) refl)))
      where
        by : (j : Job) → Describes sc w b slots s (idle j) → (o : Option (List ℕ)) → j.cells (look j.bindings name) ≡ o → Comes (Safe n) (fetched j ts o)
        by j d None e = refused (Safe n) _
        by j d (Some v) e = done (Safe n) (doing ts (pushed v j))
            (k (doing ts (pushed v j)) v j.values (push_law sc w b slots s (idle j) d v) refl
            (record {
              symbol = record {
                constant = λ shared. (local_knows name j v e shared).0;
                stands = (local_knows name j v e (sc.is_shared s.case.own)).1;
              };
              truth = tt;
            }) refl)

    pub test : FitsValue (SpecialName special.Test) slots n ts s → Fits slots n (task.Evaluate (SpecialName special.Test) ∷ ts) s
    test k = expand (SpecialName special.Test) (λ j d e. plain_step task.PushTest refl j e (λ free c.
        unasked (Safe n) c (Ok (doing ts (pushed (test_text j.test) j))) (done (Safe n) (doing ts (pushed (test_text j.test) j))
        (k (doing ts (pushed (test_text j.test) j)) (test_text j.test) j.values (push_law sc w b slots s (idle j) d (test_text j.test)) refl
        (record { symbol = record { constant = λ shared. tt; stands = tt }; truth = test_truth s.case.test j.test d.stands.test }) refl))))

    pub number : FitsValue (SpecialName special.Job) slots n ts s → Fits slots n (task.Evaluate (SpecialName special.Job) ∷ ts) s
    number k = expand (SpecialName special.Job) (λ j d e. plain_step task.PushJob refl j e (λ free c.
        unasked (Safe n) c (Ok (doing ts (pushed (decimal j.number) j))) (done (Safe n) (doing ts (pushed (decimal j.number) j))
        (k (doing ts (pushed (decimal j.number) j)) (decimal j.number) j.values (push_law sc w b slots s (idle j) d (decimal j.number)) refl
        (record { symbol = record { constant = λ shared. tt; stands = refl }; truth = tt }) refl))))

    -- the last value is used, and replaced by another
    pub replace_law : (j : Job) (v : List ℕ) (more : List (List ℕ)) (r : List ℕ) → Describes sc w b (Bare None ∷ slots) s (idle j) → j.values ≡ v ∷ more
        → Describes sc w b (Bare None ∷ slots) s (idle (pushed r (dropped 1 j)))
    replace_law j v more r d e =
        subst (λ z. Describes sc w b (Bare None ∷ slots) s (record (idle j) { values = r ∷ z })) (sym (ap (drop 1) e))
        (push_law sc w b slots s (record (idle j) { values = more }) (drop_law sc w b None slots s (idle j) d v more e) r)

    pub unary : (op : UnaryOp) (t : Tree) → FitsValue (Prefixed op t) slots n ts s → FitsValue t slots n (task.ApplyUnary op ∷ ts) s
    unary op t k j v more d e knows tasks = plain_step (task.ApplyUnary op) refl j tasks (λ free c.
        of_last (Safe n) j.values _ (λ a rest ea.
        let same : a ≡ v = (let z : a ∷ rest ≡ v ∷ more = sym ea ∙ e in cc) in
        of_result (Safe n) c (fold_before op a) _ (λ r given.
        let from : (u : List ℕ) → fold_before op v ≡ Some u → r ≡ u = (λ u h. given u (subst (λ z. fold_before op z ≡ Some u) (sym same) h)) in
        let constant : (shared : List ℕ → Bool) → IsConstant (before_symbol op (symbol_of shared t)) r = (λ shared. unary_constant op (symbol_of shared t) v r (knows.symbol.constant shared) from) in
        done (Safe n) (doing ts (pushed r (dropped 1 j)))
        (k (doing ts (pushed r (dropped 1 j))) r (drop 1 j.values) (replace_law j v more r d e) refl
        (record {
          symbol = record { constant = constant; stands = before_stands (now j) op (symbol_of (sc.is_shared s.case.own) t) r (constant (sc.is_shared s.case.own)) };
          truth = prefixed_truth op (before_symbol op (symbol_of (sc.is_shared s.case.own) t)) (truth_in sc t s) v r knows.truth (constant (sc.is_shared s.case.own)) from;
        }) refl))))

    -- an operator between two values, the first of which is known
    pub binary : (op : Op) (by : (List ℕ → Bool) → Sym) (v : List ℕ) (t : Tree) → ((shared : List ℕ → Bool) → IsConstant (by shared) v)
        → FitsBy (λ shared. between_symbols op (by shared) (symbol_of shared t)) slots n ts s
        → FitsValue t (Bare (Some v) ∷ slots) n (task.ApplyBinary op ∷ ts) s
    binary op by v t is k j u more d e knows tasks = plain_step (task.ApplyBinary op) refl j tasks (λ free c.
        of_last (Safe n) j.values _ (λ y rest ey.
        of_last (Safe n) (drop 1 j.values) _ (λ x below ex.
        of_result (Safe n) c (fold_between op x y) _ (λ r given.
        let same : y ≡ u = (let z : y ∷ rest ≡ u ∷ more = sym ey ∙ e in cc) in
        let tail : more ≡ x ∷ below = sym (ap (drop 1) e) ∙ ex in
        let less : Describes sc w b (Bare (Some v) ∷ slots) s (record (idle j) { values = more }) = drop_law sc w b None (Bare (Some v) ∷ slots) s (idle j) d u more e in
        let first : x ≡ v = is_known sc w b (Some v) slots s (record (idle j) { values = more }) less x below tail in
        let least : Describes sc w b slots s (record (idle j) { values = below }) = drop_law sc w b (Some v) slots s (record (idle j) { values = more }) less x below tail in
        let from : (z : List ℕ) → fold_between op v u ≡ Some z → r ≡ z = (λ z h. given z (subst (λ q. fold_between op q y ≡ Some z) (sym first) (subst (λ q. fold_between op v q ≡ Some z) (sym same) h))) in
        let constant : (shared : List ℕ → Bool) → IsConstant (between_symbols op (by shared) (symbol_of shared t)) r = (λ shared. binary_constant op (by shared) (symbol_of shared t) v u r (is shared) (knows.symbol.constant shared) from) in
        let stack : drop 2 j.values ≡ below = (ap (drop 2) e ∙ ap (drop 1) tail) in
        done (Safe n) (doing ts (pushed r (dropped 2 j)))
        (k (doing ts (pushed r (dropped 2 j))) r (drop 2 j.values)
        (subst (λ z. Describes sc w b (Bare None ∷ slots) s (record (idle j) { values = r ∷ z })) (sym stack) (push_law sc w b slots s (record (idle j) { values = below }) least r))
        refl
        (record { constant = constant; stands = between_stands (now j) op (by (sc.is_shared s.case.own)) (symbol_of (sc.is_shared s.case.own) t) r (constant (sc.is_shared s.case.own)) })
        refl)))))

    -- any value instead of several
    pub remember : (by : (List ℕ → Bool) → Sym) (j : Job) (v : List ℕ) (more : List (List ℕ)) → Describes sc w b (Bare None ∷ slots) s (idle j) → j.values ≡ v ∷ more
        → Describes sc w b (Bare (Some v) ∷ slots) s (idle j)
    remember by j v more d e = know_law sc w b None slots s (idle j) d v more e (Some v) refl
