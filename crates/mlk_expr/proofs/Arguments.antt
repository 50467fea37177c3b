-- Actuals, calls and arguments are read exactly if their parts are.
use Rattle.std.proofs.Common.{◌≡◌, ℕ, suc, List, [], ◌∷◌, length, Some, None, true, false, refl, sym, ap, ◌∙◌, arith, subst, inl, inr, leb-true, le-leb}
use Rattle.std.specs.Prelude.{Option, nat_le}
use Rattle.std.proofs.lemmas.Bool.{cases_Bool}
use Rattle.mlk_text.specs.Reading.{many, Many}
use Rattle.mlk_text.specs.Lexemes.{byte_at, name_at, label_at}
use Rattle.mlk_text.proofs.Lexemes.{byte-is, byte-takes, name-after}
use Rattle.mlk_text.proofs.Readers.{then_some, pair_parts, with_some, After, after-self, after-one, after_then, Exact, many_sound, many_after, many_complete}
use Rattle.mlk_syntax.specs.ExprTrees.{Tree, ActualTree, Given, ByRef, Missing}
use Rattle.mlk_syntax.specs.declared.expr.Callee.{Callee}
use Rattle.mlk_syntax.specs.declared.expr.Function.{Function}
use Rattle.mlk_expr.specs.declared.context.Allows.TheVariants.{NoTouches}
use Rattle.mlk_expr.specs.declared.context.Passing.TheVariants.{ByReference}
use Rattle.mlk_expr.specs.Touches.{may_stand}
use Rattle.mlk_expr_tokens.specs.Lexemes.{column_of, lent_at, is_missing, starts_reference}
use Rattle.mlk_expr.specs.Grammar.{takes}
use Rattle.mlk_expr.proofs.Followed.{Quiet, Next, IsList, IsActual, IsActuals, IsArguments, IsChoice, IsCallee}
use Rattle.mlk_expr.specs.Reading.{quietly, next, list_with, actual_by, actual_with, actuals_by, actuals_with, label_alone, label_in, routine_alone, routine_by, callee_by, callee_at, choice_with, others_by, name_and, arguments_by}
use Rattle.mlk_expr.proofs.LexemeLemmas.{label-after, lent-after, label-caret}
use Rattle.mlk_expr.proofs.Parts.{kept-exact, next-exact, list-exact}

pub actual-exact : (end : ℕ) (read : List ℕ → Option (Tree × List ℕ)) (Is : Tree → List ℕ → List ℕ → Type 0) → Exact read Is → Exact (actual_with ByReference end read) (IsActual end Is)
unfolding actual_with
actual-exact end read Is e = record { sound = λ a xs ys h. go a xs ys (lent_at xs) refl h; complete = done; after = back }
  where
    go : (a : ActualTree) (xs ys : List ℕ) (o : Option (List ℕ × List ℕ)) → lent_at xs ≡ o → actual_by ByReference end read xs o ≡ Some (a, ys) → IsActual end Is a xs ys
    go a xs ys (Some n) is h = let p = pair_parts (ByRef (column_of end xs) n.0) a n.1 ys h in subst (λ u. IsActual end Is u xs ys) p.0 (refl, is ∙ ap (λ l. Some (n.0, l)) p.1)
    go a xs ys None is h = elim (cases_Bool (is_missing xs)) [
      | inl l ↦ let p = pair_parts Missing a xs ys (rw l at h) in subst (λ u. IsActual end Is u xs ys) p.0 (p.1, is, l)
      | inr l ↦ let w = with_some Given (read xs) a ys (rw l at h) in subst (λ u. IsActual end Is u xs ys) (sym w.2) (e.sound w.0 xs ys w.1, is, l)
    ]

    done : (a : ActualTree) (xs ys : List ℕ) → IsActual end Is a xs ys → actual_by ByReference end read xs (lent_at xs) ≡ Some (a, ys)
    done (ByRef column n) xs ys (at, h) = rw h (ap (λ z. Some (ByRef z n, ys)) (sym at))
    done Missing xs ys (same, none, out) = rw none (rw out (ap (λ l. Some (Missing, l)) same))
    done (Given t) xs ys (is, none, out) = rw none (rw out (rw (e.complete t xs ys is) refl))

    back : (a : ActualTree) (xs ys : List ℕ) → IsActual end Is a xs ys → After ys xs
    back (ByRef column n) xs ys (at, h) = lent-after n xs ys h
    back Missing xs ys (same, none, out) = subst (λ l. After l xs) same (after-self xs)
    back (Given t) xs ys (is, none, out) = e.after t xs ys is

pub actuals-exact : (end : ℕ) (read : List ℕ → Option (Tree × List ℕ)) (Is : Tree → List ℕ → List ℕ → Type 0) → Exact read Is → Exact (actuals_with ByReference end read) (IsActuals end Is)
unfolding actuals_with
actuals-exact end read Is e = by-list (list-exact (actual_with ByReference end read) (IsActual end Is) (actual-exact end read Is e))
  where
    by-list : Exact (list_with (actual_with ByReference end read)) (IsList (IsActual end Is)) → Exact (actuals_with ByReference end read) (IsActuals end Is)
    by-list l = record { sound = λ given xs ys h. go given xs ys (byte_at 41 xs) refl h; complete = done; after = back }
      where
        filled : (given : List ActualTree) (xs ys : List ℕ) → IsList (IsActual end Is) given xs ys → byte_at 41 xs ≡ None → IsActuals end Is given xs ys
        filled [] xs ys (first, others, n, one, more, f) none = cc f
        filled (a ∷ more) xs ys is none = (is, none)

        go : (given : List ActualTree) (xs ys : List ℕ) (o : Option (ℕ × List ℕ)) → byte_at 41 xs ≡ o → actuals_by ByReference end read xs o ≡ Some (given, ys) → IsActuals end Is given xs ys
        go given xs ys (Some c) is h = let p = pair_parts [] given c.1 ys h in subst (λ u. IsActuals end Is u xs ys) p.0 (byte-is 41 c.0 xs c.1 is ∙ ap (λ z. 41 ∷ z) p.1)
        go given xs ys None is h = filled given xs ys (l.sound given xs ys h) is

        done : (given : List ActualTree) (xs ys : List ℕ) → IsActuals end Is given xs ys → actuals_by ByReference end read xs (byte_at 41 xs) ≡ Some (given, ys)
        done [] xs ys h = rw h refl
        done (a ∷ more) xs ys (is, none) = rw none (l.complete (a ∷ more) xs ys is)

        back : (given : List ActualTree) (xs ys : List ℕ) → IsActuals end Is given xs ys → After ys xs
        back [] xs ys h = subst (λ z. After ys z) (sym h) (after-one 41 ys)
        back (a ∷ more) xs ys (is, none) = l.after (a ∷ more) xs ys is

-- what a call names
abbrev pub CalleeIs : Callee → List ℕ → List ℕ → Type 0
CalleeIs c xs ys = IsCallee c.label c.routine xs ys

pub callee-exact : Exact callee_at CalleeIs
unfolding callee_at
callee-exact = record { sound = λ c xs ys h. go c xs ys (byte_at 94 xs) refl h; complete = λ c xs ys h. done c.label c.routine xs ys h; after = λ c xs ys h. back c.label c.routine xs ys h }
  where
    labelled : (c : Callee) (label xs rest ys : List ℕ) (o : Option (ℕ × List ℕ)) → label_at xs ≡ Some (label, rest) → byte_at 94 rest ≡ o → routine_by label rest o ≡ Some (c, ys) → CalleeIs c xs ys
    labelled c label xs rest ys None l is h =
        let p = pair_parts (label_alone label) c rest ys h in
        subst (λ z. CalleeIs z xs ys) p.0 (l ∙ ap (λ z. Some (label, z)) p.1, subst (λ z. byte_at 94 z ≡ None) p.1 is)
    labelled c label xs rest ys (Some caret) l is h =
        let w = with_some (label_in label) (name_at caret.1) c ys h in
        subst (λ z. CalleeIs z xs ys) (sym w.2) (caret.1, l ∙ ap (λ z. Some (label, z)) (byte-is 94 caret.0 rest caret.1 is), w.1)

    go : (c : Callee) (xs ys : List ℕ) (o : Option (ℕ × List ℕ)) → byte_at 94 xs ≡ o → callee_by xs o ≡ Some (c, ys) → CalleeIs c xs ys
    go c xs ys (Some caret) is h =
        let w = with_some routine_alone (name_at caret.1) c ys h in
        subst (λ z. CalleeIs z xs ys) (sym w.2) (caret.1, byte-is 94 caret.0 xs caret.1 is, w.1)
    go c xs ys None is h =
        let l = then_some (label_at xs) _ (c, ys) h in
        labelled c l.0.0 xs l.0.1 ys (byte_at 94 l.0.1) l.1 refl l.2

    done : (label routine : Option (List ℕ)) (xs ys : List ℕ) → IsCallee label routine xs ys → callee_by xs (byte_at 94 xs) ≡ Some (record { label = label; routine = routine }, ys)
    done (Some label) None xs ys (l, none) = rw (label-caret label xs ys l) (rw l (rw none refl))
    done (Some label) (Some routine) xs ys (m, l, r) = rw (label-caret label xs (94 ∷ m) l) (rw l (rw r refl))
    done None (Some routine) xs ys (m, is, r) = rw is (rw r refl)
    done None None xs ys h = absurd h

    back : (label routine : Option (List ℕ)) (xs ys : List ℕ) → IsCallee label routine xs ys → After ys xs
    back (Some label) None xs ys (l, none) = label-after label xs ys l
    back (Some label) (Some routine) xs ys (m, l, r) =
        after_then xs (94 ∷ m) ys (label-after label xs (94 ∷ m) l) (after_then (94 ∷ m) m ys (after-one 94 m) (name-after routine m ys r))
    back None (Some routine) xs ys (m, is, r) = subst (λ z. After ys z) (sym is) (after_then (94 ∷ m) m ys (after-one 94 m) (name-after routine m ys r))
    back None None xs ys h = absurd h

-- a condition and its value
pub choice-exact : (read : List ℕ → Option (Tree × List ℕ)) (Is : Tree → List ℕ → List ℕ → Type 0) → Exact read Is → Exact (choice_with read) (IsChoice Is)
choice-exact read Is e = record {
  sound = λ c xs ys h.
      let f = then_some (read xs) _ (c, ys) h in
      let o = then_some (byte_at 58 f.0.1) _ (c, ys) f.2 in
      let w = with_some _ (read o.0.1) c ys o.2 in
      let colon = byte-is 58 o.0.0 f.0.1 o.0.1 o.1 in (
        o.0.1,
        subst (λ z. Is z.0 xs (58 ∷ o.0.1)) (sym w.2) (subst (λ z. Is f.0.0 xs z) colon (e.sound f.0.0 xs f.0.1 f.1)),
        subst (λ z. Is z.1 o.0.1 ys) (sym w.2) (e.sound w.0 o.0.1 ys w.1),
      );
  complete = λ c xs ys (m, one, other). rw (e.complete c.0 xs (58 ∷ m) one) (rw (e.complete c.1 m ys other) refl);
  after = λ c xs ys (m, one, other).
      after_then xs (58 ∷ m) ys (e.after c.0 xs (58 ∷ m) one) (after_then (58 ∷ m) m ys (after-one 58 m) (e.after c.1 m ys other));
}

-- arguments
pub arguments-exact : (atom : List ℕ → Option (Tree × List ℕ)) (Atom : Tree → List ℕ → List ℕ → Type 0) (item : List ℕ → Option (Tree × List ℕ)) (Item : Tree → List ℕ → List ℕ → Type 0)
    → Exact atom Atom → Exact item Item → (f : Function) (most : Option ℕ) → Exact (arguments_by atom item (quietly item) f most) (IsArguments Atom Item f most)
arguments-exact atom Atom item Item a e f None = let l = list-exact item Item e in record { sound = l.sound; complete = l.complete; after = l.after }
arguments-exact atom Atom item Item a e f (Some most) = record { sound = go; complete = done; after = back }
  where
    q : Exact (quietly item) (Quiet Item)
    q = kept-exact (may_stand NoTouches) item Item e

    n : (comma : ℕ) → Exact (next (quietly item) comma) (Next (Quiet Item) comma)
    n = next-exact (quietly item) (Quiet Item) q

    ended : (xs : List ℕ) (first : Tree) (m : List ℕ) (others : List Tree) (rest : List ℕ) (args : List Tree) (ys : List ℕ)
        → Atom first xs m → starts_reference xs ≡ true → takes f first ≡ true
        → Many (byte_at 44) (Next (Quiet Item)) others m rest → others_by most first (others, rest) ≡ Some (args, ys) → IsArguments Atom Item f (Some most) args xs ys
    ended xs first m others rest args ys one starts asks more h = elim (cases_Bool (nat_le (length others) most)) [
      | inr b ↦ cc (rw b at h)
      | inl b ↦
          let c = with_some _ (byte_at 41 rest) args ys (rw b at h) in
          (first, others, m, one, starts, asks, subst (λ z. Many (byte_at 44) (Next (Quiet Item)) others m z) (byte-is 41 c.0 rest ys c.1) more, leb-true (length others) most b, c.2)
    ]

    go : (args : List Tree) (xs ys : List ℕ) → arguments_by atom item (quietly item) f (Some most) xs ≡ Some (args, ys) → IsArguments Atom Item f (Some most) args xs ys
    go args xs ys h = elim (cases_Bool (starts_reference xs)) [
      | inr s ↦ cc (rw s at h)
      | inl s ↦
          let r = then_some (atom xs) (name_and (quietly item) f most) (args, ys) (rw s at h) in
          elim (cases_Bool (takes f r.0.0)) [
            | inr b ↦ cc (rw b at (r.2))
            | inl b ↦
                let o = then_some (many (byte_at 44) (next (quietly item)) (suc (length r.0.1)) r.0.1) (others_by most r.0.0) (args, ys) (rw b at (r.2)) in
                ended xs r.0.0 r.0.1 o.0.0 o.0.1 args ys (a.sound r.0.0 xs r.0.1 r.1) s b
                (many_sound (byte_at 44) (next (quietly item)) (Next (Quiet Item)) n _ o.0.0 r.0.1 o.0.1 o.1) o.2
          ]
    ]

    done : (args : List Tree) (xs ys : List ℕ) → IsArguments Atom Item f (Some most) args xs ys → arguments_by atom item (quietly item) f (Some most) xs ≡ Some (args, ys)
    done args xs ys (first, others, m, one, starts, asks, more, few, is) =
        let small : nat_le (length others) most ≡ true = le-leb (length others) most few in
        rw starts (rw (a.complete first xs m one) (rw asks
        (rw (many_complete (byte_at 44) (next (quietly item)) (Next (Quiet Item)) (byte-takes 44) n (suc (length m)) others m (41 ∷ ys) (omega arith) more) (rw small (rw is refl)))))

    back : (args : List Tree) (xs ys : List ℕ) → IsArguments Atom Item f (Some most) args xs ys → After ys xs
    back args xs ys (first, others, m, one, starts, asks, more, few, is) =
        let far = many_after (byte_at 44) (next (quietly item)) (Next (Quiet Item)) (byte-takes 44) n others m (41 ∷ ys) more in
        after_then xs m ys (a.after first xs m one) (after_then m (41 ∷ ys) ys far (after-one 41 ys))
