-- Expressions, worked out by hand.
use Rattle.std.proofs.Common.{◌≡◌, ℕ, suc, List, [], ◌∷◌, length, Some, None, refl, sym, ap, ◌∙◌, arith, subst, append-nil, codes}
use Rattle.mlk_text.specs.declared.operator.Op.TheVariants.{Add, Multiply, Is, IsNot}
use Rattle.mlk_text.specs.declared.operator.Relation.TheVariants.{SortsAfter, Matches}
use Rattle.mlk_text.specs.declared.operator.UnaryOp.TheVariants.{Minus}
use Rattle.mlk_numbers.specs.Canonical.{canonical_text}
use Rattle.mlk_text.specs.Reading.{many}
use Rattle.mlk_text.proofs.Readers.{pair_parts}
use Rattle.mlk_text.specs.Lexemes.{name_at, digits_at, inside, label_at}
use Rattle.mlk_syntax.specs.declared.expr.Special.TheVariants.{Test}
use Rattle.mlk_syntax.specs.declared.expr.Function.TheVariants.{Get, Increment, Order}
use Rattle.mlk_syntax.specs.ExprTrees.{Tree, Lit, Free, LocalName, GlobalName, SpecialName, Prefixed, Chain, PatternText, Func, Selected, BareCall, CallOf, no_links, link, no_subs, sub, no_trees, tree, no_choices, choice, no_actuals, actual, Given, ByRef, Missing}
use Rattle.mlk_expr_tokens.specs.Words.{special_of, special_to_principal, special_from_quit, function_of, function_to_fnumber, function_to_piece, function_from_qlength, is_select}
use Rattle.mlk_expr_tokens.specs.Lexemes.{relation_of, relation_at, arithmetic_of, arithmetic_at, op_at, unary_of, kind_of, mantissa_len, numeral_at, count_at, pattern_codes_at, lent_at, ends}
use Rattle.mlk_expr.specs.Grammar.{IsExpr, IsReference}
use Rattle.mlk_expr.proofs.Followed as followed
use Rattle.mlk_expr.specs.Reading.{list_with, pattern_at, chain_with, subs_with, actual_with, actuals_with, callee_at, call_with, arguments_with, function_with, dollar_with, atom_at, reference_at}
use Rattle.mlk_expr.proofs.Whole.{reference-exact}
use Rattle.mlk_expr.proofs.Operands.{expr-exact}
use Rattle.mlk_expr.proofs.Joined.{same-expr, same-reference}

-- from a reading of a whole text
spelled : (t : Tree) (s : List ℕ) → chain_with (atom_at (suc (length s)) 64) (pattern_at 64) s ≡ Some (t, []) → IsExpr 1 t s
unfolding followed.IsExpr ends
spelled t s h =
    let r = same-expr.apart (suc (length s)) 1 t s [] (omega arith) ((expr-exact (suc (length s)) 64).sound t s [] h, refl) in
    subst (λ z. IsExpr 1 t z) (sym (append-nil r.0) ∙ sym (r.1)) r.2

whole : (t : Tree) (s : List ℕ) → IsExpr 1 t s → chain_with (atom_at (suc (length s)) 64) (pattern_at 64) s ≡ Some (t, [])
unfolding followed.IsExpr ends
whole t s is =
    let same = append-nil s in
    let size = ap length same in
    let g : followed.IsExpr (suc (length s)) t s [] = subst (λ z. followed.IsExpr (suc (length s)) t z []) same (same-expr.together (suc (length s)) 1 t s [] (omega arith) is refl) in
    (expr-exact (suc (length s)) 64).complete t s [] g.0

-- no reading at all, or one that ends too early
unspelled : (s : List ℕ) → chain_with (atom_at (suc (length s)) 64) (pattern_at 64) s ≡ None → (t : Tree) → IsExpr 1 t s → ⊥
unspelled s h t is = let bad = sym h ∙ whole t s is in cc bad

unfinished : (s : List ℕ) (u : Tree) (b : ℕ) (rest : List ℕ) → chain_with (atom_at (suc (length s)) 64) (pattern_at 64) s ≡ Some (u, b ∷ rest) → (t : Tree) → IsExpr 1 t s → ⊥
unfinished s u b rest h t is = let bad = (pair_parts u t (b ∷ rest) [] (sym h ∙ whole t s is)).1 in cc bad

reference : (t : Tree) (s : List ℕ) → reference_at (suc (length s)) s ≡ Some (t, []) → IsReference 1 t s
reference t s h =
    let r = same-reference.apart (suc (length s)) 1 t s [] (omega arith) ((reference-exact (suc (length s))).sound t s [] h) in
    subst (λ z. IsReference 1 t z) (sym (append-nil r.0) ∙ sym (r.1)) r.2

-- each of these is shown by computation
examples : Unit {0}
unfolding many chain_with atom_at op_at relation_at relation_of arithmetic_at arithmetic_of kind_of unary_of numeral_at mantissa_len canonical_text ends name_at digits_at inside special_of special_to_principal special_from_quit function_of function_to_fnumber function_to_piece function_from_qlength is_select count_at pattern_codes_at label_at lent_at list_with pattern_at subs_with actual_with actuals_with callee_at call_with arguments_with function_with dollar_with reference_at
examples = tt
  where
    -- from left to right, without precedence
    left_to_right : IsExpr 1 (Chain (Lit (codes "1")) (link Add (Lit (codes "2")) (link Multiply (Lit (codes "3")) no_links))) (codes "1+2*3")
    left_to_right = spelled _ (codes "1+2*3") refl

    -- parentheses have no node
    parentheses : IsExpr 1 (Chain (Lit (codes "1")) (link Multiply (Chain (Lit (codes "2")) (link Add (Lit (codes "3")) no_links)) no_links)) (codes "1*(2+3)")
    parentheses = spelled _ (codes "1*(2+3)") refl

    -- a number is its canonical text
    numbers : IsExpr 1 (Lit (codes ".5")) (codes "00.50")
    numbers = spelled _ (codes "00.50") refl

    -- or any value
    inexact : IsExpr 1 (Free) (codes "1E3")
    inexact = spelled _ (codes "1E3") refl

    -- a sign before an operand
    less : IsExpr 1 (Prefixed Minus (LocalName (codes "X") no_subs)) (codes "-X")
    less = spelled _ (codes "-X") refl

    -- the longest operator
    sorts : IsExpr 1 (Chain (LocalName (codes "X") no_subs) (link (IsNot SortsAfter) (LocalName (codes "Y") no_subs) no_links)) (codes "X']]Y")
    sorts = spelled _ (codes "X']]Y") refl

    -- a pattern occurs only after its operator
    matches : IsExpr 1 (Chain (LocalName (codes "X") no_subs) (link (Is Matches) (PatternText (codes "1N.2A")) no_links)) (codes "X?1N.2A")
    matches = spelled _ (codes "X?1N.2A") refl

    -- a special variable, in either case
    test : IsExpr 1 (SpecialName Test) (codes "$t")
    test = spelled _ (codes "$t") refl

    -- a function
    get : IsExpr 1 (Func Get (tree (LocalName (codes "X") no_subs) (tree (Lit (codes "0")) no_trees))) (codes "$G(X,0)")
    get = spelled _ (codes "$G(X,0)") refl

    -- `$INCREMENT` of a global, but not of a local
    increment : IsExpr 1 (Func Increment (tree (GlobalName 4 (codes "A") no_subs) no_trees)) (codes "$I(^A)")
    increment = spelled _ (codes "$I(^A)") refl

    local_increment : (t : Tree) → IsExpr 1 t (codes "$I(X)") → ⊥
    local_increment = unspelled (codes "$I(X)") refl

    -- $SELECT
    select : IsExpr 1 (Selected (choice (LocalName (codes "X") no_subs) (Lit (codes "1")) no_choices)) (codes "$S(X:1)")
    select = spelled _ (codes "$S(X:1)") refl

    -- a call with a name by reference, nothing, and a value
    call : IsExpr 1 (CallOf 1 (record { label = Some (codes "F"); routine = Some (codes "R") }) (actual (ByRef 7 (codes "X")) (actual Missing (actual (Given (Lit (codes "1"))) no_actuals)))) (codes "$$F^R(.X,,1)")
    call = spelled _ (codes "$$F^R(.X,,1)") refl

    -- a call without a list
    bare : IsExpr 1 (BareCall 1 (record { label = None; routine = Some (codes "R") })) (codes "$$^R")
    bare = spelled _ (codes "$$^R") refl

    -- a global with the columns of its name and of its subscript
    lock_name : IsReference 1 (GlobalName 1 (codes "A") (sub 4 (LocalName (codes "K") no_subs) no_subs)) (codes "^A(K)")
    lock_name = reference _ (codes "^A(K)") refl

    -- indirection is no expression, nor is an operator without its second operand
    indirection : (t : Tree) → IsExpr 1 t (codes "@X") → ⊥
    indirection = unspelled (codes "@X") refl

    broken : (t : Tree) → IsExpr 1 t (codes "1+") → ⊥
    broken = unspelled (codes "1+") refl

    -- a sign belongs to its operand
    signed : IsExpr 1 (Chain (Prefixed Minus (Lit (codes "1"))) (link Add (Lit (codes "2")) no_links)) (codes "-1+2")
    signed = spelled _ (codes "-1+2") refl

    -- a pattern of alternatives
    alternatives : IsExpr 1 (Chain (LocalName (codes "X") no_subs) (link (Is Matches) (PatternText (codes "1(1N,2A)")) no_links)) (codes "X?1(1N,2A)")
    alternatives = spelled _ (codes "X?1(1N,2A)") refl

    -- a call with an empty list, and one of a label of digits
    empty_list : IsExpr 1 (CallOf 1 (record { label = Some (codes "F"); routine = None }) no_actuals) (codes "$$F()")
    empty_list = spelled _ (codes "$$F()") refl

    digits_called : IsExpr 1 (BareCall 1 (record { label = Some (codes "12"); routine = None })) (codes "$$12")
    digits_called = spelled _ (codes "$$12") refl

    -- $ORDER of a name with a subscript, which may be empty
    order : IsExpr 1 (Func Order (tree (GlobalName 4 (codes "A") (sub 7 (Lit []) no_subs)) no_trees)) (codes "$O(^A(\"\"))")
    order = spelled _ (codes "$O(^A(\"\"))") refl

    -- but not of a name without one; nor has `$DATA` a second argument
    bare_order : (t : Tree) → IsExpr 1 t (codes "$O(^A)") → ⊥
    bare_order = unspelled (codes "$O(^A)") refl

    second_argument : (t : Tree) → IsExpr 1 t (codes "$D(X,1)") → ⊥
    second_argument = unspelled (codes "$D(X,1)") refl

    -- an exponent has digits, and a relation follows `'`
    no_exponent : (t : Tree) → IsExpr 1 t (codes "1E") → ⊥
    no_exponent = unspelled (codes "1E") refl

    no_relation : (t : Tree) → IsExpr 1 t (codes "1'+2") → ⊥
    no_relation = unfinished (codes "1'+2") _ _ _ refl

    -- no global and no call follows the name of `$GET`, except in its subscripts
    touched : (t : Tree) → IsExpr 1 t (codes "$G(X,^A)") → ⊥
    touched = unspelled (codes "$G(X,^A)") refl

    untouched : IsExpr 1 (Func Get (tree (GlobalName 4 (codes "A") (sub 7 (GlobalName 7 (codes "B") no_subs) no_subs)) (tree (Lit (codes "1")) no_trees))) (codes "$G(^A(^B),1)")
    untouched = spelled _ (codes "$G(^A(^B),1)") refl

    -- naked references are not read
    naked : (t : Tree) → IsExpr 1 t (codes "^(1)") → ⊥
    naked = unspelled (codes "^(1)") refl
