-- The longest operator at a place is the one that is spelled there.
use Rattle.std.proofs.Common.{◌≡◌, ℕ, ◌++◌, List, [], ◌∷◌, Some, None, true, false, refl, sym, ap, ◌∙◌, arith, subst, inl, inr}
use Rattle.std.specs.Prelude.{Option, ◌==◌, if◌then◌else◌}
use Rattle.std.proofs.lemmas.Bool.{cases_Bool, eqb-true}
use Rattle.std.proofs.lemmas.Option.{same_Some}
use Rattle.std.proofs.lemmas.Bool.Decides.{nat_tests}
use Rattle.mlk_text.specs.declared.operator.Op.{Op}
use Rattle.mlk_text.specs.declared.operator.Op.TheVariants as op
use Rattle.mlk_text.specs.declared.operator.Relation.{Relation}
use Rattle.mlk_text.specs.declared.operator.Relation.TheVariants as relation
use Rattle.mlk_text.specs.declared.operator.UnaryOp.{UnaryOp}
use Rattle.mlk_text.specs.declared.operator.UnaryOp.TheVariants as unary
use Rattle.mlk_text.specs.Reading.{with}
use Rattle.mlk_text.specs.Lexemes.{byte_at, or_else}
use Rattle.mlk_text.proofs.Lexemes.{byte-is}
use Rattle.mlk_text.proofs.Readers.{pair_parts, with_some}
use Rattle.mlk_expr_tokens.specs.Lexemes.{one_byte, twice_or, relation_of, relation_at, arithmetic_of, arithmetic_at, op_by, op_at, unary_of}
use Rattle.mlk_expr.specs.Spellings.{relation_text, op_text, unary_text}
use Rattle.mlk_expr.proofs.Runs.{tame, starts}

-- a table's row for this byte, or a later one
row : {A : Type 0} (P : ℕ → A → Type 0) (b k : ℕ) (x a : A) (others : Option A) → P k x → (others ≡ Some a → P b a)
    → if◌then◌else◌ {A = Option A} (b == k) (Some x) others ≡ Some a → P b a
row P b k x a others here more h = elim (cases_Bool (b == k)) [
  | inl e ↦ subst (P b) (same_Some x a (rw e at h)) (subst (λ c. P c x) (sym (eqb-true b k e)) here)
  | inr e ↦ more (rw e at h)
]

-- no operator continues a name, a number, a text or a parenthesis
relation-tame : (r : Relation) (zs : List ℕ) → tame (relation_text r ++ zs) ≡ true
relation-tame relation.Equals zs = refl
relation-tame relation.Less zs = refl
relation-tame relation.Greater zs = refl
relation-tame relation.Contains zs = refl
relation-tame relation.Follows zs = refl
relation-tame relation.SortsAfter zs = refl
relation-tame relation.And zs = refl
relation-tame relation.Or zs = refl
relation-tame relation.Matches zs = refl

-- the same of all operators
pub op-tame : (o : Op) (zs : List ℕ) → tame (op_text o ++ zs) ≡ true
op-tame op.Add zs = refl
op-tame op.Subtract zs = refl
op-tame op.Multiply zs = refl
op-tame op.Divide zs = refl
op-tame op.DivideWhole zs = refl
op-tame op.Modulo zs = refl
op-tame op.Power zs = refl
op-tame op.Concatenate zs = refl
op-tame (op.Is r) zs = relation-tame r zs
op-tame (op.IsNot r) zs = refl

-- the longest operator is read if what follows makes none longer
relation-reads : (r : Relation) (zs : List ℕ) → starts zs ≡ true → relation_at (relation_text r ++ zs) ≡ Some (r, zs)
unfolding relation_at relation_of
relation-reads r [] h = cc h
relation-reads relation.Equals (c ∷ zs) h = refl
relation-reads relation.Less (c ∷ zs) h = refl
relation-reads relation.Greater (c ∷ zs) h = refl
relation-reads relation.Contains (c ∷ zs) h = refl
relation-reads relation.Follows (c ∷ zs) h = let e : (c == 93) ≡ false = grind (arith, nat_tests) in rw e refl
relation-reads relation.SortsAfter (c ∷ zs) h = refl
relation-reads relation.And (c ∷ zs) h = refl
relation-reads relation.Or (c ∷ zs) h = refl
relation-reads relation.Matches (c ∷ zs) h = refl

-- no relation begins with a quote
relation-quote : (r : Relation) (zs : List ℕ) → byte_at 39 (relation_text r ++ zs) ≡ None
relation-quote relation.Equals zs = refl
relation-quote relation.Less zs = refl
relation-quote relation.Greater zs = refl
relation-quote relation.Contains zs = refl
relation-quote relation.Follows zs = refl
relation-quote relation.SortsAfter zs = refl
relation-quote relation.And zs = refl
relation-quote relation.Or zs = refl
relation-quote relation.Matches zs = refl

-- the same of all operators
pub op-reads : (o : Op) (zs : List ℕ) → starts zs ≡ true → op_at (op_text o ++ zs) ≡ Some (o, zs)
unfolding op_at relation_at relation_of arithmetic_at arithmetic_of
op-reads o [] h = cc h
op-reads op.Add (c ∷ zs) h = refl
op-reads op.Subtract (c ∷ zs) h = refl
op-reads op.Multiply (c ∷ zs) h = let e : (c == 42) ≡ false = grind (arith, nat_tests) in rw e refl
op-reads op.Divide (c ∷ zs) h = refl
op-reads op.DivideWhole (c ∷ zs) h = refl
op-reads op.Modulo (c ∷ zs) h = refl
op-reads op.Power (c ∷ zs) h = refl
op-reads op.Concatenate (c ∷ zs) h = refl
op-reads (op.Is r) (c ∷ zs) h =
    let whole : List ℕ = relation_text r ++ (c ∷ zs) in
    ap (op_by whole) (relation-quote r (c ∷ zs)) ∙ ap (λ o. or_else (with op.Is o) (arithmetic_at whole)) (relation-reads r (c ∷ zs) h)
op-reads (op.IsNot r) (c ∷ zs) h = ap (with op.IsNot) (relation-reads r (c ∷ zs) h)

-- what one byte denotes, or two, is spelled by them
one-spelled : {A : Type 0} (text : A → List ℕ) (o : Option A) (a : A) (b : ℕ) (xs ys : List ℕ) → ((c : A) → o ≡ Some c → text c ≡ b ∷ [])
    → one_byte o xs ≡ Some (a, ys) → b ∷ xs ≡ text a ++ ys
one-spelled text None a b xs ys of h = cc h
one-spelled text (Some c) a b xs ys of h =
    let p = pair_parts c a xs ys h in
    ap (λ l. b ∷ l) p.1 ∙ ap (λ l. l ++ ys) (sym (of c refl)) ∙ ap (λ d. text d ++ ys) p.0

-- two bytes that may be one
twice-spelled : {A : Type 0} (text : A → List ℕ) (two one a : A) (b : ℕ) (xs ys : List ℕ) (o : Option (ℕ × List ℕ)) → text two ≡ b ∷ b ∷ [] → text one ≡ b ∷ []
    → byte_at b xs ≡ o → twice_or two o (Some (one, xs)) ≡ Some (a, ys) → b ∷ xs ≡ text a ++ ys
twice-spelled text two one a b xs ys None both single is h =
    let p = pair_parts one a xs ys h in
    ap (λ l. b ∷ l) p.1 ∙ ap (λ l. l ++ ys) (sym single) ∙ ap (λ d. text d ++ ys) p.0
twice-spelled text two one a b xs ys (Some second) both single is h =
    let p = pair_parts two a second.1 ys h in
    ap (λ l. b ∷ l) (byte-is b second.0 xs second.1 is) ∙ ap (λ l. b ∷ b ∷ l) p.1 ∙ ap (λ l. l ++ ys) (sym both) ∙ ap (λ d. text d ++ ys) p.0

-- the table of relations
relation-byte : (b : ℕ) (r : Relation) → relation_of b ≡ Some r → relation_text r ≡ b ∷ []
unfolding relation_of
relation-byte b r =
    let P : ℕ → Relation → Type 0 = λ c s. relation_text s ≡ c ∷ [] in
    row P b 61 relation.Equals r _ refl
    (row P b 60 relation.Less r _ refl
    (row P b 62 relation.Greater r _ refl
    (row P b 91 relation.Contains r _ refl
    (row P b 93 relation.Follows r _ refl
    (row P b 38 relation.And r _ refl
    (row P b 33 relation.Or r _ refl
    (row P b 63 relation.Matches r _ refl (λ e. cc e))))))))

-- the table of arithmetic operators
arithmetic-byte : (b : ℕ) (o : Op) → arithmetic_of b ≡ Some o → op_text o ≡ b ∷ []
unfolding arithmetic_of
arithmetic-byte b o =
    let P : ℕ → Op → Type 0 = λ c s. op_text s ≡ c ∷ [] in
    row P b 43 op.Add o _ refl
    (row P b 45 op.Subtract o _ refl
    (row P b 42 op.Multiply o _ refl
    (row P b 47 op.Divide o _ refl
    (row P b 92 op.DivideWhole o _ refl
    (row P b 35 op.Modulo o _ refl
    (row P b 95 op.Concatenate o _ refl (λ e. cc e)))))))

-- a relation that is read is spelled there
relation-spelled : (r : Relation) (xs ys : List ℕ) → relation_at xs ≡ Some (r, ys) → xs ≡ relation_text r ++ ys
unfolding relation_at
relation-spelled r [] ys h = cc h
relation-spelled r (b ∷ xs) ys h = elim (cases_Bool (b == 93)) [
  | inl e ↦ ap (λ c. c ∷ xs) (eqb-true b 93 e) ∙ twice-spelled relation_text relation.SortsAfter relation.Follows r 93 xs ys (byte_at 93 xs) refl refl refl (rw e at h)
  | inr e ↦ one-spelled relation_text (relation_of b) r b xs ys (relation-byte b) (rw e at h)
]

-- an arithmetic operator that is read is spelled there
arithmetic-spelled : (o : Op) (xs ys : List ℕ) → arithmetic_at xs ≡ Some (o, ys) → xs ≡ op_text o ++ ys
unfolding arithmetic_at
arithmetic-spelled o [] ys h = cc h
arithmetic-spelled o (b ∷ xs) ys h = elim (cases_Bool (b == 42)) [
  | inl e ↦ ap (λ c. c ∷ xs) (eqb-true b 42 e) ∙ twice-spelled op_text op.Power op.Multiply o 42 xs ys (byte_at 42 xs) refl refl refl (rw e at h)
  | inr e ↦ one-spelled op_text (arithmetic_of b) o b xs ys (arithmetic-byte b) (rw e at h)
]

-- an operator that is read is spelled there
pub op-spelled : (o : Op) (xs ys : List ℕ) → op_at xs ≡ Some (o, ys) → xs ≡ op_text o ++ ys
unfolding op_at
op-spelled o xs ys h = go (byte_at 39 xs) refl h
  where
    plain : (r : Option (Relation × List ℕ)) → relation_at xs ≡ r → or_else (with op.Is r) (arithmetic_at xs) ≡ Some (o, ys) → xs ≡ op_text o ++ ys
    plain None is h = arithmetic-spelled o xs ys h
    plain (Some r) is h =
        let p = pair_parts (op.Is r.0) o r.1 ys h in
        relation-spelled r.0 xs r.1 is ∙ ap (λ l. relation_text r.0 ++ l) p.1 ∙ ap (λ d. op_text d ++ ys) p.0

    go : (q : Option (ℕ × List ℕ)) → byte_at 39 xs ≡ q → op_by xs q ≡ Some (o, ys) → xs ≡ op_text o ++ ys
    go None is h = plain (relation_at xs) refl h
    go (Some quote) is h =
        let w = with_some op.IsNot (relation_at quote.1) o ys h in
        byte-is 39 quote.0 xs quote.1 is ∙ ap (λ l. 39 ∷ l) (relation-spelled w.0 quote.1 ys w.1) ∙ ap (λ d. op_text d ++ ys) (sym w.2)

-- the byte of a unary operator
pub unary-reads : (o : UnaryOp) → (b : ℕ) × (unary_text o ≡ b ∷ []) × (unary_of b ≡ Some o)
unfolding unary_of
unary-reads unary.Plus = (43, refl, refl)
unary-reads unary.Minus = (45, refl, refl)
unary-reads unary.Not = (39, refl, refl)

-- the unary operator of a byte is spelled by it
pub unary-spelled : (o : UnaryOp) (b : ℕ) → unary_of b ≡ Some o → unary_text o ≡ b ∷ []
unfolding unary_of
unary-spelled o b =
    let P : ℕ → UnaryOp → Type 0 = λ c s. unary_text s ≡ c ∷ [] in
    row P b 43 unary.Plus o _ refl
    (row P b 45 unary.Minus o _ refl
    (row P b 39 unary.Not o _ refl (λ e. cc e)))
