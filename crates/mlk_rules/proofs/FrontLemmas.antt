-- Elements and subscripts, from the first on.
use Rattle.std.proofs.Common.{◌≡◌, ◌↔◌, ℕ, List, [], ◌∷◌, ◌++◌, Option, Some, None, length, arith, refl, ap, subst}
use Rattle.std.specs.Prelude.{map}
use Rattle.std.specs.List.{AllZip}
use Rattle.mlk_names.specs.declared.symbol.Sym.{Sym}
use Rattle.mlk_names.specs.declared.symbol.Sym.TheVariants.{Unknown}
use Rattle.mlk_names.specs.declared.known_symbol.KnownSym.{KnownSym}
use Rattle.mlk_names.specs.declared.reference.Extent.{Extent}
use Rattle.mlk_names.specs.Lists.{Begins}
use Rattle.mlk_names.specs.declared.reference.Extent.TheVariants.{Node, Tree}
use Rattle.mlk_names.specs.References.{MayBe, SymsMayMeet, SubsMayMeet}
use Rattle.mlk_names.proofs.ListLemmas.{begins_past, begins_cons, begins_head, begins_tail}
use Rattle.mlk_names.proofs.OverlapLemmas.{free_meets, subs_meet_not_below}
use Rattle.mlk_rules.specs.declared.pattern.Element.{Element}
use Rattle.mlk_rules.specs.declared.pattern.Element.TheVariants as element
use Rattle.mlk_rules.specs.declared.template.TemplatePart.{TemplatePart}
use Rattle.mlk_rules.specs.Patterns.{Takes, Suits, StaysIn}
use Rattle.mlk_rules.specs.Coverage.{before_missing, symbol_at}
use Rattle.mlk_rules.specs.Fronts.{symbol_of, SubsLie, SubsAbove, BeginsCut}

pub element_meets : (e : Element) (s : Sym) → ((v : List ℕ) → e ≡ element.Literal v → ⊥) → SymsMayMeet (symbol_of e) s
element_meets (element.Literal value) s free = absurd (free value refl)
element_meets element.Variable s free = free_meets Unknown s (λ v e. cc)
element_meets element.Job s free = free_meets Unknown s (λ v e. cc)

pub no_symbols : (es : List Element) → length es ≡ 0 → length (map symbol_of es) ≡ 0
no_symbols [] h = refl
no_symbols (e ∷ es) h = absurd (omega arith)

-- if no element is left, some symbols are, and the pattern is a node, nothing is met
pub meet_ends : (es : List Element) (wide : Extent) (ss : List Sym) (far : Extent) → length es ≡ 0 → (length ss ≡ 0 → ⊥) → (wide ≡ Tree → ⊥) → SubsMayMeet (map symbol_of es) wide ss far → ⊥
meet_ends [] wide [] far h some node m = some refl
meet_ends [] Tree (s ∷ ss) far h some node m = node refl
meet_ends [] Node (s ∷ ss) far h some node m = subs_meet_not_below far s ss m
meet_ends (e ∷ es) wide ss far h some node m = absurd (omega arith)

-- an element takes the values that its symbol may be
pub takes_may_be : (es : List Element) (vs : List (List ℕ)) → AllZip Takes es vs → AllZip MayBe (map symbol_of es) vs
takes_may_be [] [] h = tt
takes_may_be [] (v ∷ vs) h = absurd h
takes_may_be (e ∷ es) [] h = absurd h
takes_may_be (element.Literal value ∷ es) (v ∷ vs) h = (h.0, takes_may_be es vs h.1)
takes_may_be (element.Variable ∷ es) (v ∷ vs) h = (tt, takes_may_be es vs h.1)
takes_may_be (element.Job ∷ es) (v ∷ vs) h = (tt, takes_may_be es vs h.1)

pub may_be_takes : (es : List Element) (vs : List (List ℕ)) → AllZip MayBe (map symbol_of es) vs → AllZip Takes es vs
may_be_takes [] [] h = tt
may_be_takes [] (v ∷ vs) h = absurd h
may_be_takes (e ∷ es) [] h = absurd h
may_be_takes (element.Literal value ∷ es) (v ∷ vs) h = (h.0, may_be_takes es vs h.1)
may_be_takes (element.Variable ∷ es) (v ∷ vs) h = (tt, may_be_takes es vs h.1)
may_be_takes (element.Job ∷ es) (v ∷ vs) h = (tt, may_be_takes es vs h.1)

-- if no element is left, neither is a symbol that suits one
stays_after : (wide far : Extent) (subs front rest : List Sym) → AllZip Suits [] front → front ++ rest ≡ subs → StaysIn wide far rest → StaysIn wide far subs
stays_after wide far subs [] rest z e h =
    let P : List Sym → Type 0 = λ xs. StaysIn wide far xs in subst P e h
stays_after wide far subs (s ∷ front) rest z e h = absurd z

pub lie_none : (es : List Element) (wide far : Extent) (subs : List Sym) → length es ≡ 0 → StaysIn wide far subs ↔ SubsLie es wide subs far
lie_none [] wide far subs h = (
  λ k. record { front = []; rest = subs; is = refl; suits = tt; stays = k },
  λ k. stays_after wide far subs k.front k.rest k.suits k.is k.stays,
)
lie_none (e ∷ es) wide far subs h = absurd (omega arith)

no_lie : (e : Element) (es : List Element) (front rest : List Sym) → AllZip Suits (e ∷ es) front → front ++ rest ≡ [] → ⊥
no_lie e es [] rest z i = z
no_lie e es (s ∷ front) rest z i = cc

pub lie_no_subs : (es xs : List Element) (e : Element) (wide far : Extent) (subs : List Sym) → xs ≡ e ∷ es → length subs ≡ 0 → SubsLie xs wide subs far → ⊥
lie_no_subs es xs e wide far [] i h k =
    let P : List Element → Type 0 = λ ys. AllZip Suits ys k.front in
    no_lie e es k.front k.rest (subst P i k.suits) k.is
lie_no_subs es xs e wide far (s ∷ subs) i h k = absurd (omega arith)

lie_front : (e : Element) (es : List Element) (s : Sym) (ss front rest : List Sym) → AllZip Suits (e ∷ es) front → front ++ rest ≡ s ∷ ss → Suits e s × ((more : List Sym) × (more ++ rest ≡ ss) × AllZip Suits es more)
lie_front e es s ss [] rest z i = absurd z
lie_front e es s ss (x ∷ front) rest z i =
    let d : x ≡ s = cc in
    let j : front ++ rest ≡ ss = cc in
    let P : Sym → Type 0 = λ y. Suits e y in (subst P d z.0, (front, j, z.1))

pub lie_suits : (e : Element) (es : List Element) (s : Sym) (ss : List Sym) (wide far : Extent) → SubsLie (e ∷ es) wide (s ∷ ss) far → Suits e s
lie_suits e es s ss wide far k = (lie_front e es s ss k.front k.rest k.suits k.is).0

pub lie_cons : (e : Element) (es : List Element) (s : Sym) (ss : List Sym) (wide far : Extent) → Suits e s → SubsLie es wide ss far ↔ SubsLie (e ∷ es) wide (s ∷ ss) far
lie_cons e es s ss wide far h = (
  λ k. record { front = s ∷ k.front; rest = k.rest; is = ap (λ xs. s ∷ xs) k.is; suits = (h, k.suits); stays = k.stays },
  λ k.
      let m = (lie_front e es s ss k.front k.rest k.suits k.is).1 in
      record { front = m.0; rest = k.rest; is = m.1; suits = m.2; stays = k.stays },
)

pub above_none : (es : List Element) (ss : List Sym) → length ss ≡ 0 → SubsAbove es ss
above_none es [] h = record { front = []; rest = es; is = refl; suits = tt }
above_none es (s ∷ ss) h = absurd (omega arith)

no_above : (s : Sym) (ss : List Sym) (front rest : List Element) → AllZip Suits front (s ∷ ss) → front ++ rest ≡ [] → ⊥
no_above s ss [] rest z i = z
no_above s ss (e ∷ front) rest z i = cc

pub above_no_elements : (es : List Element) (xs ss : List Sym) (s : Sym) → xs ≡ s ∷ ss → length es ≡ 0 → SubsAbove es xs → ⊥
above_no_elements [] xs ss s i h k =
    let P : List Sym → Type 0 = λ ys. AllZip Suits k.front ys in
    no_above s ss k.front k.rest (subst P i k.suits) k.is
above_no_elements (e ∷ es) xs ss s i h k = absurd (omega arith)

above_front : (e : Element) (es : List Element) (s : Sym) (ss : List Sym) (front rest : List Element) → AllZip Suits front (s ∷ ss) → front ++ rest ≡ e ∷ es → Suits e s × ((more : List Element) × (more ++ rest ≡ es) × AllZip Suits more ss)
above_front e es s ss [] rest z i = absurd z
above_front e es s ss (x ∷ front) rest z i =
    let d : x ≡ e = cc in
    let j : front ++ rest ≡ es = cc in
    let P : Element → Type 0 = λ y. Suits y s in (subst P d z.0, (front, j, z.1))

pub above_suits : (e : Element) (es : List Element) (s : Sym) (ss : List Sym) → SubsAbove (e ∷ es) (s ∷ ss) → Suits e s
above_suits e es s ss k = (above_front e es s ss k.front k.rest k.suits k.is).0

pub above_cons : (e : Element) (es : List Element) (s : Sym) (ss : List Sym) → Suits e s → SubsAbove es ss ↔ SubsAbove (e ∷ es) (s ∷ ss)
above_cons e es s ss h = (
  λ k. record { front = e ∷ k.front; rest = k.rest; is = ap (λ xs. e ∷ xs) k.is; suits = (h, k.suits) },
  λ k.
      let m = (above_front e es s ss k.front k.rest k.suits k.is).1 in
      record { front = m.0; rest = k.rest; is = m.1; suits = m.2 },
)

pub cut_no_parts : (h : KnownSym) (hs xs : List KnownSym) (ps : List TemplatePart) (subs : List Sym) → xs ≡ h ∷ hs → length ps ≡ 0 → BeginsCut xs ps subs → ⊥
cut_no_parts h hs xs [] subs i e k =
    let P : List KnownSym → Type 0 = λ ys. Begins ys [] in begins_past h hs (subst P i k)
cut_no_parts h hs xs (p ∷ ps) subs i e k = absurd (omega arith)

pub cut_cons : (h : KnownSym) (hs : List KnownSym) (p : TemplatePart) (ps : List TemplatePart) (subs : List Sym) → symbol_at subs p ≡ Some h → BeginsCut hs ps subs ↔ BeginsCut (h ∷ hs) (p ∷ ps) subs
cut_cons h hs p ps subs e =
    let more : List KnownSym = before_missing (map (symbol_at subs) ps) in
    rw e (λ k. begins_cons h h hs more refl k, λ k. begins_tail h h hs more k)

pub cut_head : (h : KnownSym) (hs : List KnownSym) (p : TemplatePart) (ps : List TemplatePart) (subs : List Sym) → BeginsCut (h ∷ hs) (p ∷ ps) subs → symbol_at subs p ≡ Some h
cut_head h hs p ps subs k = at (symbol_at subs p) k
  where
    at : (o : Option KnownSym) → Begins (h ∷ hs) (before_missing (o ∷ map (symbol_at subs) ps)) → o ≡ Some h
    at None k = absurd (begins_past h hs k)
    at (Some x) k =
        let d : h ≡ x = begins_head h x hs (before_missing (map (symbol_at subs) ps)) k in cc
