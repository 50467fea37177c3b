-- Held terms that begin a rule's lock denote names at or above the lock of a node.
use Rattle.std.proofs.Common.{◌≡◌, ℕ, List, [], ◌∷◌, Option, Some, None, refl, sym, ◌∙◌, subst}
use Rattle.std.specs.Prelude.{map, slice_get}
use Rattle.std.specs.Option.{option_and_then}
use Rattle.std.specs.List.{AllZip}
use Rattle.mlk_names.specs.declared.lock_name.LockName.{LockName}
use Rattle.mlk_names.specs.declared.symbol.Sym.{Sym}
use Rattle.mlk_names.specs.declared.symbol.Sym.TheVariants.{Const, Local, Job, Unknown}
use Rattle.mlk_names.specs.declared.known_symbol.KnownSym.{KnownSym}
use Rattle.mlk_names.specs.declared.known_symbol.KnownSym.TheVariants as known
use Rattle.mlk_names.specs.declared.term.LockTerm.{LockTerm}
use Rattle.mlk_names.specs.declared.reference.Extent.{Extent}
use Rattle.mlk_names.specs.declared.reference.Extent.TheVariants.{Node, Tree}
use Rattle.mlk_names.specs.declared.reference.Reference.{Reference}
use Rattle.mlk_names.specs.Lists.{Begins}
use Rattle.mlk_names.specs.LockNames.{IsAbove}
use Rattle.mlk_names.specs.Symbols.{Assignment, StandsFor, sym_of, known_of}
use Rattle.mlk_names.specs.Terms.{Names, IsPrefix}
use Rattle.mlk_names.specs.References.{GlobalNode, Touch, Touches, InRegion, Reaches}
use Rattle.mlk_names.proofs.ListLemmas.{begins_none, begins_past, begins_head, begins_tail, begins_cons, begins_itself}
use Rattle.mlk_names.proofs.NameLemmas.{above_one}
use Rattle.mlk_names.proofs.TermLemmas.{one_value}
use Rattle.mlk_rules.specs.declared.template.TemplatePart.{TemplatePart}
use Rattle.mlk_rules.specs.declared.template.TemplatePart.TheVariants.{Literal, Place}
use Rattle.mlk_rules.specs.declared.template.Template.{Template}
use Rattle.mlk_rules.specs.Coverage.{before_missing, value_at, lock_at, symbol_at, cut_template}
use Rattle.mlk_rules.specs.Laws.{LocksOfNodes}
use Rattle.mlk_rules.proofs.Places.{zip_at, begins_at}

-- what a reference reaches begins with its own subscripts
pub reach_begins : (far : Extent) (vs ws : List (List ℕ)) → Reaches far vs ws → Begins vs ws
reach_begins Node vs ws h =
    let P : List (List ℕ) → Type 0 = λ us. Begins vs us in subst P (sym h) (begins_itself vs)
reach_begins Tree vs ws h = h

known_is : (s : Sym) (k : KnownSym) → known_of s ≡ Some k → s ≡ sym_of k
known_is (Const value) k e =
    let d : known.Const value ≡ k = cc in
    let P : KnownSym → Type 0 = λ x. Const value ≡ sym_of x in subst P d refl
known_is (Local name) k e =
    let d : known.Local name ≡ k = cc in
    let P : KnownSym → Type 0 = λ x. Local name ≡ sym_of x in subst P d refl
known_is Job k e =
    let d : known.Job ≡ k = cc in
    let P : KnownSym → Type 0 = λ x. Job ≡ sym_of x in subst P d refl
known_is Unknown k e = cc

module _ (a : Assignment) (symbols : List Sym) (values all : List (List ℕ)) (stand : AllZip (StandsFor a) symbols values) (begin : Begins values all) where
  -- a part that is known at the reference is in the node, and the symbol denotes it
  at_place : (k : ℕ) (s : KnownSym) (o : Option Sym) → slice_get symbols k ≡ o → option_and_then known_of o ≡ Some s → (v : List ℕ) × (slice_get all k ≡ Some v) × StandsFor a (sym_of s) v
  at_place k s None e f = cc
  at_place k s (Some x) e f =
      let w = zip_at (StandsFor a) symbols values k x stand e in
      let P : Sym → Type 0 = λ y. StandsFor a y w.0 in
      (w.0, begins_at values all k w.0 begin w.1, subst P (known_is x s f) w.2)

  part_value : (p : TemplatePart) (s : KnownSym) → symbol_at symbols p ≡ Some s → (v : List ℕ) × (value_at all p ≡ Some v) × StandsFor a (sym_of s) v
  part_value (Literal value) s e =
      let d : known.Const value ≡ s = cc in
      let P : KnownSym → Type 0 = λ x. StandsFor a (sym_of x) value in (value, refl, subst P d refl)
  part_value (Place k) s e = at_place k s (slice_get symbols k) refl e

  cut_begins : (ps : List TemplatePart) (hs : List KnownSym) (vs : List (List ℕ)) → Begins hs (before_missing (map (symbol_at symbols) ps)) → AllZip (λ s v. StandsFor a (sym_of s) v) hs vs → Begins vs (before_missing (map (value_at all) ps))
  cut_begins ps [] [] b z = begins_none (before_missing (map (value_at all) ps))
  cut_begins ps [] (v ∷ vs) b z = absurd z
  cut_begins ps (h ∷ hs) [] b z = absurd z
  cut_begins [] (h ∷ hs) (v ∷ vs) b z = absurd (begins_past h hs b)
  cut_begins (p ∷ ps) (h ∷ hs) (v ∷ vs) b z =
      step (symbol_at symbols p) refl (cut_begins ps hs vs)
    where
      step : (o : Option KnownSym) → symbol_at symbols p ≡ o → (Begins hs (before_missing (map (symbol_at symbols) ps)) → AllZip (λ s v. StandsFor a (sym_of s) v) hs vs → Begins vs (before_missing (map (value_at all) ps))) → Begins (v ∷ vs) (before_missing (value_at all p ∷ map (value_at all) ps))
      step None e rest =
          let c : Begins (h ∷ hs) (before_missing (None ∷ map (symbol_at symbols) ps)) = rw (e) at b in absurd (begins_past h hs c)
      step (Some s) e rest =
          let c : Begins (h ∷ hs) (s ∷ before_missing (map (symbol_at symbols) ps)) = rw (e) at b in
          let d : h ≡ s = begins_head h s hs (before_missing (map (symbol_at symbols) ps)) c in
          let w = part_value p s e in
          let P : KnownSym → Type 0 = λ x. StandsFor a (sym_of x) v in
          let i : v ≡ w.0 = one_value a s v w.0 (subst P d z.0) w.2 in
          let j = rest (begins_tail h s hs (before_missing (map (symbol_at symbols) ps)) c) z.1 in
          let at : value_at all p ≡ Some w.0 = w.1 in
          rw (at) (begins_cons v w.0 vs (before_missing (map (value_at all) ps)) i j)

-- a term that begins the rule's lock at a reference denotes a name at or above the lock of a node that it reaches
cut_above : (lock : Template) (n : GlobalNode) (a : Assignment) (r : Reference) (t : Touch) (h : LockTerm) (x : LockName) → Touches a r t → InRegion t.region n → IsPrefix h (cut_template lock r) → Names a h x → IsAbove x (lock_at lock n)
cut_above lock n a r t h x touches i p names = record {
  root = names.root ∙ p.root;
  subs = cut_begins a r.subs t.region.node.subs n.subs touches.subs (reach_begins t.region.extent t.region.node.subs n.subs i.subs) lock.parts h.subs x.subs p.subs names.subs;
}

pub lock_of_node : LocksOfNodes
lock_of_node lock n = record {
  above = cut_above lock n;
  conflict = λ a b r s t u h k x y m i p d m' j q e. above_one x y (lock_at lock n) (cut_above lock n a r t h x m i p d) (cut_above lock n b s u k y m' j q e);
}
