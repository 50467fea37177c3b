-- When references may overlap, from their first subscripts on.
use Rattle.std.proofs.Common.{◌≡◌, ◌≢◌, ◌↔◌, ℕ, List, [], ◌∷◌, length, refl, sym, ◌∙◌, subst, arith}
use Rattle.std.specs.List.{AllZip}
use Rattle.std.proofs.lemmas.List.{append-nil}
use Rattle.mlk_names.specs.declared.symbol.Sym.{Sym}
use Rattle.mlk_names.specs.declared.symbol.Sym.TheVariants.{Const, Local, Job, Unknown}
use Rattle.mlk_names.specs.declared.reference.Extent.{Extent}
use Rattle.mlk_names.specs.declared.reference.Extent.TheVariants.{Node, Tree}
use Rattle.mlk_names.specs.declared.reference.Reference.{Reference}
use Rattle.mlk_names.specs.Symbols.{Assignment, StandsFor}
use Rattle.mlk_names.specs.Laws.{OverlapsForeseen}
use Rattle.mlk_names.specs.References.{Reaches, MayBe, SymsMayMeet, SubsMayMeet, MayOverlap, MayReach, GlobalNode, Touch, Touches}
use Rattle.mlk_names.proofs.ListLemmas.{begins_none, begins_past, begins_cons, begins_head, begins_tail, all_zip_at}

-- each symbol may be some value
some_value : (s : Sym) → (v : List ℕ) × MayBe s v
some_value (Const value) = (value, refl)
some_value (Local name) = ([], tt)
some_value Job = ([], tt)
some_value Unknown = ([], tt)

some_values : (ss : List Sym) → (vs : List (List ℕ)) × AllZip MayBe ss vs
some_values [] = ([], tt)
some_values (s ∷ ss) =
    let v = some_value s in
    let vs = some_values ss in (v.0 ∷ vs.0, (v.1, vs.1))

pub free_meets : (s t : Sym) → ((v : List ℕ) → s ≢ Const v) → SymsMayMeet s t
free_meets (Const value) t free = absurd (free value refl)
free_meets (Local name) t free = let v = some_value t in (v.0, tt, v.1)
free_meets Job t free = let v = some_value t in (v.0, tt, v.1)
free_meets Unknown t free = let v = some_value t in (v.0, tt, v.1)

pub meet_turned : (s t : Sym) → SymsMayMeet s t → SymsMayMeet t s
meet_turned s t h = (h.0, h.2, h.1)

reaches_front : (far : Extent) (v w : List ℕ) (vs ws : List (List ℕ)) → Reaches far (v ∷ vs) (w ∷ ws) → v ≡ w
reaches_front Node v w vs ws h = cc
reaches_front Tree v w vs ws h = begins_head v w vs ws h

reaches_after : (far : Extent) (v w : List ℕ) (vs ws : List (List ℕ)) → Reaches far (v ∷ vs) (w ∷ ws) → Reaches far vs ws
reaches_after Node v w vs ws h = cc
reaches_after Tree v w vs ws h = begins_tail v w vs ws h

pub reaches_cons : (far : Extent) (v : List ℕ) (vs ws : List (List ℕ)) → Reaches far vs ws → Reaches far (v ∷ vs) (v ∷ ws)
reaches_cons Node v vs ws h = cc
reaches_cons Tree v vs ws h = begins_cons v v vs ws refl h

reaches_past : (far : Extent) (v : List ℕ) (vs : List (List ℕ)) → Reaches far (v ∷ vs) [] → ⊥
reaches_past Node v vs h = cc
reaches_past Tree v vs h = begins_past v vs h

pub reaches_itself : (far : Extent) (vs : List (List ℕ)) → Reaches far vs vs
reaches_itself Node vs = refl
reaches_itself Tree vs = record { tail = []; is = append-nil vs }

-- without subscripts they meet
pub subs_meet_none : (far wide : Extent) (ss ts : List Sym) → length ss ≡ 0 → length ts ≡ 0 → SubsMayMeet ss far ts wide
subs_meet_none far wide [] [] h k = ([], [], [], tt, tt, reaches_itself far [], reaches_itself wide [])
subs_meet_none far wide [] (t ∷ ts) h k = absurd (omega arith)
subs_meet_none far wide (s ∷ ss) ts h k = absurd (omega arith)

-- a tree reaches all that is below
pub subs_meet_below : (far wide : Extent) (ss ts : List Sym) → length ss ≡ 0 → far ≡ Tree → SubsMayMeet ss far ts wide
subs_meet_below far wide [] ts h is =
    let vs = some_values ts in
    let P : Extent → Type 0 = λ e. Reaches e [] vs.0 in
    ([], vs.0, vs.0, tt, vs.1, subst P (sym is) (begins_none vs.0), reaches_itself wide vs.0)
subs_meet_below far wide (s ∷ ss) ts h is = absurd (omega arith)

pub subs_meet_not_below : (wide : Extent) (t : Sym) (ts : List Sym) → SubsMayMeet [] Node (t ∷ ts) wide → ⊥
subs_meet_not_below wide t ts ([], [], ws, f, s, u, v) = absurd s
subs_meet_not_below wide t ts ([], (v ∷ vs), [], f, s, u, w) = reaches_past wide v vs w
subs_meet_not_below wide t ts ([], (v ∷ vs), (w ∷ ws), f, s, u, x) = cc
subs_meet_not_below wide t ts ((v ∷ us), vs, ws, f, s, u, x) = absurd f

pub subs_meet_turned : (far wide : Extent) (ss ts : List Sym) → SubsMayMeet ss far ts wide → SubsMayMeet ts wide ss far
subs_meet_turned far wide ss ts (us, vs, ws, f, s, u, v) = (vs, us, ws, s, f, v, u)

-- from the front on: the first symbols may meet, and so may the rest
pub subs_meet_cons : (far wide : Extent) (s t : Sym) (ss ts : List Sym) → SymsMayMeet s t → SubsMayMeet ss far ts wide → SubsMayMeet (s ∷ ss) far (t ∷ ts) wide
subs_meet_cons far wide s t ss ts (v, m, n) (us, vs, ws, f, g, u, w) =
    (v ∷ us, v ∷ vs, v ∷ ws, (m, f), (n, g), reaches_cons far v us ws u, reaches_cons wide v vs ws w)

pub subs_meet_front : (far wide : Extent) (s t : Sym) (ss ts : List Sym) → SubsMayMeet (s ∷ ss) far (t ∷ ts) wide → SymsMayMeet s t
subs_meet_front far wide s t ss ts ([], vs, ws, f, g, u, w) = absurd f
subs_meet_front far wide s t ss ts ((x ∷ us), [], ws, f, g, u, w) = absurd g
subs_meet_front far wide s t ss ts ((x ∷ us), (y ∷ vs), [], f, g, u, w) = absurd (reaches_past far x us u)
subs_meet_front far wide s t ss ts ((x ∷ us), (y ∷ vs), (z ∷ ws), f, g, u, w) =
    let e : y ≡ x = reaches_front wide y z vs ws w ∙ sym (reaches_front far x z us ws u) in
    let P : List ℕ → Type 0 = λ v. MayBe t v in (x, f.0, subst P e g.0)

pub subs_meet_after : (far wide : Extent) (s t : Sym) (ss ts : List Sym) → SubsMayMeet (s ∷ ss) far (t ∷ ts) wide → SubsMayMeet ss far ts wide
subs_meet_after far wide s t ss ts ([], vs, ws, f, g, u, w) = absurd f
subs_meet_after far wide s t ss ts ((x ∷ us), [], ws, f, g, u, w) = absurd g
subs_meet_after far wide s t ss ts ((x ∷ us), (y ∷ vs), [], f, g, u, w) = absurd (reaches_past far x us u)
subs_meet_after far wide s t ss ts ((x ∷ us), (y ∷ vs), (z ∷ ws), f, g, u, w) =
    (us, vs, ws, f.1, g.1, reaches_after far x z us ws u, reaches_after wide y z vs ws w)

-- the same of lists that are given by their fronts
pub subs_meet_parts : (far wide : Extent) (s t : Sym) (xs ys ss ts : List Sym) → xs ≡ s ∷ ss → ys ≡ t ∷ ts → SymsMayMeet s t → SubsMayMeet ss far ts wide ↔ SubsMayMeet xs far ys wide
subs_meet_parts far wide s t xs ys ss ts d e m =
    rw (d, e) (subs_meet_cons far wide s t ss ts m, subs_meet_after far wide s t ss ts)

pub overlap_from : (r s : Reference) → r.root ≡ s.root → SubsMayMeet r.subs r.extent s.subs s.extent → MayOverlap r s
overlap_from r s e (us, vs, ws, f, g, u, w) =
    let a : GlobalNode = record { root = r.root; subs = us } in
    let b : GlobalNode = record { root = s.root; subs = vs } in
    let n : GlobalNode = record { root = r.root; subs = ws } in (
      record { node = a; extent = r.extent },
      record { node = b; extent = s.extent },
      record { root = refl; extent = refl; subs = f },
      record { root = refl; extent = refl; subs = g },
      (n, record { root = refl; subs = u }, record { root = e; subs = w }),
    )

pub overlap_root : (r s : Reference) → MayOverlap r s → r.root ≡ s.root
overlap_root r s (t, u, h, k, (n, i, j)) = sym h.root ∙ sym i.root ∙ j.root ∙ k.root

pub overlap_subs : (r s : Reference) → MayOverlap r s → SubsMayMeet r.subs r.extent s.subs s.extent
overlap_subs r s (t, u, h, k, (n, i, j)) =
    let P : Extent → Type 0 = λ e. Reaches e t.node.subs n.subs in
    let Q : Extent → Type 0 = λ e. Reaches e u.node.subs n.subs in
    (t.node.subs, u.node.subs, n.subs, h.subs, k.subs, subst P h.extent i.subs, subst Q k.extent j.subs)

-- a symbol may be the value that it denotes
may_be : (a : Assignment) (s : Sym) (v : List ℕ) → StandsFor a s v → MayBe s v
may_be a (Const value) v h = h
may_be a (Local name) v h = tt
may_be a Job v h = tt
may_be a Unknown v h = tt

all_may_be : (a : Assignment) (ss : List Sym) (vs : List (List ℕ)) → AllZip (StandsFor a) ss vs → AllZip MayBe ss vs
all_may_be a ss vs h = all_zip_at (StandsFor a) MayBe ss vs (λ s v c k. may_be a s v k) h

pub may_touch : (a : Assignment) (r : Reference) (t : Touch) → Touches a r t → MayReach r t.region
may_touch a r t h = record { root = h.root; extent = h.extent; subs = all_may_be a r.subs t.region.node.subs h.subs }

pub overlaps_foreseen : OverlapsForeseen
overlaps_foreseen a b r s t u h k o = (t.region, u.region, may_touch a r t h, may_touch b s u k, o)
