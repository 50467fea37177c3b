-- When a pattern may meet a reference.
use Rattle.std.proofs.Common.{◌≡◌, refl, sym, ◌∙◌, subst}
use Rattle.std.specs.Prelude.{map}
use Rattle.mlk_names.specs.declared.reference.Extent.{Extent}
use Rattle.mlk_names.specs.declared.reference.Reference.{Reference}
use Rattle.mlk_names.specs.References.{GlobalNode, Reaches, SubsMayMeet}
use Rattle.mlk_rules.specs.declared.pattern.Pattern.{Pattern}
use Rattle.mlk_rules.specs.Patterns.{MayMeet}
use Rattle.mlk_rules.specs.Fronts.{symbol_of}
use Rattle.mlk_rules.proofs.FrontLemmas.{takes_may_be, may_be_takes}

abbrev pub FrontsMeet : Pattern → Reference → Type 0
FrontsMeet p r = SubsMayMeet (map symbol_of p.elements) p.extent r.subs r.extent

pub meet_from : (p : Pattern) (r : Reference) → p.global ≡ r.root → FrontsMeet p r → MayMeet p r
meet_from p r e (us, vs, ws, f, g, u, w) =
    let a : GlobalNode = record { root = p.global; subs = us } in
    let b : GlobalNode = record { root = r.root; subs = vs } in
    let n : GlobalNode = record { root = r.root; subs = ws } in (
      record { node = b; extent = r.extent },
      n,
      record { root = refl; extent = refl; subs = g },
      record { root = refl; subs = w },
      (
        record { node = a; extent = p.extent },
        record { root = refl; extent = refl; subs = may_be_takes p.elements us f },
        record { root = sym e; subs = u },
      ),
    )

pub meet_root : (p : Pattern) (r : Reference) → MayMeet p r → p.global ≡ r.root
meet_root p r (t, n, m, i, (x, is, j)) = sym is.root ∙ sym j.root ∙ i.root ∙ m.root

pub meet_fronts : (p : Pattern) (r : Reference) → MayMeet p r → FrontsMeet p r
meet_fronts p r (t, n, m, i, (x, is, j)) =
    let P : Extent → Type 0 = λ e. Reaches e x.node.subs n.subs in
    let Q : Extent → Type 0 = λ e. Reaches e t.node.subs n.subs in
    (x.node.subs, t.node.subs, n.subs, takes_may_be p.elements x.node.subs is.subs, m.subs, subst P is.extent j.subs, subst Q m.extent i.subs)
