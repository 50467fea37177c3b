-- The test of two jobs decides whether they clash.
use Rattle.std.proofs.Common.{◌≡◌, ◌∙◌, ◌≢◌, ◌==◌, Bool, true, sym, Option, Some, None, refl, inl, inr}
use Rattle.std.specs.Prelude.{◌↔◌, IsTrue, ◌⊎◌, ◌||◌, not}
use Rattle.std.proofs.lemmas.Bool.{and_parts, and_from, or_left, or_right, not-true, not_from_false, eqb-false, ne_eqb, false≢true}
use Rattle.mlk_names.specs.declared.reference.Access.{Access}
use Rattle.mlk_names.specs.declared.reference.Access.TheVariants.{Reads, Writes}
use Rattle.mlk_names.specs.References.{Touch}
use Rattle.mlk_machine_jobs.specs.Tasks.{Job}
use Rattle.mlk_machine_jobs.specs.Seen.{ready, Clash}
use Rattle.mlk_machine_view.specs.Regions.{overlap}
use Rattle.mlk_machine_view.specs.Clashes.{writes_by, writes, both_clash, clash, ClashIsTested}
use Rattle.mlk_machine_view.proofs.OverlapLemmas.{overlap_is_tested}

some_writes : (a b : Access) → (writes_by a || writes_by b) ≡ true → (a ≡ Writes) ⊎ (b ≡ Writes)
some_writes Writes b h = inl refl
some_writes Reads Writes h = inr refl
some_writes Reads Reads h = absurd (false≢true h)

writing : (a b : Access) → (a ≡ Writes) ⊎ (b ≡ Writes) → (writes_by a || writes_by b) ≡ true
writing a b (inl e) = or_left (writes_by a) (writes_by b) (rw e refl)
writing a b (inr e) = or_right (writes_by a) (writes_by b) (rw e refl)

both : (i j : Job) (o p : Option Touch) → ready i ≡ o → ready j ≡ p → i.number ≢ j.number → both_clash o p ≡ true → Clash i j
both i j (Some t) (Some u) e f d h =
    let p = and_parts (writes t || writes u) (overlap t.region u.region) h in
    record {
      different = d;
      one = t;
      other = u;
      is_one = e;
      is_other = f;
      overlap = (overlap_is_tested t.region u.region).0 p.1;
      writes = some_writes t.access u.access p.0;
    }
both i j (Some t) None e f d h = absurd (false≢true h)
both i j None p e f d h = absurd (false≢true h)

clash_is : (i j : Job) → clash i j ≡ true → Clash i j
unfolding clash
clash_is i j h =
    let p = and_parts (not (i.number == j.number)) (both_clash (ready i) (ready j)) h in
    both i j (ready i) (ready j) refl refl (eqb-false i.number j.number (not-true (i.number == j.number) p.0)) p.1

clash_if : (i j : Job) → Clash i j → clash i j ≡ true
unfolding clash
clash_if i j c =
    and_from (not (i.number == j.number)) (both_clash (ready i) (ready j))
    (not_from_false (i.number == j.number) (ne_eqb i.number j.number c.different))
    (rw (c.is_one, c.is_other)
    (and_from (writes c.one || writes c.other) (overlap c.one.region c.other.region)
    (writing c.one.access c.other.access c.writes) ((overlap_is_tested c.one.region c.other.region).1 c.overlap)))

pub clash_is_tested : ClashIsTested
clash_is_tested i j = (clash_is i j, clash_if i j)

pub clash_exact : (i j : Job) (b : Bool) → b ≡ clash i j → IsTrue b ↔ Clash i j
clash_exact i j b e = (λ h. clash_is i j (sym e ∙ h), λ c. e ∙ clash_if i j c)
