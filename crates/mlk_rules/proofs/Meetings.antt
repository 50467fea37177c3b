-- Where references and patterns meet.
use Rattle.std.proofs.Common.{◌≡◌, inl, inr, ℕ, List, [], ◌∷◌, ◌++◌, refl, sym, ◌∙◌, subst}
use Rattle.std.specs.List.{AllZip}
use Rattle.std.proofs.lemmas.List.{append-nil}
use Rattle.mlk_names.specs.declared.symbol.Sym.{Sym}
use Rattle.mlk_names.specs.declared.reference.Extent.{Extent}
use Rattle.mlk_names.specs.declared.reference.Extent.TheVariants.{Node, Tree}
use Rattle.mlk_names.specs.declared.reference.Reference.{Reference}
use Rattle.mlk_names.specs.Lists.{Begins}
use Rattle.mlk_names.specs.References.{GlobalNode, Region, InRegion, MayBe, MayReach, Reaches}
use Rattle.mlk_names.proofs.ListLemmas.{begins_two, begins_on}
use Rattle.mlk_names.proofs.OverlapLemmas.{may_touch, reaches_itself}
use Rattle.mlk_rules.specs.declared.pattern.Element.{Element}
use Rattle.mlk_rules.specs.declared.pattern.Element.TheVariants as element
use Rattle.mlk_rules.specs.declared.pattern.Pattern.{Pattern}
use Rattle.mlk_rules.specs.declared.rules.RuleLists.{RuleLists}
use Rattle.mlk_rules.specs.Patterns.{Takes, LiesIn, Suits, StaysIn, SurelyLies, SurelyAbove}
use Rattle.mlk_rules.specs.Coverage.{IsPattern, IsRuled}
use Rattle.mlk_rules.specs.Laws.{SurelyLiesWhole, SharesPattern, SharePattern}
use Rattle.mlk_rules.proofs.Places.{zip_split, zip_append, zip_through, begins_more}

-- an element takes each value of a symbol that suits it
takes : (e : Element) (s : Sym) (v : List ℕ) → Suits e s → MayBe s v → Takes e v
takes (element.Literal value) s v suits may =
    let P : Sym → Type 0 = λ x. MayBe x v in subst P suits may
takes element.Variable s v suits may = tt
takes element.Job s v suits may = tt

-- what reaches no further than the pattern reaches only what the pattern does
stays : (near far : Extent) (rest : List Sym) (own more ws : List (List ℕ)) → StaysIn near far rest → AllZip MayBe rest more → Reaches far (own ++ more) ws → Reaches near own ws
stays Tree Node rest own more ws s z h = record { tail = more; is = sym h }
stays Tree Tree rest own more ws s z h = begins_on own (own ++ more) ws (begins_more own more) h
stays Node Node [] own [] ws s z h = h ∙ append-nil own
stays Node Node [] own (v ∷ more) ws s z h = absurd z
stays Node Node (x ∷ rest) own more ws s z h = cc
stays Node Tree rest own more ws s z h = absurd s

-- all that the reference may reach lies in the pattern in which it surely lies
pub surely_lies : SurelyLiesWhole
surely_lies p r t n l m i =
    let P : List Sym → Type 0 = λ ss. AllZip MayBe ss t.node.subs in
    let s = zip_split MayBe l.front l.rest t.node.subs (subst P (sym l.subs) m.subs) in
    let own = zip_through Suits MayBe Takes takes p.elements l.front s.front l.suits s.of_front in
    let at : GlobalNode = record { root = p.global; subs = s.front } in
    let Q : List (List ℕ) → Type 0 = λ vs. Reaches r.extent vs n.subs in
    let R : Extent → Type 0 = λ e. Reaches e t.node.subs n.subs in
    let far : Reaches r.extent (s.front ++ s.rest) n.subs = subst Q (sym s.is) (subst R m.extent i.subs) in (
      record { node = at; extent = p.extent },
      record { root = refl; extent = refl; subs = own },
      record { root = i.root ∙ m.root ∙ l.root; subs = stays p.extent r.extent l.rest s.front s.rest n.subs l.stays s.of_rest far },
    )

some_taken : (es : List Element) → (vs : List (List ℕ)) × AllZip Takes es vs
some_taken [] = ([], tt)
some_taken (element.Literal value ∷ es) = let vs = some_taken es in (value ∷ vs.0, (refl, vs.1))
some_taken (element.Variable ∷ es) = let vs = some_taken es in ([] ∷ vs.0, (tt, vs.1))
some_taken (element.Job ∷ es) = let vs = some_taken es in ([] ∷ vs.0, (tt, vs.1))

-- below a tree that is surely above a pattern there is a node of the pattern
pub record BelowAbove (p : Pattern) (u : Region) : Type 0 where
  pub more : List (List ℕ)
  pub lies : LiesIn p (record { root = p.global; subs = u.node.subs ++ more })

below_above : (p : Pattern) (s : Reference) (u : Region) → SurelyAbove p s → MayReach s u → BelowAbove p u
below_above p s u l m =
    let own = zip_through Suits MayBe Takes takes l.front s.subs u.node.subs l.suits m.subs in
    let more = some_taken l.rest in
    let P : List Element → Type 0 = λ es. AllZip Takes es (u.node.subs ++ more.0) in
    let all = subst P l.elements (zip_append Takes l.front l.rest u.node.subs more.0 own more.1) in
    let at : GlobalNode = record { root = p.global; subs = u.node.subs ++ more.0 } in
    record {
      more = more.0;
      lies = (
        record { node = at; extent = p.extent },
        record { root = refl; extent = refl; subs = all },
        record { root = refl; subs = reaches_itself p.extent (u.node.subs ++ more.0) },
      );
    }

-- two trees that are surely above patterns, the first of which begins the second: the second's pattern is met below
meets_below : (rules : RuleLists) (r s : Reference) (t u : Region) (q : Pattern) → IsPattern rules q → SurelyAbove q s → MayReach r t → MayReach s u → r.extent ≡ Tree → t.node.root ≡ u.node.root → Begins t.node.subs u.node.subs → SharesPattern rules r s t u
meets_below rules r s t u q is above m k tree root b =
    let w = below_above q s u above k in
    let node : GlobalNode = record { root = q.global; subs = u.node.subs ++ w.more } in
    let R : Extent → Type 0 = λ e. Reaches e t.node.subs node.subs in
    let S : Extent → Type 0 = λ e. Reaches e u.node.subs node.subs in
    let more : Begins u.node.subs (u.node.subs ++ w.more) = begins_more u.node.subs w.more in
    let first : InRegion t node = record {
      root = sym (root ∙ k.root ∙ above.root);
      subs = subst R (sym (m.extent ∙ tree)) (begins_on t.node.subs u.node.subs node.subs b more);
    } in
    let second : InRegion u node = record { root = sym (k.root ∙ above.root); subs = subst S (sym (k.extent ∙ above.tree)) more } in
    record {
      pattern = q;
      is_rule = is;
      node = node;
      first = first;
      second = second;
      lies = w.lies;
      meets_first = (t, node, m, first, w.lies);
      meets_second = (u, node, k, second, w.lies);
    }

turned : (rules : RuleLists) (r s : Reference) (t u : Region) → SharesPattern rules s r u t → SharesPattern rules r s t u
turned rules r s t u h = record {
  pattern = h.pattern;
  is_rule = h.is_rule;
  node = h.node;
  first = h.second;
  second = h.first;
  lies = h.lies;
  meets_first = h.meets_second;
  meets_second = h.meets_first;
}

-- the shared node itself, if the first reference surely lies in a pattern
meets_here : (rules : RuleLists) (r s : Reference) (t u : Region) (p : Pattern) (n : GlobalNode) → IsPattern rules p → SurelyLies p r → MayReach r t → MayReach s u → InRegion t n → InRegion u n → SharesPattern rules r s t u
meets_here rules r s t u p n is lies m k i j =
    let l = surely_lies p r t n lies m i in
    record {
      pattern = p;
      is_rule = is;
      node = n;
      first = i;
      second = j;
      lies = l;
      meets_first = (t, n, m, i, l);
      meets_second = (u, n, k, j, l);
    }

tree_begins : (t : Region) (n : GlobalNode) → t.extent ≡ Tree → InRegion t n → Begins t.node.subs n.subs
tree_begins t n is i =
    let R : Extent → Type 0 = λ e. Reaches e t.node.subs n.subs in subst R is i.subs

both_above : (rules : RuleLists) (r s : Reference) (t u : Region) (p q : Pattern) (n : GlobalNode) → IsPattern rules p → IsPattern rules q → SurelyAbove p r → SurelyAbove q s → MayReach r t → MayReach s u → InRegion t n → InRegion u n → SharesPattern rules r s t u
both_above rules r s t u p q n is are a b m k i j =
    let root : t.node.root ≡ u.node.root = sym i.root ∙ j.root in
    elim (begins_two t.node.subs u.node.subs n.subs (tree_begins t n (m.extent ∙ a.tree) i) (tree_begins u n (k.extent ∙ b.tree) j)) [
      | inl c ↦ meets_below rules r s t u q are b m k a.tree root c
      | inr c ↦ turned rules r s t u (meets_below rules s r u t p is a k m b.tree (sym root) c)
    ]

shares : (rules : RuleLists) (r s : Reference) (t u : Region) (n : GlobalNode) → IsRuled rules r → IsRuled rules s → MayReach r t → MayReach s u → InRegion t n → InRegion u n → SharesPattern rules r s t u
shares rules r s t u n (p, is, inl lies) k m m' i j = meets_here rules r s t u p n is lies m m' i j
shares rules r s t u n (p, is, inr above) (q, are, inl lies) m m' i j =
    turned rules r s t u (meets_here rules s r u t q n are lies m' m j i)
shares rules r s t u n (p, is, inr above) (q, are, inr below) m m' i j = both_above rules r s t u p q n is are above below m m' i j

pub share_pattern : SharePattern
share_pattern rules a b r s t u h k m m' o = shares rules r s t.region u.region o.0 h k (may_touch a r t m) (may_touch b s u m') o.1 o.2
