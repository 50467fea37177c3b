-- Bytes say at most one thing.
use Rattle.std.specs.Prelude.{Ok, Err}
use Rattle.std.proofs.Common.{◌≡◌, inl, inr, sym, ap, ◌∙◌, subst}
use Rattle.std.proofs.lemmas.Option.{same_Some}
use Rattle.toml.specs.Data.{Members}
use Rattle.mlk_rules.specs.declared.rules.RuleLists.{RuleLists}
use Rattle.mlk_rules_file.specs.declared.read.fault.RulesFault.{RulesFault}
use Rattle.mlk_rules.specs.Ranks.{FamiliesApart, IsFirstMeeting}
use Rattle.mlk_rules_file.specs.RuleAnswers.{Answer}
use Rattle.mlk_rules_file.specs.RuleSections.{lists_of, SomeMeet, TableSays, OneAnswer}
use Rattle.mlk_rules_file.proofs.RuleEach.{same_Ok}
use Rattle.mlk_rules.proofs.FamilyMeetings.{not_apart, first_one}

apart_or_meet : (ms : Members) (r : RuleLists) (f : RulesFault) → lists_of ms ≡ Ok r → FamiliesApart r.families → SomeMeet ms f → ⊥
apart_or_meet ms r f h apart m =
    let same : m.rules ≡ r = same_Ok m.rules r (sym m.said ∙ h) in
    not_apart r.families m.index (subst (λ (x : RuleLists). IsFirstMeeting x.families m.index) same m.first) apart

one_meeting : (ms : Members) (f g : RulesFault) → SomeMeet ms f → SomeMeet ms g → f ≡ g
one_meeting ms f g m n =
    let same : n.rules ≡ m.rules = same_Ok n.rules m.rules (sym n.said ∙ m.said) in
    let index : m.index ≡ n.index =
    first_one m.rules.families m.index n.index m.first (subst (λ (x : RuleLists). IsFirstMeeting x.families n.index) same n.first) in
    let first = m.fault in
    let second = n.fault in
    cc

one_said : (ms : Members) (a b : Answer RuleLists) → TableSays ms a → TableSays ms b → a ≡ b
one_said ms (Ok r) (Ok q) h k = sym h.0 ∙ k.0
one_said ms (Ok r) (Err f) h (inl k) = sym h.0 ∙ k
one_said ms (Ok r) (Err f) h (inr m) = absurd (apart_or_meet ms r f h.0 h.1 m)
one_said ms (Err f) (Ok r) (inl h) k = sym h ∙ k.0
one_said ms (Err f) (Ok r) (inr m) k = absurd (apart_or_meet ms r f k.0 k.1 m)
one_said ms (Err f) (Err g) (inl h) (inl k) = sym h ∙ k
one_said ms (Err f) (Err g) (inl h) (inr m) = let other = m.said in cc
one_said ms (Err f) (Err g) (inr m) (inl k) = let other = m.said in cc
one_said ms (Err f) (Err g) (inr m) (inr n) = ap Err (one_meeting ms f g m n)

pub one_answer : OneAnswer
one_answer bytes a b (ms, d, h) (ns, e, k) =
    let same : ns ≡ ms = same_Some ns ms (sym e.1 ∙ d.1) in
    one_said ms a b h (subst (λ t. TableSays t b) same k)
