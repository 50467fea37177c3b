-- Numbers that ascend, and those of a comparison as it goes through the faults.
use Rattle.std.proofs.Common.{ℕ, ◌≡◌, ◌∙◌, ◌+◌, ◌≤◌, List, [], ◌∷◌, ◌++◌, length, sym, subst, arith, length-append}
use Rattle.mlk_baseline.specs.Known.{Ascend}

pub ascend-wider : (low bound : ℕ) (ns : List ℕ) → Ascend low bound ns → Ascend low (bound + 1) ns
ascend-wider low bound [] h = record {}
ascend-wider low bound (n ∷ ns) h = (h.0, omega (arith, h.1), ascend-wider (n + 1) bound ns h.2)

pub ascend-more : (low bound : ℕ) (ns : List ℕ) → low ≤ bound → Ascend low bound ns → Ascend low (bound + 1) (ns ++ bound ∷ [])
ascend-more low bound [] fits h = (fits, omega arith, record {})
ascend-more low bound (n ∷ ns) fits h = (h.0, omega (arith, h.1), ascend-more (n + 1) bound ns (omega (arith, h.1)) h.2)

-- Of the faults before `index` this number is known, and all others are new.
abbrev pub AreCompared : ℕ → ℕ → List ℕ → Type 0
AreCompared index known news = (known + length news ≡ index) × Ascend 0 index news

-- the fault at `index` is known
pub known-more : (index known more : ℕ) (news all : List ℕ) → AreCompared index known news → more ≡ known + 1 → all ≡ news → AreCompared (index + 1) more all
known-more index known more news all met one same = subst (AreCompared (index + 1) more) (sym same) (omega (arith, met.0, one), ascend-wider 0 index news met.1)

-- the fault at `index` is new
pub new-more : (index known more number : ℕ) (news all : List ℕ) → AreCompared index known news → number ≡ known + length news → more ≡ known → all ≡ news ++ number ∷ [] → AreCompared (index + 1) more all
new-more index known more number news all met at same added =
    let there : number ≡ index = at ∙ met.0 in
    let counted : more + length (news ++ index ∷ []) ≡ index + 1 = omega (arith, met.0, same, length-append news (index ∷ [])) in
    subst (AreCompared (index + 1) more) (sym added) (subst (λ n. AreCompared (index + 1) more (news ++ n ∷ [])) (sym there) (counted, ascend-more 0 index news (omega arith) met.1))
