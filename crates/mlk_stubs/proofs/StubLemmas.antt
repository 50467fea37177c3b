-- Texts of stubs, one after another.
use Rattle.std.proofs.Common.{◌≡◌, ◌∙◌, ℕ, List, [], ◌∷◌, ◌++◌, ap}
use Rattle.std.proofs.lemmas.List.{flat_map_more}
use Rattle.std.proofs.lemmas.List.Elements.{All-nil, All-push}
use Rattle.mlk_stubs.specs.StubTexts.{IsStub, AreStubs}

pub no_stubs : (bytes : List ℕ) → bytes ≡ [] → AreStubs bytes
no_stubs bytes none = ([], none, All-nil IsStub)

pub one_stub_more : (old bytes : List ℕ) (stub : List ℕ × List ℕ) → AreStubs old → IsStub stub → bytes ≡ old ++ stub.1 → AreStubs bytes
one_stub_more old bytes stub stubs is added = (
  stubs.0 ++ stub ∷ [],
  added ∙ ap (λ (l : List ℕ). l ++ stub.1) stubs.1 ∙ flat_map_more (λ (s : List ℕ × List ℕ). s.1) [] stubs.0 stub,
  All-push IsStub stubs.0 stub stubs.2 is,
)
