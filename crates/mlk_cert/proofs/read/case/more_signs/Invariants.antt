use Rattle.std.proofs.Common.{◌≡◌, ◌<◌, ◌∷◌, [], ℕ, suc, length}
use Rattle.mlk_text.specs.Reading.{many, put}
use Rattle.mlk_cert_lexemes.specs.Reading.{keep}
use Rattle.mlk_cert_parts.specs.Reading.{sign_at}
use Rattle.mlk_cert.proofs.read.case.more_signs.Given as goal

abbrev pub invariant-loop-test : goal.invariant-loop-test
invariant-loop-test l = (n : ℕ) × (length l.rest < n) × (put l.found.items (many sign_at keep n l.rest) ≡ put (l.fn.first ∷ []) (many sign_at keep (suc (length l.bytes)) l.bytes))

abbrev pub decreases-loop-test : goal.decreases-loop-test
decreases-loop-test l = length l.rest
