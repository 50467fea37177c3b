-- What the documents of a report say, as JSON and as SARIF 2.1.0, the Static Analysis Results Interchange Format of OASIS: the
-- members by which a build server decides. Which other members they have is not said. This project's own choice.
use Rattle.std.specs.Prelude.{ℕ, ◌≡◌, ◌==◌, if◌then◌else◌, List, length, codes, Option, None, Some}
use Rattle.std.specs.Borrow.{Bor}
use Rattle.mlk_baseline.specs.declared.baseline.Comparison.{Comparison}
use Rattle.serde_json.specs.Data.{Data, string, array, object, no_items, item, Members, put}
use Rattle.serde_json.specs.View.{items_of}
use Rattle.serde_json.specs.Written.{IsInOrder}

-- how many faults are known, and are not among those of the report
abbrev pub known_in : Option (Bor Comparison) → ℕ
known_in None = 0
known_in (Some comparison) = comparison.now.known

-- the answer: `no` if there is a fault, `known` if there is none but some are known, else `yes`
abbrev pub answer_word : ℕ → ℕ → List ℕ
answer_word faults known = if faults == 0 then (if known == 0 then codes "yes" else codes "known") else codes "no"

-- The text is an object with the answer as `answer`, and a list as `faults` with one item for each fault.
abbrev pub IsJsonReport : ℕ → ℕ → List ℕ → Type 0
IsJsonReport faults known text = (items : List Data) × (others : Members) × (length items ≡ faults)
    × IsInOrder text (object
    (put (codes "faults") (array (items_of items)) (put (codes "answer") (string (answer_word faults known)) others)))

-- The text is an object with one run in `runs`, which has a list as `results` with this number of items.
abbrev pub IsSarifReport : ℕ → List ℕ → Type 0
IsSarifReport results text = (items : List Data) × (run others : Members) × (length items ≡ results)
    × IsInOrder text (object
    (put (codes "runs") (array (item (object (put (codes "results") (array (items_of items)) run)) no_items)) others))
