-- The routines that a request names, and a request with others in their place. This project's own choice.
use Rattle.std.specs.Prelude.{ℕ, ◌≡◌, Bool, true, false, List, []}
use Rattle.mlk_cli.specs.CommandLine.{bytes_of}
use Rattle.mlk_cli.specs.declared.words.Request.{Request}
use Rattle.mlk_cli.specs.declared.words.Request.TheVariants as request

-- the paths of the routines that a request names
abbrev pub named_paths : Request → List (List ℕ)
named_paths (request.Program program) = bytes_of program.routines.items
named_paths (request.Convert certificate format) = []
named_paths (request.Survey survey) = bytes_of survey.routines.items
named_paths (request.Suggest suggestion) = bytes_of suggestion.routines.items
named_paths (request.Stubs stubs) = bytes_of stubs.routines.items
named_paths (request.Explain code) = []

-- a request with other routines
abbrev pub IsWithRoutines : Request → List (List ℕ) → Request → Type 0
IsWithRoutines (request.Program program) found (request.Program other) =
    (bytes_of other.routines.items ≡ found) × (other ≡ record program { routines = other.routines })
IsWithRoutines (request.Survey survey) found (request.Survey other) =
    (bytes_of other.routines.items ≡ found) × (other ≡ record survey { routines = other.routines })
IsWithRoutines (request.Suggest suggestion) found (request.Suggest other) =
    (bytes_of other.routines.items ≡ found) × (other ≡ record suggestion { routines = other.routines })
IsWithRoutines (request.Stubs stubs) found (request.Stubs other) =
    (bytes_of other.routines.items ≡ found) × (other ≡ record stubs { routines = other.routines })
IsWithRoutines r found other = other ≡ r

-- the paths that a text lists: none if there is no text. Which they are is not said.
abbrev pub MayList : Bool → List (List ℕ) → Type 0
MayList false paths = paths ≡ []
MayList true paths = Unit {0}
