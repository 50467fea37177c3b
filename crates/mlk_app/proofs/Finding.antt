-- What is answered with the routines that are found at paths.
use Rattle.std.proofs.Common.{◌≡◌, ◌++◌, ℕ, List, subst, Bor, Option, inl, inr, Some, None, Bool}
use Rattle.std.specs.Prelude.{String, Vec, is_some}
use Rattle.std.specs.Global.{Global}
use Rattle.mlk_cli.specs.CommandLine.{IsRequest}
use Rattle.mlk_cli.specs.declared.words.Invocation.{Invocation}
use Rattle.mlk_app.specs.declared.answer.Answer.{Answer}
use Rattle.mlk_app.specs.declared.answer.Answer.TheVariants as answer
use Rattle.mlk_files.specs.Files.{IsGivenText, Folders, Texts}
use Rattle.mlk_files.specs.Named.{MayList, named_paths}
use Rattle.mlk_app.specs.Ran.{AreListed, AnswersFound, AnswersLine, AnswersWords, TellsUnfound}

-- what is answered where something is not found, or where all is found
pub unfound-line : (holds : Texts) (below : Folders) (unreadable : List ℕ → Type 0) (line : Invocation) (a : Answer) → TellsUnfound unreadable a → AnswersLine holds below unreadable line a
unfound-line holds below unreadable line (answer.Report text status) told = absurd told
unfound-line holds below unreadable line (answer.Refused text notice help) told = absurd told
unfound-line holds below unreadable line (answer.Unread text help) told = inr told
unfound-line holds below unreadable line (answer.Usage text) told = absurd told
unfound-line holds below unreadable line answer.OutOfMemory told = record {}

pub found-line : (holds : Texts) (below : Folders) (unreadable : List ℕ → Type 0) (line : Invocation) (listed : List (List ℕ)) (a : Answer) → AreListed holds line.list listed
    → AnswersFound holds below unreadable line.request (named_paths line.request ++ listed) a → AnswersLine holds below unreadable line a
found-line holds below unreadable line listed a of_list (inl told) = unfound-line holds below unreadable line a told
found-line holds below unreadable line listed (answer.Report text status) of_list (inr (paths, request, found, replaced, h)) =
    (request, record { listed = listed; of_list = of_list; paths = paths; found = found; replaced = replaced }, h)
found-line holds below unreadable line listed (answer.Refused text notice help) of_list (inr (paths, request, found, replaced, h)) =
    (request, record { listed = listed; of_list = of_list; paths = paths; found = found; replaced = replaced }, h)
found-line holds below unreadable line listed (answer.Unread text help) of_list (inr (paths, request, found, replaced, h)) =
    inl (request, record { listed = listed; of_list = of_list; paths = paths; found = found; replaced = replaced }, h)
found-line holds below unreadable line listed (answer.Usage text) of_list (inr (paths, request, found, replaced, h)) = absurd h
found-line holds below unreadable line listed answer.OutOfMemory of_list (inr h) = record {}

-- The paths are those of a list if one is given.
pub listed-if-given : (holds : Texts) (path : Option (Bor (List ℕ))) (text : Option (Vec ℕ Global)) (given : Bool) (paths : List (List ℕ)) → IsGivenText holds path text → given ≡ is_some text → MayList given paths → AreListed holds path paths
listed-if-given holds None None given paths read same may = subst (λ (g : Bool). MayList g paths) same may
listed-if-given holds None (Some text) given paths read same may = absurd read
listed-if-given holds (Some path) None given paths read same may = absurd read
listed-if-given holds (Some path) (Some text) given paths read same may = (text.items, read)

pub words-answer : {A : Type 0} → (holds : Texts) (below : Folders) (unreadable : List ℕ → Type 0) (words : List (String A)) (line : Invocation) (a : Answer) → IsRequest words line → AnswersLine holds below unreadable line a
    → AnswersWords holds below unreadable words a
words-answer holds below unreadable words line (answer.Report text status) asked h = (line, asked, h)
words-answer holds below unreadable words line (answer.Refused text notice help) asked h = (line, asked, h)
words-answer holds below unreadable words line (answer.Unread text help) asked h = (line, asked, h)
words-answer holds below unreadable words line (answer.Usage text) asked h = absurd h
words-answer holds below unreadable words line answer.OutOfMemory asked h = record {}
