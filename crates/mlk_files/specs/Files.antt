-- The texts that a command reads: those of the files that it names, and a routine's name from its file's. This
-- project's own choice.
use Rattle.std.specs.Prelude.{Bool, true, false, Option, None, Some, option_map, map, String, string_bytes, Vec, ℕ, ◌≡◌, ◌<◌, ◌⊎◌}
use Rattle.std.specs.Prelude.{List, [], ◌∷◌, ◌++◌, length, slice_index}
use Rattle.std.specs.Borrow.{Bor}
use Rattle.std.specs.Global.{Global}
use Rattle.mlk_files.specs.Dialects.{ArePlainIn}
use Rattle.mlk_dialect.specs.declared.dialect.Dialect.TheVariants as dialect
use Rattle.mlk_files.specs.declared.source.FileError.{FileError}
use Rattle.mlk_files.specs.declared.source.FileError.TheVariants as error
use Rattle.mlk_reading.specs.declared.source.Source.{Source}
use Rattle.mlk_files.specs.declared.source.Sources.{Sources}
use Rattle.mlk_files.specs.declared.source.Work.{Work}
use Rattle.mlk_files.specs.declared.source.Work.TheVariants as work
use Rattle.mlk_cert.specs.declared.format.CertFormat.{CertFormat}
use Rattle.mlk_cert.specs.declared.format.CertFormat.TheVariants as format
use Rattle.mlk_cli.specs.CommandLine.{bytes_of}
use Rattle.mlk_cli.specs.declared.words.Asked.{Asked}
use Rattle.mlk_cli.specs.declared.words.Asked.TheVariants as asked
use Rattle.mlk_cli.specs.declared.words.Format.{Format}
use Rattle.mlk_cli.specs.declared.words.Format.TheVariants as named
use Rattle.mlk_cli.specs.declared.words.ProgramRequest.{ProgramRequest}
use Rattle.mlk_cli.specs.declared.words.Request.{Request}
use Rattle.mlk_cli.specs.declared.words.Request.TheVariants as request

-- no byte is this one
abbrev pub Lacks : ℕ → List ℕ → Type 0
Lacks b text = (i : ℕ) → i < length text → slice_index text i ≡ b → ⊥

-- a file's name: what follows the last slash of its path, or the whole path
abbrev pub IsFileName : List ℕ → List ℕ → Type 0
IsFileName path name = Lacks 47 name × ((path ≡ name) ⊎ ((folder : List ℕ) × (path ≡ folder ++ 47 ∷ name)))

-- the stem of a name: what precedes its last dot, or the whole name if it has none
abbrev pub IsNameStem : List ℕ → List ℕ → Type 0
IsNameStem name stem = ((name ≡ stem) × Lacks 46 name) ⊎ ((ending : List ℕ) × (name ≡ stem ++ 46 ∷ ending) × Lacks 46 ending)

abbrev pub IsPathStem : List ℕ → List ℕ → Type 0
IsPathStem path stem = (name : List ℕ) × IsFileName path name × IsNameStem name stem

-- what is known of the files: which text a path may have
abbrev pub Texts : Type 1
Texts = List ℕ → List ℕ → Type 0

-- what is known of folders: the paths of the routines below a path, in order; `None` if it is no folder
abbrev pub Folders : Type 1
Folders = List ℕ → Option (List (List ℕ)) → Type 0

-- the texts of the paths below a folder
abbrev pub texts_below : Option (Vec (String Global) Global) → Option (List (List ℕ))
texts_below found = option_map (λ v. map string_bytes v.items) found

-- a routine is the text at its path, under the stem of its file's name
abbrev pub IsSource : Texts → List ℕ → Source → Type 0
IsSource holds path source = (source.dialect ≡ dialect.Standard) × IsPathStem path source.stem.now × holds path source.text.items

-- the routines are those of these paths, in order, and no others
abbrev pub AreSources : Texts → List (Bor (List ℕ)) → List Source → Type 0
AreSources holds [] [] = Unit {0}
AreSources holds [] (source ∷ sources) = ⊥
AreSources holds (path ∷ paths) [] = ⊥
AreSources holds (path ∷ paths) (source ∷ sources) = IsSource holds path.now source × AreSources holds paths sources

-- the format of certificates that the words name
abbrev pub cert_format : Format → CertFormat
cert_format named.First = format.First
cert_format named.Second = format.Second

-- The events are those of a file, or a person is asked for them: nothing says which.
abbrev pub AreEvents : Bool → Type 0 → Type 0
AreEvents true read = Unit {0}
AreEvents false read = read

-- the text of the certificate, or of the events, where one is named, and the number of workers or the format
abbrev pub IsWork : Texts → Asked → Work → Type 0
IsWork holds (asked.Check path workers style) (work.Check text given) = holds path.now text.items × (given ≡ workers)
IsWork holds (asked.Check path workers style) (work.Make format) = ⊥
IsWork holds (asked.Check path workers style) (work.Verify given) = ⊥
IsWork holds (asked.Check path workers style) (work.Replay text) = ⊥
IsWork holds (asked.Make format) w = w ≡ work.Make (cert_format format)
IsWork holds (asked.Verify workers style) w = w ≡ work.Verify workers
IsWork holds (asked.Replay path style) (work.Check text given) = ⊥
IsWork holds (asked.Replay path style) (work.Make format) = ⊥
IsWork holds (asked.Replay path style) (work.Verify given) = ⊥
IsWork holds (asked.Replay path style) (work.Replay text) = AreEvents style.is_interactive (holds path.now text.items)

-- the path of a file that may be given
abbrev pub given_path : Option (Bor (List ℕ)) → List (List ℕ)
given_path None = []
given_path (Some path) = path.now ∷ []

-- the text of a file that may be given
abbrev pub IsGivenText : Texts → Option (Bor (List ℕ)) → Option (Vec ℕ Global) → Type 0
IsGivenText holds None None = Unit {0}
IsGivenText holds None (Some text) = ⊥
IsGivenText holds (Some path) None = ⊥
IsGivenText holds (Some path) (Some text) = holds path.now text.items

-- the texts are those of the files of a program that a command names
pub record AreTexts (holds : Texts) (program : ProgramRequest) (sources : Sources) : Type 0 where
  pub rules : holds program.rules.now sources.rules.items
  pub work : IsWork holds program.asked sources.work
  pub routines : AreSources holds program.routines.items sources.routines.items
  pub plain : ArePlainIn program.dialect sources.routines.items sources.plain
  pub baseline : IsGivenText holds program.baseline sources.baseline

-- the path of events that are read: none if a person is asked for them
abbrev pub events_path : Bool → List ℕ → List (List ℕ)
events_path true path = []
events_path false path = path ∷ []

abbrev pub work_path : Asked → List (List ℕ)
work_path (asked.Check path workers style) = path.now ∷ []
work_path (asked.Make format) = []
work_path (asked.Verify workers style) = []
work_path (asked.Replay path style) = events_path style.is_interactive path.now

-- the path of the events that are asked for and written
abbrev pub new_path : Bool → List ℕ → List (List ℕ)
new_path true path = path ∷ []
new_path false path = []

abbrev pub written_path : Asked → List (List ℕ)
written_path (asked.Check path workers style) = []
written_path (asked.Make format) = []
written_path (asked.Verify workers style) = []
written_path (asked.Replay path style) = new_path style.is_interactive path.now

-- the paths that a command names, in the order of its words, and that of the known faults last
abbrev pub program_paths : ProgramRequest → List (List ℕ)
program_paths program = program.rules.now ∷ (work_path program.asked ++ (bytes_of program.routines.items ++ given_path program.baseline))

abbrev pub paths_of : Request → List (List ℕ)
paths_of (request.Program program) = program_paths program
paths_of (request.Convert certificate format) = certificate.now ∷ []
paths_of (request.Survey survey) = bytes_of survey.routines.items
paths_of (request.Suggest suggestion) = given_path suggestion.beside ++ bytes_of suggestion.routines.items
paths_of (request.Stubs stubs) = bytes_of stubs.routines.items
paths_of (request.Explain code) = []

-- each of these paths has a text
abbrev pub AreHeld : Texts → List (List ℕ) → Type 0
AreHeld holds [] = Unit {0}
AreHeld holds (path ∷ paths) = ((text : List ℕ) × holds path text) × AreHeld holds paths

-- the first path of a list that can't be read
pub record IsFirstLost (holds : Texts) (unreadable : List ℕ → Type 0) (paths : List (List ℕ)) (path : List ℕ) : Type 0 where
  pub front : List (List ℕ)
  pub after : List (List ℕ)
  pub cut : paths ≡ front ++ path ∷ after
  pub held : AreHeld holds front
  pub lost : unreadable path

-- why a file was not read. Want of memory says nothing.
abbrev pub Loses : (List ℕ → Type 0) → List ℕ → FileError → Type 0
Loses unreadable path error.OutOfMemory = Unit {0}
Loses unreadable path (error.Unread other) = (other.now ≡ path) × unreadable path

-- the same of some path
abbrev pub LosesPath : (List ℕ → Type 0) → FileError → Type 0
LosesPath unreadable error.OutOfMemory = Unit {0}
LosesPath unreadable (error.Unread path) = unreadable path.now

-- the same of the first of a list
abbrev pub LosesFirst : Texts → (List ℕ → Type 0) → List (List ℕ) → FileError → Type 0
LosesFirst holds unreadable paths error.OutOfMemory = Unit {0}
LosesFirst holds unreadable paths (error.Unread path) = IsFirstLost holds unreadable paths path.now

-- what a path stands for: the routines below it, if it is a folder; else itself
abbrev pub or_itself : List ℕ → Option (List (List ℕ)) → List (List ℕ)
or_itself path None = path ∷ []
or_itself path (Some below) = below

-- The paths of routines: those of files, and of a folder those of all routines below it.
abbrev pub AreFound : Folders → List (List ℕ) → List (List ℕ) → Type 0
AreFound below [] found = found ≡ []
AreFound below (path ∷ paths) found =
    (at : Option (List (List ℕ))) × (more : List (List ℕ)) × below path at × AreFound below paths more
    × (found ≡ or_itself path at ++ more)
