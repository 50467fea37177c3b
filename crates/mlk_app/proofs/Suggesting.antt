-- What is answered to a request for suggested rules.
use Rattle.std.proofs.Common.{◌≡◌, ◌++◌, ◌∷◌, ℕ, List, [], ap, subst, sym}
use Rattle.std.specs.Borrow.{Bor}
use Rattle.mlk_text.specs.declared.failure.Failure.TheVariants as failure
use Rattle.mlk_cli.specs.declared.words.Request.TheVariants as request
use Rattle.mlk_cli.specs.declared.words.SuggestRequest.{SuggestRequest}
use Rattle.mlk_cli.specs.CommandLine.{bytes_of}
use Rattle.mlk_rules_file.specs.declared.read.fault.RulesFault.{RulesFault}
use Rattle.mlk_rules_file.specs.RuleSections.{RefusesRules}
use Rattle.mlk_reading.specs.declared.source.Source.{Source}
use Rattle.mlk_app.specs.declared.answer.Answer.{Answer}
use Rattle.mlk_app.specs.declared.answer.Answer.TheVariants as answer
use Rattle.mlk_files.specs.declared.source.FileError.TheVariants as error
use Rattle.mlk_files.specs.Files.{Texts, AreSources, IsFirstLost, Loses, LosesFirst, given_path}
use Rattle.mlk_files.proofs.Texts.{loses-front}
use Rattle.mlk_app.specs.Ran.{TellsRules, TellsUnread, PrintsRules, SuggestsFor, Answers}

-- what is answered if rules are suggested
pub rules-suggested : (holds : Texts) (unreadable : List ℕ → Type 0) (paths : List (Bor (List ℕ))) (sources : List Source) (a : Answer) → AreSources holds paths sources → PrintsRules a → SuggestsFor holds unreadable paths a
rules-suggested holds unreadable paths sources (answer.Report text status) texts printed = (
  record {
    sources = sources;
    texts = texts;
    rules = printed.0;
  },
  printed.1,
)
rules-suggested holds unreadable paths sources (answer.Refused line notice help) texts printed = absurd printed
rules-suggested holds unreadable paths sources (answer.Unread line help) texts printed = absurd printed
rules-suggested holds unreadable paths sources (answer.Usage text) texts printed = absurd printed
rules-suggested holds unreadable paths sources answer.OutOfMemory texts printed = record {}

pub none-suggested : (holds : Texts) (unreadable : List ℕ → Type 0) (paths : List (Bor (List ℕ))) (path : Bor (List ℕ)) (a : Answer) → LosesFirst holds unreadable (bytes_of paths) (error.Unread path) → TellsUnread path.now a
    → SuggestsFor holds unreadable paths a
none-suggested holds unreadable paths path (answer.Report text status) lost printed = absurd printed
none-suggested holds unreadable paths path (answer.Refused line notice help) lost printed = absurd printed
none-suggested holds unreadable paths path (answer.Unread line help) lost printed = record {
  path = path.now;
  lost = lost;
  printed = printed;
}
none-suggested holds unreadable paths path (answer.Usage text) lost printed = absurd printed
none-suggested holds unreadable paths path answer.OutOfMemory lost printed = record {}

-- what is answered to a request for a suggestion: without rules beside it,
pub suggestion-answers : (holds : Texts) (unreadable : List ℕ → Type 0) (suggestion : SuggestRequest) (a : Answer) → given_path suggestion.beside ≡ [] → SuggestsFor holds unreadable suggestion.routines.items a
    → Answers holds unreadable (request.Suggest suggestion) a
suggestion-answers holds unreadable suggestion (answer.Report text status) alone h = h
suggestion-answers holds unreadable suggestion (answer.Refused line notice help) alone h = absurd h
suggestion-answers holds unreadable suggestion (answer.Unread line help) alone h = record {
  path = h.path;
  lost = subst (λ (beside : List (List ℕ)). IsFirstLost holds unreadable (beside ++ bytes_of suggestion.routines.items) h.path) (sym alone) h.lost;
  printed = h.printed;
}
suggestion-answers holds unreadable suggestion (answer.Usage text) alone h = absurd h
suggestion-answers holds unreadable suggestion answer.OutOfMemory alone h = record {}

lost-after : (holds : Texts) (unreadable : List ℕ → Type 0) (path text : List ℕ) (paths : List (List ℕ)) (other : List ℕ) → holds path text → IsFirstLost holds unreadable paths other → IsFirstLost holds unreadable (path ∷ paths) other
lost-after holds unreadable path text paths other held lost = record {
  front = path ∷ lost.front;
  after = lost.after;
  cut = ap (λ l. path ∷ l) lost.cut;
  held = ((text, held), lost.held);
  lost = lost.lost;
}

-- with rules beside it that were read,
pub beside-answers : (holds : Texts) (unreadable : List ℕ → Type 0) (suggestion : SuggestRequest) (path given : List ℕ) (a : Answer) → given_path suggestion.beside ≡ path ∷ [] → holds path given
    → SuggestsFor holds unreadable suggestion.routines.items a → Answers holds unreadable (request.Suggest suggestion) a
beside-answers holds unreadable suggestion path given (answer.Report text status) named held h = h
beside-answers holds unreadable suggestion path given (answer.Refused line notice help) named held h = absurd h
beside-answers holds unreadable suggestion path given (answer.Unread line help) named held h = record {
  path = h.path;
  lost = subst (λ (beside : List (List ℕ)). IsFirstLost holds unreadable (beside ++ bytes_of suggestion.routines.items) h.path) (sym named) (lost-after holds unreadable path given (bytes_of suggestion.routines.items) h.path held h.lost);
  printed = h.printed;
}
beside-answers holds unreadable suggestion path given (answer.Usage text) named held h = absurd h
beside-answers holds unreadable suggestion path given answer.OutOfMemory named held h = record {}

-- with rules beside it that are refused,
pub unsuggested-answers : (holds : Texts) (unreadable : List ℕ → Type 0) (suggestion : SuggestRequest) (path given : List ℕ) (fault : RulesFault) (a : Answer) → given_path suggestion.beside ≡ path ∷ [] → holds path given
    → RefusesRules given (failure.Refused fault) → TellsRules fault a → Answers holds unreadable (request.Suggest suggestion) a
unsuggested-answers holds unreadable suggestion path given fault (answer.Report text status) named held refused printed = absurd printed
unsuggested-answers holds unreadable suggestion path given fault (answer.Refused line notice help) named held refused printed = (
  record {
    path = path;
    named = named;
    given = given;
    held = held;
    fault = fault;
    refused = refused;
    printed = printed.0;
  },
  printed.1,
)
unsuggested-answers holds unreadable suggestion path given fault (answer.Unread line help) named held refused printed = absurd printed
unsuggested-answers holds unreadable suggestion path given fault (answer.Usage text) named held refused printed = absurd printed
unsuggested-answers holds unreadable suggestion path given fault answer.OutOfMemory named held refused printed = record {}

-- and with rules beside it that can't be read
pub lost-beside-answers : (holds : Texts) (unreadable : List ℕ → Type 0) (suggestion : SuggestRequest) (path : List ℕ) (other : Bor (List ℕ)) (a : Answer) → given_path suggestion.beside ≡ path ∷ [] → Loses unreadable path (error.Unread other)
    → TellsUnread other.now a → Answers holds unreadable (request.Suggest suggestion) a
lost-beside-answers holds unreadable suggestion path other (answer.Report text status) named lost printed = absurd printed
lost-beside-answers holds unreadable suggestion path other (answer.Refused line notice help) named lost printed = absurd printed
lost-beside-answers holds unreadable suggestion path other (answer.Unread line help) named lost printed = record {
  path = other.now;
  lost = subst (λ (beside : List (List ℕ)). IsFirstLost holds unreadable (beside ++ bytes_of suggestion.routines.items) other.now) (sym named) (loses-front holds unreadable path (bytes_of suggestion.routines.items) (error.Unread other) lost);
  printed = printed;
}
lost-beside-answers holds unreadable suggestion path other (answer.Usage text) named lost printed = absurd printed
lost-beside-answers holds unreadable suggestion path other answer.OutOfMemory named lost printed = record {}
