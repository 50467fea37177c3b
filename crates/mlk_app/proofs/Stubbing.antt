-- What is answered to a request for stubs.
use Rattle.std.proofs.Common.{◌≡◌, List, ℕ}
use Rattle.std.specs.Borrow.{Bor}
use Rattle.mlk_text.specs.declared.fault.Fault.{Fault}
use Rattle.mlk_cli.specs.declared.words.Request.TheVariants as request
use Rattle.mlk_cli.specs.declared.words.StubsRequest.{StubsRequest}
use Rattle.mlk_cli.specs.CommandLine.{bytes_of}
use Rattle.mlk_reading.specs.declared.source.Source.{Source}
use Rattle.mlk_app.specs.declared.answer.Answer.{Answer}
use Rattle.mlk_app.specs.declared.answer.Answer.TheVariants as answer
use Rattle.mlk_files.specs.declared.source.FileError.TheVariants as error
use Rattle.mlk_files.specs.Files.{Texts, AreSources, LosesFirst}
use Rattle.mlk_app.proofs.Saying.{no-notice}
use Rattle.mlk_app.specs.Ran.{TellsStubFault, TellsUnread, PrintsStubs, Answers}

pub fault-printed : (fault : Fault) (a : Answer) → TellsStubFault fault a → PrintsStubs a
fault-printed fault (answer.Report text status) printed = absurd printed
fault-printed fault (answer.Refused line notice help) printed = ((fault, printed.0), printed.1)
fault-printed fault (answer.Unread line help) printed = absurd printed
fault-printed fault (answer.Usage text) printed = absurd printed
fault-printed fault answer.OutOfMemory printed = record {}

pub stubs-answer : (holds : Texts) (unreadable : List ℕ → Type 0) (stubs : StubsRequest) (sources : List Source) (a : Answer) → AreSources holds stubs.routines.items sources → PrintsStubs a
    → Answers holds unreadable (request.Stubs stubs) a
stubs-answer holds unreadable stubs sources (answer.Report text status) texts printed = (
  record {
    sources = sources;
    texts = texts;
    printed = printed.0;
  },
  printed.1,
)
stubs-answer holds unreadable stubs sources (answer.Refused line notice help) texts printed = (printed.0, printed.1)
stubs-answer holds unreadable stubs sources (answer.Unread line help) texts printed = absurd printed
stubs-answer holds unreadable stubs sources (answer.Usage text) texts printed = absurd printed
stubs-answer holds unreadable stubs sources answer.OutOfMemory texts printed = record {}

pub unstubbed-answers : (holds : Texts) (unreadable : List ℕ → Type 0) (stubs : StubsRequest) (path : Bor (List ℕ)) (a : Answer) → LosesFirst holds unreadable (bytes_of stubs.routines.items) (error.Unread path)
    → TellsUnread path.now a → Answers holds unreadable (request.Stubs stubs) a
unstubbed-answers holds unreadable stubs path (answer.Report text status) lost printed = absurd printed
unstubbed-answers holds unreadable stubs path (answer.Refused line notice help) lost printed = absurd printed
unstubbed-answers holds unreadable stubs path (answer.Unread line help) lost printed = record {
  path = path.now;
  lost = lost;
  printed = printed;
}
unstubbed-answers holds unreadable stubs path (answer.Usage text) lost printed = absurd printed
unstubbed-answers holds unreadable stubs path answer.OutOfMemory lost printed = record {}
