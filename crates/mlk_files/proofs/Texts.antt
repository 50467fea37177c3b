-- Reading files in the order of their paths.
use Rattle.std.proofs.Common.{◌≡◌, ℕ, Bool, true, false, ◌<◌, ◌≤◌, ◌+◌, ◌++◌, List, [], ◌∷◌, length, take, drop, slice_index_or, sym, ap, ◌∙◌, subst, Bor, take-append-drop, append_assoc, append-nil}
use Rattle.std.specs.Prelude.{Vec}
use Rattle.std.specs.Global.{Global}
use Rattle.std.proofs.lemmas.List.{drop_all, drop_more, take_more, map-append}
use Rattle.mlk_files.specs.declared.source.FileError.{FileError}
use Rattle.mlk_files.specs.declared.source.FileError.TheVariants as error
use Rattle.mlk_reading.specs.declared.source.Source.{Source}
use Rattle.mlk_files.specs.declared.source.Sources.{Sources}
use Rattle.mlk_files.specs.declared.source.Work.{Work}
use Rattle.mlk_files.specs.declared.source.Work.TheVariants as work
use Rattle.mlk_cli.specs.declared.words.Asked.{Asked}
use Rattle.mlk_cli.specs.declared.words.Asked.TheVariants as asked
use Rattle.mlk_cli.specs.declared.words.ProgramRequest.{ProgramRequest}
use Rattle.mlk_files.specs.Files.{Texts, IsSource, AreSources, AreTexts, AreHeld, AreEvents, IsWork, Loses, LosesFirst, events_path, new_path, work_path, written_path}
use Rattle.mlk_cli.specs.CommandLine.{bytes_of}

-- what comes before a path, the path, and what comes after it
cut-at : (paths : List (Bor (List ℕ))) (i : ℕ) (d : Bor (List ℕ)) → i < length paths → bytes_of paths ≡ bytes_of (take i paths) ++ (slice_index_or paths i d).now ∷ bytes_of (drop (i + 1) paths)
cut-at paths i d less =
    ap bytes_of (sym (take-append-drop i paths)) ∙ map-append (λ p. p.now) (take i paths) (drop i paths) ∙ ap (λ l. bytes_of (take i paths) ++ bytes_of l) (drop_more paths i d less)

pub loses-first : (holds : Texts) (unreadable : List ℕ → Type 0) (paths : List (Bor (List ℕ))) (i : ℕ) (d : Bor (List ℕ)) (e : FileError) → i < length paths → AreHeld holds (bytes_of (take i paths))
    → Loses unreadable (slice_index_or paths i d).now e → LosesFirst holds unreadable (bytes_of paths) e
loses-first holds unreadable paths i d error.OutOfMemory less held lost = record {}
loses-first holds unreadable paths i d (error.Unread path) less held (same, lost) = record {
  front = bytes_of (take i paths);
  after = bytes_of (drop (i + 1) paths);
  cut = cut-at paths i d less ∙ ap (λ p. bytes_of (take i paths) ++ p ∷ bytes_of (drop (i + 1) paths)) (sym same);
  held = held;
  lost = subst unreadable (sym same) lost;
}

held-one-more : (holds : Texts) (paths : List (List ℕ)) (path text : List ℕ) → AreHeld holds paths → holds path text → AreHeld holds (paths ++ path ∷ [])
held-one-more holds [] path text held here = ((text, here), record {})
held-one-more holds (p ∷ paths) path text held here = (held.0, held-one-more holds paths path text held.1 here)

pub held-more : (holds : Texts) (paths : List (Bor (List ℕ))) (i : ℕ) (d : Bor (List ℕ)) (text : List ℕ) → i < length paths → AreHeld holds (bytes_of (take i paths)) → holds (slice_index_or paths i d).now text
    → AreHeld holds (bytes_of (take (i + 1) paths))
held-more holds paths i d text less held here =
    let longer : bytes_of (take (i + 1) paths) ≡ bytes_of (take i paths) ++ (slice_index_or paths i d).now ∷ [] = ap bytes_of (take_more paths i d less) ∙ map-append (λ p. p.now) (take i paths) (slice_index_or paths i d ∷ []) in
    subst (AreHeld holds) (sym longer) (held-one-more holds (bytes_of (take i paths)) (slice_index_or paths i d).now text held here)

pub read-more : (holds : Texts) (paths : List (Bor (List ℕ))) (i : ℕ) (d : Bor (List ℕ)) (source : Source) (done longer : List Source) → i < length paths → longer ≡ done ++ source ∷ []
    → IsSource holds (slice_index_or paths i d).now source → ((more : List Source) → AreSources holds (drop i paths) more → AreSources holds paths (done ++ more))
    → (more : List Source) → AreSources holds (drop (i + 1) paths) more → AreSources holds paths (longer ++ more)
read-more holds paths i d source done longer less is here before more h =
    let this : AreSources holds (drop i paths) (source ∷ more) = subst (λ l. AreSources holds l (source ∷ more)) (sym (drop_more paths i d less)) (here, h) in
    subst (AreSources holds paths) (sym (append_assoc done (source ∷ []) more) ∙ ap (λ l. l ++ more) (sym is)) (before (source ∷ more) this)

pub read-all : (holds : Texts) (paths : List (Bor (List ℕ))) (i : ℕ) (done : List Source) → length paths ≤ i → ((more : List Source) → AreSources holds (drop i paths) more → AreSources holds paths (done ++ more)) → AreSources holds paths done
read-all holds paths i done past before = subst (AreSources holds paths) (append-nil done) (before [] (subst (λ l. AreSources holds l []) (sym (drop_all i paths past)) (record {})))

pub loses-front : (holds : Texts) (unreadable : List ℕ → Type 0) (path : List ℕ) (paths : List (List ℕ)) (e : FileError) → Loses unreadable path e → LosesFirst holds unreadable (path ∷ paths) e
loses-front holds unreadable path paths error.OutOfMemory lost = record {}
loses-front holds unreadable path paths (error.Unread other) (same, lost) = record {
  front = [];
  after = paths;
  cut = ap (λ p. p ∷ paths) (sym same);
  held = record {};
  lost = subst unreadable (sym same) lost;
}

pub loses-after : (holds : Texts) (unreadable : List ℕ → Type 0) (path text : List ℕ) (paths : List (List ℕ)) (e : FileError) → holds path text → LosesFirst holds unreadable paths e → LosesFirst holds unreadable (path ∷ paths) e
loses-after holds unreadable path text paths error.OutOfMemory held lost = record {}
loses-after holds unreadable path text paths (error.Unread other) held lost = record {
  front = path ∷ lost.front;
  after = lost.after;
  cut = ap (λ l. path ∷ l) lost.cut;
  held = ((text, held), lost.held);
  lost = lost.lost;
}

-- what is lost among the first paths is lost among all
pub loses-within : (holds : Texts) (unreadable : List ℕ → Type 0) (paths more : List (List ℕ)) (e : FileError) → LosesFirst holds unreadable paths e → LosesFirst holds unreadable (paths ++ more) e
loses-within holds unreadable paths more error.OutOfMemory lost = record {}
loses-within holds unreadable paths more (error.Unread path) lost = record {
  front = lost.front;
  after = lost.after ++ more;
  cut = ap (λ l. l ++ more) lost.cut ∙ append_assoc lost.front (path.now ∷ lost.after) more;
  held = lost.held;
  lost = lost.lost;
}

-- what is lost after the events were had, or if they are asked for
loses-past-events : (holds : Texts) (unreadable : List ℕ → Type 0) (interactive : Bool) (path text : List ℕ) (paths : List (List ℕ)) (e : FileError) → AreEvents interactive (holds path text) → LosesFirst holds unreadable paths e
    → LosesFirst holds unreadable (events_path interactive path ++ paths) e
loses-past-events holds unreadable true path text paths e held lost = lost
loses-past-events holds unreadable false path text paths e held lost = loses-after holds unreadable path text paths e held lost

-- what is lost of events alone
pub events_lost : (holds : Texts) (unreadable : List ℕ → Type 0) (interactive : Bool) (path : List ℕ) (e : FileError) → interactive ≡ false → Loses unreadable path e → LosesFirst holds unreadable (events_path interactive path) e
events_lost holds unreadable true path e not lost = cc
events_lost holds unreadable false path e not lost = loses-front holds unreadable path [] e lost

-- events that are asked for may be any
any-events : (interactive : Bool) (read : Type 0) (path other : List ℕ) → new_path interactive path ≡ other ∷ [] → AreEvents interactive read
any-events true read path other named = record {}
any-events false read path other named = cc

asked-work : (holds : Texts) (a : Asked) (path : List ℕ) (events : Vec ℕ Global) → written_path a ≡ path ∷ [] → IsWork holds a (work.Replay events)
asked-work holds (asked.Check given workers style) path events named = cc
asked-work holds (asked.Make format) path events named = cc
asked-work holds (asked.Verify workers style) path events named = cc
asked-work holds (asked.Replay given style) path events named = any-events style.is_interactive (holds given.now events.items) given.now path named

pub asked_texts : (holds : Texts) (program : ProgramRequest) (sources : Sources) (path : List ℕ) (events : Vec ℕ Global) → written_path program.asked ≡ path ∷ [] → AreTexts holds program sources
    → AreTexts holds program (record sources { work = work.Replay events })
asked_texts holds program sources path events named texts = record {
  rules = texts.rules;
  work = asked-work holds program.asked path events named;
  routines = texts.routines;
  plain = texts.plain;
  baseline = texts.baseline;
}

-- what is lost after the text of the certificate, or of the events, was had
pub loses-past : (holds : Texts) (unreadable : List ℕ → Type 0) (a : Asked) (w : Work) (paths : List (List ℕ)) (e : FileError) → IsWork holds a w → LosesFirst holds unreadable paths e
    → LosesFirst holds unreadable (work_path a ++ paths) e
loses-past holds unreadable (asked.Check path workers style) (work.Check text given) paths e held lost = loses-after holds unreadable path.now text.items paths e held.0 lost
loses-past holds unreadable (asked.Check path workers style) (work.Make format) paths e held lost = absurd held
loses-past holds unreadable (asked.Check path workers style) (work.Verify given) paths e held lost = absurd held
loses-past holds unreadable (asked.Check path workers style) (work.Replay text) paths e held lost = absurd held
loses-past holds unreadable (asked.Make format) w paths e held lost = lost
loses-past holds unreadable (asked.Verify workers style) w paths e held lost = lost
loses-past holds unreadable (asked.Replay path style) (work.Check text given) paths e held lost = absurd held
loses-past holds unreadable (asked.Replay path style) (work.Make format) paths e held lost = absurd held
loses-past holds unreadable (asked.Replay path style) (work.Verify given) paths e held lost = absurd held
loses-past holds unreadable (asked.Replay path style) (work.Replay text) paths e held lost = loses-past-events holds unreadable style.is_interactive path.now text.items paths e held lost

-- what is lost after the texts of routines were had
pub loses-behind : (holds : Texts) (unreadable : List ℕ → Type 0) (paths : List (Bor (List ℕ))) (sources : List Source) (more : List (List ℕ)) (e : FileError) → AreSources holds paths sources → LosesFirst holds unreadable more e
    → LosesFirst holds unreadable (bytes_of paths ++ more) e
loses-behind holds unreadable [] [] more e read lost = lost
loses-behind holds unreadable [] (source ∷ sources) more e read lost = absurd read
loses-behind holds unreadable (path ∷ paths) [] more e read lost = absurd read
loses-behind holds unreadable (path ∷ paths) (source ∷ sources) more e read lost =
    loses-after holds unreadable path.now source.text.items (bytes_of paths ++ more) e read.0.2 (loses-behind holds unreadable paths sources more e read.1 lost)
