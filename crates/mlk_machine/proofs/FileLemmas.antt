-- Files of events, line by line.
use Rattle.std.proofs.Common.{◌≡◌, ◌≢◌, ◌∙◌, ◌+◌, ◌<◌, ℕ, suc, List, [], ◌∷◌, ◌++◌, length, Option, Some, None, refl, sym, ap, arith, append_assoc, append-nil, length-append}
use Rattle.std.specs.Prelude.{min, option_map}
use Rattle.mlk_text.specs.declared.failure.Failure.{Failure}
use Rattle.mlk_text.specs.declared.failure.Failure.TheVariants.{OutOfMemory, Refused}
use Rattle.mlk_text.specs.declared.spelling.NotThere.{NotThere}
use Rattle.mlk_text.specs.Failures.{FailsOn}
use Rattle.mlk_cert_lexemes.specs.Lists.{EachPair}
use Rattle.mlk_syntax.specs.Trees.{RoutineTree}
use Rattle.mlk_machine.specs.declared.event_line.EventLine.{EventLine}
use Rattle.mlk_machine.specs.EventTexts.{line_text, file_text}
use Rattle.mlk_machine.specs.EventReading.{line_at}
use Rattle.mlk_machine.proofs.EventFormats.{line-format}
use Rattle.mlk_machine.proofs.LineLemmas.{line-shorter}
use Rattle.mlk_machine.specs.Files.{Asked, asked, AsksFor, SaysEvents, IsFirstOther}
use Rattle.mlk_machine.specs.InstructionViews.{asked_by, asked_at}

-- what was read at the front of a file
record Read (routines : List RoutineTree) (xs ys : List ℕ) (a : Asked) : Type 0 where
  order : EventLine
  line : line_at xs ≡ Some (order, ys)
  asks : asked routines order ≡ Some a

abbrev found_or : Asked × List ℕ → Option (Asked × List ℕ) → Asked × List ℕ
found_or none None = none
found_or none (Some r) = r

asks_by : (routines : List RoutineTree) (o : Option Asked) (a : Asked) (ys zs : List ℕ)
    → option_map {U = Asked × List ℕ} (λ b. (b, zs)) o ≡ Some (a, ys) → (o ≡ Some a) × (zs ≡ ys)
asks_by routines None a ys zs h = absurd (cc h)
asks_by routines (Some b) a ys zs h =
    let e : ◌≡◌ {A = Asked × List ℕ} (b, zs) (a, ys) = ap (found_or (b, zs)) h in
    (ap (λ (r : Asked × List ℕ). Some r.0) e, ap (λ (r : Asked × List ℕ). r.1) e)

read_by : (routines : List RoutineTree) (r : Option (EventLine × List ℕ)) (xs ys : List ℕ) (a : Asked) → line_at xs ≡ r
    → asked_by routines r ≡ Some (a, ys) → Read routines xs ys a
read_by routines None xs ys a e h = absurd (cc h)
read_by routines (Some (o, zs)) xs ys a e h =
    let b = asks_by routines (asked routines o) a ys zs h in
    record { order = o; line = e ∙ ap (λ l. Some (o, l)) b.1; asks = b.0 }

was_read : (routines : List RoutineTree) (xs ys : List ℕ) (a : Asked) → asked_at routines xs ≡ Some (a, ys)
    → Read routines xs ys a
unfolding asked_at
was_read routines xs ys a h = read_by routines (line_at xs) xs ys a refl h

-- what a line requests, from what was read
pub asks : (routines : List RoutineTree) (xs rest : List ℕ) (o : EventLine) (a : Asked) → line_at xs ≡ Some (o, rest)
    → Some a ≡ asked routines o → asked_at routines xs ≡ Some (a, rest)
unfolding asked_at
asks routines xs rest o a h e = ap (asked_by routines) h ∙ ap (option_map {U = Asked × List ℕ} (λ b. (b, rest))) (sym e)

pub asks_nothing : (routines : List RoutineTree) (xs rest : List ℕ) (o : EventLine) → line_at xs ≡ Some (o, rest)
    → None ≡ asked routines o → asked_at routines xs ≡ None
unfolding asked_at
asks_nothing routines xs rest o h e = ap (asked_by routines) h ∙ ap (option_map {U = Asked × List ℕ} (λ b. (b, rest))) (sym e)

pub no_line : (routines : List RoutineTree) (xs : List ℕ) (e : Failure NotThere) → FailsOn e (line_at xs)
    → FailsOn e (asked_at routines xs)
unfolding asked_at
no_line routines xs OutOfMemory h = tt
no_line routines xs (Refused why) h = ap (asked_by routines) h

pub asked-shorter : (routines : List RoutineTree) (xs ys : List ℕ) (a : Asked) → asked_at routines xs ≡ Some (a, ys)
    → length ys < length xs
asked-shorter routines xs ys a h = let r = was_read routines xs ys a h in line-shorter r.order xs ys r.line

file-more : (os : List EventLine) (o : EventLine) → file_text (os ++ o ∷ []) ≡ file_text os ++ line_text o
file-more [] o = append-nil (line_text o)
file-more (p ∷ os) o = ap (λ l. line_text p ++ l) (file-more os o) ∙ sym (append_assoc (line_text p) (file_text os) (line_text o))

each-more : (routines : List RoutineTree) (os : List EventLine) (asks : List Asked) (o : EventLine) (a : Asked)
    → EachPair (AsksFor routines) os asks → AsksFor routines o a
    → EachPair (AsksFor routines) (os ++ o ∷ []) (asks ++ a ∷ [])
each-more routines [] [] o a all is = (is, tt)
each-more routines [] (b ∷ asks) o a all is = absurd all
each-more routines (p ∷ os) [] o a all is = absurd all
each-more routines (p ∷ os) (b ∷ asks) o a all is = (all.0, each-more routines os asks o a all.1 is)

-- what was read so far
pub record SoFar (routines : List RoutineTree) (bytes rest : List ℕ) (asks : List Asked) (line : ℕ) : Type 0 where
  pub orders : List EventLine
  pub whole : bytes ≡ file_text orders ++ rest
  pub each : EachPair (AsksFor routines) orders asks
  pub number : line ≡ min (suc (length orders)) 4294967295

pub read_nothing : (routines : List RoutineTree) (bytes rest : List ℕ) → rest ≡ bytes → SoFar routines bytes rest [] 1
read_nothing routines bytes rest e = record { orders = []; whole = sym e; each = tt; number = refl }

pub read_more : (routines : List RoutineTree) (bytes rest after : List ℕ) (asks : List Asked) (line next : ℕ) (a : Asked)
    → SoFar routines bytes rest asks line → asked_at routines rest ≡ Some (a, after) → next ≡ min (line + 1) 4294967295
    → SoFar routines bytes after (asks ++ a ∷ []) next
read_more routines bytes rest after asks line next a so h e =
    let r = was_read routines rest after a h in
    let o = r.order in
    let s = line-format.sound o rest after r.line in
    let n = length-append so.orders (o ∷ []) in
    let m = so.number in
    record {
      orders = so.orders ++ o ∷ [];
      whole = so.whole ∙ ap (λ l. file_text so.orders ++ l) s.0
          ∙ sym (append_assoc (file_text so.orders) (line_text o) after)
          ∙ ap (λ l. l ++ after) (sym (file-more so.orders o));
      each = each-more routines so.orders asks o a so.each (s.1, r.asks);
      number = omega (arith, e, m, n);
    }

pub read_all : (routines : List RoutineTree) (bytes rest : List ℕ) (asks : List Asked) (line : ℕ)
    → SoFar routines bytes rest asks line → rest ≡ [] → SaysEvents routines bytes asks
read_all routines bytes rest asks line so e = record {
  orders = so.orders;
  whole = so.whole ∙ ap (λ l. file_text so.orders ++ l) e ∙ append-nil (file_text so.orders);
  each = so.each;
}

found_there : (routines : List RoutineTree) (o : EventLine) (a : Asked) (rest later : List ℕ) → AsksFor routines o a
    → rest ≡ line_text o ++ later → asked_at routines rest ≡ Some (a, later)
unfolding asked_at
found_there routines o a rest later is e =
    ap (asked_by routines) (ap line_at e ∙ line-format.complete o later is.0 tt)
    ∙ ap (λ p. option_map {U = Asked × List ℕ} (λ b. (b, later)) p) is.1

pub no_event : (routines : List RoutineTree) (bytes rest : List ℕ) (asks : List Asked) (line : ℕ)
    → SoFar routines bytes rest asks line → rest ≢ [] → asked_at routines rest ≡ None → IsFirstOther routines bytes line
no_event routines bytes rest asks line so some none = record {
  before = so.orders;
  asks = asks;
  rest = rest;
  whole = so.whole;
  each = so.each;
  more = some;
  other = λ o a later is e.
      let h : Some (a, later) ≡ None = sym (found_there routines o a rest later is e) ∙ none in cc h;
  number = so.number;
}
