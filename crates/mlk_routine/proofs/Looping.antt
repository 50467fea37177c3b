-- The commands of a line, one after another, and FOR.
use Rattle.mlk_dialect.specs.declared.dialect.Dialect.{Dialect}
use Rattle.mlk_dialect.specs.declared.dialect.Dialect.TheVariants as dialect
use Rattle.mlk_text.specs.Places.{column_at}
use Rattle.std.proofs.Common.{◌≡◌, ◌<◌, ◌≤◌, ◌+◌, ◌-◌, ℕ, suc, List, [], ◌∷◌, ◌++◌, length, drop, Some, None, Bool, true, false, inl, inr, refl, sym, ap, ◌∙◌, subst, add-one, arith, ◌==◌, append_assoc, append-nil}
use Rattle.std.specs.Prelude.{Option, Result, Ok, Err, ◌⊎◌, ◌&&◌, is_some, not, nat_eq, slice_get}
use Rattle.std.specs.List.{list_all}
use Rattle.std.specs.Char.{to_ascii_lowercase}
use Rattle.std.specs.Option.{option_eq}
use Rattle.std.proofs.lemmas.Bool.{and_parts, cases_Bool, eqb-true}
use Rattle.std.proofs.lemmas.Bool.Decides.{nat_tests}
use Rattle.mlk_text.specs.Lexemes.{is_letter, word_at, letters}
use Rattle.mlk_text.specs.Spellings.{IsWord}
use Rattle.mlk_text.specs.declared.failure.Failure.{Failure}
use Rattle.mlk_text.specs.declared.failure.Failure.TheVariants.{OutOfMemory, Refused}
use Rattle.mlk_text.specs.declared.fault.Fault.{Fault}
use Rattle.mlk_text.proofs.Runs.{Run, run-is, parted}
use Rattle.mlk_text.proofs.Spelled.{word-reads}
use Rattle.mlk_expr.specs.Theorem.{Stands}
use Rattle.mlk_routine_arguments.specs.declared.word.Word.{Word}
use Rattle.mlk_routine_arguments.specs.declared.word.Word.TheVariants as word
use Rattle.mlk_syntax.specs.Trees.{New, Set, CommandTree, Does, ControlTree, Runs, CommandTrees, finished, then_command, then_for}
use Rattle.mlk_routine_arguments.specs.PartsRead.{Found, Nowhere, Denied, ReadsPart}
use Rattle.mlk_routine_arguments.specs.Faults.{IsFaulty}
use Rattle.mlk_routine_arguments.specs.Ends.{is_stop, starts, ControlEnds, ParameterEnds, IsRun, RunEnds, is_command_end, is_commands_end, is_bare_end, StopEnds, CommandEnd, CommandsEnd}
use Rattle.mlk_routine_arguments.specs.CommandWords.{is_for, is_added, has_arguments, least_after}
use Rattle.mlk_routine_arguments.specs.CommandGrammar.{is_space, IsGap, IsCommand, least_of, IsParameter, IsControl, IsForHead, AreCommands}
use Rattle.mlk_routine_arguments.specs.Stops.{parameter_stop}
use Rattle.mlk_routine_arguments.specs.Begins.{front_begins, parameter_begins, control_begins}
use Rattle.mlk_routine_arguments.specs.Kinds.{word_of, added_word_of, word_in, is_written, WordEnds}
use Rattle.mlk_syntax.specs.Views.{commands_from}
use Rattle.mlk_routine.specs.Leading.{LeadsTo, IsPerhapsControl, IsLoop, LoopEnds}
use Rattle.mlk_routine_arguments.proofs.Sequences.{Parts, Turned, stands_at, both_found, first_nowhere, second_nowhere, denied_second, not_after, next_is}
use Rattle.mlk_routine_arguments.proofs.Bytes.{AfterByte}
use Rattle.mlk_routine_arguments.proofs.Stopping.{command_stop, list_ended}
use Rattle.mlk_routine.proofs.Commanding.{stop_lacks, no_letter, command_parts}
use Rattle.mlk_routine_arguments.proofs.Words.{written_means, added_named, either_for, for_unnamed, stops_not, ends_stop}

-- Words, and nothing else, begin with letters.
no_empty_word : (d : Dialect) → word_in d [] ≡ None
unfolding word_of added_word_of is_written is_added
no_empty_word dialect.Standard = refl
no_empty_word dialect.Extended = refl

word_letter : (d : Dialect) (s : List ℕ) (w : Word) → IsWord s → word_in d s ≡ Some w → starts is_letter s ≡ true
word_letter d [] w h of = cc (sym (no_empty_word d) ∙ of)
word_letter d (b ∷ s) w h of = (and_parts (is_letter b) (list_all is_letter s) h).0

front_letter : (s rest : List ℕ) → starts is_letter s ≡ true → starts is_letter (s ++ rest) ≡ true
front_letter [] rest h = cc h
front_letter (b ∷ s) rest h = h

letter_no_space : (s : List ℕ) → starts is_letter s ≡ true → starts is_space s ≡ false
letter_no_space [] h = refl
letter_no_space (b ∷ s) h = grind (arith, nat_tests)

letter_no_end : (s : List ℕ) → starts is_letter s ≡ true → is_command_end s ≡ false
letter_no_end [] h = cc h
letter_no_end (b ∷ s) h = grind (arith, nat_tests)

letter_not_bare : (s : List ℕ) → starts is_letter s ≡ true → is_bare_end s ≡ false
letter_not_bare [] h = cc h
letter_not_bare (b ∷ s) h = let no : (b == 32) ≡ false = grind (arith, nat_tests) in rw no (grind (arith, nat_tests))

pub command_letter : (d : Dialect) (returns : Bool) (at : ℕ) (c : CommandTree) (s : List ℕ) → IsCommand d returns at c s → starts is_letter s ≡ true
command_letter d returns at (Does column condition action) s (place, may, inl (front, rest, is, word_is, more)) =
    let (w, letters, named, means) = written_means d action front word_is in
    ap (starts is_letter) is ∙ front_letter front rest (word_letter d front w letters named)
command_letter d returns at (Does column condition action) s (place, may, inr (extended, inr (inl (front, rest, is, word_is, more)))) =
    let (w, letters, named, means) = written_means d (Set []) front word_is in
    ap (starts is_letter) is ∙ front_letter front rest (word_letter d front w letters named)
command_letter d returns at (Does column condition action) s (place, may, inr (extended, inr (inr (front, rest, is, word_is, more)))) =
    let (w, letters, named, means) = written_means d (New []) front word_is in
    ap (starts is_letter) is ∙ front_letter front rest (word_letter d front w letters named)
command_letter d returns at (Does column condition action) s (place, may, inr (extended, inl (w, (front, rest, is, word_is, more)))) =
    let (letters, named) = added_named w front word_is in
    ap (starts is_letter) is ∙ front_letter front rest (word_letter dialect.Extended front (word.Added w) letters named)

for_letter : (s : List ℕ) → is_for s ≡ true → starts is_letter s ≡ true
unfolding is_for
for_letter s h = go s (either_for s h).0 h
  where
    go : (s : List ℕ) → IsWord s → is_for s ≡ true → starts is_letter s ≡ true
    go [] h also = cc also
    go (b ∷ s) h also = (and_parts (is_letter b) (list_all is_letter s) h).0

pub head_letter : (column at : ℕ) (control : Option ControlTree) (s : List ℕ) → IsForHead column at control s → starts is_letter s ≡ true
head_letter column at None s is = for_letter s is.1
head_letter column at (Some control) s (place, (front, rest, is, for_is, more)) = ap (starts is_letter) is ∙ front_letter front rest (for_letter front for_is)

-- Commands are empty, or begin with a letter.
commands_shape : (d : Dialect) (level loops at : ℕ) (c : CommandTrees) (s : List ℕ) → AreCommands d level loops at c s → ((c ≡ finished) × (s ≡ [])) ⊎ (starts is_letter s ≡ true)
commands_shape d level loops at finished s is = inl (refl, is)
commands_shape d level loops at (then_command first rest) s (text, gap, following, is, one, g, more) = inr (ap (starts is_letter) is ∙ front_letter text (gap ++ following) (command_letter d ((level == 1) && (loops == 0)) at first text one))
commands_shape d level loops at (then_for column index control rest) s (text, gap, following, is, one, which, few, g, more) = inr (ap (starts is_letter) is ∙ front_letter text (gap ++ following) (head_letter column at control text one))

commands_letter : (d : Dialect) (level loops at : ℕ) (c : CommandTrees) (s : List ℕ) → AreCommands d level loops at c s → (s ≡ []) ⊎ (starts is_letter s ≡ true)
commands_letter d level loops at c s is = elim (commands_shape d level loops at c s is) [ inl none ↦ inl none.1 | inr one ↦ inr one ]

end_no_space : (rest : List ℕ) → is_commands_end rest ≡ true → starts is_space rest ≡ false
end_no_space [] h = refl
end_no_space (b ∷ rest) h = grind (arith, nat_tests)

end_command : (rest : List ℕ) → is_commands_end rest ≡ true → is_command_end rest ≡ true
end_command [] h = refl
end_command (b ∷ rest) h = grind (arith, nat_tests)

end_bare : (rest : List ℕ) → is_commands_end rest ≡ true → is_bare_end rest ≡ true
end_bare [] h = refl
end_bare (b ∷ rest) h = let no : (b == 32) ≡ false = grind (arith, nat_tests) in rw no h

-- the spaces after a command, and the commands after them
no_space_after : (following rest : List ℕ) → (following ≡ []) ⊎ (starts is_letter following ≡ true) → is_commands_end rest ≡ true → starts is_space (following ++ rest) ≡ false
no_space_after following rest (inl none) h = ap (λ l. starts is_space (l ++ rest)) none ∙ end_no_space rest h
no_space_after following rest (inr one) h = letter_no_space (following ++ rest) (front_letter following rest one)

space_first : (b : ℕ) (gap : List ℕ) → list_all is_space (b ∷ gap) ≡ true → b ≡ 32
space_first b gap h = eqb-true b 32 (and_parts (b == 32) (list_all is_space gap) h).0

gap_stop : (b : Bool) (gap following rest : List ℕ) → IsGap (least_after b) gap following → is_commands_end rest ≡ true → StopEnds b (gap ++ (following ++ rest))
gap_stop true [] following rest (all, inl none) h = ap (λ l. is_command_end (l ++ rest)) none ∙ end_command rest h
gap_stop true [] following rest (all, inr few) h = let bad : ⊥ = omega (arith, few) in absurd bad
gap_stop true (g ∷ gap) following rest (all, e) h = ap (λ c. is_command_end (c ∷ (gap ++ (following ++ rest)))) (space_first g gap all)
gap_stop false [] following rest (all, inl none) h = ap (λ l. is_bare_end (l ++ rest)) none ∙ end_bare rest h
gap_stop false [] following rest (all, inr few) h = let bad : ⊥ = omega (arith, few) in absurd bad
gap_stop false (g ∷ []) following rest (all, inl none) h = ap (λ c. is_bare_end (c ∷ (following ++ rest))) (space_first g [] all) ∙ ap (λ l. is_command_end (l ++ rest)) none ∙ end_command rest h
gap_stop false (g ∷ []) following rest (all, inr few) h = let bad : ⊥ = omega (arith, few) in absurd bad
gap_stop false (g ∷ k ∷ gap) following rest (all, e) h =
    let more = (and_parts (g == 32) (list_all is_space (k ∷ gap)) all).1 in
    ap (λ c. is_bare_end (c ∷ k ∷ (gap ++ (following ++ rest)))) (space_first g (k ∷ gap) all) ∙ ap (λ c. is_command_end (c ∷ (gap ++ (following ++ rest)))) (space_first k gap more)

stop_gap : (b : Bool) (gap following rest : List ℕ) → list_all is_space gap ≡ true → (following ≡ []) ⊎ (starts is_letter following ≡ true) → StopEnds b (gap ++ (following ++ rest)) → (following ≡ []) ⊎ (least_after b ≤ length gap)
stop_gap b gap following rest all (inl none) e = inl none
stop_gap true [] following rest all (inr one) e = cc (sym e ∙ letter_no_end (following ++ rest) (front_letter following rest one))
stop_gap true (g ∷ gap) following rest all (inr one) e = inr (omega arith)
stop_gap false [] following rest all (inr one) e = cc (sym e ∙ letter_not_bare (following ++ rest) (front_letter following rest one))
stop_gap false (g ∷ []) following rest all (inr one) e =
    let space = ap (λ c. is_bare_end (c ∷ (following ++ rest))) (space_first g [] all) in
    cc (sym e ∙ space ∙ letter_no_end (following ++ rest) (front_letter following rest one))
stop_gap false (g ∷ k ∷ gap) following rest all (inr one) e = inr (omega arith)

module _ (d : Dialect) (level loops : ℕ) (line : List ℕ) where
  -- spaces, and commands after them
  abbrev pub SpacedCommands : ℕ → CommandTrees → List ℕ → Type 0
  SpacedCommands n rest r = (gap following : List ℕ) × (r ≡ gap ++ following) × (list_all is_space gap ≡ true) × AreCommands d level loops (n + length gap) rest following

  pub spaced_parts : (at : ℕ) → Parts line at (IsRun is_space) (RunEnds is_space) (λ u. AreCommands d level loops) (λ u. CommandsEnd) SpacedCommands CommandsEnd (λ u rest. rest)
  spaced_parts at = record {
    into = λ u rest s t one two. (s, t, refl, one, two);
    ends = λ u rest k t after is before e. e;
    apart = λ c u rest h (gap, following, is, all, more) e.
        (tt, c, gap, following, is, refl, all, more, no_space_after following rest (commands_letter d level loops (suc at + length gap) c following more) e, e);
  }

  -- the same, with at least as many spaces as are required
  abbrev pub GapThen : Bool → ℕ → CommandTrees → List ℕ → Type 0
  GapThen b n rest r = (gap following : List ℕ) × (r ≡ gap ++ following) × IsGap (least_after b) gap following × AreCommands d level loops (n + length gap) rest following

  pub forget : (b : Bool) (n : ℕ) (c : CommandTrees) (r : List ℕ) → GapThen b n c r → SpacedCommands n c r
  forget b n c r (gap, following, is, g, more) = (gap, following, is, g.0, more)

  -- if a command ends and these spaces follow, what is read after them is read after the command
  pub gap_found : (b : Bool) (at m : ℕ) (rest : CommandTrees) (n : ℕ) → at ≤ length line → StopEnds b (drop at line) → Found (IsRun is_space) (RunEnds is_space) line at tt m → Found (AreCommands d level loops) CommandsEnd line m rest n → Found (GapThen b) CommandsEnd line at rest n
  gap_found b at m rest n less stop run found = go (both_found (spaced_parts at) less tt rest m n run found)
    where
      go : Found SpacedCommands CommandsEnd line at rest n → Found (GapThen b) CommandsEnd line at rest n
      go (one, only) =
          let stands : Stands (GapThen b) CommandsEnd line at rest n = record { text = one.text; within = one.within; joined = one.joined; spelled = spell one.text one.joined one.spelled; ended = one.ended } in
          (stands, λ c u after h is e. only c u after h (forget b (suc at) c u is) e)
        where
          spell : (text : List ℕ) → drop at line ≡ text ++ drop n line → SpacedCommands (suc at) rest text → GapThen b (suc at) rest text
          spell text h (gap, following, is, all, more) =
              let whole : drop at line ≡ gap ++ (following ++ drop n line) = h ∙ ap (λ l. l ++ drop n line) is ∙ append_assoc gap following (drop n line) in
              (gap, following, is, (all, stop_gap b gap following (drop n line) all (commands_letter d level loops (suc at + length gap) rest following more) (subst (StopEnds b) whole stop)), more)

  pub gap_nowhere : (b : Bool) (at m : ℕ) → at ≤ length line → Found (IsRun is_space) (RunEnds is_space) line at tt m → Nowhere (AreCommands d level loops) CommandsEnd line m → Nowhere (GapThen b) CommandsEnd line at
  gap_nowhere b at m less run none c u rest h is e = second_nowhere (spaced_parts at) less tt m run none c u rest h (forget b (suc at) c u is) e

abbrev pub has_own : CommandTree → Bool
has_own (Does column condition action) = has_arguments action

-- FOR's word, with what follows it
for_word : (column at : ℕ) (control : Option ControlTree) (s after : List ℕ) → IsForHead column at control s → StopEnds (is_some control) after → is_for (word_at (s ++ after)).0 ≡ true
for_word column at None s after is e =
    let read = word-reads s after (either_for s is.1).0 (ends_stop word.Do after (no_letter after (stop_lacks false after e))) in
    ap (λ p. is_for p.0) read ∙ is.1
for_word column at (Some control) s after (place, (front, rest, is, for_is, (r, space, more))) e =
    let read = word-reads front (32 ∷ (r ++ after)) (either_for front for_is).0 refl in
    ap (λ l. is_for (word_at (l ++ after)).0) (is ∙ ap (λ l. front ++ l) space) ∙ ap (λ l. is_for (word_at l).0) (append_assoc front (32 ∷ r) after) ∙ ap (λ p. is_for p.0) read ∙ for_is

head_column : (column at : ℕ) (control : Option ControlTree) (s : List ℕ) → IsForHead column at control s → column ≡ column_at at
head_column column at None s is = is.0
head_column column at (Some control) s is = is.0

more_from : (done : List CommandTree) (a : CommandTree) (rest : CommandTrees) → commands_from (done ++ a ∷ []) rest ≡ commands_from done (then_command a rest)
more_from [] a rest = refl
more_from (c ∷ done) a rest = ap (then_command c) (more_from done a rest)

command_ended : (first : CommandTree) (gap following after : List ℕ) → IsGap (least_of first) gap following → is_commands_end after ≡ true → CommandEnd first ((gap ++ following) ++ after)
command_ended (Does column condition action) gap following after g e = subst (StopEnds (has_arguments action)) (sym (append_assoc gap following after)) (gap_stop (has_arguments action) gap following after g e)

no_word_end : (rest : List ℕ) → is_commands_end rest ≡ true → false ≡ is_for (word_at rest).0
unfolding is_for
no_word_end [] h = refl
no_word_end (b ∷ rest) h = let no : is_letter b ≡ false = grind (arith, nat_tests) in rw no refl

-- nor is one that begins with another letter
pub other_letter : (s : List ℕ) → true ≡ not (option_eq nat_eq (slice_get s 0) (Some 70)) → true ≡ not (option_eq nat_eq (slice_get s 0) (Some 102)) → false ≡ is_for (word_at s).0
unfolding is_for
other_letter [] h k = refl
other_letter (b ∷ s) h k =
    let other : (to_ascii_lowercase b == 102) ≡ false = grind (arith, nat_tests, h, k) in
    let one : (1 + letters s) ≡ suc (letters s) = omega arith in
    elim (cases_Bool (is_letter b)) [
      | inl letter ↦ rw (letter, one, other) refl
      | inr none ↦ rw none refl
    ]

module _ (d : Dialect) (level loops : ℕ) (line : List ℕ) where
  abbrev pub Returns : Bool
  Returns = (level == 1) && (loops == 0)

  -- the word of a command here is not FOR's
  command_word : (at : ℕ) (c : CommandTree) (u rest : List ℕ) → drop at line ≡ u ++ rest → IsCommand d Returns (suc at) c u → CommandEnd c rest → is_for (word_at (drop at line)).0 ≡ true → ⊥
  command_word at c u rest h is e for_is =
      let r = (command_parts d Returns line at).apart c u rest h is e in
      let far : drop at line ≡ r.2 ++ (r.3 ++ rest) = h ∙ ap (λ l. l ++ rest) (r.4) ∙ append_assoc (r.2) (r.3) rest in
      let read = word-reads (r.2) (r.3 ++ rest) (r.6).0 (ends_stop (r.0) (r.3 ++ rest) (r.8)) in
      let here : is_for (r.2) ≡ true = sym (ap (λ p. is_for p.0) read) ∙ sym (ap (λ l. is_for (word_at l).0) far) ∙ for_is in
      let bad : ◌≡◌ {A = Option Word} (Some (r.0)) None = sym (r.6).1 ∙ for_unnamed d (r.2) here in
      cc bad

  -- a command, and the commands after it
  pub then_parts : (at : ℕ) → is_commands_end (drop at line) ≡ false → is_for (word_at (drop at line)).0 ≡ false
      → Parts line at (IsCommand d Returns) CommandEnd (λ first. GapThen d level loops line (has_own first)) (λ first. CommandsEnd) (AreCommands d level loops) CommandsEnd then_command
  then_parts at more_here no_for = record {
    into = λ first rest s t one two. into first rest s t one two;
    ends = λ first rest k t after is before e. e;
    apart = λ c u after h is e. go c u after h is e;
  }
    where
      into : (first : CommandTree) (rest : CommandTrees) (s t : List ℕ) → IsCommand d Returns (suc at) first s → GapThen d level loops line (has_own first) (suc at + length s) rest t → AreCommands d level loops (suc at) (then_command first rest) (s ++ t)
      into (Does column condition action) rest s t one (gap, following, is, g, more) = (s, gap, following, ap (λ l. s ++ l) is, one, g, more)

      spaced : (first : CommandTree) (rest : CommandTrees) (k : ℕ) (gap following : List ℕ) → IsGap (least_of first) gap following → AreCommands d level loops (k + length gap) rest following → GapThen d level loops line (has_own first) k rest (gap ++ following)
      spaced (Does column condition action) rest k gap following g more = (gap, following, refl, g, more)

      go : (c : CommandTrees) (u after : List ℕ) → drop at line ≡ u ++ after → AreCommands d level loops (suc at) c u → is_commands_end after ≡ true
          → (first : CommandTree) × (rest : CommandTrees) × (s t : List ℕ) × (u ≡ s ++ t) × (c ≡ then_command first rest) × IsCommand d Returns (suc at) first s × GapThen d level loops line (has_own first) (suc at + length s) rest t × CommandEnd first (t ++ after) × CommandsEnd rest after
      go finished u after h is e = cc (sym more_here ∙ ap is_commands_end (h ∙ ap (λ l. l ++ after) is) ∙ e)
      go (then_command first rest) u after h (text, gap, following, is, one, g, more) e =
          (first, rest, text, gap ++ following, is, refl, one, spaced first rest (suc at + length text) gap following g more, command_ended first gap following after g e, e)
      go (then_for column index control rest) u after h (text, gap, following, is, head, which, few, g, more) e =
          let far : drop at line ≡ text ++ (gap ++ (following ++ after)) = h ∙ ap (λ l. l ++ after) is ∙ append_assoc text (gap ++ following) after ∙ ap (λ l. text ++ l) (append_assoc gap following after) in
          let here = for_word column (suc at) control text (gap ++ (following ++ after)) head (gap_stop (is_some control) gap following after g e) in
          cc (sym no_for ∙ ap (λ l. is_for (word_at l).0) far ∙ here)

  pub leads_begin : (at : ℕ) → at ≤ length line → LeadsTo d level loops line at [] at
  leads_begin at less = (less, λ rest end f. f, λ none. none)

  module _ (at next : ℕ) (done : List CommandTree) (l : LeadsTo d level loops line at done next) (more_here : is_commands_end (drop next line) ≡ false) (no_for : is_for (word_at (drop next line)).0 ≡ false) where
    pub leads_more : (a : CommandTree) (end m : ℕ) → Found (IsCommand d Returns) CommandEnd line next a end → Found (IsRun is_space) (RunEnds is_space) line end tt m → LeadsTo d level loops line at (done ++ a ∷ []) m
    leads_more a end m f run = (
      run.0.within,
      λ rest n g.
          let after = gap_found d level loops line (has_own a) end m rest n f.0.within (own_stop a f.0.ended) run g in
          subst (λ c. Found (AreCommands d level loops) CommandsEnd line at c n) (sym (more_from done a rest)) (l.1 (then_command a rest) n (both_found (then_parts next more_here no_for) (l.0) a rest end n f after)),
      λ none. l.2 (second_nowhere (then_parts next more_here no_for) (l.0) a end f (gap_nowhere d level loops line (has_own a) end m f.0.within run none)),
    )
      where
        own_stop : (a : CommandTree) → CommandEnd a (drop end line) → StopEnds (has_own a) (drop end line)
        own_stop (Does column condition action) e = e

    pub leads_denied : (e : Failure Fault) → Denied (IsCommand d Returns) CommandEnd line next e → Denied (AreCommands d level loops) CommandsEnd line at e
    leads_denied OutOfMemory h = tt
    leads_denied (Refused fault) h = (l.2 (first_nowhere (then_parts next more_here no_for) (l.0) h.0), h.1)

    pub leads_on : (a : CommandTree) (end m : ℕ) → Found (IsCommand d Returns) CommandEnd line next a end → Found (IsRun is_space) (RunEnds is_space) line end tt m → length line - m < length line - next
    leads_on a end m f run =
        let place = next_is line f.0.text next end (l.0) f.0.within f.0.joined in
        let some = some_text f.0.text (command_letter d Returns (suc next) a f.0.text f.0.spelled) in
        let far = not_after (IsRun is_space) (RunEnds is_space) line end tt m run.0 f.0.within in
        let within = run.0.within in
        omega arith
      where
        some_text : (s : List ℕ) → starts is_letter s ≡ true → 0 < length s
        some_text [] h = cc h
        some_text (b ∷ s) h = omega arith

  -- the end of the commands
  pub ended_found : (at : ℕ) → at ≤ length line → is_commands_end (drop at line) ≡ true → Found (AreCommands d level loops) CommandsEnd line at finished at
  ended_found at less h =
      let stands : Stands (AreCommands d level loops) CommandsEnd line at finished at = record { text = []; within = less; joined = refl; spelled = refl; ended = h } in
      (stands, λ c u rest g is e. go c u rest g (commands_shape d level loops (suc at) c u is))
    where
      go : (c : CommandTrees) (u rest : List ℕ) → drop at line ≡ u ++ rest → ((c ≡ finished) × (u ≡ [])) ⊎ (starts is_letter u ≡ true) → (c ≡ finished) × (rest ≡ drop at line)
      go c u rest g (inl none) = (none.0, sym (g ∙ ap (λ l. l ++ rest) none.1))
      go c u rest g (inr one) = cc (sym (letter_no_end (drop at line) (subst (λ l. starts is_letter l ≡ true) (sym g) (front_letter u rest one))) ∙ end_command (drop at line) h)

-- FOR's variable and parameters
control_ended : (c : ControlTree) (k : ℕ) (s rest : List ℕ) → IsControl k c s → is_command_end rest ≡ true → ControlEnds c rest
control_ended (Runs column name parameters) k s rest (place, (front, r, is, named, (q, equals, list))) h =
    list_ended IsParameter parameter_begins ParameterEnds parameter_stop (suc (k + length front)) parameters q rest list h

pub control_end : (k : ℕ) (c : ControlTree) (s rest : List ℕ) → AfterByte 32 IsControl k c s → is_command_end rest ≡ true → ControlEnds c rest
control_end k c s rest (r, is, one) h = control_ended c (suc k) r rest one h

module _ (line : List ℕ) (at : ℕ) where
  pub no_control_found : at ≤ length line → is_bare_end (drop at line) ≡ true → Found IsPerhapsControl (λ c. StopEnds (is_some c)) line at None at
  no_control_found less h =
      let stands : Stands IsPerhapsControl (λ c. StopEnds (is_some c)) line at None at = record { text = []; within = less; joined = refl; spelled = refl; ended = h } in
      (stands, λ c u rest g is e. go c u rest g is)
    where
      go : (c : Option ControlTree) (u rest : List ℕ) → drop at line ≡ u ++ rest → IsPerhapsControl (suc at) c u → (c ≡ None) × (rest ≡ drop at line)
      go None u rest g is = (refl, sym (g ∙ ap (λ l. l ++ rest) is))
      go (Some t) u rest g (r, is, one) =
          let far : drop at line ≡ 32 ∷ (r ++ rest) = g ∙ ap (λ l. l ++ rest) is in
          let stops : is_stop (r ++ rest) ≡ true = command_stop (r ++ rest) (sym (ap is_bare_end far) ∙ h) in
          cc (sym stops ∙ front_begins r rest (control_begins (suc (suc at)) t r one))

  pub control_turned : is_bare_end (drop at line) ≡ false → Turned line at (AfterByte 32 IsControl) (λ c. StopEnds true) IsPerhapsControl (λ c. StopEnds (is_some c)) Some
  control_turned h = record {
    into = λ t s is. is;
    ends = λ t rest e. e;
    apart = λ c u rest g is e. go c u rest g is e;
  }
    where
      go : (c : Option ControlTree) (u rest : List ℕ) → drop at line ≡ u ++ rest → IsPerhapsControl (suc at) c u → StopEnds (is_some c) rest → (t : ControlTree) × (c ≡ Some t) × AfterByte 32 IsControl (suc at) t u × StopEnds true rest
      go None u rest g is e = cc (sym h ∙ ap is_bare_end (g ∙ ap (λ l. l ++ rest) is) ∙ e)
      go (Some t) u rest g is e = (t, refl, is, e)

-- FOR's word
abbrev pub IsForWord : ℕ → Unit {0} → List ℕ → Type 0
IsForWord at u s = is_for s ≡ true

abbrev pub ForWordEnds : Unit {0} → List ℕ → Type 0
ForWordEnds u rest = WordEnds word.Do rest

pub for_found : (line : List ℕ) (at : ℕ) (ls ys : List ℕ) → at ≤ length line → ◌≡◌ {A = List ℕ × List ℕ} (ls, ys) (word_at (drop at line)) → is_for (word_at (drop at line)).0 ≡ true → Found IsForWord ForWordEnds line at tt (at + length ls)
for_found line at ls ys less h for_is = go (run-is is_letter (drop at line))
  where
    go : Run is_letter (drop at line) → Found IsForWord ForWordEnds line at tt (at + length ls)
    go (front, rest, is, all, stop, size) =
        let p = parted (letters (drop at line)) front rest (drop at line) is size in
        let same : ls ≡ front = ap (λ r. r.0) h ∙ p.0 in
        let whole : drop at line ≡ ls ++ rest = is ∙ ap (λ l. l ++ rest) (sym same) in
        let here : is_for ls ≡ true = ap (λ r. is_for r.0) h ∙ for_is in
        let s = stands_at IsForWord ForWordEnds line at tt ls rest less whole here (stops_not rest stop) in (
          s.0,
          λ c u others g other e.
              let a = word-reads u others (either_for u other).0 (ends_stop word.Do others e) in
              let b = word-reads ls rest (either_for ls here).0 stop in
              let r : ◌≡◌ {A = List ℕ × List ℕ} (u, others) (ls, rest) = sym a ∙ ap word_at (sym g ∙ whole) ∙ b in
              (refl, ap (λ (p : List ℕ × List ℕ). p.1) r ∙ s.1),
        )

-- FOR before the commands that it contains
module _ (loops : ℕ) (line : List ℕ) (at : ℕ) where
  pub head_parts : suc loops ≤ 255 → Parts line at IsForWord ForWordEnds (λ u. IsPerhapsControl) (λ u c. StopEnds (is_some c)) (IsLoop loops) LoopEnds (λ u c. c)
  head_parts few = record {
    into = λ u c s t one two. into c s t one two;
    ends = λ u c k t rest is before e. e;
    apart = λ c u rest h is e. go c u rest is.0 e;
  }
    where
      into : (c : Option ControlTree) (s t : List ℕ) → is_for s ≡ true → IsPerhapsControl (suc at + length s) c t → IsLoop loops (suc at) c (s ++ t)
      into None s t one two = ((refl, subst (λ l. is_for l ≡ true) (sym (ap (λ l. s ++ l) two ∙ append-nil s)) one), few)
      into (Some c) s t one two = ((refl, (s, t, refl, one, two)), few)

      go : (c : Option ControlTree) (u rest : List ℕ) → IsForHead (column_at (suc at)) (suc at) c u → StopEnds (is_some c) rest
          → (w : Unit {0}) × (k : Option ControlTree) × (s t : List ℕ) × (u ≡ s ++ t) × (c ≡ k) × IsForWord (suc at) w s × IsPerhapsControl (suc at + length s) k t × ForWordEnds w (t ++ rest) × StopEnds (is_some k) rest
      go None u rest is e = (tt, None, u, [], sym (append-nil u), refl, is.1, refl, no_letter rest (stop_lacks false rest e), e)
      go (Some c) u rest (place, (front, back, is, one, (r, space, two))) e = (tt, Some c, front, back, is, refl, one, (r, space, two), ap (λ l. starts is_letter (l ++ rest)) space, e)

  pub too_many : (suc loops ≤ 255 → ⊥) → (e : Failure Fault) → IsFaulty line e → Denied (IsLoop loops) LoopEnds line at e
  too_many h OutOfMemory fault = tt
  too_many h (Refused fault) is_fault = (λ c u rest g is e. h is.1, is_fault)

  pub head_told : suc loops ≤ 255 → at ≤ length line → (m : ℕ) → Found IsForWord ForWordEnds line at tt m → {X : Type 0} (view : X → Option ControlTree) (r : Result (X × ℕ) (Failure Fault))
      → ReadsPart view IsPerhapsControl (λ c. StopEnds (is_some c)) line m r → ReadsPart view (IsLoop loops) LoopEnds line at r
  head_told few less m f view (Ok r) t = both_found (head_parts few) less tt (view r.0) m (r.1) f t
  head_told few less m f view (Err e) t = denied_second (head_parts few) less tt m f e t

-- FOR and the commands that it contains
module _ (d : Dialect) (level loops : ℕ) (line : List ℕ) (at : ℕ) (here : is_for (word_at (drop at line)).0 ≡ true) where
  pub loop_parts : Parts line at (IsLoop loops) LoopEnds (λ control. GapThen d level (suc loops) line (is_some control)) (λ control. CommandsEnd) (AreCommands d level loops) CommandsEnd (λ control rest. then_for (column_at (at + 1)) (suc loops) control rest)
  loop_parts = record {
    into = λ control rest s t one two. into control rest s t one two;
    ends = λ control rest k t after is before e. e;
    apart = λ c u after h is e. go c u after h is e;
  }
    where
      into : (control : Option ControlTree) (rest : CommandTrees) (s t : List ℕ) → IsLoop loops (suc at) control s → GapThen d level (suc loops) line (is_some control) (suc at + length s) rest t → AreCommands d level loops (suc at) (then_for (column_at (at + 1)) (suc loops) control rest) (s ++ t)
      into control rest s t (head, few) (gap, following, is, g, more) =
          (s, gap, following, ap (λ l. s ++ l) is, subst (λ k. IsForHead k (suc at) control s) (ap column_at (sym (add-one at))) head, refl, few, g, more)

      go : (c : CommandTrees) (u after : List ℕ) → drop at line ≡ u ++ after → AreCommands d level loops (suc at) c u → is_commands_end after ≡ true
          → (control : Option ControlTree) × (rest : CommandTrees) × (s t : List ℕ) × (u ≡ s ++ t) × (c ≡ then_for (column_at (at + 1)) (suc loops) control rest) × IsLoop loops (suc at) control s × GapThen d level (suc loops) line (is_some control) (suc at + length s) rest t × LoopEnds control (t ++ after) × CommandsEnd rest after
      go finished u after h is e = cc (no_word_end after e ∙ sym (ap (λ l. is_for (word_at l).0) (h ∙ ap (λ l. l ++ after) is)) ∙ here)
      go (then_command first rest) u after h (text, gap, following, is, one, g, more) e =
          let whole : drop at line ≡ text ++ ((gap ++ following) ++ after) = h ∙ ap (λ l. l ++ after) is ∙ append_assoc text (gap ++ following) after in
          absurd (command_word d level loops line at first text ((gap ++ following) ++ after) whole one (command_ended first gap following after g e) here)
      go (then_for column index control rest) u after h (text, gap, following, is, head, which, few, g, more) e =
          let same : column ≡ column_at (suc at) = head_column column (suc at) control text head in (
            control,
            rest,
            text,
            gap ++ following,
            is,
            ap (λ k. then_for k index control rest) (same ∙ ap column_at (sym (add-one at))) ∙ ap (λ i. then_for (column_at (at + 1)) i control rest) which,
            (subst (λ k. IsForHead k (suc at) control text) same head, subst (λ i. i ≤ 255) which few),
            (gap, following, refl, g, more),
            subst (StopEnds (is_some control)) (sym (append_assoc gap following after)) (gap_stop (is_some control) gap following after g e),
            e,
          )

-- if the commands do not end here and are not read further, there is a FOR
pub for_stands : (rest : List ℕ) → (is_commands_end rest ≡ true) ⊎ (is_for (word_at rest).0 ≡ true) → is_commands_end rest ≡ false → is_for (word_at rest).0 ≡ true
for_stands rest (inl end) h = cc (sym h ∙ end)
for_stands rest (inr here) h = here

-- what a FOR says of the whole line
module _ (d : Dialect) (level loops : ℕ) (line : List ℕ) (at next : ℕ) (done : List CommandTree) (l : LeadsTo d level loops line at done next) (here : is_for (word_at (drop next line)).0 ≡ true) where
  pub loop_denied : (e : Failure Fault) → Denied (IsLoop loops) LoopEnds line next e → Denied (AreCommands d level loops) CommandsEnd line at e
  loop_denied OutOfMemory h = tt
  loop_denied (Refused fault) h = (l.2 (first_nowhere (loop_parts d level loops line next here) (l.0) h.0), h.1)

  module _ (control : Option ControlTree) (end m : ℕ) (head : Found (IsLoop loops) LoopEnds line next control end) (run : Found (IsRun is_space) (RunEnds is_space) line end tt m) where
    pub rest_denied : (e : Failure Fault) → Denied (AreCommands d level (suc loops)) CommandsEnd line m e → Denied (AreCommands d level loops) CommandsEnd line at e
    rest_denied OutOfMemory h = tt
    rest_denied (Refused fault) h = (l.2 (second_nowhere (loop_parts d level loops line next here) (l.0) control end head (gap_nowhere d level (suc loops) line (is_some control) end m head.0.within run h.0)), h.1)

    pub loop_found : (rest : CommandTrees) (n : ℕ) → Found (AreCommands d level (suc loops)) CommandsEnd line m rest n
        → Found (AreCommands d level loops) CommandsEnd line at (commands_from done (then_for (column_at (next + 1)) (suc loops) control rest)) n
    loop_found rest n f =
        l.1 (then_for (column_at (next + 1)) (suc loops) control rest) n
        (both_found (loop_parts d level loops line next here) (l.0) control rest end n head (gap_found d level (suc loops) line (is_some control) end m rest n head.0.within head.0.ended run f))
