-- SET of error traps: a text has one code and one action.
use Rattle.std.proofs.Common.{◌≡◌, ◌<◌, ◌≤◌, ◌+◌, ◌-◌, ℕ, suc, true, false, List, [], ◌∷◌, ◌++◌, length, drop, take, Some, None, inl, inr, refl, sym, ap, ◌∙◌, subst, arith, append_assoc, length-append, length-drop, codes}
use Rattle.std.specs.Prelude.{Option, Bool, ◌||◌, ◌==◌, is_some, if◌then◌else◌}
use Rattle.std.specs.List.{list_all}
use Rattle.std.specs.Str.{str_to_ascii_lowercase, str_eq_ignore_ascii_case}
use Rattle.std.proofs.Math.Seq.{drop-append_seam}
use Rattle.std.proofs.lemmas.Bool.{cases_Bool, or_cases, eqb-true}
use Rattle.std.proofs.lemmas.List.{take-append-drop}
use Rattle.mlk_dialect.specs.declared.dialect.Dialect.{Dialect}
use Rattle.mlk_dialect.specs.declared.dialect.Dialect.TheVariants as dialect
use Rattle.mlk_text.specs.Lexemes.{is_letter, byte_at, word_at}
use Rattle.mlk_text.specs.Places.{column_at}
use Rattle.mlk_text.specs.Reading.{◌>>=◌}
use Rattle.mlk_text.specs.Spellings.{IsWord}
use Rattle.mlk_text.proofs.Lexemes.{byte-is}
use Rattle.mlk_text.proofs.Readers.{then_some, pair_parts}
use Rattle.mlk_text.proofs.Runs.{run-is, run-length, parted}
use Rattle.mlk_text.proofs.Spelled.{word-reads, word-spelled}
use Rattle.mlk_expr_tokens.specs.Words.{is_either}
use Rattle.mlk_expr.specs.Grammar.{IsCalleeText}
use Rattle.mlk_expr.specs.Theorem.{CalleeEnds, Stands}
use Rattle.mlk_syntax.specs.declared.expr.Callee.{Callee}
use Rattle.mlk_syntax.specs.Trees.{ActionTree, Do, Halt, Job, Lock, New, CallTree, Called, TargetTree, SetWhole, SetPart, SetTree, SetTo}
use Rattle.mlk_routine_arguments.specs.PartsRead.{Found, Nowhere, first_of}
use Rattle.mlk_routine_arguments.specs.CommandWords.{is_word_of, has_arguments}
use Rattle.mlk_routine_arguments.specs.Ends.{is_stop, is_command_end, StopEnds, TrapEnds}
use Rattle.mlk_routine_arguments.specs.Stops.{job_stop}
use Rattle.mlk_routine_arguments.specs.Begins.{callee_begins}
use Rattle.mlk_routine_arguments.specs.Traps.{is_trap, is_ending, is_unquoted, nothing, IsRestart, IsHandler, IsTrap}
use Rattle.mlk_routine_arguments.specs.TrapParts.{named_value, trap_value, closed, unquoted, quoted_code, trap_code, past_word, past_command, past_clearing, halts_by, halts_here, IsRestartIn, IsHandlerIn}
use Rattle.mlk_routine_arguments.specs.CommandGrammar.{in_set, IsTarget, IsSet, IsOneOrEnclosed, AreSome}
use Rattle.mlk_routine_arguments.proofs.Sequences.{stands_at}
use Rattle.mlk_routine_arguments.proofs.Targets.{part_reads}
use Rattle.mlk_routine_arguments.proofs.Variables.{variable_starts, starts_lacking}
use Rattle.mlk_routine_arguments.proofs.Sole.{Alone}
use Rattle.mlk_routine_arguments.proofs.SoleArguments.{one_callee}
use Rattle.mlk_routine_arguments.proofs.Words.{same_case, lower_word, written_means}

-- what is written as one of two words has letters only, and no more bytes than the longer one
either_letters : (x y s : List ℕ) → is_either x y s ≡ true → IsWord x → IsWord y → IsWord s
either_letters x y s h one two = elim (or_cases (str_eq_ignore_ascii_case s x) (str_eq_ignore_ascii_case s y) h) [
  | inl e ↦ sym (lower_word s) ∙ ap (list_all is_letter) (same_case s x e) ∙ lower_word x ∙ one
  | inr e ↦ sym (lower_word s) ∙ ap (list_all is_letter) (same_case s y e) ∙ lower_word y ∙ two
]

lower_length : (s : List ℕ) → length (str_to_ascii_lowercase s) ≡ length s
lower_length [] = refl
lower_length (b ∷ s) = ap suc (lower_length s)

case_length : (s t : List ℕ) → str_eq_ignore_ascii_case s t ≡ true → length s ≡ length t
case_length s t e = sym (lower_length s) ∙ ap length (same_case s t e) ∙ lower_length t

either_length : (x y s : List ℕ) (n : ℕ) → is_either x y s ≡ true → length x ≤ n → length y ≤ n → length s ≤ n
either_length x y s n h one two = elim (or_cases (str_eq_ignore_ascii_case s x) (str_eq_ignore_ascii_case s y) h) [
  | inl e ↦ let same = case_length s x e in omega (arith, same, one)
  | inr e ↦ let same = case_length s y e in omega (arith, same, two)
]

word_letters : (a : ActionTree) (s : List ℕ) → is_word_of a s ≡ true → IsWord s
word_letters a s h = (written_means dialect.Standard a s h).1

trap_letters : (s : List ℕ) → is_trap s ≡ true → IsWord s
unfolding is_trap
trap_letters s h = elim (or_cases (is_either (codes "ET") (codes "ETRAP") s) (is_either (codes "ZT") (codes "ZTRAP") s) h) [
  | inl e ↦ either_letters (codes "ET") (codes "ETRAP") s e refl refl
  | inr e ↦ either_letters (codes "ZT") (codes "ZTRAP") s e refl refl
]

-- the name of a trap, and its code
value_reads : (name rest : List ℕ) → is_trap name ≡ true → trap_value (32 ∷ 36 ∷ (name ++ 61 ∷ rest)) ≡ Some (61, rest)
unfolding trap_value
value_reads name rest h = ap named_value (word-reads name (61 ∷ rest) (trap_letters name h) refl) ∙ rw h refl

named_written : (word : List ℕ × List ℕ) (c : ℕ) (rest : List ℕ) → named_value word ≡ Some (c, rest) → (is_trap (word.0) ≡ true) × (word.1 ≡ 61 ∷ rest)
named_written word c rest h = elim (cases_Bool (is_trap (word.0))) [
  | inl e ↦ (e, byte-is 61 c (word.1) rest (rw e at h))
  | inr e ↦ cc (rw e at h)
]

pub value_written : (s : List ℕ) (c : ℕ) (rest : List ℕ) → trap_value s ≡ Some (c, rest) → (name : List ℕ) × (s ≡ 32 ∷ 36 ∷ (name ++ 61 ∷ rest)) × (is_trap name ≡ true)
unfolding trap_value
value_written s c rest h =
    let (space, first, after) = then_some (byte_at 32 s) (λ space. byte_at 36 space.1 >>= λ dollar. named_value (word_at dollar.1)) (c, rest) h in
    let (dollar, second, named) = then_some (byte_at 36 (space.1)) (λ dollar. named_value (word_at dollar.1)) (c, rest) after in
    let r = named_written (word_at (dollar.1)) c rest named in
    let w = word-spelled ((word_at (dollar.1)).0) (dollar.1) ((word_at (dollar.1)).1) refl in
    let name = (word_at (dollar.1)).0 in
    (name, byte-is 32 (space.0) s (space.1) first ∙ ap (λ l. 32 ∷ l) (byte-is 36 (dollar.0) (space.1) (dollar.1) second ∙ ap (λ l. 36 ∷ l) (w.1 ∙ ap (λ l. name ++ l) r.1)), r.0)

code_reads : (code rest : List ℕ) → list_all is_unquoted code ≡ true → quoted_code (34 ∷ (code ++ 34 ∷ rest)) ≡ Some (code, rest)
unfolding quoted_code
code_reads code rest h =
    let p = parted (unquoted (code ++ 34 ∷ rest)) code (34 ∷ rest) (code ++ 34 ∷ rest) refl (run-length is_unquoted code (34 ∷ rest) h refl) in
    rw (p.0, p.1) refl

closed_is : (text s code rest : List ℕ) → closed text (byte_at 34 s) ≡ Some (code, rest) → (text ≡ code) × (s ≡ 34 ∷ rest)
closed_is text s code rest h = go (byte_at 34 s) refl h
  where
    go : (o : Option (ℕ × List ℕ)) → byte_at 34 s ≡ o → closed text o ≡ Some (code, rest) → (text ≡ code) × (s ≡ 34 ∷ rest)
    go None is h = cc h
    go (Some quote) is h = let p = pair_parts text code (quote.1) rest h in (p.0, byte-is 34 (quote.0) s (quote.1) is ∙ ap (λ l. 34 ∷ l) p.1)

code_written : (s code rest : List ℕ) → quoted_code s ≡ Some (code, rest) → (s ≡ 34 ∷ (code ++ 34 ∷ rest)) × (list_all is_unquoted code ≡ true)
unfolding quoted_code
code_written s code rest h =
    let (quote, first, second) = then_some (byte_at 34 s) (λ quote. closed (take (unquoted quote.1) quote.1) (byte_at 34 (drop (unquoted quote.1) quote.1))) (code, rest) h in
    let (front, back, is, all, stop, size) = run-is is_unquoted (quote.1) in
    let p = parted (unquoted (quote.1)) front back (quote.1) is size in
    let c = closed_is (take (unquoted (quote.1)) (quote.1)) (drop (unquoted (quote.1)) (quote.1)) code rest second in
    let same : front ≡ code = sym p.0 ∙ c.0 in
    let after : back ≡ 34 ∷ rest = sym p.1 ∙ c.1 in
    (byte-is 34 (quote.0) s (quote.1) first ∙ ap (λ l. 34 ∷ l) (is ∙ ap (λ l. l ++ back) same ∙ ap (λ l. code ++ l) after), subst (λ l. list_all is_unquoted l ≡ true) same all)

trap_length : (name code u : List ℕ) → u ≡ 32 ∷ 36 ∷ (name ++ 61 ∷ 34 ∷ (code ++ 34 ∷ [])) → length u ≡ length name + (length code + 5)
trap_length name code u is =
    let one : length (name ++ 61 ∷ 34 ∷ (code ++ 34 ∷ [])) ≡ length name + suc (suc (length (code ++ 34 ∷ []))) = length-append name (61 ∷ 34 ∷ (code ++ 34 ∷ [])) in
    let two : length (code ++ 34 ∷ []) ≡ length code + 1 = length-append code (34 ∷ []) in
    let all : length u ≡ suc (suc (length (name ++ 61 ∷ 34 ∷ (code ++ 34 ∷ [])))) = ap length is in
    omega (arith, one, two, all)

trap_text : (name code rest : List ℕ) → (32 ∷ 36 ∷ (name ++ 61 ∷ 34 ∷ (code ++ 34 ∷ []))) ++ rest ≡ 32 ∷ 36 ∷ (name ++ 61 ∷ 34 ∷ (code ++ 34 ∷ rest))
trap_text name code rest =
    ap (λ l. 32 ∷ 36 ∷ l) (append_assoc name (61 ∷ 34 ∷ (code ++ 34 ∷ [])) rest ∙ ap (λ l. name ++ 61 ∷ 34 ∷ l) (append_assoc code (34 ∷ []) rest))

-- where the code of a trap begins
abbrev code_place : ℕ → List ℕ → List ℕ → ℕ
code_place k u code = k + (length u - (length code + 2))

pub trap_reads : (k : ℕ) (a : ActionTree) (u rest : List ℕ) → IsTrap k a u → (code : List ℕ) × (trap_code (u ++ rest) ≡ Some (code, rest)) × IsHandler (code_place k u code) a code
unfolding trap_code
trap_reads k a u rest (name, code, is, trap, plain, handles) =
    let far = ap (λ l. l ++ rest) is ∙ trap_text name code rest in
    let value = value_reads name (34 ∷ (code ++ 34 ∷ rest)) trap in
    let size = trap_length name code u is in
    (code, ap trap_code far ∙ ap (λ o. o >>= λ value. quoted_code value.1) value ∙ code_reads code rest plain, subst (λ n. IsHandler n a code) (omega (arith, size)) handles)

-- the parts of code that begins a job anew
past_word_reads : (is_word : List ℕ → Bool) (w rest : List ℕ) → IsWord w → is_word w ≡ true → past_word is_word (w ++ 32 ∷ rest) ≡ Some (32, rest)
unfolding past_word
past_word_reads is_word w rest letters h =
    ap (λ (p : List ℕ × List ℕ). if◌then◌else◌ {A = Option (ℕ × List ℕ)} (is_word p.0) (byte_at 32 p.1) None) (word-reads w (32 ∷ rest) letters refl) ∙ rw h refl

past_word_written : (is_word : List ℕ → Bool) (s : List ℕ) (c : ℕ) (rest : List ℕ) → past_word is_word s ≡ Some (c, rest) → (w : List ℕ) × (s ≡ w ++ 32 ∷ rest) × (is_word w ≡ true)
unfolding past_word
past_word_written is_word s c rest h = elim (cases_Bool (is_word ((word_at s).0))) [
  | inl e ↦
      let w = word-spelled ((word_at s).0) s ((word_at s).1) refl in
      ((word_at s).0, w.1 ∙ ap (λ l. (word_at s).0 ++ l) (byte-is 32 c ((word_at s).1) rest (rw e at h)), e)
  | inr e ↦ cc (rw e at h)
]

past_command_reads : (is_word : List ℕ → Bool) (w rest : List ℕ) → IsWord w → is_word w ≡ true → past_command is_word (w ++ 32 ∷ 32 ∷ rest) ≡ Some (32, rest)
unfolding past_command
past_command_reads is_word w rest letters h = ap (λ o. o >>= λ space. byte_at 32 space.1) (past_word_reads is_word w (32 ∷ rest) letters h)

past_command_written : (is_word : List ℕ → Bool) (s : List ℕ) (c : ℕ) (rest : List ℕ) → past_command is_word s ≡ Some (c, rest) → (w : List ℕ) × (s ≡ w ++ 32 ∷ 32 ∷ rest) × (is_word w ≡ true)
unfolding past_command
past_command_written is_word s c rest h =
    let (space, first, second) = then_some (past_word is_word s) (λ space. byte_at 32 space.1) (c, rest) h in
    let (w, is, word) = past_word_written is_word s (space.0) (space.1) first in
    (w, is ∙ ap (λ l. w ++ 32 ∷ l) (byte-is 32 c (space.1) rest second), word)

-- `L  N  D ` before a rest
abbrev IsCleared : List ℕ → List ℕ → Type 0
IsCleared s rest = (locks news does : List ℕ) × (s ≡ locks ++ 32 ∷ 32 ∷ (news ++ 32 ∷ 32 ∷ (does ++ 32 ∷ rest)))
    × (is_word_of (Lock []) locks ≡ true) × (is_word_of (New []) news ≡ true) × (is_word_of (Do []) does ≡ true)

clearing_reads : (s rest : List ℕ) → IsCleared s rest → past_clearing s ≡ Some (32, rest)
unfolding past_clearing is_word_of
clearing_reads s rest (locks, news, does, is, lock_word, new_word, do_word) =
    let last = does ++ 32 ∷ rest in
    let middle = news ++ 32 ∷ 32 ∷ last in
    let one = past_command_reads (is_either (codes "L") (codes "LOCK")) locks middle (word_letters (Lock []) locks lock_word) lock_word in
    let two = past_command_reads (is_either (codes "N") (codes "NEW")) news last (word_letters (New []) news new_word) new_word in
    let three = past_word_reads (is_either (codes "D") (codes "DO")) does rest (word_letters (Do []) does do_word) do_word in
    ap past_clearing is
    ∙ ap (λ o. o >>= λ locked. past_command (is_either (codes "N") (codes "NEW")) locked.1 >>= λ cleared. past_word (is_either (codes "D") (codes "DO")) cleared.1) one
    ∙ ap (λ o. o >>= λ cleared. past_word (is_either (codes "D") (codes "DO")) cleared.1) two
    ∙ three

pub clearing_written : (s : List ℕ) (c : ℕ) (rest : List ℕ) → past_clearing s ≡ Some (c, rest) → IsCleared s rest
unfolding past_clearing is_word_of
clearing_written s c rest h =
    let (locked, first, more) = then_some (past_command (is_either (codes "L") (codes "LOCK")) s) (λ locked. past_command (is_either (codes "N") (codes "NEW")) locked.1 >>= λ cleared. past_word (is_either (codes "D") (codes "DO")) cleared.1) (c, rest) h in
    let (cleared, second, third) = then_some (past_command (is_either (codes "N") (codes "NEW")) (locked.1)) (λ cleared. past_word (is_either (codes "D") (codes "DO")) cleared.1) (c, rest) more in
    let (locks, one, lock_word) = past_command_written (is_either (codes "L") (codes "LOCK")) s (locked.0) (locked.1) first in
    let (news, two, new_word) = past_command_written (is_either (codes "N") (codes "NEW")) (locked.1) (cleared.0) (cleared.1) second in
    let (does, three, do_word) = past_word_written (is_either (codes "D") (codes "DO")) (cleared.1) c rest third in
    (locks, news, does, one ∙ ap (λ l. locks ++ 32 ∷ 32 ∷ l) (two ∙ ap (λ l. news ++ 32 ∷ 32 ∷ l) three), lock_word, new_word, do_word)

cleared_length : (locks news does rest s : List ℕ) → s ≡ locks ++ 32 ∷ 32 ∷ (news ++ 32 ∷ 32 ∷ (does ++ 32 ∷ rest)) → length s ≡ length locks + length news + length does + 5 + length rest
cleared_length locks news does rest s is =
    let one : length (locks ++ 32 ∷ 32 ∷ (news ++ 32 ∷ 32 ∷ (does ++ 32 ∷ rest))) ≡ length locks + suc (suc (length (news ++ 32 ∷ 32 ∷ (does ++ 32 ∷ rest)))) = length-append locks (32 ∷ 32 ∷ (news ++ 32 ∷ 32 ∷ (does ++ 32 ∷ rest))) in
    let two : length (news ++ 32 ∷ 32 ∷ (does ++ 32 ∷ rest)) ≡ length news + suc (suc (length (does ++ 32 ∷ rest))) = length-append news (32 ∷ 32 ∷ (does ++ 32 ∷ rest)) in
    let three : length (does ++ 32 ∷ rest) ≡ length does + suc (length rest) = length-append does (32 ∷ rest) in
    let all : length s ≡ length (locks ++ 32 ∷ 32 ∷ (news ++ 32 ∷ 32 ∷ (does ++ 32 ∷ rest))) = ap length is in
    omega (arith, one, two, three, all)

-- what is at the end of a text
end_of : (front rest s : List ℕ) → s ≡ front ++ rest → drop (length s - length rest) s ≡ rest
end_of front rest s is =
    let size : length s ≡ length front + length rest = ap length is ∙ length-append front rest in
    ap (λ n. drop n s) (omega (arith, size)) ∙ ap (drop (length front)) is ∙ drop-append_seam front rest

cleared_front : (locks news does rest : List ℕ) → locks ++ 32 ∷ 32 ∷ (news ++ 32 ∷ 32 ∷ (does ++ 32 ∷ rest)) ≡ (locks ++ 32 ∷ 32 ∷ (news ++ 32 ∷ 32 ∷ (does ++ 32 ∷ []))) ++ rest
cleared_front locks news does rest =
    sym (append_assoc locks (32 ∷ 32 ∷ (news ++ 32 ∷ 32 ∷ (does ++ 32 ∷ []))) rest
    ∙ ap (λ l. locks ++ 32 ∷ 32 ∷ l) (append_assoc news (32 ∷ 32 ∷ (does ++ 32 ∷ [])) rest ∙ ap (λ l. news ++ 32 ∷ 32 ∷ l) (append_assoc does (32 ∷ []) rest)))

pub cleared_end : (s rest : List ℕ) → IsCleared s rest → drop (length s - length rest) s ≡ rest
cleared_end s rest (locks, news, does, is, lock_word, new_word, do_word) =
    end_of (locks ++ 32 ∷ 32 ∷ (news ++ 32 ∷ 32 ∷ (does ++ 32 ∷ []))) rest s (is ∙ cleared_front locks news does rest)

restart_clears : (k : ℕ) (call : CallTree) (s : List ℕ) → (r : IsRestart k call s) → IsCleared s (r.entry ++ 32 ∷ r.halts)
restart_clears k call s r = (r.locks, r.news, r.does, r.text, r.lock_word, r.new_word, r.do_word)

callee_space : (callee : Callee) (ys : List ℕ) → CalleeEnds callee (32 ∷ ys)
callee_space callee ys = (((job_stop (Called 0 callee None) (32 ∷ ys) refl).0).0).0

-- a text is one such code at most
one_restart : (k : ℕ) (a b : CallTree) (s : List ℕ) → IsRestart k a s → IsRestart k b s → a ≡ b
one_restart k a b s p q =
    let read = sym (clearing_reads s (p.entry ++ 32 ∷ p.halts) (restart_clears k a s p)) ∙ clearing_reads s (q.entry ++ 32 ∷ q.halts) (restart_clears k b s q) in
    let same = (pair_parts 32 32 (p.entry ++ 32 ∷ p.halts) (q.entry ++ 32 ∷ q.halts) read).1 in
    let callee = (one_callee k p.callee q.callee p.entry q.entry (32 ∷ p.halts) (32 ∷ q.halts) same p.spelled (callee_space p.callee p.halts) q.spelled (callee_space q.callee q.halts)).0 in
    p.called ∙ ap (λ c. Called (column_at k) c None) callee ∙ sym q.called

some_byte : (a : ActionTree) (w : List ℕ) → is_word_of a w ≡ true → is_word_of a [] ≡ false → 0 < length w
some_byte a [] h none = cc (sym h ∙ none)
some_byte a (b ∷ w) h none = omega arith

some_entry : (k : ℕ) (callee : Callee) (s : List ℕ) → IsCalleeText k callee s → 0 < length s
some_entry k callee s is = go s (callee_begins callee.label callee.routine s is)
  where
    go : (s : List ℕ) → is_stop s ≡ false → 0 < length s
    go [] h = cc h
    go (b ∷ s) h = omega arith

restart_long : (k : ℕ) (call : CallTree) (s : List ℕ) → IsRestart k call s → 10 < length s
unfolding is_word_of
restart_long k call s r =
    let one = some_byte (Lock []) r.locks r.lock_word refl in
    let two = some_byte (New []) r.news r.new_word refl in
    let three = some_byte (Do []) r.does r.do_word refl in
    let four = some_byte Halt r.halts r.halt_word refl in
    let five = some_entry k r.callee r.entry r.spelled in
    let size = cleared_length r.locks r.news r.does (r.entry ++ 32 ∷ r.halts) s r.text in
    let last : length (r.entry ++ 32 ∷ r.halts) ≡ length r.entry + suc (length r.halts) = length-append r.entry (32 ∷ r.halts) in
    omega (arith, one, two, three, four, five, size, last)

ending_short : (s : List ℕ) → is_ending s ≡ true → length s ≤ 10
unfolding is_ending
ending_short s h = elim (or_cases (is_either (codes "H") (codes "HALT") s || is_either (codes "L  H") (codes "L  HALT") s || is_either (codes "LOCK  H") (codes "LOCK  HALT") s) (is_either (codes "ZHALT") (codes "ZGOTO 0") s) h) [
  | inl f ↦ elim (or_cases (is_either (codes "H") (codes "HALT") s || is_either (codes "L  H") (codes "L  HALT") s) (is_either (codes "LOCK  H") (codes "LOCK  HALT") s) f) [
    | inl g ↦ elim (or_cases (is_either (codes "H") (codes "HALT") s) (is_either (codes "L  H") (codes "L  HALT") s) g) [
      | inl e ↦ either_length (codes "H") (codes "HALT") s 10 e (omega arith) (omega arith)
      | inr e ↦ either_length (codes "L  H") (codes "L  HALT") s 10 e (omega arith) (omega arith)
    ]
    | inr e ↦ either_length (codes "LOCK  H") (codes "LOCK  HALT") s 10 e (omega arith) (omega arith)
  ]
  | inr e ↦ either_length (codes "ZHALT") (codes "ZGOTO 0") s 10 e (omega arith) (omega arith)
]

pub ending_no_restart : (k : ℕ) (call : CallTree) (s : List ℕ) → is_ending s ≡ true → IsRestart k call s → ⊥
ending_no_restart k call s h r = let short = ending_short s h in let long = restart_long k call s r in omega (arith, short, long)

one_handler : (k : ℕ) (a b : ActionTree) (s : List ℕ) → IsHandler k a s → IsHandler k b s → a ≡ b
one_handler k a b s (inl (one, ends)) (inl (two, also)) = one ∙ sym two
one_handler k a b s (inl (one, ends)) (inr (call, two, restarts)) = absurd (ending_no_restart k call s ends restarts)
one_handler k a b s (inr (call, one, restarts)) (inl (two, ends)) = absurd (ending_no_restart k call s ends restarts)
one_handler k a b s (inr (call, one, restarts)) (inr (other, two, also)) = one ∙ ap (λ c. Job (c ∷ [])) (one_restart k call other s restarts also) ∙ sym two

-- SET of a trap has an argument
handler_arguments : (k : ℕ) (a : ActionTree) (s : List ℕ) → IsHandler k a s → has_arguments a ≡ true
handler_arguments k a s (inl (same, ends)) = ap has_arguments same
handler_arguments k a s (inr (call, same, restarts)) = ap has_arguments same

pub trap_ends : (a : ActionTree) (rest : List ℕ) → has_arguments a ≡ true → TrapEnds a rest → is_command_end rest ≡ true
trap_ends a rest h e = subst (λ b. StopEnds b rest) h e

ends_trap : (a : ActionTree) (rest : List ℕ) → has_arguments a ≡ true → is_command_end rest ≡ true → TrapEnds a rest
ends_trap a rest h e = subst (λ b. StopEnds b rest) (sym h) e

-- a text is one SET of a trap at most
pub trap_alone : Alone IsTrap TrapEnds
trap_alone line at less a n s b u rest h is e =
    let one = trap_reads (suc at) a s.text (drop n line) s.spelled in
    let two = trap_reads (suc at) b u rest is in
    let joined : s.text ++ drop n line ≡ u ++ rest = sym s.joined ∙ h in
    let same = pair_parts (one.0) (two.0) (drop n line) rest (sym (one.1) ∙ ap trap_code joined ∙ two.1) in
    let first : length (s.text ++ drop n line) ≡ length s.text + length (drop n line) = length-append s.text (drop n line) in
    let second : length (u ++ rest) ≡ length u + length rest = length-append u rest in
    let all : length (s.text ++ drop n line) ≡ length (u ++ rest) = ap length joined in
    let ends : length (drop n line) ≡ length rest = ap length same.1 in
    let size : length u ≡ length s.text = omega (arith, first, second, all, ends) in
    let handles : IsHandler (code_place (suc at) s.text (one.0)) b (one.0) = subst (λ n. IsHandler (suc at + (n - (length (one.0) + 2))) b (one.0)) size (subst (λ c. IsHandler (code_place (suc at) u c) b c) (sym same.0) (two.2)) in
    (one_handler (code_place (suc at) s.text (one.0)) b a (one.0) handles (one.2), sym same.1)

-- a SET is either one of a trap or one of other targets
pub trap_sets : (k : ℕ) (a : ActionTree) (u rest : List ℕ) → IsTrap k a u → is_some (trap_value (u ++ rest)) ≡ true
trap_sets k a u rest (name, code, is, trap, plain, handles) =
    ap (λ o. is_some o) (ap trap_value (ap (λ l. l ++ rest) is ∙ trap_text name code rest) ∙ value_reads name (34 ∷ (code ++ 34 ∷ rest)) trap)

no_byte : (b : ℕ) (s : List ℕ) → (first_of s ≡ Some b → ⊥) → byte_at b s ≡ None
no_byte b [] miss = refl
no_byte b (x ∷ s) miss = elim (cases_Bool (x == b)) [
  | inl e ↦ absurd (miss (ap Some (eqb-true x b e)))
  | inr e ↦ rw e refl
]

other_name : (word rest : List ℕ) → IsWord word → named_value (word_at (word ++ 40 ∷ rest)) ≡ None
other_name word rest letters = ap named_value (word-reads word (40 ∷ rest) letters refl) ∙ elim (cases_Bool (is_trap word)) [
  | inl e ↦ rw e refl
  | inr e ↦ rw e refl
]

target_no_trap : (d : Dialect) (k : ℕ) (t : TargetTree) (s rest : List ℕ) → IsTarget d k t s → trap_value (32 ∷ (s ++ rest)) ≡ None
unfolding trap_value
target_no_trap d k (SetWhole v) s rest is =
    ap (λ o. o >>= λ dollar. named_value (word_at dollar.1)) (no_byte 36 (s ++ rest) (starts_lacking 36 refl s rest (variable_starts (in_set d) k v s is)))
target_no_trap d k (SetPart p v arguments) s rest (word, inner, text, is, good, enclosed, one) =
    let far : s ++ rest ≡ 36 ∷ (word ++ 40 ∷ ((inner ++ 41 ∷ []) ++ rest)) = ap (λ l. l ++ rest) (is ∙ ap (λ l. 36 ∷ (word ++ l)) enclosed) ∙ ap (λ l. 36 ∷ l) (append_assoc word (40 ∷ (inner ++ 41 ∷ [])) rest) in
    ap (λ l. byte_at 36 l >>= λ dollar. named_value (word_at dollar.1)) far ∙ other_name word ((inner ++ 41 ∷ []) ++ rest) (part_reads p word good).0

targets_no_trap : (d : Dialect) (k : ℕ) (targets : List TargetTree) (s rest : List ℕ) → IsOneOrEnclosed (IsTarget d) k targets s → trap_value (32 ∷ (s ++ rest)) ≡ None
unfolding trap_value
targets_no_trap d k targets s rest (inl (t, same, one)) = target_no_trap d k t s rest one
targets_no_trap d k targets s rest (inr (inner, is, list)) = ap (λ l. byte_at 36 (l ++ rest) >>= λ dollar. named_value (word_at dollar.1)) is

set_no_trap : (d : Dialect) (k : ℕ) (x : SetTree) (s rest : List ℕ) → IsSet d k x s → trap_value (32 ∷ (s ++ rest)) ≡ None
set_no_trap d k (SetTo targets value) s rest (front, back, is, one, two) =
    ap (λ l. trap_value (32 ∷ l)) (ap (λ l. l ++ rest) is ∙ append_assoc front back rest) ∙ targets_no_trap d k targets front (back ++ rest) one

pub sets_no_trap : (d : Dialect) (k : ℕ) (sets : List SetTree) (u rest : List ℕ) → AreSome (IsSet d) k sets u → trap_value (u ++ rest) ≡ None
sets_no_trap d k sets u rest (r, is, (first, others, front, back, same, joined, one, next)) =
    ap trap_value (ap (λ l. l ++ rest) (is ∙ ap (λ l. 32 ∷ l) joined) ∙ ap (λ l. 32 ∷ l) (append_assoc front back rest)) ∙ set_no_trap d (suc k) first front (back ++ rest) one

-- what is read of code that begins a job anew
module _ (at : ℕ) (s : List ℕ) where
  pub not_cleared : past_clearing s ≡ None → IsRestartIn at s None
  not_cleared none call r = cc (sym none ∙ clearing_reads s (r.entry ++ 32 ∷ r.halts) (restart_clears at call s r))

  module _ (c : ℕ) (rest : List ℕ) (h : past_clearing s ≡ Some (c, rest)) where
    restart_rest : (call : CallTree) (r : IsRestart at call s) → drop (length s - length rest) s ≡ r.entry ++ 32 ∷ r.halts
    restart_rest call r =
        let read = sym h ∙ clearing_reads s (r.entry ++ 32 ∷ r.halts) (restart_clears at call s r) in
        cleared_end s rest (clearing_written s c rest h) ∙ (pair_parts c 32 rest (r.entry ++ 32 ∷ r.halts) read).1

    pub no_entry : Nowhere IsCalleeText CalleeEnds s (length s - length rest) → IsRestartIn at s None
    no_entry none call r = none r.callee r.entry (32 ∷ r.halts) (restart_rest call r) r.spelled (callee_space r.callee r.halts)

    module _ (callee : Callee) (next : ℕ) (f : Found IsCalleeText CalleeEnds s (length s - length rest) callee next) where
      pub other_entry : (is_some callee.routine ≡ true → halts_here (drop next s) ≡ true → ⊥) → IsRestartIn at s None
      unfolding halts_here is_word_of
      other_entry bad call r =
          let same = f.1 r.callee r.entry (32 ∷ r.halts) (restart_rest call r) r.spelled (callee_space r.callee r.halts) in
          bad (subst (λ x. is_some x.routine ≡ true) same.0 r.named) (ap halts_here (sym same.1) ∙ r.halt_word)

      pub restart_found : is_some callee.routine ≡ true → halts_here (drop next s) ≡ true → IsRestart at (Called (column_at at) callee None) s
      unfolding halts_here is_word_of
      restart_found named halts = go (byte_at 32 (drop next s)) refl halts (clearing_written s c rest h)
        where
          go : (o : Option (ℕ × List ℕ)) → byte_at 32 (drop next s) ≡ o → halts_by o ≡ true → IsCleared s rest → IsRestart at (Called (column_at at) callee None) s
          go None is halts cleared = cc halts
          go (Some space) is halts (locks, news, does, text, lock_word, new_word, do_word) =
              let entry = f.0.text in
              let tail : rest ≡ entry ++ 32 ∷ (space.1) = sym (cleared_end s rest (locks, news, does, text, lock_word, new_word, do_word)) ∙ f.0.joined ∙ ap (λ l. entry ++ l) (byte-is 32 (space.0) (drop next s) (space.1) is) in
              record {
                locks = locks;
                news = news;
                does = does;
                entry = entry;
                halts = space.1;
                callee = callee;
                text = text ∙ ap (λ l. locks ++ 32 ∷ 32 ∷ (news ++ 32 ∷ 32 ∷ (does ++ 32 ∷ l))) tail;
                lock_word = lock_word;
                new_word = new_word;
                do_word = do_word;
                halt_word = halts;
                spelled = f.0.spelled;
                named = named;
                called = refl;
              }

-- what is read of code
pub ending_handled : (at : ℕ) (s : List ℕ) → is_ending s ≡ true → IsHandler at nothing s
ending_handled at s h = inl (refl, h)

pub unhandled : (at : ℕ) (s : List ℕ) → is_ending s ≡ false → IsRestartIn at s None → IsHandlerIn at s None
unhandled at s other none action (inl (same, ends)) = cc (sym other ∙ ends)
unhandled at s other none action (inr (call, same, restarts)) = none call restarts

-- what is read of SET of a trap
module _ (line : List ℕ) (at : ℕ) where
  pub no_trap : (E : ActionTree → List ℕ → Type 0) → trap_value (drop at line) ≡ None → Nowhere IsTrap E line at
  unfolding trap_code
  no_trap E none a u rest h is e =
      let read : trap_code (drop at line) ≡ None = ap (λ o. o >>= λ value. quoted_code value.1) none in
      cc (sym read ∙ ap trap_code h ∙ (trap_reads (suc at) a u rest is).1)

  module _ (c : ℕ) (value : List ℕ) (one : trap_value (drop at line) ≡ Some (c, value)) where
    pub unquoted_trap : (E : ActionTree → List ℕ → Type 0) → quoted_code value ≡ None → Nowhere IsTrap E line at
    unfolding trap_code
    unquoted_trap E none a u rest h is e =
        let read : trap_code (drop at line) ≡ None = ap (λ o. o >>= λ value. quoted_code value.1) one ∙ none in
        cc (sym read ∙ ap trap_code h ∙ (trap_reads (suc at) a u rest is).1)

    module _ (code rest : List ℕ) (two : quoted_code value ≡ Some (code, rest)) where
      read_code : trap_code (drop at line) ≡ Some (code, rest)
      unfolding trap_code
      read_code = ap (λ o. o >>= λ value. quoted_code value.1) one ∙ two

      pub unended_trap : (is_command_end rest ≡ true → ⊥) → Nowhere IsTrap TrapEnds line at
      unended_trap bad a u others h is e =
          let r = trap_reads (suc at) a u others is in
          let same = pair_parts code (r.0) rest others (sym read_code ∙ ap trap_code h ∙ r.1) in
          bad (subst (λ l. is_command_end l ≡ true) (sym same.1) (trap_ends a others (handler_arguments (code_place (suc at) u (r.0)) a (r.0) (r.2)) e))

      pub trap_rest : drop (length line - length rest) line ≡ rest
      trap_rest =
          let (name, is, trap) = value_written (drop at line) c value one in
          let (quoted, plain) = code_written value code rest two in
          let u = 32 ∷ 36 ∷ (name ++ 61 ∷ 34 ∷ (code ++ 34 ∷ [])) in
          let joined : drop at line ≡ u ++ rest = is ∙ ap (λ l. 32 ∷ 36 ∷ (name ++ 61 ∷ l)) quoted ∙ sym (trap_text name code rest) in
          let whole : line ≡ take at line ++ (u ++ rest) = sym (take-append-drop at line) ∙ ap (λ l. take at line ++ l) joined in
          end_of (take at line ++ u) rest line (whole ∙ sym (append_assoc (take at line) u rest))

      module _ (less : at ≤ length line) where
        start_is : (name : List ℕ) → drop at line ≡ 32 ∷ 36 ∷ (name ++ 61 ∷ value) → length line - length value + 1 ≡ suc at + (length name + 3)
        start_is name is =
            let all = length-drop at line in
            let sum : length (drop at line) ≡ suc (suc (length (name ++ 61 ∷ value))) = ap length is in
            let parts : length (name ++ 61 ∷ value) ≡ length name + suc (length value) = length-append name (61 ∷ value) in
            omega (arith, less, all, sum, parts)

        pub trap_found : (a : ActionTree) → IsHandler (length line - length value + 1) a code → is_command_end rest ≡ true → Found IsTrap TrapEnds line at a (length line - length rest)
        trap_found a handles e =
            let (name, is, trap) = value_written (drop at line) c value one in
            let (quoted, plain) = code_written value code rest two in
            let u = 32 ∷ 36 ∷ (name ++ 61 ∷ 34 ∷ (code ++ 34 ∷ [])) in
            let joined : drop at line ≡ u ++ rest = is ∙ ap (λ l. 32 ∷ 36 ∷ (name ++ 61 ∷ l)) quoted ∙ sym (trap_text name code rest) in
            let own : IsTrap (suc at) a u = (name, code, refl, trap, plain, subst (λ n. IsHandler n a code) (start_is name is) handles) in
            let s = stands_at IsTrap TrapEnds line at a u rest less joined own (ends_trap a rest (handler_arguments (length line - length value + 1) a code handles) e) in
            let all = length-drop at line in
            let sum : length (drop at line) ≡ length u + length rest = ap length joined ∙ length-append u rest in
            let end : at + length u ≡ length line - length rest = omega (arith, less, all, sum) in
            let stands : Stands IsTrap TrapEnds line at a (length line - length rest) = subst (λ n. Stands IsTrap TrapEnds line at a n) end s.0 in
            (stands, trap_alone line at less a (length line - length rest) stands)

        pub unhandled_trap : IsHandlerIn (length line - length value + 1) code None → Nowhere IsTrap TrapEnds line at
        unhandled_trap none a u others h is e =
            let (name, text, trap) = value_written (drop at line) c value one in
            let (quoted, plain) = code_written value code rest two in
            let r = trap_reads (suc at) a u others is in
            let same = pair_parts code (r.0) rest others (sym read_code ∙ ap trap_code h ∙ r.1) in
            let joined : drop at line ≡ (32 ∷ 36 ∷ (name ++ 61 ∷ 34 ∷ (code ++ 34 ∷ []))) ++ rest = text ∙ ap (λ l. 32 ∷ 36 ∷ (name ++ 61 ∷ l)) quoted ∙ sym (trap_text name code rest) in
            let own = trap_length name code (32 ∷ 36 ∷ (name ++ 61 ∷ 34 ∷ (code ++ 34 ∷ []))) refl in
            let first : length (drop at line) ≡ length (32 ∷ 36 ∷ (name ++ 61 ∷ 34 ∷ (code ++ 34 ∷ []))) + length rest = ap length joined ∙ length-append (32 ∷ 36 ∷ (name ++ 61 ∷ 34 ∷ (code ++ 34 ∷ []))) rest in
            let second : length (drop at line) ≡ length u + length others = ap length h ∙ length-append u others in
            let ends : length rest ≡ length others = ap length same.1 in
            let place = start_is name text in
            let where_it_is : code_place (suc at) u code ≡ length line - length value + 1 = omega (arith, own, first, second, ends, place) in
            none a (subst (λ n. IsHandler n a code) where_it_is (subst (λ x. IsHandler (code_place (suc at) u x) a x) (sym same.0) (r.2)))
