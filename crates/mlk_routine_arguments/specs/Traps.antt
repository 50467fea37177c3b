-- Error traps: SET of a special variable that has the code which an error runs, and NEW of one. Standard: error processing, $ETRAP,
-- $ESTACK; `$ZTRAP` is that of GT.M and YottaDB. In the model an error ends the job and frees its locks. So code is read that does no
-- more than that, or that then calls an entry without any local, as in a job that begins there. Which code is read is this
-- project's own choice.
use Rattle.std.specs.Prelude.{ℕ, ◌≡◌, ◌⊎◌, ◌+◌, ◌==◌, ◌||◌, not, is_some, Bool, true, List, [], ◌∷◌, ◌++◌, length, None, codes}
use Rattle.std.specs.List.{list_all}
use Rattle.mlk_text.specs.Places.{column_at}
use Rattle.mlk_expr_tokens.specs.Words.{is_either}
use Rattle.mlk_expr.specs.Grammar.{IsCalleeText}
use Rattle.mlk_syntax.specs.ExprTrees.{Lit}
use Rattle.mlk_syntax.specs.declared.expr.Callee.{Callee}
use Rattle.mlk_syntax.specs.Trees.{ActionTree, Do, Halt, Hang, Job, Lock, New, CallTree, Called}
use Rattle.mlk_routine_arguments.specs.CommandWords.{is_word_of}

-- the names of such variables
unfoldable pub is_trap : List ℕ → Bool
is_trap s = is_either (codes "ET") (codes "ETRAP") s || is_either (codes "ZT") (codes "ZTRAP") s

-- What NEW may name beside locals: such a variable, or `$ESTACK` and `$ES`, for which the plain text has `1E00000` and `1E0`. Nothing
-- depends on it, since each code that a trap can have is one of those below.
unfoldable pub is_new_trap : List ℕ → Bool
is_new_trap s = is_either (codes "$ET") (codes "$ETRAP") s || is_either (codes "$ZT") (codes "$ZTRAP") s
    || is_either (codes "1E0") (codes "1E00000") s

-- Code that ends the job and does nothing else, in either case.
unfoldable pub is_ending : List ℕ → Bool
is_ending s = is_either (codes "H") (codes "HALT") s || is_either (codes "L  H") (codes "L  HALT") s
    || is_either (codes "LOCK  H") (codes "LOCK  HALT") s || is_either (codes "ZHALT") (codes "ZGOTO 0") s

-- Code that releases all locks, makes all locals new, calls an entry of a named routine, and ends the job: `L  N  D LABEL^ROUTINE H`,
-- where each word may be whole, and in either case. `at` is the column of the code.
pub record IsRestart (at : ℕ) (call : CallTree) (s : List ℕ) : Type 0 where
  pub locks : List ℕ
  pub news : List ℕ
  pub does : List ℕ
  pub entry : List ℕ
  pub halts : List ℕ
  pub callee : Callee
  pub text : s ≡ locks ++ 32 ∷ 32 ∷ (news ++ 32 ∷ 32 ∷ (does ++ 32 ∷ (entry ++ 32 ∷ halts)))
  pub lock_word : is_word_of (Lock []) locks ≡ true
  pub new_word : is_word_of (New []) news ≡ true
  pub do_word : is_word_of (Do []) does ≡ true
  pub halt_word : is_word_of Halt halts ≡ true
  pub spelled : IsCalleeText at callee entry
  pub named : is_some callee.routine ≡ true
  pub called : call ≡ Called (column_at at) callee None

-- What does nothing: HANG of an empty text.
abbrev pub nothing : ActionTree
nothing = Hang (Lit [] ∷ [])

-- What an error does, by the code of a trap: no more than an error does in the model, or a job begins at an entry, as by JOB.
abbrev pub IsHandler : ℕ → ActionTree → List ℕ → Type 0
IsHandler at action s = ((action ≡ nothing) × (is_ending s ≡ true))
    ⊎ ((call : CallTree) × (action ≡ Job (call ∷ [])) × IsRestart at call s)

abbrev pub is_unquoted : ℕ → Bool
is_unquoted b = not (b == 34)

-- The only argument of a SET, with the space before it: a trap, and its code as a text in quotes. The code's column is that of its
-- first quote.
abbrev pub IsTrap : ℕ → ActionTree → List ℕ → Type 0
IsTrap at action s = (name code : List ℕ) × (s ≡ 32 ∷ 36 ∷ (name ++ 61 ∷ 34 ∷ (code ++ 34 ∷ []))) × (is_trap name ≡ true)
    × (list_all is_unquoted code ≡ true) × IsHandler (at + (length name + 3)) action code
