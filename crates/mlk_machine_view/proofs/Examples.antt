-- What is printed of jobs, worked examples.
use Rattle.std.proofs.Common.{◌≡◌, ℕ, List, [], ◌∷◌, ◌++◌, refl, true}
use Rattle.std.specs.Prelude.{codes}
use Rattle.std.specs.Fmt.{digits}
use Rattle.mlk_text.specs.declared.root.Root.TheVariants as root
use Rattle.mlk_names.specs.declared.lock_name.LockName.{LockName}
use Rattle.mlk_names.specs.declared.reference.Access.TheVariants.{Writes}
use Rattle.mlk_names.specs.declared.reference.Extent.TheVariants.{Tree}
use Rattle.mlk_cert_lexemes.specs.Texts.{byte_text}
use Rattle.mlk_machine_jobs.specs.Seen.{Ready, Claims}
use Rattle.mlk_machine_view.specs.Printed.{pair_line}
use Rattle.mlk_machine_view.specs.StateTexts.{name_text, state_text, holds_text}

abbrev account : List (List ℕ) → LockName
account subs = record { root = root.Global (codes "ACCT"); subs = subs }

abbrev log : LockName
log = record { root = root.Local (codes "LOG"); subs = [] }

name-written : name_text (account (codes "a\"b" ∷ [] ∷ [])) ≡ codes "^ACCT(\"a\"\"b\",\"\")"
unfolding byte_text
name-written = refl

-- KILL of a global as a whole
kill-written :
    state_text (Ready (record { region = record { node = record { root = codes "LOG"; subs = [] }; extent = Tree }; access = Writes }))
    ≡ codes "ready ^LOG tree writes"
kill-written = refl

-- names in the order of the argument, one of them twice
claim-written : state_text (Claims (log ∷ account [] ∷ log ∷ []) true) ≡ codes "claims LOG;^ACCT;LOG timed"
claim-written = refl

nothing-held : holds_text [] ≡ codes "-"
nothing-held = refl

-- held names by their texts: a local name before a global one, and a name before those below it
held-written : holds_text ((account (codes "1" ∷ []), 1) ∷ (log, 12) ∷ (account [], 1) ∷ [])
    ≡ codes "LOG*12;^ACCT*1;^ACCT(\"1\")*1"
unfolding byte_text digits
held-written = refl

pair-written : pair_line (codes "waits ") (2, 10) ≡ codes "waits 2 10" ++ 10 ∷ []
unfolding digits
pair-written = refl
