-- A node of a global, spelled like a term of it.
use Rattle.std.proofs.Common.{◌≡◌, ◌++◌, ℕ, List, map, append_assoc}
use Rattle.mlk_text.specs.declared.root.Root.TheVariants.{Global}
use Rattle.mlk_names.specs.declared.known_symbol.KnownSym.TheVariants.{Const}
use Rattle.mlk_cert_lexemes.specs.Texts.{constant_text, root_text, subs_text}
use Rattle.mlk_machine_jobs.specs.declared.touch.Touch.{Touch}
use Rattle.mlk_machine_jobs.specs.TaskViews.{touch_of}
use Rattle.mlk_machine_view.specs.StateTexts.{node_text}
use Rattle.mlk_machine_view.specs.Spelling.{constants_in}
use Rattle.mlk_machine_view.proofs.SpellingLemmas.{values_as_subs}

pub node_written : (old rooted new : List ℕ) (t : Touch) (vs : List (List ℕ)) → vs ≡ t.subs
    → rooted ≡ old ++ root_text (Global t.root) → new ≡ rooted ++ constants_in constant_text vs
    → new ≡ old ++ node_text (touch_of t).region.node
node_written old rooted new t vs same root subs = rw (subs, root, same, values_as_subs t.subs)
    (append_assoc old (root_text (Global t.root)) (subs_text (map Const t.subs)))
