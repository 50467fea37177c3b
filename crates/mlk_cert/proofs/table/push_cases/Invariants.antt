use Rattle.std.proofs.Common.{◌≡◌, ◌≤◌, ◌++◌, suc, drop, length}
use Rattle.std.specs.Prelude.{◌-◌}
use Rattle.mlk_cert.specs.Named.{texts_in}
use Rattle.mlk_cert.specs.Second.{numbered}
use Rattle.mlk_cert.proofs.table.push_cases.Given as goal

abbrev pub invariant-loop-found : goal.invariant-loop-found
invariant-loop-found l = (l.text ++ numbered (suc l.place) (texts_in (drop l.place l.texts.keys)) ≡ l.fn.text ++ numbered 1 (texts_in l.texts.keys)) × (l.place ≤ length l.texts.keys)

abbrev pub decreases-loop-found : goal.decreases-loop-found
decreases-loop-found l = length l.texts.keys - l.place
