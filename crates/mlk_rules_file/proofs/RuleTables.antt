-- Laws of tables and arrays of rule files.
use Rattle.std.proofs.Common.{◌≡◌, List, [], ◌∷◌, length, suc, true, Bool, refl, ap, String, Global, string_bytes}
use Rattle.std.specs.Prelude.{◌&&◌}
use Rattle.std.specs.Map.{keys_of}
use Rattle.toml.specs.declared.value.Value.{Value}
use Rattle.toml.specs.View.{items_view, members_view}
use Rattle.mlk_rules_file.specs.declared.read.fault.Section.{Section}
use Rattle.mlk_rules_file.specs.RuleSections.{count, is_key, has_only}

pub count-view : (vs : List Value) → count (items_view vs) ≡ length vs
count-view [] = refl
count-view (v ∷ vs) = ap suc (count-view vs)

-- the same of a list of keys
abbrev pub only_keys : Section → List (String Global) → Bool
only_keys s [] = true
only_keys s (key ∷ keys) = is_key s (string_bytes key) && only_keys s keys

pub only-view : (s : Section) (es : List (String Global × Value)) → only_keys s (keys_of es) ≡ has_only s (members_view es)
only-view s [] = refl
only-view s (e ∷ es) = ap (λ o. is_key s (string_bytes e.0) && o) (only-view s es)
