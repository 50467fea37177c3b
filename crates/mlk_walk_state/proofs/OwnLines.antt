-- A line by its index.
use Rattle.std.proofs.Common.{◌≡◌, ◌∙◌, ℕ, List, map, Option, Some, None, Bor, refl, sym, ap}
use Rattle.std.specs.Prelude.{option_map, option_copied, slice_get}
use Rattle.std.proofs.lemmas.Option.{slice_get-map}
use Rattle.mlk_syntax.specs.declared.routine.Line.{Line}
use Rattle.mlk_syntax.specs.Views.{line_of}

copied : (o : Option (Bor Line)) → option_map (λ l. line_of l.now) o ≡ option_map line_of (option_copied o)
copied None = refl
copied (Some l) = refl

pub line_got : (lines : List Line) (o : Option (Bor Line)) (n : ℕ) → option_copied o ≡ slice_get lines n
    → option_map (λ l. line_of l.now) o ≡ slice_get (map line_of lines) n
line_got lines o n h = copied o ∙ ap (option_map line_of) h ∙ sym (slice_get-map line_of lines n)
