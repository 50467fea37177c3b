use Rattle.std.proofs.Common.{◌∙◌, ◌++◌, sym, ap}
use Rattle.std.specs.Prelude.{◌||◌}
use Rattle.mlk_cert_parts.specs.Checks.{has_text}
use Rattle.mlk_cert.specs.Second.{cases_of_points, cases_of_blocks}
use Rattle.mlk_cert.specs.Named.{texts_in}
use Rattle.mlk_cert.proofs.NamedTexts.{noted}
use Rattle.mlk_cert.proofs.named.texts_at_points.Goals as goal

pub loop-first-preserved : goal.loop-first-preserved
loop-first-preserved c = λ t.
    noted (texts_in c.loop-first.texts.keys) (texts_in c.note_points.new.texts.keys) (cases_of_points c.as_slice.result.now) (cases_of_blocks c.in-Some.others.now) t c.in_ok-note_points.ensures
    ∙ ap (λ z. has_text (texts_in c.loop-first.texts.keys) t || has_text (cases_of_points z ++ cases_of_blocks c.in-Some.others.now) t) c.as_slice.ensures
    ∙ ap (λ z. has_text (texts_in c.loop-first.texts.keys) t || has_text (cases_of_blocks z) t) (sym c.in-Some.ensures.cases.0) ∙ c.loop-first.invariant t
