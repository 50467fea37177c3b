use Rattle.std.proofs.Common.{◌∙◌, sym, ap, refl, Some, codes}
use Rattle.std.specs.Prelude.{option_map}
use Rattle.clap.specs.Words.{found_of}
use Rattle.clap.proofs.WalkLemmas.{raw_values-rows}
use Rattle.mlk_cli.specs.CommandLine.{bytes_of}
use Rattle.mlk_cli.proofs.words.named_by.Goals as goal

pub returns-in_default : goal.returns-in_default
returns-in_default c = (refl, sym (raw_values-rows (found_of c.args.matches.now) (codes "for")) ∙ sym c.in_default.ensures)

pub returns : goal.returns
returns c =
    let found = found_of c.args.matches.now in
    (refl, sym (raw_values-rows found (codes "for")) ∙ sym c.get_strs.ensures ∙ ap (option_map (λ s. bytes_of s.now)) c.in-Some.is ∙ ap (λ l. Some (bytes_of l)) (sym c.in_ok-names.ensures.items))
