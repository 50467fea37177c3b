use Rattle.std.proofs.Common.{◌≡◌, ◌∙◌, sym, ap, Some, None, codes, List, Option}
use Rattle.std.specs.Prelude.{option_map}
use Rattle.clap.specs.Words.{Text, found_of, rows_of, first_of}
use Rattle.clap.proofs.WalkLemmas.{raw_values-rows, first_value-rows}
use Rattle.mlk_cli.specs.CommandLine.{bytes_of, paths_or_list}
use Rattle.mlk_cli.proofs.words.routines_of.Goals as goal

pub returns-in-Some : goal.returns-in-Some
returns-in-Some c =
    let found = found_of c.args.matches.now in
    let all = sym (raw_values-rows found (codes "ROUTINE")) ∙ sym c.get_strs.ensures ∙ ap (option_map (λ s. bytes_of s.now)) c.in-Some.is ∙ ap (λ l. Some (bytes_of l)) (sym c.in_ok-routines.ensures.items) in
    ap (λ (p : Option (List Text)). paths_or_list p (first_of (codes "files-from") (rows_of found))) all

pub returns-in-Some-get_str : goal.returns-in-Some-get_str
returns-in-Some-get_str c =
    let found = found_of c.args.matches.now in
    let none = sym (c.in_default.ensures ∙ raw_values-rows found (codes "ROUTINE")) in
    let list = sym (first_value-rows found (codes "files-from")) ∙ sym c.get_str.ensures ∙ ap (option_map (λ s. s.now)) c.in-Some-get_str.is in
    ap (λ (p : Option (List Text)). paths_or_list p (first_of (codes "files-from") (rows_of found))) none ∙ ap (λ (l : Option Text). paths_or_list None l) list ∙ ap (λ l. Some (bytes_of l)) (sym c.new.ensures.items)

pub returns-in-None : goal.returns-in-None
returns-in-None c = λ routines given.
    let found = found_of c.args.matches.now in
    let none = sym (c.in_default.ensures ∙ raw_values-rows found (codes "ROUTINE")) in
    let list = sym (first_value-rows found (codes "files-from")) ∙ sym c.get_str.ensures ∙ ap (option_map (λ s. s.now)) c.in-None.is in
    let bad = sym (ap (λ (l : Option Text). paths_or_list None l) list) ∙ sym (ap (λ (p : Option (List Text)). paths_or_list p (first_of (codes "files-from") (rows_of found))) none) ∙ given in cc bad
