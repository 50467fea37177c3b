use Rattle.std.specs.Str.Parse.{ParsesUnsigned, ExplainsUnsignedError, HasUnsignedDigitsIfOk}
use Rattle.clap.specs.Words.{found_of, one_text, rows_of}
use Rattle.clap.proofs.WalkLemmas.{one_text-rows}
use Rattle.mlk_cli.proofs.CommandLine.{gives-number}
use Rattle.mlk_cli.proofs.words.number_of.Goals as goal

pub returns : goal.returns
returns c =
    let found = found_of c.args.matches.now in
    let option = c.args.option.now in
    gives-number option _ (λ text r. ParsesUnsigned 32 10 text r × ExplainsUnsignedError 10 text r × HasUnsignedDigitsIfOk text r) (rows_of found)
    (one_text found option) c.get_one.result (one_text-rows found option)
    c.get_one.ensures.none c.get_one.ensures.value (λ text r h. h.0)
