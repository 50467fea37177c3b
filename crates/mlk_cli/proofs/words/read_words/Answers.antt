use Rattle.std.proofs.Common.{◌≡◌, ◌∙◌, true, sym, ap, subst}
use Rattle.std.proofs.lemmas.Result.{err_from_is_err_and}
use Rattle.clap.specs.declared.error.kind.ErrorKind.TheVariants.{OutOfMemory}
use Rattle.clap.specs.Words.{HasMatchesOf, kind_of}
use Rattle.clap.specs.Takes.{takes}
use Rattle.mlk_cli.specs.CommandLine.{GivesLine, lists_routines, texts_of}
use Rattle.mlk_cli_grammar.specs.Grammar.{mlock_app}
use Rattle.mlk_cli_grammar.proofs.Exact.{is-exact}
use Rattle.mlk_cli.proofs.words.read_words.Goals as goal

pub returns-clause-asks : goal.returns-clause-asks
returns-clause-asks c =
    let same = c.in_ok-grammar.ensures ∙ ap mlock_app c.lists_routines.ensures in
    let exact = subst (λ app. HasMatchesOf app (texts_of c.args.words.now) c.in_ok-matches.matches) same c.in_ok-matches.ensures.matches in
    subst (λ met. GivesLine met c.in_ok-line_of.field-0) (exact (is-exact (lists_routines c.args.words.now))).1 c.in_ok-line_of.ensures

pub returns-in_err-matches-clause-passes : goal.returns-in_err-matches-clause-passes
returns-in_err-matches-clause-passes c =
    let same = c.in_ok-grammar.ensures ∙ ap mlock_app c.lists_routines.ensures in
    let p = err_from_is_err_and c.from_residual-in_err-matches.result c.from_residual-in_err-matches.ensures.1 in
    rw (p.1) (λ taken. subst (λ e. kind_of e ≡ OutOfMemory) (sym p.2) (c.in_err-matches.ensures.passes (subst (λ app. takes app (texts_of c.args.words.now) ≡ true) (sym same) taken)))
