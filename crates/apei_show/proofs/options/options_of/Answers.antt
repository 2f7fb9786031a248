use Rattle.std.proofs.Common.{◌∙◌, sym, ap}
use Rattle.clap.specs.Words.{App, fault_of, is_simple_and_free}
use Rattle.clap_words.proofs.AskedLemmas.{asked_for, none_asked_for}
use Rattle.apei_show.specs.Commands.{the_command}
use Rattle.apei_show.specs.Options.{AreOptionsIn, AreOptionsOf}
use Rattle.apei_show.proofs.CommandLemmas.{simple_and_free}
use Rattle.std.specs.Prelude.{map, string_bytes}
use Rattle.apei_show.proofs.options.options_of.Goals as goal

pub matches_in-requires : goal.matches_in-requires
matches_in-requires c = ap is_simple_and_free c.in_ok-command.ensures ∙ simple_and_free

pub returns-clause-options : goal.returns-clause-options
returns-clause-options c =
    let none = ap (λ (a : App). fault_of a (map string_bytes c.args.words.now)) (sym c.in_ok-command.ensures) ∙ c.in_ok-matches.ensures.taken in
    asked_for AreOptionsIn (AreOptionsOf c.args.words.now) (map string_bytes c.args.words.now) _ the_command c.in_ok-command.ensures _ c.in_ok-matches.ensures.read
    (λ options values. record { taken = none; values = values }) c.options_in.result c.options_in.ensures.options

pub returns-clause-bad_words : goal.returns-clause-bad_words
returns-clause-bad_words c =
    none_asked_for AreOptionsIn (AreOptionsOf c.args.words.now) (map string_bytes c.args.words.now) _ the_command c.in_ok-command.ensures _ c.in_ok-matches.ensures.read (λ options of. of.values)
    c.options_in.result c.options_in.ensures.bad_words
