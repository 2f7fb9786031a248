use Rattle.std.proofs.Common.{◌∙◌, sym, ap}
use Rattle.clap.specs.Words.{App, fault_of, is_simple_and_free}
use Rattle.clap_words.proofs.AskedLemmas.{asked_for, none_asked_for}
use Rattle.apei_cli.specs.CommandWords.{the_command}
use Rattle.apei_cli.specs.Plan.{IsPlanIn, IsPlanOf}
use Rattle.apei_cli.proofs.CommandLemmas.{simple_and_free, takes_words}
use Rattle.std.specs.Prelude.{map, string_bytes}
use Rattle.apei_cli.proofs.words.plan.Goals as goal

pub matches_in-requires : goal.matches_in-requires
matches_in-requires c = ap is_simple_and_free c.in_ok-command.ensures ∙ simple_and_free

pub returns-clause-plan : goal.returns-clause-plan
returns-clause-plan c =
    let texts = (map string_bytes c.args.words.now) in
    let none = ap (λ (a : App). fault_of a texts) (sym c.in_ok-command.ensures) ∙ c.in_ok-matches.ensures.taken in
    asked_for IsPlanIn (IsPlanOf c.args.words.now) texts _ the_command c.in_ok-command.ensures _ c.in_ok-matches.ensures.read
    (λ plan values. record { taken = takes_words texts none; values = values })
    c.plan_in.result c.plan_in.ensures.plan

pub returns-clause-bad_words : goal.returns-clause-bad_words
returns-clause-bad_words c =
    none_asked_for IsPlanIn (IsPlanOf c.args.words.now) (map string_bytes c.args.words.now) _ the_command c.in_ok-command.ensures _ c.in_ok-matches.ensures.read (λ plan of. of.values)
    c.plan_in.result c.plan_in.ensures.bad_words
