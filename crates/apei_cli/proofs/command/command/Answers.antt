use Rattle.std.proofs.Common.{rules, ◌≡◌, ◌∙◌, ap, ap₂, sym, arith, codes, get_or, take}
use Rattle.std.specs.Prelude.{fold}
use Rattle.std.proofs.lemmas.List.Sums.{fold_more}
use Rattle.clap.specs.Words.{rule_of, with_rule}
use Rattle.clap_words.specs.Commands.{bare}
use Rattle.apei_cli.specs.CommandWords.{name_of, settings, the_command}
use Rattle.apei_cli.proofs.Terms.{job_rule, option_rule, with_setting}
use Rattle.apei_cli.specs.declared.setting.Setting.TheVariants.{Image}
use Rattle.apei_cli.proofs.command.command.Goals as goal

pub loop-setting-preserved : goal.loop-setting-preserved
loop-setting-preserved c =
    let i = c.loop-setting.setting-index in
    let rule_is : rule_of c.option.result ≡ option_rule (name_of (get_or settings i Image)) = search rules in
    c.in_ok-command-2.ensures.shape c.option.ensures.local ∙ ap₂ with_rule c.loop-setting.invariant rule_is
    ∙ sym (fold_more with_setting (with_rule (bare (codes "apei")) job_rule) settings i Image (omega arith))

pub returns : goal.returns
unfolding the_command
returns c =
    let all : c.loop-setting.setting-index ≡ 12 = omega arith in
    c.loop-setting.invariant ∙ ap (λ i. fold with_setting (with_rule (bare (codes "apei")) job_rule) (take i settings)) all
