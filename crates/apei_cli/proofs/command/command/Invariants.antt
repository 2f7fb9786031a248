use Rattle.std.proofs.Common.{◌≡◌, codes, take}
use Rattle.std.specs.Prelude.{fold}
use Rattle.clap.specs.Words.{app_of, with_rule}
use Rattle.clap_words.specs.Commands.{bare}
use Rattle.apei_cli.specs.CommandWords.{settings}
use Rattle.apei_cli.proofs.Terms.{job_rule, with_setting}
use Rattle.apei_cli.proofs.command.command.Given as goal

-- the command has the options before
abbrev pub invariant-loop-setting : goal.invariant-loop-setting
invariant-loop-setting l = app_of l.command ≡ fold with_setting (with_rule (bare (codes "apei")) job_rule) (take l.setting-index settings)
