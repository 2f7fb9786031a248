use Rattle.std.proofs.Common.{◌≡◌, ◌∙◌, ap₂, codes}
use Rattle.clap.specs.Words.{app_of, with_rule}
use Rattle.clap_words.specs.Commands.{bare, flag_rule}
use Rattle.apei_show.specs.Commands.{the_command}
use Rattle.apei_show.proofs.command.command.Goals as goal

pub returns : goal.returns
unfolding the_command
returns c =
    let json : app_of c.in_ok-arg.field-0 ≡ with_rule (bare (codes "apei-show")) (flag_rule (codes "json")) =
    c.in_ok-arg.ensures.shape c.flag.ensures.local ∙ ap₂ with_rule c.bare.ensures c.flag.ensures.rule in
    let brief = c.in_ok-arg-2.ensures.shape c.flag-2.ensures.local ∙ ap₂ with_rule json c.flag-2.ensures.rule in
    let bytes = c.in_ok-arg-3.ensures.shape c.flag-3.ensures.local ∙ ap₂ with_rule brief c.flag-3.ensures.rule in
    let strict = c.in_ok-arg-4.ensures.shape c.flag-4.ensures.local ∙ ap₂ with_rule bytes c.flag-4.ensures.rule in
    let color = c.in_ok-arg-5.ensures.shape c.option.ensures.local ∙ ap₂ with_rule strict c.option.ensures.rule in
    let smbios = c.in_ok-arg-6.ensures.shape c.option-2.ensures.local ∙ ap₂ with_rule color c.option-2.ensures.rule in
    c.in_ok-command.ensures.shape c.files.ensures.local ∙ ap₂ with_rule smbios c.files.ensures.rule
