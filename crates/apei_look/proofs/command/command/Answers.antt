use Rattle.std.proofs.Common.{◌≡◌, ◌∙◌, ap₂, codes}
use Rattle.clap.specs.Words.{app_of, with_rule}
use Rattle.clap_words.specs.Commands.{bare}
use Rattle.apei_look.specs.Commands.{flag_rule, the_command}
use Rattle.apei_look.proofs.command.command.Goals as goal

pub returns : goal.returns
unfolding the_command
returns c =
    let json : app_of c.in_ok-arg.field-0 ≡ with_rule (bare (codes "apei-look")) (flag_rule (codes "json")) =
    c.in_ok-arg.ensures.shape c.flag.ensures.local ∙ ap₂ with_rule c.bare.ensures c.flag.ensures.rule in
    let guess = c.in_ok-arg-2.ensures.shape c.flag-2.ensures.local ∙ ap₂ with_rule json c.flag-2.ensures.rule in
    let file = c.in_ok-arg-3.ensures.shape c.file.ensures.local ∙ ap₂ with_rule guess c.file.ensures.rule in
    let image = c.in_ok-arg-4.ensures.shape c.option.ensures.local ∙ ap₂ with_rule file c.option.ensures.rule in
    let sector = c.in_ok-arg-5.ensures.shape c.option-2.ensures.local ∙ ap₂ with_rule image c.option-2.ensures.rule in
    let per_slot = c.in_ok-arg-6.ensures.shape c.option-3.ensures.local ∙ ap₂ with_rule sector c.option-3.ensures.rule in
    let slots = c.in_ok-arg-7.ensures.shape c.option-4.ensures.local ∙ ap₂ with_rule per_slot c.option-4.ensures.rule in
    c.in_ok-command.ensures.shape c.option-5.ensures.local ∙ ap₂ with_rule slots c.option-5.ensures.rule
