use Rattle.std.proofs.Common.{◌∙◌, ◌++◌, decimal, refl, ap}
use Rattle.hub_script.specs.Replies.{reply_line}
use Rattle.hub_script.proofs.Terms.{words_of_queued}
use Rattle.hub_script.proofs.StageLemmas.{refused_waiting, at_hub, nobody_given, not_taken, queued, not_below, is_below, as_lent}
use Rattle.hub_script.proofs.player.HubPlayer.submit.Goals as goal

pub returns-in_default : goal.returns-in_default
returns-in_default g c = refused_waiting _ _ _ _ _ c.in_default.is refl c.refuse.ensures

pub returns-then-source-from : goal.returns-then-source-from
returns-then-source-from g c =
    at_hub _ _ _ c.in-Some.hub _ _ _ c.in-Some.is (nobody_given _ _ _ _ _ (not_below _ _ _ _ c.from.ensures c.sources.ensures c.if-source-from.true) c.refuse-then-source-from.ensures)

pub returns-in-Ok : goal.returns-in-Ok
returns-in-Ok g c =
    let text = c.end_line.ensures ∙ ap reply_line (c.add_number.ensures.text ∙ ap (λ xs. xs ++ decimal c.from-in-Ok.result) c.begin.ensures ∙ ap words_of_queued c.from-in-Ok.ensures) in
    at_hub _ _ _ c.in-Some.hub _ _ _ c.in-Some.is
    (queued _ _ _ _ _ _ _ _ (is_below _ _ _ _ c.from.ensures c.sources.ensures c.if-source-from.false) (as_lent _ _ c.deref.result.now _ c.decode_line-len.ensures.bytes c.deref.ensures.value)
    c.in-Ok.ensures.exact c.in-Ok.ensures.submitted c.in-Ok.ensures.number text)

pub returns-in-Err : goal.returns-in-Err
returns-in-Err g c =
    at_hub _ _ _ c.in-Some.hub _ _ _ c.in-Some.is
    (not_taken _ _ _ _ _ _ _ c.in-Err.why c.in-Err.ensures.refused (is_below _ _ _ _ c.from.ensures c.sources.ensures c.if-source-from.false)
    (as_lent _ _ c.deref.result.now _ c.decode_line-len.ensures.bytes c.deref.ensures.value) c.in-Err.ensures.exact c.refuse-in-Err.ensures)
