use Rattle.std.proofs.Common.{◌∙◌, sym}
use Rattle.base_model.proofs.FaultLemmas.{on_err}
use Rattle.hub_script.proofs.PlayLemmas.{none_text, turn_took}
use Rattle.hub_script.proofs.turns.take_turn.Goals as goal

pub returns-then-not-is_taking-clause-shown : goal.returns-then-not-is_taking-clause-shown
returns-then-not-is_taking-clause-shown g c = λ t. none_text c.turn-event.result c.args.source _ _ (sym c.is_taking.ensures ∙ c.if-not-is_taking.true)

pub returns-in_err-show_block-clause-took : goal.returns-in_err-show_block-clause-took
returns-in_err-show_block-clause-took g c =
    on_err c.from_residual.result (turn_took _ c.args.source c.args.side _ _ c.turn-event.result (sym c.is_taking.ensures ∙ c.if-not-is_taking.false) c.turn-event.ensures.turned)
