use Rattle.hub_script.proofs.PlayLemmas.{said_more}
use Rattle.hub_script.proofs.turns.say_event.Goals as goal

pub returns : goal.returns
returns c = said_more c.args.event _ c.add.new.self c.add-2.new.self c.word_of.result.now c.add.ensures c.add-2.ensures c.word_of.ensures.word
