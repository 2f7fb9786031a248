use Rattle.std.proofs.lemmas.Result.{on_ok_weaker}
use Rattle.hub_script.proofs.PlayLemmas.{text_is, text_unwritten, gives_table}
use Rattle.hub_script.proofs.player.HubPlayer.play.Goals as goal

pub returns-in-Ok-clause-played : goal.returns-in-Ok-clause-played
returns-in-Ok-clause-played g c = on_ok_weaker c.play_line.result (text_is _ _ _ _ _ _ _ c.in-Ok.line c.in-Ok.ensures) c.play_line.ensures.played

pub returns-in-Ok-clause-unwritten : goal.returns-in-Ok-clause-unwritten
returns-in-Ok-clause-unwritten g c = λ fault. text_unwritten _ _ _ _ _ _ _ c.in-Ok.line c.in-Ok.ensures (c.play_line.ensures.unwritten fault)

pub returns-in-Ok-clause-memory : goal.returns-in-Ok-clause-memory
returns-in-Ok-clause-memory g c = λ memory. gives_table _ c.in-Ok.line c.in-Ok.ensures (c.play_line.ensures.memory memory)
