use Rattle.hub_script.proofs.PlayLemmas.{blank_played, reply_played, reply_unwritten}
use Rattle.hub_script.proofs.player.HubPlayer.play_line.Goals as goal

pub returns-in-Blank-clause-played : goal.returns-in-Blank-clause-played
returns-in-Blank-clause-played g c = rw c.in-Blank.is (blank_played _ _ _ _)

pub returns-in_ok-write_all-in-Hest-clause-played : goal.returns-in_ok-write_all-in-Hest-clause-played
returns-in_ok-write_all-in-Hest-clause-played g c = rw c.in-Hest.is (reply_played _ _ _ _ _ _ _ _ _ c.in-Ok.ensures.made c.text.ensures c.in_ok-write_all-in-Hest.ensures.all)

pub returns-in_err-write_all-in-Hest-clause-unwritten : goal.returns-in_err-write_all-in-Hest-clause-unwritten
returns-in_err-write_all-in-Hest-clause-unwritten g c = λ fault. rw c.in-Hest.is (reply_unwritten _ _ _ _ _ _ _ _ _ c.in-Ok.ensures.made c.text.ensures c.in_err-write_all-in-Hest.ensures.part)

pub returns-in_ok-write_all-in-Error-clause-played : goal.returns-in_ok-write_all-in-Error-clause-played
returns-in_ok-write_all-in-Error-clause-played g c = rw c.in-Error.is (reply_played _ _ _ _ _ _ _ _ _ c.submit.ensures c.text-in-Error.ensures c.in_ok-write_all-in-Error.ensures.all)

pub returns-in_err-write_all-in-Error-clause-unwritten : goal.returns-in_err-write_all-in-Error-clause-unwritten
returns-in_err-write_all-in-Error-clause-unwritten g c = λ fault. rw c.in-Error.is (reply_unwritten _ _ _ _ _ _ _ _ _ c.submit.ensures c.text-in-Error.ensures c.in_err-write_all-in-Error.ensures.part)

pub returns-in_ok-turn-in-Turns-clause-played : goal.returns-in_ok-turn-in-Turns-clause-played
returns-in_ok-turn-in-Turns-clause-played g c = rw c.in-Turns.is c.in_ok-turn-in-Turns.ensures.played

pub returns-in_ok-tell_heard-in-Heard-clause-played : goal.returns-in_ok-tell_heard-in-Heard-clause-played
returns-in_ok-tell_heard-in-Heard-clause-played g c = rw c.in-Heard.is c.in_ok-tell_heard-in-Heard.ensures.played

pub returns-in_ok-write_all-in-Drop-clause-played : goal.returns-in_ok-write_all-in-Drop-clause-played
returns-in_ok-write_all-in-Drop-clause-played g c = rw c.in-Drop.is (reply_played _ _ _ _ _ _ _ _ _ c.remove.ensures c.text-in-Drop.ensures c.in_ok-write_all-in-Drop.ensures.all)

pub returns-in_err-write_all-in-Drop-clause-unwritten : goal.returns-in_err-write_all-in-Drop-clause-unwritten
returns-in_err-write_all-in-Drop-clause-unwritten g c = λ fault. rw c.in-Drop.is (reply_unwritten _ _ _ _ _ _ _ _ _ c.remove.ensures c.text-in-Drop.ensures c.in_err-write_all-in-Drop.ensures.part)
