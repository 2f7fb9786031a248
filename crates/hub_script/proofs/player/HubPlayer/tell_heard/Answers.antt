use Rattle.std.proofs.Common.{refl}
use Rattle.std.proofs.lemmas.Result.{on_ok_weaker, on_err_weaker}
use Rattle.hub_script.proofs.PlayLemmas.{reply_played, reply_unwritten}
use Rattle.hub_script.proofs.StageLemmas.{waiting_played, waiting_unwritten, still_there, nobody_heard, not_below, is_below, counted, counted_unwritten}
use Rattle.hub_script.proofs.player.HubPlayer.tell_heard.Goals as goal

pub returns-in_default-clause-played : goal.returns-in_default-clause-played
returns-in_default-clause-played g c = on_ok_weaker c.write_refusal.result (waiting_played _ c.args.self.now.listeners.items _ c.args.self.now.hub _ _ _
    c.in_default.is refl) c.write_refusal.ensures.all

pub returns-in_default-clause-unwritten : goal.returns-in_default-clause-unwritten
returns-in_default-clause-unwritten g c = on_err_weaker c.write_refusal.result (waiting_unwritten _ c.args.self.now.listeners.items _ c.args.self.now.hub _ _ _
    c.in_default.is refl) c.write_refusal.ensures.part

pub returns-then-source-from-clause-played : goal.returns-then-source-from-clause-played
returns-then-source-from-clause-played g c =
    on_ok_weaker c.write_refusal-then-source-from.result
    (reply_played _ _ _ _ _ _ _ _ _
    (still_there _ c.args.self.now.listeners.items c.args.self.now.hub c.in-Some.hub _ _ c.in-Some.is
    (nobody_heard _ _ _ _ (not_below _ _ _ _ c.from.ensures c.sources.ensures c.if-source-from.true) refl)) refl) c.write_refusal-then-source-from.ensures.all

pub returns-then-source-from-clause-unwritten : goal.returns-then-source-from-clause-unwritten
returns-then-source-from-clause-unwritten g c =
    on_err_weaker c.write_refusal-then-source-from.result
    (reply_unwritten _ _ _ _ _ _ _ _ _
    (still_there _ c.args.self.now.listeners.items c.args.self.now.hub c.in-Some.hub _ _ c.in-Some.is
    (nobody_heard _ _ _ _ (not_below _ _ _ _ c.from.ensures c.sources.ensures c.if-source-from.true) refl)) refl)
    c.write_refusal-then-source-from.ensures.part

pub returns-clause-played : goal.returns-clause-played
returns-clause-played g c =
    on_ok_weaker c.show_heard.result
    (counted _ c.args.self.now.listeners.items _ c.args.self.now.hub c.in-Some.hub c.in-Some.is _ (is_below _ _ _ _ c.from.ensures c.sources.ensures
    c.if-source-from.false) _ _) c.show_heard.ensures.all

pub returns-clause-unwritten : goal.returns-clause-unwritten
returns-clause-unwritten g c =
    on_err_weaker c.show_heard.result
    (counted_unwritten _ c.args.self.now.listeners.items _ c.args.self.now.hub c.in-Some.hub c.in-Some.is _ (is_below _ _ _ _ c.from.ensures c.sources.ensures
    c.if-source-from.false) _ _) c.show_heard.ensures.part
