use Rattle.std.proofs.Common.{refl}
use Rattle.std.proofs.lemmas.Result.{on_ok_weaker, on_err_weaker}
use Rattle.hub_script.proofs.PlayLemmas.{reply_played, reply_unwritten}
use Rattle.std.proofs.lemmas.Bool.{MatchBool-at_true, MatchBool-at_false}
use Rattle.hub_script.proofs.StageLemmas.{waiting_played, waiting_unwritten, at_hub, nobody_turned, line_at_hub, unwritten_at_hub}
use Rattle.hub_script.proofs.player.HubPlayer.turn.Goals as goal

pub returns-in_default-clause-played : goal.returns-in_default-clause-played
returns-in_default-clause-played g c = on_ok_weaker c.write_refusal.result (waiting_played _ c.args.self.now.listeners.items _ c.args.self.now.hub _ _ _
    c.in_default.is refl) c.write_refusal.ensures.all

pub returns-in_default-clause-unwritten : goal.returns-in_default-clause-unwritten
returns-in_default-clause-unwritten g c = on_err_weaker c.write_refusal.result (waiting_unwritten _ c.args.self.now.listeners.items _ c.args.self.now.hub _ _ _
    c.in_default.is refl) c.write_refusal.ensures.part

pub returns-then-not-are_named : goal.returns-then-not-are_named
returns-then-not-are_named g c =
    let none = MatchBool-at_false _ _ c.if-not-are_named.true c.are_named.ensures in
    record {
      played = on_ok_weaker c.write_refusal-then-not-are_named.result
          (reply_played _ _ _ _ _ _ _ _ _ (at_hub _ c.args.self.now.listeners.items c.args.self.now.hub c.in-Some.hub _ _ _ c.in-Some.is (nobody_turned _ _ _ _ none.0 none.1 none.2 refl)) refl)
          c.write_refusal-then-not-are_named.ensures.all;
      unwritten = on_err_weaker c.write_refusal-then-not-are_named.result
          (reply_unwritten _ _ _ _ _ _ _ _ _ (at_hub _ c.args.self.now.listeners.items c.args.self.now.hub c.in-Some.hub _ _ _ c.in-Some.is (nobody_turned _ _ _ _ none.0 none.1 none.2 refl)) refl)
          c.write_refusal-then-not-are_named.ensures.part;
      cause = c.write_refusal-then-not-are_named.ensures.cause;
    }

pub take_turns-requires : goal.take_turns-requires
take_turns-requires g c = record { valid = c.requires; named = MatchBool-at_true _ _ c.if-not-are_named.false c.are_named.ensures }

pub returns-clause-played : goal.returns-clause-played
returns-clause-played g c = on_ok_weaker c.take_turns.result (line_at_hub _ c.args.self.now.listeners.items _ c.args.self.now.hub c.in-Some.hub c.in-Some.is _ _ _ _) c.take_turns.ensures.played

pub returns-clause-unwritten : goal.returns-clause-unwritten
returns-clause-unwritten g c = on_err_weaker c.take_turns.result (unwritten_at_hub _ c.args.self.now.listeners.items _ c.args.self.now.hub c.in-Some.hub
    c.in-Some.is _ _ _ _) c.take_turns.ensures.unwritten
