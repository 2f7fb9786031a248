use Rattle.std.proofs.Common.{◌≡◌, ◌∙◌, ◌*◌, ◌≤◌, length, refl, ap, arith}
use Rattle.std.proofs.lemmas.Result.{on_ok_weaker, on_err_weaker}
use Rattle.ghes_hub.specs.Seen.{seen}
use Rattle.base_model.proofs.FaultLemmas.{on_err, same_cause}
use Rattle.script_text.proofs.FaultLemmas.{handed_on}
use Rattle.hub_script.proofs.PlayLemmas.{no_turn, turn_more, turn_cut, all_turned, all_unwritten, lent_text, lent_part, said_longer, is_named}
use Rattle.hub_script.proofs.turns.take_turns.Goals as goal

pub turning-init : goal.turning-init
turning-init g c = record {
  so = no_turn _ _ _ _ _ c.begin.ensures;
  short = let n : length c.begin.new.self ≡ 5 = ap length c.begin.ensures in omega arith;
  count = refl;
  faults = refl;
}

pub take_turn-requires : goal.take_turn-requires
take_turn-requires g c =
    let test = c.turning-test.true in
    is_named (seen c.args.hub.now) (seen c.turning.hub) c.args.pairs.now c.turning.at c.source_of-source.result c.requires.named (omega (arith, test))
    c.source_of-source.ensures c.turning.invariant.count

pub say_event-requires : goal.say_event-requires
say_event-requires g c =
    let short = c.turning.invariant.short in
    let test = c.turning-test.true in
    let most = c.requires.valid.most in
    omega (arith, short, test, most)

pub returns-in_err-event-clause-unwritten : goal.returns-in_err-event-clause-unwritten
returns-in_err-event-clause-unwritten g c =
    let test = c.turning-test.true in
    on_err c.from_residual.result
    (turn_cut _ _ _ _ _ c.args.pairs.now c.turning.at c.source_of-source.result c.side_of-side.result _ _ _ _ (omega (arith, test)) c.requires.named c.source_of-source.ensures c.side_of-side.ensures
    c.turning.invariant.so (record { turned = c.in_err-event.ensures.took; text = c.in_err-event.ensures.part }))

pub returns-in_err-event-clause-cause : goal.returns-in_err-event-clause-cause
returns-in_err-event-clause-cause g c = handed_on _ _ _ _ c.from_residual.result _ c.from_residual.ensures.1 c.turning.invariant.faults c.in_err-event.ensures.cause

pub turning-preserved : goal.turning-preserved
turning-preserved g c =
    let test = c.turning-test.true in
    record {
      so = turn_more _ _ _ _ _ c.args.pairs.now c.turning.at c.source_of-source.result c.side_of-side.result _ _ _ _ _ (omega (arith, test)) c.source_of-source.ensures c.side_of-side.ensures
          c.turning.invariant.so (record { event = c.in_ok-event.event; turned = c.in_ok-event.ensures.turned; said = c.say_event.ensures; text = c.in_ok-event.ensures.shown });
      short = said_longer c.in_ok-event.event _ _ c.turning.at c.say_event.ensures c.turning.invariant.short;
      count = c.in_ok-event.ensures.turned.count ∙ c.turning.invariant.count;
      faults = c.in_ok-event.ensures.cause.ok ∙ c.turning.invariant.faults;
    }

pub end_line-requires : goal.end_line-requires
end_line-requires g c =
    let short = c.turning.invariant.short in
    let most = c.requires.valid.most in
    let end = c.turning.auto.at-end in
    omega (arith, short, most, end)

pub returns : goal.returns
returns g c =
    let test = c.turning-test.false in
    let even = c.requires.valid.even.1 in
    let all : length c.args.pairs.now ≤ 2 * c.turning.at = omega (arith, test, even) in
    record {
      played = on_ok_weaker c.write_all.result
          (λ h. all_turned _ _ _ _ c.args.pairs.now c.turning.at _ _ _ _ all c.requires.named c.turning.invariant.so (lent_text _ _ _ _ _ c.text.ensures c.end_line.ensures h)) c.write_all.ensures.all;
      unwritten = on_err_weaker c.write_all.result
          (λ h. all_unwritten _ _ _ _ c.args.pairs.now c.turning.at _ _ _ _ all c.requires.named c.turning.invariant.so
          (lent_part _ _ _ _ _ c.text.ensures c.end_line.ensures h)) c.write_all.ensures.part;
      cause = same_cause _ _ _ c.write_all.result c.turning.invariant.faults c.write_all.ensures.cause;
    }
