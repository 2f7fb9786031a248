use Rattle.std.proofs.Common.{◌≡◌, ◌∙◌, ℕ, ◌+◌, List, [], ◌∷◌, ◌++◌, take, refl, sym, ap, arith, Vec, Global, vec_len}
use Rattle.std.proofs.lemmas.Result.{on_ok_weaker, on_err_weaker}
use Rattle.erst_bridge.specs.declared.made.MadeTurn.{MadeTurn}
use Rattle.erst_bridge.specs.Made.{turn_of}
use Rattle.apei_script.specs.Bridged.{words_of_made}
use Rattle.apei_script.specs.Words.{reply_at}
use Rattle.apei_script.specs.Sessions.{state_of, SameClients}
use Rattle.base_model.proofs.FaultLemmas.{on_err, same_cause}
use Rattle.script_text.proofs.FaultLemmas.{handed_on}
use Rattle.apei_script.proofs.LawLemmas.{own_programs}
use Rattle.apei_script.proofs.BridgeLemmas.{no_step, bridged_quiet, bridged_took, turns_all, turns_unwritten, turns_cut, not_taken, same_turn, so_at, played_by, unwritten_by}
use Rattle.apei_script.proofs.bridged.bridged_turns.Goals as goal
use Rattle.apei_script.proofs.bridged.bridged_turns.Goals.{then-taken+in_ok-hear_of_block, else-taken}

pub turning-init : goal.turning-init
turning-init g c = record {
  so = rw c.clear.ensures.items (no_step _ _ _ _ _ _ _ _ _);
  count = c.clear.ensures.len;
  on = c.requires.on;
  clients = record { own = refl; other = refl; steps = refl };
  faults = refl;
}

pub bridged_turn-turn-requires : goal.bridged_turn-turn-requires
bridged_turn-turn-requires g c = c.turning.invariant.on

pub unwrap-requires : goal.unwrap-requires
unwrap-requires g c =
    let room = c.turning.session.buffers.room_made in
    let count = c.turning.invariant.count in
    c.push.ensures.succeeds (omega arith)

pub hear_of_block-requires : goal.hear_of_block-requires
hear_of_block-requires g c = c.bridged_turn-turn.ensures.fits (c.took-taken.ensures.0 c.if-taken.true)

pub returns-in_err-hear_of_block-clause-unwritten : goal.returns-in_err-hear_of_block-clause-unwritten
returns-in_err-hear_of_block-clause-unwritten g c =
    let before = c.turning.invariant.clients in
    let then = c.hear_of_block.ensures.clients in
    let clients : SameClients c.args.session.now c.hear_of_block.new.session =
    record { own = then.own ∙ c.bridged_turn-turn.ensures.client ∙ before.own; other = then.other ∙ before.other; steps = then.steps ∙ before.steps } in
    let is = same_turn g.F.Flash.tells _ _ _ _ c.turning.session.bridge c.turning.session.machine (turn_of c.bridged_turn-turn.result) c.bridged_turn-turn.new.bridge c.bridged_turn-turn.new.machine
    before.own c.budget-steps.ensures c.bridged_turn-turn.ensures.turn in
    on_err c.from_residual.result
    (unwritten_by _ g.F.Flash.tells g.O.Sink.tells c.args.session.now c.hear_of_block.new.session c.bridged_turn-turn.new.bridge c.bridged_turn-turn.new.machine
    clients c.hear_of_block.ensures.bridge c.hear_of_block.ensures.machine _ _ _ _ _
    (turns_cut _ g.F.Flash.tells g.O.Sink.tells (own_programs g.F.Flash.tells) (state_of c.args.session.now) c.stands.ensures.machine c.requires.on _ _
    c.bridged_turn-turn.new.bridge c.bridged_turn-turn.new.machine
    c.turning.session.bridge c.turning.session.machine _ _ c.args.letters.now c.turning.letter-index _ _ _ c.bridged_turn-turn.result c.steps-step.result (omega arith) c.turning.invariant.so
    is c.bridged_turn-turn.ensures.side c.steps-step.ensures.told c.steps-step.ensures.value (c.took-taken.ensures.0 c.if-taken.true)
    c.hear_of_block.ensures.told c.in_err-hear_of_block.ensures.part))

pub returns-in_err-hear_of_block-clause-cause : goal.returns-in_err-hear_of_block-clause-cause
returns-in_err-hear_of_block-clause-cause g c = handed_on _ _ _ _ c.from_residual.result _ c.from_residual.ensures.1 c.turning.invariant.faults c.in_err-hear_of_block.ensures.cause

pub turning-preserved : goal.turning-preserved
turning-preserved g c =
    let more : c.push.new.self.items ≡ c.turning.session.buffers.made.items ++ (record { turn = c.bridged_turn-turn.result; step = c.steps-step.result }) ∷ [] =
    rw c.unwrap.ensures at c.push.ensures.items in
    let count : vec_len c.push.new.self ≡ vec_len c.turning.session.buffers.made + 1 = rw c.unwrap.ensures at c.push.ensures.len in
    let before = c.turning.invariant.clients in
    let is = same_turn g.F.Flash.tells _ _ _ _ c.turning.session.bridge c.turning.session.machine (turn_of c.bridged_turn-turn.result) c.bridged_turn-turn.new.bridge c.bridged_turn-turn.new.machine
    before.own c.budget-steps.ensures c.bridged_turn-turn.ensures.turn in
    elim c.if-taken.branch [
      | then-taken+in_ok-hear_of_block w ↦
          let then = w.hear_of_block.ensures.clients in
          let took = bridged_took _ _ _ _ _ _ _ _ _ c.turning.session.bridge c.bridged_turn-turn.new.bridge c.turning.session.machine
          c.bridged_turn-turn.new.machine _ _ c.args.letters.now c.turning.letter-index _ _ _ _
          c.bridged_turn-turn.result c.steps-step.result (omega arith) c.turning.invariant.so is c.bridged_turn-turn.ensures.side c.steps-step.ensures.told c.steps-step.ensures.value more
          (c.took-taken.ensures.0 w.if-taken.true) w.hear_of_block.ensures.told w.in_ok-hear_of_block.ensures.all in
          rw (w.session-is, w.chain-is, w.out-is) (record {
            so = so_at _ _ _ _ _ _ _ _ _ _ _ _ _ _ _ _ _ _ w.hear_of_block.ensures.bridge w.hear_of_block.ensures.machine (ap (λ (v : Vec MadeTurn Global). v.items) w.hear_of_block.ensures.made) took;
            count = ap (λ (v : Vec MadeTurn Global). vec_len v) w.hear_of_block.ensures.made ∙ count ∙ ap (λ (n : ℕ). n + 1) c.turning.invariant.count;
            on = λ off. c.bridged_turn-turn.ensures.on (sym w.hear_of_block.ensures.bridge ∙ off);
            clients = record { own = then.own ∙ c.bridged_turn-turn.ensures.client ∙ before.own; other = then.other ∙ before.other; steps = then.steps ∙ before.steps };
            faults = w.in_ok-hear_of_block.ensures.cause.ok ∙ c.turning.invariant.faults;
          })
      | else-taken w ↦
          rw (w.session-is, w.chain-is, w.out-is) (record {
            so = bridged_quiet _ _ _ _ _ _ _ _ _ c.turning.session.bridge c.bridged_turn-turn.new.bridge c.turning.session.machine
                c.bridged_turn-turn.new.machine _ c.args.letters.now c.turning.letter-index _ _ _
                c.bridged_turn-turn.result c.steps-step.result (omega arith) c.turning.invariant.so is c.bridged_turn-turn.ensures.side c.steps-step.ensures.told c.steps-step.ensures.value more
                (not_taken (turn_of c.bridged_turn-turn.result) c.took-taken.result c.took-taken.ensures w.if-taken.false);
            count = count ∙ ap (λ (n : ℕ). n + 1) c.turning.invariant.count;
            on = c.bridged_turn-turn.ensures.on;
            clients = record { own = c.bridged_turn-turn.ensures.client ∙ before.own; other = before.other; steps = before.steps };
            faults = c.turning.invariant.faults;
          })
    ]

pub returns : goal.returns
returns g c =
    let reply : reply_at c.steps-step-2.result (words_of_made c.deref.result.now) ≡ reply_at c.steps-step-2.result
    (words_of_made c.turning.session.buffers.made.items) = ap (λ (m : List MadeTurn). reply_at c.steps-step-2.result (words_of_made m)) c.deref.ensures.value
    in
    record {
      played = on_ok_weaker c.say_made.result
          (λ h. played_by _ g.F.Flash.tells g.O.Sink.tells c.args.session.now _ c.turning.session.bridge c.turning.session.machine c.turning.invariant.clients refl refl _ _ _ _ _
          (turns_all _ g.F.Flash.tells g.O.Sink.tells (own_programs g.F.Flash.tells) (state_of c.args.session.now) c.stands.ensures.machine c.requires.on _ _
          c.turning.session.bridge c.turning.session.machine
          _ c.args.letters.now c.turning.letter-index _ _ _ c.steps-step-2.result (omega arith) c.turning.invariant.so c.steps-step-2.ensures.value
          (λ t. h t ∙ ap (λ (xs : List ℕ). g.O.Sink.written c.turning.out ++ xs) reply))) c.say_made.ensures.all;
      unwritten = on_err_weaker c.say_made.result
          (λ h. unwritten_by _ g.F.Flash.tells g.O.Sink.tells c.args.session.now _ c.turning.session.bridge c.turning.session.machine c.turning.invariant.clients refl refl _ _ _ _ _
          (turns_unwritten _ g.F.Flash.tells g.O.Sink.tells (own_programs g.F.Flash.tells) (state_of c.args.session.now) c.stands.ensures.machine c.requires.on
          _ _ c.turning.session.bridge c.turning.session.machine
          _ c.args.letters.now c.turning.letter-index _ _ _ c.steps-step-2.result (omega arith) c.turning.invariant.so c.steps-step-2.ensures.value
          (λ t. let part = h t in (part.0, part.1 ∙ ap (λ (xs : List ℕ). g.O.Sink.written c.turning.out ++ take part.0 xs) reply)))) c.say_made.ensures.part;
      cause = same_cause _ _ _ c.say_made.result c.turning.invariant.faults c.say_made.ensures.cause;
    }
