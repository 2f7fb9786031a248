use Rattle.std.proofs.Common.{◌≡◌, ◌∙◌, ℕ, ◌+◌, List, [], ◌∷◌, ◌++◌, length, take, drop, sym, ap, arith, append_assoc}
use Rattle.std.specs.Prelude.{codes, decimal}
use Rattle.std.proofs.lemmas.List.{append-nil, length-append, take_all}
use Rattle.std.proofs.lemmas.Result.{on_err_weaker}
use Rattle.erst_bridge.specs.Made.{turn_of}
use Rattle.apei_script.specs.Bridged.{words_of_turn, words_of_made}
use Rattle.base_model.proofs.FaultLemmas.{on_err}
use Rattle.script_text.proofs.ShownLemmas.{shown_then, shown_more, shown_part}
use Rattle.apei_script.proofs.BridgeLemmas.{words_more, words_rest, turns_behind}
use Rattle.apei_script.proofs.bridged.say_made.Goals as goal

pub returns-in_err-make_room-clause-part : goal.returns-in_err-make_room-clause-part
returns-in_err-make_room-clause-part g c =
    let end = codes " @" ++ (decimal c.args.step ++ 10 ∷ []) in
    let behind = turns_behind (drop c.saying.turn-index c.args.made.now) in
    on_err c.from_residual.result
    (shown_part g.O.Sink.tells (g.O.Sink.written c.args.out.now) (g.O.Sink.written c.saying.out) (g.O.Sink.written c.make_room.new.out) c.saying.reply _ (behind ++ end) _ c.saying.invariant.so
    (ap (λ (xs : List ℕ). xs ++ end) (words_rest c.args.made.now c.saying.turn-index) ∙ append_assoc (words_of_made (take c.saying.turn-index c.args.made.now)) behind end)
    c.in_err-make_room.ensures.part)

pub saying-preserved : goal.saying-preserved
saying-preserved g c =
    let room = c.in_ok-make_room.ensures.room in
    let one : length c.add.new.self ≡ length c.make_room.new.self + 1 = ap length c.add.ensures ∙ length-append c.make_room.new.self (codes " ") in
    let more = c.say_turn.ensures.short in
    let words = words_of_turn (turn_of c.turn-item.result.turn) c.turn-item.result.step in
    record {
      so = shown_more _ _ _ c.make_room.new.self c.say_turn.new.reply _ _ (codes " " ++ words)
          (shown_then _ _ _ _ _ c.saying.reply _ c.saying.invariant.so c.in_ok-make_room.ensures.shown)
          (c.say_turn.ensures.text ∙ ap (λ (xs : List ℕ). xs ++ words) c.add.ensures ∙ append_assoc c.make_room.new.self (codes " ") words)
          (words_more c.args.made.now c.saying.turn-index c.turn-item.result (omega arith) c.turn-item.is);
      short = omega (arith, room, one, more);
      faults = c.in_ok-make_room.ensures.cause.ok ∙ c.saying.invariant.faults;
    }

pub returns-clause-part : goal.returns-clause-part
returns-clause-part g c =
    let end = codes " @" ++ (decimal c.args.step ++ 10 ∷ []) in
    let words : words_of_made c.args.made.now ≡ words_of_made (take c.saying.turn-index c.args.made.now) = ap words_of_made (sym (take_all c.saying.turn-index c.args.made.now (omega arith))) in
    on_err_weaker c.write_all.result
    (λ h. shown_part g.O.Sink.tells (g.O.Sink.written c.args.out.now) (g.O.Sink.written c.saying.out) (g.O.Sink.written c.write_all.new.sink) c.end_line.new.reply _ [] _
    (shown_more _ _ _ c.saying.reply c.end_line.new.reply _ _ end c.saying.invariant.so c.end_line.ensures (ap (λ (xs : List ℕ). xs ++ end) words)) (sym (append-nil _))
    (λ t. let part = h t in (part.0, part.1 ∙ ap (λ (xs : List ℕ). g.O.Sink.written c.saying.out ++ take part.0 xs) c.text.ensures))) c.write_all.ensures.part
