use Rattle.std.proofs.Common.{◌≡◌, ◌∙◌, ℕ, List, ◌++◌, length, decimal, refl, ap, arith, append_assoc, length-append}
use Rattle.std.specs.Prelude.{codes, slice_get}
use Rattle.std.proofs.lemmas.Result.{on_ok_weaker, on_err_weaker}
use Rattle.ghes_hub.specs.Seen.{seen}
use Rattle.base_model.proofs.FaultLemmas.{on_err, same_cause}
use Rattle.hub_script.proofs.PieceLemmas.{heard_start, is_listed, heard_step, heard_part, heard_all, heard_last}
use Rattle.hub_script.proofs.heard.show_heard.Goals as goal

pub hearing-init : goal.hearing-init
hearing-init g c = record {
  so = heard_start (λ b. ((goal.Listener-dyn g (b.vtable, b.value)).hearing b.value).count) g.O.Sink.tells
      (slice_get (seen c.args.hub.now).chains c.args.source) (g.O.Sink.written c.args.out.now) c.begin.new.self c.begin.ensures;
  short = let n : length c.begin.new.self ≡ 5 = ap length c.begin.ensures in omega (arith, n);
  faults = refl;
}

pub heard-requires-clause-at : goal.heard-requires-clause-at
heard-requires-clause-at g c = is_listed (slice_get (seen c.args.hub.now).chains c.args.source) c.hearing.at c.listeners-at-end.result c.hearing-test.true c.listeners-at-end.ensures

pub returns-in_err-make_room-clause-part : goal.returns-in_err-make_room-clause-part
returns-in_err-make_room-clause-part g c =
    let end = c.hearing.auto.at-end in
    on_err c.from_residual.result
    (heard_part (λ b. ((goal.Listener-dyn g (b.vtable, b.value)).hearing b.value).count) g.O.Sink.tells (slice_get (seen c.args.hub.now).chains c.args.source)
    (g.O.Sink.written c.args.out.now) (g.O.Sink.written c.hearing.out)
    (g.O.Sink.written c.make_room.new.out) c.hearing.reply c.hearing.at c.listeners-at-end.result c.hearing.invariant.so (omega (arith, end))
    c.listeners-at-end.ensures c.in_err-make_room.ensures.part)

pub hearing-preserved : goal.hearing-preserved
hearing-preserved g c =
    let room = c.in_ok-make_room.ensures.room in
    let one = ap length c.add.ensures ∙ length-append c.make_room.new.self (codes " ") in
    let more = c.add_number.ensures.short in
    let test = c.hearing-test.true in
    record {
      so = heard_step (λ b. ((goal.Listener-dyn g (b.vtable, b.value)).hearing b.value).count) g.O.Sink.tells
          (slice_get (seen c.args.hub.now).chains c.args.source) (g.O.Sink.written c.args.out.now) (g.O.Sink.written c.hearing.out)
          (g.O.Sink.written c.make_room.new.out) c.hearing.reply c.make_room.new.self c.add_number.new.self c.hearing.at c.listeners-at-end.result
          c.heard.result c.hearing.invariant.so c.in_ok-make_room.ensures.shown test c.listeners-at-end.ensures c.heard.ensures
          (c.add_number.ensures.text ∙ ap (λ (xs : List ℕ). xs ++ decimal c.heard.result) c.add.ensures ∙ append_assoc c.make_room.new.self (codes " ") (decimal c.heard.result));
      short = omega (arith, room, one, more);
      faults = c.in_ok-make_room.ensures.cause.ok ∙ c.hearing.invariant.faults;
    }

pub returns : goal.returns
returns g c =
    let end = c.hearing.auto.at-end in
    let test = c.hearing-test.false in
    let all : c.hearing.at ≡ c.listeners-at-end.result = omega (arith, end, test) in
    record {
      all = on_ok_weaker c.write_all.result
          (heard_all (λ b. ((goal.Listener-dyn g (b.vtable, b.value)).hearing b.value).count) g.O.Sink.tells
          (slice_get (seen c.args.hub.now).chains c.args.source) (g.O.Sink.written c.args.out.now) (g.O.Sink.written c.hearing.out)
          (g.O.Sink.written c.write_all.new.sink) c.hearing.reply c.end_line.new.reply c.text.result.now c.hearing.at c.listeners-at-end.result
          c.hearing.invariant.so all c.listeners-at-end.ensures c.end_line.ensures c.text.ensures)
          c.write_all.ensures.all;
      part = on_err_weaker c.write_all.result
          (heard_last (λ b. ((goal.Listener-dyn g (b.vtable, b.value)).hearing b.value).count) g.O.Sink.tells
          (slice_get (seen c.args.hub.now).chains c.args.source) (g.O.Sink.written c.args.out.now) (g.O.Sink.written c.hearing.out)
          (g.O.Sink.written c.write_all.new.sink) c.hearing.reply c.end_line.new.reply c.text.result.now c.hearing.at c.listeners-at-end.result
          c.hearing.invariant.so all c.listeners-at-end.ensures c.end_line.ensures c.text.ensures)
          c.write_all.ensures.part;
      cause = same_cause _ _ _ c.write_all.result c.hearing.invariant.faults c.write_all.ensures.cause;
    }
