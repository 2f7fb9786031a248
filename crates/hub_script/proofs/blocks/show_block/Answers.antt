use Rattle.std.proofs.Common.{◌∙◌, ℕ, ◌-◌, List, [], ◌∷◌, ◌++◌, take, drop, refl, sym, ap, arith}
use Rattle.std.proofs.lemmas.List.{append-nil}
use Rattle.std.proofs.lemmas.Result.{on_ok_weaker, on_err_weaker}
use Rattle.hex.specs.Hex.{encode_lower}
use Rattle.hub_script.specs.Replies.{reply_line, words_of_block}
use Rattle.hub_script.proofs.Terms.{words_before_digits}
use Rattle.base_model.proofs.FaultLemmas.{on_err, same_cause}
use Rattle.script_text.proofs.FaultLemmas.{handed_on}
use Rattle.script_text.proofs.ShownLemmas.{shown_none, shown_then, shown_more, shown_all, shown_part}
use Rattle.hub_script.proofs.PieceLemmas.{no_digits, more_digits, digits_short, digits_rest, all_digits}
use Rattle.hub_script.proofs.blocks.show_block.Goals as goal

pub showing-init : goal.showing-init
showing-init g c =
    let short = c.begin_block.ensures.short in
    record {
      so = shown_none _ _ _ _ (no_digits _ (words_before_digits c.args.source c.args.block.now) c.begin_block.ensures.words);
      within = omega arith;
      short = omega (arith, short);
      faults = refl;
    }

pub returns-in_err-make_room-clause-part : goal.returns-in_err-make_room-clause-part
returns-in_err-make_room-clause-part g c =
    let words = words_before_digits c.args.source c.args.block.now in
    on_err c.from_residual.result
    (shown_part g.O.Sink.tells (g.O.Sink.written c.args.out.now) (g.O.Sink.written c.showing.out) (g.O.Sink.written c.make_room.new.out) c.showing.reply
    (words ++ encode_lower (take c.showing.at c.args.block.now))
    (encode_lower (drop c.showing.at c.args.block.now) ++ 10 ∷ []) (reply_line (words_of_block c.args.source c.args.block.now)) c.showing.invariant.so (digits_rest words c.args.block.now c.showing.at)
    c.in_err-make_room.ensures.part)

pub returns-in_err-make_room-clause-cause : goal.returns-in_err-make_room-clause-cause
returns-in_err-make_room-clause-cause g c = handed_on _ _ _ _ c.from_residual.result _ c.from_residual.ensures.1 c.showing.invariant.faults c.in_err-make_room.ensures.cause

pub showing-preserved : goal.showing-preserved
showing-preserved g c =
    let words = words_before_digits c.args.source c.args.block.now in
    let within = c.showing.invariant.within in
    let test = c.showing-test.true in
    let end = c.min-end.ensures in
    record {
      so = shown_more g.O.Sink.tells (g.O.Sink.written c.args.out.now) (g.O.Sink.written c.make_room.new.out) c.make_room.new.self c.add_hex.new.self
          (words ++ encode_lower (take c.showing.at c.args.block.now))
          (words ++ encode_lower (take c.min-end.result c.args.block.now)) (encode_lower (take (c.min-end.result - c.showing.at) (drop c.showing.at c.args.block.now)))
          (shown_then _ _ _ _ _ c.showing.reply _ c.showing.invariant.so c.in_ok-make_room.ensures.shown) c.add_hex.ensures.text
          (more_digits words c.args.block.now c.showing.at c.min-end.result (omega (arith, end, within, test)));
      within = omega (arith, end);
      short = digits_short c.args.block.now c.showing.at c.min-end.result _ _ c.add_hex.ensures.longer c.in_ok-make_room.ensures.room end;
      faults = c.in_ok-make_room.ensures.cause.ok ∙ c.showing.invariant.faults;
    }

pub returns-clause-all : goal.returns-clause-all
returns-clause-all g c =
    let words = words_before_digits c.args.source c.args.block.now in
    on_ok_weaker c.write_all.result
    (λ h. shown_all g.O.Sink.tells (g.O.Sink.written c.args.out.now) (g.O.Sink.written c.showing.out) (g.O.Sink.written c.write_all.new.sink)
    c.end_line.new.reply (reply_line (words_of_block c.args.source c.args.block.now))
    (shown_more _ _ _ c.showing.reply c.end_line.new.reply (words ++ encode_lower (take c.showing.at c.args.block.now))
    (reply_line (words_of_block c.args.source c.args.block.now)) (10 ∷ []) c.showing.invariant.so c.end_line.ensures
    (all_digits words c.args.block.now c.showing.at c.showing-test.false))
    (λ t. h t ∙ ap (λ (xs : List ℕ). g.O.Sink.written c.showing.out ++ xs) c.text.ensures)) c.write_all.ensures.all

pub returns-clause-part : goal.returns-clause-part
returns-clause-part g c =
    let words = words_before_digits c.args.source c.args.block.now in
    let whole = reply_line (words_of_block c.args.source c.args.block.now) in
    on_err_weaker c.write_all.result
    (λ h. shown_part g.O.Sink.tells (g.O.Sink.written c.args.out.now) (g.O.Sink.written c.showing.out) (g.O.Sink.written c.write_all.new.sink) c.end_line.new.reply whole [] whole
    (shown_more _ _ _ c.showing.reply c.end_line.new.reply (words ++ encode_lower (take c.showing.at c.args.block.now)) whole (10 ∷ []) c.showing.invariant.so c.end_line.ensures
    (all_digits words c.args.block.now c.showing.at c.showing-test.false)) (sym (append-nil whole))
    (λ t. let part = h t in (part.0, part.1 ∙ ap (λ (xs : List ℕ). g.O.Sink.written c.showing.out ++ take part.0 xs) c.text.ensures))) c.write_all.ensures.part

pub returns-clause-cause : goal.returns-clause-cause
returns-clause-cause g c = same_cause _ _ _ c.write_all.result c.showing.invariant.faults c.write_all.ensures.cause
