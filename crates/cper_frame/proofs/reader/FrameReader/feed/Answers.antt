use Rattle.std.proofs.Common.{◌≡◌, ◌+◌, cond, length, Result, Ok, Err, sym, ap, subst, ◌∙◌}
use Rattle.std.specs.Prelude.{◌==◌}
use Rattle.std.proofs.lemmas.List.{take_rest}
use Rattle.std.proofs.lemmas.Result.{err_from_is_err_and}
use Rattle.cper_frame.specs.declared.error.FrameError.{FrameError}
use Rattle.cper_frame.specs.declared.fed.Fed.{Fed}
use Rattle.cper_frame.specs.declared.error.FrameError.TheVariants.{Need}
use Rattle.cper_frame.specs.Reading.{checked}
use Rattle.cper_frame.specs.Stream.{Reader, feed_result}
use Rattle.cper_frame.proofs.Cuts.{gets_on}
use Rattle.cper_frame.proofs.Readers.{cases, two, feeds_both, feeds_second_error, feeds_first_error}
use Rattle.cper_frame.proofs.reader.FrameReader.feed.Goals as goal
use Rattle.cper_frame.proofs.reader.FrameReader.feed.Goals.{After-is_whole, After-from_residual, After-from_residual-in_err-second-in-None}

-- both fills took bytes
both_took : (c : goal.After-is_whole)
    → ◌≡◌ {A = Reader × Result Fed FrameError} (c.fill-in-None.new.self, Ok (record { taken = c.in_ok-first-in-None.first + c.in_ok-second-in-None.second; whole = c.is_whole.result }))
    (feed_result c.args.self.now c.args.piece.now)
both_took c =
    feeds_both c.args.self.now c.fill.new.self c.fill-in-None.new.self c.args.piece.now _ c.in_ok-first-in-None.first c.in_ok-second-in-None.second c.is_whole.result
    (two c.args.self.now c.self.inside.limit c.self.inside.missing c.self.inside.held.items c.self.inside.failed c.args.piece.now c.self.view_is c.in-None.is c.self.invariant.state)
    c.fill.ensures.reader (sym c.in_ok-first-in-None.was ∙ c.fill.ensures.answer) (take_rest c.args.piece.now c.in_ok-first-in-None.first)
    c.fill-in-None.ensures.reader (sym c.in_ok-second-in-None.was ∙ c.fill-in-None.ensures.answer) c.is_whole.ensures

-- the second failed
second_failed : (c : goal.After-from_residual-in_err-second-in-None)
    → ◌≡◌ {A = Reader × Result Fed FrameError} (c.fill-in-None.new.self, Err c.in_err-second-in-None.field-0.0) (feed_result c.args.self.now c.args.piece.now)
second_failed c =
    feeds_second_error c.args.self.now c.fill.new.self c.fill-in-None.new.self c.args.piece.now _ c.in_ok-first-in-None.first c.in_err-second-in-None.field-0.0
    (two c.args.self.now c.self.inside.limit c.self.inside.missing c.self.inside.held.items c.self.inside.failed c.args.piece.now c.self.view_is c.in-None.is c.self.invariant.state)
    c.fill.ensures.reader (sym c.in_ok-first-in-None.was ∙ c.fill.ensures.answer) (take_rest c.args.piece.now c.in_ok-first-in-None.first)
    c.fill-in-None.ensures.reader (sym c.in_err-second-in-None.was ∙ c.fill-in-None.ensures.answer)

-- the first failed
first_failed : (c : goal.After-from_residual)
    → ◌≡◌ {A = Reader × Result Fed FrameError} (c.fill.new.self, Err c.in_err-first-in-None.field-0.0) (feed_result c.args.self.now c.args.piece.now)
first_failed c =
    feeds_first_error c.args.self.now c.fill.new.self c.args.piece.now c.in_err-first-in-None.field-0.0
    (two c.args.self.now c.self.inside.limit c.self.inside.missing c.self.inside.held.items c.self.inside.failed c.args.piece.now c.self.view_is c.in-None.is c.self.invariant.state)
    c.fill.ensures.reader (sym c.in_err-first-in-None.was ∙ c.fill.ensures.answer)

pub returns-in_ok-second-in-None-clause-reader : goal.returns-in_ok-second-in-None-clause-reader
returns-in_ok-second-in-None-clause-reader c =
    ap (λ (x : Reader × Result Fed FrameError). x.0) (both_took (goal.at.returns-in_ok-second-in-None-clause-reader c).After-is_whole)

pub returns-in_ok-second-in-None-clause-answer : goal.returns-in_ok-second-in-None-clause-answer
returns-in_ok-second-in-None-clause-answer c =
    ap (λ (x : Reader × Result Fed FrameError). x.1) (both_took (goal.at.returns-in_ok-second-in-None-clause-answer c).After-is_whole)

pub returns-in_err-second-in-None-clause-reader : goal.returns-in_err-second-in-None-clause-reader
returns-in_err-second-in-None-clause-reader c =
    ap (λ (x : Reader × Result Fed FrameError). x.0) (second_failed (goal.at.returns-in_err-second-in-None-clause-reader c).After-from_residual-in_err-second-in-None)

pub returns-in_err-second-in-None-clause-answer : goal.returns-in_err-second-in-None-clause-answer
returns-in_err-second-in-None-clause-answer c =
    let p = err_from_is_err_and c.from_residual-in_err-second-in-None.result c.from_residual-in_err-second-in-None.ensures.1 in
    p.1 ∙ ap (λ (e : FrameError). Err e) p.2 ∙ ap (λ (x : Reader × Result Fed FrameError). x.1)
    (second_failed (goal.at.returns-in_err-second-in-None-clause-answer c).After-from_residual-in_err-second-in-None)

pub returns-in_err-first-in-None-clause-reader : goal.returns-in_err-first-in-None-clause-reader
returns-in_err-first-in-None-clause-reader c =
    ap (λ (x : Reader × Result Fed FrameError). x.0) (first_failed (goal.at.returns-in_err-first-in-None-clause-reader c).After-from_residual)

pub returns-in_err-first-in-None-clause-answer : goal.returns-in_err-first-in-None-clause-answer
returns-in_err-first-in-None-clause-answer c =
    let p = err_from_is_err_and c.from_residual.result c.from_residual.ensures.1 in
    p.1 ∙ ap (λ (e : FrameError). Err e) p.2 ∙ ap (λ (x : Reader × Result Fed FrameError). x.1) (first_failed (goal.at.returns-in_err-first-in-None-clause-answer c).After-from_residual)

pub returns-in_ok-second-in-None-clause-on : goal.returns-in_ok-second-in-None-clause-on
returns-in_ok-second-in-None-clause-on c =
    gets_on c.args.self.now c.fill-in-None.new.self c.self.inside.missing c.args.piece.now _
    (sym (ap (λ (x : Reader). x.failed) c.self.view_is) ∙ c.in-None.is)
    (subst (λ (x : Reader). checked x.limit x.held ≡ cond (c.self.inside.missing == 0) (Ok (length x.held)) (Err (Need c.self.inside.missing))) c.self.view_is c.self.invariant.state)
    (both_took (goal.at.returns-in_ok-second-in-None-clause-on c).After-is_whole) (cases _)
