use Rattle.std.proofs.Common.{ℕ, Ok, Err, subst}
use Rattle.std.proofs.lemmas.Result.{err_from_is_err_and}
use Rattle.erst_device.specs.StoreCalls.{StartedClear}
use Rattle.erst_device.specs.Starts.{NoneToClear, Clears}
use Rattle.erst_device.specs.Registers.{seen}
use Rattle.erst_device.proofs.ActionLemmas.{refused_by}
use Rattle.erst_device.proofs.registers.Registers.start_clear.Goals as goal

pub returns-in_default-clause-starts : goal.returns-in_default-clause-starts
returns-in_default-clause-starts g c = λ range. NoneToClear c.requires.operation c.in_default.ensures

pub returns-in_err-start_clear-clause-starts : goal.returns-in_err-start_clear-clause-starts
returns-in_err-start_clear-clause-starts g c = λ range. let e = c.in_err-start_clear.ensures in
    let p = err_from_is_err_and c.from_residual.result c.from_residual.ensures.1 in
    refused_by g.F.Flash.tells (seen c.args.self.now c.args.store.now) (seen c.args.self.now c.start_clear.new.self) range c.from_residual.result p.0 c.in_err-start_clear.field-0.0 p.1 p.2
    (Clears c.start_clear.new.self (Err c.in_err-start_clear.field-0.0) c.requires.operation c.in-Some.ensures.1
    (subst (λ (n : ℕ). StartedClear g.F.Flash.tells c.args.store.now c.start_clear.new.self n (Err c.in_err-start_clear.field-0.0)) c.in-Some.ensures.0
    (record { answer = e.answer; pending = e.pending; still = e.still; reads = e.reads; leaves = e.leaves })))

pub returns-clause-starts : goal.returns-clause-starts
returns-clause-starts g c = λ range. let e = c.in_ok-start_clear.ensures in
    Clears c.start_clear.new.self (Ok tt) c.requires.operation c.in-Some.ensures.1
    (subst (λ (n : ℕ). StartedClear g.F.Flash.tells c.args.store.now c.start_clear.new.self n (Ok tt)) c.in-Some.ensures.0
    (record { answer = e.answer; pending = e.pending; still = e.still; reads = e.reads; leaves = e.leaves }))
