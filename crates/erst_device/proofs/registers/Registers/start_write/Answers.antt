use Rattle.std.proofs.Common.{ℕ, ◌+◌, ◌-◌, Bool, List, take, drop, Some, None, Ok, Err, ap, subst, ◌∙◌}
use Rattle.std.specs.Prelude.{if◌then◌else◌}
use Rattle.std.proofs.lemmas.Result.{err_from_is_err_and}
use Rattle.erst_device.specs.StoreCalls.{StartedWrite}
use Rattle.erst_device.specs.Starts.{NoDraft, Writes}
use Rattle.erst_device.specs.Registers.{seen}
use Rattle.erst_device.proofs.ActionLemmas.{wrote_part, refused_by}
use Rattle.erst_device.proofs.registers.Registers.start_write.Goals as goal

pub returns-in_default-clause-starts : goal.returns-in_default-clause-starts
returns-in_default-clause-starts g c = NoDraft c.requires.operation c.in_default.ensures.draft

pub returns-in_default-new-clause-starts : goal.returns-in_default-new-clause-starts
returns-in_default-new-clause-starts g c =
    NoDraft c.requires.operation (c.in-Some.ensures.draft ∙ ap (λ (b : Bool). if b then None else Some (c.in-Some.size, c.in-Some.number)) c.in_default-new.ensures)

pub returns-in_err-start_write-clause-starts : goal.returns-in_err-start_write-clause-starts
returns-in_err-start_write-clause-starts g c = let e = c.in_err-start_write.ensures in
    let p = err_from_is_err_and c.from_residual.result c.from_residual.ensures.1 in
    refused_by g.F.Flash.tells (seen c.args.self.now c.args.store.now) (seen c.args.self.now c.start_write.new.self) c.args.range.now c.from_residual.result p.0 c.in_err-start_write.field-0.0 p.1 p.2
    (Writes c.in-Some.size c.in-Some.number c.start_write.new.self (Err c.in_err-start_write.field-0.0) c.requires.operation
    (c.in-Some.ensures.draft ∙ ap (λ (b : Bool). if b then None else Some (c.in-Some.size, c.in-Some.number)) c.in-Some-new.ensures.1)
    (subst (λ (bytes : List ℕ). StartedWrite g.F.Flash.tells c.args.store.now c.start_write.new.self c.in-Some.number bytes
    (Err c.in_err-start_write.field-0.0)) (wrote_part c.args.range.now c.args.self.now.offset c.in-Some.size)
    (subst (λ (n : ℕ). StartedWrite g.F.Flash.tells c.args.store.now c.start_write.new.self n
    (take (c.args.self.now.offset + c.in-Some.size - c.args.self.now.offset) (drop c.args.self.now.offset c.args.range.now))
    (Err c.in_err-start_write.field-0.0)) c.in-Some-new.ensures.0
    (record { answer = e.answer; pending = e.pending; still = e.still; reads = e.reads; leaves = e.leaves }))))

pub returns-clause-starts : goal.returns-clause-starts
returns-clause-starts g c = let e = c.in_ok-start_write.ensures in
    Writes c.in-Some.size c.in-Some.number c.start_write.new.self (Ok tt) c.requires.operation
    (c.in-Some.ensures.draft ∙ ap (λ (b : Bool). if b then None else Some (c.in-Some.size, c.in-Some.number)) c.in-Some-new.ensures.1)
    (subst (λ (bytes : List ℕ). StartedWrite g.F.Flash.tells c.args.store.now c.start_write.new.self c.in-Some.number bytes (Ok tt)) (wrote_part c.args.range.now c.args.self.now.offset c.in-Some.size)
    (subst (λ (n : ℕ). StartedWrite g.F.Flash.tells c.args.store.now c.start_write.new.self n
    (take (c.args.self.now.offset + c.in-Some.size - c.args.self.now.offset) (drop c.args.self.now.offset c.args.range.now)) (Ok tt)) c.in-Some-new.ensures.0
    (record { answer = e.answer; pending = e.pending; still = e.still; reads = e.reads; leaves = e.leaves })))
