use Rattle.std.proofs.Common.{sym, ◌∙◌}
use Rattle.std.proofs.lemmas.Result.{err_from_is_err_and}
use Rattle.erst_device.specs.Starts.{LookFails}
use Rattle.erst_device.specs.Registers.{seen}
use Rattle.erst_device.proofs.ActionLemmas.{refused_by, finds_nothing, looks_behind, misses_from, beyond_from, within_from}
use Rattle.erst_device.proofs.registers.Registers.start_read.Goals as goal

pub returns-in_err-least-clause-starts : goal.returns-in_err-least-clause-starts
returns-in_err-least-clause-starts g c = λ range long. let e = c.in_err-least.ensures in
    let p = err_from_is_err_and c.from_residual.result c.from_residual.ensures.1 in
    refused_by g.F.Flash.tells (seen c.args.self.now c.args.store.now) (seen c.args.self.now c.first.new.self) range c.from_residual.result p.0 c.in_err-least.field-0.0 p.1 p.2
    (LookFails c.first.new.self c.in_err-least.field-0.0 c.requires.operation (record { answer = e.answer; error = e.error; still = e.still; reads = e.reads; leaves = e.leaves }))

pub returns-in_default-clause-starts : goal.returns-in_default-clause-starts
returns-in_default-clause-starts g c = λ range long. let e = c.in_ok-least.ensures in
    finds_nothing g.F.Flash.tells (seen c.args.self.now c.args.store.now) range c.first.new.self c.in_ok-least.field-0 c.requires.operation
    (record { answer = e.answer; error = e.error; still = e.still; reads = e.reads; leaves = e.leaves }) c.in_default.is

pub returns-in_default-find_record-clause-starts : goal.returns-in_default-find_record-clause-starts
returns-in_default-find_record-clause-starts g c = λ range long. let e = c.in_ok-least.ensures in
    misses_from g.F.Flash.tells (seen c.args.self.now c.args.store.now) range c.first.new.self c.find_record.new.store c.in-Some.least
    (looks_behind g.F.Flash.tells (seen c.args.self.now c.args.store.now) c.first.new.self c.find_record.new.store c.in_ok-least.field-0 c.in-Some.least c.requires.operation
    (record { answer = e.answer; error = e.error; still = e.still; reads = e.reads; leaves = e.leaves }) c.in-Some.is c.find_record.ensures.same)
    c.in_default-find_record.ensures.finds

pub returns-then-is_beyond-clause-starts : goal.returns-then-is_beyond-clause-starts
returns-then-is_beyond-clause-starts g c = λ range long. let e = c.in_ok-least.ensures in
    let f = c.in-Some-find_record.ensures.finds in
    beyond_from g.F.Flash.tells (seen c.args.self.now c.args.store.now) range c.first.new.self c.find_record.new.store c.in-Some.least c.in-Some-find_record.size c.args.reach
    (looks_behind g.F.Flash.tells (seen c.args.self.now c.args.store.now) c.first.new.self c.find_record.new.store c.in_ok-least.field-0 c.in-Some.least c.requires.operation
    (record { answer = e.answer; error = e.error; still = e.still; reads = e.reads; leaves = e.leaves }) c.in-Some.is c.find_record.ensures.same)
    f.2 long (sym c.is_beyond.ensures ∙ c.if-is_beyond.true)

pub returns-clause-starts : goal.returns-clause-starts
returns-clause-starts g c = λ range long. let e = c.in_ok-least.ensures in
    let f = c.in-Some-find_record.ensures.finds in
    within_from g.F.Flash.tells (seen c.args.self.now c.args.store.now) range c.first.new.self c.find_record.new.store c.in-Some.least c.in-Some-find_record.id c.in-Some-find_record.size c.args.reach
    (looks_behind g.F.Flash.tells (seen c.args.self.now c.args.store.now) c.first.new.self c.find_record.new.store c.in_ok-least.field-0 c.in-Some.least c.requires.operation
    (record { answer = e.answer; error = e.error; still = e.still; reads = e.reads; leaves = e.leaves }) c.in-Some.is c.find_record.ensures.same)
    f.0 f.2 long (sym c.is_beyond.ensures ∙ c.if-is_beyond.false)
