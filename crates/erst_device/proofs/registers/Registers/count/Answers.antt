use Rattle.std.proofs.Common.{ℕ, Some, Ok, Err, sym, subst}
use Rattle.erst_entries.specs.declared.actions.Action.TheVariants.{GetRecordCount}
use Rattle.erst_device.specs.Actions.{Acts}
use Rattle.erst_device.specs.Registers.{seen}
use Rattle.erst_device.proofs.ActionLemmas.{counts_from}
use Rattle.erst_device.proofs.registers.Registers.count.Goals as goal

pub returns-in-Ok-clause-does : goal.returns-in-Ok-clause-does
returns-in-Ok-clause-does g c = λ range. let e = c.in-Ok.ensures in
    subst (λ (n : ℕ). Acts g.F.Flash.tells (seen c.args.self.now c.args.store.now) range (Some GetRecordCount)
    (record (seen c.give_up.new.self c.give_up.new.store) { value = n; store = c.count.new.self }) range) (sym c.from-self.ensures)
    (counts_from g.F.Flash.tells (seen c.args.self.now c.args.store.now) (seen c.give_up.new.self c.give_up.new.store) c.count.new.self (Ok c.in-Ok.count) range c.give_up.ensures.does
    (record { answer = e.answer; within = e.few; error = e.error; still = e.still; reads = e.reads; leaves = e.leaves }))

pub returns-in-Err-clause-does : goal.returns-in-Err-clause-does
returns-in-Err-clause-does g c = λ range. let e = c.in-Err.ensures in
    subst (λ (n : ℕ). Acts g.F.Flash.tells (seen c.args.self.now c.args.store.now) range (Some GetRecordCount)
    (record (seen c.give_up.new.self c.give_up.new.store) { value = n; store = c.count.new.self }) range) (sym c.from-self-in-Err.ensures)
    (counts_from g.F.Flash.tells (seen c.args.self.now c.args.store.now) (seen c.give_up.new.self c.give_up.new.store) c.count.new.self (Err c.in-Err.field-0) range c.give_up.ensures.does
    (record { answer = e.answer; within = e.few; error = e.error; still = e.still; reads = e.reads; leaves = e.leaves }))
