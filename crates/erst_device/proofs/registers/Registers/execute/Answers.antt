use Rattle.std.proofs.Common.{◌≡◌, Some, refl, sym, subst, ◌∙◌}
use Rattle.erst_entries.specs.declared.actions.Action.TheVariants.{ExecuteOperation}
use Rattle.erst_device.specs.declared.registers.Running.{Running}
use Rattle.erst_device.specs.declared.registers.Running.TheVariants.{Nothing}
use Rattle.erst_device.specs.DeviceState.{DeviceState}
use Rattle.erst_device.specs.Actions.{Acts, Executes, Waits}
use Rattle.erst_device.specs.Registers.{seen, Runs}
use Rattle.erst_device.proofs.ActionLemmas.{still_of, still_nothing, runs_of, started_is}
use Rattle.erst_device.proofs.registers.Registers.execute.Goals as goal

pub returns-then-not-is_still-clause-does : goal.returns-then-not-is_still-clause-does
returns-then-not-is_still-clause-does g c =
    Waits ExecuteOperation refl (runs_of g.F.Flash.tells c.args.self.now c.args.store.now c.requires.runs (sym c.is_still.ensures ∙ c.if-not-is_still.true))

pub returns-in-Ok-clause-does : goal.returns-in-Ok-clause-does
returns-in-Ok-clause-does g c =
    let none : c.args.self.now.running ≡ Nothing = still_nothing c.args.self.now (sym c.is_still.ensures ∙ c.if-not-is_still.false) in
    subst (λ (s : DeviceState). Acts g.F.Flash.tells (seen c.args.self.now c.args.store.now) c.args.range.now (Some ExecuteOperation) s c.args.range.now)
    (started_is c.start.new.self c.in-Ok.running c.start.new.store c.start.ensures.nothing)
    (Executes _ (still_of g.F.Flash.tells c.args.self.now c.args.store.now c.requires.runs none) c.in-Ok.ensures.starts)

pub returns-in-Err-clause-does : goal.returns-in-Err-clause-does
returns-in-Err-clause-does g c =
    let none : c.args.self.now.running ≡ Nothing = still_nothing c.args.self.now (sym c.is_still.ensures ∙ c.if-not-is_still.false) in
    Executes _ (still_of g.F.Flash.tells c.args.self.now c.args.store.now c.requires.runs none) c.in-Err.ensures.starts

pub returns-in-Err-clause-runs : goal.returns-in-Err-clause-runs
returns-in-Err-clause-runs g c =
    subst (λ (w : Running). Runs g.F.Flash.tells w c.start.new.self.offset c.start.new.store) (sym c.start.ensures.nothing) c.in-Err.ensures.runs
