use Rattle.std.proofs.Common.{Option, ap, subst, ◌∙◌}
use Rattle.erst_entries.specs.declared.actions.Action.{Action}
use Rattle.erst_entries.specs.Actions.{action_of}
use Rattle.erst_device.specs.DeviceState.{DeviceState}
use Rattle.erst_device.specs.Actions.{Acts, Ignores}
use Rattle.erst_device.specs.Effects.{Effect}
use Rattle.erst_device.specs.Registers.{seen}
use Rattle.erst_device.proofs.EffectLemmas.{effect_of}
use Rattle.erst_device.proofs.device.Device.action.Goals as goal

pub returns-in-Some-clause-effect : goal.returns-in-Some-clause-effect
returns-in-Some-clause-effect g c =
    subst (λ (s : DeviceState). Effect g.F.Flash.tells s c.args.range.now (action_of c.args.code) (seen c.act.new.self c.act.new.store)) c.self.view_is
    (subst (λ (o : Option Action). Effect g.F.Flash.tells (seen c.self.inside.registers c.self.inside.store) c.args.range.now o
    (seen c.act.new.self c.act.new.store)) (c.in-Some.ensures ∙ ap action_of c.from.ensures)
    (effect_of _ _ _ _ _ _ c.act.ensures.does))

pub returns-in_default-clause-acts : goal.returns-in_default-clause-acts
returns-in_default-clause-acts g c =
    subst (λ (o : Option Action). Acts g.F.Flash.tells c.args.self.now c.args.range.now o c.args.self.now c.args.range.now) (c.in_default.ensures ∙ ap action_of c.from.ensures) Ignores

pub returns-in_default-clause-effect : goal.returns-in_default-clause-effect
returns-in_default-clause-effect g c =
    subst (λ (o : Option Action). Effect g.F.Flash.tells c.args.self.now c.args.range.now o c.args.self.now) (c.in_default.ensures ∙ ap action_of c.from.ensures)
    (effect_of _ c.args.self.now c.args.range.now _ _ c.args.range.now Ignores)
