use Rattle.std.proofs.Common.{ℕ, Some, refl, sym, ap, ◌∙◌}
use Rattle.erst_entries.specs.declared.actions.Action.TheVariants.{SetRecordOffset, SetRecordIdentifier, GetCommandStatus, GetErrorLogAddressRange}
use Rattle.erst_entries.specs.declared.actions.Action.TheVariants.{GetErrorLogAddressRangeLength, GetErrorLogAddressRangeAttributes, GetExecuteOperationTimings}
use Rattle.erst_device.specs.Actions.{SetsOffset, SetsId, Waits}
use Rattle.erst_device.specs.Registers.{seen}
use Rattle.erst_device.specs.Timings.{timings_of}
use Rattle.erst_device.proofs.ActionLemmas.{still_of, still_nothing, runs_of, of_action, tells_number}
use Rattle.erst_device.proofs.registers.Registers.act.Goals as goal

pub returns-then-is_still-clause-does : goal.returns-then-is_still-clause-does
returns-then-is_still-clause-does g c = of_action g.F.Flash.tells _ _ _ _ c.args.action SetRecordOffset c.in-SetRecordOffset.is
    (SetsOffset (still_of g.F.Flash.tells c.args.self.now c.args.store.now c.requires.runs
    (still_nothing c.args.self.now (sym c.is_still.ensures ∙ c.if-is_still.true))))

pub returns-else-is_still-clause-does : goal.returns-else-is_still-clause-does
returns-else-is_still-clause-does g c = of_action g.F.Flash.tells _ _ _ _ c.args.action SetRecordOffset c.in-SetRecordOffset.is
    (Waits SetRecordOffset refl (runs_of g.F.Flash.tells c.args.self.now c.args.store.now c.requires.runs (sym c.is_still.ensures ∙ c.if-is_still.false)))

pub returns-then-is_still-2-clause-does : goal.returns-then-is_still-2-clause-does
returns-then-is_still-2-clause-does g c = of_action g.F.Flash.tells _ _ _ _ c.args.action SetRecordIdentifier c.in-SetRecordIdentifier.is
    (SetsId (still_of g.F.Flash.tells c.args.self.now c.args.store.now c.requires.runs
    (still_nothing c.args.self.now (sym c.is_still-in-SetRecordIdentifier.ensures ∙ c.if-is_still-2.true))))

pub returns-else-is_still-2-clause-does : goal.returns-else-is_still-2-clause-does
returns-else-is_still-2-clause-does g c = of_action g.F.Flash.tells _ _ _ _ c.args.action SetRecordIdentifier c.in-SetRecordIdentifier.is
    (Waits SetRecordIdentifier refl (runs_of g.F.Flash.tells c.args.self.now c.args.store.now c.requires.runs (sym c.is_still-in-SetRecordIdentifier.ensures
    ∙ c.if-is_still-2.false)))

pub returns-in-GetCommandStatus-clause-does : goal.returns-in-GetCommandStatus-clause-does
returns-in-GetCommandStatus-clause-does g c = tells_number g.F.Flash.tells (seen c.args.self.now c.args.store.now) c.args.range.now c.args.action
    GetCommandStatus _ c.in-GetCommandStatus.is (ap (λ (n : ℕ). Some n) (sym c.number-self.ensures))

pub returns-in-GetErrorLogAddressRange-clause-does : goal.returns-in-GetErrorLogAddressRange-clause-does
returns-in-GetErrorLogAddressRange-clause-does g c = tells_number g.F.Flash.tells (seen c.args.self.now c.args.store.now) c.args.range.now c.args.action
    GetErrorLogAddressRange _ c.in-GetErrorLogAddressRange.is refl

pub returns-in-GetErrorLogAddressRangeLength-clause-does : goal.returns-in-GetErrorLogAddressRangeLength-clause-does
returns-in-GetErrorLogAddressRangeLength-clause-does g c = tells_number g.F.Flash.tells (seen c.args.self.now c.args.store.now) c.args.range.now c.args.action
    GetErrorLogAddressRangeLength _ c.in-GetErrorLogAddressRangeLength.is (ap (λ (n : ℕ). Some n) (sym c.requires.room))

pub returns-in-GetErrorLogAddressRangeAttributes-clause-does : goal.returns-in-GetErrorLogAddressRangeAttributes-clause-does
returns-in-GetErrorLogAddressRangeAttributes-clause-does g c = tells_number g.F.Flash.tells (seen c.args.self.now c.args.store.now) c.args.range.now
    c.args.action GetErrorLogAddressRangeAttributes _ c.in-GetErrorLogAddressRangeAttributes.is refl

pub returns-in-GetExecuteOperationTimings-clause-does : goal.returns-in-GetExecuteOperationTimings-clause-does
returns-in-GetExecuteOperationTimings-clause-does g c = tells_number g.F.Flash.tells (seen c.args.self.now c.args.store.now) c.args.range.now c.args.action
    GetExecuteOperationTimings _ c.in-GetExecuteOperationTimings.is
    (ap (λ (n : ℕ). Some n) (sym (c.execution_timings-self.ensures ∙ ap timings_of c.geometry.ensures)))
