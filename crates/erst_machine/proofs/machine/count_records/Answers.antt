use Rattle.std.proofs.Common.{◌≡◌, ◌≤◌, ap, ◌∙◌, arith}
use Rattle.std.specs.FinMap.{len}
use Rattle.erst_entries.specs.Actions.{action_of}
use Rattle.erst_device.specs.DeviceState.{records}
use Rattle.erst_machine.proofs.CountLemmas.{few_records, told_count}
use Rattle.erst_machine.proofs.machine.count_records.Goals as goal

pub returns-clause-count : goal.returns-clause-count
returns-clause-count g c told =
    let value : c.value-count.result ≡ len (records c.args.device.now) =
    c.value-count.ensures ∙ told_count g.F.Flash.tells c.args.device.now c.action.new.self c.args.range.now c.action.new.range (action_of c.from.result)
    (ap action_of c.from.ensures ∙ c.code.ensures.back) c.requires.ready c.action.ensures.acts told in
    let few : len (records c.args.device.now) ≤ 1024 = few_records c.args.device.now.store in
    omega arith
