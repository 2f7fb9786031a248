use Rattle.std.proofs.Common.{ap, ◌∙◌}
use Rattle.erst_machine.specs.MachineState.{MachineState}
use Rattle.apei_cli.specs.Orders.{order_of}
use Rattle.apei_cli.proofs.WholeLemmas.{booted_in_vain, is_first}
use Rattle.apei_cli.proofs.boot.boot_player.Goals as goal

pub returns-in_default-clause-refused : goal.returns-in_default-clause-refused
returns-in_default-clause-refused g c =
    booted_in_vain g.F.Flash.tells (order_of c.args.plan.now) (g.F.Flash.state c.args.flash) (g.F.Flash.state c.into_flash.result) c.in-Ok.machine c.in-Ok.ensures.booted
    (c.into_flash.ensures ∙ ap (λ (m : MachineState). m.device.store.flash) c.in_default.ensures.kept)

pub returns-in-Err-new-clause-refused : goal.returns-in-Err-new-clause-refused
returns-in-Err-new-clause-refused g c =
    booted_in_vain g.F.Flash.tells (order_of c.args.plan.now) (g.F.Flash.state c.args.flash) (g.F.Flash.state c.into_flash-in-Err-new.result) c.in-Ok.machine c.in-Ok.ensures.booted
    (c.into_flash-in-Err-new.ensures ∙ ap (λ (m : MachineState). m.device.store.flash) (c.in-Err-new.ensures.machine_back.0 ∙ c.in-Ok-own_client.ensures.machine))

pub returns-in-Ok-new-clause-booted : goal.returns-in-Ok-new-clause-booted
returns-in-Ok-new-clause-booted g c = record {
  booted = c.in-Ok.machine;
  boot = c.in-Ok.ensures.booted;
  player_is = is_first (order_of c.args.plan.now) c.in-Ok.machine _ _ _ c.in-Ok-new.ensures.state c.in-Ok-own_client.ensures.client c.in-Ok-own_client.ensures.machine;
}
