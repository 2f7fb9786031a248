use Rattle.std.proofs.Common.{◌∙◌, ap, refl, arith}
use Rattle.base_model.specs.Bytes.{zeros}
use Rattle.base_model.specs.Layout.{reach_of}
use Rattle.erst_port.proofs.OpenLemmas.{is_port}
use Rattle.erst_port.proofs.port.Port.behind.Goals as goal

pub are_apart-requires : goal.are_apart-requires
unfolding reach_of
are_apart-requires c = let is = c.reach.ensures in omega arith

pub invariant_of-result : goal.invariant_of-result
invariant_of-result c =
    is_port c.args.geometry c.in-Ok-device_of.device c.in-Ok-blank.range.items c.in-Ok.table.items c.args.addresses c.args.origin c.reach.result c.reach-2.result
    c.in-Ok-device_of.ensures.opened c.reach.ensures c.reach-2.ensures c.in-Ok-blank.ensures c.in-Ok.ensures.size c.in-Ok.ensures.bytes
    (let value = c.are_apart.ensures.value in let test = c.if-not-are_apart.false in cc) c.requires c.in-Ok-device_of.ensures.known

pub returns-clause-opened : goal.returns-clause-opened
returns-clause-opened c = record {
  store = c.in-Ok-device_of.ensures.opened;
  first = c.in-Ok-device_of.ensures.first;
  range = c.in-Ok-blank.ensures ∙ ap zeros c.reach-2.ensures;
  table = c.in-Ok.ensures.bytes;
  erst = c.in-Ok.ensures.erst;
  addresses_are = refl;
  origin_is = refl;
  made = refl;
  settled = c.in-Ok-device_of.ensures.settled;
  flash = c.in-Ok-device_of.ensures.flash;
  steps = c.in-Ok-device_of.ensures.steps;
  kept = c.in-Ok-device_of.ensures.kept;
}
