use Rattle.std.proofs.Common.{◌+◌, refl, ◌∙◌, arith}
use Rattle.base_model.proofs.PowerLemmas.{lit_none, lit_then}
use Rattle.record_slots.proofs.SettledLemmas.{KeepsRecords-none, KeepsRecords-then, StaysNearly-none, StaysNearly-then, CountsCopies-then, ChangesFew-then, ChangesFew-counted}
use Rattle.record_slots.specs.Recovered.{NoKill, Kill}
use Rattle.record_slots.proofs.settling.settle_slots.Goals as goal

pub loop-slot-init : goal.loop-slot-init
loop-slot-init g c = record {
  flash_size = refl;
  sector_size = refl;
  reads = refl;
  power = refl;
  lit = lit_none _;
  later = omega arith;
  faults = refl;
  crash = λ tells. KeepsRecords-none c.args.geometry.now.slot_size c.args.geometry.now.slots (g.F.Flash.state c.args.flash.now).told;
  nearly = λ tells. StaysNearly-none c.args.geometry.now.slot_size c.args.geometry.now.slots (g.F.Flash.state c.args.flash.now).told;
  order = λ tells. NoKill 0;
  counted = λ tells. refl;
  settled = λ tells. record { listed = c.requires.listed tells; settled = λ k h up. absurd (omega arith); rest = λ k h. refl };
}

pub returns-in_err-settle_slot-clause-crash : goal.returns-in_err-settle_slot-clause-crash
returns-in_err-settle_slot-clause-crash g c tells =
    KeepsRecords-then c.args.geometry.now.slot_size c.args.geometry.now.slots (g.F.Flash.state c.args.flash.now).told (g.F.Flash.state c.loop-slot.flash).told
    (g.F.Flash.state c.settle_slot.new.flash).told
    (c.loop-slot.invariant.crash tells) (c.settle_slot.ensures.crash tells)

pub returns-in_err-settle_slot-clause-nearly : goal.returns-in_err-settle_slot-clause-nearly
returns-in_err-settle_slot-clause-nearly g c tells =
    StaysNearly-then c.args.geometry.now.slot_size c.args.geometry.now.slots (g.F.Flash.state c.args.flash.now).told (g.F.Flash.state c.loop-slot.flash).told
    (g.F.Flash.state c.settle_slot.new.flash).told
    (c.loop-slot.invariant.nearly tells) (c.settle_slot.ensures.nearly tells)

pub returns-in_err-settle_slot-clause-changes : goal.returns-in_err-settle_slot-clause-changes
returns-in_err-settle_slot-clause-changes g c tells =
    ChangesFew-then c.args.geometry.now.slot_size c.args.geometry.now.slots (g.F.Flash.state c.args.flash.now) (g.F.Flash.state c.loop-slot.flash) (g.F.Flash.state c.settle_slot.new.flash)
    (c.loop-slot.invariant.counted tells) (c.in_err-settle_slot.ensures.failed tells)

pub returns-in_err-settle_slot-clause-order : goal.returns-in_err-settle_slot-clause-order
returns-in_err-settle_slot-clause-order g c tells =
    Kill c.loop-slot.slot c.args.geometry.now.slots _ _ (c.loop-slot.invariant.order tells) (omega arith) (c.settle_slot.ensures.change tells)

pub loop-slot-preserved : goal.loop-slot-preserved
loop-slot-preserved g c = record {
  flash_size = c.settle_slot.ensures.stays.size ∙ c.loop-slot.invariant.flash_size;
  sector_size = c.settle_slot.ensures.stays.sector_size ∙ c.loop-slot.invariant.sector_size;
  reads = c.settle_slot.ensures.stays.reads ∙ c.loop-slot.invariant.reads;
  power = c.in_ok-settle_slot.ensures.stays.same_power ∙ c.loop-slot.invariant.power;
  lit = lit_then _ _ _ c.loop-slot.invariant.power c.loop-slot.invariant.lit c.settle_slot.ensures.stays.lit;
  later = let first = c.loop-slot.invariant.later in let second = c.in_ok-settle_slot.ensures.stays.later in omega arith;
  faults = c.in_ok-settle_slot.ensures.stays.cause.ok ∙ c.loop-slot.invariant.faults;
  crash = λ tells.
      KeepsRecords-then c.args.geometry.now.slot_size c.args.geometry.now.slots (g.F.Flash.state c.args.flash.now).told (g.F.Flash.state c.loop-slot.flash).told
      (g.F.Flash.state c.settle_slot.new.flash).told
      (c.loop-slot.invariant.crash tells) (c.settle_slot.ensures.crash tells);
  nearly = λ tells.
      StaysNearly-then c.args.geometry.now.slot_size c.args.geometry.now.slots (g.F.Flash.state c.args.flash.now).told (g.F.Flash.state c.loop-slot.flash).told
      (g.F.Flash.state c.settle_slot.new.flash).told
      (c.loop-slot.invariant.nearly tells) (c.settle_slot.ensures.nearly tells);
  order = λ tells. Kill c.loop-slot.slot (c.loop-slot.slot + 1) _ _ (c.loop-slot.invariant.order tells) (omega arith) (c.settle_slot.ensures.change tells);
  counted = λ tells.
      CountsCopies-then c.args.geometry.now.slot_size c.args.geometry.now.slots (g.F.Flash.state c.args.flash.now) (g.F.Flash.state c.loop-slot.flash) (g.F.Flash.state c.settle_slot.new.flash)
      (c.loop-slot.invariant.counted tells) (c.in_ok-settle_slot.ensures.counted tells);
  settled = λ tells. c.in_ok-settle_slot.ensures.settled tells (g.F.Flash.state c.args.flash.now) (c.loop-slot.invariant.settled tells);
}

pub returns-clause-changes : goal.returns-clause-changes
returns-clause-changes g c tells = ChangesFew-counted c.args.geometry.now.slot_size c.args.geometry.now.slots (g.F.Flash.state c.args.flash.now)
    (g.F.Flash.state c.loop-slot.flash) (c.loop-slot.invariant.counted tells)
