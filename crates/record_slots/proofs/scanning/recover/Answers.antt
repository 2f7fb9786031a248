use Rattle.std.proofs.Common.{◌≤◌, ◌∙◌, arith}
use Rattle.record_slots.proofs.SettledLemmas.{KeepsRecords-same, KillsBelow-same, StaysNearly-same, AreSlots-below, IsRecovered-settled}
use Rattle.record_slots.specs.Recovered.{NoKill}
use Rattle.record_slots.proofs.scanning.recover.Goals as goal

pub returns-in_err-look_at_slots-clause-crash : goal.returns-in_err-look_at_slots-clause-crash
returns-in_err-look_at_slots-clause-crash g c tells =
    KeepsRecords-same c.args.geometry.now.slot_size c.args.geometry.now.slots (g.F.Flash.state c.args.flash.now).told (g.F.Flash.state c.look_at_slots.new.flash).told
    (c.look_at_slots.ensures.stays.told tells)

pub returns-in_err-look_at_slots-clause-order : goal.returns-in_err-look_at_slots-clause-order
returns-in_err-look_at_slots-clause-order g c tells =
    KillsBelow-same c.args.geometry.now.slot_size c.args.geometry.now.slots (g.F.Flash.state c.args.flash.now).told
    (g.F.Flash.state c.look_at_slots.new.flash).told (g.F.Flash.state c.look_at_slots.new.flash).told
    (c.look_at_slots.ensures.stays.told tells) (NoKill c.args.geometry.now.slots)

pub returns-in_err-settle_slots-clause-order : goal.returns-in_err-settle_slots-clause-order
returns-in_err-settle_slots-clause-order g c tells =
    KillsBelow-same c.args.geometry.now.slot_size c.args.geometry.now.slots (g.F.Flash.state c.args.flash.now).told
    (g.F.Flash.state c.look_at_slots.new.flash).told (g.F.Flash.state c.settle_slots.new.flash).told
    (c.look_at_slots.ensures.stays.told tells) (c.settle_slots.ensures.order tells)

pub returns-clause-order : goal.returns-clause-order
returns-clause-order g c tells =
    KillsBelow-same c.args.geometry.now.slot_size c.args.geometry.now.slots (g.F.Flash.state c.args.flash.now).told
    (g.F.Flash.state c.look_at_slots.new.flash).told (g.F.Flash.state c.settle_slots.new.flash).told
    (c.look_at_slots.ensures.stays.told tells) (c.settle_slots.ensures.order tells)

pub returns-in_err-look_at_slots-clause-nearly : goal.returns-in_err-look_at_slots-clause-nearly
returns-in_err-look_at_slots-clause-nearly g c tells =
    StaysNearly-same c.args.geometry.now.slot_size c.args.geometry.now.slots (g.F.Flash.state c.args.flash.now).told (g.F.Flash.state c.look_at_slots.new.flash).told
    (c.look_at_slots.ensures.stays.told tells)

pub returns-clause-recovered : goal.returns-clause-recovered
returns-clause-recovered g c tells =
    let least : 512 ≤ c.args.geometry.now.slot_size = c.args.geometry.now.least_slot in
    IsRecovered-settled c.args.geometry.now.slot_size c.args.geometry.now.slots (g.F.Flash.state c.args.flash.now) (g.F.Flash.state c.look_at_slots.new.flash)
    (g.F.Flash.state c.settle_slots.new.flash)
    c.list_records.new.found c.list_free.new.found (omega arith) (g.met.F.Flash.sized c.args.flash.now tells ∙ c.requires.fits.size)
    (g.met.F.Flash.sized c.settle_slots.new.flash tells ∙ c.settle_slots.ensures.stays.size ∙ c.look_at_slots.ensures.stays.size ∙ c.requires.fits.size)
    (c.look_at_slots.ensures.stays.told tells) c.look_at_slots.ensures.stays.steps
    c.list_free.ensures.ids c.list_free.ensures.places c.list_records.ensures.index.paired c.list_free.ensures.free
    (c.list_records.ensures.listed (g.F.Flash.state c.args.flash.now).told.image (g.met.F.Flash.sized c.args.flash.now tells ∙ c.requires.fits.size)
    (c.in_ok-look_at_slots.ensures.seen tells))
    (c.in_ok-settle_slots.ensures.settled tells) (c.in_ok-settle_slots.ensures.counted tells)

pub returns-clause-free : goal.returns-clause-free
returns-clause-free g c = AreSlots-below _ c.args.geometry.now.slots c.list_free.new.found.free.items c.list_free.ensures.free
