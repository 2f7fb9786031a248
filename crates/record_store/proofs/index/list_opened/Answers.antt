use Rattle.std.proofs.Common.{◌<◌, length, arith}
use Rattle.record_store.proofs.IndexLemmas.{IsListing-listed}
use Rattle.record_store.proofs.index.list_opened.Goals as goal

pub returns-then-len-slots-clause-listing : goal.returns-then-len-slots-clause-listing
returns-then-len-slots-clause-listing c =
    let long = c.args.found.now.ids.ok.0 in
    let short : length c.args.found.now.ids.items < c.args.geometry.now.slots = omega (arith, c.slots.ensures) in
    IsListing-listed c.args.geometry.now.slots c.args.geometry.now.slot_size c.args.found.now c.list_record.new.found c.args.id c.args.place
    short c.requires.within c.list_record.ensures.few c.list_record.ensures.only.room_of_ids c.list_record.ensures.only.room_of_places c.list_record.ensures.only.free c.list_record.ensures.only.looks
    c.list_record.ensures.listed c.requires.listing
