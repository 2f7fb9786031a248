use Rattle.std.proofs.Common.{◌-◌, ap, ◌∙◌}
use Rattle.record_store.proofs.IndexLemmas.{IsListOf-cleared}
use Rattle.record_store.proofs.index.record_cleared.Goals as goal

pub returns-clause-list : goal.returns-clause-list
returns-clause-list c entry other j lost low has key counted only list =
    IsListOf-cleared c.args.geometry.now.slots c.args.geometry.now.slot_size (c.args.geometry.now.slot_size - 64) c.in-Ok.at c.args.found.now
    c.free_record.new.found c.args.id j c.remove-place.result entry other lost
    low has key counted only c.requires.listing.index (rw (← c.deref.ensures.value) c.in-Ok.ensures.0) (rw (← c.deref.ensures.value) c.in-Ok.ensures.1) c.remove-place.ensures.value
    (ap (λ v. v.items) c.free_record.ensures.ids ∙ c.remove.ensures.items) (ap (λ v. v.items) c.free_record.ensures.places ∙ c.remove-place.ensures.items)
    c.free_record.ensures.free c.free_record.ensures.gains list
