use Rattle.record_store.proofs.IndexLemmas.{IsListOf-opened}
use Rattle.record_store.proofs.index.record_opened.Goals as goal

pub returns-clause-list : goal.returns-clause-list
returns-clause-list c entry other e has of first list =
    IsListOf-opened c.args.geometry.now.slots c.args.geometry.now.slot_size c.args.parts c.args.found.now c.list_opened.new.found c.take_free.new.found c.args.id c.args.place entry other e
    c.requires.within.slot has of first c.requires.listing c.list_opened.ensures.listed c.list_opened.ensures.free c.take_free.ensures.ids c.take_free.ensures.places
    c.take_free.ensures.free list
