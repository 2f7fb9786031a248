use Rattle.erst_device.specs.DeviceState.{records}
use Rattle.port_laws.proofs.ListedLemmas.{told_of, listed_all, listed_full, in_order}
use Rattle.port_laws.proofs.commands.a_listing_has_all_records.Goals as goal

pub returns-clause-all : goal.returns-clause-all
returns-clause-all c addresses steps room first ids last lists =
    let are = c.a_listing_has_all.ensures.all (told_of (records first.port.device)) (in_order first) room first.port.device.cursor ids last.port.device.cursor
    (listed_all addresses steps room first ids last lists) in
    record { are_stored = are.are_told; all = are.all }

pub returns-clause-once : goal.returns-clause-once
returns-clause-once c addresses steps room first ids last lists =
    c.a_listing_has_all.ensures.distinct (told_of (records first.port.device)) room first.port.device.cursor _ ids last.port.device.cursor (listed_all addresses steps room first ids last lists)

pub returns-clause-full : goal.returns-clause-full
returns-clause-full c addresses steps room first ids last lists =
    c.a_listing_has_all.ensures.full (told_of (records first.port.device)) room first.port.device.cursor ids last.port.device.cursor (listed_full addresses steps room first ids last lists)
