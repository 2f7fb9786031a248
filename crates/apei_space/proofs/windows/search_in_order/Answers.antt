use Rattle.apei_space.proofs.windows.search_in_order.Goals as goal

pub location_numbered-requires : goal.location_numbered-requires
location_numbered-requires c = (c.args.windows.now, record { few = c.requires.few; apart = c.requires.apart; are = c.requires.table })

pub returns-in-Some : goal.returns-in-Some
returns-in-Some c = c.in-Some.ensures.right c.args.windows.now (record { few = c.requires.few; apart = c.requires.apart; are = c.requires.table })
