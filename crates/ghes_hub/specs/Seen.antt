-- What is seen of a hub: its sources with their memory, and the listeners of each.
use Rattle.std.specs.Prelude.{map}
use Rattle.std.specs.declared.alloc.Global.{Global}
use Rattle.std.specs.declared.dyn_box.DynBox.{DynBox}
use Rattle.apei_notify.specs.Chains.{members_of}
use Rattle.ghes_hub.specs.declared.hub.Hub.{Hub}
use Rattle.ghes_hub.specs.Hubs.{HubState}

abbrev pub seen : {X : Type 0} {H : X → Type 0} → Hub X H → HubState (DynBox X Global H)
seen hub = record { sources = hub.sources; chains = map members_of hub.chains.items }
