use Rattle.std.proofs.Common.{refl, subst, length, map}
use Rattle.apei_notify.specs.Chains.{members_of}
use Rattle.ghes_hub.specs.Opens.{IsReady}
use Rattle.ghes_hub.proofs.OpenLemmas.{opened}
use Rattle.ghes_hub.proofs.hub.Hub.open.Goals as goal

pub returns-in-Ok-clause-opened : goal.returns-in-Ok-clause-opened
returns-in-Ok-clause-opened g c =
    opened c.args.hest.now c.in-Ok.ready.sources c.in-Ok.ready.sources c.args.listeners.items (length c.in-Ok.ready.lists.items) (length c.args.listeners.items)
    c.deal.new.lists.items (map members_of c.chains.new.chains.items)
    (subst (λ sources. IsReady sources c.in-Ok.ready.sources) c.sources.ensures c.in-Ok.ensures.opened) refl c.in-Ok.ensures.lists.count c.deal.ensures c.chains.ensures
