use Rattle.std.proofs.Common.{◌≡◌, sym, subst, rules}
use Rattle.ghes_ack.specs.Maps.{IsSet, ack_read, with_ack, acknowledged}
use Rattle.ghes_ack.proofs.MemoryLemmas.{acknowledged_bits}
use Rattle.ghes_ack.proofs.maps.HandoverMap.acknowledge.Goals as goal

pub returns-clause-set : goal.returns-clause-set
returns-clause-set c =
    let m : c.change_ack.new.ram ≡ with_ack c.args.self.now c.args.ram.now (acknowledged c.args.self.now (ack_read c.args.self.now c.args.ram.now)) = search rules in
    λ sound. subst (IsSet c.args.self.now) (sym m) (acknowledged_bits c.args.self.now c.args.ram.now c.requires c.change_ack.ensures.small sound)
