use Rattle.std.proofs.Common.{subst, sym}
use Rattle.ghes_ack.specs.Windows.{HasAddressed}
use Rattle.ghes_hub.proofs.PlainMemory.{HasPlain-with_address}
use Rattle.ghes_ack.proofs.AddressLemmas.{has_block}
use Rattle.ghes_hub.proofs.PlainStart.{started_is}
use Rattle.ghes_hub.proofs.plain.map.PlainMap.begin.Goals as goal

pub begin-requires : goal.begin-requires
begin-requires c =
    has_block c.args.self.now.status c.args.self.now.window c.write_address.new.ram (subst (HasAddressed c.args.self.now.status c.args.self.now.window)
    (sym c.write_address.ensures) (HasPlain-with_address c.args.self.now c.args.ram.now c.requires))

pub returns : goal.returns
returns c = started_is c.args.self.now c.args.ram.now c.write_address.new.ram c.begin.new.ram c.requires c.write_address.ensures c.begin.ensures
