use Rattle.std.proofs.Common.{◌≡◌, ℕ, ◌<◌, ◌^◌, sym, subst, rules}
use Rattle.apei_tables.specs.Access.{bits}
use Rattle.ghes_ack.specs.Maps.{IsSet, ack_read, with_ack, ack_mask}
use Rattle.ghes_ack.proofs.MemoryLemmas.{set_bits}
use Rattle.std.specs.Prelude.{bit_or}
use Rattle.ghes_ack.proofs.maps.HandoverMap.set_ack.Goals as goal

pub returns-clause-set : goal.returns-clause-set
returns-clause-set c =
    let m : c.write_ack.new.ram ≡ with_ack c.args.self.now c.args.ram.now (bit_or (ack_read c.args.self.now c.args.ram.now) (ack_mask c.args.self.now)) = search rules in
    let small : ack_read c.args.self.now c.args.ram.now < 2 ^ bits c.args.self.now.ack.access = subst (λ (x : ℕ). x < 2 ^ bits c.args.self.now.ack.access)
    c.read_ack.ensures.value c.read_ack.ensures.small in
    λ sound. subst (IsSet c.args.self.now) (sym m) (set_bits c.args.self.now c.args.ram.now c.requires small sound)
