use Rattle.std.proofs.Common.{arith}
use Rattle.base_model.proofs.BytesLemmas.{AreBytes-each}
use Rattle.ghes_ack.proofs.EffectLemmas.{published_in_order}
use Rattle.ghes_ack.proofs.ends.MayWrite.publish.Goals as goal

pub returns-clause-memory : goal.returns-clause-memory
returns-clause-memory c =
    (published_in_order c.args.map.now c.args.ram.now c.publish.new.space c.args.block.now c.requires.windows c.requires.head
    (AreBytes-each c.args.block.now (λ k. omega (arith, c.type_inv.block k))) c.publish.ensures).memory

pub returns-clause-clear : goal.returns-clause-clear
returns-clause-clear c =
    (published_in_order c.args.map.now c.args.ram.now c.publish.new.space c.args.block.now c.requires.windows c.requires.head
    (AreBytes-each c.args.block.now (λ k. omega (arith, c.type_inv.block k))) c.publish.ensures).clear
