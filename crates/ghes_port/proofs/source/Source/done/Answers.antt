use Rattle.std.proofs.Common.{sym, subst}
use Rattle.ghes_port.specs.declared.stages.Stage.{Stage}
use Rattle.ghes_port.specs.Queues.{blocks_of}
use Rattle.ghes_port.specs.Sound.{IsReached}
use Rattle.ghes_port.proofs.SourceLemmas.{reached_next, passes}
use Rattle.ghes_port.proofs.source.Source.done.Goals as goal

pub invariant_of-self-in_default : goal.invariant_of-self-in_default
invariant_of-self-in_default c =
    let source = c.self.invariant.0 in
    let map = c.self.inside.map in
    let stage = c.self.inside.stage in
    let queue = blocks_of c.self.inside.queue in
    let next = reached_next map queue stage c.args.value (passes stage c.in_default.not-Fill c.in_default.not-Await) source.good source.reached in
    (record { placed = source.placed; good = source.good; reached = subst (λ (s : Stage). IsReached map queue s) (sym (c.next_stage-self-inside.ensures queue)) next }, c.self.invariant.1)
