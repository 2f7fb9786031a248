use Rattle.std.proofs.Common.{subst, sym, arith}
use Rattle.erst_bridge.specs.declared.events.BridgeEvent.{BridgeEvent}
use Rattle.erst_bridge.specs.Turns.{BridgesMachine}
use Rattle.erst_bridge.proofs.CoverLemmas.{turns_covered}
use Rattle.erst_bridge.proofs.ShownLemmas.{IsBeyond, stored_stays, crash_stays}
use Rattle.erst_bridge.proofs.durability.a_stored_block_stays.Goals as goal

pub returns-clause-stored : goal.returns-clause-stored
returns-clause-stored g c = λ told turn by made id is steps end last.
    stored_stays g.F.Flash.tells turn.client turn.budget c.own_programs_run_through.ensures told turn.old by.own by.machine turn.bridge id turn.next turn.left turn.new
    (subst (λ (event : BridgeEvent). BridgesMachine g.F.Flash.tells turn.client turn.budget turn.old turn.bridge event turn.next turn.left turn.new) is made) steps end last

pub returns-clause-covered : goal.returns-clause-covered
returns-clause-covered g c = λ told run by are m.
    turns_covered g.F.Flash.tells c.own_programs_run_through.ensures told run.client run.budget run.bridge run.first run.steps run.next run.last m by.own by.machine are

pub returns-clause-stays : goal.returns-clause-stays
returns-clause-stays g c = λ told run by are id bytes is there.
    crash_stays g.F.Flash.tells run.client run.budget c.own_programs_run_through.ensures told run.bridge run.first run.steps run.next run.last id bytes by.own by.machine are
    (subst (IsBeyond id) (sym is) (omega arith)) there
