use Rattle.erst_bridge.proofs.CauseLemmas.{too_long, never_too_long, kept_hardware, kept_through, out_is, is_out}
use Rattle.erst_bridge.proofs.durability.a_kept_block_has_its_cause.Goals as goal

pub returns-clause-too_long : goal.returns-clause-too_long
returns-clause-too_long g c = λ turn. too_long g.F.Flash.tells turn.client turn.budget turn.old turn.bridge turn.event turn.next turn.left turn.new

pub returns-clause-fits : goal.returns-clause-fits
returns-clause-fits g c = λ told turn by made.
    never_too_long g.F.Flash.tells turn.client turn.budget turn.old turn.bridge turn.event turn.next turn.left turn.new made c.own_programs_run_through.ensures by.own told by.machine

pub returns-clause-hardware : goal.returns-clause-hardware
returns-clause-hardware g c = λ turn made own.
    kept_hardware g.F.Flash.tells turn.client turn.budget turn.old turn.bridge turn.event turn.next turn.left turn.new made c.own_programs_run_through.ensures own

pub returns-clause-enough : goal.returns-clause-enough
returns-clause-enough g c = λ turn by made.
    kept_through g.F.Flash.tells turn.client turn.budget turn.old turn.bridge turn.event turn.next turn.left turn.new made c.own_programs_run_through.ensures by.own by.machine

pub returns-clause-out : goal.returns-clause-out
returns-clause-out g c = λ turn. out_is g.F.Flash.tells turn.client turn.budget turn.old turn.bridge turn.event turn.next turn.left turn.new

pub returns-clause-last : goal.returns-clause-last
returns-clause-last g c = λ turn. is_out g.F.Flash.tells turn.client turn.budget turn.old turn.bridge turn.event turn.next turn.left turn.new
