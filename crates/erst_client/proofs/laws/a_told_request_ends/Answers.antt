use Rattle.erst_entries.specs.Actions.{code_of}
use Rattle.erst_entries.specs.Programs.{program_of}
use Rattle.erst_interp.proofs.BoundLemmas.{bound_first, bound_comes}
use Rattle.erst_client.proofs.BoundLemmas.{run_lowers}
use Rattle.erst_client.proofs.laws.a_told_request_ends.Goals as goal

pub returns-clause-begins : goal.returns-clause-begins
returns-clause-begins c entries action steps = bound_first (program_of (code_of action) entries) steps

pub returns-clause-moves : goal.returns-clause-moves
returns-clause-moves c entries old at moves = bound_comes (program_of (code_of old.action) entries) 0 old.state old.left at.state at.left moves.1

pub returns-clause-answered : goal.returns-clause-answered
returns-clause-answered c at answer demand told = run_lowers at.state at.left answer demand told
