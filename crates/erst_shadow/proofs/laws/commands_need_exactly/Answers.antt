use Rattle.std.proofs.Common.{arith}
use Rattle.erst_client.specs.Sequences.{write_requests, clear_requests}
use Rattle.erst_commands.proofs.StartLemmas.{needs-write, needs-clear}
use Rattle.erst_shadow.proofs.NeedLemmas.{change_needs, taken_needs, change_enough, dummy_needs, dummy_enough, read_needs, read_enough}
use Rattle.erst_shadow.proofs.laws.commands_need_exactly.Goals as goal

pub returns-clause-write : goal.returns-clause-write
returns-clause-write c = λ first id pieces command run change. record {
  taken = taken_needs pieces first run.last id command write_requests run.budget run.answer run.left needs-write change;
  took = change_needs pieces first run.last id command write_requests run.budget run.answer run.left needs-write change;
  enough = change_enough pieces first run.last id command write_requests run.budget run.answer run.left needs-write change;
}

pub returns-clause-clear : goal.returns-clause-clear
returns-clause-clear c = λ first id pieces command run change. record {
  taken = taken_needs pieces first run.last id command (clear_requests id) run.budget run.answer run.left (needs-clear id) change;
  took = change_needs pieces first run.last id command (clear_requests id) run.budget run.answer run.left (needs-clear id) change;
  enough = change_enough pieces first run.last id command (clear_requests id) run.budget run.answer run.left (needs-clear id) change;
}

pub returns-clause-dummy : goal.returns-clause-dummy
returns-clause-dummy c = λ first pieces run dummy. record {
  took = λ through. omega (arith, dummy_needs pieces first run.last run.budget run.answer run.left dummy through);
  enough = λ enough. dummy_enough pieces first run.last run.budget run.answer run.left dummy (omega (arith, enough));
}

pub returns-clause-read : goal.returns-clause-read
returns-clause-read c = λ first pieces id run read. record {
  took = λ through. omega (arith, read_needs pieces first run.last id run.budget run.answer run.left read through);
  enough = λ enough. read_enough pieces first run.last id run.budget run.answer run.left read (omega (arith, enough));
}
