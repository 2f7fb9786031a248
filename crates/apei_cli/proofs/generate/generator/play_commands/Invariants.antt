use Rattle.std.proofs.Common.{◌≡◌}
use Rattle.apei_notify.specs.Chains.{members_of}
use Rattle.apei_script.specs.Sessions.{state_of}
use Rattle.apei_cli.proofs.GenerateLemmas.{SoFar}
use Rattle.apei_cli.proofs.generate.generator.play_commands.Given as goal

abbrev pub invariant-loop : goal.invariant-loop
invariant-loop g l = record {
  so_far : SoFar g.F.Flash.tells (state_of l.fn.player.session) l.fn.seed l.counter (state_of l.player.session) l.number l.tally;
  listeners : members_of l.player.chain ≡ members_of l.fn.player.chain;
}
