use Rattle.std.proofs.Common.{◌≡◌, take, vec_len}
use Rattle.erst_bridge.specs.Bridges.{Off}
use Rattle.apei_notify.specs.Chains.{members_of}
use Rattle.apei_script.specs.Players.{budget_of}
use Rattle.apei_script.specs.Sessions.{state_of, SameClients}
use Rattle.apei_script.proofs.BridgeLemmas.{BridgedSoFar}
use Rattle.apei_script.proofs.bridged.bridged_turns.Given as goal

abbrev pub invariant-turning : goal.invariant-turning
invariant-turning g l = record {
  so : BridgedSoFar (λ b. (goal.Listener-dyn g (b.vtable, b.value)).hearing b.value) g.F.Flash.tells g.O.Sink.tells l.fn.session.own
      (budget_of (state_of l.fn.session)) l.fn.session.bridge l.fn.session.machine
      (members_of l.fn.chain) (g.O.Sink.written l.fn.out) l.session.bridge l.session.machine (members_of l.chain) (take l.letter-index l.letters) l.session.buffers.made.items (g.O.Sink.written l.out);
  count : vec_len l.session.buffers.made ≡ l.letter-index;
  on : l.session.bridge ≡ Off → ⊥;
  clients : SameClients l.fn.session l.session;
  faults : g.O.Sink.faults l.out ≡ g.O.Sink.faults l.fn.out;
}
