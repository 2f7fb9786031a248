use Rattle.std.proofs.Common.{◌≡◌, ◌≤◌, length, take, map}
use Rattle.std.specs.Prelude.{IfSome, slice_get}
use Rattle.ghes_hub.specs.Seen.{seen}
use Rattle.hub_script.specs.Replies.{words_of_heard}
use Rattle.script_text.specs.Shown.{AreShown}
use Rattle.hub_script.proofs.heard.show_heard.Given as goal

abbrev pub invariant-hearing : goal.invariant-hearing
invariant-hearing g l = record {
  so : IfSome (slice_get (seen l.fn.hub).chains l.source) (λ members. AreShown g.O.Sink.tells (g.O.Sink.written l.fn.out) (g.O.Sink.written l.out) l.reply
      (words_of_heard (map (λ b. ((goal.Listener-dyn g (b.vtable, b.value)).hearing b.value).count) (take l.at members))));
  short : length l.reply ≤ 16405;
  faults : g.O.Sink.faults l.out ≡ g.O.Sink.faults l.fn.out;
}
