use Rattle.std.proofs.Common.{◌≡◌, ◌≤◌, ◌++◌, length, take, ◌+◌, ◌*◌}
use Rattle.std.specs.Prelude.{codes}
use Rattle.ghes_ack.specs.declared.events.Event.{Event}
use Rattle.std.specs.List.{flat_map}
use Rattle.apei_script.specs.Words.{word_of}
use Rattle.apei_script.proofs.events.say_turns.Given as goal

abbrev pub invariant-saying : goal.invariant-saying
invariant-saying l = record {
  text : l.reply ≡ codes "turns" ++ flat_map (λ (event : Event). codes " " ++ word_of event) (take l.event-index l.events);
  short : length l.reply ≤ 5 + 8 * l.event-index;
}
