-- Two players that are equivalent, and what they play of the same lines.
use Rattle.std.specs.Prelude.{◌≡◌, List, map}
use Rattle.erst_machine.specs.MachineState.{records_of}
use Rattle.erst_commands.specs.Equivalence.{EquivalentMachines}
use Rattle.apei_script.specs.Players.{PlayerState}
use Rattle.script_laws.specs.History.{Played, text_of}

-- their machines are equivalent, and they have the same clients, the same steps and the same bridge
pub record EquivalentPlayers (one also : PlayerState) : Type 0 where
  pub machines : EquivalentMachines one.machine also.machine
  pub own : one.own ≡ also.own
  pub other : one.other ≡ also.other
  pub steps : one.steps ≡ also.steps
  pub bridges : one.bridge ≡ also.bridge

-- two histories: the same replies at the same flash steps, the same blocks, and the same records at the end
pub record PlayedAlike (first second : List Played) (one_last also_last : PlayerState) : Type 0 where
  pub said : map (λ (played : Played). played.said) first ≡ map (λ (played : Played). played.said) second
  pub text : text_of first ≡ text_of second
  pub blocks : map (λ (played : Played). played.blocks) first ≡ map (λ (played : Played). played.blocks) second
  pub players : EquivalentPlayers one_last also_last
  pub records : records_of one_last.machine ≡ records_of also_last.machine
