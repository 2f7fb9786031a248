-- One line that was played.
use Rattle.std.proofs.Common.{◌≡◌, inl, inr, ℕ, ◌≤◌, true, List, [], ◌∷◌, refl, sym, ap, subst, ◌∙◌}
use Rattle.std.proofs.lemmas.Bool.{false≢true}
use Rattle.erst_client.specs.Commands.{ClientState}
use Rattle.erst_client.specs.Timings.{enough_steps}
use Rattle.erst_machine.specs.MachineState.{MachineState, IsMachine}
use Rattle.erst_commands.specs.OwnPrograms.{OwnProgramsRun}
use Rattle.erst_commands.specs.Attached.{own_client}
use Rattle.erst_shadow.specs.ShadowCommands.{shadow_client}
use Rattle.erst_bridge.specs.Bridges.{BridgeState}
use Rattle.erst_bridge.specs.Turns.{Step}
use Rattle.script_text.specs.ScriptGrammar.{Line, IsValid}
use Rattle.base_model.specs.Faults.{Rose}
use Rattle.apei_script.specs.Players.{PlayerState, client_of, budget_of, UsesOwn, UsesShadow, UsesEither, asker_of}
use Rattle.apei_script.specs.Words.{Reply, said_at}
use Rattle.apei_script.specs.Asked.{Asked}
use Rattle.apei_script.specs.Happened.{Happened, Once, Turn, IsListed}
use Rattle.apei_script.specs.Bridged.{ByBridge, Enters, StaysAs, BridgesTurns, changes_in}
use Rattle.apei_script.specs.Plays.{Plays, Blank, ByClient, GivenTable, OwnTable, GivenShadow, OnMachine, ByTheBridge, OnlyTells, Reset, Power, names_command, SaysHardware, LinePlayed, played_as}
use Rattle.apei_script.proofs.OneEvent.{once}
use Rattle.apei_script.proofs.LineLemmas.{line_happened}
use Rattle.apei_script.proofs.OwnClientLemmas.{no_command, asked_by_map, asked_cause}
use Rattle.apei_script.proofs.EnoughSteps.{SaysNeither, asked_through}
use Rattle.apei_script.proofs.ShadowClientLemmas.{shadow_by_map, shadow_cause, shadow_through}
use Rattle.apei_script.proofs.LeavesLemmas.{LineLeaves, mapped_leaves, shadow_mapped_leaves, line_leaves}
use Rattle.apei_script.proofs.BridgeLemmas.{line_turned}
use Rattle.std.specs.Prelude.{map}

-- the first of some replies
abbrev first_of : List (List ℕ) → List ℕ
first_of [] = []
first_of (words ∷ rest) = words

-- a command on records was asked of the client in use, and has one reply
record AsksClient (tells : Type 0) (old : PlayerState) (line : Line) (said : List Reply) (new : PlayerState) : Type 0 where
  words : List ℕ
  said_is : said ≡ said_at (changes_in new.machine) (words ∷ [])
  asked : Asked tells (asker_of (client_of old) (budget_of old)) old.machine line words new.machine

module _ (tells : Type 0) where
  no_happening : {Goal : Type 0} (old : MachineState) (line : Line) (said blocks : List (List ℕ)) (new : MachineState) → Happened tells old line said blocks new → names_command line ≡ true → Goal
  no_happening {Goal} old line said blocks new happened = elim happened as (λ line said blocks new happened. names_command line ≡ true → Goal) [
    | Once line event words new asks happens ↦ λ names. absurd (false≢true (sym (once line event words asks).unnamed ∙ names))
    | Turn letters events blocks new turns ↦ λ names. no_command names
    | IsListed blocks left laid ↦ λ names. no_command names
  ]

  no_bridging : {Goal : Type 0} (old : PlayerState) (line : Line) (said : List Reply) (blocks : List (List ℕ)) (steps : List Step) (next : BridgeState) (machine : MachineState)
      → ByBridge tells old line said blocks steps next machine → names_command line ≡ true → Goal
  no_bridging {Goal} old line said blocks steps next machine by = elim by as (λ line said blocks steps next machine by. names_command line ≡ true → Goal) [
    | Enters id none ↦ λ names. no_command names
    | StaysAs id why refuses ↦ λ names. no_command names
    | BridgesTurns letters steps next machine on are sides counted ↦ λ names. no_command names
  ]

  asks : (counts : List ℕ) (old : PlayerState) (line : Line) (said : List Reply) (blocks : List (List ℕ)) (steps : List Step) (new : PlayerState) →
      Plays tells counts old (played_as line said blocks steps new) → names_command line ≡ true →
      AsksClient tells old line said new
  asks counts old line said blocks steps new plays = elim plays as (λ one plays. names_command one.line ≡ true → AsksClient tells old one.line one.said one.left) [
    | Blank ↦ λ names. no_command names
    | ByClient line words machine commanded ↦ λ names. record { words = words; said_is = refl; asked = commanded.0 }
    | GivenTable hex bytes words machine other decoded gives ↦ λ names. no_command names
    | OwnTable ↦ λ names. no_command names
    | GivenShadow left machine attaches attached reaches ↦ λ names. no_command names
    | OnMachine line said blocks machine alone happened ↦ λ names. no_happening old.machine line said blocks machine happened names
    | ByTheBridge line said blocks steps next machine by ↦ λ names. no_bridging old line said blocks steps next machine by names
    | OnlyTells ↦ λ names. no_command names
    | Reset n machine warms ↦ λ names. no_command names
    | Power n machine powers ↦ λ names. no_command names
  ]

  by_own : (old : PlayerState) (line : Line) (said : List Reply) (new : PlayerState) → UsesOwn old → (asks : AsksClient tells old line said new) →
      Asked tells (asker_of (own_client old.machine) (budget_of old)) old.machine line asks.words new.machine
  by_own old line said new uses asks = subst (λ (client : ClientState). Asked tells (asker_of client (budget_of old)) old.machine line asks.words new.machine) uses asks.asked

  by_its_shadow : (old : PlayerState) (line : Line) (said : List Reply) (new : PlayerState) → UsesShadow old → (asks : AsksClient tells old line said new) →
      Asked tells (asker_of (shadow_client old.machine) (budget_of old)) old.machine line asks.words new.machine
  by_its_shadow old line said new uses asks = subst (λ (client : ClientState). Asked tells (asker_of client (budget_of old)) old.machine line asks.words new.machine) uses asks.asked

  module _ (own : OwnProgramsRun tells) (old : PlayerState) (line : Line) (said : List Reply) (new : PlayerState) (machine : IsMachine old.machine) where
    has_cause : UsesEither old → (asks : AsksClient tells old line said new) → names_command line ≡ true → SaysHardware said
        → Rose old.machine.device.store.flash.faults new.machine.device.store.flash.faults
    has_cause (inl uses) asks names says =
        asked_cause tells own (budget_of old) old.machine line asks.words new.machine (by_own old line said new uses asks) names
        (ap first_of (ap (λ said. map (λ (reply : Reply). reply.words) said) (sym asks.said_is) ∙ says))
    has_cause (inr uses) asks names says =
        shadow_cause tells own (budget_of old) old.machine machine line asks.words new.machine (by_its_shadow old line said new uses asks) names
        (ap first_of (ap (λ said. map (λ (reply : Reply). reply.words) said) (sym asks.said_is) ∙ says))

    says_neither : UsesEither old → (asks : AsksClient tells old line said new) → enough_steps (client_of old).timings ≤ budget_of old → IsValid line →
        names_command line ≡ true → SaysNeither asks.words
    says_neither (inl uses) asks many valid names =
        asked_through tells own (budget_of old) old.machine machine (subst (λ (client : ClientState). enough_steps client.timings ≤ budget_of old) uses many)
        line asks.words new.machine (by_own old line said new uses asks) valid names
    says_neither (inr uses) asks many valid names =
        shadow_through tells own (budget_of old) old.machine machine (subst (λ (client : ClientState). enough_steps client.timings ≤ budget_of old) uses many)
        line asks.words new.machine (by_its_shadow old line said new uses asks) valid names

    command_leaves : tells → UsesEither old → AsksClient tells old line said new → IsValid line → names_command line ≡ true → LineLeaves (client_of old).range old.machine line new.machine
    command_leaves told (inl uses) asks valid names =
        subst (λ (range : ℕ). LineLeaves range old.machine line new.machine) (sym (ap (λ (client : ClientState). client.range) uses))
        (mapped_leaves (budget_of old) old.machine line asks.words new.machine
        (asked_by_map tells own (budget_of old) old.machine told machine line asks.words new.machine (by_own old line said new uses asks) valid names))
    command_leaves told (inr uses) asks valid names =
        subst (λ (range : ℕ). LineLeaves range old.machine line new.machine) (sym (ap (λ (client : ClientState). client.range) uses))
        (shadow_mapped_leaves (budget_of old) old.machine line asks.words new.machine
        (shadow_by_map tells own (budget_of old) old.machine machine told line asks.words new.machine (by_its_shadow old line said new uses asks) valid names))

  pub line_played : OwnProgramsRun tells → (counts : List ℕ) (old : PlayerState) (line : Line) (said : List Reply) (blocks : List (List ℕ)) (steps : List Step)
      (new : PlayerState) → IsMachine old.machine → IsValid line →
      Plays tells counts old (played_as line said blocks steps new) → LinePlayed tells counts old (played_as line said blocks steps new)
  line_played own counts old line said blocks steps new machine valid plays =
      let asks_own = asks counts old line said blocks steps new plays in
      record {
        plays = plays;
        happened = line_happened tells counts old line said blocks steps new plays;
        by_map = λ told uses names.
            let a = asks_own names in
            (a.words, a.said_is, asked_by_map tells own (budget_of old) old.machine told machine line a.words new.machine (by_own old line said new uses a) valid names);
        by_shadow = λ told uses names.
            let a = asks_own names in
            (a.words, a.said_is, shadow_by_map tells own (budget_of old) old.machine machine told line a.words new.machine (by_its_shadow old line said new uses a) valid names);
        cause = λ uses names says. has_cause own old line said new machine uses (asks_own names) names says;
        enough = λ uses names many.
            let a = asks_own names in
            let neither = says_neither own old line said new machine uses a many valid names in (
              λ why says. neither.not_stopped why (ap first_of (ap (λ said. map (λ (reply : Reply). reply.words) said) (sym a.said_is) ∙ says)),
              λ waited says. neither.in_time waited (ap first_of (ap (λ said. map (λ (reply : Reply). reply.words) said) (sym a.said_is) ∙ says)),
            );
        leaves = λ told uses own_line none.
            line_leaves tells told (client_of old).range counts old line said blocks steps new plays none
            (λ names. command_leaves own old line said new machine told (uses names) (asks_own names) valid names) own_line;
        turned = λ told is. line_turned tells own told counts old line said blocks steps new plays machine is;
      }
