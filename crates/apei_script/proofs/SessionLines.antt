-- Lines of one reply, as a session carries them out.
use Rattle.std.specs.Prelude.{not, if◌then◌else◌, codes, unwrap_or}
use Rattle.std.proofs.Common.{◌≡◌, ℕ, ◌≤◌, ◌↔◌, ◌∙◌, ap, Bool, true, false, IsTrue, List, [], ◌∷◌, ◌++◌, decimal, length, take, Option, Some, None, Result, Ok, Err, refl, sym, subst}
use Rattle.hex.specs.Hex.{decode_of}
use Rattle.base_model.specs.Faults.{Rose}
use Rattle.erst_client.specs.Commands.{ClientState}
use Rattle.erst_bridge.specs.Bridges.{BridgeState, Off, Awaits, Holds, Releases}
use Rattle.record_model.specs.Records.{is_reserved}
use Rattle.std.proofs.lemmas.Bool.{false≢true}
use Rattle.ghes_ack.specs.Machine.{Machine as HandoverMachine, is_idle}
use Rattle.ghes_ack.specs.Handovers.{StandsFor}
use Rattle.erst_machine.proofs.CrashTrail.{events_are_shown}
use Rattle.erst_machine.specs.declared.errors.BootError.{BootError}
use Rattle.erst_machine.specs.MachineState.{MachineState}
use Rattle.ghes_ack.specs.declared.submission.SubmitError.{SubmitError}
use Rattle.erst_machine.specs.declared.errors.FatalError.{FatalError}
use Rattle.erst_machine.specs.Events.{Event, Warmed, Powered, Submitted, Laid, Submits, LaysFatal, Warms, Powers, Happens}
use Rattle.script_text.specs.ScriptGrammar.{Line, table, own_table, shadow_table, error, fatal, reset, power, bridge}
use Rattle.erst_shadow.specs.ShadowTables.{shadow_count}
use Rattle.apei_script.specs.declared.player.PlayStop.TheVariants.{FlashFault}
use Rattle.apei_script.specs.Replies.{IsMade}
use Rattle.apei_script.specs.Players.{PlayerState, asker_of}
use Rattle.apei_script.specs.Words.{refused, words_of_table, words_of_submission, words_of_laid}
use Rattle.apei_script.specs.Asked.{Answers}
use Rattle.apei_script.specs.Happened.{Happened, Once}
use Rattle.apei_script.specs.Tables.{GivesTable}
use Rattle.apei_script.specs.Bridged.{bridge_refusal, Enters, StaysAs}
use Rattle.apei_script.specs.Plays.{ByTheBridge, ByClient, GivenTable, OwnTable, GivenShadow, OnMachine, Reset, Power, ResetFails, PowerFails, HasHappened, Stops}
use Rattle.apei_script.specs.Sessions.{MakesReply}
use Rattle.apei_script.proofs.OneEvent.{NeedsNoBridge}
use Rattle.apei_script.proofs.ShadowGiving.{IsShadowGiven}
use Rattle.erst_client.specs.Timings.{enough_steps}

-- what a player is made of
abbrev pub player : MachineState → ClientState → Option ClientState → Option ℕ → BridgeState → PlayerState
player machine own other steps state = record { machine = machine; own = own; other = other; steps = steps; bridge = state }

-- the one of two clients that is in use
abbrev pub in_use : ClientState → Option ClientState → ClientState
in_use own other = elim other [ None ↦ own | Some client ↦ client ]

-- the bytes of digits, where those of a vector are lent
pub as_lent : (hex items lent : List ℕ) (len : ℕ) → decode_of hex ≡ Ok (take len items) → lent ≡ items → decode_of hex ≡ Ok (take len lent)
as_lent hex items lent len decoded is = subst (λ (xs : List ℕ). decode_of hex ≡ Ok (take len xs)) (sym is) decoded

module _ (tells : Type 0) (old : MachineState) (own : ClientState) (steps : Option ℕ) (state : BridgeState) where
  -- one thing happened, and the flash counted a fault
  failed : (event : Event) (new : MachineState) → Happens tells old event new → old.device.store.flash.faults ≤ new.device.store.flash.faults
      → Rose old.device.store.flash.faults new.device.store.flash.faults → HasHappened tells old new
  failed event new happens rises rose = record {
    trail = record { event = event; left = new } ∷ [];
    happens = (happens, refl);
    shown = λ told. events_are_shown tells told old new (record { event = event; left = new } ∷ []) (happens, refl);
    never_falls = rises;
    exact = λ told none. absurd (none rose);
  }

  pub by_other : (client : ClientState) (other new_other : Option ClientState) (line : Line) (new : MachineState) (reply : List ℕ) → other ≡ Some client → new_other ≡ Some client
      → Answers tells (asker_of client (unwrap_or steps (enough_steps client.timings))) old line new reply → MakesReply tells (player old own other steps state)
      line (player new own new_other steps state) reply
  by_other client other new_other line new reply was is answers =
      subst (λ (o : Option ClientState). MakesReply tells (player old own o steps state) line (player new own new_other steps state) reply) (sym was)
      (subst (λ (o : Option ClientState). MakesReply tells (player old own (Some client) steps state) line (player new own o steps state) reply) (sym is)
      (record { words = answers.words; plays = λ counts. ByClient line answers.words new answers.commanded; made = answers.made }))

  pub by_own : (new_own : ClientState) (other new_other : Option ClientState) (line : Line) (new : MachineState) (reply : List ℕ) → other ≡ None → new_other ≡ None → new_own ≡ own
      → Answers tells (asker_of own (unwrap_or steps (enough_steps own.timings))) old line new reply → MakesReply tells (player old own other steps state) line
      (player new new_own new_other steps state) reply
  by_own new_own other new_other line new reply was is same answers =
      subst (λ (o : Option ClientState). MakesReply tells (player old own o steps state) line (player new new_own new_other steps state) reply) (sym was)
      (subst (λ (o : Option ClientState). MakesReply tells (player old own None steps state) line (player new new_own o steps state) reply) (sym is)
      (subst (λ (client : ClientState). MakesReply tells (player old own None steps state) line (player new client None steps state) reply) (sym same)
      (record { words = answers.words; plays = λ counts. ByClient line answers.words new answers.commanded; made = answers.made })))

  pub by_machine : (other : Option ClientState) (line : Line) (words : List ℕ) (new : MachineState) (reply : List ℕ) → NeedsNoBridge state line →
      Happened tells old line (words ∷ []) [] new → IsMade reply words
      → MakesReply tells (player old own other steps state) line (player new own other steps state) reply
  by_machine other line words new reply alone happened made = record { words = words; plays = λ counts. OnMachine line (words ∷ []) [] new alone happened; made = made }

  -- the bytes of a line's digits are handed to the machine
  module _ (other : Option ClientState) (hex items lent : List ℕ) (len : ℕ) (new : MachineState) (reply : List ℕ) (decoded : decode_of hex ≡ Ok (take len items)) (is : lent ≡ items) where
    pub by_block : (result : Result ℕ SubmitError) → Submits old (take len lent) result new → IsMade reply (words_of_submission result) →
        MakesReply tells (player old own other steps state) (error hex) (player new own other steps state) reply
    by_block result submits made = by_machine other (error hex) (words_of_submission result) new reply tt
        (Once (error hex) (Submitted (take len lent) result) (words_of_submission result) new (as_lent hex items lent len decoded is, refl) submits) made

    pub by_fatal : (result : Result ℕ FatalError) → LaysFatal old (take len lent) result new → IsMade reply (words_of_laid result) →
        MakesReply tells (player old own other steps state) (fatal hex) (player new own other steps state) reply
    by_fatal result lays made = by_machine other (fatal hex) (words_of_laid result) new reply tt
        (Once (fatal hex) (Laid (take len lent) result) (words_of_laid result) new (as_lent hex items lent len decoded is, refl) lays) made

  pub by_table : (other : Option ClientState) (hex bytes words : List ℕ) (new : MachineState) (new_other : Option ClientState) (reply : List ℕ) → decode_of hex ≡ Ok bytes
      → GivesTable tells old other bytes words new new_other → IsMade reply words → MakesReply tells (player old own other steps state) (table hex) (player new own new_other steps state) reply
  by_table other hex bytes words new new_other reply decoded gives made =
      record { words = words; plays = λ counts. GivenTable hex bytes words new new_other decoded gives; made = made }

  pub by_own_table : (other : Option ClientState) (n : ℕ) (reply : List ℕ) → n ≡ length own.table.entries → IsMade reply (words_of_table n)
      → MakesReply tells (player old own other steps state) own_table (player old own None steps state) reply
  by_own_table other n reply many made = record {
    words = words_of_table (length own.table.entries);
    plays = λ counts. OwnTable;
    made = subst (λ (k : ℕ). IsMade reply (words_of_table k)) many made;
  }

  pub by_shadow_table : (other : Option ClientState) (n : ℕ) (client : ClientState) (new : MachineState) (reply : List ℕ) → n ≡ shadow_count → IsShadowGiven tells old new client
      → IsMade reply (words_of_table n) → MakesReply tells (player old own other steps state) shadow_table (player new own (Some client) steps state) reply
  by_shadow_table other n client new reply many given made =
      subst (λ (c : ClientState). MakesReply tells (player old own other steps state) shadow_table (player new own (Some c) steps state) reply) (sym given.client_is)
      (record {
        words = words_of_table shadow_count;
        plays = λ counts. GivenShadow given.gives.left new given.gives.attaches given.gives.attached given.gives.reaches;
        made = subst (λ (k : ℕ). IsMade reply (words_of_table k)) many made;
      })

  pub by_reset : (other : Option ClientState) (n : ℕ) (new : MachineState) (reply : List ℕ) (next : BridgeState) → next ≡ Off → Warms tells old (Ok n) new → IsMade reply (codes "reset " ++ decimal n)
      → MakesReply tells (player old own other steps state) reset (player new own None steps next) reply
  by_reset other n new reply next off warms made =
      subst (λ (b : BridgeState). MakesReply tells (player old own other steps state) reset (player new own None steps b) reply) (sym off)
      (record { words = codes "reset " ++ decimal n; plays = λ counts. Reset n new warms; made = made })

  pub by_power : (other : Option ClientState) (n : ℕ) (new : MachineState) (reply : List ℕ) (next : BridgeState) → next ≡ Off → Powers tells old (Ok n) new → IsMade reply (codes "power " ++ decimal n)
      → MakesReply tells (player old own other steps state) power (player new own None steps next) reply
  by_power other n new reply next off powers made =
      subst (λ (b : BridgeState). MakesReply tells (player old own other steps state) power (player new own None steps b) reply) (sym off)
      (record { words = codes "power " ++ decimal n; plays = λ counts. Power n new powers; made = made })

  pub no_reset : (other : Option ClientState) (why : BootError) (new : MachineState) → Warms tells old (Err why) new →
      Stops tells (player old own other steps state) reset (player new own other steps state) FlashFault
  no_reset other why new warms = (new, ResetFails why new warms, failed (Warmed (Err why)) new warms warms.leaves.cause.0 warms.leaves.cause.1, warms.leaves.cause.1, refl)

  pub no_power : (other : Option ClientState) (why : BootError) (new : MachineState) → Powers tells old (Err why) new →
      Stops tells (player old own other steps state) power (player new own other steps state) FlashFault
  no_power other why new powers =
      let cause = powers.restarts.leaves.cause in
      (new, PowerFails why new powers, failed (Powered (Err why)) new powers cause.0 cause.1, cause.1, refl)

  -- the bridge is turned on, or the first reason why not
  abbrev refusal_by : Bool → BridgeState → Bool → Option (List ℕ)
  refusal_by reserved now idle =
      if reserved then Some (codes "id")
      else elim now [ Off ↦ if not idle then Some (codes "reading") else None | on ↦ Some (codes "on") ]

  refused_on : (now : BridgeState) (idle : Bool) → (now ≡ Off → ⊥) → refusal_by false now idle ≡ Some (codes "on")
  refused_on Off idle on = absurd (on refl)
  refused_on (Awaits id) idle on = refl
  refused_on (Holds id block) idle on = refl
  refused_on (Releases id) idle on = refl

  pub by_bridge : (other : Option ClientState) (id : ℕ) (next : BridgeState) (reply : List ℕ) → is_reserved id ≡ false → state ≡ Off → is_idle old.handover.situation ≡ true → next ≡ Awaits id
      → IsMade reply (codes "bridge " ++ decimal id) → MakesReply tells (player old own other steps state) (bridge id) (player old own other steps next) reply
  by_bridge other id next reply free off idle is made =
      let none : refusal_by (is_reserved id) state (is_idle old.handover.situation) ≡ None =
      ap (λ (a : Bool). refusal_by a state (is_idle old.handover.situation)) free
      ∙ ap (λ (s : BridgeState). refusal_by false s (is_idle old.handover.situation)) off ∙ ap (refusal_by false Off) idle in
      subst (λ (b : BridgeState). MakesReply tells (player old own other steps state) (bridge id) (player old own other steps b) reply) (sym is)
      (record { words = codes "bridge " ++ decimal id; plays = λ counts. ByTheBridge (bridge id) _ [] [] (Awaits id) old (Enters id none); made = made })

  no_bridge : (other : Option ClientState) (id : ℕ) (why reply : List ℕ) → bridge_refusal (player old own other steps state) id ≡ Some why → IsMade reply (refused why)
      → MakesReply tells (player old own other steps state) (bridge id) (player old own other steps state) reply
  no_bridge other id why reply is made = record { words = refused why; plays = λ counts. ByTheBridge (bridge id) _ [] [] state old (StaysAs id why is); made = made }

  pub no_id : (other : Option ClientState) (id : ℕ) (reply : List ℕ) → is_reserved id ≡ true → IsMade reply (refused (codes "id"))
      → MakesReply tells (player old own other steps state) (bridge id) (player old own other steps state) reply
  no_id other id reply taken made = no_bridge other id (codes "id") reply (ap (λ (a : Bool). refusal_by a state (is_idle old.handover.situation)) taken) made

  pub no_off : (other : Option ClientState) (id : ℕ) (reply : List ℕ) → is_reserved id ≡ false → (state ≡ Off → ⊥) → IsMade reply (refused (codes "on"))
      → MakesReply tells (player old own other steps state) (bridge id) (player old own other steps state) reply
  no_off other id reply free on made = no_bridge other id (codes "on") reply
      (ap (λ (a : Bool). refusal_by a state (is_idle old.handover.situation)) free ∙ refused_on state (is_idle old.handover.situation) on) made

  pub no_idle : (other : Option ClientState) (id : ℕ) (reply : List ℕ) → is_reserved id ≡ false → state ≡ Off → is_idle old.handover.situation ≡ false → IsMade reply (refused (codes "reading"))
      → MakesReply tells (player old own other steps state) (bridge id) (player old own other steps state) reply
  no_idle other id reply free off busy made = no_bridge other id (codes "reading") reply
      (ap (λ (a : Bool). refusal_by a state (is_idle old.handover.situation)) free
      ∙ ap (λ (s : BridgeState). refusal_by false s (is_idle old.handover.situation)) off ∙ ap (refusal_by false Off) busy) made

-- whether the bridge is on, as it was tested
pub is_off : (state : BridgeState) (test : Bool) → IsTrue test ↔ (state ≡ Off → ⊥) → test ≡ false → state ≡ Off
is_off Off test h e = refl
is_off (Awaits id) test h e = absurd (false≢true (sym e ∙ h.1 (λ same. cc same)))
is_off (Holds id block) test h e = absurd (false≢true (sym e ∙ h.1 (λ same. cc same)))
is_off (Releases id) test h e = absurd (false≢true (sym e ∙ h.1 (λ same. cc same)))

-- the reader is idle by the handover, as by the machine that it stands for
pub idle_by : (idle : Bool) (machine : MachineState) (m : HandoverMachine) → StandsFor machine.handover machine.memory.shared m → idle ≡ is_idle m.situation → is_idle machine.handover.situation ≡ idle
idle_by idle machine m stands is = sym (is ∙ ap is_idle stands.situation)
