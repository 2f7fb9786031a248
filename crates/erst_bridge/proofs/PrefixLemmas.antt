-- The records that power lost in turns shows are those from before them, with the records of some first blocks to come.
use Rattle.std.proofs.Common.{◌≡◌, ◌⊎◌, inl, inr, ◌∙◌, ℕ, suc, ◌-◌, ◌^◌, ◌<◌, ◌≤◌, nat_le, Bool, true, false, List, [], ◌∷◌, take, Option, Some, Ok, Err, refl, sym, ap, subst, arith}
use Rattle.std.specs.Prelude.{if◌then◌else◌, ◌==◌}
use Rattle.base_model.specs.Flash.{CrashImage}
use Rattle.record_model.specs.Records.{Stored as Records}
use Rattle.ghes_ack.specs.declared.events.Side.TheVariants.{Firmware, Reader}
use Rattle.ghes_ack.specs.declared.events.Event.{Event}
use Rattle.ghes_ack.specs.Machine.{Machine, turned}
use Rattle.erst_device.specs.DeviceState.{DeviceState}
use Rattle.erst_client.specs.declared.errors.ClientError.{ClientError}
use Rattle.erst_client.specs.Commands.{ClientState, Writes}
use Rattle.erst_machine.specs.MachineState.{MachineState, IsMachine, records_of, told_of}
use Rattle.erst_machine.specs.Allowed.{Allows}
use Rattle.erst_machine.specs.Shown.{shown_by, changes_of}
use Rattle.erst_commands.specs.OwnPrograms.{OwnProgramsRun}
use Rattle.erst_commands.specs.Attached.{own_client}
use Rattle.erst_bridge.specs.declared.events.BridgeEvent.{BridgeEvent}
use Rattle.erst_bridge.specs.declared.events.BridgeEvent.TheVariants.{Kept}
use Rattle.erst_bridge.specs.BridgedRecord.{bridged}
use Rattle.erst_bridge.specs.Bridges.{BridgeState, Off, Awaits, Holds, Releases, HoldsNone, after_reader, TurnsReader, Stores, Keeps, RunsOut}
use Rattle.erst_bridge.proofs.TurnLemmas.{reader_cases}
use Rattle.erst_bridge.specs.Turns.{BridgesMachine, Turn, OfFirmware, OfBridge, Step, IsTurn, AreTurns}
use Rattle.erst_bridge.specs.Shown.{after_turn, ShowsTurns}
use Rattle.erst_bridge.specs.MachinesInStep.{StandsInStep}
use Rattle.erst_bridge.specs.Prefixes.{bytes_in, with_blocks, next_id, HasPrefix}
use Rattle.erst_bridge.proofs.TrailLemmas.{turn_keeps, own_on}
use Rattle.erst_bridge.proofs.HandoverLemmas.{SameToCome, firmware_come, reader_come}
use Rattle.erst_bridge.proofs.MachinesInStepLemmas.{handover_after, turn_in_step}
use Rattle.erst_bridge.proofs.CrashLemmas.{own_write, turn_records}
use Rattle.erst_bridge.proofs.KeptRecordLemmas.{Contents, with_block, HasBytes, answer_bytes, write_either}
use Rattle.erst_bridge.proofs.ShownLemmas.{one_of, turns_show}
use Rattle.erst_bridge.proofs.Terms.{after_write, to_come, last_of, stored_record}

-- the records are some contents; while a block is held they may have its record already, by a write that failed at its end
abbrev pub Agrees : BridgeState → Contents → Records → Type 0
Agrees Off contents stored = HasBytes contents stored
Agrees (Awaits n) contents stored = HasBytes contents stored
Agrees (Holds n block) contents stored = HasBytes contents stored ⊎ HasBytes (with_block n block contents) stored
Agrees (Releases n) contents stored = HasBytes contents stored

-- a record put twice is put once
put_twice : (b : Bool) (x y : Option (List ℕ)) → (if b then x else (if b then x else y)) ≡ (if b then x else y)
put_twice true x y = refl
put_twice false x y = refl

-- the record of a held block is put, whether it was there or not
put_agrees : (n : ℕ) (block : List ℕ) (contents : Contents) (old new : Records) → Agrees (Holds n block) contents old →
    HasBytes (with_block n block (bytes_in old)) new → HasBytes (with_block n block contents) new
put_agrees n block contents old new (inl same) put = λ q. put q ∙ ap (λ (o : Option (List ℕ)). if q == n then Some (stored_record block n) else o) (same q)
put_agrees n block contents old new (inr there) put =
    λ q. put q ∙ ap (λ (o : Option (List ℕ)). if q == n then Some (stored_record block n) else o) (there q) ∙ put_twice (q == n) (Some (stored_record block n)) (contents q)

either_agrees : (n : ℕ) (block : List ℕ) (contents : Contents) (old new : Records) → Agrees (Holds n block) contents old
    → HasBytes (bytes_in old) new ⊎ HasBytes (with_block n block (bytes_in old)) new → Agrees (Holds n block) contents new
either_agrees n block contents old new (inl same) (inl kept) = inl (λ q. kept q ∙ same q)
either_agrees n block contents old new (inr there) (inl kept) = inr (λ q. kept q ∙ there q)
either_agrees n block contents old new agrees (inr put) = inr (put_agrees n block contents old new agrees put)

-- records that agree have no block to come, or the first one
none_or_one : (bridge : BridgeState) (m : Machine) (contents : Contents) (stored : Records) → Agrees bridge contents stored → HasPrefix bridge m contents stored
none_or_one Off m contents stored agrees = record { count = 0; same = agrees }
none_or_one (Awaits n) m contents stored agrees = record { count = 0; same = agrees }
none_or_one (Holds n block) m contents stored (inl same) = record { count = 0; same = same }
none_or_one (Holds n block) m contents stored (inr there) = record { count = 1; same = there }
none_or_one (Releases n) m contents stored agrees = record { count = 0; same = agrees }

-- what a turn leads to: contents that the records agree with, from which a prefix is one from before the turn
record LeadsTo (bridge : BridgeState) (m : Machine) (contents : Contents) (next : BridgeState) (also : Machine) (new : MachineState) : Type 0 where
  pub now : Contents
  pub agrees : Agrees next now (records_of new)
  pub back : (shown : Records) → HasPrefix next also now shown → HasPrefix bridge m contents shown

same_back : (bridge : BridgeState) (m : Machine) (contents : Contents) (next : BridgeState) (also : Machine) → SameToCome bridge m next also
    → (shown : Records) → HasPrefix next also contents shown → HasPrefix bridge m contents shown
same_back bridge m contents next also same shown prefix = record {
  count = prefix.count;
  same = λ q. prefix.same q ∙ ap (λ (n : ℕ). with_blocks n (take prefix.count (to_come next also)) contents q) same.id
      ∙ ap (λ (xs : List (List ℕ)). with_blocks (next_id bridge) (take prefix.count xs) contents q) same.blocks;
}

-- behind a turn of the reader the same records agree
reader_agrees : (id : ℕ) (bridge : BridgeState) (event : Event) (block : List ℕ) (contents : Contents) (stored : Records) → HoldsNone id bridge → Agrees bridge contents stored
    → Agrees (after_reader event id block bridge) contents stored
reader_agrees id Off event block contents stored none agrees = absurd none
reader_agrees id (Holds n other) event block contents stored none agrees = absurd none
reader_agrees id (Awaits n) event block contents stored none agrees = reader_cases (λ b. Agrees b contents stored) event id block (Awaits n) (inl agrees) agrees agrees
reader_agrees id (Releases n) event block contents stored none agrees = reader_cases (λ b. Agrees b contents stored) event id block (Releases n) (inl agrees) agrees agrees

same_records : (old new : MachineState) → new.device ≡ old.device → records_of new ≡ records_of old
same_records old new device = ap (λ (d : DeviceState). records_of (record old { device = d })) device

module _ (tells : Type 0) (run : OwnProgramsRun tells) (told : tells) (client : ClientState) (budget : ℕ) where
  -- the records as a turn leaves them where nothing fails agree too
  turn_agrees : (bridge : BridgeState) (old : MachineState) (turn : Turn) (next : BridgeState) (new : MachineState) (contents : Contents) → IsTurn tells client budget bridge old turn next new
      → Agrees bridge contents (records_of old) → Agrees bridge contents (after_turn bridge old turn)
  turn_agrees bridge old (OfFirmware event) next new contents is agrees = agrees
  turn_agrees bridge old (OfBridge event) next new contents is agrees =
      elim is.1 as (λ bridge event after turn. Agrees bridge contents (records_of old) → Agrees bridge contents (after_turn bridge old (OfBridge event))) [
        | TurnsReader n bridge event new none reads ↦ λ agrees. agrees
        | Stores n block left new small writes ↦ λ agrees. either_agrees n block contents (records_of old) (after_write old (bridged block n)) agrees (write_either old block n (omega arith))
        | Keeps n block error left new small writes ↦ λ agrees. either_agrees n block contents (records_of old) (after_write old (bridged block n)) agrees (write_either old block n (omega arith))
        | RunsOut n block last ↦ λ agrees. agrees
      ] agrees

  kept_agrees : (old : MachineState) → client ≡ own_client old → IsMachine old → (n : ℕ) (block : List ℕ) (contents : Contents) (error : ClientError) (left : ℕ) (new : MachineState) → n < 2 ^ 64 - 1
      → Writes (Allows tells) client (bridged block n) budget old (Err error) left new → Agrees (Holds n block) contents (records_of old) → Agrees (Holds n block) contents (records_of new)
  kept_agrees old own machine n block contents error left new small writes agrees =
      let is : IsTurn tells client budget (Holds n block) old (OfBridge (Kept error)) (Holds n block) new = (left, Keeps n block error left new small writes) in
      elim (turn_records tells run told client budget (Holds n block) old (OfBridge (Kept error)) (Holds n block) new own machine is) [
        | inl same ↦ subst (λ (r : Records). Agrees (Holds n block) contents r) (sym same) agrees
        | inr made ↦ subst (λ (r : Records). Agrees (Holds n block) contents r) (sym made) (turn_agrees (Holds n block) old (OfBridge (Kept error)) (Holds n block) new contents is agrees)
      ]

  bridge_leads : (old : MachineState) → client ≡ own_client old → IsMachine old → (bridge : BridgeState) (event : BridgeEvent) (next : BridgeState) (left : ℕ)
      (new : MachineState) (m : Machine) (contents : Contents)
      → BridgesMachine tells client budget old bridge event next left new → StandsInStep bridge old m → Agrees bridge contents (records_of old)
      → LeadsTo bridge m contents next (handover_after (OfBridge event) m) new
  bridge_leads old own machine bridge event next left new m contents turn paired agrees =
      elim turn as (λ bridge event after turn. StandsInStep bridge old m → Agrees bridge contents (records_of old) → LeadsTo bridge m contents after.bridge
      (handover_after (OfBridge event) m) after.station) [
        | TurnsReader id bridge event new none reads ↦ λ paired agrees.
            let t = reads.turned m paired.stands in
            let block = last_of new in
            let come = subst (λ (e : Event). SameToCome bridge m (after_reader e id block bridge) (turned Reader m).1) (sym t.event_is)
            (reader_come old.handover.map.len id bridge m paired.stands.state paired.step none block t.stands.last) in
            record {
              now = contents;
              agrees = reader_agrees id bridge event block contents (records_of new) none (subst (λ (r : Records). Agrees bridge contents r) (sym (same_records old new reads.device)) agrees);
              back = same_back bridge m contents (after_reader event id block bridge) (turned Reader m).1 come;
            }
        | Stores n block left new small writes ↦ λ paired agrees. record {
          now = with_block n block contents;
          agrees = put_agrees n block contents (records_of old) (records_of new) agrees
              (answer_bytes block n budget old left new (omega arith) (own_write tells run told client budget old own machine (bridged block n) (Ok tt) left new writes));
          back = λ shown prefix. record { count = suc prefix.count; same = prefix.same };
        }
        | Keeps n block error left new small writes ↦ λ paired agrees. record {
          now = contents;
          agrees = kept_agrees old own machine n block contents error left new small writes agrees;
          back = λ shown prefix. prefix;
        }
        | RunsOut n block last ↦ λ paired agrees. record { now = contents; agrees = agrees; back = λ shown prefix. prefix }
      ] paired agrees

  turn_leads : (bridge : BridgeState) (old : MachineState) (turn : Turn) (next : BridgeState) (new : MachineState) (m : Machine) (contents : Contents) → client ≡ own_client old → IsMachine old
      → IsTurn tells client budget bridge old turn next new → StandsInStep bridge old m → Agrees bridge contents (records_of old) → LeadsTo bridge m contents next (handover_after turn m) new
  turn_leads bridge old (OfFirmware event) next new m contents own machine is paired agrees =
      subst (λ (b : BridgeState). LeadsTo bridge m contents b (turned Firmware m).1 new) (sym is.0) (record {
        now = contents;
        agrees = subst (λ (r : Records). Agrees bridge contents r) (sym (same_records old new is.1.device)) agrees;
        back = same_back bridge m contents bridge (turned Firmware m).1 (firmware_come bridge m);
      })
  turn_leads bridge old (OfBridge event) next new m contents own machine is paired agrees = bridge_leads old own machine bridge event next is.0 new m contents is.1 paired agrees

  shown_prefix : (bridge : BridgeState) (first : MachineState) (steps : List Step) (next : BridgeState) (last : MachineState) (m : Machine)
      (contents : Contents) → client ≡ own_client first → IsMachine first
      → AreTurns tells client budget bridge first steps next last → StandsInStep bridge first m → Agrees bridge contents (records_of first)
      → (s : ℕ) (shown : Records) → ShowsTurns s bridge first steps shown → HasPrefix bridge m contents shown
  shown_prefix bridge first [] next last m contents own machine are paired agrees s shown shows =
      none_or_one bridge m contents shown (subst (λ (r : Records). Agrees bridge contents r) (sym shows) agrees)
  shown_prefix bridge first (step ∷ rest) next last m contents own machine are paired agrees s shown shows =
      elim (one_of (nat_le (changes_of step.machine) s) _ _ shows) [
        | inl behind ↦
            let leads = turn_leads bridge first step.turn step.bridge step.machine m contents own machine are.0 paired agrees in
            leads.back shown (shown_prefix step.bridge step.machine rest next last (handover_after step.turn m) leads.now
            (own_on tells client budget told bridge first step.turn step.bridge step.machine are.0 own)
            (turn_keeps tells client budget bridge first step.turn step.bridge step.machine are.0 machine) are.1
            (turn_in_step tells client budget bridge first step.turn step.bridge step.machine m are.0 paired).1 leads.agrees s shown behind)
        | inr under_way ↦ none_or_one bridge m contents shown (elim under_way [
          | inl same ↦ subst (λ (r : Records). Agrees bridge contents r) (sym same) agrees
          | inr made ↦ subst (λ (r : Records). Agrees bridge contents r) (sym made) (turn_agrees bridge first step.turn step.bridge step.machine contents are.0 agrees)
        ])
      ]

  pub turns_show_prefix : (bridge : BridgeState) (first : MachineState) (steps : List Step) (next : BridgeState) (last : MachineState) (m : Machine) → client ≡ own_client first → IsMachine first
      → AreTurns tells client budget bridge first steps next last → StandsInStep bridge first m
      → (s : ℕ) (image : List ℕ) → changes_of first ≤ s → CrashImage (told_of last) s image → HasPrefix bridge m (bytes_in (records_of first)) (shown_by first image)
  turns_show_prefix bridge first steps next last m own machine are paired s image from crash =
      shown_prefix bridge first steps next last m (bytes_in (records_of first)) own machine are paired (at_first bridge) s (shown_by first image)
      (turns_show tells client budget run told bridge first steps next last own machine are s image from crash)
    where
      at_first : (bridge : BridgeState) → Agrees bridge (bytes_in (records_of first)) (records_of first)
      at_first Off = λ q. refl
      at_first (Awaits n) = λ q. refl
      at_first (Holds n block) = inl (λ q. refl)
      at_first (Releases n) = λ q. refl
