-- The programs of a port's table are those of the machine's own, but for the two whose actions a port carries out in its own way.
use Rattle.std.proofs.Common.{◌≡◌, ℕ, ◌+◌, ◌-◌, ◌%◌, ◌^◌, [], ◌∷◌, Some, refl, arith}
use Rattle.std.specs.Prelude.{◌==◌, if◌then◌else◌}
use Rattle.apei_tables.specs.declared.registers.Place.TheVariants.{Memory}
use Rattle.apei_tables.specs.declared.widths.Width.TheVariants.{B32, B64}
use Rattle.apei_tables.specs.Fields.{stored}
use Rattle.erst_entries.specs.declared.actions.Action.{Action}
use Rattle.erst_entries.specs.declared.actions.Action.TheVariants.{SetRecordOffset, CheckBusyStatus, GetCommandStatus, GetRecordIdentifier, SetRecordIdentifier}
use Rattle.erst_entries.specs.declared.actions.Action.TheVariants.{GetRecordCount, GetErrorLogAddressRange, GetErrorLogAddressRangeLength}
use Rattle.erst_entries.specs.declared.actions.Action.TheVariants.{GetErrorLogAddressRangeAttributes, GetExecuteOperationTimings}
use Rattle.erst_entries.specs.declared.entries.Entry.{Entry}
use Rattle.erst_entries.specs.declared.instructions.Instruction.TheVariants.{ReadRegister, ReadRegisterValue, WriteRegister, WriteRegisterValue}
use Rattle.erst_entries.specs.Actions.{code_of}
use Rattle.erst_entries.specs.Programs.{entries_of}
use Rattle.erst_interp.specs.Configurations.{next}
use Rattle.erst_machine.specs.Allowed.{Allows}
use Rattle.erst_machine.specs.OwnTables.{own_entries, act, give, is_one, answer, value_register}
use Rattle.erst_port.specs.declared.windows.Addresses.{Addresses}
use Rattle.erst_port.specs.PortTables.{port_entries, carries_out, gives, asks_for_one, takes}
use Rattle.port_laws.specs.PortSpaces.{Goes}
use Rattle.port_laws.specs.Machines.{machine_of, IsShared}
use Rattle.port_laws.proofs.CarryLemmas.{IsCarried, AreCarried, NoEntry, OneEntry, run_carried, ReadsCarried, WritesCarried, take_step, take_halts, store_step, store_halts}
use Rattle.port_laws.proofs.SequenceLemmas.{IsPerformed, ArePerformed}
use Rattle.port_laws.proofs.AccessLemmas.{value_read, value_read_served, value_written, value_write_served, action_written, action_served, wait_made}
use Rattle.erst_machine.proofs.Words.{action_register}

not_address : (action : Action) → IsShared action → code_of action ≡ 0xD → ⊥
not_address GetRecordIdentifier is e = is
not_address GetErrorLogAddressRange is e = is
not_address action is e = absurd (omega (arith, e))

not_next : (action : Action) → IsShared action → code_of action ≡ 0x8 → ⊥
not_next GetRecordIdentifier is e = is
not_next GetErrorLogAddressRange is e = is
not_next action is e = absurd (omega (arith, e))

-- what is written to ACTION
pub code_kept : (action : Action) → stored (code_of action) 0 (2 ^ 32 - 1) % 2 ^ 32 ≡ code_of action
code_kept GetRecordIdentifier = refl
code_kept action = refl

-- an entry of the port's table and one of the machine's
abbrev IsOwn : Addresses → Entry → Entry → Type 0
IsOwn addresses entry other = IsCarried (Goes addresses) (Allows (Unit {0})) machine_of entry other

module _ (addresses : Addresses) where
  reads : ReadsCarried (Goes addresses) (Allows (Unit {0})) machine_of (Memory (addresses.registers + 8)) (Memory 0x200008) B64
  reads = record { carried = λ old new answer h. value_read addresses old new answer h; served = λ old new fault h. value_read_served addresses old new fault h }

  writes : (number : ℕ) → WritesCarried (Goes addresses) (Allows (Unit {0})) machine_of (Memory (addresses.registers + 8)) (Memory 0x200008) B64 number
  writes number = record { carried = λ old new answer h. value_written addresses old new number answer h; served = λ old new fault h. value_write_served addresses old new number fault h }

  codes_written : (number code : ℕ) → number % 2 ^ 32 ≡ code → (code ≡ 0xD → ⊥) → (code ≡ 0x8 → ⊥) → WritesCarried (Goes addresses) (Allows (Unit {0}))
      machine_of (Memory addresses.registers) (Memory 0x200000) B32 number
  codes_written number code is not_address not_next = record {
    carried = λ old new answer h. action_written addresses old new number code answer is not_address not_next h;
    served = λ old new fault h. action_served addresses old new number fault h;
  }

  act_own : (action : Action) → IsShared action → IsOwn addresses (carries_out addresses.registers action) (act action)
  act_own action is =
      let written = codes_written (stored (code_of action) 0 (2 ^ 32 - 1)) (code_of action) (code_kept action) (not_address action is) (not_next action is) in
      record {
        step = λ given len at d more old new step. store_step (Goes addresses) (Allows (Unit {0})) machine_of (Memory addresses.registers) (Memory 0x200000) B32
            (record { entry = carries_out addresses.registers action; given = given; len = len; at = at }) action_register WriteRegisterValue (code_of action)
            written refl refl refl refl refl refl d more old new step;
        halts = λ given len at paid old stop left new halt. store_halts (Goes addresses) (Allows (Unit {0})) machine_of (Memory addresses.registers) (Memory 0x200000) B32
            (record { entry = carries_out addresses.registers action; given = given; len = len; at = at }) WriteRegisterValue (code_of action) written refl refl refl refl paid old stop left new halt;
      }

  give_own : (action : Action) → IsOwn addresses (gives addresses.registers action) (give action)
  give_own action = record {
    step = λ given len at d more old new step. store_step (Goes addresses) (Allows (Unit {0})) machine_of (Memory (addresses.registers + 8)) (Memory 0x200008) B64
        (record { entry = gives addresses.registers action; given = given; len = len; at = at }) value_register WriteRegister given (writes _) refl refl refl refl refl refl d more old new step;
    halts = λ given len at paid old stop left new halt. store_halts (Goes addresses) (Allows (Unit {0})) machine_of (Memory (addresses.registers + 8)) (Memory 0x200008) B64
        (record { entry = gives addresses.registers action; given = given; len = len; at = at }) WriteRegister given (writes _) refl refl refl refl paid old stop left new halt;
  }

  one_own : (action : Action) → IsOwn addresses (asks_for_one addresses.registers action) (is_one action)
  one_own action = record {
    step = λ given len at d more old new step. take_step (Goes addresses) (Allows (Unit {0})) machine_of (Memory (addresses.registers + 8)) (Memory 0x200008) B64 reads
        (record { entry = asks_for_one addresses.registers action; given = given; len = len; at = at }) value_register ReadRegisterValue
        (λ x. record (next at) { result = Some (if x == 1 then 1 else 0) }) refl refl refl refl refl d more old new step;
    halts = λ given len at paid old stop left new halt. take_halts (Goes addresses) (Allows (Unit {0})) machine_of (Memory (addresses.registers + 8)) (Memory 0x200008) B64 reads
        (record { entry = asks_for_one addresses.registers action; given = given; len = len; at = at }) ReadRegisterValue
        (λ x. record (next at) { result = Some (if x == 1 then 1 else 0) }) refl refl refl paid old stop left new halt;
  }

  answer_own : (action : Action) (mask : ℕ) → IsOwn addresses (takes addresses.registers action mask) (answer action mask)
  answer_own action mask = record {
    step = λ given len at d more old new step. take_step (Goes addresses) (Allows (Unit {0})) machine_of (Memory (addresses.registers + 8)) (Memory 0x200008) B64 reads
        (record { entry = takes addresses.registers action mask; given = given; len = len; at = at }) value_register ReadRegister
        (λ x. record (next at) { result = Some x }) refl refl refl refl refl d more old new step;
    halts = λ given len at paid old stop left new halt. take_halts (Goes addresses) (Allows (Unit {0})) machine_of (Memory (addresses.registers + 8)) (Memory 0x200008) B64 reads
        (record { entry = takes addresses.registers action mask; given = given; len = len; at = at }) ReadRegister (λ x. record (next at) { result = Some x })
        refl refl refl paid old stop left new halt;
  }

  alone : (action : Action) → IsShared action → AreCarried (Goes addresses) (Allows (Unit {0})) machine_of (carries_out addresses.registers action ∷ []) (act action ∷ [])
  alone action is = OneEntry _ _ [] [] (act_own action is) NoEntry

  given_first : (action : Action) → IsShared action
      → AreCarried (Goes addresses) (Allows (Unit {0})) machine_of (gives addresses.registers action ∷ carries_out addresses.registers action ∷ []) (give action ∷ act action ∷ [])
  given_first action is = OneEntry _ _ _ _ (give_own action) (alone action is)

  asked_then : (action : Action) → IsShared action
      → AreCarried (Goes addresses) (Allows (Unit {0})) machine_of (carries_out addresses.registers action ∷ asks_for_one addresses.registers action ∷ []) (act action ∷ is_one action ∷ [])
  asked_then action is = OneEntry _ _ _ _ (act_own action is) (OneEntry _ _ [] [] (one_own action) NoEntry)

  answered_then : (action : Action) (mask : ℕ) → IsShared action
      → AreCarried (Goes addresses) (Allows (Unit {0})) machine_of (carries_out addresses.registers action ∷ takes addresses.registers action mask ∷ []) (act action ∷ answer action mask ∷ [])
  answered_then action mask is = OneEntry _ _ _ _ (act_own action is) (OneEntry _ _ [] [] (answer_own action mask) NoEntry)

  -- each program
  pub performed : (action : Action) → IsShared action → IsPerformed (Goes addresses) (Allows (Unit {0})) machine_of (port_entries addresses.registers) own_entries action
  unfolding port_entries own_entries entries_of
  performed GetRecordIdentifier is given budget first result left last run = absurd is
  performed GetErrorLogAddressRange is given budget first result left last run = absurd is
  performed SetRecordOffset is given budget first result left last run = run_carried _ _ _ _ _ _ (given_first SetRecordOffset is) given budget first result left last run
  performed SetRecordIdentifier is given budget first result left last run = run_carried _ _ _ _ _ _ (given_first SetRecordIdentifier is) given budget first result left last run
  performed CheckBusyStatus is given budget first result left last run = run_carried _ _ _ _ _ _ (asked_then CheckBusyStatus is) given budget first result left last run
  performed GetCommandStatus is given budget first result left last run = run_carried _ _ _ _ _ _ (answered_then GetCommandStatus 0xFF is) given budget first result left last run
  performed GetRecordCount is given budget first result left last run = run_carried _ _ _ _ _ _ (answered_then GetRecordCount (2 ^ 32 - 1) is) given budget first result left last run
  performed GetErrorLogAddressRangeLength is given budget first result left last run =
      run_carried _ _ _ _ _ _ (answered_then GetErrorLogAddressRangeLength (2 ^ 64 - 1) is) given budget first result left last run
  performed GetErrorLogAddressRangeAttributes is given budget first result left last run =
      run_carried _ _ _ _ _ _ (answered_then GetErrorLogAddressRangeAttributes (2 ^ 64 - 1) is) given budget first result left last run
  performed GetExecuteOperationTimings is given budget first result left last run =
      run_carried _ _ _ _ _ _ (answered_then GetExecuteOperationTimings (2 ^ 64 - 1) is) given budget first result left last run
  performed action is given budget first result left last run = run_carried _ _ _ _ _ _ (alone action is) given budget first result left last run

  pub are_performed : ArePerformed (Goes addresses) (Allows (Unit {0})) machine_of (port_entries addresses.registers) own_entries IsShared
  are_performed = record { waits = λ micros old new h. wait_made addresses old new micros h; performs = performed }
