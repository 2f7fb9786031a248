-- A run of a program that carries out an action and takes what VALUE says then.
use Rattle.std.proofs.Common.{◌≡◌, ℕ, zero, suc, ◌+◌, ◌-◌, ◌/◌, ◌%◌, ◌^◌, ◌<◌, [], ◌∷◌, Some, Result, Ok, Err, refl, sym, ap, subst, ◌∙◌, arith}
use Rattle.std.specs.Prelude.{unwrap_or}
use Rattle.std.proofs.lemmas.Nat.{and_mask}
use Rattle.apei_tables.specs.declared.registers.Place.TheVariants.{Memory}
use Rattle.apei_tables.specs.declared.widths.Width.TheVariants.{B32, B64}
use Rattle.apei_tables.specs.Fields.{field, stored}
use Rattle.apei_space.specs.declared.faults.SpaceFault.{SpaceFault}
use Rattle.apei_space.specs.Calls.{Write}
use Rattle.erst_entries.specs.declared.actions.Action.{Action}
use Rattle.erst_entries.specs.declared.instructions.Instruction.TheVariants.{ReadRegister, WriteRegisterValue}
use Rattle.erst_entries.specs.Actions.{code_of}
use Rattle.erst_entries.specs.Programs.{Listed}
use Rattle.erst_interp.specs.declared.configurations.Configuration.{Configuration}
use Rattle.erst_interp.specs.declared.stops.RunStop.{RunStop}
use Rattle.erst_interp.specs.declared.stops.RunStop.TheVariants.{Budget}
use Rattle.erst_interp.specs.Configurations.{begin, next}
use Rattle.erst_interp.specs.Runs.{Run}
use Rattle.erst_interp.specs.Straight.{IsStraight, TakesOnly, StoresOnly, AreStraight, NoEntry, OneEntry, DoFirst, Through, OutOfSteps}
use Rattle.erst_interp.proofs.StraightLemmas.{ran_straight}
use Rattle.erst_port.specs.declared.windows.Addresses.{Addresses}
use Rattle.erst_port.specs.PortState.{IsPort}
use Rattle.erst_port.specs.PortTables.{carries_out, takes}
use Rattle.port_laws.specs.PortSpaces.{SpaceState, caught_up, Goes}
use Rattle.port_laws.proofs.AccessLemmas.{Takes, action_taken, action_served, value_told, value_read_served}
use Rattle.port_laws.proofs.ProgramLemmas.{code_kept}

-- the action is carried out, one step an entry, or the budget ran out before it or behind it
pub data ToldRun (addresses : Addresses) (code budget : ℕ) (first : SpaceState) : Result ℕ RunStop → ℕ → SpaceState → Type 0 where
  IsTold : (left : ℕ) (mid : SpaceState) → Takes addresses first code mid → IsPort first.port → IsPort mid.port → left + 2 ≡ budget →
      ToldRun addresses code budget first (Ok (mid.port.device.value % 2 ^ 64)) left (caught_up mid)
  StopsAtOnce : budget ≡ 0 → ToldRun addresses code budget first (Err Budget) 0 first
  StopsBehind : (mid : SpaceState) → Takes addresses first code mid → IsPort first.port → IsPort mid.port → budget ≡ 1 → ToldRun addresses code budget first (Err Budget) 0 mid

same : {x y : ℕ} → ◌≡◌ {A = Result ℕ SpaceFault} (Ok x) (Ok y) → x ≡ y
same e = cc

module _ (addresses : Addresses) (action : Action) where
  abbrev program : Listed
  program = record { action = code_of action; entries = carries_out addresses.registers action ∷ takes addresses.registers action (2 ^ 64 - 1) ∷ [] }

  abbrev acts : IsStraight (carries_out addresses.registers action)
  acts = StoresOnly WriteRegisterValue (λ task. task.entry.value) (record { place = Memory addresses.registers; access = B32; offset = 0 }) refl (λ task is. refl) refl refl

  abbrev tells : IsStraight (takes addresses.registers action (2 ^ 64 - 1))
  tells = TakesOnly ReadRegister (λ task x. record (next task.at) { result = Some x }) (record {
    place = Memory (addresses.registers + 8);
    access = B64;
    offset = 0;
  }) refl (λ task is. refl) (λ task x. refl) refl

  abbrev straight : AreStraight (Goes addresses) program.entries
  straight =
      OneEntry (carries_out addresses.registers action) (takes addresses.registers action (2 ^ 64 - 1) ∷ []) acts (λ w v number fault h. action_served addresses w v number fault h)
      (OneEntry (takes addresses.registers action (2 ^ 64 - 1)) [] tells (λ w v fault h. value_read_served addresses w v fault h) NoEntry)

  module _ (first : SpaceState) where
    -- the action alone
    record Acted (mid : SpaceState) : Type 0 where
      took : Takes addresses first (code_of action) mid
      before : IsPort first.port
      after : IsPort mid.port

    acted : (mid : SpaceState) → Goes addresses first (Write (Memory addresses.registers) B32 (stored (code_of action) 0 (2 ^ 32 - 1)) (Ok tt)) mid → Acted mid
    acted mid goes = record {
      took = subst (λ (n : ℕ). Takes addresses first n mid) (code_kept action) (action_taken addresses first mid (stored (code_of action) 0 (2 ^ 32 - 1)) (Ok tt) goes).1;
      before = goes.before;
      after = goes.after;
    }

    out_of_steps : (given budget : ℕ) (c : Configuration) (last : SpaceState) → DoFirst (Goes addresses) program given program.entries straight budget begin first c last → budget < 2
        → ToldRun addresses (code_of action) budget first (Err Budget) 0 last
    out_of_steps given zero c last does short = subst (λ (w : SpaceState). ToldRun addresses (code_of action) 0 first (Err Budget) 0 w) (sym does.1) (StopsAtOnce refl)
    out_of_steps given (suc zero) c last does short =
        let one = acted does.1.0 does.1.1.0.1 in
        subst (λ (w : SpaceState). ToldRun addresses (code_of action) 1 first (Err Budget) 0 w) (sym does.1.1.1.1) (StopsBehind does.1.0 one.took one.before one.after refl)
    out_of_steps given (suc (suc n)) c last does short = absurd (omega arith)

    pub told_run : (given budget : ℕ) (result : Result ℕ RunStop) (left : ℕ) (last : SpaceState) → Run (Goes addresses) program given budget first result left last
        → ToldRun addresses (code_of action) budget first result left last
    told_run given budget result left last run =
        elim (ran_straight (Goes addresses) program straight (omega arith) given budget first result left last run) as
        (λ result left last ran. ToldRun addresses (code_of action) budget first result left last) [
          | Through c left last does spent ↦
              let mid = does.1.0 in
              let one = acted mid does.1.1.0.1 in
              let behind = does.1.1.1 in
              let read = value_told addresses mid behind.1.0 (Ok behind.1.1.0.0) behind.1.1.0.1.1 in
              let there : last ≡ caught_up mid = behind.1.1.1.1 ∙ read.1 in
              let number : behind.1.1.0.0 ≡ mid.port.device.value = same read.0 in
              let answer : mid.port.device.value % 2 ^ 64 ≡ unwrap_or c.result given =
              sym (ap (λ (d : Configuration). unwrap_or d.result given) (behind.1.1.1.0 ∙ behind.1.1.0.1.0) ∙ ap (λ (n : ℕ). field n 0 (2 ^ 64 - 1)) number
              ∙ and_mask (mid.port.device.value / 2 ^ 0) 64 ∙ (omega arith)) in
              subst (λ (n : ℕ). ToldRun addresses (code_of action) budget first (Ok n) left last) answer
              (subst (λ (w : SpaceState). ToldRun addresses (code_of action) budget first (Ok (mid.port.device.value % 2 ^ 64)) left w) (sym there)
              (IsTold left mid one.took one.before one.after spent))
          | OutOfSteps c last does short ↦ out_of_steps given budget c last does short
        ]
