-- A move stops only where its steps run out.
use Rattle.std.proofs.Common.{◌≡◌, ◌∙◌, ℕ, ◌+◌, ◌-◌, ◌*◌, ◌%◌, ◌^◌, ◌<◌, ◌≤◌, List, length, Some, Err, refl, sym, ap, subst, arith}
use Rattle.std.specs.Prelude.{slice_get}
use Rattle.std.proofs.lemmas.Option.{same_Some}
use Rattle.apei_space.specs.Calls.{Call, Copy}
use Rattle.erst_entries.specs.declared.actions.Action.{Action}
use Rattle.erst_entries.specs.declared.entries.Entry.{Entry}
use Rattle.erst_entries.specs.declared.instructions.Instruction.TheVariants.{WriteRegisterValue, StoreVar1, Add, SkipNextIfTrue, Goto, MoveData}
use Rattle.erst_entries.specs.Programs.{Listed}
use Rattle.erst_interp.specs.declared.configurations.Configuration.{Configuration}
use Rattle.erst_interp.specs.declared.stops.RunStop.{RunStop}
use Rattle.erst_interp.specs.declared.stops.RunStop.TheVariants.{Budget}
use Rattle.erst_interp.specs.Instructions.{Work}
use Rattle.erst_interp.specs.Steps.{Halt, blocks}
use Rattle.erst_interp.specs.Runs.{task_of}
use Rattle.erst_machine.specs.OwnTables.{register_of}
use Rattle.erst_shadow.specs.MoveEntries.{MoveRegister, Offset, Source, Target, Length, plain_entry, address_of, put_number, use_register, move_entries}
use Rattle.erst_shadow.specs.MoveSpaces.{AreAddressable}
use Rattle.erst_shadow.specs.MoveRuns.{move_then, move_steps}
use Rattle.erst_interp.proofs.StepLemmas.{IsUnpaid, IsTooLong, IsNotRead, IsNotCopied, HaltBy, halt_by}
use Rattle.erst_shadow.proofs.EntryLemmas.{Taken, of_source, of_target, of_var1, of_var2, register_at, no_fault, reads_number, reads_always, writes_always}
use Rattle.erst_shadow.proofs.StageLemmas.{Stage, First, Second, Third, Fourth, Fifth, Sixth, Seventh, Head, Copied, Loaded, Added, Kept, Again, Done, cost}
use Rattle.erst_shadow.proofs.StageLemmas.{IsStage, stage_at, stage_in, stage_fits, rounds_hold}
use Rattle.erst_shadow.proofs.Serving.{ServesMove}

-- the budget had fewer steps than were needed
pub record OutOfSteps {W : Type 0} (paid needs : ℕ) (old : W) (stop : RunStop) (left : ℕ) (new : W) : Type 0 where
  pub stop_is : stop ≡ Budget
  pub left_is : left ≡ 0
  pub new_is : new ≡ old
  pub short : paid < needs

module _ {W : Type 0} (allows : W → Call → W → Type 0) (fits : W → Type 0) (from target count : ℕ) (space : ServesMove allows fits from target count) where
  module _ (program : Listed) (given : ℕ) (action : Action) where
    no_stop_put : (r : MoveRegister) (value : ℕ) (entry : Entry) (c : Configuration) (paid : ℕ) (old : W) (stop : RunStop) (left : ℕ) (new : W) → put_number action r value ≡ entry → fits old
        → Halt allows (task_of program given entry c) paid old stop left new → ⊥
    no_stop_put r value entry c paid old stop left new is fit halt =
        let why = halt_by allows (task_of program given (put_number action r value) c) WriteRegisterValue refl (λ used. (register_at r, refl)) paid old stop left new
        (subst (λ (e : Entry). Halt allows (task_of program given e c) paid old stop left new) (sym is) halt) in
        writes_always allows fits from target count space r why.0 action 0x3 value value old new why.1 why.2 why.3 fit

    no_stop_store : (r : MoveRegister) (entry : Entry) (c : Configuration) (paid : ℕ) (old : W) (stop : RunStop) (left : ℕ) (new : W) → use_register action 0x07 r ≡ entry → fits old
        → Halt allows (task_of program given entry c) paid old stop left new → ⊥
    no_stop_store r entry c paid old stop left new is fit halt =
        let why = halt_by allows (task_of program given (use_register action 0x07 r) c) StoreVar1 refl (λ used. (register_at r, refl)) paid old stop left new
        (subst (λ (e : Entry). Halt allows (task_of program given e c) paid old stop left new) (sym is) halt) in
        writes_always allows fits from target count space r why.0 action 0x07 0 c.var1 old new why.1 why.2 why.3 fit

    no_stop_taking : (into : Taken) (r : MoveRegister) (entry : Entry) (c : Configuration) (paid : ℕ) (old : W) (stop : RunStop) (left : ℕ) (new : W) →
        use_register action into.code r ≡ entry → fits old
        → Halt allows (task_of program given entry c) paid old stop left new → ⊥
    no_stop_taking into r entry c paid old stop left new is fit halt =
        let task = task_of program given (use_register action into.code r) c in
        let why = subst (λ (w : Work). HaltBy allows task paid old w stop left new) (into.works task)
        (halt_by allows task into.instruction into.has_code (λ used. (register_at r, refl)) paid old stop left new
        (subst (λ (e : Entry). Halt allows (task_of program given e c) paid old stop left new) (sym is) halt)) in
        reads_always allows fits from target count space r why.0 old new why.1 why.2 why.3 fit

    no_stop_skip : (r : MoveRegister) (size : ℕ) (entry : Entry) (c : Configuration) (paid : ℕ) (old : W) (stop : RunStop) (left : ℕ) (new : W) →
        plain_entry action 0x0E (register_of 64 4 (address_of r)) size (2 ^ 64 - 1) ≡ entry → fits old
        → Halt allows (task_of program given entry c) paid old stop left new → ⊥
    no_stop_skip r size entry c paid old stop left new is fit halt =
        let why = halt_by allows (task_of program given (plain_entry action 0x0E (register_of 64 4 (address_of r)) size (2 ^ 64 - 1)) c) SkipNextIfTrue refl
        (λ used. (register_at r, refl)) paid old stop left new
        (subst (λ (e : Entry). Halt allows (task_of program given e c) paid old stop left new) (sym is) halt) in
        reads_always allows fits from target count space r why.0 old new why.1 why.2 why.3 fit

    no_stop_add : (entry : Entry) (c : Configuration) (paid : ℕ) (old : W) (stop : RunStop) (left : ℕ) (new : W) → plain_entry action 0x08 (register_of 0 0 0) 0 0 ≡ entry
        → Halt allows (task_of program given entry c) paid old stop left new → ⊥
    no_stop_add entry c paid old stop left new is halt =
        halt_by allows (task_of program given (plain_entry action 0x08 (register_of 0 0 0) 0 0) c) Add refl (λ used. absurd (cc used)) paid old stop left new
        (subst (λ (e : Entry). Halt allows (task_of program given e c) paid old stop left new) (sym is) halt)

    no_stop_goto : (to : ℕ) (entry : Entry) (c : Configuration) (paid : ℕ) (old : W) (stop : RunStop) (left : ℕ) (new : W) →
        plain_entry action 0x0F (register_of 0 0 0) to 0 ≡ entry → to < length program.entries
        → Halt allows (task_of program given entry c) paid old stop left new → ⊥
    no_stop_goto to entry c paid old stop left new is within halt =
        let beyond = halt_by allows (task_of program given (plain_entry action 0x0F (register_of 0 0 0) to 0) c) Goto refl (λ used. absurd (cc used)) paid old stop left new
        (subst (λ (e : Entry). Halt allows (task_of program given e c) paid old stop left new) (sym is) halt) in
        omega (arith, beyond, within)

    stop_copy : (r : MoveRegister) (i : ℕ) (entry : Entry) (c : Configuration) (paid : ℕ) (old : W) (stop : RunStop) (left : ℕ) (new : W) →
        use_register action 0x12 r ≡ entry → space.value r old ≡ 128 * i → i < count
        → from + 128 * count < 2 ^ 64 → target + 128 * count < 2 ^ 64 → c.source ≡ from → c.target ≡ target → c.var2 ≡ 128 → fits old
        → Halt allows (task_of program given entry c) paid old stop left new → OutOfSteps paid 2 old stop left new
    stop_copy r i entry c paid old stop left new is value_is within source_fits target_fits source_is target_is size_is fit halt =
        let why = halt_by allows (task_of program given (use_register action 0x12 r) c) MoveData refl (λ used. (register_at r, refl)) paid old stop left new
        (subst (λ (e : Entry). Halt allows (task_of program given e c) paid old stop left new) (sym is) halt) in
        elim why as (λ stop left new why. OutOfSteps paid 2 old stop left new) [
          | IsUnpaid register x new region read short ↦
              let got = reads_number allows fits from target count space r register old new x (128 * i) region read fit value_is (omega (arith, within, source_fits)) in
              record { stop_is = refl; left_is = refl; new_is = got.1; short = subst (λ (n : ℕ). paid < n) (ap blocks size_is) short }
          | IsTooLong stop left new more ↦ absurd (omega (arith, more, size_is))
          | IsNotRead stop left new refused ↦ absurd (reads_always allows fits from target count space r refused.0 old new refused.1 refused.2 refused.3 fit)
          | IsNotCopied stop left register x fault mid new region read copies ↦
              let got = reads_number allows fits from target count space r register old mid x (128 * i) region read fit value_is (omega (arith, within, source_fits)) in
              let source : (c.source + x) % 2 ^ 64 ≡ from + 128 * i = ap (λ (n : ℕ). (n + x) % 2 ^ 64) source_is ∙ ap (λ (n : ℕ). (from + n) % 2 ^ 64) got.0 ∙ (omega (arith, within, source_fits)) in
              let sink : (c.target + x) % 2 ^ 64 ≡ target + 128 * i = ap (λ (n : ℕ). (n + x) % 2 ^ 64) target_is ∙ ap (λ (n : ℕ). (target + n) % 2 ^ 64) got.0 ∙ (omega (arith, within, target_fits)) in
              let asked = subst (λ (n : ℕ). allows old (Copy n (target + 128 * i) 128 (Err fault)) new) source
              (subst (λ (n : ℕ). allows old (Copy ((c.source + x) % 2 ^ 64) n 128 (Err fault)) new) sink
              (subst (λ (n : ℕ). allows old (Copy ((c.source + x) % 2 ^ 64) ((c.target + x) % 2 ^ 64) n (Err fault)) new) size_is
              (subst (λ (w : W). allows w (Copy ((c.source + x) % 2 ^ 64) ((c.target + x) % 2 ^ 64) c.var2 (Err fault)) new) got.1 copies))) in
              absurd (no_fault tt fault (space.copies old new i (Err fault) fit within asked).0)
        ]

  module _ (below : AreAddressable from target count) (action : Action) (behind : List Entry) (given : ℕ) (first : W) (fit : fits first) where
    pub stage_stops : (stage : Stage) → IsStage count stage → (stage ≡ Done → ⊥) → (entry : Entry) →
        slice_get (move_then action from target count behind).entries (stage_at from target count stage).place ≡ Some entry
        → (paid : ℕ) (stop : RunStop) (left : ℕ) (new : W)
        → Halt allows (task_of (move_then action from target count behind) given entry (stage_at from target count stage)) paid
        (stage_in allows fits from target count space below first stage) stop left new
        → OutOfSteps paid 2 (stage_in allows fits from target count space below first stage) stop left new × (cost count stage + 3 ≤ move_steps count)
    unfolding move_entries
    stage_stops First is not entry here paid stop left new halt =
        absurd (no_stop_put (move_then action from target count behind) given action Source from entry _ paid _ stop left new (same_Some _ _ here) fit halt)
    stage_stops Second is not entry here paid stop left new halt =
        absurd (no_stop_put (move_then action from target count behind) given action Target target entry _ paid _ stop left new (same_Some _ _ here)
        (stage_fits allows fits from target count space below first fit Second tt) halt)
    stage_stops Third is not entry here paid stop left new halt =
        absurd (no_stop_put (move_then action from target count behind) given action Length 128 entry _ paid _ stop left new (same_Some _ _ here)
        (stage_fits allows fits from target count space below first fit Third tt) halt)
    stage_stops Fourth is not entry here paid stop left new halt =
        absurd (no_stop_put (move_then action from target count behind) given action Offset 0 entry _ paid _ stop left new (same_Some _ _ here)
        (stage_fits allows fits from target count space below first fit Fourth tt) halt)
    stage_stops Fifth is not entry here paid stop left new halt =
        absurd (no_stop_taking (move_then action from target count behind) given action of_source Source entry _ paid _ stop left new (same_Some _ _ here)
        (stage_fits allows fits from target count space below first fit Fifth tt) halt)
    stage_stops Sixth is not entry here paid stop left new halt =
        absurd (no_stop_taking (move_then action from target count behind) given action of_target Target entry _ paid _ stop left new (same_Some _ _ here)
        (stage_fits allows fits from target count space below first fit Sixth tt) halt)
    stage_stops Seventh is not entry here paid stop left new halt =
        absurd (no_stop_taking (move_then action from target count behind) given action of_var2 Length entry _ paid _ stop left new (same_Some _ _ here)
        (stage_fits allows fits from target count space below first fit Seventh tt) halt)
    stage_stops (Head i) is not entry here paid stop left new halt =
        let holds = rounds_hold allows fits from target count space below first fit i (omega arith) in (
          stop_copy (move_then action from target count behind) given action Offset i entry _ paid _ stop left new (same_Some _ _ here) holds.offset is
              below.source below.target_is refl refl refl holds.fit halt,
          omega arith,
        )
    stage_stops (Copied i) is not entry here paid stop left new halt =
        absurd (no_stop_taking (move_then action from target count behind) given action of_var1 Offset entry _ paid _ stop left new (same_Some _ _ here)
        (stage_fits allows fits from target count space below first fit (Copied i) is) halt)
    stage_stops (Loaded i) is not entry here paid stop left new halt =
        absurd (no_stop_add (move_then action from target count behind) given action entry _ paid _ stop left new (same_Some _ _ here) halt)
    stage_stops (Added i) is not entry here paid stop left new halt =
        absurd (no_stop_store (move_then action from target count behind) given action Offset entry _ paid _ stop left new (same_Some _ _ here)
        (stage_fits allows fits from target count space below first fit (Added i) is) halt)
    stage_stops (Kept i) is not entry here paid stop left new halt =
        absurd (no_stop_skip (move_then action from target count behind) given action Offset (128 * count) entry _ paid _ stop left new (same_Some _ _ here)
        (stage_fits allows fits from target count space below first fit (Kept i) is) halt)
    stage_stops (Again i) is not entry here paid stop left new halt =
        absurd (no_stop_goto (move_then action from target count behind) given action 7 entry _ paid _ stop left new (same_Some _ _ here) (omega arith) halt)
    stage_stops Done is not entry here paid stop left new halt = absurd (not refl)
