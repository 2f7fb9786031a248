-- Attaching to the table never fails.
use Rattle.std.proofs.Common.{◌≡◌, ◌∙◌, ℕ, ◌+◌, ◌-◌, ◌*◌, ◌/◌, ◌%◌, ◌^◌, ◌≤◌, ◌<◌, Bool, cond, List, [], ◌∷◌, length, Some, Result, Ok, Err, refl, sym, ap, subst, arith}
use Rattle.std.specs.Prelude.{unwrap_or}
use Rattle.std.proofs.lemmas.Bool.{le-ltb}
use Rattle.std.proofs.lemmas.Nat.{and_mask}
use Rattle.base_model.specs.Bytes.{spelled, put_at}
use Rattle.base_model.proofs.BytesLemmas.{length-put_at, length-spelled}
use Rattle.apei_tables.specs.declared.registers.Register.{Register}
use Rattle.apei_tables.specs.declared.registers.Place.TheVariants.{Memory}
use Rattle.apei_tables.specs.declared.widths.Width.TheVariants.{B64}
use Rattle.apei_tables.specs.Fields.{field, stored}
use Rattle.apei_space.specs.declared.faults.SpaceFault.{SpaceFault}
use Rattle.erst_entries.specs.declared.actions.Action.{Action}
use Rattle.erst_entries.specs.declared.actions.Action.TheVariants.{GetErrorLogAddressRange, GetErrorLogAddressRangeLength, GetErrorLogAddressRangeAttributes, GetExecuteOperationTimings}
use Rattle.erst_entries.specs.declared.instructions.Instruction.TheVariants.{ReadRegister, WriteRegisterValue}
use Rattle.erst_entries.specs.Actions.{code_of}
use Rattle.erst_entries.specs.Programs.{Listed, entries_of, program_of}
use Rattle.erst_interp.specs.declared.configurations.Configuration.{Configuration}
use Rattle.erst_interp.specs.declared.stops.RunStop.{RunStop}
use Rattle.erst_interp.specs.Configurations.{next}
use Rattle.erst_interp.specs.Runs.{Run}
use Rattle.erst_interp.specs.Straight.{IsStraight, TakesOnly, StoresOnly, AreStraight, NoEntry, OneEntry, Through, OutOfSteps}
use Rattle.erst_client.specs.declared.errors.AttachError.{AttachError}
use Rattle.erst_client.specs.declared.errors.AttachError.TheVariants.{NoRange}
use Rattle.erst_client.specs.declared.requests.Request.{Request}
use Rattle.erst_client.specs.Requests.{Asks, Performs}
use Rattle.erst_client.specs.Commands.{ClientState}
use Rattle.erst_client.specs.Attaching.{Attaches, attach_requests}
use Rattle.erst_device.specs.DeviceState.{DeviceState}
use Rattle.erst_device.specs.Timings.{most_changes, timings_of}
use Rattle.erst_client.specs.Steps.{steps_of}
use Rattle.erst_machine.specs.MachineState.{MachineState, IsMachine}
use Rattle.erst_machine.specs.Allowed.{Allows}
use Rattle.erst_machine.specs.OwnTables.{own_entries}
use Rattle.erst_commands.specs.OwnPrograms.{with_value, OwnProgramsRun}
use Rattle.erst_commands.proofs.ActionCases.{tells_number}
use Rattle.erst_commands.proofs.MachineSteps.{acted_is}
use Rattle.erst_commands.proofs.OwnProgramLemmas.{StraightRuns, has_steps}
use Rattle.erst_commands.proofs.AskLemmas.{with_answer, FirstAsked, Went, Halted, first_asked, none_asked}
use Rattle.erst_commands.proofs.LimitLemmas.{timings-halves}
use Rattle.erst_shadow.specs.MoveEntries.{MoveRegister, Offset, Source, Length, address_of, put_number, use_register, move_entries}
use Rattle.erst_shadow.proofs.PlainLemmas.{number-put}
use Rattle.erst_shadow.specs.ShadowTables.{shadow_entries, shadow_erst}
use Rattle.erst_shadow.specs.ShadowMoves.{holding}
use Rattle.erst_shadow.specs.ShadowCommands.{pieces_in, shadow_client, AttachesShadow}
use Rattle.erst_shadow.proofs.MoveLemmas.{put, value, place_in, register_low, register_read, register_written}
use Rattle.erst_shadow.proofs.ProgramLemmas.{performs_own}
use Rattle.erst_shadow.proofs.CommandLemmas.{holds_pieces}
use Rattle.erst_client.proofs.Terms.{client_of, attached}
use Rattle.erst_shadow.proofs.Terms.{HoldsPieces, scratch_at}

abbrev register_at : MoveRegister → Register
register_at r = record { place = Memory (address_of r); access = B64; offset = 0 }

no_fault : {T : Type 0} (x : T) (fault : SpaceFault) → Err fault ≡ Ok x → ⊥
no_fault x fault e = absurd (cc)

same_number : (x y : ℕ) → ◌≡◌ {A = Result ℕ SpaceFault} (Ok x) (Ok y) → x ≡ y
same_number x y e = cc

-- a program that tells a number

abbrev tell_entries : Action → MoveRegister → ℕ → Listed
tell_entries action r number = record { action = code_of action; entries = put_number action r number ∷ use_register action 0x0 r ∷ [] }

sets : (action : Action) (r : MoveRegister) (number : ℕ) → IsStraight (put_number action r number)
sets action r number = StoresOnly WriteRegisterValue (λ task. task.entry.value) (register_at r) refl (λ task is. refl) refl refl

reads : (action : Action) (r : MoveRegister) → IsStraight (use_register action 0x0 r)
reads action r = TakesOnly ReadRegister (λ task x. record (next task.at) { result = Some x }) (register_at r) refl (λ task is. refl) (λ task x. refl) refl

tell_straight : (tells : Type 0) (action : Action) (r : MoveRegister) (number : ℕ) → AreStraight (Allows tells) (put_number action r number ∷ use_register action 0x0 r ∷ [])
unfolding sets reads
tell_straight tells action r number =
    OneEntry (put_number action r number) (use_register action 0x0 r ∷ []) (sets action r number) (λ w v n fault h. no_fault tt fault (register_written tells w v r n (Err fault) h).0)
    (OneEntry (use_register action 0x0 r) [] (reads action r) (λ w v fault h. no_fault (value r w) fault (register_read tells w v r (Err fault) h).0) NoEntry)

pub record TellsNumber (number budget : ℕ) (old : MachineState) (result : Result ℕ RunStop) (left : ℕ) (last : MachineState) : Type 0 where
  pub answer : result ≡ Ok number
  pub left_is : left + 2 ≡ budget
  pub long : length last.memory.scratch ≡ 4096
  pub beside : last ≡ holding old.memory.range last.memory.scratch old

tells_number_in : (tells : Type 0) → StraightRuns tells → (action : Action) (r : MoveRegister) (number budget : ℕ) (old : MachineState)
    (result : Result ℕ RunStop) (left : ℕ) (last : MachineState) → number < 2 ^ 64 → length old.memory.scratch ≡ 4096 → 2 ≤ budget
    → Run (Allows tells) (tell_entries action r number) 0 budget old result left last → TellsNumber number budget old result left last
unfolding tell_straight sets reads
tells_number_in tells law action r number budget old result left last small long enough run =
    elim (law (tell_entries action r number) (tell_straight tells action r number) 0 budget old result left last (omega arith) run) as
    (λ result left last ran. TellsNumber number budget old result left last) [
      | Through c left last does spent ↦
          let between = does.1.0 in
          let wrote = register_written tells old between r (stored number 0 (2 ^ 64 - 1)) (Ok tt) does.1.1.0.1 in
          let number_is : stored number 0 (2 ^ 64 - 1) ≡ number = ap (λ (x : ℕ). x * 2 ^ 0 % 2 ^ 64) (and_mask number 64) ∙ (omega arith) in
          let mid_is : between ≡ put r number old = wrote.1 ∙ ap (λ (n : ℕ). put r n old) number_is in
          let behind = does.1.1.1 in
          let end = behind.1.0 in
          let told = behind.1.1.0 in
          let read = register_read tells between end r (Ok told.0) told.1.1 in
          let low = (register_low r).1 in
          let value_is : value r between ≡ number = ap (value r) mid_is ∙ number-put old.memory.scratch (place_in r) number (omega (arith, low, long)) small in
          let shown : told.0 ≡ number = same_number told.0 (value r between) read.0 ∙ value_is in
          let result_is : unwrap_or c.result 0 ≡ number =
          ap (λ (d : Configuration). unwrap_or d.result 0) (behind.1.1.1.0 ∙ told.1.0) ∙ ap (λ (n : ℕ). field n 0 (2 ^ 64 - 1)) shown ∙ and_mask (number / 2 ^ 0) 64 ∙ (omega arith) in
          let last_is : last ≡ put r number old = behind.1.1.1.1 ∙ read.1 ∙ mid_is in
          let scratch_is : last.memory.scratch ≡ put_at old.memory.scratch (place_in r) (spelled 8 number) = ap (λ (m : MachineState). m.memory.scratch) last_is in
          record {
            answer = ap (λ (n : ℕ). Ok n) result_is;
            left_is = spent;
            long = ap (λ (xs : List ℕ). length xs) scratch_is ∙ length-put_at old.memory.scratch (place_in r) (spelled 8 number) (omega (arith, low, long, length-spelled 8 number)) ∙ long;
            beside = last_is ∙ ap (λ (xs : List ℕ). holding old.memory.range xs old) (sym scratch_is);
          }
      | OutOfSteps c last does short ↦ absurd (omega (arith, short, enough))
    ]

program-range : (pieces : ℕ) → program_of 0xD (shadow_entries pieces) ≡ tell_entries GetErrorLogAddressRange Source scratch_at
unfolding shadow_entries entries_of move_entries
program-range pieces = refl

program-length : (pieces : ℕ) → program_of 0xE (shadow_entries pieces) ≡ tell_entries GetErrorLogAddressRangeLength Length (128 * pieces)
unfolding shadow_entries entries_of move_entries
program-length pieces = refl

program-attributes : (pieces : ℕ) → program_of 0xF (shadow_entries pieces) ≡ tell_entries GetErrorLogAddressRangeAttributes Offset 0
unfolding shadow_entries entries_of move_entries
program-attributes pieces = refl

steps_timings : steps_of own_entries GetExecuteOperationTimings ≡ 2
unfolding own_entries entries_of
steps_timings = refl

abbrev request_of : Action → Request
request_of action = record { action = action; given = 0 }

requests-shadow : (pieces : ℕ) → attach_requests (shadow_entries pieces)
    ≡ request_of GetErrorLogAddressRange ∷ request_of GetErrorLogAddressRangeLength ∷ request_of GetErrorLogAddressRangeAttributes ∷ request_of GetExecuteOperationTimings ∷ []
unfolding shadow_entries entries_of move_entries
requests-shadow pieces = refl

same_answer : (x y : ℕ) → ◌≡◌ {A = Result ℕ RunStop} (Ok x) (Ok y) → x ≡ y
same_answer x y e = cc

stop_no : (answer : ℕ) (stop : RunStop) → Err stop ≡ Ok answer → ⊥
stop_no answer stop e = absurd (cc)

-- the client of the four answers
finds_client : (first : MachineState) (b d : ℕ) → 128 ≤ b → b ≡ 128 * pieces_in first → d ≡ timings_of first.device.store.layout % 2 ^ 64
    → attached (shadow_erst (pieces_in first)) (Ok (scratch_at ∷ b ∷ 0 ∷ d ∷ [])) ≡ Ok (shadow_client first)
finds_client first b d least b_is d_is =
    let erst = shadow_erst (pieces_in first) in
    let times = timings-halves first.device.store.layout in
    let greatest : d / 2 ^ 32 ≡ 10 * most_changes first.device.store.layout = ap (λ (n : ℕ). n / 2 ^ 32) d_is ∙ times.0 in
    let nominal : d % 2 ^ 32 ≡ 10 * (first.device.store.layout.per_slot + 4) = ap (λ (n : ℕ). n % 2 ^ 32) d_is ∙ times.1 in
    ap (λ (t : Bool). cond {A = Result ClientState AttachError} t (Err (NoRange b)) (Ok (client_of erst (scratch_at ∷ b ∷ 0 ∷ d ∷ [])))) (le-ltb b 128 least)
    ∙ ap (λ (n : ℕ). Ok (record { table = erst; address = scratch_at; range = n; timings = Some (d / 2 ^ 32, d % 2 ^ 32) })) b_is
    ∙ ap (λ (n : ℕ). Ok (record { table = erst; address = scratch_at; range = 128 * pieces_in first; timings = Some (n, d % 2 ^ 32) })) greatest
    ∙ ap (λ (n : ℕ). Ok (record { table = erst; address = scratch_at; range = 128 * pieces_in first; timings = Some (10 * most_changes first.device.store.layout, n) })) nominal

-- all but the scratch memory is as it was
abbrev OnlyScratch : MachineState → MachineState → Type 0
OnlyScratch first w = w ≡ holding first.memory.range w.memory.scratch first

scratch_then : (first w v : MachineState) → OnlyScratch first w → OnlyScratch w v → OnlyScratch first v
scratch_then first w v is next =
    next ∙ ap (λ (m : MachineState). holding w.memory.range v.memory.scratch m) is ∙ ap (λ (r : List ℕ). holding r v.memory.scratch first) (ap (λ (m : MachineState). m.memory.range) is)

pub attaches_shadow : (tells : Type 0) → StraightRuns tells → OwnProgramsRun tells → (budget : ℕ) (first : MachineState)
    (result : Result ClientState AttachError) (left : ℕ) (last : MachineState) → IsMachine first → 8 ≤ budget
    → Attaches (Allows tells) (shadow_erst (pieces_in first)) budget first result left last → AttachesShadow budget first result left last
attaches_shadow tells law own budget first result left last machine enough attaches =
    by_first (first_asked (Allows tells) (shadow_entries (pieces_in first)) _ _ budget first attaches.answers left last
    (subst (λ (rs : List Request). Asks (Allows tells) (shadow_entries (pieces_in first)) rs budget first attaches.answers left last)
    (requests-shadow (pieces_in first)) attaches.asks))
  where
    rooms : HoldsPieces first (pieces_in first)
    rooms = holds_pieces first machine

    told_range : (result : Result ℕ RunStop) (left : ℕ) (last : MachineState) → Performs (Allows tells) (shadow_entries (pieces_in first))
        GetErrorLogAddressRange 0 budget first result left last → TellsNumber scratch_at budget first result left last
    told_range result left last run = tells_number_in tells law GetErrorLogAddressRange Source scratch_at budget first result left last (omega arith) rooms.scratch (omega arith)
        (subst (λ (p : Listed). Run (Allows tells) p 0 budget first result left last) (program-range (pieces_in first)) run)

    by_fourth : (left3 : ℕ) (w3 : MachineState) (others : Result (List ℕ) RunStop) → OnlyScratch first w3 → length w3.memory.scratch ≡ 4096 →
        left3 + 6 ≡ budget → attaches.answers ≡ with_answer scratch_at (with_answer (128 * (pieces_in first)) (with_answer 0 others))
        → FirstAsked (Allows tells) (shadow_entries (pieces_in first)) (request_of GetExecuteOperationTimings) [] left3 w3 others left last → AttachesShadow budget first result left last
    by_fourth left3 w3 others is long spent answers_are asked = elim asked [
      | Went d left4 w4 none run more joined ↦
          let made = has_steps tells GetExecuteOperationTimings 0 left3 w3 (Ok d) left4 w4 (omega (arith, spent, enough))
          (own GetExecuteOperationTimings 0 left3 w3 (Ok d) left4 w4 (performs_own tells (pieces_in first) GetExecuteOperationTimings tt 0 left3 w3 (Ok d) left4 w4 run)) in
          let told = tells_number tells GetExecuteOperationTimings (timings_of w3.device.store.layout) w3.device w3.memory.range w4.device w4.memory.range refl made.acted.acts in
          let same : w3.device ≡ first.device = ap (λ (m : MachineState). m.device) is in
          let times : timings_of w3.device.store.layout ≡ timings_of first.device.store.layout = ap (λ (d : DeviceState). timings_of d.store.layout) same in
          let there : w4 ≡ with_value (timings_of w3.device.store.layout) w3 =
          acted_is tells w3 0x10 w4 (record w3.device { value = timings_of w3.device.store.layout }) made.acted told.new_is told.range_is in
          let d_is : d ≡ timings_of first.device.store.layout % 2 ^ 64 = same_answer d _ made.answer ∙ ap (λ (m : MachineState). m.device.value % 2 ^ 64) there ∙ ap (λ (n : ℕ). n % 2 ^ 64) times in
          let end = none_asked (Allows tells) (shadow_entries (pieces_in first)) left4 w4 none left last more in
          let answers : attaches.answers ≡ Ok (scratch_at ∷ 128 * (pieces_in first) ∷ 0 ∷ d ∷ []) =
          answers_are ∙ ap (λ (r : Result (List ℕ) RunStop). with_answer scratch_at (with_answer (128 * (pieces_in first)) (with_answer 0 r))) (joined ∙ ap (with_answer d) end.result_is) in
          let last_is : last ≡ with_value (timings_of first.device.store.layout) w3 = end.last_is ∙ there ∙ ap (λ (n : ℕ). with_value n w3) times in
          let some = rooms.some in
          let two = made.spent in
          record {
            result_is = attaches.result_is ∙ ap (attached (shadow_erst (pieces_in first))) answers ∙ finds_client first (128 * (pieces_in first)) d (omega arith) refl d_is;
            left_is = omega (arith, end.left_is, two, steps_timings, spent);
            scratch = ap (λ (m : MachineState). length m.memory.scratch) last_is ∙ long;
            last_is = last_is ∙ ap (λ (m : MachineState). with_value (timings_of first.device.store.layout) m) is
                ∙ ap (λ (m : MachineState). holding first.memory.range m.memory.scratch (with_value (timings_of first.device.store.layout) first)) (sym last_is);
          }
      | Halted stop run is_stop ↦
          let made = has_steps tells GetExecuteOperationTimings 0 left3 w3 (Err stop) left last (omega (arith, spent, enough))
          (own GetExecuteOperationTimings 0 left3 w3 (Err stop) left last (performs_own tells (pieces_in first) GetExecuteOperationTimings tt 0 left3 w3 (Err stop) left last run)) in
          absurd (stop_no _ stop made.answer)
    ]

    by_third : (left2 : ℕ) (w2 : MachineState) (others : Result (List ℕ) RunStop) → OnlyScratch first w2 → length w2.memory.scratch ≡ 4096 →
        left2 + 4 ≡ budget → attaches.answers ≡ with_answer scratch_at (with_answer (128 * (pieces_in first)) others)
        → FirstAsked (Allows tells) (shadow_entries (pieces_in first)) (request_of GetErrorLogAddressRangeAttributes)
        (request_of GetExecuteOperationTimings ∷ []) left2 w2 others left last → AttachesShadow budget first result left last
    by_third left2 w2 others is long spent answers_are asked = elim asked [
      | Went c left3 w3 more_others run more joined ↦
          let told = tells_number_in tells law GetErrorLogAddressRangeAttributes Offset 0 left2 w2 (Ok c) left3 w3 (omega arith) long
          (omega (arith, spent, enough)) (subst (λ (p : Listed). Run (Allows tells) p 0 left2 w2 (Ok c) left3 w3) (program-attributes (pieces_in first)) run)
          in
          by_fourth left3 w3 more_others (scratch_then first w2 w3 is told.beside) told.long (omega (arith, told.left_is, spent))
          (answers_are ∙ ap (λ (r : Result (List ℕ) RunStop). with_answer scratch_at (with_answer (128 * (pieces_in first)) r))
          (joined ∙ ap (λ (n : ℕ). with_answer n more_others) (same_answer c 0 told.answer)))
          (first_asked (Allows tells) (shadow_entries (pieces_in first)) _ _ left3 w3 more_others left last more)
      | Halted stop run is_stop ↦
          let told = tells_number_in tells law GetErrorLogAddressRangeAttributes Offset 0 left2 w2 (Err stop) left last (omega arith) long
          (omega (arith, spent, enough)) (subst (λ (p : Listed). Run (Allows tells) p 0 left2 w2 (Err stop) left last) (program-attributes (pieces_in first))
          run) in
          absurd (stop_no _ stop told.answer)
    ]

    by_second : (left1 : ℕ) (w1 : MachineState) (others : Result (List ℕ) RunStop) → OnlyScratch first w1 → length w1.memory.scratch ≡ 4096 →
        left1 + 2 ≡ budget → attaches.answers ≡ with_answer scratch_at others
        → FirstAsked (Allows tells) (shadow_entries (pieces_in first)) (request_of GetErrorLogAddressRangeLength)
        (request_of GetErrorLogAddressRangeAttributes ∷ request_of GetExecuteOperationTimings ∷ []) left1 w1 others left last
        → AttachesShadow budget first result left last
    by_second left1 w1 others is long spent answers_are asked = elim asked [
      | Went b left2 w2 more_others run more joined ↦
          let told = tells_number_in tells law GetErrorLogAddressRangeLength Length (128 * (pieces_in first)) left1 w1 (Ok b) left2 w2
          (omega (arith, rooms.few)) long (omega (arith, spent, enough)) (subst (λ (p : Listed). Run (Allows tells) p 0 left1 w1 (Ok b) left2 w2)
          (program-length (pieces_in first)) run) in
          by_third left2 w2 more_others (scratch_then first w1 w2 is told.beside) told.long (omega (arith, told.left_is, spent))
          (answers_are ∙ ap (λ (r : Result (List ℕ) RunStop). with_answer scratch_at r) (joined ∙ ap (λ (n : ℕ). with_answer n more_others) (same_answer b (128 * (pieces_in first)) told.answer)))
          (first_asked (Allows tells) (shadow_entries (pieces_in first)) _ _ left2 w2 more_others left last more)
      | Halted stop run is_stop ↦
          let told = tells_number_in tells law GetErrorLogAddressRangeLength Length (128 * (pieces_in first)) left1 w1 (Err stop) left last
          (omega (arith, rooms.few)) long (omega (arith, spent, enough)) (subst (λ (p : Listed). Run (Allows tells) p 0 left1 w1 (Err stop) left last)
          (program-length (pieces_in first)) run) in
          absurd (stop_no _ stop told.answer)
    ]

    by_first : FirstAsked (Allows tells) (shadow_entries (pieces_in first)) (request_of GetErrorLogAddressRange)
        (request_of GetErrorLogAddressRangeLength ∷ request_of GetErrorLogAddressRangeAttributes ∷ request_of GetExecuteOperationTimings ∷ []) budget first
        attaches.answers left last → AttachesShadow budget first result left last
    by_first asked = elim asked [
      | Went a left1 w1 others run more joined ↦
          let told = told_range (Ok a) left1 w1 run in
          by_second left1 w1 others told.beside told.long told.left_is
          (joined ∙ ap (λ (n : ℕ). with_answer n others) (same_answer a scratch_at told.answer)) (first_asked (Allows tells) (shadow_entries (pieces_in first)) _ _ left1 w1 others left last more)
      | Halted stop run is_stop ↦
          let told = told_range (Err stop) left last run in
          absurd (stop_no _ stop told.answer)
    ]
