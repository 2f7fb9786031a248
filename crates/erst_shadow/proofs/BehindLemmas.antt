-- What stands behind a move runs as a program of its own.
use Rattle.std.proofs.Common.{◌≡◌, ◌∙◌, ℕ, suc, ◌+◌, ◌*◌, ◌<◌, ◌≤◌, List, length, Some, Option, Result, Ok, refl, sym, ap, subst, arith}
use Rattle.std.specs.Prelude.{slice_get, unwrap_or}
use Rattle.apei_space.specs.Calls.{Call}
use Rattle.erst_entries.specs.declared.actions.Action.{Action}
use Rattle.erst_entries.specs.declared.entries.Entry.{Entry}
use Rattle.erst_entries.specs.declared.instructions.Instruction.TheVariants.{ReadRegister, WriteRegisterValue}
use Rattle.erst_entries.specs.Actions.{code_of}
use Rattle.erst_entries.specs.Instructions.{instruction_of}
use Rattle.erst_entries.specs.Programs.{Listed}
use Rattle.erst_interp.specs.declared.configurations.Configuration.{Configuration}
use Rattle.erst_interp.specs.declared.stops.RunStop.{RunStop}
use Rattle.erst_interp.specs.Configurations.{begin, next}
use Rattle.erst_interp.specs.Instructions.{TakeField, StoreValue, HasWork}
use Rattle.erst_interp.specs.Steps.{Step, Takes, Stores, Halt}
use Rattle.erst_interp.specs.Runs.{Walk, Begun as WalkBegun, Then as WalkThen, Run, Finishes as RunFinishes, Exhausted as RunExhausted, HasEntry, task_of}
use Rattle.erst_shadow.specs.MoveEntries.{move_entries}
use Rattle.erst_shadow.specs.MoveRuns.{move_then}
use Rattle.erst_interp.proofs.StepLemmas.{step_by}
use Rattle.erst_shadow.proofs.Terms.{standing, WalkFrom, RunFrom, Begun, Then, Finishes, Exhausted, Halts}

-- an entry whose work is its own value's and its register's alone
pub data IsOfItsOwn (entry : Entry) : Type 0 where
  StoresValue : instruction_of entry.code ≡ Some WriteRegisterValue → IsOfItsOwn entry
  TakesRegister : instruction_of entry.code ≡ Some ReadRegister → IsOfItsOwn entry

-- a program's configuration, and that of the program behind a move
pub record IsAtTail (c d : Configuration) : Type 0 where
  pub place : c.place ≡ 13 + d.place
  pub result : c.result ≡ d.result

module _ {W : Type 0} (allows : W → Call → W → Type 0) (from target count : ℕ) (action : Action) (behind : List Entry) (given before : ℕ) (mid : W)
    (blind : (k : ℕ) (entry : Entry) → slice_get behind k ≡ Some entry → IsOfItsOwn entry) where
  abbrev whole : Listed
  whole = move_then action from target count behind

  abbrev rest : Listed
  rest = record { action = code_of action; entries = behind }

  record Follows (left : ℕ) (c : Configuration) (w : W) : Type 0 where
    at_rest : Configuration
    is_behind : IsAtTail c at_rest
    walk : Walk allows rest given before mid left at_rest w

  here_behind : (place n : ℕ) (entry : Entry) → place ≡ 13 + n → slice_get whole.entries place ≡ Some entry → slice_get behind n ≡ Some entry
  unfolding move_entries
  here_behind place n entry is here =
      let there : place ≡ suc (suc (suc (suc (suc (suc (suc (suc (suc (suc (suc (suc (suc n)))))))))))) = omega arith in
      subst (λ (p : ℕ). slice_get whole.entries p ≡ Some entry) there here

  all_behind : (place n : ℕ) → place ≡ 13 + n → length whole.entries ≤ place → length behind ≤ n
  unfolding move_entries
  all_behind place n is ends = omega arith

  less_behind : (place n : ℕ) → place ≡ 13 + n → place < length whole.entries → n < length behind
  unfolding move_entries
  less_behind place n is less = omega arith

  step_behind : (entry : Entry) (c d : Configuration) (old : W) (e : Configuration) (more : ℕ) (new : W) → IsOfItsOwn entry → IsAtTail c d → Step allows (task_of whole given entry c) old e more new
      → (f : Configuration) × IsAtTail e f × Step allows (task_of rest given entry d) old f more new
  step_behind entry c d old e more new (StoresValue code) is step =
      let did = step_by allows (task_of whole given entry c) WriteRegisterValue code old e more new step in
      let place : e.place ≡ c.place + 1 = ap (λ (x : Configuration). x.place) did.1 in
      let has : HasWork (task_of rest given entry d) (StoreValue entry.value) = record { instruction = WriteRegisterValue; code = code; work_is = refl } in (
        next d,
        record { place = omega (arith, place, is.place); result = ap (λ (x : Configuration). x.result) did.1 ∙ is.result },
        subst (λ (n : ℕ). Step allows (task_of rest given entry d) old (next d) n new) (sym did.2) (Stores entry.value did.0 new has did.3 did.4),
      )
  step_behind entry c d old e more new (TakesRegister code) is step =
      let did = step_by allows (task_of whole given entry c) ReadRegister code old e more new step in
      let place : e.place ≡ c.place + 1 = ap (λ (x : Configuration). x.place) did.2 in
      let has : HasWork (task_of rest given entry d) (TakeField (λ x. record (next d) { result = Some x })) = record { instruction = ReadRegister; code = code; work_is = refl } in (
        record (next d) { result = Some did.1 },
        record { place = omega (arith, place, is.place); result = ap (λ (x : Configuration). x.result) did.2 },
        subst (λ (n : ℕ). Step allows (task_of rest given entry d) old (record (next d) { result = Some did.1 }) n new) (sym did.3)
            (Takes (λ x. record (next d) { result = Some x }) did.0 did.1 new has did.4 did.5),
      )

  follows : (left : ℕ) (c : Configuration) (w : W) → WalkFrom allows whole given (standing 13 (128 * count) 128 from target) before mid left c w → Follows left c w
  follows left c w Begun = record { at_rest = begin; is_behind = record { place = omega arith; result = refl }; walk = WalkBegun }
  follows left c w (Then l b m entry e more after new walk here step sum) =
      let inner = follows l b m walk in
      let there = here_behind b.place inner.at_rest.place entry inner.is_behind.place here in
      let moved = step_behind entry b inner.at_rest m e more new (blind inner.at_rest.place entry there) inner.is_behind step in
      record { at_rest = moved.0; is_behind = moved.1; walk = WalkThen l inner.at_rest m entry moved.0 more after new inner.walk there moved.2 sum }

  pub runs_behind : 0 < length behind → ((k : ℕ) (entry : Entry) (c : Configuration) (paid : ℕ) (w : W) (stop : RunStop) (left : ℕ) (v : W) →
      slice_get behind k ≡ Some entry → Halt allows (task_of whole given entry c) paid w stop left v → ⊥)
      → (answer : Result ℕ RunStop) (left : ℕ) (last : W) → RunFrom allows whole given (standing 13 (128 * count) 128 from target) before mid answer left last →
      Run allows rest given before mid answer left last
  runs_behind some never answer left last run = elim run as (λ answer left last run. Run allows rest given before mid answer left last) [
    | Finishes left c last walk ends ↦
        let is = follows left c last walk in
        subst (λ (n : ℕ). Run allows rest given before mid (Ok n) left last) (ap (λ (o : Option ℕ). unwrap_or o given) (sym is.is_behind.result))
        (RunFinishes left is.at_rest last (HasEntry some) is.walk (all_behind c.place is.at_rest.place is.is_behind.place ends))
    | Exhausted c last walk more ↦
        let is = follows 0 c last walk in
        RunExhausted is.at_rest last (HasEntry some) is.walk (less_behind c.place is.at_rest.place is.is_behind.place more)
    | Halts paid c m entry stop left last walk here halt ↦
        let is = follows (paid + 1) c m walk in
        absurd (never is.at_rest.place entry c paid m stop left last (here_behind c.place is.at_rest.place entry is.is_behind.place here) halt)
  ]
