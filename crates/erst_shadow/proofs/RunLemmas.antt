-- A run of a program that begins with a move makes the move, or its steps run out within it.
use Rattle.std.proofs.Common.{◌≡◌, ◌∙◌, ℕ, ◌+◌, ◌*◌, ◌<◌, ◌≤◌, ◌⊎◌, inl, inr, List, length, Some, Result, Ok, Err, refl, sym, ap, subst, arith}
use Rattle.std.specs.Prelude.{slice_get, unwrap_or}
use Rattle.apei_space.specs.Calls.{Call}
use Rattle.erst_entries.specs.declared.actions.Action.{Action}
use Rattle.erst_entries.specs.declared.entries.Entry.{Entry}
use Rattle.erst_interp.specs.declared.configurations.Configuration.{Configuration}
use Rattle.erst_interp.specs.declared.stops.RunStop.{RunStop}
use Rattle.erst_interp.specs.declared.stops.RunStop.TheVariants.{Budget}
use Rattle.erst_interp.specs.Configurations.{begin}
use Rattle.erst_interp.specs.Steps.{Step, Halt}
use Rattle.erst_interp.specs.Runs.{Walk, Begun as WalkBegun, Then as WalkThen, Run, NoProgram, Finishes as RunFinishes, Exhausted as RunExhausted, Halts as RunHalts, task_of}
use Rattle.erst_shadow.specs.MoveEntries.{move_entries}
use Rattle.erst_shadow.specs.MoveSpaces.{AreAddressable}
use Rattle.erst_shadow.specs.MoveRuns.{move_then, move_steps}
use Rattle.erst_shadow.proofs.StageLemmas.{Stage, First, Second, Third, Fourth, Fifth, Sixth, Seventh, Head, Copied, Loaded, Added, Kept, Again, Done, cost}
use Rattle.erst_shadow.proofs.StageLemmas.{IsStage, stage_at, stage_in, stage_fits, stage_leads}
use Rattle.erst_shadow.proofs.HaltLemmas.{stage_stops}
use Rattle.erst_shadow.proofs.Terms.{standing, WalkFrom, MovesFirst, Begun, Then, Finishes, Exhausted, Halts, MovesOn, StopsWithin}
use Rattle.erst_shadow.proofs.Serving.{ServesMove, after_rounds}

is_done : (stage : Stage) → (stage ≡ Done) ⊎ (stage ≡ Done → ⊥)
is_done First = inr (λ e. absurd (cc e))
is_done Second = inr (λ e. absurd (cc e))
is_done Third = inr (λ e. absurd (cc e))
is_done Fourth = inr (λ e. absurd (cc e))
is_done Fifth = inr (λ e. absurd (cc e))
is_done Sixth = inr (λ e. absurd (cc e))
is_done Seventh = inr (λ e. absurd (cc e))
is_done (Head i) = inr (λ e. absurd (cc e))
is_done (Copied i) = inr (λ e. absurd (cc e))
is_done (Loaded i) = inr (λ e. absurd (cc e))
is_done (Added i) = inr (λ e. absurd (cc e))
is_done (Kept i) = inr (λ e. absurd (cc e))
is_done (Again i) = inr (λ e. absurd (cc e))
is_done Done = inl refl

-- within the move the place is one of its entries, and the steps are fewer than its own
within : (from target count : ℕ) (stage : Stage) → IsStage count stage → 0 < count → (stage ≡ Done → ⊥) → ((stage_at from target count stage).place < 13) × (cost count stage < move_steps count)
within from target count First is some not = (omega arith, omega arith)
within from target count Second is some not = (omega arith, omega arith)
within from target count Third is some not = (omega arith, omega arith)
within from target count Fourth is some not = (omega arith, omega arith)
within from target count Fifth is some not = (omega arith, omega arith)
within from target count Sixth is some not = (omega arith, omega arith)
within from target count Seventh is some not = (omega arith, omega arith)
within from target count (Head i) is some not = (omega arith, omega arith)
within from target count (Copied i) is some not = (omega arith, omega arith)
within from target count (Loaded i) is some not = (omega arith, omega arith)
within from target count (Added i) is some not = (omega arith, omega arith)
within from target count (Kept i) is some not = (omega arith, omega arith)
within from target count (Again i) is some not = (omega arith, omega arith)
within from target count Done is some not = absurd (not refl)

module _ {W : Type 0} (allows : W → Call → W → Type 0) (fits : W → Type 0) (from target count : ℕ) (space : ServesMove allows fits from target count) (below : AreAddressable from target count)
    (action : Action) (behind : List Entry) (given budget : ℕ) (first : W) (fit : fits first) where
  -- how far a walk has come: within the move, or behind it
  data Split : ℕ → Configuration → W → Type 0 where
    Before : (stage : Stage) (left : ℕ) (c : Configuration) (w : W) → IsStage count stage → (stage ≡ Done → ⊥) → c ≡ stage_at from target count stage
        → w ≡ stage_in allows fits from target count space below first stage → left + cost count stage ≡ budget → Split left c w
    Beyond : (before left : ℕ) (c : Configuration) (w : W) → before + move_steps count ≡ budget
        → WalkFrom allows (move_then action from target count behind) given (standing 13 (128 * count) 128 from target) before (after_rounds space count first) left c w → Split left c w

  arrives : (to : Stage) (left : ℕ) (c : Configuration) (w : W) → IsStage count to → c ≡ stage_at from target count to → w ≡ stage_in allows fits from target
      count space below first to → left + cost count to ≡ budget
      → (to ≡ Done) ⊎ (to ≡ Done → ⊥) → Split left c w
  arrives to left c w is there new spent (inr not) = Before to left c w is not there new spent
  arrives to left c w is there new spent (inl done) =
      let c_is : c ≡ standing 13 (128 * count) 128 from target = there ∙ ap (stage_at from target count) done in
      let w_is : w ≡ after_rounds space count first = new ∙ ap (stage_in allows fits from target count space below first) done in
      subst (λ (d : Configuration). Split left d w) (sym c_is)
      (subst (λ (v : W). Split left (standing 13 (128 * count) 128 from target) v) (sym w_is)
      (Beyond left left (standing 13 (128 * count) 128 from target) (after_rounds space count first) (sym (ap (λ (s : Stage). left + cost count s) done) ∙ spent) Begun))

  one_more : (left : ℕ) (c : Configuration) (mid : W) (entry : Entry) (d : Configuration) (more after : ℕ) (new : W) → Split left c mid →
      slice_get (move_then action from target count behind).entries c.place ≡ Some entry
      → Step allows (task_of (move_then action from target count behind) given entry c) mid d more new → after + more + 1 ≡ left → Split after d new
  one_more left c mid entry d more after new (Before stage l b w is not there at_w spent) here step sum =
      let moved = subst (λ (x : Configuration). Step allows (task_of (move_then action from target count behind) given entry x)
      (stage_in allows fits from target count space below first stage) d more new) there
      (subst (λ (v : W). Step allows (task_of (move_then action from target count behind) given entry c) v d more new) at_w step) in
      let goes = stage_leads allows fits from target count space below action behind given first fit stage is not entry
      (subst (λ (x : Configuration). slice_get (move_then action from target count behind).entries x.place ≡ Some entry) there here) d more new moved in
      arrives goes.to after d new goes.is_stage goes.goes goes.left (omega (arith, goes.spent, sum, spent)) (is_done goes.to)
  one_more left c mid entry d more after new (Beyond before l b w spent walk) here step sum = Beyond before after d new spent (Then left c mid entry d more after new walk here step sum)

  splits : (left : ℕ) (c : Configuration) (w : W) → Walk allows (move_then action from target count behind) given budget first left c w → Split left c w
  splits left c w WalkBegun = Before First budget begin first tt (λ e. absurd (cc e)) refl refl (omega arith)
  splits left c w (WalkThen before b mid entry d more after new walk here step sum) = one_more before b mid entry d more after new (splits before b mid walk) here step sum

  long : 13 ≤ length (move_then action from target count behind).entries
  unfolding move_entries
  long = omega arith

  finished : (left : ℕ) (c : Configuration) (last : W) → Split left c last → length (move_then action from target count behind).entries ≤ c.place →
      MovesFirst space action behind given budget first (Ok (unwrap_or c.result given)) left last
  finished left c last (Before stage l b w is not there at_w spent) ends =
      let short = (within from target count stage is below.some not).0 in
      let place = ap (λ (x : Configuration). x.place) there in
      absurd (omega (arith, short, place, ends, long))
  finished left c last (Beyond before l b w spent walk) ends = MovesOn before _ left last spent (Finishes left c last walk ends)

  exhausted : (left : ℕ) (c : Configuration) (last : W) → left ≡ 0 → Split left c last → c.place < length (move_then action from target count behind).entries →
      MovesFirst space action behind given budget first (Err Budget) 0 last
  exhausted left c last none (Before stage l b w is not there at_w spent) more =
      let short = (within from target count stage is below.some not).1 in
      StopsWithin last (omega (arith, short, spent, none)) (subst fits (sym at_w) (stage_fits allows fits from target count space below first fit stage is))
  exhausted left c last none (Beyond before l b w spent walk) more =
      MovesOn before _ 0 last spent (Exhausted c last
      (subst (λ (n : ℕ). WalkFrom allows (move_then action from target count behind) given (standing 13 (128 * count) 128 from target) before
      (after_rounds space count first) n c last) none walk) more)

  halted : (paid left_before : ℕ) (c : Configuration) (mid : W) (entry : Entry) (stop : RunStop) (left : ℕ) (last : W) → left_before ≡ paid + 1 → Split left_before c mid
      → slice_get (move_then action from target count behind).entries c.place ≡ Some entry → Halt allows (task_of (move_then action from target count behind) given entry c) paid mid stop left last
      → MovesFirst space action behind given budget first (Err stop) left last
  halted paid left_before c mid entry stop left last paid_is (Before stage l b w is not there at_w spent) here halt =
      let moved = subst (λ (x : Configuration). Halt allows (task_of (move_then action from target count behind) given entry x) paid
      (stage_in allows fits from target count space below first stage) stop left last) there
      (subst (λ (v : W). Halt allows (task_of (move_then action from target count behind) given entry c) paid v stop left last) at_w halt) in
      let halts = stage_stops allows fits from target count space below action behind given first fit stage is not entry
      (subst (λ (x : Configuration). slice_get (move_then action from target count behind).entries x.place ≡ Some entry) there here) paid stop left last moved in
      let out = halts.0 in
      subst (λ (s : RunStop). MovesFirst space action behind given budget first (Err s) left last) (sym out.stop_is)
      (subst (λ (n : ℕ). MovesFirst space action behind given budget first (Err Budget) n last) (sym out.left_is)
      (StopsWithin last (omega (arith, halts.1, out.short, spent, paid_is)) (subst fits (sym out.new_is) (stage_fits allows fits from target count space below first fit stage is))))
  halted paid left_before c mid entry stop left last paid_is (Beyond before l b w spent walk) here halt =
      MovesOn before _ left last spent
      (Halts paid c mid entry stop left last
      (subst (λ (n : ℕ). WalkFrom allows (move_then action from target count behind) given (standing 13 (128 * count) 128 from target) before
      (after_rounds space count first) n c mid) paid_is walk) here halt)

  pub moves_first : (answer : Result ℕ RunStop) (left : ℕ) (last : W) → Run allows (move_then action from target count behind) given budget first answer left
      last → MovesFirst space action behind given budget first answer left last
  moves_first answer left last run = elim run as (λ answer left last run. MovesFirst space action behind given budget first answer left last) [
    | NoProgram none empty ↦ absurd (omega (arith, none, long))
    | RunFinishes left c last has walk ends ↦ finished left c last (splits left c last walk) ends
    | RunExhausted c last has walk more ↦ exhausted 0 c last refl (splits 0 c last walk) more
    | RunHalts paid c mid entry stop left last has walk here halt ↦ halted paid (paid + 1) c mid entry stop left last refl (splits (paid + 1) c mid walk) here halt
  ]
