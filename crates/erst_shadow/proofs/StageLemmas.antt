-- A run of a program that begins with a move, stage by stage.
use Rattle.std.proofs.Common.{◌≡◌, ◌∙◌, ℕ, zero, suc, ◌+◌, ◌*◌, ◌%◌, ◌^◌, ◌<◌, ◌≤◌, Bool, true, false, List, Some, refl, ap, arith}
use Rattle.std.specs.Prelude.{slice_get, ◌==◌, if◌then◌else◌}
use Rattle.std.proofs.lemmas.Bool.Decides.{nat_tests}
use Rattle.std.proofs.lemmas.Option.{same_Some}
use Rattle.apei_space.specs.Calls.{Call}
use Rattle.erst_entries.specs.declared.actions.Action.{Action}
use Rattle.erst_entries.specs.declared.entries.Entry.{Entry}
use Rattle.erst_interp.specs.declared.configurations.Configuration.{Configuration}
use Rattle.erst_interp.specs.Configurations.{next}
use Rattle.erst_interp.specs.Steps.{Step}
use Rattle.erst_interp.specs.Runs.{task_of}
use Rattle.erst_shadow.specs.MoveEntries.{Offset, Source, Target, Length, move_entries}
use Rattle.erst_shadow.specs.MoveSpaces.{AreAddressable}
use Rattle.erst_shadow.specs.MoveRuns.{move_then}
use Rattle.erst_shadow.proofs.EntryLemmas.{of_source, of_target, of_var1, of_var2, HasDone, puts_number, stores_var1, takes, adds_both, goes_to, skips_or_goes, copies_piece}
use Rattle.erst_shadow.proofs.Terms.{standing}
use Rattle.erst_shadow.proofs.Serving.{ServesMove, prepared, after_rounds}

-- where a run stands: before one of the first seven entries, at the head of round i, behind each of its entries, and behind the move
pub data Stage : Type 0 where
  First Second Third Fourth Fifth Sixth Seventh : Stage
  Head Copied Loaded Added Kept Again : ℕ → Stage
  Done : Stage

-- the steps so far
abbrev pub cost : ℕ → Stage → ℕ
cost count First = 0
cost count Second = 1
cost count Third = 2
cost count Fourth = 3
cost count Fifth = 4
cost count Sixth = 5
cost count Seventh = 6
cost count (Head i) = 7 + 8 * i
cost count (Copied i) = 10 + 8 * i
cost count (Loaded i) = 11 + 8 * i
cost count (Added i) = 12 + 8 * i
cost count (Kept i) = 13 + 8 * i
cost count (Again i) = 14 + 8 * i
cost count Done = 8 * count + 6

-- the round is one of the move's
abbrev pub IsStage : ℕ → Stage → Type 0
IsStage count First = Unit {0}
IsStage count Second = Unit {0}
IsStage count Third = Unit {0}
IsStage count Fourth = Unit {0}
IsStage count Fifth = Unit {0}
IsStage count Sixth = Unit {0}
IsStage count Seventh = Unit {0}
IsStage count (Head i) = i < count
IsStage count (Copied i) = i < count
IsStage count (Loaded i) = i < count
IsStage count (Added i) = i < count
IsStage count (Kept i) = i < count
IsStage count (Again i) = suc i < count
IsStage count Done = Unit {0}

-- the configuration
abbrev pub stage_at : ℕ → ℕ → ℕ → Stage → Configuration
stage_at from target count First = standing 0 0 0 0 0
stage_at from target count Second = standing 1 0 0 0 0
stage_at from target count Third = standing 2 0 0 0 0
stage_at from target count Fourth = standing 3 0 0 0 0
stage_at from target count Fifth = standing 4 0 0 0 0
stage_at from target count Sixth = standing 5 0 0 from 0
stage_at from target count Seventh = standing 6 0 0 from target
stage_at from target count (Head i) = standing 7 (128 * i) 128 from target
stage_at from target count (Copied i) = standing 8 (128 * i) 128 from target
stage_at from target count (Loaded i) = standing 9 (128 * i) 128 from target
stage_at from target count (Added i) = standing 10 (128 * suc i) 128 from target
stage_at from target count (Kept i) = standing 11 (128 * suc i) 128 from target
stage_at from target count (Again i) = standing 12 (128 * suc i) 128 from target
stage_at from target count Done = standing 13 (128 * count) 128 from target

-- what the registers hold at the head of a round
pub record Holds {W : Type 0} {allows : W → Call → W → Type 0} {fits : W → Type 0} {from target count : ℕ} (space : ServesMove allows fits from target count) (i : ℕ) (w : W) : Type 0 where
  pub fit : fits w
  pub offset : space.value Offset w ≡ 128 * i
  pub source : space.value Source w ≡ from
  pub target_is : space.value Target w ≡ target
  pub size : space.value Length w ≡ 128

module _ {W : Type 0} (allows : W → Call → W → Type 0) (fits : W → Type 0) (from target count : ℕ) (space : ServesMove allows fits from target count) (below : AreAddressable from target count) where
  abbrev pub stage_in : W → Stage → W
  stage_in first First = first
  stage_in first Second = space.put Source from first
  stage_in first Third = space.put Target target (space.put Source from first)
  stage_in first Fourth = space.put Length 128 (space.put Target target (space.put Source from first))
  stage_in first Fifth = prepared space first
  stage_in first Sixth = prepared space first
  stage_in first Seventh = prepared space first
  stage_in first (Head i) = after_rounds space i first
  stage_in first (Copied i) = space.copied i (after_rounds space i first)
  stage_in first (Loaded i) = space.copied i (after_rounds space i first)
  stage_in first (Added i) = space.copied i (after_rounds space i first)
  stage_in first (Kept i) = after_rounds space (suc i) first
  stage_in first (Again i) = after_rounds space (suc i) first
  stage_in first Done = after_rounds space count first

  pub begun_holds : (first : W) → fits first → Holds space 0 (prepared space first)
  begun_holds first fit =
      let one = space.put Source from first in
      let two = space.put Target target one in
      let three = space.put Length 128 two in
      let fit_one : fits one = space.put_fits first Source from fit in
      let fit_two : fits two = space.put_fits one Target target fit_one in
      let fit_three : fits three = space.put_fits two Length 128 fit_two in
      let from_fits = below.source in
      let target_fits = below.target_is in
      record {
        fit = space.put_fits three Offset 0 fit_three;
        offset = space.value_put three Offset 0 fit_three (omega arith);
        source = space.value_beside three Offset Source 0 fit_three (λ e. absurd (omega arith)) ∙ space.value_beside two Length Source 128 fit_two (λ e. absurd (omega arith))
            ∙ space.value_beside one Target Source target fit_one (λ e. absurd (omega arith)) ∙ space.value_put first Source from fit (omega arith);
        target_is = space.value_beside three Offset Target 0 fit_three (λ e. absurd (omega arith)) ∙ space.value_beside two Length Target 128 fit_two (λ e. absurd (omega arith))
            ∙ space.value_put one Target target fit_one (omega arith);
        size = space.value_beside three Offset Length 0 fit_three (λ e. absurd (omega arith)) ∙ space.value_put two Length 128 fit_two (omega arith);
      }

  pub copied_holds : (i : ℕ) (w : W) → i < count → Holds space i w → Holds space i (space.copied i w)
  copied_holds i w within holds = record {
    fit = space.copied_fits w i holds.fit within;
    offset = space.value_behind w Offset i holds.fit within ∙ holds.offset;
    source = space.value_behind w Source i holds.fit within ∙ holds.source;
    target_is = space.value_behind w Target i holds.fit within ∙ holds.target_is;
    size = space.value_behind w Length i holds.fit within ∙ holds.size;
  }

  kept_holds : (i : ℕ) (w : W) → i < count → Holds space i w → Holds space (suc i) (space.put Offset (128 * suc i) w)
  kept_holds i w within holds = let from_fits = below.source in record {
    fit = space.put_fits w Offset (128 * suc i) holds.fit;
    offset = space.value_put w Offset (128 * suc i) holds.fit (omega arith);
    source = space.value_beside w Offset Source (128 * suc i) holds.fit (λ e. absurd (omega arith)) ∙ holds.source;
    target_is = space.value_beside w Offset Target (128 * suc i) holds.fit (λ e. absurd (omega arith)) ∙ holds.target_is;
    size = space.value_beside w Offset Length (128 * suc i) holds.fit (λ e. absurd (omega arith)) ∙ holds.size;
  }

  pub rounds_hold : (first : W) → fits first → (i : ℕ) → i ≤ count → Holds space i (after_rounds space i first)
  rounds_hold first fit zero within = begun_holds first fit
  rounds_hold first fit (suc i) within = kept_holds i (space.copied i (after_rounds space i first)) (omega arith)
      (copied_holds i (after_rounds space i first) (omega arith) (rounds_hold first fit i (omega arith)))

  pub stage_fits : (first : W) → fits first → (stage : Stage) → IsStage count stage → fits (stage_in first stage)
  stage_fits first fit First is = fit
  stage_fits first fit Second is = space.put_fits first Source from fit
  stage_fits first fit Third is = space.put_fits _ Target target (space.put_fits first Source from fit)
  stage_fits first fit Fourth is = space.put_fits _ Length 128 (space.put_fits _ Target target (space.put_fits first Source from fit))
  stage_fits first fit Fifth is = (begun_holds first fit).fit
  stage_fits first fit Sixth is = (begun_holds first fit).fit
  stage_fits first fit Seventh is = (begun_holds first fit).fit
  stage_fits first fit (Head i) is = (rounds_hold first fit i (omega arith)).fit
  stage_fits first fit (Copied i) is = (copied_holds i (after_rounds space i first) is (rounds_hold first fit i (omega arith))).fit
  stage_fits first fit (Loaded i) is = (copied_holds i (after_rounds space i first) is (rounds_hold first fit i (omega arith))).fit
  stage_fits first fit (Added i) is = (copied_holds i (after_rounds space i first) is (rounds_hold first fit i (omega arith))).fit
  stage_fits first fit (Kept i) is = (rounds_hold first fit (suc i) (omega arith)).fit
  stage_fits first fit (Again i) is = (rounds_hold first fit (suc i) (omega arith)).fit
  stage_fits first fit Done is = (rounds_hold first fit count (omega arith)).fit

  -- where the next instruction leads
  pub record LeadsOn (first : W) (stage : Stage) (d : Configuration) (more : ℕ) (new : W) : Type 0 where
    pub to : Stage
    pub is_stage : IsStage count to
    pub goes : d ≡ stage_at from target count to
    pub left : new ≡ stage_in first to
    pub spent : more + 1 + cost count stage ≡ cost count to

  by : (first : W) (stage to : Stage) (d : Configuration) (more : ℕ) (new : W) (extra : ℕ) → IsStage count to →
      HasDone d more new (stage_at from target count to) extra (stage_in first to) → extra + 1 + cost count stage ≡ cost count to
      → LeadsOn first stage d more new
  by first stage to d more new extra is did spent = record { to = to; is_stage = is; goes = did.goes; left = did.left; spent = ap (λ (n : ℕ). n + 1 + cost count stage) did.only ∙ spent }

  -- the loop is left exactly behind the last piece
  skipped : (first : W) (i : ℕ) (d : Configuration) (more : ℕ) (new : W) → i < count → (test : Bool) → (128 * suc i == 128 * count) ≡ test
      → HasDone d more new (if test then next (next (standing 11 (128 * suc i) 128 from target)) else next (standing 11 (128 * suc i) 128 from target)) 0
      (after_rounds space (suc i) first) → LeadsOn first (Kept i) d more new
  skipped first i d more new within true test did =
      let last : suc i ≡ count = grind (arith, nat_tests) in
      by first (Kept i) Done d more new 0 tt
      (record {
        goes = did.goes ∙ ap (λ (n : ℕ). standing 13 (128 * n) 128 from target) last;
        only = did.only;
        left = did.left ∙ ap (λ (n : ℕ). after_rounds space n first) last;
      })
      (omega (arith, last))
  skipped first i d more new within false test did =
      let other : 128 * suc i ≡ 128 * count → ⊥ = grind (arith, nat_tests) in
      by first (Kept i) (Again i) d more new 0 (omega arith) did (omega arith)

  module _ (action : Action) (behind : List Entry) (given : ℕ) (first : W) (fit : fits first) where
    pub stage_leads : (stage : Stage) → IsStage count stage → (stage ≡ Done → ⊥) → (entry : Entry) →
        slice_get (move_then action from target count behind).entries (stage_at from target count stage).place ≡ Some entry
        → (d : Configuration) (more : ℕ) (new : W) →
        Step allows (task_of (move_then action from target count behind) given entry (stage_at from target count stage)) (stage_in first stage) d more new →
        LeadsOn first stage d more new
    unfolding move_entries
    stage_leads First is not entry here d more new step =
        let fits_from = below.source in
        by first First Second d more new 0 tt (puts_number allows fits from target count space (move_then action from target count behind) given action Source
        from entry _ _ d more new (same_Some _ _ here) (omega arith) fit step) refl
    stage_leads Second is not entry here d more new step =
        let fits_target = below.target_is in
        by first Second Third d more new 0 tt (puts_number allows fits from target count space (move_then action from target count behind) given action Target
        target entry _ _ d more new (same_Some _ _ here) (omega arith) (stage_fits first fit Second tt) step) refl
    stage_leads Third is not entry here d more new step =
        by first Third Fourth d more new 0 tt (puts_number allows fits from target count space (move_then action from target count behind) given action Length
        128 entry _ _ d more new (same_Some _ _ here) (omega arith) (stage_fits first fit Third tt) step) refl
    stage_leads Fourth is not entry here d more new step =
        by first Fourth Fifth d more new 0 tt (puts_number allows fits from target count space (move_then action from target count behind) given action Offset 0
        entry _ _ d more new (same_Some _ _ here) (omega arith) (stage_fits first fit Fourth tt) step) refl
    stage_leads Fifth is not entry here d more new step =
        let holds = begun_holds first fit in
        let fits_from = below.source in
        by first Fifth Sixth d more new 0 tt (takes allows fits from target count space (move_then action from target count behind) given action of_source
        Source from entry _ _ d more new (same_Some _ _ here) holds.source (omega arith) holds.fit step) refl
    stage_leads Sixth is not entry here d more new step =
        let holds = begun_holds first fit in
        let fits_target = below.target_is in
        by first Sixth Seventh d more new 0 tt (takes allows fits from target count space (move_then action from target count behind) given action of_target
        Target target entry _ _ d more new (same_Some _ _ here) holds.target_is (omega arith) holds.fit step) refl
    stage_leads Seventh is not entry here d more new step =
        let holds = begun_holds first fit in
        by first Seventh (Head 0) d more new 0 below.some (takes allows fits from target count space (move_then action from target count behind) given action
        of_var2 Length 128 entry _ _ d more new (same_Some _ _ here) holds.size (omega arith) holds.fit step) refl
    stage_leads (Head i) is not entry here d more new step =
        let holds = rounds_hold first fit i (omega arith) in
        by first (Head i) (Copied i) d more new 2 is
        (copies_piece allows fits from target count space (move_then action from target count behind) given action Offset i entry _ _ d more new
        (same_Some _ _ here) holds.offset is below.source below.target_is refl refl refl holds.fit step) (omega arith)
    stage_leads (Copied i) is not entry here d more new step =
        let holds = copied_holds i (after_rounds space i first) is (rounds_hold first fit i (omega arith)) in
        let fits_from = below.source in
        by first (Copied i) (Loaded i) d more new 0 is
        (takes allows fits from target count space (move_then action from target count behind) given action of_var1 Offset (128 * i) entry _ _ d more new
        (same_Some _ _ here) holds.offset (omega arith) holds.fit step) (omega arith)
    stage_leads (Loaded i) is not entry here d more new step =
        let did = adds_both allows fits from target count space (move_then action from target count behind) given action entry _ _ d more new (same_Some _ _ here) step in
        let fits_from = below.source in
        let sum : (128 * i + 128) % 2 ^ 64 ≡ 128 * suc i = omega arith in
        by first (Loaded i) (Added i) d more new 0 is
        (record { goes = did.goes ∙ ap (λ (n : ℕ). standing 10 n 128 from target) sum; only = did.only; left = did.left }) (omega arith)
    stage_leads (Added i) is not entry here d more new step =
        let holds = copied_holds i (after_rounds space i first) is (rounds_hold first fit i (omega arith)) in
        let fits_from = below.source in
        by first (Added i) (Kept i) d more new 0 is
        (stores_var1 allows fits from target count space (move_then action from target count behind) given action Offset entry _ _ d more new
        (same_Some _ _ here) (omega arith) holds.fit step) (omega arith)
    stage_leads (Kept i) is not entry here d more new step =
        let holds = rounds_hold first fit (suc i) (omega arith) in
        let fits_from = below.source in
        skipped first i d more new is (128 * suc i == 128 * count) refl
        (skips_or_goes allows fits from target count space (move_then action from target count behind) given action Offset (128 * count) (128 * suc i) entry _ _
        d more new (same_Some _ _ here) holds.offset (omega arith) holds.fit step)
    stage_leads (Again i) is not entry here d more new step =
        by first (Again i) (Head (suc i)) d more new 0 is
        (goes_to allows fits from target count space (move_then action from target count behind) given action 7 entry _ _ d more new (same_Some _ _ here) step) (omega arith)
    stage_leads Done is not entry here d more new step = absurd (not refl)
