-- Calls one after another.
use Rattle.std.proofs.Common.{◌≡◌, ◌∙◌, ◌⊎◌, ℕ, zero, suc, ◌<◌, ◌≤◌, ◌^◌, ◌%◌, List, [], ◌∷◌, length, drop, Result, Ok, Err, inl, inr, refl, sym, ap, subst, arith}
use Rattle.std.proofs.lemmas.Bool.{cases_lt}
use Rattle.base_model.specs.Faults.{Rose}
use Rattle.base_model.specs.Flash.{CrashImage, IsLater}
use Rattle.base_model.specs.Layout.{Layout}
use Rattle.base_model.proofs.CrashLemmas.{IsLater-refl, IsLater-then, CrashImage-earlier, CrashImage-now, Leaves-exit, past_grows}
use Rattle.flash_model.specs.declared.geometry.Geometry.{Geometry}
use Rattle.flash_model.specs.Layouts.{layout_of}
use Rattle.erst_port.specs.States.{first_state}
use Rattle.record_model.specs.Records.{Stored}
use Rattle.record_store.specs.Store.{records_of as records_in}
use Rattle.apei_tables.specs.declared.widths.Width.{Width}
use Rattle.apei_space.specs.Accesses.{Trail}
use Rattle.erst_port.specs.declared.errors.PortError.{PortError}
use Rattle.erst_port.specs.declared.errors.PortError.TheVariants.{Due}
use Rattle.erst_port.specs.declared.windows.Addresses.{Addresses}
use Rattle.erst_port.specs.declared.windows.Location.{Location}
use Rattle.erst_port.specs.declared.windows.Location.TheVariants.{Action}
use Rattle.erst_port.specs.Places.{location_of}
use Rattle.erst_port.specs.Parts.{nothing_made}
use Rattle.erst_port.specs.PortState.{PortState, flash_of, IsMade}
use Rattle.erst_port.proofs.PartLemmas.{held_whole}
use Rattle.erst_port.specs.Accesses.{NumberWritten, ActionWritten}
use Rattle.erst_port.specs.Openings.{OpenedAs}
use Rattle.port_laws.specs.Calls.{Embedded, Call, Writes, Puts, Restarts, MovesTo, Looks, Makes, Happens, IsInStep}
use Rattle.port_laws.specs.Commands.{records_of, completed, made_with}
use Rattle.port_laws.specs.Losses.{SameFront}
use Rattle.port_laws.specs.Beginnings.{Begins}
use Rattle.port_laws.specs.Prefixes.{Calls, records_after, completed_next, faults_after, IsHistory, TakesCode, IsTaken, ShowsPrefix}
use Rattle.port_laws.proofs.CallLemmas.{IsOneCall, one_call, told_of, shown_by}
use Rattle.port_laws.proofs.StepLemmas.{StepsOn, one_step, front_refl, front_then}

-- where calls lead
pub record GoesOn (first last : Embedded) : Type 0 where
  pub later : IsLater (told_of first.port) (told_of last.port)
  pub layout : last.port.device.store.layout ≡ first.port.device.store.layout
  pub origin : last.port.origin ≡ first.port.origin

pub goes_on : (first : Embedded) (calls : Calls) (last : Embedded) → Trail Happens first calls last → GoesOn first last
goes_on first [] last is = subst (λ (e : Embedded). GoesOn first e) (sym is) (record { later = IsLater-refl (told_of first.port); layout = refl; origin = refl })
goes_on first (move ∷ rest) last is =
    let one = (one_call first.port move.event move.left.port is.0.does).0 in
    let more = goes_on move.left rest last is.1 in
    record {
      later = IsLater-then (told_of first.port) (told_of move.left.port) (told_of last.port) one.leaves.later more.later;
      layout = more.layout ∙ one.layout;
      origin = more.origin ∙ one.origin;
    }

pub steps_on : (first : Embedded) (calls : Calls) (last : Embedded) → Trail Happens first calls last → IsInStep first → StepsOn first last
steps_on first [] last is step =
    subst (λ (e : Embedded). StepsOn first e) (sym is) (record { step = step; front = front_refl first.port.origin first.medium first.medium refl; made = omega arith })
steps_on first (move ∷ rest) last is step =
    let one = one_step first move.event move.left is.0 step in
    let more = steps_on move.left rest last is.1 one.step in
    let origin = (one_call first.port move.event move.left.port is.0.does).0.origin in
    record {
      step = more.step;
      front = front_then first.port.origin first.medium move.left.medium last.medium one.front (subst (λ (k : ℕ). SameFront k move.left.medium last.medium) origin more.front);
      made = omega (arith, one.made, more.made);
    }

-- the changes of the flash after the first n calls
abbrev pub changes_after : ℕ → Embedded → Calls → ℕ
changes_after n now [] = length (told_of now.port).past
changes_after zero now (move ∷ rest) = length (told_of now.port).past
changes_after (suc n) now (move ∷ rest) = changes_after n move.left rest

no_less : (n : ℕ) (first : Embedded) (calls : Calls) (last : Embedded) → Trail Happens first calls last → length (told_of first.port).past ≤ changes_after n first calls
no_less n first [] last is = omega arith
no_less zero first (move ∷ rest) last is = omega arith
no_less (suc n) first (move ∷ rest) last is =
    let one = past_grows (told_of first.port) (told_of move.left.port) (one_call first.port move.event move.left.port is.0.does).0.leaves.later in
    let more = no_less n move.left rest last is.1 in
    omega (arith, one, more)

at_first : (first : Embedded) (calls : Calls) → records_after 0 first calls ≡ records_of first.port
at_first first [] = refl
at_first first (move ∷ rest) = refl

-- what power lost at step s shows, with all calls whose changes were made by then
record Shows (s : ℕ) (first : Embedded) (calls : Calls) (shown : Stored) : Type 0 where
  count : ℕ
  within : count ≤ length calls
  are_in : (n : ℕ) → n ≤ length calls → changes_after n first calls ≤ s → n ≤ count
  shown_are : (shown ≡ records_after count first calls) ⊎ (shown ≡ made_with (completed_next count first calls) (records_after count first calls))

shown_alike : (old new : PortState) (image : List ℕ) → new.device.store.layout ≡ old.device.store.layout → shown_by new image ≡ shown_by old image
shown_alike old new image layout = ap (λ (l : Layout). records_in l image) layout

shows : (first : Embedded) (calls : Calls) (last : Embedded) → Trail Happens first calls last → (s : ℕ) (image : List ℕ) → length (told_of first.port).past ≤ s
    → CrashImage (told_of last.port) s image → Shows s first calls (shown_by first.port image)
shows first [] last is s image from crash = record {
  count = 0;
  within = omega arith;
  are_in = λ n within made. within;
  shown_are = inl (ap (shown_by first.port) (CrashImage-now (told_of first.port) s image from (subst (λ (e : Embedded). CrashImage (told_of e.port) s image) is crash)));
}
shows first (move ∷ rest) last is s image from crash = elim (cases_lt s (length (told_of move.left.port).past)) [
  | inr after ↦
      let more = shows move.left rest last is.1 s image (omega (arith, after)) crash in
      let one = (one_call first.port move.event move.left.port is.0.does).0 in
      record {
        count = suc more.count;
        within = omega (arith, more.within);
        are_in = λ n within made. all_in n within made more;
        shown_are =
            subst (λ (m : Stored). (m ≡ records_after more.count move.left rest) ⊎ (m ≡ made_with (completed_next more.count move.left rest) (records_after more.count move.left rest)))
            (shown_alike first.port move.left.port image one.layout) more.shown_are;
      }
  | inl before ↦
      let one = (one_call first.port move.event move.left.port is.0.does).0 in
      let later = (goes_on move.left rest last is.1).later in
      record {
        count = 0;
        within = omega arith;
        are_in = λ n within made. none_more n made before;
        shown_are = one.leaves.each s image from (CrashImage-earlier (told_of move.left.port) (told_of last.port) s image later before crash);
      }
]
  where
    all_in : (n : ℕ) → n ≤ length (move ∷ rest) → changes_after n first (move ∷ rest) ≤ s → (more : Shows s move.left rest (shown_by move.left.port image)) → n ≤ suc more.count
    all_in zero within made more = omega arith
    all_in (suc n) within made more = let one = more.are_in n (omega (arith, within)) made in omega (arith, one)

    none_more : (n : ℕ) → changes_after n first (move ∷ rest) ≤ s → s < length (told_of move.left.port).past → n ≤ 0
    none_more zero made before = omega arith
    none_more (suc n) made before = let no = no_less n move.left rest last is.1 in absurd (omega (arith, no, made, before))

-- each call whose changes were made stands before
taken_is_made : (location : Location) (old new : PortState) (width : Width) (value : ℕ) (answer : Result (Unit {0}) PortError) → location ≡ Action → answer ≡ Ok tt
    → NumberWritten location old width value answer new → IsMade old
taken_is_made location old new width value answer is taken written =
    by_answer (subst (λ (s : Location). NumberWritten s old width value answer new) is written)
  where
    by_answer : ActionWritten old (value % 2 ^ 32) answer new → IsMade old
    by_answer (inl refused) = absurd (let other : Err Due ≡ Ok tt = sym refused.0 ∙ taken in cc)
    by_answer (inr done) = done.1

code_is_made : (old : Embedded) (call : Call) (new : Embedded) → Happens old call new → TakesCode old.port call → length (told_of old.port).past ≤ old.port.made.changes
code_is_made old (Writes window offset width value answer) new happens takes =
    let made = taken_is_made (location_of window (length old.port.range) offset width) old.port new.port width value answer takes.0 takes.1 happens.does in
    omega (arith, made, happens.counted)
code_is_made old (Puts offset bytes answer) new happens takes = absurd takes
code_is_made old (Restarts answer) new happens takes = absurd takes
code_is_made old (MovesTo addresses answer) new happens takes = absurd takes
code_is_made old Looks new happens takes = absurd takes
code_is_made old (Makes kind at bytes) new happens takes = absurd takes

taken_are_made : (n : ℕ) (first : Embedded) (calls : Calls) (last : Embedded) → Trail Happens first calls last → IsInStep first → IsTaken n first calls
    → (n ≤ length calls) × (changes_after n first calls ≤ last.port.made.changes)
taken_are_made n first [] last is step taken = absurd taken
taken_are_made zero first (move ∷ rest) last is step taken =
    let made = code_is_made first move.event move.left is.0 taken in
    let on = steps_on first (move ∷ rest) last is step in
    (omega arith, omega (arith, made, on.made))
taken_are_made (suc n) first (move ∷ rest) last is step taken =
    let one = one_step first move.event move.left is.0 step in
    let more = taken_are_made n move.left rest last is.1 one.step taken in
    (omega (arith, more.0), more.1)

-- an opening
pub opened_begins : (origin : ℕ) (geometry : Geometry) (addresses : Addresses) (first : Embedded) → origin ≤ length first.medium
    → OpenedAs origin geometry (drop origin first.medium) addresses first.port → Begins origin geometry first
opened_begins origin geometry addresses first room opened =
    record { room = room; origin_is = opened.origin_is; made = opened.made; layout = opened.store.layout; kept = opened.kept }

pub first_step : (origin : ℕ) (geometry : Geometry) (first : Embedded) → Begins origin geometry first → IsInStep first
first_step origin geometry first begins = record {
  behind = rw begins.made (omega arith);
  begun = rw begins.made (λ more. absurd (omega (arith, more)));
  room = omega (arith, begins.room, begins.origin_is);
  image = rw (begins.origin_is, begins.made) (sym begins.kept.later.image ∙ sym (held_whole (told_of first.port) nothing_made refl));
}

-- the records that power lost shows, also in the changes of the opening
pub lost_shows : (origin : ℕ) (geometry : Geometry) (first : Embedded) (calls : Calls) (last : Embedded) (image : List ℕ)
    → Begins origin geometry first → Trail Happens first calls last → CrashImage (told_of last.port) last.port.made.changes image
    → ShowsPrefix first calls (records_in (layout_of geometry) image)
lost_shows origin geometry first calls last image begins is crash =
    let layout = begins.layout in
    let step = first_step origin geometry first begins in
    subst (λ (l : Layout). ShowsPrefix first calls (records_in l image)) layout (elim (cases_lt last.port.made.changes (length (told_of first.port).past)) [
      | inr after ↦
          let all = shows first calls last is last.port.made.changes image (omega (arith, after)) crash in
          record {
            count = all.count;
            within = all.within;
            settled = λ n taken. let made = taken_are_made n first calls last is step taken in all.are_in n made.0 made.1;
            shown_are = all.shown_are;
          }
      | inl before ↦
          let mine = CrashImage-earlier (told_of first.port) (told_of last.port) last.port.made.changes image (goes_on first calls last is).later before crash in
          let kept : records_in (layout_of geometry) image ≡ records_in (layout_of geometry) (drop origin first.medium) = begins.kept.each last.port.made.changes image (omega arith) mine in
          let exit : records_in (layout_of geometry) (told_of first.port).image ≡ records_in (layout_of geometry) (drop origin first.medium) =
          Leaves-exit (first_state (drop origin first.medium) geometry.sector).told (told_of first.port) _ begins.kept in
          record {
            count = 0;
            within = omega arith;
            settled = λ n taken.
                let made = taken_are_made n first calls last is step taken in
                let no = no_less n first calls last is in
                absurd (omega (arith, made.1, no, before));
            shown_are = inl (ap (λ (l : Layout). records_in l image) layout ∙ kept ∙ sym exit ∙ ap (λ (l : Layout). records_in l (told_of first.port).image) (sym layout) ∙ sym (at_first first calls));
          }
    ])

-- the records change by the commands that are completed
exit_is : (old new : PortState) (call : Call) → IsOneCall old (completed old call) new
    → (records_of new ≡ records_of old) ⊎ (records_of new ≡ made_with (completed old call) (records_of old))
exit_is old new call one =
    subst (λ (m : Stored). (m ≡ records_of old) ⊎ (m ≡ made_with (completed old call) (records_of old))) (sym (shown_alike old new (told_of new).image one.layout))
    (Leaves-exit (told_of old) (told_of new) _ one.leaves)

pub is_history : (first : Embedded) (calls : Calls) (last : Embedded) → Trail Happens first calls last → IsHistory first calls
is_history first calls last is = record { each = λ n. each n first calls last is; made = λ n. made n first calls last is }
  where
    each : (n : ℕ) (first : Embedded) (calls : Calls) (last : Embedded) → Trail Happens first calls last → n < length calls
        → (records_after (suc n) first calls ≡ records_after n first calls) ⊎ (records_after (suc n) first calls ≡ made_with (completed_next n first calls) (records_after n first calls))
    each n first [] last is within = absurd (omega arith)
    each zero first (move ∷ rest) last is within =
        subst (λ (m : Stored). (m ≡ records_of first.port) ⊎ (m ≡ made_with (completed first.port move.event) (records_of first.port))) (sym (at_first move.left rest))
        (exit_is first.port move.left.port move.event (one_call first.port move.event move.left.port is.0.does).0)
    each (suc n) first (move ∷ rest) last is within = each n move.left rest last is.1 (omega (arith, within))

    first_faults : (first : Embedded) (calls : Calls) → faults_after 0 first calls ≡ (flash_of first.port).faults
    first_faults first [] = refl
    first_faults first (move ∷ rest) = refl

    made : (n : ℕ) (first : Embedded) (calls : Calls) (last : Embedded) → Trail Happens first calls last → n < length calls
        → (Rose (faults_after n first calls) (faults_after (suc n) first calls) → ⊥) → records_after (suc n) first calls ≡ made_with (completed_next n first calls) (records_after n first calls)
    made n first [] last is within still = absurd (omega arith)
    made zero first (move ∷ rest) last is within still =
        at_first move.left rest
        ∙ (one_call first.port move.event move.left.port is.0.does).0.made_is (subst (λ (k : ℕ). Rose (flash_of first.port).faults k → ⊥) (first_faults move.left rest) still)
    made (suc n) first (move ∷ rest) last is within still = made n move.left rest last is.1 (omega (arith, within)) still
