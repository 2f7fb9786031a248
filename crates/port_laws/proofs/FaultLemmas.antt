-- The flash of a port fails only where no further change can be counted.
use Rattle.std.proofs.Common.{◌≡◌, ◌∙◌, ℕ, zero, suc, ◌<◌, ◌≤◌, ◌%◌, ◌^◌, ◌-◌, [], ◌∷◌, length, Result, inl, inr, refl, ap, arith, lit<}
use Rattle.base_model.specs.Faults.{Rose}
use Rattle.record_store.specs.Store.{StoreView}
use Rattle.apei_tables.specs.declared.widths.Width.{Width}
use Rattle.apei_space.specs.Accesses.{Trail}
use Rattle.erst_device.proofs.EffectLemmas.{faults_rise}
use Rattle.erst_port.specs.declared.errors.PortError.{PortError}
use Rattle.erst_port.specs.declared.windows.Location.{Location}
use Rattle.erst_port.specs.declared.windows.Location.TheVariants.{Action, Value, LowHalf, HighHalf, Bytes, Nowhere}
use Rattle.erst_port.specs.Accesses.{NumberWritten, ActionWritten, Resets}
use Rattle.erst_port.specs.LastCount.{FailsLast}
use Rattle.erst_port.specs.Places.{range_location, location_of}
use Rattle.erst_port.specs.PortState.{PortState, flash_of}
use Rattle.port_laws.specs.Calls.{Embedded, Call, Writes, Puts, Restarts, MovesTo, Looks, Makes, Does, Happens}
use Rattle.port_laws.specs.Prefixes.{Calls, faults_after, CountsNoFault}
use Rattle.port_laws.proofs.CallLemmas.{noted_made, stored_store}

-- One call

by_store : (old new : PortState) → new.device.store ≡ old.device.store → (flash_of old).faults ≤ (flash_of new).faults
by_store old new store = let same = ap (λ (s : StoreView). s.flash.faults) store in omega (arith, same)

pub by_port : (old new same : PortState) → new ≡ same → same.device.store ≡ old.device.store → (flash_of old).faults ≤ (flash_of new).faults
by_port old new same is store = by_store old new (ap (λ (p : PortState). p.device.store) is ∙ store)

by_action : (old new : PortState) (code : ℕ) (answer : Result (Unit {0}) PortError) → ActionWritten old code answer new → (flash_of old).faults ≤ (flash_of new).faults
by_action old new code answer (inl refused) = by_port old new old refused.2 refl
by_action old new code answer (inr taken) = taken.2.acted.effect.never_falls

pub by_write : (location : Location) (old new : PortState) (width : Width) (value : ℕ) (answer : Result (Unit {0}) PortError) → NumberWritten location old width value answer new
    → (flash_of old).faults ≤ (flash_of new).faults
by_write Action old new width value answer h = by_action old new (value % 2 ^ 32) answer h
by_write Value old new width value answer h = by_port old new _ h.1 refl
by_write LowHalf old new width value answer h = by_port old new _ h.1 refl
by_write HighHalf old new width value answer h = by_port old new _ h.1 refl
by_write (Bytes start) old new width value answer h = by_port old new _ h.1 refl
by_write Nowhere old new width value answer h = by_port old new _ h.1 refl

pub by_reset : (old new : PortState) (answer : Result (Unit {0}) PortError) → Resets old answer new → (flash_of old).faults ≤ (flash_of new).faults
by_reset old new answer (inl refused) = by_port old new old refused.2 refl
by_reset old new answer (inr done) = faults_rise (flash_of old).faults (flash_of new).faults done.1.0 done.1.2.leaves.cause

never_falls : (old : PortState) (call : Call) (new : PortState) → Does old call new → (flash_of old).faults ≤ (flash_of new).faults
never_falls old (Writes window offset width value answer) new h = by_write (location_of window (length old.range) offset width) old new width value answer h
never_falls old (Puts offset bytes answer) new h =
    by_port old new _ h.1 (stored_store (range_location (length old.range) offset (length bytes)) old bytes)
never_falls old (Restarts answer) new h = by_reset old new answer h
never_falls old (MovesTo addresses answer) new (inl refused) = by_port old new old refused.2 refl
never_falls old (MovesTo addresses answer) new (inr moved) = by_port old new _ moved.2 refl
never_falls old Looks new h = by_port old new old h refl
never_falls old (Makes kind at bytes) new h = by_port old new _ (noted_made old new h.1) refl

-- Calls one after another

few_at_last : (first : Embedded) (calls : Calls) (last : Embedded) → Trail Happens first calls last → (flash_of first.port).faults ≤ (flash_of last.port).faults
few_at_last first [] last is = let same = ap (λ (e : Embedded). (flash_of e.port).faults) is in omega (arith, same)
few_at_last first (move ∷ rest) last is =
    let one = never_falls first.port move.event move.left.port is.0.does in
    let more = few_at_last move.left rest last is.1 in
    omega (arith, one, more)

few_before : (n : ℕ) (first : Embedded) (calls : Calls) (last : Embedded) → Trail Happens first calls last → faults_after n first calls ≤ (flash_of last.port).faults
few_before n first [] last is = few_at_last first [] last is
few_before zero first (move ∷ rest) last is = few_at_last first (move ∷ rest) last is
few_before (suc n) first (move ∷ rest) last is = few_before n move.left rest last is.1

pub no_fault : (first : Embedded) (calls : Calls) (last : Embedded) → Trail Happens first calls last → FailsLast (flash_of last.port)
    → (flash_of last.port).steps < 2 ^ 64 - 1 → CountsNoFault first calls
no_fault first calls last is fails_last countable = λ n within rose. by_rise (faults_after n first calls) (faults_after (suc n) first calls) (few_before (suc n) first calls last is) rose
  where
    by_rise : (before after : ℕ) → after ≤ (flash_of last.port).faults → Rose before after → ⊥
    by_rise before after few (inl higher) = let full = fails_last (omega (arith, few, higher)) in omega (arith, full, countable)
    by_rise before after few (inr most) =
        let some : 0 < 2 ^ 64 - 1 = lit< tt in
        let full = fails_last (omega (arith, few, most, some)) in
        omega (arith, full, countable)
