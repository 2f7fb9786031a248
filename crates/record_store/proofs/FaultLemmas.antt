-- Calls that end at their first fault, one after another.
use Rattle.std.proofs.Common.{◌≡◌, ℕ, ◌≤◌, Bool, cond, Result, Ok, Err, refl, sym, ap, subst, ◌∙◌, arith, inl, inr}
use Rattle.base_model.specs.Flash.{FlashState, IsOneChange, AsksChange, LosesOnlyByChange, StaysPowered, next_count}
use Rattle.base_model.proofs.PowerLemmas.{lit_none, lit_then}
use Rattle.record_store.specs.Answers.{EndsAtFault, ByFault}
use Rattle.record_store.specs.Start.{ReadsTimes}
use Rattle.record_store.specs.declared.errors.StoreError.{StoreError}
use Rattle.record_store.specs.declared.errors.StoreError.TheVariants.{NoSpace, LastGeneration, NotFound, Empty, Flash, Small}

unless_weaker : {T : Type 0} (y : Result T StoreError) (P Q : Type 0) → (P → Q) → ByFault y (Unit {0}) P → ByFault y (Unit {0}) Q
unless_weaker (Ok done) P Q weaker had = weaker had
unless_weaker (Err (NoSpace free)) P Q weaker had = weaker had
unless_weaker (Err (LastGeneration id)) P Q weaker had = weaker had
unless_weaker (Err NotFound) P Q weaker had = weaker had
unless_weaker (Err Empty) P Q weaker had = weaker had
unless_weaker (Err Flash) P Q weaker had = tt
unless_weaker (Err (Small need)) P Q weaker had = weaker had

-- no call
pub ends_none : {T : Type 0} (flash : FlashState) (x : T) → EndsAtFault {T = T} flash flash (Ok x)
ends_none flash x = record { once = tt; lit = lit_none flash; same_power = refl; later = omega arith }

-- a refusal
pub ends_refused : {T U : Type 0} (old new : FlashState) (x : T) (error : StoreError) → (error ≡ Flash → ⊥) → EndsAtFault {T = T} old new (Ok x) → EndsAtFault {T = U} old new (Err error)
ends_refused old new x (NoSpace free) other had = record { once = tt; lit = had.lit; same_power = had.same_power; later = had.later }
ends_refused old new x (LastGeneration id) other had = record { once = tt; lit = had.lit; same_power = had.same_power; later = had.later }
ends_refused old new x NotFound other had = record { once = tt; lit = had.lit; same_power = had.same_power; later = had.later }
ends_refused old new x Empty other had = record { once = tt; lit = had.lit; same_power = had.same_power; later = had.later }
ends_refused old new x Flash other had = absurd (other refl)
ends_refused old new x (Small need) other had = record { once = tt; lit = had.lit; same_power = had.same_power; later = had.later }

-- one call after another
pub ends_then : {T U : Type 0} (old mid new : FlashState) (x : T) (y : Result U StoreError) → mid.faults ≡ old.faults → EndsAtFault {T = T} old mid (Ok x) →
    EndsAtFault {T = U} mid new y → EndsAtFault {T = U} old new y
ends_then {T} {U} old mid new x y same first second = record {
  once = subst (λ (n : ℕ). ByFault {T = U} y (new.faults ≡ next_count n) (Unit {0})) same second.once;
  lit = lit_then old mid new first.same_power first.lit second.lit;
  same_power = unless_weaker y (new.powered ≡ mid.powered) (new.powered ≡ old.powered) (λ more. more ∙ first.same_power) second.same_power;
  later = unless_weaker y (mid.steps ≤ new.steps) (old.steps ≤ new.steps) (λ more. let before = first.later in omega arith) second.later;
}

-- reads
pub ends_read : {T U E : Type 0} (tells : Type 0) (count : ℕ) (old new : FlashState) (z : U) (y : T) → ReadsTimes {T = U} {E = E} tells count old new (Ok z) → EndsAtFault {T = T} old new (Ok y)
ends_read tells count old new z y reads = record { once = tt; lit = reads.lit; same_power = reads.power; later = let same = reads.steps in omega arith }

pub ends_read_failed : {T U E : Type 0} (tells : Type 0) (count : ℕ) (old new : FlashState) (e : E) → ReadsTimes {T = U} {E = E} tells count old new (Err e) → EndsAtFault {T = T} old new (Err Flash)
ends_read_failed tells count old new e reads = record { once = reads.once; lit = reads.lit; same_power = tt; later = tt }

-- a change that was asked for restarts nothing, and finds power where there was some
pub asks_lit : {T E : Type 0} (tells : Type 0) (at len : ℕ) (old new : FlashState) (result : Result T E) → AsksChange tells at len old new result → StaysPowered old new
asks_lit tells at len old new result asks =
    record { restarts = asks.restarts; unpowered = λ on. asks.unpowered ∙ ap (λ (b : Bool). cond {A = ℕ} b old.unpowered (next_count old.unpowered)) on }

-- one change, whatever its Ok answers
pub one_change : {T U E D : Type 0} (old new : FlashState) (x : T) (y : U) → IsOneChange {T = T} {E = E} old new (Ok x) → IsOneChange {T = U} {E = D} old new (Ok y)
one_change old new x y one = record {
  size = one.size;
  sector_size = one.sector_size;
  steps = one.steps;
  counted = one.counted;
  reads = one.reads;
  power = one.power;
  powered = one.powered;
  cause = record { never_falls = one.cause.never_falls; ok = one.cause.ok; err = tt };
  once = tt;
}

-- power is lost only by a change, in a call that follows one which kept it
pub loses_then : (old mid new : FlashState) → mid.powered ≡ old.powered → old.steps ≤ mid.steps → LosesOnlyByChange mid new → LosesOnlyByChange old new
loses_then old mid new same before then = record {
  never_back = λ on. sym same ∙ then.never_back on;
  lost = elim then.lost [ inl kept ↦ inl (kept ∙ same) | inr more ↦ inr (omega arith) ];
}
