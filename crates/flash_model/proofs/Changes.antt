-- What a change of a simulated flash leaves is what every flash owes.
use Rattle.std.proofs.Common.{◌≡◌, ℕ, ◌+◌, ◌-◌, ◌^◌, ◌<◌, ◌≤◌, inl, inr, ◌↔◌, Bool, true, false, cond, List, [], ◌∷◌, length, replicate, Option, Some, None}
use Rattle.std.proofs.Common.{Result, Ok, Err, IsErr, OnOk, is_some, refl, sym, ap, subst, ◌∙◌, arith, length-append}
use Rattle.std.specs.Prelude.{◌==◌}
use Rattle.std.proofs.lemmas.List.{length-replicate}
use Rattle.base_model.specs.Bytes.{put_at, SameOutside}
use Rattle.base_model.specs.Faults.{Rose}
use Rattle.base_model.proofs.BytesLemmas.{SameOutside-refl, SameOutside-put_at}
use Rattle.base_model.specs.Flash.{Told, Changed, MayChange, AsksChange, LosesOnlyByChange, next_count, unpowered_after}
use Rattle.flash_model.specs.declared.tear.Tear.{Tear}
use Rattle.flash_model.specs.declared.tear.Tear.TheVariants.{Nothing, Whole, Zeros, Marks}
use Rattle.flash_model.specs.declared.power.Power.{Power}
use Rattle.flash_model.specs.declared.power.Power.TheVariants.{On, Until, Lost}
use Rattle.flash_model.specs.Simulation.{Simulation, has_power, power_after, listed_tear, Fate, Uncounted, Unpowered, Reaches, steps_of, state_of, tear_at}
use Rattle.flash_model.specs.Simulation.{fate_under, fate_of, image_left, with_change, faults_after, after_change, FailsBy, ChangeFails}

-- the fate, by the count and the power
pub fate_of-last : (flash : Simulation) → steps_of flash ≡ 2 ^ 64 - 1 → fate_of flash ≡ Uncounted
unfolding fate_of
fate_of-last flash last = grind arith

pub fate_of-lost : (flash : Simulation) → (steps_of flash ≡ 2 ^ 64 - 1 → ⊥) → flash.power ≡ Lost → fate_of flash ≡ Unpowered
unfolding fate_of
fate_of-lost flash more lost = grind arith

fate_under-powered : (power : Power) (tear : Option Tear) → (power ≡ Lost → ⊥) → fate_under power tear ≡ Reaches tear
fate_under-powered On tear powered = refl
fate_under-powered (Until cut) tear powered = refl
fate_under-powered Lost tear powered = absurd (powered refl)

pub fate_of-powered : (flash : Simulation) → (steps_of flash ≡ 2 ^ 64 - 1 → ⊥) → (flash.power ≡ Lost → ⊥)
    → fate_of flash ≡ Reaches (tear_at flash.power flash.failing (steps_of flash))
unfolding fate_of
fate_of-powered flash more powered =
    let e = fate_under-powered flash.power (tear_at flash.power flash.failing (steps_of flash)) powered in grind (arith, e)

-- whatever a change left, it left in its range
pub SameOutside-image_left : (tear : Option Tear) (image : List ℕ) (at : ℕ) (bytes : List ℕ) → at + length bytes ≤ length image
    → SameOutside at (length bytes) image (image_left tear image at bytes)
SameOutside-image_left None image at bytes within = SameOutside-put_at image at bytes within
SameOutside-image_left (Some Nothing) image at bytes within = SameOutside-refl at (length bytes) image
SameOutside-image_left (Some Whole) image at bytes within = SameOutside-put_at image at bytes within
SameOutside-image_left (Some Zeros) image at bytes within =
    let size = length-replicate (length bytes) 0x00 in
    let inside : at + length (replicate (length bytes) 0x00) ≤ length image = omega (arith, size) in
    subst (λ (n : ℕ). SameOutside at n image (put_at image at (replicate (length bytes) 0x00))) size
    (SameOutside-put_at image at (replicate (length bytes) 0x00) inside)
SameOutside-image_left (Some Marks) image at bytes within =
    let size = length-replicate (length bytes) 0xA5 in
    let inside : at + length (replicate (length bytes) 0xA5) ≤ length image = omega (arith, size) in
    subst (λ (n : ℕ). SameOutside at n image (put_at image at (replicate (length bytes) 0xA5))) size
    (SameOutside-put_at image at (replicate (length bytes) 0xA5) inside)

-- a change is told by its range
Changed-with_change : (old new : Told) (at len : ℕ) (image : List ℕ) → new ≡ with_change old at len image → SameOutside at len old.image image → Changed at len old new
Changed-with_change old new at len image is_new same = record {
  past = ap (λ (told : Told). told.past) is_new;
  image = subst (λ (now : List ℕ). SameOutside at len old.image now) (sym (ap (λ (told : Told). told.image) is_new)) same;
}

same_length : (old new : Told) (at len : ℕ) → Changed at len old new → length new.image ≡ length old.image
same_length old new at len changed = changed.image.same_length

has_power-after : (power : Power) (step : ℕ) → has_power (power_after power step) ≡ true → has_power power ≡ true
has_power-after Lost step on = on
has_power-after On step on = refl
has_power-after (Until cut) step on = refl

-- a change that is told may lose power, and one that is not told leaves it
power-changed : (at len : ℕ) (image : List ℕ) (old new : Simulation) → new.told ≡ with_change old.told at len image
    → new.power ≡ power_after old.power (steps_of old) → LosesOnlyByChange (state_of old) (state_of new)
power-changed at len image old new told power = record {
  never_back = λ on. has_power-after old.power (steps_of old) (ap has_power (sym power) ∙ on);
  lost = inr (let more : steps_of new ≡ steps_of old + 1 =
      ap (λ (t : Told). length t.past) told ∙ length-append old.told.past (record { before = old.told.image; at = at; len = len } ∷ []) in omega arith);
}

power-kept : (old new : Simulation) → new.power ≡ old.power → LosesOnlyByChange (state_of old) (state_of new)
power-kept old new power = record { never_back = λ on. ap has_power (sym power) ∙ on; lost = inl (ap has_power power) }

-- a change that is not torn leaves power
whole_powered : (power : Power) (failing : List (ℕ × Tear)) (step : ℕ) → fate_under power (tear_at power failing step) ≡ Reaches None
    → has_power (power_after power step) ≡ true
whole_powered On failing step whole = refl
whole_powered Lost failing step whole = (cc)
whole_powered (Until cut) failing step whole = by_step (cut.step == step) whole
  where
    by_step : (b : Bool) → Reaches (cond b (Some cut.tear) (listed_tear failing step)) ≡ Reaches None → has_power (cond b Lost (Until cut)) ≡ true
    by_step true torn = (cc)
    by_step false torn = refl

fate-powered : (last : Bool) (power : Power) (failing : List (ℕ × Tear)) (step : ℕ)
    → cond last Uncounted (fate_under power (tear_at power failing step)) ≡ Reaches None → has_power (power_after power step) ≡ true
fate-powered true power failing step whole = (cc)
fate-powered false power failing step whole = whole_powered power failing step whole

reaches_powered : (old : Simulation) → fate_of old ≡ Reaches None → has_power (power_after old.power (steps_of old)) ≡ true
unfolding fate_of
reaches_powered old whole = fate-powered (steps_of old == 2 ^ 64 - 1) old.power old.failing (steps_of old) whole

-- whether a change finds power, by its fate
abbrev FindsPower : Fate → Power → Type 0
FindsPower Uncounted power = Unit {0}
FindsPower Unpowered power = has_power power ≡ false
FindsPower (Reaches tear) power = has_power power ≡ true

finds_under : (last : Bool) (power : Power) (tear : Option Tear) → FindsPower (cond last Uncounted (fate_under power tear)) power
finds_under true power tear = tt
finds_under false On tear = refl
finds_under false (Until cut) tear = refl
finds_under false Lost tear = refl

finds_power : (old : Simulation) → FindsPower (fate_of old) old.power
unfolding fate_of
finds_power old = finds_under (steps_of old == 2 ^ 64 - 1) old.power (tear_at old.power old.failing (steps_of old))

unpowered-lit : (old : Simulation) (unpowered : ℕ) → has_power old.power ≡ true → unpowered ≡ old.unpowered → unpowered ≡ unpowered_after (state_of old)
unpowered-lit old unpowered on same = same ∙ sym (ap (λ (b : Bool). cond {A = ℕ} b old.unpowered (next_count old.unpowered)) on)

unpowered-lost : (old : Simulation) (unpowered : ℕ) → has_power old.power ≡ false → unpowered ≡ next_count old.unpowered → unpowered ≡ unpowered_after (state_of old)
unpowered-lost old unpowered off more = more ∙ sym (ap (λ (b : Bool). cond {A = ℕ} b old.unpowered (next_count old.unpowered)) off)

-- what a failed call for a change owes
AsksChange-failed : {T E : Type 0} (at len : ℕ) (old new : Simulation) (result : Result T E) → IsErr result
    → MayChange at len old.told new.told → length new.told.image ≡ length old.told.image → new.sector_size ≡ old.sector_size
    → steps_of new ≡ next_count (steps_of old) → new.reads ≡ old.reads → old.faults < 2 ^ 64 → new.faults ≡ next_count old.faults
    → LosesOnlyByChange (state_of old) (state_of new) → new.unpowered ≡ unpowered_after (state_of old) → new.restarts ≡ old.restarts
    → AsksChange (Unit {0}) at len (state_of old) (state_of new) result
AsksChange-failed at len old new (Ok x) failed told size sector steps reads small faults power unpowered restarts = (cc)
AsksChange-failed at len old new (Err e) failed told size sector steps reads small faults power unpowered restarts = record {
  told = λ _. told;
  one = record {
    size = size;
    sector_size = sector;
    steps = steps;
    counted = tt;
    reads = reads;
    power = power;
    powered = tt;
    cause = record { never_falls = omega (arith, faults); ok = tt; err = rose old.faults new.faults small faults };
    once = faults;
  };
  unpowered = unpowered;
  restarts = restarts;
  done = tt;
}
  where
    rose : (before after : ℕ) → before < 2 ^ 64 → after ≡ next_count before → Rose before after
    rose before after small is_next = grind arith

-- what a whole change owes
AsksChange-done : {T E : Type 0} (at len : ℕ) (old new : Simulation) (result : Result T E) → (IsErr result → ⊥)
    → Changed at len old.told new.told → new.sector_size ≡ old.sector_size
    → steps_of new ≡ next_count (steps_of old) → new.reads ≡ old.reads → new.faults ≡ old.faults
    → LosesOnlyByChange (state_of old) (state_of new) → has_power new.power ≡ true → new.unpowered ≡ unpowered_after (state_of old) → new.restarts ≡ old.restarts
    → AsksChange (Unit {0}) at len (state_of old) (state_of new) result
AsksChange-done at len old new (Err e) succeeded changed sector steps reads faults power powered unpowered restarts = absurd (succeeded refl)
AsksChange-done at len old new (Ok x) succeeded changed sector steps reads faults power powered unpowered restarts = record {
  told = λ _. inr (inl changed);
  one = record {
    size = changed.image.same_length;
    sector_size = sector;
    steps = steps;
    counted = ap length changed.past ∙ length-append old.told.past (record { before = old.told.image; at = at; len = len } ∷ []);
    reads = reads;
    power = power;
    powered = powered;
    cause = record { never_falls = omega (arith, faults); ok = faults; err = tt };
    once = tt;
  };
  unpowered = unpowered;
  restarts = restarts;
  done = λ _. changed;
}

-- whatever its fate
AsksChange-by : {T E : Type 0} (fate : Fate) (at : ℕ) (bytes : List ℕ) (old new : Simulation) (result : Result T E)
    → at + length bytes ≤ length old.told.image → steps_of new ≡ next_count (steps_of old) → old.faults < 2 ^ 64
    → (fate ≡ Reaches None → has_power (power_after old.power (steps_of old)) ≡ true) → FindsPower fate old.power → new ≡ after_change fate old at bytes → IsErr result ↔ FailsBy fate
    → AsksChange (Unit {0}) at (length bytes) (state_of old) (state_of new) result
AsksChange-by Uncounted at bytes old new result within steps small powered finds follows fails =
    AsksChange-failed at (length bytes) old new result (fails.1 tt)
    (inl (ap (λ (flash : Simulation). flash.told) follows)) (ap (λ (flash : Simulation). length flash.told.image) follows)
    (ap (λ (flash : Simulation). flash.sector_size) follows) steps (ap (λ (flash : Simulation). flash.reads) follows) small
    (ap (λ (flash : Simulation). flash.faults) follows)
    (power-kept old new (ap (λ (flash : Simulation). flash.power) follows))
    (ap (λ (flash : Simulation). flash.unpowered) follows) (ap (λ (flash : Simulation). flash.restarts) follows)
AsksChange-by Unpowered at bytes old new result within steps small powered finds follows fails =
    AsksChange-failed at (length bytes) old new result (fails.1 tt)
    (inr (inr (Changed-with_change old.told new.told 0 0 old.told.image (ap (λ (flash : Simulation). flash.told) follows) (SameOutside-refl 0 0 old.told.image))))
    (ap (λ (flash : Simulation). length flash.told.image) follows)
    (ap (λ (flash : Simulation). flash.sector_size) follows) steps (ap (λ (flash : Simulation). flash.reads) follows) small
    (ap (λ (flash : Simulation). flash.faults) follows)
    (power-kept old new (ap (λ (flash : Simulation). flash.power) follows))
    (unpowered-lost old new.unpowered finds (ap (λ (flash : Simulation). flash.unpowered) follows)) (ap (λ (flash : Simulation). flash.restarts) follows)
AsksChange-by (Reaches None) at bytes old new result within steps small powered finds follows fails =
    AsksChange-done at (length bytes) old new result
    (λ failed. fails.0 failed)
    (Changed-with_change old.told new.told at (length bytes) (image_left None old.told.image at bytes)
    (ap (λ (flash : Simulation). flash.told) follows) (SameOutside-image_left None old.told.image at bytes within))
    (ap (λ (flash : Simulation). flash.sector_size) follows) steps (ap (λ (flash : Simulation). flash.reads) follows)
    (ap (λ (flash : Simulation). flash.faults) follows)
    (power-changed at (length bytes) (image_left None old.told.image at bytes) old new (ap (λ (flash : Simulation). flash.told) follows) (ap (λ (flash : Simulation). flash.power) follows))
    (ap has_power (ap (λ (flash : Simulation). flash.power) follows) ∙ powered refl)
    (unpowered-lit old new.unpowered finds (ap (λ (flash : Simulation). flash.unpowered) follows)) (ap (λ (flash : Simulation). flash.restarts) follows)
AsksChange-by (Reaches (Some tear)) at bytes old new result within steps small powered finds follows fails =
    let changed = Changed-with_change old.told new.told at (length bytes) (image_left (Some tear) old.told.image at bytes)
    (ap (λ (flash : Simulation). flash.told) follows) (SameOutside-image_left (Some tear) old.told.image at bytes within) in
    AsksChange-failed at (length bytes) old new result (fails.1 tt)
    (inr (inl changed)) changed.image.same_length
    (ap (λ (flash : Simulation). flash.sector_size) follows) steps (ap (λ (flash : Simulation). flash.reads) follows) small
    (ap (λ (flash : Simulation). flash.faults) follows)
    (power-changed at (length bytes) (image_left (Some tear) old.told.image at bytes) old new (ap (λ (flash : Simulation). flash.told) follows) (ap (λ (flash : Simulation). flash.power) follows))
    (unpowered-lit old new.unpowered finds (ap (λ (flash : Simulation). flash.unpowered) follows)) (ap (λ (flash : Simulation). flash.restarts) follows)

pub AsksChange-follows : {T E : Type 0} (at : ℕ) (bytes : List ℕ) (old new : Simulation) (result : Result T E)
    → at + length bytes ≤ length old.told.image → steps_of new ≡ next_count (steps_of old) → old.faults < 2 ^ 64
    → new ≡ after_change (fate_of old) old at bytes → IsErr result ↔ ChangeFails old
    → AsksChange (Unit {0}) at (length bytes) (state_of old) (state_of new) result
AsksChange-follows at bytes old new result within steps small follows fails =
    AsksChange-by (fate_of old) at bytes old new result within steps small (reaches_powered old) (finds_power old) follows fails

-- an Ok did the change
image-by : {T E : Type 0} (fate : Fate) (at : ℕ) (bytes : List ℕ) (old new : Simulation) (result : Result T E)
    → new ≡ after_change fate old at bytes → IsErr result ↔ FailsBy fate
    → OnOk result (new.told.image ≡ put_at old.told.image at bytes)
image-by fate at bytes old new (Err e) follows fails = tt
image-by Uncounted at bytes old new (Ok x) follows fails = let failed = fails.1 tt in (cc)
image-by Unpowered at bytes old new (Ok x) follows fails = let failed = fails.1 tt in (cc)
image-by (Reaches (Some tear)) at bytes old new (Ok x) follows fails = let failed = fails.1 tt in (cc)
image-by (Reaches None) at bytes old new (Ok x) follows fails = ap (λ (flash : Simulation). flash.told.image) follows

pub image-follows : {T E : Type 0} (at : ℕ) (bytes : List ℕ) (old new : Simulation) (result : Result T E)
    → new ≡ after_change (fate_of old) old at bytes → IsErr result ↔ ChangeFails old
    → OnOk result (new.told.image ≡ put_at old.told.image at bytes)
image-follows at bytes old new result follows fails = image-by (fate_of old) at bytes old new result follows fails

-- a change fails where it can't be counted, without power, and where it is torn
pub ChangeFails-last : (old : Simulation) → steps_of old ≡ 2 ^ 64 - 1 → ChangeFails old
ChangeFails-last old last = rw (fate_of-last old last) tt

pub ChangeFails-lost : (old : Simulation) → (steps_of old ≡ 2 ^ 64 - 1 → ⊥) → old.power ≡ Lost → ChangeFails old
ChangeFails-lost old more lost = rw (fate_of-lost old more lost) tt

FailsBy-torn : (tear : Option Tear) → is_some tear ≡ true → FailsBy (Reaches tear)
FailsBy-torn (Some tear) torn = tt
FailsBy-torn None torn = (cc)

pub ChangeFails-torn : (old : Simulation) (tear : Option Tear) → fate_of old ≡ Reaches tear → is_some tear ≡ true → ChangeFails old
ChangeFails-torn old tear fate torn = rw fate (FailsBy-torn tear torn)

FailsBy-whole : (tear : Option Tear) → is_some tear ≡ false → FailsBy (Reaches tear) → ⊥
FailsBy-whole (Some tear) whole fails = (cc)
FailsBy-whole None whole fails = fails

pub ChangeFails-whole : (old : Simulation) (tear : Option Tear) → fate_of old ≡ Reaches tear → is_some tear ≡ false → ChangeFails old → ⊥
ChangeFails-whole old tear fate whole fails = FailsBy-whole tear whole (rw fate at fails)

pub faults_after-torn : (tear : Option Tear) (faults : ℕ) → is_some tear ≡ true → faults_after tear faults ≡ next_count faults
faults_after-torn (Some tear) faults torn = refl
faults_after-torn None faults torn = (cc)

pub faults_after-whole : (tear : Option Tear) (faults : ℕ) → is_some tear ≡ false → faults_after tear faults ≡ faults
faults_after-whole (Some tear) faults whole = (cc)
faults_after-whole None faults whole = refl
