-- Reads of a flash, one after another.
use Rattle.std.proofs.Common.{◌≡◌, ℕ, ◌+◌, ◌-◌, ◌^◌, ◌<◌, min, Ok, refl, ap, ◌∙◌, arith, inl, inr}
use Rattle.std.proofs.lemmas.Bool.{cases_eq}
use Rattle.base_model.specs.Flash.{FlashState, OnlyReads, StaysPowered, raised}
use Rattle.base_model.proofs.PowerLemmas.{lit_none, lit_then}
use Rattle.record_store.specs.Start.{ReadsTimes}

-- a flash was read so many times, and failed in none
pub record HasRead (tells : Type 0) (n : ℕ) (old now : FlashState) : Type 0 where
  pub told : tells → now.told ≡ old.told
  pub size : now.size ≡ old.size
  pub sector_size : now.sector_size ≡ old.sector_size
  pub steps : now.steps ≡ old.steps
  pub power : now.powered ≡ old.powered
  pub lit : StaysPowered old now
  pub unread : n ≡ 0 → now.reads ≡ old.reads
  pub counted : 0 < n → now.reads ≡ raised n old.reads
  pub faults : now.faults ≡ old.faults

pub reads_none : (tells : Type 0) (flash : FlashState) → HasRead tells 0 flash flash
reads_none tells flash = record {
  told = λ told. refl;
  size = refl;
  sector_size = refl;
  steps = refl;
  power = refl;
  lit = lit_none flash;
  unread = λ none. refl;
  counted = λ some. absurd (omega arith);
  faults = refl;
}

-- counts up to a last one
twice : (m a b n : ℕ) → min (min (n + a) m + b) m ≡ min (n + (a + b)) m
twice m a b n = omega arith

raised_twice : (a b n : ℕ) → raised b (raised a n) ≡ raised (a + b) n
raised_twice a b n = twice (2 ^ 64 - 1) a b n

pub reads_more : {T E : Type 0} (tells : Type 0) (n k : ℕ) (old mid new : FlashState) (x : T) → HasRead tells n old mid → ReadsTimes {T = T} {E = E} tells k mid
    new (Ok x) → 0 < k → HasRead tells (n + k) old new
reads_more tells n k old mid new x had more some = record {
  told = λ told. more.told told ∙ had.told told;
  size = more.size ∙ had.size;
  sector_size = more.sector_size ∙ had.sector_size;
  steps = more.steps ∙ had.steps;
  power = more.power ∙ had.power;
  lit = lit_then old mid new had.power had.lit more.lit;
  unread = λ none. absurd (omega arith);
  counted = λ any. elim (cases_eq n 0) [
    | inl first ↦ more.counted ∙ ap (raised k) (had.unread first) ∙ ap (λ (m : ℕ). raised m old.reads) (with_none n k first)
    | inr later ↦ more.counted ∙ ap (raised k) (had.counted (omega arith)) ∙ raised_twice n k old.reads
  ];
  faults = more.cause.ok ∙ had.faults;
}
  where
    with_none : (a b : ℕ) → a ≡ 0 → b ≡ a + b
    with_none a b e = omega arith

pub reads_ok : {T E : Type 0} (tells : Type 0) (n total : ℕ) (old new : FlashState) (x : T) → HasRead tells n old new → n ≡ total → 0 < n → ReadsTimes {T = T} {E = E} tells total old new (Ok x)
reads_ok tells n total old new x had is some = record {
  told = had.told;
  size = had.size;
  sector_size = had.sector_size;
  steps = had.steps;
  power = had.power;
  lit = had.lit;
  counted = had.counted some ∙ ap (λ (m : ℕ). raised m old.reads) is;
  cause = record { never_falls = (let same = had.faults in omega arith); ok = had.faults; err = tt };
  once = tt;
}

-- what a single call that reads says
pub reads_of_ok : {T E : Type 0} (tells : Type 0) (k : ℕ) (old new : FlashState) (x : T) → OnlyReads {T = T} {E = E} tells k old new (Ok x) → ReadsTimes {T = T} {E = E} tells k old new (Ok x)
reads_of_ok tells k old new x stays = record {
  told = stays.told;
  size = stays.size;
  sector_size = stays.sector_size;
  steps = stays.steps;
  power = stays.power;
  lit = stays.lit;
  counted = stays.counted;
  cause = stays.cause;
  once = tt;
}
