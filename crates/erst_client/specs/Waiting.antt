-- Waiting by microseconds, as the client counts them.
use Rattle.std.specs.Prelude.{◌≡◌, ℕ, ◌+◌, ◌*◌, ◌<◌, ◌≤◌, List, Option, Some, None, Result, Ok, Err}
use Rattle.apei_space.specs.Calls.{Call, Wait}
use Rattle.erst_entries.specs.declared.entries.Entry.{Entry}
use Rattle.erst_client.specs.declared.errors.ClientError.{ClientError}
use Rattle.erst_client.specs.declared.errors.ClientError.TheVariants.{Late}
use Rattle.erst_client.specs.Sequences.{Busy}

pub data Paused {W : Type 0} (allows : W → Call → W → Type 0) (timings : Option (ℕ × ℕ)) (waited : ℕ) (old : W) : Result ℕ ClientError → W → Type 0 where
  NoPause : timings ≡ None → Paused allows timings waited old (Ok waited) old
  Pause : (known : ℕ × ℕ) (new : W) → timings ≡ Some known → waited + 10 ≤ known.0 → allows old (Wait 10) new → Paused allows timings waited old (Ok (waited + 10)) new
  NoTime : (known : ℕ × ℕ) → timings ≡ Some known → known.0 < waited + 10 → Paused allows timings waited old (Err (Late waited)) old

-- so long was waited while the firmware was busy so many times; a client without timings does not count
abbrev pub HasWaited : Option (ℕ × ℕ) → ℕ → ℕ → Type 0
HasWaited None busy waited = waited ≡ 0
HasWaited (Some timings) busy waited = waited ≡ 10 * busy

-- a client on its way: how often the firmware was busy so far
pub record IsWaiting {W : Type 0} (allows : W → Call → W → Type 0) (entries : List Entry) (timings : Option (ℕ × ℕ)) (budget : ℕ) (first : W) (waited left : ℕ) (mid : W) : Type 0 where
  pub busy : ℕ
  pub runs : Busy allows entries timings budget first busy left mid
  pub has : HasWaited timings busy waited
