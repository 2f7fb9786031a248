-- What C's calls do with a boot error region.
use Rattle.std.specs.Prelude.{◌≡◌, ◌⊎◌, ℕ, ◌<◌, true, false, List, length, Some, None}
use Rattle.ghes_block.specs.Table.{IsBert}
use Rattle.ghes_port.specs.declared.boot.BootError.{BootError}
use Rattle.ghes_port.specs.Boot.{BootState, boot_told, boot_after, boot_laying, boot_begun, boot_refusal, outcome_of, is_misplaced}
use Rattle.apei_c.specs.declared.status.Status.{Status}
use Rattle.apei_c.specs.declared.status.Status.TheVariants.{Done, Short, Memory, Region}
use Rattle.apei_c.specs.declared.source_structs.GuestAccess.{GuestAccess}
use Rattle.apei_c.specs.Buffers.{Fills}
use Rattle.apei_c.specs.SourceStatuses.{status_of_laying, status_of_outcome}
use Rattle.apei_c.specs.SourceCalls.{IsToldAs}

-- a region before its first access, and why there is none
abbrev pub IsBegunAt : (at len : ℕ) → BootState → Type 0
IsBegunAt at len region = (is_misplaced at len ≡ false) × (region ≡ boot_begun at len)

abbrev pub RefusesRegion : (at len : ℕ) → Status → Type 0
RefusesRegion at len status = ((is_misplaced at len ≡ true) × (status ≡ Region)) ⊎ ((is_misplaced at len ≡ false) × (status ≡ Memory))

-- a block begins to be laid, or it is refused and nothing changes
abbrev pub LaysBlock : List ℕ → BootState → Status → BootState → Type 0
LaysBlock block old status new =
    ((status ≡ Done) × (boot_refusal old old.stage block ≡ None) × (new ≡ boot_laying old block))
    ⊎ ((fault : BootError) × (boot_refusal old old.stage block ≡ Some fault) × (status ≡ status_of_laying fault) × (new ≡ old))

-- the next access of the region; a buffer of 64 bytes is never too short
abbrev pub TellsBoot : BootState → (was : GuestAccess) → (before : List ℕ) → Status → (now : GuestAccess) → (behind : List ℕ) → Type 0
TellsBoot region was before status now behind =
    ((length before < 64) × (status ≡ Short) × (now ≡ was) × (behind ≡ before)) ⊎ IsToldAs (boot_told region) was before status now behind

-- what was told was done
abbrev pub BootGoesOn : BootState → Status → BootState → Type 0
BootGoesOn old status new = (new ≡ boot_after old) × (status ≡ status_of_outcome (outcome_of old.stage))

-- the table of a region, in a buffer with room for its 48 bytes
abbrev pub TellsBert : (at len : ℕ) → (before : List ℕ) → Status → (behind : List ℕ) → Type 0
TellsBert at len before status behind =
    ((is_misplaced at len ≡ true) × (status ≡ Region) × (behind ≡ before))
    ⊎ ((is_misplaced at len ≡ false) × (table : List ℕ) × IsBert (record { len = len; region = at }) table
    × (length table ≡ 48) × (((status ≡ Done) × Fills table before true behind) ⊎ ((status ≡ Short) × Fills table before false behind)))
