-- The boot error region as a machine: what it tells next, what it is after that, and what power lost at any moment leaves.
use Rattle.std.specs.Prelude.{◌≡◌, ℕ, ◌+◌, ◌-◌, ◌*◌, ◌^◌, ◌<◌, ◌≤◌, min, nat_lt, ◌==◌, ◌||◌, ◌%◌, not, if◌then◌else◌, Bool, List, [], ◌∷◌, ◌++◌, length, take, Option, Some, None, Vec, vec_capacity}
use Rattle.std.specs.declared.alloc.Global.{Global}
use Rattle.base_model.specs.Bytes.{zeros}
use Rattle.apei_tables.specs.declared.registers.Place.TheVariants.{Memory as InMemory}
use Rattle.ghes_ack.specs.Submissions.{refusal_of}
use Rattle.ghes_port.specs.declared.boot.BootStage.{BootStage}
use Rattle.ghes_port.specs.declared.boot.BootStage.TheVariants.{Clear, Rest, Fill, Show}
use Rattle.ghes_port.specs.declared.boot.BootError.{BootError}
use Rattle.ghes_port.specs.declared.boot.BootError.TheVariants.{Busy, Bad}
use Rattle.ghes_port.specs.declared.accesses.Outcome.{Outcome}
use Rattle.ghes_port.specs.declared.accesses.Outcome.TheVariants.{Nothing as NothingDone, Done}
use Rattle.ghes_port.specs.Machine.{Told, Nothing, Writes, piece_at, piece_of, IsGood}
use Rattle.ghes_port.specs.Readers.{memory_after}

-- where it lies, how many bytes its blocks have, how far it is, and the block that is laid
pub record BootState : Type 0 where
  pub at : ℕ
  pub len : ℕ
  pub end : ℕ
  pub stage : BootStage
  pub block : List ℕ

abbrev pub told_at : BootState → BootStage → Told
told_at b (Clear piece) = Writes (InMemory (b.at + 64 * piece)) (zeros (min 64 (b.len - 64 * piece)))
told_at b Rest = Nothing
told_at b (Fill piece) = Writes (InMemory (b.at + b.end + piece_at piece)) (piece_of b.block piece)
told_at b Show = Writes (InMemory (b.at + b.end)) (take 4 b.block)

abbrev pub boot_told : BootState → Told
boot_told b = told_at b b.stage

abbrev pub stage_after : BootState → BootStage → BootStage
stage_after b (Clear piece) = if nat_lt (64 * (piece + 1)) b.len then Clear (piece + 1) else Rest
stage_after b Rest = Rest
stage_after b (Fill piece) = if nat_lt (piece_at (piece + 1)) (length b.block) then Fill (piece + 1) else Show
stage_after b Show = Rest

abbrev pub end_after : BootState → BootStage → ℕ
end_after b Show = b.end + length b.block
end_after b _ = b.end

abbrev pub boot_after : BootState → BootState
boot_after b = record b { stage = stage_after b b.stage; end = end_after b b.stage }

abbrev pub outcome_of : BootStage → Outcome
outcome_of Rest = NothingDone
outcome_of _ = Done

abbrev pub boot_laying : BootState → List ℕ → BootState
boot_laying b block = record b { stage = Fill 0; block = block }

-- a region before its first access, and why there is none
abbrev pub boot_begun : ℕ → ℕ → BootState
boot_begun at len = record { at = at; len = len; end = 0; stage = Clear 0; block = [] }

abbrev pub is_misplaced : ℕ → ℕ → Bool
is_misplaced at len = ((at == 0 || not (at % 4 == 0)) || nat_lt len 20) || nat_lt (2 ^ 64 - 1) (at + len)

-- why a block is not laid: one is being laid, or it is not exactly one block that what is left takes
abbrev pub boot_refusal : BootState → BootStage → List ℕ → Option BootError
boot_refusal b Rest block = elim (refusal_of (b.len - b.end) block 0) [ Some fault ↦ Some (Bad fault) | None ↦ None ]
boot_refusal b _ block = Some Busy

-- where it may be
abbrev pub IsReached : BootState → BootStage → Type 0
IsReached b (Clear piece) = (64 * piece < b.len) × (b.end ≡ 0)
IsReached b Rest = Unit {0}
IsReached b (Fill piece) = IsGood (b.len - b.end) b.block × (piece_at piece < length b.block)
IsReached b Show = IsGood (b.len - b.end) b.block

pub record IsBoot (b : BootState) : Type 0 where
  pub below : b.at + b.len < 2 ^ 64
  pub short : b.len < 2 ^ 32
  pub within : b.end ≤ b.len
  pub reached : IsReached b b.stage

-- the buffer of the block has room for the longest one
abbrev pub IsRoomy : ℕ → Vec ℕ Global → Type 0
IsRoomy len buffer = len ≤ vec_capacity buffer

-- a region, a memory, and the blocks whose block status was written
pub record BootWorld : Type 0 where
  pub boot : BootState
  pub memory : ℕ → ℕ
  pub laid : List (List ℕ)

abbrev pub laid_after : BootState → BootStage → List (List ℕ) → List (List ℕ)
laid_after b Show laid = laid ++ b.block ∷ []
laid_after b _ laid = laid

-- one thing that happens: a block begins to be laid; the next access is made; somebody writes elsewhere
pub data BootHappens (old new : BootWorld) : Type 0 where
  Lays : (block : List ℕ) → old.boot.stage ≡ Rest → IsGood (old.boot.len - old.boot.end) block
      → new ≡ record old { boot = boot_laying old.boot block } → BootHappens old new
  Accesses : new ≡ record old {
    boot = boot_after old.boot;
    memory = memory_after (boot_told old.boot) old.memory;
    laid = laid_after old.boot old.boot.stage old.laid;
  } → BootHappens old new
  Elsewhere : (memory : ℕ → ℕ) → ((i : ℕ) → old.boot.at ≤ i → i < old.boot.at + old.boot.len → memory i ≡ old.memory i)
      → new ≡ record old { memory = memory } → BootHappens old new

pub data BootLeads (first : BootWorld) : BootWorld → Type 0 where
  Stays : BootLeads first first
  Then : (between last : BootWorld) → BootLeads first between → BootHappens between last → BootLeads first last

-- before the first access
pub record IsBootFirst (w : BootWorld) : Type 0 where
  pub boot : w.boot ≡ boot_begun w.boot.at w.boot.len
  pub is : IsBoot w.boot
  pub laid : w.laid ≡ []

-- the region's zeros were written
abbrev pub IsCleared : BootStage → Type 0
IsCleared (Clear piece) = ⊥
IsCleared _ = Unit {0}

-- what power lost in the next access may leave: of a piece, all bytes from its first one on may be lost; a block status is one access
abbrev pub lost_from : BootState → BootStage → ℕ
lost_from b (Fill piece) = b.at + b.end + piece_at piece
lost_from b _ = b.at + b.len

abbrev pub MayBeLeft : BootWorld → (ℕ → ℕ) → Type 0
MayBeLeft w memory = (i : ℕ) → w.boot.at ≤ i → i < lost_from w.boot w.boot.stage → memory i ≡ w.memory i
