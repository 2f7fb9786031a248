-- Names for terms that definitions write out.
use Rattle.std.specs.Prelude.{Err, List, Ok, Result, [], ℕ, if◌then◌else◌, nat_lt, ◌+◌, ◌-◌, ◌∷◌, Option, Some, None, ◌<◌, ◌≡◌, ◌⊎◌, IfSome, Vec, get_or, length, map}
use Rattle.apei_space.specs.declared.faults.SpaceFault.{SpaceFault}
use Rattle.base_model.specs.Bytes.{part, spelled}
use Rattle.ghes_ack.specs.declared.events.Event.TheVariants.{Clear, Copied, Took, Idle}
use Rattle.ghes_ack.specs.Machine.{Machine, filling, IsWhole, at_work, Acknowledged, Cleared, Published, Situation, Filling}
use Rattle.ghes_ack.specs.Pieces.{pieces, with_status, read_over as pieces_over}
use Rattle.ghes_ack.specs.declared.events.Event.{Event}
use Rattle.ghes_block.specs.declared.error.BlockError.{BlockError}
use Rattle.ghes_ack.specs.declared.submission.SubmitError.{SubmitError}
use Rattle.ghes_ack.specs.declared.submission.SubmitError.TheVariants.{Malformed, Trailing, Full}
use Rattle.std.specs.declared.alloc.Global.{Global}
use Rattle.ghes_ack.specs.WindowQueues.{IsWide}
use Rattle.ghes_ack.specs.Handovers.{HandoverState, AreTurned, WithMemory}
use Rattle.apei_space.specs.RamState.{RamState}
use Rattle.ghes_ack.specs.declared.maps.HandoverMap.{HandoverMap}
use Rattle.ghes_ack.specs.Maps.{window, AreLeft, memory_after}
use Rattle.ghes_ack.specs.declared.events.Side.{Side}
use Rattle.ghes_ack.specs.declared.ends.Ends.{Ends}
use Rattle.ghes_ack.specs.Sides.{situation_of}

abbrev pub Turned : Type 0
Turned = Event × Machine

abbrev pub bytes_in : Result ℕ SpaceFault → List ℕ → ℕ → List ℕ
bytes_in found bytes n = elim found [ Ok start ↦ part bytes start n | Err fault ↦ [] ]

abbrev pub reading : Machine → List ℕ → Turned
reading m block =
    if nat_lt (m.copied + 1) (pieces block) then (Copied, record m { copied = m.copied + 1 })
    else if nat_lt m.copied (pieces block) then (Took, record m { copied = m.copied + 1; taken = m.taken + 1 })
    else (Clear, record m { window = with_status m.window (spelled 4 0); situation = Cleared })

abbrev pub offered : Machine → List (List ℕ) → Turned
offered m blocks = elim blocks [ [] ↦ (Idle, m) | block ∷ waiting ↦ filling m block ]

abbrev pub IsReading : Machine → Type 0
IsReading m = ((m.copied < pieces (at_work m)) × IsWhole m 0) ⊎ ((m.copied ≡ pieces (at_work m)) × IsWhole m 1)

-- why a block of so many bytes is refused, by what was checked of it
abbrev pub reason : Result ℕ BlockError → ℕ → ℕ → Option SubmitError
reason found n waiting = elim found [
  | Err error ↦ Some (Malformed error)
  | Ok size ↦ if nat_lt size n then Some (Trailing (n - size)) else if nat_lt waiting 64 then None else Some Full
]

abbrev pub IsWideIfSome : ℕ → Option (Vec ℕ Global) → Type 0
IsWideIfSome len v = IfSome v (IsWide len)

abbrev pub read_over : HandoverMap → RamState → List ℕ → ℕ → ℕ → List ℕ
read_over map ram block copied n = pieces_over (window map ram) block copied n

-- turns of a side, one after another, that leave of the memory what one of their first event leaves: one turn, or pieces
pub record Runs (side : Side) (events : List Event) (old new : WithMemory HandoverState) (m : Machine) : Type 0 where
  pub turned : AreTurned side (length events) events new.state new.memory m
  pub map : new.state.map ≡ old.state.map
  pub memory_is : new.memory ≡ memory_after old.state.map (get_or events 0 Idle) old.memory (window old.state.map new.memory)
  pub left : AreLeft old.state.map events old.memory new.memory

abbrev pub looking_at : Option (Vec ℕ Global) → Situation
looking_at work = elim work [ None ↦ Acknowledged | Some block ↦ Published ]

abbrev pub situation_in : Option Ends → Option (Vec ℕ Global) → Situation
situation_in ends work = elim ends [ None ↦ Filling | Some both ↦ situation_of both.firmware both.reader work ]
