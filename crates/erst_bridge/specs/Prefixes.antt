-- The blocks that the turns of a bridge may store, and the records with some first of them.
use Rattle.std.specs.Prelude.{◌≡◌, ℕ, ◌+◌, ◌==◌, if◌then◌else◌, List, [], ◌∷◌, take, drop, Option, Some}
use Rattle.std.specs.Option.{option_map}
use Rattle.std.specs.FinMap.{get}
use Rattle.record_model.specs.Records.{Stored}
use Rattle.ghes_ack.specs.Machine.{Machine}
use Rattle.erst_bridge.specs.Bridges.{BridgeState, Off, Awaits, Holds, Releases}
use Rattle.erst_commands.specs.Writes.{marked}
use Rattle.erst_bridge.specs.BridgedRecord.{bridged}

-- the bytes that each identifier has, without their generation: a record that is written again, since its write failed at its end, has the
-- next one
abbrev pub bytes_in : Stored → ℕ → Option (List ℕ)
bytes_in stored id = option_map (λ (held : List ℕ × ℕ). held.0) (get stored id)

-- with the records of some blocks more, under identifiers one after another
abbrev pub with_blocks : ℕ → List (List ℕ) → (ℕ → Option (List ℕ)) → ℕ → Option (List ℕ)
with_blocks id [] contents = contents
with_blocks id (block ∷ blocks) contents =
    with_blocks (id + 1) blocks (λ (other : ℕ). if other == id then Some (marked (bridged block id)) else contents other)

-- the identifier of the next block that is stored
abbrev pub next_id : BridgeState → ℕ
next_id Off = 0
next_id (Awaits id) = id
next_id (Holds id block) = id
next_id (Releases id) = id

-- the records are these contents, with those of the first so many blocks to come: those that are held, or submitted and not yet taken
pub record HasPrefix (bridge : BridgeState) (m : Machine) (contents : ℕ → Option (List ℕ)) (shown : Stored) : Type 0 where
  pub count : ℕ
  pub same : (id : ℕ) → bytes_in shown id ≡ with_blocks (next_id bridge) (take count (
      elim bridge [ Holds held block ↦ block ∷ drop m.taken m.blocks | other ↦ drop m.taken m.blocks ])) contents id
