-- A turn of a bridge, from what it was to what is seen of it.
use Rattle.std.proofs.Common.{◌≡◌, ℕ, List, refl, subst}
use Rattle.ghes_ack.specs.declared.events.Event.{Event}
use Rattle.ghes_ack.specs.declared.events.Event.TheVariants.{Idle, Fill, Publish, Free, Wait, Nothing, Found, Copied, Took, Clear, Ack}
use Rattle.erst_bridge.specs.declared.events.BridgeEvent.{BridgeEvent}
use Rattle.erst_bridge.specs.declared.stages.BridgeStage.{BridgeStage}
use Rattle.erst_bridge.specs.declared.stages.BridgeStage.TheVariants.{Closed, Awaiting, Holding, Releasing}
use Rattle.erst_bridge.specs.Bridges.{BridgeState, Off, Awaits, Holds, Releases, state_of, HoldsNone, after_reader, StationRules, Asker, Bridges, TurnsReader, Stores, Keeps, RunsOut}

-- a bridge that is on and not holding holds none
pub holds_none : (stage : BridgeStage) (id : ℕ) (bytes : List ℕ) → (stage ≡ Holding → ⊥) → (state_of stage id bytes ≡ Off → ⊥) → HoldsNone id (state_of stage id bytes)
holds_none Closed id bytes other on = on refl
holds_none Awaiting id bytes other on = refl
holds_none Holding id bytes other on = other refl
holds_none Releasing id bytes other on = refl

-- a turn of the reader makes one of three bridges
pub reader_cases : (P : BridgeState → Type 0) (event : Event) (id : ℕ) (block : List ℕ) (bridge : BridgeState) → P (Holds id block) → P (Awaits id) → P bridge → P (after_reader event id block bridge)
reader_cases P Took id block bridge holds awaits same = holds
reader_cases P Ack id block bridge holds awaits same = awaits
reader_cases P Idle id block bridge holds awaits same = same
reader_cases P Fill id block bridge holds awaits same = same
reader_cases P Publish id block bridge holds awaits same = same
reader_cases P Free id block bridge holds awaits same = same
reader_cases P Wait id block bridge holds awaits same = same
reader_cases P Nothing id block bridge holds awaits same = same
reader_cases P Found id block bridge holds awaits same = same
reader_cases P Copied id block bridge holds awaits same = same
reader_cases P Clear id block bridge holds awaits same = same

-- one that holds none is on
is_on : (id : ℕ) (bridge : BridgeState) → HoldsNone id bridge → bridge ≡ Off → ⊥
is_on id Off none = λ _. none
is_on id (Awaits n) none = λ e. absurd (cc e)
is_on id (Holds n block) none = λ e. absurd (cc e)
is_on id (Releases n) none = λ e. absurd (cc e)

module _ {S W : Type 0} (rules : StationRules S W) (asker : Asker) (old : S) where
  -- the same turn, of bridges that are the same
  pub as_seen : (from bridge : BridgeState) (event : BridgeEvent) (to next : BridgeState) (left : ℕ) (new : S) → from ≡ bridge → to ≡ next
      → Bridges rules asker old from event (record { bridge = to; left = left; station = new }) → Bridges rules asker old bridge event (record { bridge = next; left = left; station = new })
  as_seen from bridge event to next left new is leads turn =
      subst (λ (b : BridgeState). Bridges rules asker old b event (record { bridge = next; left = left; station = new })) is
      (subst (λ (b : BridgeState). Bridges rules asker old from event (record { bridge = b; left = left; station = new })) leads turn)

  pub stays_on : (bridge : BridgeState) (event : BridgeEvent) (next : BridgeState) (left : ℕ) (new : S) → Bridges rules asker old bridge event
      (record { bridge = next; left = left; station = new }) → next ≡ Off → ⊥
  stays_on bridge event next left new turn = elim turn as (λ bridge event after turn. after.bridge ≡ Off → ⊥) [
    | TurnsReader id bridge event new none read ↦ reader_cases (λ b. b ≡ Off → ⊥) event id (rules.last new) bridge (λ e. absurd (cc e)) (λ e. absurd (cc e)) (is_on id bridge none)
    | Stores id block left new small writes ↦ λ e. absurd (cc e)
    | Keeps id block error left new small writes ↦ λ e. absurd (cc e)
    | RunsOut id block none ↦ λ e. absurd (cc e)
  ]
