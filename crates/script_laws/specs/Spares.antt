-- The promise over lines: the record of a block that was stored stays, as long as its identifier is spared.
use Rattle.std.specs.Prelude.{◌≡◌, ◌≢◌, ◌≤◌, ℕ, true, List, [], ◌∷◌, Ok}
use Rattle.hex.specs.Hex.{decode_of}
use Rattle.record_model.specs.Records.{Stored as Records}
use Rattle.erst_machine.specs.Shown.{changes_of}
use Rattle.erst_commands.specs.Writes.{id_of}
use Rattle.erst_bridge.specs.declared.events.BridgeEvent.TheVariants.{Stored, Kept}
use Rattle.erst_bridge.specs.Turns.{OfBridge}
use Rattle.erst_bridge.specs.Prefixes.{next_id}
use Rattle.script_text.specs.ScriptGrammar.{write, clear}
use Rattle.apei_script.specs.Players.{PlayerState, UsesEither}
use Rattle.apei_script.specs.Bridged.{EachTurn, KeepsBlocks}
use Rattle.apei_script.specs.Plays.{IsOwnLine, names_command}
use Rattle.script_laws.specs.History.{Played}

-- Of these lines the first one spares an identifier, and behind it those that begin at step s or before: it neither clears nor writes it, and no
-- turn of the bridge in it writes it
abbrev pub SpareLines : ℕ → ℕ → PlayerState → List Played → Type 0
SpareLines s id state [] = Unit {0}
SpareLines s id state (played ∷ rest) =
    elim played.line [
      | clear other ↦ id ≢ other
      | write hex ↦ (bytes : List ℕ) → decode_of hex ≡ Ok bytes → id ≢ id_of bytes
      | other ↦ Unit {0}
    ]
    × EachTurn (λ bridge before step. elim step.turn [
      | OfBridge (Stored other) ↦ id ≢ next_id bridge
      | OfBridge (Kept error) ↦ id ≢ next_id bridge
      | other ↦ Unit {0}
    ]) state.bridge state.machine played.steps
    × (changes_of played.left.machine ≤ s → SpareLines s id played.left rest)

-- power lost at step s shows the record of each block whose storing had ended by s, as long as the lines behind its own that begin at s or
-- before spare its identifier; what a later line does is no matter
abbrev pub KeepsAll : ℕ → PlayerState → List Played → Records → Type 0
KeepsAll s state [] shown = Unit {0}
KeepsAll s state (played ∷ rest) shown =
    KeepsBlocks (λ id. changes_of played.left.machine ≤ s → SpareLines s id played.left rest) s state.bridge state.machine played.steps shown
    × KeepsAll s played.left rest shown

-- a line that runs no action, gives no table, and asks only the clients of the machine's own two tables
abbrev pub IsOwnPlay : PlayerState → Played → Type 0
IsOwnPlay state played = IsOwnLine played.line × (names_command played.line ≡ true → UsesEither state)

-- of these lines the first one is such a line, and so are those behind it that begin at step s or before
abbrev pub AreOwnUntil : ℕ → PlayerState → List Played → Type 0
AreOwnUntil s state [] = Unit {0}
AreOwnUntil s state (played ∷ rest) = IsOwnPlay state played × (changes_of played.left.machine ≤ s → AreOwnUntil s played.left rest)

-- the same in any script: the lines before its own are no matter, and those behind that begin at s or before are such lines and spare its
-- identifier
abbrev pub KeepsInAny : ℕ → PlayerState → List Played → Records → Type 0
KeepsInAny s state [] shown = Unit {0}
KeepsInAny s state (played ∷ rest) shown =
    KeepsBlocks (λ id. changes_of played.left.machine ≤ s → AreOwnUntil s played.left rest × SpareLines s id played.left rest) s state.bridge state.machine played.steps shown
    × KeepsInAny s played.left rest shown
