-- What a line asks of the machine itself: its handover of error status blocks, its boot error region, and its memory.
use Rattle.std.specs.Prelude.{◌≡◌, ℕ, List, [], ◌∷◌, ◌++◌, length, map, Ok, codes, decimal}
use Rattle.hex.specs.Hex.{decode_of}
use Rattle.apei_space.specs.Calls.{ReadBytes}
use Rattle.ghes_block.specs.Region.{IsLaidOut}
use Rattle.ghes_ack.specs.declared.events.Event.{Event}
use Rattle.ghes_ack.specs.declared.events.Event.TheVariants.{Took}
use Rattle.erst_machine.specs.MachineState.{MachineState}
use Rattle.erst_machine.specs.Events.{Turns, Event as MachineEvent, Accessed, Submitted, Laid, Happens}
use Rattle.script_text.specs.Turns.{side_of}
use Rattle.script_text.specs.ScriptGrammar.{Line, error, turns, peek, fatal, bert}
use Rattle.apei_script.specs.Words.{words_of_submission, words_of_turns, words_of_block, words_of_peek, words_of_laid}

-- turns one after another: their events, the blocks that were taken, and the machine afterwards
pub data Turned (old : MachineState) : List ℕ → List Event → List (List ℕ) → MachineState → Type 0 where
  NoTurn : Turned old [] [] [] old
  OneMore : (letters : List ℕ) (events : List Event) (blocks : List (List ℕ)) (mid : MachineState) (letter : ℕ) (event : Event) (new : MachineState)
      → Turned old letters events blocks mid → Turns (side_of letter) mid event new
      → Turned old (letters ++ letter ∷ []) (events ++ event ∷ [])
      (blocks ++ elim event as (λ event. List (List ℕ)) [ Took ↦ new.handover.last ∷ [] | other ↦ [] ]) new

-- what a line asks for as one thing that happens, and the words of its reply
abbrev pub AsksFor : Line → MachineEvent → List ℕ → Type 0
AsksFor (error hex) (Submitted block result) words = (decode_of hex ≡ Ok block) × (words ≡ words_of_submission result)
AsksFor (peek at len) (Accessed (ReadBytes from before after answer)) words = (from ≡ at) × (length before ≡ len) × (words ≡ words_of_peek after answer)
AsksFor (fatal hex) (Laid block result) words = (decode_of hex ≡ Ok block) × (words ≡ words_of_laid result)
AsksFor line event words = ⊥

-- the line, the words of its replies, the blocks of which the listeners are told, and the machine afterwards
pub data Happened (tells : Type 0) (old : MachineState) : Line → List (List ℕ) → List (List ℕ) → MachineState → Type 0 where
  Once : (line : Line) (event : MachineEvent) (words : List ℕ) (new : MachineState) → AsksFor line event words → Happens tells old event new
      → Happened tells old line (words ∷ []) [] new
  Turn : (letters : List ℕ) (events : List Event) (blocks : List (List ℕ)) (new : MachineState) → Turned old letters events blocks new
      → Happened tells old (turns letters) (map words_of_block blocks ++ words_of_turns events ∷ []) blocks new
  IsListed : (blocks : List (List ℕ)) (left : ℕ) → IsLaidOut blocks left old.memory.region
      → Happened tells old bert (map words_of_block blocks ++ (codes "bert " ++ decimal (length blocks)) ∷ []) [] old
