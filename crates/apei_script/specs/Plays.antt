-- The playing of one line. `tells` says whether the flash tells its content.
use Rattle.std.specs.Prelude.{◌≡◌, ◌≢◌, ◌⊎◌, ℕ, ◌+◌, ◌≤◌, Bool, true, false, List, [], ◌∷◌, ◌++◌, codes, decimal, length, take, Option, Some, None, Ok, Err, map}
use Rattle.hex.specs.Hex.{decode_of}
use Rattle.base_model.specs.Faults.{Rose}
use Rattle.base_model.specs.Flash.{Leaves}
use Rattle.apei_space.specs.Accesses.{Move, Trail, Reaches}
use Rattle.script_lines.specs.Streams.{Stream}
use Rattle.script_lines.specs.declared.lengths.TheConstants.{LONGEST_LINE}
use Rattle.apei_notify.specs.Telling.{Hearing, counts_of}
pub use Rattle.apei_notify.specs.Telling.{Told}
use Rattle.ghes_ack.specs.declared.events.Event.{Event as TurnEvent}
use Rattle.ghes_ack.specs.declared.events.Event.TheVariants.{Took}
use Rattle.erst_entries.specs.Tables.{refusal as table_refusal}
use Rattle.erst_interp.specs.declared.stops.RunStop.{RunStop}
use Rattle.erst_client.specs.Attaching.{Attaches}
use Rattle.erst_client.specs.Commands.{ClientState}
use Rattle.erst_client.specs.Timings.{enough_steps}
use Rattle.erst_machine.specs.declared.errors.BootError.{BootError}
use Rattle.erst_machine.specs.MachineState.{MachineState, records_of, told_of}
use Rattle.erst_machine.specs.Allowed.{Allows}
use Rattle.erst_machine.specs.Events.{Event, Warms, Powers, Happens}
use Rattle.erst_machine.specs.Shown.{IsShown, made_by_event, shown_by}
use Rattle.erst_commands.specs.Attached.{own_client}
use Rattle.erst_bridge.specs.declared.events.BridgeEvent.TheVariants.{Line as ByReader}
use Rattle.erst_bridge.specs.Bridges.{BridgeState, Off}
use Rattle.erst_bridge.specs.Turns.{OfBridge, Step}
use Rattle.apei_script.specs.RunWords.{words_of_stop}
use Rattle.script_text.specs.ScriptGrammar.{Line, IsValid, blank, comment, write, read, clear, count, next, dummy, action, table, own_table, shadow_table}
use Rattle.script_text.specs.ScriptGrammar.{error, turns, fatal, bert, heard, reset, power}
use Rattle.apei_script.specs.declared.player.PlayStop.{PlayStop}
use Rattle.apei_script.specs.declared.player.PlayStop.TheVariants.{SinkFault, FlashFault, Memory}
use Rattle.erst_shadow.specs.ShadowTables.{shadow_count, shadow_erst}
use Rattle.erst_shadow.specs.ShadowCommands.{pieces_in, shadow_client, AttachesShadow}
use Rattle.apei_script.specs.Players.{PlayerState, client_of, budget_of, asker_of, UsesOwn, UsesShadow, UsesEither}
use Rattle.apei_script.specs.Words.{Reply, at_step, said_at, reply_at, text_of_replies, refused, words_of_table, words_of_turns, words_of_heard}
use Rattle.apei_script.specs.Tables.{ATTACH_STEPS, GivesTable}
use Rattle.apei_script.specs.Mapped.{Mapped, after_line}
use Rattle.apei_script.specs.ShadowMapped.{ShadowMapped}
use Rattle.apei_script.specs.Happened.{Happened}
use Rattle.apei_script.specs.Changes.{changes_along}
pub use Rattle.apei_script.specs.Bridged.{changes_in}
use Rattle.apei_script.specs.Bridged.{words_of_steps, ByBridge, TurnsShown}
use Rattle.apei_script.specs.Asked.{Asked}

-- a line that was played: its replies, the blocks of which the listeners were told, the turns of the bridge and of the firmware beside it, and
-- the player afterwards
pub record Played : Type 0 where
  pub line : Line
  pub said : List Reply
  pub blocks : List (List ℕ)
  pub steps : List Step
  pub left : PlayerState

abbrev pub played_as : Line → List Reply → List (List ℕ) → List Step → PlayerState → Played
played_as line said blocks steps left = record { line = line; said = said; blocks = blocks; steps = steps; left = left }

-- one that has one reply, of which no listener is told and in which the bridge makes no turn
abbrev pub one_reply : Line → List ℕ → PlayerState → Played
one_reply line words left = played_as line (said_at (changes_in left.machine) (words ∷ [])) [] [] left

-- The playing of a line by a player. `counts` says how often each listener has heard of an error before it. All that a client does to the machine
-- is accesses, one after another. Turns are made without the bridge where it is off. Attaching to the machine's second table never fails: beside
-- bytes of the scratch memory all that it leaves is the timings in VALUE. At a restart the number of records is told, the client that was attached
-- first is in use again, and the bridge is off
pub data Plays (tells : Type 0) (counts : List ℕ) (old : PlayerState) : Played → Type 0 where
  Blank : Plays tells counts old (played_as blank [] [] [] old)
  ByClient : (line : Line) (words : List ℕ) (machine : MachineState)
      → Asked tells (asker_of (client_of old) (budget_of old)) old.machine line words machine × Reaches (Allows tells) old.machine machine
      → Plays tells counts old (one_reply line words (record old { machine = machine }))
  GivenTable : (hex bytes words : List ℕ) (machine : MachineState) (other : Option ClientState) → decode_of hex ≡ Ok bytes
      → GivesTable tells old.machine old.other bytes words machine other
      → Plays tells counts old (one_reply (table hex) words (record old { machine = machine; other = other }))
  OwnTable : Plays tells counts old (one_reply own_table (words_of_table (length old.own.table.entries)) (record old { other = None }))
  GivenShadow : (left : ℕ) (machine : MachineState)
      → Attaches (Allows tells) (shadow_erst (pieces_in old.machine)) ATTACH_STEPS old.machine (Ok (shadow_client old.machine)) left machine
      → AttachesShadow ATTACH_STEPS old.machine (Ok (shadow_client old.machine)) left machine → Reaches (Allows tells) old.machine machine
      → Plays tells counts old (one_reply shadow_table (words_of_table shadow_count) (record old { machine = machine; other = Some (shadow_client old.machine) }))
  OnMachine : (line : Line) (words blocks : List (List ℕ)) (machine : MachineState)
      → elim line as (λ line. Type 0) [ turns letters ↦ old.bridge ≡ Off | other ↦ Unit {0} ] → Happened tells old.machine line words blocks machine
      → Plays tells counts old (played_as line (said_at (changes_in machine) words) blocks [] (record old { machine = machine }))
  ByTheBridge : (line : Line) (said : List Reply) (blocks : List (List ℕ)) (steps : List Step) (next : BridgeState) (machine : MachineState) → ByBridge tells old line said blocks steps next machine
      → Plays tells counts old (played_as line said blocks steps (record old { machine = machine; bridge = next }))
  OnlyTells : Plays tells counts old (one_reply heard (words_of_heard counts) old)
  Reset : (n : ℕ) (machine : MachineState) → Warms tells old.machine (Ok n) machine
      → Plays tells counts old (one_reply reset (codes "reset " ++ decimal n) (record old { machine = machine; other = None; bridge = Off }))
  Power : (n : ℕ) (machine : MachineState) → Powers tells old.machine (Ok n) machine
      → Plays tells counts old (one_reply power (codes "power " ++ decimal n) (record old { machine = machine; other = None; bridge = Off }))

-- a restart that the flash failed
pub data FailsRestart (tells : Type 0) (old : MachineState) : Line → MachineState → Type 0 where
  ResetFails : (error : BootError) (new : MachineState) → Warms tells old (Err error) new → FailsRestart tells old reset new
  PowerFails : (error : BootError) (new : MachineState) → Powers tells old (Err error) new → FailsRestart tells old power new

-- What happened to the machine: some list of accesses, restarts, turns and blocks, one after another, leads from the one state to the other. Power lost at any flash step on the way shows
-- the records after those that had ended by then, or as the next one leaves them, with a fault or without. Where no fault was counted the
-- flash took exactly the changes that the definitions give them
pub record HasHappened (tells : Type 0) (old new : MachineState) : Type 0 where
  pub trail : List (Move Event MachineState)
  pub happens : Trail (Happens tells) old trail new
  pub shown : tells → IsShown made_by_event old trail new
  pub never_falls : old.device.store.flash.faults ≤ new.device.store.flash.faults
  pub exact : tells → (Rose old.device.store.flash.faults new.device.store.flash.faults → ⊥)
      → new.device.store.flash.steps ≡ old.device.store.flash.steps + changes_along old trail

-- the hexadecimal digits of a line that has some
abbrev pub digits_of : Line → List ℕ
digits_of (write hex) = hex
digits_of (table hex) = hex
digits_of (error hex) = hex
digits_of (fatal hex) = hex
digits_of line = []

-- a line that can be played
pub record IsPlayable (line : Line) : Type 0 where
  pub valid : IsValid line
  pub fits : length (digits_of line) ≤ LONGEST_LINE

-- a line has exactly one reply, and the listeners have no part in it
abbrev pub has_one_reply : Line → Bool
has_one_reply blank = false
has_one_reply (comment rest) = false
has_one_reply (turns letters) = false
has_one_reply bert = false
has_one_reply heard = false
has_one_reply line = true

-- a line that asks the client for a command on records
abbrev pub names_command : Line → Bool
names_command (write hex) = true
names_command (read id) = true
names_command (clear id) = true
names_command count = true
names_command next = true
names_command dummy = true
names_command line = false

-- a line that asks the client in use: for that, or to run an action
abbrev pub asks_client : Line → Bool
asks_client (action code value) = true
asks_client line = names_command line

-- a line that neither runs an action nor gives a table
abbrev pub IsOwnLine : Line → Type 0
IsOwnLine (action code value) = ⊥
IsOwnLine (table hex) = ⊥
IsOwnLine line = Unit {0}

-- the reply is that the flash failed
abbrev pub SaysHardware : List Reply → Type 0
SaysHardware said = map (λ (reply : Reply). reply.words) said ≡ refused (codes "hardware") ∷ []

-- it is neither that a program was stopped, nor that the device was busy for too long
abbrev pub SaysNoStop : List Reply → Type 0
SaysNoStop said =
    ((why : RunStop) → map (λ (reply : Reply). reply.words) said ≢ refused (codes "stopped " ++ words_of_stop why) ∷ [])
    × ((waited : ℕ) → map (λ (reply : Reply). reply.words) said ≢ refused (codes "late " ++ decimal waited) ∷ [])

-- One line that was played. By one of the machine's own two tables a command on records is the record map's; it says that the flash failed
-- only where the flash's count of faults rose in this very line, and where its steps are enough it is never stopped, and never late
pub record LinePlayed (tells : Type 0) (counts : List ℕ) (old : PlayerState) (played : Played) : Type 0 where
  pub plays : Plays tells counts old played
  pub happened : HasHappened tells old.machine played.left.machine
  pub by_map : tells → UsesOwn old → names_command played.line ≡ true
      → (words : List ℕ) × (played.said ≡ said_at (changes_in played.left.machine) (words ∷ [])) × Mapped (budget_of old) old.machine played.line words played.left.machine
  pub by_shadow : tells → UsesShadow old → names_command played.line ≡ true
      → (words : List ℕ) × (played.said ≡ said_at (changes_in played.left.machine) (words ∷ [])) × ShadowMapped (budget_of old) old.machine played.line words played.left.machine
  pub cause : UsesEither old → names_command played.line ≡ true → SaysHardware played.said → Rose old.machine.device.store.flash.faults played.left.machine.device.store.flash.faults
  pub enough : UsesEither old → names_command played.line ≡ true → enough_steps (client_of old).timings ≤ budget_of old → SaysNoStop played.said
  -- and power lost in it leaves the records from before it, or as it leaves them where nothing fails
  pub leaves : tells → (names_command played.line ≡ true → UsesEither old) → IsOwnLine played.line → played.steps ≡ []
      → Leaves (told_of old.machine) (told_of played.left.machine)
      (λ image. (shown_by old.machine image ≡ records_of old.machine) ⊎ (shown_by old.machine image ≡ after_line (client_of old).range old.machine played.line))
  -- but where it made turns of the bridge, each of these is shown and is the record map's, and each block that they stored stays stored
  pub turned : tells → old.own ≡ own_client old.machine → TurnsShown (budget_of old) old.bridge old.machine played.steps played.left.machine

-- a line with a table to be kept: its bytes begin with one, or it names the machine's second
pub data BringsTable : Line → Type 0 where
  Given : (hex bytes : List ℕ) → decode_of hex ≡ Ok bytes → table_refusal bytes ≡ None → BringsTable (table hex)
  Named : BringsTable shadow_table

-- why a line was stopped, and what it left: a restart that the flash failed, or want of memory for a table, which leaves all as it was
abbrev pub Stops : Type 0 → PlayerState → Line → PlayerState → PlayStop → Type 0
Stops tells old line new SinkFault = ⊥
Stops tells old line new FlashFault = (machine : MachineState) × FailsRestart tells old.machine line machine × HasHappened tells old.machine machine
    × Rose old.machine.device.store.flash.faults machine.device.store.flash.faults × (new ≡ record old { machine = machine })
Stops tells old line new Memory = (new ≡ old) × BringsTable line

-- what a line finds and leaves: the player, or its machine alone, and the listeners
pub record Stage (S L : Type 0) : Type 0 where
  pub state : S
  pub members : List L

abbrev pub stage_in : {S L : Type 0} → S → List L → Stage S L
stage_in state members = record { state = state; members = members }

-- a line was played, its listeners told, and its replies written
pub record PlaysLine {L : Type 0} (hearing : L → Hearing) (tells : Type 0) (sink : Stream) (old : Stage PlayerState L) (line : Line) (new : Stage PlayerState L) : Type 0 where
  pub said : List Reply
  pub blocks : List (List ℕ)
  pub steps : List Step
  pub played : LinePlayed tells (counts_of hearing old.members) old.state (played_as line said blocks steps new.state)
  pub told : Told hearing blocks old.members new.members
  pub text : sink.tells → sink.after ≡ sink.before ++ text_of_replies said

-- the same of a line that asks the machine itself
pub record Occurred {L : Type 0} (hearing : L → Hearing) (tells : Type 0) (sink : Stream) (old : Stage MachineState L) (line : Line) (new : Stage MachineState L) : Type 0 where
  pub words : List (List ℕ)
  pub blocks : List (List ℕ)
  pub happened : Happened tells old.state line words blocks new.state
  pub told : Told hearing blocks old.members new.members
  pub text : sink.tells → sink.after ≡ sink.before ++ text_of_replies (said_at (changes_in new.state) words)

-- What is left of a line where the sink refused a reply: the line, what was made of it, the replies to that, those of them that were written
-- whole, and the one that was refused. It is the last one, that of a block of the boot error region, or that of a block which a turn took;
-- then no further turn is made
pub data LeftIn : Line → Line → List Reply → List Reply → Reply → Type 0 where
  AtLast : (line : Line) (before : List Reply) (last : Reply) → LeftIn line line (before ++ last ∷ []) before last
  InList : (before : List Reply) (last : Reply) (behind : List Reply) → LeftIn bert bert (before ++ last ∷ behind) before last
  InTurns : (letters behind : List ℕ) (events : List TurnEvent) (step : ℕ) (before : List Reply) (last : Reply)
      → LeftIn (turns (letters ++ behind)) (turns letters) (before ++ last ∷ at_step step (words_of_turns (events ++ Took ∷ [])) ∷ []) before last
  InBridged : (letters behind : List ℕ) (steps : List Step) (step : Step) (changes : ℕ) (before : List Reply) (last : Reply) → step.turn ≡ OfBridge (ByReader Took)
      → LeftIn (turns (letters ++ behind)) (turns letters) (before ++ last ∷ at_step changes (words_of_steps (steps ++ step ∷ [])) ∷ []) before last

-- replies were written, and of one more a part
abbrev pub PartlyWritten : List Reply → Reply → List ℕ → List ℕ → Type 0
PartlyWritten before last written written_now = (n : ℕ) × (written_now ≡ written ++ text_of_replies before ++ take n (reply_at last.step last.words))

-- a line was played, or what is left of it, and its listeners told. The sink refused a reply
pub record PlaysUnwritten {L : Type 0} (hearing : L → Hearing) (tells : Type 0) (sink : Stream) (old : Stage PlayerState L) (line : Line) (new : Stage PlayerState L) : Type 0 where
  pub made : Line
  pub said : List Reply
  pub before : List Reply
  pub last : Reply
  pub left : LeftIn line made said before last
  pub blocks : List (List ℕ)
  pub steps : List Step
  pub played : LinePlayed tells (counts_of hearing old.members) old.state (played_as made said blocks steps new.state)
  pub told : Told hearing blocks old.members new.members
  pub text : sink.tells → PartlyWritten before last sink.before sink.after

-- the same of a line that asks the machine itself
pub record OccurredUnwritten {L : Type 0} (hearing : L → Hearing) (tells : Type 0) (sink : Stream) (old : Stage MachineState L) (line : Line) (new : Stage MachineState L) : Type 0 where
  pub made : Line
  pub words : List (List ℕ)
  pub before : List Reply
  pub last : Reply
  pub left : LeftIn line made (said_at (changes_in new.state) words) before last
  pub blocks : List (List ℕ)
  pub happened : Happened tells old.state made words blocks new.state
  pub told : Told hearing blocks old.members new.members
  pub text : sink.tells → PartlyWritten before last sink.before sink.after
