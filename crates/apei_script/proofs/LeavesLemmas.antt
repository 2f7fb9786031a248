-- What power lost in a line leaves of the records.
use Rattle.std.proofs.Common.{◌≡◌, ◌⊎◌, ℕ, ◌*◌, true, List, [], Option, None, Result, Ok, Err, refl, sym, ap, subst, ◌∙◌, inl}
use Rattle.std.specs.Prelude.{is_none, if◌then◌else◌}
use Rattle.base_model.specs.Flash.{Told, Leaves}
use Rattle.base_model.proofs.CrashLemmas.{Leaves-none, Leaves-weaker}
use Rattle.hex.specs.Hex.{decode_of}
use Rattle.hex.specs.declared.error.FromHexError.{FromHexError}
use Rattle.apei_space.specs.Calls.{ReadBytes}
use Rattle.record_model.specs.Records.{Stored}
use Rattle.record_model.specs.RecordMap.{Command, Write, Clear, after}
use Rattle.record_store.specs.Store.{StoreView, KeepsMap, KeepsOrMakes, stored}
use Rattle.ghes_ack.specs.declared.events.Event.{Event as TurnEvent}
use Rattle.ghes_ack.specs.declared.submission.SubmitError.{SubmitError}
use Rattle.erst_device.specs.DeviceState.{DeviceState}
use Rattle.erst_client.specs.declared.errors.ClientError.{ClientError}
use Rattle.erst_client.specs.declared.requests.Request.{Request}
use Rattle.erst_client.specs.Commands.{ClientState, write_refusal}
use Rattle.erst_client.specs.Sequences.{dummy_requests}
use Rattle.erst_machine.specs.MachineState.{MachineState, reach_in, records_of, told_of}
use Rattle.erst_machine.specs.Shown.{shown_by}
use Rattle.erst_machine.specs.Events.{Submits, Event, Accessed, Submitted, Laid, Happens}
use Rattle.erst_commands.specs.Changes.{ChangeCommand, IsTaken, IsRefused, IsFailed, IsStopped, DummyCommand, IsPlayed, IsCut}
use Rattle.erst_commands.specs.Looks.{AsksOnce, Answers, StopsBehind, StopsAtOnce, CountMade, IsCounted, IsNotCounted, NextMade, IsFound, IsAtEnd, IsNotFound}
use Rattle.erst_commands.specs.Reads.{ReadMade, IsRead as read_made, IsRefused as read_refused, IsFailed as read_failed, ReadCommand, Answers as read_answers}
use Rattle.erst_commands.specs.Reads.{StopsBehind as read_behind, StopsBefore as read_before, ReadAnswered, IsNotRead, IsNotCopied, IsCopied}
use Rattle.erst_commands.specs.Writes.{WriteAnswered, IsNoRecord, IsWritten, marked, id_of}
use Rattle.erst_bridge.specs.Bridges.{BridgeState}
use Rattle.erst_bridge.specs.Turns.{Step, AreTurns}
use Rattle.erst_shadow.specs.ShadowCommands.{pieces_in, ShadowWriteAnswered, IsNoRecord as IsNoShadowRecord, IsWritten as IsShadowWritten, ShadowReadAnswered}
use Rattle.erst_shadow.specs.ShadowCommands.{IsNotRead as IsNotShadowRead, IsNotCopied as IsNotShadowCopied, IsCopied as IsShadowCopied}
use Rattle.erst_shadow.proofs.CrashLemmas.{change_crash, read_crash, dummy_store}
use Rattle.script_text.specs.ScriptGrammar.{Line, blank, write, read, clear, count, next, dummy, own_table, shadow_table, heard, reset, power}
use Rattle.apei_script.specs.Words.{Reply}
use Rattle.apei_script.specs.Players.{PlayerState, budget_of, client_of, asker_of}
use Rattle.apei_script.specs.Asked.{Asked, WritesRecord, ReadsRecord, ClearsRecord, CountsRecords, FindsNext, WritesDummy, RunsAction}
use Rattle.apei_script.specs.Happened.{Turned, NoTurn, OneMore, Happened, Once, Turn, IsListed}
use Rattle.apei_script.specs.Mapped.{Mapped, IsWrite, IsRead, IsClear, IsCount, IsNext, IsDummy, after_line}
use Rattle.apei_script.specs.ShadowMapped.{ShadowMapped, ShadowWrite, ShadowRead, ShadowClear, ShadowCount, ShadowNext, ShadowPlayed}
use Rattle.apei_script.specs.Bridged.{ByBridge, Enters, StaysAs, BridgesTurns}
use Rattle.apei_script.proofs.OneEvent.{IsQuiet, once}
use Rattle.apei_script.specs.Plays.{Plays, Blank, ByClient, GivenTable, OwnTable, GivenShadow, OnMachine, ByTheBridge, OnlyTells, Reset, Power, names_command, IsOwnLine, played_as}

-- the records as the write of some bytes leaves them where nothing fails
abbrev pub after_write : ℕ → MachineState → Result (List ℕ) FromHexError → Stored
after_write range state decoded = elim decoded [
  | Ok bytes ↦
      if is_none (write_refusal bytes range) then after state.device.store.layout (Write (id_of bytes) (marked bytes)) (records_of state)
      else records_of state
  | Err error ↦ records_of state
]

-- power lost in a line leaves the records from before it, or as it leaves them where nothing fails
abbrev pub LineLeaves : ℕ → MachineState → Line → MachineState → Type 0
LineLeaves range old line new = Leaves (told_of old) (told_of new) (λ image. (shown_by old image ≡ records_of old) ⊎ (shown_by old image ≡ after_line range old line))

-- the flash tells what it told
stays : (range : ℕ) (old : MachineState) (line : Line) (new : MachineState) → told_of new ≡ told_of old → LineLeaves range old line new
stays range old line new same = subst
    (λ (told : Told). Leaves (told_of old) told (λ image. (shown_by old image ≡ records_of old) ⊎ (shown_by old image ≡ after_line range old line))) (sym same)
    (Leaves-none (told_of old) _ (inl refl))

-- the records are kept
keeps : (range : ℕ) (old : MachineState) (line : Line) (new : MachineState) → KeepsMap old.device.store new.device.store → LineLeaves range old line new
keeps range old line new kept = Leaves-weaker (told_of old) (told_of new) _ _ kept (λ image same. inl same)

-- the records are kept, or those of a command
makes : (range : ℕ) (old : MachineState) (line : Line) (command : Command) (new : MachineState) → after_line range old line ≡ after old.device.store.layout command (records_of old) →
    KeepsOrMakes old.device.store new.device.store (after old.device.store.layout command (stored old.device.store)) → LineLeaves range old line new
makes range old line command new is crash =
    subst (λ (made : Stored). Leaves (told_of old) (told_of new) (λ image. (shown_by old image ≡ records_of old) ⊎ (shown_by old image ≡ made))) (sym is) crash

-- by the machine's own table
abbrev LeavesOwn : MachineState → Line → MachineState → Type 0
LeavesOwn old line new = LineLeaves (reach_in old.device) old line new

changed : (first last : MachineState) (id : ℕ) (command : Command) (requests : List Request) (budget : ℕ) (result : Result (Unit {0}) ClientError) (left : ℕ) →
    ChangeCommand first last id command requests budget result left → KeepsOrMakes first.device.store last.device.store (after first.device.store.layout command (stored first.device.store))
changed first last id command requests budget result left made = elim made as (λ result left made. KeepsOrMakes first.device.store last.device.store
    (after first.device.store.layout command (stored first.device.store))) [
      | IsTaken pauses left taken now made spent ↦ made.leaves.crash
      | IsRefused refusal error left refused is now made spent ↦ made.leaves.crash
      | IsFailed pauses left usable rose either leaves few spent ↦ leaves.crash
      | IsStopped pauses leaves few short ↦ leaves.crash
    ]

-- a write

after_record : (range : ℕ) (old : MachineState) (hex bytes : List ℕ) → decode_of hex ≡ Ok bytes → write_refusal bytes range ≡ None →
    after_line range old (write hex) ≡ after old.device.store.layout (Write (id_of bytes) (marked bytes)) (records_of old)
after_record range old hex bytes decoded fits =
    ap (after_write range old) decoded
    ∙ ap (λ (refusal : Option ClientError). if is_none refusal then after old.device.store.layout (Write (id_of bytes) (marked bytes)) (records_of old) else records_of old) fits

write_leaves : (old : MachineState) (hex bytes : List ℕ) (steps : ℕ) (result : Result (Unit {0}) ClientError) (left : ℕ) (new : MachineState) → decode_of hex ≡ Ok bytes →
    WriteAnswered bytes steps old result left new → LeavesOwn old (write hex) new
write_leaves old hex bytes steps result left new decoded answered = elim answered as (λ result left new answered. LeavesOwn old (write hex) new) [
  | IsNoRecord error refused ↦ stays (reach_in old.device) old (write hex) old refl
  | IsWritten result left last fits made ↦
      makes (reach_in old.device) old (write hex) (Write (id_of bytes) (marked bytes)) last (after_record (reach_in old.device) old hex bytes decoded fits)
      (changed _ last _ _ _ steps result left made)
]

-- a read

read_keeps : (old new : MachineState) (id : ℕ) (result : Result (Unit {0}) ClientError) → ReadMade old new id result → KeepsMap old.device.store new.device.store
read_keeps old new id result made = elim made as (λ result made. KeepsMap old.device.store new.device.store) [
  | read_made found body generation asked named stored fits shown cursor ↦ asked.looked.kept
  | read_refused refusal error asked refused is range cursor ↦ asked.looked.kept
  | read_failed leaves rose range cursor ↦ leaves.kept
]

command_keeps : (old new : MachineState) (id budget : ℕ) (result : Result (Unit {0}) ClientError) (left : ℕ) → ReadCommand old new id budget result left → KeepsMap old.device.store new.device.store
command_keeps old new id budget result left command = elim command as (λ result left command. KeepsMap old.device.store new.device.store) [
  | read_answers result left made spent ↦ read_keeps old new id result made
  | read_behind result made least short ↦ read_keeps old new id result made
  | read_before leaves range cursor which short ↦ leaves.kept
]

answer_keeps : (old : MachineState) (id : ℕ) (out : List ℕ) (budget : ℕ) (result : Result ℕ ClientError) (after : List ℕ) (left : ℕ) (new : MachineState) →
    ReadAnswered id out budget old result after left new → KeepsMap old.device.store new.device.store
answer_keeps old id out budget result after left new answered = elim answered as (λ result after left new answered. KeepsMap old.device.store new.device.store) [
  | IsNotRead error left last command ↦ command_keeps old last id budget (Err error) left command
  | IsNotCopied error left last command refused ↦ command_keeps old last id budget (Ok tt) left command
  | IsCopied left last command fits ↦ command_keeps old last id budget (Ok tt) left command
]

-- count and next

once_leaves : {T : Type 0} (Made : Result T ClientError → Type 0) (range : ℕ) (line : Line) (steps : ℕ) (old new : MachineState) (result : Result T ClientError) (left : ℕ) →
    ((result : Result T ClientError) → Made result → KeepsMap old.device.store new.device.store) → AsksOnce Made steps old new result left → LineLeaves range old line new
once_leaves {T} Made range line steps old new result left kept asks = elim asks as (λ result left asks. LineLeaves range old line new) [
  | Answers result left made spent ↦ keeps range old line new (kept result made)
  | StopsBehind result made short ↦ keeps range old line new (kept result made)
  | StopsAtOnce none same ↦ stays range old line new (ap told_of same)
]

count_keeps : (old new : MachineState) (result : Result ℕ ClientError) → CountMade old new result → KeepsMap old.device.store new.device.store
count_keeps old new result made = elim made as (λ result made. KeepsMap old.device.store new.device.store) [
  | IsCounted asked cursor ↦ asked.looked.kept
  | IsNotCounted failed ↦ failed.looked.kept
]

next_keeps : (old new : MachineState) (result : Result (Option ℕ) ClientError) → NextMade old new result → KeepsMap old.device.store new.device.store
next_keeps old new result made = elim made as (λ result made. KeepsMap old.device.store new.device.store) [
  | IsFound id asked least cursor ↦ asked.looked.kept
  | IsAtEnd asked last cursor ↦ asked.looked.kept
  | IsNotFound failed ↦ failed.looked.kept
]

-- a dummy write

dummy_told : (old new : MachineState) (budget : ℕ) (result : Result (Unit {0}) ClientError) (left : ℕ) → DummyCommand old new dummy_requests budget result left → told_of new ≡ told_of old
dummy_told old new budget result left command = elim command as (λ result left command. told_of new ≡ told_of old) [
  | IsPlayed left leaves spent ↦ ap (λ (store : StoreView). store.flash.told) leaves.store
  | IsCut leaves short ↦ ap (λ (store : StoreView). store.flash.told) leaves.store
]

pub mapped_leaves : (steps : ℕ) (old : MachineState) (line : Line) (words : List ℕ) (new : MachineState) → Mapped steps old line words new → LeavesOwn old line new
mapped_leaves steps old line words new mapped = elim mapped as (λ line words new mapped. LeavesOwn old line new) [
  | IsWrite hex bytes result left new decoded answered ↦ write_leaves old hex bytes steps result left new decoded answered
  | IsRead id out after result left new long answered ↦ keeps (reach_in old.device) old (read id) new (answer_keeps old id out steps result after left new answered)
  | IsClear id result left new command ↦ makes (reach_in old.device) old (clear id) (Clear id) new refl (changed old new id (Clear id) _ steps result left command)
  | IsCount result left new asks ↦ once_leaves (CountMade old new) (reach_in old.device) count steps old new result left (count_keeps old new) asks
  | IsNext result left new asks ↦ once_leaves (NextMade old new) (reach_in old.device) next steps old new result left (next_keeps old new) asks
  | IsDummy result left new command ↦ stays (reach_in old.device) old dummy new (dummy_told old new steps result left command)
]

-- by the table whose own programs move the record

shadow_write_leaves : (old : MachineState) (hex bytes : List ℕ) (steps : ℕ) (result : Result (Unit {0}) ClientError) (left : ℕ) (new : MachineState) → decode_of hex ≡ Ok bytes →
    ShadowWriteAnswered bytes steps old result left new → LineLeaves (128 * pieces_in old) old (write hex) new
shadow_write_leaves old hex bytes steps result left new decoded answered = elim answered as (λ result left new answered. LineLeaves (128 * pieces_in old) old (write hex) new) [
  | IsNoShadowRecord error refused ↦ stays (128 * pieces_in old) old (write hex) old refl
  | IsShadowWritten result left last fits change begins ↦
      makes (128 * pieces_in old) old (write hex) (Write (id_of bytes) (marked bytes)) last (after_record (128 * pieces_in old) old hex bytes decoded fits)
      (change_crash (pieces_in old) old last _ _ _ steps result left change)
]

shadow_read_keeps : (old : MachineState) (id : ℕ) (out : List ℕ) (budget : ℕ) (result : Result ℕ ClientError) (after : List ℕ) (left : ℕ) (new : MachineState) →
    ShadowReadAnswered id out budget old result after left new → KeepsMap old.device.store new.device.store
shadow_read_keeps old id out budget result after left new answered = elim answered as (λ result after left new answered. KeepsMap old.device.store new.device.store) [
  | IsNotShadowRead error left last command ↦ read_crash (pieces_in old) old last id budget (Err error) left command
  | IsNotShadowCopied error left last command refused ↦ read_crash (pieces_in old) old last id budget (Ok tt) left command
  | IsShadowCopied left last command fits ↦ read_crash (pieces_in old) old last id budget (Ok tt) left command
]

pub shadow_mapped_leaves : (steps : ℕ) (old : MachineState) (line : Line) (words : List ℕ) (new : MachineState) → ShadowMapped steps old line words new → LineLeaves (128 * pieces_in old) old line new
shadow_mapped_leaves steps old line words new mapped = elim mapped as (λ line words new mapped. LineLeaves (128 * pieces_in old) old line new) [
  | ShadowWrite hex bytes result left new decoded answered ↦ shadow_write_leaves old hex bytes steps result left new decoded answered
  | ShadowRead id out after result left new long answered ↦ keeps (128 * pieces_in old) old (read id) new (shadow_read_keeps old id out steps result after left new answered)
  | ShadowClear id result left new change ↦ makes (128 * pieces_in old) old (clear id) (Clear id) new refl (change_crash (pieces_in old) old new id (Clear id) _ steps result left change)
  | ShadowCount result left new asks ↦ once_leaves (CountMade old new) (128 * pieces_in old) count steps old new result left (count_keeps old new) asks
  | ShadowNext result left new asks ↦ once_leaves (NextMade old new) (128 * pieces_in old) next steps old new result left (next_keeps old new) asks
  | ShadowPlayed result left new played ↦ stays (128 * pieces_in old) old dummy new (ap (λ (store : StoreView). store.flash.told) (dummy_store (pieces_in old) old new steps result left played))
]

-- the machine's own lines leave the flash alone

submits_told : (old : MachineState) (block : List ℕ) (result : Result ℕ SubmitError) (new : MachineState) → Submits old block result new → told_of new ≡ told_of old
submits_told old block (Ok n) new submits = ap told_of submits.added
submits_told old block (Err error) new submits = ap told_of submits.refused

event_told : (tells : Type 0) (old : MachineState) (event : Event) (new : MachineState) → IsQuiet event → Happens tells old event new → told_of new ≡ told_of old
event_told tells old (Accessed (ReadBytes at before after answer)) new quiet allowed = ap told_of allowed.2
event_told tells old (Submitted block result) new quiet submits = submits_told old block result new submits
event_told tells old (Laid block result) new quiet lays = ap told_of lays.others
event_told tells old event new quiet happens = absurd quiet

turned_told : (old : MachineState) (letters : List ℕ) (events : List TurnEvent) (blocks : List (List ℕ)) (new : MachineState) → Turned old letters events blocks new → told_of new ≡ told_of old
turned_told old letters events blocks new turns = elim turns as (λ letters events blocks new turns. told_of new ≡ told_of old) [
  | NoTurn ↦ refl
  | OneMore letters events blocks mid letter event new (before → same) turn ↦ ap (λ (device : DeviceState). device.store.flash.told) turn.device ∙ same
]

happened_told : (tells : Type 0) (old : MachineState) (line : Line) (said blocks : List (List ℕ)) (new : MachineState) → Happened tells old line said blocks new → told_of new ≡ told_of old
happened_told tells old line said blocks new happened = elim happened as (λ line said blocks new happened. told_of new ≡ told_of old) [
  | Once line event words new asks happens ↦ event_told tells old event new (once line event words asks).quiet happens
  | Turn letters events blocks new turns ↦ turned_told old letters events blocks new turns
  | IsListed blocks left laid ↦ refl
]

-- whatever a line without an action asks is a command on records
asks_command : (tells : Type 0) (client : ClientState) (steps : ℕ) (old : MachineState) (line : Line) (words : List ℕ) (new : MachineState) → Asked tells (asker_of client steps) old line words new →
    IsOwnLine line → names_command line ≡ true
asks_command tells client steps old line words new asked = elim asked as (λ line words new asked. IsOwnLine line → names_command line ≡ true) [
  | WritesRecord hex bytes result left new decoded writes ↦ λ own. refl
  | ReadsRecord id out after result left new long reads ↦ λ own. refl
  | ClearsRecord id result left new sequence ↦ λ own. refl
  | CountsRecords result left new counts ↦ λ own. refl
  | FindsNext result left new finds ↦ λ own. refl
  | WritesDummy result left new sequence ↦ λ own. refl
  | RunsAction code value answer left new run ↦ λ own. absurd own
]

-- the line that turns the bridge on leaves the flash alone; other lines of the bridge made turns
bridge_told : (tells : Type 0) (old : PlayerState) (line : Line) (said : List Reply) (blocks : List (List ℕ)) (steps : List Step) (bridge_now : BridgeState) (machine : MachineState)
    → ByBridge tells old line said blocks steps bridge_now machine → steps ≡ [] → told_of machine ≡ told_of old.machine
bridge_told tells old line said blocks steps bridge_now machine by = elim by as (λ line said blocks steps bridge_now machine by. steps ≡ [] → told_of machine ≡ told_of old.machine) [
  | Enters id none ↦ λ unmade. refl
  | StaysAs id why refuses ↦ λ unmade. refl
  | BridgesTurns letters steps bridge_now machine on are sides counted ↦ λ unmade.
      ap told_of (subst (λ (xs : List Step). AreTurns tells old.own (budget_of old) old.bridge old.machine xs bridge_now machine) unmade are).1
]

-- every line; what a command on records leaves is given
pub line_leaves : (tells : Type 0) → tells → (range : ℕ) (counts : List ℕ) (old : PlayerState) (line : Line) (said : List Reply) (blocks : List (List ℕ)) (steps : List Step) (new : PlayerState)
    → Plays tells counts old (played_as line said blocks steps new) → steps ≡ [] → (names_command line ≡ true → LineLeaves range old.machine line new.machine) → IsOwnLine line
    → LineLeaves range old.machine line new.machine
line_leaves tells told range counts old line said blocks steps new plays =
    elim plays as (λ one plays. one.steps ≡ [] → (names_command one.line ≡ true → LineLeaves range old.machine one.line one.left.machine) → IsOwnLine one.line →
    LineLeaves range old.machine one.line one.left.machine) [
      | Blank ↦ λ unmade maps own. stays range old.machine blank old.machine refl
      | ByClient line words machine commanded ↦ λ unmade maps own. maps (asks_command tells (client_of old) (budget_of old) old.machine line words machine commanded.0 own)
      | GivenTable hex bytes words machine other decoded gives ↦ λ unmade maps own. absurd own
      | OwnTable ↦ λ unmade maps own. stays range old.machine own_table old.machine refl
      | GivenShadow left machine attaches attached reaches ↦ λ unmade maps own. stays range old.machine shadow_table machine (ap told_of attached.last_is)
      | OnMachine line said blocks machine alone happened ↦ λ unmade maps own. stays range old.machine line machine (happened_told tells old.machine line said blocks machine happened)
      | ByTheBridge line said blocks steps bridge_now machine by ↦ λ unmade maps own. stays range old.machine line machine (bridge_told tells old line said blocks steps bridge_now machine by unmade)
      | OnlyTells ↦ λ unmade maps own. stays range old.machine heard old.machine refl
      | Reset n machine warms ↦ λ unmade maps own. keeps range old.machine reset machine (warms.leaves.kept told)
      | Power n machine powers ↦ λ unmade maps own. keeps range old.machine power machine (powers.restarts.leaves.kept told)
    ]
