-- What was played, by the line.
use Rattle.std.proofs.Common.{◌≡◌, ◌⊎◌, inl, inr, ℕ, Bool, true, false, List, [], ◌∷◌, ◌++◌, decimal, length, map, Option, Some, None, Result, Ok, Err, refl, sym, subst}
use Rattle.std.specs.Prelude.{codes}
use Rattle.hex.specs.Hex.{decode_of}
use Rattle.ghes_block.specs.Region.{IsLaidOut}
use Rattle.ghes_ack.specs.declared.events.Event.{Event as TurnEvent}
use Rattle.erst_entries.specs.declared.tables.ErstError.{ErstError}
use Rattle.erst_entries.specs.Layout.{Erst}
use Rattle.erst_entries.specs.Programs.{program_of}
use Rattle.erst_entries.specs.Tables.{refusal}
use Rattle.erst_interp.specs.declared.stops.RunStop.{RunStop}
use Rattle.erst_interp.specs.Runs.{Run}
use Rattle.erst_client.specs.declared.errors.AttachError.{AttachError}
use Rattle.erst_client.specs.declared.errors.ClientError.{ClientError}
use Rattle.erst_client.specs.Attaching.{Attaches}
use Rattle.erst_client.specs.Commands.{ClientState, Writes, Reads, Counts, Names}
use Rattle.erst_client.specs.Sequences.{Sequence, clear_requests, dummy_requests}
use Rattle.erst_machine.specs.MachineState.{MachineState}
use Rattle.erst_machine.specs.Allowed.{Allows}
use Rattle.erst_machine.specs.Events.{Event, Warms, Powers, Happens}
use Rattle.erst_bridge.specs.Bridges.{BridgeState, Off, Awaits}
use Rattle.erst_bridge.specs.Turns.{Step, AreTurns}
use Rattle.erst_bridge.specs.Made.{sides_in}
use Rattle.apei_script.specs.ClientWords.{words_of_attach}
use Rattle.script_text.specs.TableWords.{words_of_erst}
use Rattle.script_text.specs.ScriptGrammar.{Line, blank, write, read, clear, count, next, dummy, action, table, own_table, shadow_table, turns, bert, heard, reset, power, bridge}
use Rattle.erst_shadow.specs.ShadowTables.{shadow_count}
use Rattle.erst_shadow.specs.ShadowCommands.{shadow_client}
use Rattle.apei_script.specs.Players.{PlayerState, client_of, budget_of, asker_of}
use Rattle.apei_script.specs.Words.{Reply, said_at, refused, words_of_write, words_of_read, words_of_clear, words_of_count, words_of_next, words_of_dummy}
use Rattle.apei_script.specs.Words.{words_of_action, words_of_table, words_of_turns, words_of_heard, words_of_block}
use Rattle.apei_script.specs.Asked.{READ_BUFFER, Asked, WritesRecord, ReadsRecord, ClearsRecord, CountsRecords, FindsNext, WritesDummy, RunsAction}
use Rattle.apei_script.specs.Tables.{ATTACH_STEPS, BeginsWith, GivesTable, IsNoTable, IsNotAttached, IsAttached}
use Rattle.apei_script.proofs.ShadowGiving.{GivesShadow}
use Rattle.apei_script.specs.Happened.{AsksFor, Happened, Once, Turn, IsListed}
use Rattle.script_text.specs.Turns.{side_of}
use Rattle.apei_script.specs.Bridged.{bridge_refusal, replies_of, ByBridge, Enters, StaysAs, BridgesTurns}
use Rattle.apei_script.specs.Plays.{Plays, Blank, ByClient, GivenTable, OwnTable, GivenShadow, OnMachine, ByTheBridge, OnlyTells, Reset, Power, changes_in, played_as}
use Rattle.apei_script.proofs.PlayLemmas.{with_machine}
use Rattle.apei_script.proofs.TurnsAlike.{TurnsBy, turns_by}
use Rattle.apei_script.proofs.OneEvent.{words_told, NeedsNoBridge, asks_once, once}
use Rattle.apei_script.proofs.BridgeLemmas.{blocks_in}

-- a player behind a restart
abbrev pub restarted : MachineState → PlayerState → PlayerState
restarted machine old = record old { machine = machine; other = None; bridge = Off }

-- what a line left
pub record Left (said : List Reply) (blocks : List (List ℕ)) (new : PlayerState) (replies : List Reply) (taken : List (List ℕ)) (player : PlayerState) : Type 0 where
  pub said_is : said ≡ replies
  pub blocks_are : blocks ≡ taken
  pub new_is : new ≡ player

module _ (tells : Type 0) where
  -- what was asked of a client
  abbrev pub AskedBy : ClientState → ℕ → MachineState → Line → List ℕ → MachineState → Type 0
  AskedBy client steps old (write hex) words new =
      (bytes : List ℕ) × (result : Result (Unit {0}) ClientError) × (left : ℕ) × (decode_of hex ≡ Ok bytes) × (words ≡ words_of_write bytes result) × Writes
      (Allows tells) client bytes steps old result left new
  AskedBy client steps old (read id) words new =
      (out : List ℕ) × (after : List ℕ) × (result : Result ℕ ClientError) × (left : ℕ) × (length out ≡ READ_BUFFER) × (words ≡ words_of_read after result) ×
      Reads (Allows tells) client id out steps old result after left new
  AskedBy client steps old (clear id) words new =
      (result : Result (Unit {0}) ClientError) × (left : ℕ) × (words ≡ words_of_clear id result) × Sequence (Allows tells) client.table.entries client.timings
      (clear_requests id) steps old result left new
  AskedBy client steps old count words new =
      (result : Result ℕ ClientError) × (left : ℕ) × (words ≡ words_of_count result) × Counts (Allows tells) client.table.entries steps old result left new
  AskedBy client steps old next words new =
      (result : Result (Option ℕ) ClientError) × (left : ℕ) × (words ≡ words_of_next result) × Names (Allows tells) client.table.entries steps old result left new
  AskedBy client steps old dummy words new =
      (result : Result (Unit {0}) ClientError) × (left : ℕ) × (words ≡ words_of_dummy result) × Sequence (Allows tells) client.table.entries client.timings dummy_requests steps old result left new
  AskedBy client steps old (action code value) words new =
      (answer : Result ℕ RunStop) × (left : ℕ) × (words ≡ words_of_action answer) × Run (Allows tells) (program_of code client.table.entries) value steps old answer left new
  AskedBy client steps old line words new = ⊥

  -- what happened to the machine, where it was more than one thing that a line asks for
  abbrev pub HappenedBy : MachineState → Line → List (List ℕ) → List (List ℕ) → MachineState → Type 0
  HappenedBy old (turns letters) said blocks new =
      (events : List TurnEvent) × (said ≡ map words_of_block blocks ++ words_of_turns events ∷ []) × TurnsBy old letters events blocks new
  HappenedBy old bert said blocks new =
      (listed : List (List ℕ)) × (left : ℕ) × (said ≡ map words_of_block listed ++ (codes "bert " ++ decimal (length listed)) ∷ []) × (blocks ≡ []) ×
      (new ≡ old) × IsLaidOut listed left old.memory.region
  HappenedBy old line said blocks new = ⊥

  -- a table that was given, and what it came to
  abbrev pub words_of_given : Erst → Result ClientState AttachError → List ℕ
  words_of_given erst (Ok client) = words_of_table (length erst.entries)
  words_of_given erst (Err why) = refused (words_of_attach why)

  abbrev pub other_after : Option ClientState → Result ClientState AttachError → Option ClientState
  other_after other (Ok client) = Some client
  other_after other (Err why) = other

  pub data Given (old : MachineState) (other : Option ClientState) (bytes words : List ℕ) (new : MachineState) (other_now : Option ClientState) : Type 0 where
    NoTable : (why : ErstError) → refusal bytes ≡ Some why → words ≡ refused (codes "table " ++ words_of_erst why) → new ≡ old → other_now ≡ other → Given old other bytes words new other_now
    Tried : (erst : Erst) (result : Result ClientState AttachError) (left : ℕ) → BeginsWith erst bytes → Attaches (Allows tells) erst ATTACH_STEPS old result left new
        → words ≡ words_of_given erst result → other_now ≡ other_after other result → Given old other bytes words new other_now

  pub given_by : (old : MachineState) (other : Option ClientState) (bytes words : List ℕ) (new : MachineState) (other_now : Option ClientState) → GivesTable tells old other bytes words new other_now
      → Given old other bytes words new other_now
  given_by old other bytes words new other_now gives = elim gives as (λ words new other_now gives. Given old other bytes words new other_now) [
    | IsNoTable why refused ↦ NoTable why refused refl refl refl
    | IsNotAttached erst why left new begins attaches reaches ↦ Tried erst (Err why) left begins attaches refl refl
    | IsAttached erst client left new begins attaches reaches ↦ Tried erst (Ok client) left begins attaches refl refl
  ]

  abbrev pub ByItsClient : PlayerState → Line → List Reply → List (List ℕ) → PlayerState → Type 0
  ByItsClient old line said blocks new =
      (words : List ℕ) × (machine : MachineState) × AskedBy (client_of old) (budget_of old) old.machine line words machine
      × Left said blocks new (said_at (changes_in machine) (words ∷ [])) [] (with_machine machine old)

  abbrev pub ByItself : PlayerState → Line → List Reply → List (List ℕ) → PlayerState → Type 0
  ByItself old line said blocks new =
      (words : List (List ℕ)) × (taken : List (List ℕ)) × (machine : MachineState) × HappenedBy old.machine line words taken machine
      × Left said blocks new (said_at (changes_in machine) words) taken (with_machine machine old)

  -- turns while the bridge was on
  pub record ByBridgeTurns (old : PlayerState) (letters : List ℕ) (said : List Reply) (blocks : List (List ℕ)) (new : PlayerState) : Type 0 where
    pub steps : List Step
    pub bridge_now : BridgeState
    pub machine : MachineState
    pub on : old.bridge ≡ Off → ⊥
    pub are_turns : AreTurns tells old.own (budget_of old) old.bridge old.machine steps bridge_now machine
    pub sides : sides_in steps ≡ map side_of letters
    pub left : Left said blocks new (replies_of (changes_in machine) steps) (blocks_in steps) (record old { machine = machine; bridge = bridge_now })

  -- the bridge was turned on, or not
  pub data Entered (old : PlayerState) (id : ℕ) (said : List Reply) (blocks : List (List ℕ)) (new : PlayerState) : Type 0 where
    TurnedOn : bridge_refusal old id ≡ None → Left said blocks new (said_at (changes_in old.machine) ((codes "bridge " ++ decimal id) ∷ [])) []
        (record old { bridge = Awaits id }) → Entered old id said blocks new
    NotOn : (why : List ℕ) → bridge_refusal old id ≡ Some why → Left said blocks new (said_at (changes_in old.machine) (refused why ∷ [])) [] old → Entered old id said blocks new

  abbrev pub ByOneEvent : PlayerState → Line → List Reply → List (List ℕ) → PlayerState → Type 0
  ByOneEvent old line said blocks new =
      (event : Event) × (words : List ℕ) × (machine : MachineState) × AsksFor line event words × Happens tells old.machine event machine
      × Left said blocks new (said_at (changes_in machine) (words ∷ [])) [] (with_machine machine old)

  -- a line that does more than to tell something or to ask for one thing that happens
  abbrev pub PlaysOther : PlayerState → Line → List Reply → List (List ℕ) → PlayerState → Type 0
  PlaysOther old blank said blocks new = Left said blocks new [] [] old
  PlaysOther old (write hex) said blocks new = ByItsClient old (write hex) said blocks new
  PlaysOther old (read id) said blocks new = ByItsClient old (read id) said blocks new
  PlaysOther old (clear id) said blocks new = ByItsClient old (clear id) said blocks new
  PlaysOther old count said blocks new = ByItsClient old count said blocks new
  PlaysOther old next said blocks new = ByItsClient old next said blocks new
  PlaysOther old dummy said blocks new = ByItsClient old dummy said blocks new
  PlaysOther old (action code value) said blocks new = ByItsClient old (action code value) said blocks new
  PlaysOther old (table hex) said blocks new =
      (bytes : List ℕ) × (words : List ℕ) × (machine : MachineState) × (other : Option ClientState) × (decode_of hex ≡ Ok bytes) × Given old.machine old.other bytes words machine other
      × Left said blocks new (said_at (changes_in machine) (words ∷ [])) [] (record old { machine = machine; other = other })
  PlaysOther old own_table said blocks new = Left said blocks new (said_at (changes_in old.machine) (words_of_table (length old.own.table.entries) ∷ [])) [] (record old { other = None })
  PlaysOther old shadow_table said blocks new = (machine : MachineState) × GivesShadow tells old.machine machine
      × Left said blocks new (said_at (changes_in machine) (words_of_table shadow_count ∷ [])) [] (record old { machine = machine; other = Some (shadow_client old.machine) })
  PlaysOther old (turns letters) said blocks new = ((old.bridge ≡ Off) × ByItself old (turns letters) said blocks new) ⊎ ByBridgeTurns old letters said blocks new
  PlaysOther old bert said blocks new = ByItself old bert said blocks new
  PlaysOther old reset said blocks new = (n : ℕ) × (machine : MachineState) × Warms tells old.machine (Ok n) machine
      × Left said blocks new (said_at (changes_in machine) ((codes "reset " ++ decimal n) ∷ [])) [] (restarted machine old)
  PlaysOther old power said blocks new = (n : ℕ) × (machine : MachineState) × Powers tells old.machine (Ok n) machine
      × Left said blocks new (said_at (changes_in machine) ((codes "power " ++ decimal n) ∷ [])) [] (restarted machine old)
  PlaysOther old (bridge id) said blocks new = Entered old id said blocks new
  PlaysOther old line said blocks new = ⊥

  -- by what it tells, and whether it asks for one thing that happens
  abbrev pub PlaysAs : Option (List ℕ) → Bool → PlayerState → Line → List Reply → List (List ℕ) → PlayerState → Type 0
  PlaysAs (Some words) asks old line said blocks new = Left said blocks new (said_at (changes_in old.machine) (words ∷ [])) [] old
  PlaysAs None true old line said blocks new = ByOneEvent old line said blocks new
  PlaysAs None false old line said blocks new = PlaysOther old line said blocks new

  abbrev pub PlaysBy : List ℕ → PlayerState → Line → List Reply → List (List ℕ) → PlayerState → Type 0
  PlaysBy counts old line said blocks new = PlaysAs (words_told counts old line) (asks_once line) old line said blocks new

  as_it_is : (said : List Reply) (blocks : List (List ℕ)) (new : PlayerState) → Left said blocks new said blocks new
  as_it_is said blocks new = record { said_is = refl; blocks_are = refl; new_is = refl }

  by_its_client : (counts : List ℕ) (old : PlayerState) (line : Line) (words : List ℕ) (machine : MachineState) → Asked tells (asker_of (client_of old) (budget_of old)) old.machine line words machine
      → PlaysBy counts old line (said_at (changes_in machine) (words ∷ [])) [] (with_machine machine old)
  by_its_client counts old line words machine asked = elim asked as (λ line words machine asked. PlaysBy counts old line (said_at (changes_in machine) (words ∷ [])) [] (with_machine machine old)) [
    | WritesRecord hex bytes result left new decoded writes ↦ (words_of_write bytes result, new, (bytes, result, left, decoded, refl, writes), as_it_is _ _ _)
    | ReadsRecord id out after result left new room reads ↦ (words_of_read after result, new, (out, after, result, left, room, refl, reads), as_it_is _ _ _)
    | ClearsRecord id result left new ran ↦ (words_of_clear id result, new, (result, left, refl, ran), as_it_is _ _ _)
    | CountsRecords result left new counts ↦ (words_of_count result, new, (result, left, refl, counts), as_it_is _ _ _)
    | FindsNext result left new names ↦ (words_of_next result, new, (result, left, refl, names), as_it_is _ _ _)
    | WritesDummy result left new ran ↦ (words_of_dummy result, new, (result, left, refl, ran), as_it_is _ _ _)
    | RunsAction code value answer left new ran ↦ (words_of_action answer, new, (answer, left, refl, ran), as_it_is _ _ _)
  ]

  by_event : (counts : List ℕ) (old : PlayerState) (line : Line) (event : Event) (words : List ℕ) (machine : MachineState) → AsksFor line event words → Happens tells old.machine event machine
      → PlaysBy counts old line (said_at (changes_in machine) (words ∷ [])) [] (with_machine machine old)
  by_event counts old line event words machine asks happens =
      let one = once line event words asks in
      subst (λ (told : Option (List ℕ)). PlaysAs told (asks_once line) old line (said_at (changes_in machine) (words ∷ [])) [] (with_machine machine old)) (sym (one.untold counts old))
      (subst (λ (asks_for : Bool). PlaysAs None asks_for old line (said_at (changes_in machine) (words ∷ [])) [] (with_machine machine old)) (sym one.alone)
      (event, words, machine, asks, happens, as_it_is _ _ _))

  by_telling : (counts : List ℕ) (old : PlayerState) (line : Line) (words : List ℕ) → words_told counts old line ≡ Some words →
      PlaysBy counts old line (said_at (changes_in old.machine) (words ∷ [])) [] old
  by_telling counts old line words told =
      subst (λ (words_now : Option (List ℕ)). PlaysAs words_now (asks_once line) old line (said_at (changes_in old.machine) (words ∷ [])) [] old) (sym told) (as_it_is _ _ _)

  by_itself : (counts : List ℕ) (old : PlayerState) (line : Line) (words blocks : List (List ℕ)) (machine : MachineState) → NeedsNoBridge old.bridge line →
      Happened tells old.machine line words blocks machine
      → PlaysBy counts old line (said_at (changes_in machine) words) blocks (with_machine machine old)
  by_itself counts old line words blocks machine alone happened = elim happened as (λ line words blocks machine happened. NeedsNoBridge old.bridge line →
      PlaysBy counts old line (said_at (changes_in machine) words) blocks (with_machine machine old)) [
        | Once line event words new asks happens ↦ λ alone. by_event counts old line event words new asks happens
        | Turn letters events blocks new turned ↦ λ alone.
            inl (alone, (map words_of_block blocks ++ words_of_turns events ∷ [], blocks, new, (events, refl, turns_by old.machine letters events blocks new turned), as_it_is _ _ _))
        | IsListed blocks left laid ↦ λ alone. (map words_of_block blocks ++ (codes "bert " ++ decimal (length blocks)) ∷ [], [], old.machine, (blocks, left, refl, refl, refl, laid), as_it_is _ _ _)
      ] alone

  by_bridge : (counts : List ℕ) (old : PlayerState) (line : Line) (said : List Reply) (blocks : List (List ℕ)) (steps : List Step) (bridge_now : BridgeState) (machine : MachineState)
      → ByBridge tells old line said blocks steps bridge_now machine → PlaysBy counts old line said blocks (record old { machine = machine; bridge = bridge_now })
  by_bridge counts old line said blocks steps bridge_now machine by = elim by as (λ line said blocks steps bridge_now machine by. PlaysBy counts old line said
      blocks (record old { machine = machine; bridge = bridge_now })) [
        | Enters id none ↦ TurnedOn none (as_it_is _ _ _)
        | StaysAs id why refuses ↦ NotOn why refuses (as_it_is _ _ _)
        | BridgesTurns letters steps bridge_now machine on are sides counted ↦
            inr (record { steps = steps; bridge_now = bridge_now; machine = machine; on = on; are_turns = are; sides = sides; left = as_it_is _ _ _ })
      ]

  pub plays_by : (counts : List ℕ) (old : PlayerState) (line : Line) (said : List Reply) (blocks : List (List ℕ)) (steps : List Step) (new : PlayerState) →
      Plays tells counts old (played_as line said blocks steps new) → PlaysBy counts old line said blocks new
  plays_by counts old line said blocks steps new plays = elim plays as (λ one plays. PlaysBy counts old one.line one.said one.blocks one.left) [
    | Blank ↦ as_it_is _ _ _
    | ByClient line words machine commanded ↦ by_its_client counts old line words machine commanded.0
    | GivenTable hex bytes words machine other decoded gives ↦ (bytes, words, machine, other, decoded, given_by old.machine old.other bytes words machine other gives, as_it_is _ _ _)
    | OwnTable ↦ as_it_is _ _ _
    | GivenShadow left machine attaches attached reaches ↦ (machine, record { left = left; attaches = attaches; attached = attached; reaches = reaches }, as_it_is _ _ _)
    | OnMachine line said blocks machine alone happened ↦ by_itself counts old line said blocks machine alone happened
    | ByTheBridge line said blocks steps bridge_now machine by ↦ by_bridge counts old line said blocks steps bridge_now machine by
    | OnlyTells ↦ by_telling counts old heard (words_of_heard counts) refl
    | Reset n machine warms ↦ (n, machine, warms, as_it_is _ _ _)
    | Power n machine powers ↦ (n, machine, powers, as_it_is _ _ _)
  ]
