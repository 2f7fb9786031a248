-- The same lines of two players that are equivalent.
use Rattle.std.specs.Prelude.{not, if◌then◌else◌, codes, ◌-◌, ◌^◌, ◌==◌, min}
use Rattle.std.specs.List.{flat_map, AllZip}
use Rattle.std.proofs.Common.{◌≡◌, inl, inr, ℕ, ◌+◌, ◌*◌, Bool, true, false, List, [], ◌∷◌, ◌++◌, decimal, length, map, Option, Some, None, Result, Ok, Err, refl, sym, ap, subst, ◌∙◌}
use Rattle.std.proofs.lemmas.Option.{none-some, same_Some}
use Rattle.base_model.specs.Faults.{Rose}
use Rattle.base_model.specs.Flash.{FlashState}
use Rattle.base_model.specs.Layout.{Layout, room_of, reach_of}
use Rattle.flash_model.specs.declared.geometry.Geometry.{Geometry}
use Rattle.flash_model.specs.Layouts.{layout_of}
use Rattle.record_model.specs.Records.{second_copies}
use Rattle.record_store.specs.Store.{records_of as records_in}
use Rattle.erst_device.specs.Actions.{log_range_at}
use Rattle.erst_device.specs.Timings.{most_changes, timings_of}
use Rattle.apei_notify.specs.Telling.{wanted}
use Rattle.ghes_block.specs.Region.{IsLaidOut}
use Rattle.ghes_ack.specs.declared.events.Event.{Event}
use Rattle.erst_entries.specs.declared.tables.ErstError.{ErstError}
use Rattle.erst_entries.specs.Layout.{Erst}
use Rattle.erst_entries.specs.Programs.{program_of}
use Rattle.erst_entries.specs.Tables.{refusal}
use Rattle.erst_client.specs.declared.errors.ClientError.{ClientError}
use Rattle.erst_client.specs.Attaching.{Attaches}
use Rattle.erst_client.specs.Commands.{ClientState, Writes}
use Rattle.erst_client.specs.Sequences.{clear_requests, dummy_requests}
use Rattle.erst_machine.specs.MachineState.{MachineState, IsMachine}
use Rattle.erst_machine.specs.Allowed.{Allows}
use Rattle.erst_machine.specs.Events.{Event as MachineEvent, Warmed, Powered, Happens}
use Rattle.erst_machine.proofs.EventLemmas.{events_keep}
use Rattle.erst_commands.specs.Equivalence.{MachineOutline, machine_outline, EquivalentMachines, FailedNothing, BootsFrom, asked_event, answered_event, record_in}
use Rattle.erst_machine.specs.OwnTables.{own_erst}
use Rattle.erst_commands.specs.OwnPrograms.{with_value}
use Rattle.erst_commands.proofs.TrailOutlines.{boots_from_alike}
use Rattle.erst_commands.proofs.Dialogues.{quiet_first, quiet_second}
use Rattle.erst_commands.proofs.MachineDialogues.{done_alike}
use Rattle.erst_commands.proofs.RunDialogues.{run_of, run_held}
use Rattle.erst_commands.proofs.ClientDialogues as dialogues
use Rattle.erst_commands.proofs.EquivalentReads.{record_alike}
use Rattle.erst_commands.proofs.EventOutlines.{happens_alike}
use Rattle.erst_commands.proofs.OneLemmas.{one_list}
use Rattle.record_model.specs.Records.{is_reserved}
use Rattle.ghes_ack.specs.Machine.{Situation, is_idle}
use Rattle.erst_bridge.specs.Bridges.{BridgeState, Off, Awaits}
use Rattle.erst_bridge.specs.Turns.{Turn, Step, AreTurns}
use Rattle.erst_bridge.specs.Made.{sides_in}
use Rattle.erst_bridge.specs.EquivalentSteps.{StepOutline, step_outline, EquivalentSteps}
use Rattle.script_text.specs.TableWords.{words_of_erst}
use Rattle.script_text.specs.ScriptGrammar.{Line, blank, write, read, clear, count, next, dummy, action, table, own_table, shadow_table, turns, bert, heard, reset, power, bridge}
use Rattle.erst_shadow.specs.ShadowTables.{pieces_of, shadow_count, shadow_erst}
use Rattle.erst_shadow.specs.ShadowCommands.{pieces_in, shadow_client}
use Rattle.apei_script.specs.Players.{PlayerState, client_of, budget_of, own_player}
use Rattle.apei_script.specs.Words.{Reply, at_step, said_at, text_of_replies, refused, words_of_write, words_of_read, words_of_clear, words_of_count}
use Rattle.apei_script.specs.Words.{words_of_next, words_of_dummy, words_of_action, words_of_table, words_of_turns, words_of_block}
use Rattle.apei_script.specs.Tables.{ATTACH_STEPS, BeginsWith}
use Rattle.apei_script.proofs.ShadowGiving.{GivesShadow}
use Rattle.apei_script.specs.Bridged.{bridge_refusal, words_of_turn, words_of_steps, block_of, replies_of}
use Rattle.apei_script.specs.Plays.{Plays, changes_in, played_as}
use Rattle.script_laws.specs.History.{Played, heard_after, Follows, text_of}
use Rattle.script_laws.specs.Equivalence.{EquivalentPlayers, PlayedAlike}
use Rattle.apei_script.proofs.PlayLemmas.{with_machine}
use Rattle.script_laws.proofs.HistoryLemmas.{history_goes_on}
use Rattle.apei_script.proofs.TurnsAlike.{turned_alike}
use Rattle.script_laws.proofs.LineKinds.{restarted, Left, AskedBy, HappenedBy, words_of_given, other_after, Given, NoTable, Tried, ByItsClient, ByItself}
use Rattle.script_laws.proofs.LineKinds.{ByOneEvent, ByBridgeTurns, Entered, TurnedOn, NotOn, PlaysOther, PlaysAs, PlaysBy, plays_by}
use Rattle.apei_script.proofs.OneEvent.{words_told, asks_once, same_bytes, once}
use Rattle.apei_script.proofs.BridgeLemmas.{blocks_in, block_replies}
use Rattle.erst_bridge.proofs.Terms.{last_of}
use Rattle.erst_shadow.proofs.Terms.{scratch_at}
use Rattle.hex.specs.Hex.{encode_lower}
use Rattle.erst_commands.specs.Writes.{id_of}

abbrev faults_of : MachineState → ℕ
faults_of state = state.device.store.flash.faults

-- The same words

same_read_words : (result also : Result ℕ ClientError) (after afterwards : List ℕ) → result ≡ also → record_in result after ≡ record_in also afterwards →
    words_of_read after result ≡ words_of_read afterwards also
same_read_words (Ok size) (Ok len) after afterwards same bytes = ap (λ bytes. codes "record " ++ decimal (id_of bytes) ++ codes " " ++ decimal (length bytes) ++ codes " " ++ encode_lower bytes) bytes
same_read_words (Ok size) (Err why) after afterwards same bytes = absurd (cc)
same_read_words (Err found) (Ok len) after afterwards same bytes = absurd (cc)
same_read_words (Err found) (Err why) after afterwards same bytes = ap (words_of_read after) same

-- the table that some bytes begin with is one
begins_once : (a b : Erst) (bytes : List ℕ) → BeginsWith a bytes → BeginsWith b bytes → a ≡ b
begins_once a b bytes first second = second.only a first.table_bytes first.behind first.split first.fits first.is

not_both : (erst : Erst) (bytes : List ℕ) (why : ErstError) → BeginsWith erst bytes → refusal bytes ≡ Some why → ⊥
not_both erst bytes why begins refused = none-some why (sym begins.sound ∙ refused)

-- an own client, by how the flash is divided
abbrev client_by : Layout → ClientState
client_by layout = record {
  table = own_erst;
  address = log_range_at;
  range = reach_of (room_of layout);
  timings = Some (10 * most_changes layout, 10 * (layout.per_slot + 4));
}

-- and the client of the machine's second table
abbrev shadow_by : Layout → ClientState
shadow_by layout = record {
  table = shadow_erst (pieces_of (reach_of (room_of layout)));
  address = scratch_at;
  range = 128 * pieces_of (reach_of (room_of layout));
  timings = (client_by layout).timings;
}

record Ends (words also_words : List ℕ) (new also_new : MachineState) : Type 0 where
  same : words ≡ also_words
  equivalent : EquivalentMachines new also_new

-- The same turns of the bridge

abbrev refusal_in : BridgeState → Situation → ℕ → Option (List ℕ)
refusal_in state situation id =
    if is_reserved id then Some (codes "id")
    else elim state [ Off ↦ if not (is_idle situation) then Some (codes "reading") else None | on ↦ Some (codes "on") ]

-- what is told of turns by what they did, the flash changes behind them and the block taken last
flat_alike : {A : Type 0} (f : Turn → ℕ → List ℕ → List A) (steps others : List Step) → EquivalentSteps steps others
    → flat_map (λ (step : Step). f step.turn (changes_in step.machine) (last_of step.machine)) steps ≡ flat_map (λ (step : Step). f step.turn (changes_in step.machine) (last_of step.machine)) others
flat_alike f [] [] equivalent = refl
flat_alike f [] (also ∷ more) equivalent = absurd (cc equivalent)
flat_alike f (step ∷ rest) [] equivalent = absurd (cc equivalent)
flat_alike {A} f (step ∷ rest) (also ∷ more) equivalent =
    let e : step_outline step ∷ map step_outline rest ≡ step_outline also ∷ map step_outline more = equivalent in
    let head : step_outline step ≡ step_outline also = cc in
    let tail : map step_outline rest ≡ map step_outline more = cc in
    ap (λ (xs : List A). f step.turn (changes_in step.machine) (last_of step.machine) ++ xs) (flat_alike f rest more tail)
    ∙ ap (λ (o : StepOutline). f o.turn o.machine.device.store.steps o.machine.handover.last ++ flat_map (λ (step : Step). f step.turn (changes_in step.machine) (last_of step.machine)) more) head

same_blocks : (steps others : List Step) → EquivalentSteps steps others → blocks_in steps ≡ blocks_in others
same_blocks steps others equivalent = flat_alike (λ turn changes last. block_of turn last) steps others equivalent

same_replies : (changes : ℕ) (steps others : List Step) → EquivalentSteps steps others → replies_of changes steps ≡ replies_of changes others
same_replies changes steps others equivalent =
    ap (λ (said : List Reply). said ++ at_step changes (words_of_steps steps) ∷ [])
    (flat_alike (λ turn changes last. said_at changes (map words_of_block (block_of turn last))) steps others equivalent)
    ∙ ap (λ (words : List ℕ). block_replies others ++ at_step changes (codes "turns" ++ words) ∷ []) (flat_alike (λ turn changes last. codes " " ++ words_of_turn turn changes) steps others equivalent)

module _ (tells : Type 0) (told : tells) where
  -- what is asked of one client
  asked_alike : (client : ClientState) (steps : ℕ) (one also : MachineState) → EquivalentMachines one also → IsMachine one → (line : Line) (words also_words : List ℕ) (new also_new : MachineState)
      → AskedBy tells client steps one line words new → FailedNothing one new → AskedBy tells client steps also line also_words also_new →
      FailedNothing also also_new → Ends words also_words new also_new
  asked_alike client steps one also equivalent machine (write hex) words also_words new also_new first quiet second also_quiet =
      let bytes : second.0 ≡ first.0 = same_bytes hex second.0 first.0 second.3 first.3 in
      let writes = subst (λ (bs : List ℕ). Writes (Allows tells) client bs steps also second.1 second.2 also_new) bytes second.5 in
      let both = done_alike tells told _ (dialogues.write client first.0 steps) (dialogues.writes_held (Allows tells) client first.0 steps)
      one also first.1 second.1 first.2 second.2 new also_new equivalent first.5 quiet writes also_quiet in
      record {
        same = first.4 ∙ ap (words_of_write first.0) both.same_answer ∙ ap (λ (bs : List ℕ). words_of_write bs second.1) (sym bytes) ∙ sym second.4;
        equivalent = both.equivalent;
      }
  asked_alike client steps one also equivalent machine (read id) words also_words new also_new first quiet second also_quiet =
      let both = record_alike tells told client id steps one also equivalent first.0 second.0 first.2 second.2 first.1 second.1 first.3 second.3 new also_new
      machine (first.4 ∙ sym second.4) first.6 quiet second.6 also_quiet in
      record { same = first.5 ∙ same_read_words first.2 second.2 first.1 second.1 both.0.same_answer both.1 ∙ sym second.5; equivalent = both.0.equivalent }
  asked_alike client steps one also equivalent machine (clear id) words also_words new also_new first quiet second also_quiet =
      let both = done_alike tells told _ (dialogues.sequence client.table.entries client.timings (clear_requests id) steps)
      (dialogues.sequence_held (Allows tells) client.table.entries client.timings (clear_requests id) steps)
      one also first.0 second.0 first.1 second.1 new also_new equivalent first.3 quiet second.3 also_quiet in
      record { same = first.2 ∙ ap (words_of_clear id) both.same_answer ∙ sym second.2; equivalent = both.equivalent }
  asked_alike client steps one also equivalent machine count words also_words new also_new first quiet second also_quiet =
      let both = done_alike tells told _ (dialogues.count client.table.entries steps) (dialogues.counts_held (Allows tells) client.table.entries steps)
      one also first.0 second.0 first.1 second.1 new also_new equivalent first.3 quiet second.3 also_quiet in
      record { same = first.2 ∙ ap words_of_count both.same_answer ∙ sym second.2; equivalent = both.equivalent }
  asked_alike client steps one also equivalent machine next words also_words new also_new first quiet second also_quiet =
      let both = done_alike tells told _ (dialogues.name client.table.entries steps) (dialogues.names_held (Allows tells) client.table.entries steps)
      one also first.0 second.0 first.1 second.1 new also_new equivalent first.3 quiet second.3 also_quiet in
      record { same = first.2 ∙ ap words_of_next both.same_answer ∙ sym second.2; equivalent = both.equivalent }
  asked_alike client steps one also equivalent machine dummy words also_words new also_new first quiet second also_quiet =
      let both = done_alike tells told _ (dialogues.sequence client.table.entries client.timings dummy_requests steps)
      (dialogues.sequence_held (Allows tells) client.table.entries client.timings dummy_requests steps)
      one also first.0 second.0 first.1 second.1 new also_new equivalent first.3 quiet second.3 also_quiet in
      record { same = first.2 ∙ ap words_of_dummy both.same_answer ∙ sym second.2; equivalent = both.equivalent }
  asked_alike client steps one also equivalent machine (action code value) words also_words new also_new first quiet second also_quiet =
      let both = done_alike tells told _ (run_of (program_of code client.table.entries) value steps) (run_held (Allows tells) (program_of code client.table.entries) value steps)
      one also first.0 second.0 first.1 second.1 new also_new equivalent first.3 quiet second.3 also_quiet in
      record { same = first.2 ∙ ap words_of_action both.same_answer ∙ sym second.2; equivalent = both.equivalent }
  asked_alike client steps one also equivalent machine line words also_words new also_new first quiet second also_quiet = absurd first

  record EndsAll (said also_said blocks also_blocks : List (List ℕ)) (new also_new : MachineState) : Type 0 where
    same : said ≡ also_said
    taken : blocks ≡ also_blocks
    equivalent : EquivalentMachines new also_new

  happened_alike : (one also : MachineState) → EquivalentMachines one also → IsMachine one → (line : Line) (said also_said blocks also_blocks : List (List ℕ)) (new also_new : MachineState)
      → HappenedBy tells one line said blocks new → HappenedBy tells also line also_said also_blocks also_new → EndsAll said also_said blocks also_blocks new also_new
  happened_alike one also equivalent machine (turns letters) said also_said blocks also_blocks new also_new first second =
      let both = turned_alike letters one also first.0 second.0 blocks also_blocks new also_new equivalent first.2 second.2 in
      record {
        same = first.1 ∙ ap (λ (bs : List (List ℕ)). map words_of_block bs ++ words_of_turns first.0 ∷ []) both.blocks_are
            ∙ ap (λ (es : List Event). map words_of_block also_blocks ++ words_of_turns es ∷ []) both.events_are ∙ sym second.1;
        taken = both.blocks_are;
        equivalent = both.equivalent;
      }
  happened_alike one also equivalent machine bert said also_said blocks also_blocks new also_new first second =
      let bytes : also.memory.region ≡ one.memory.region = sym (ap (λ (o : MachineOutline). o.memory.region) equivalent) in
      let laid = subst (λ (r : List ℕ). IsLaidOut second.0 second.1 r) bytes second.5 in
      let blocks_are = (one_list first.0 second.0 first.1 second.1 one.memory.region first.5 laid).0 in
      record {
        same = first.2 ∙ ap (λ (bs : List (List ℕ)). map words_of_block bs ++ (codes "bert " ++ decimal (length bs)) ∷ []) blocks_are ∙ sym second.2;
        taken = first.3 ∙ sym second.3;
        equivalent = ap machine_outline first.4 ∙ equivalent ∙ sym (ap machine_outline second.4);
      }
  happened_alike one also equivalent machine line said also_said blocks also_blocks new also_new first second = absurd first

  record EndsTable (words also_words : List ℕ) (new also_new : MachineState) (other also_other : Option ClientState) : Type 0 where
    same : words ≡ also_words
    equivalent : EquivalentMachines new also_new
    others : other ≡ also_other

  given_alike : (one also : MachineState) → EquivalentMachines one also → (other : Option ClientState) (bytes words also_words : List ℕ)
      (new also_new : MachineState) (now also_now : Option ClientState)
      → Given tells one other bytes words new now → FailedNothing one new → Given tells also other bytes also_words also_new also_now → FailedNothing also also_new
      → EndsTable words also_words new also_new now also_now
  given_alike one also equivalent other bytes words also_words new also_new now also_now (NoTable why is_none words_are still other_is) quiet
      (NoTable reason refuses spoken stays kept) also_quiet = record {
        same = words_are ∙ ap (λ (error : ErstError). refused (codes "table " ++ words_of_erst error)) (same_Some why reason (sym is_none ∙ refuses)) ∙ sym spoken;
        equivalent = ap machine_outline still ∙ equivalent ∙ sym (ap machine_outline stays);
        others = other_is ∙ sym kept;
      }
  given_alike one also equivalent other bytes words also_words new also_new now also_now (NoTable why refused words_are still other_is) quiet
      (Tried erst result left begins attaches spoken kept) also_quiet =
      absurd (not_both erst bytes why begins refused)
  given_alike one also equivalent other bytes words also_words new also_new now also_now (Tried erst result left begins attaches words_are other_is) quiet
      (NoTable reason refuses spoken stays kept) also_quiet =
      absurd (not_both erst bytes reason begins refuses)
  given_alike one also equivalent other bytes words also_words new also_new now also_now (Tried erst result left begins attaches words_are other_is) quiet
      (Tried same_table found rest starts joins spoken kept) also_quiet =
      let table_is : same_table ≡ erst = begins_once same_table erst bytes starts begins in
      let joins_it = subst (λ (e : Erst). Attaches (Allows tells) e ATTACH_STEPS also found rest also_new) table_is joins in
      let both = done_alike tells told _ (dialogues.attach erst ATTACH_STEPS) (dialogues.attaches_held (Allows tells) erst ATTACH_STEPS)
      one also result found left rest new also_new equivalent attaches quiet joins_it also_quiet in
      record {
        same = words_are ∙ ap (words_of_given tells erst) both.same_answer ∙ ap (λ (e : Erst). words_of_given tells e found) (sym table_is) ∙ sym spoken;
        equivalent = both.equivalent;
        others = other_is ∙ ap (other_after tells other) both.same_answer ∙ sym kept;
      }

  -- the machine's second table is the same over both
  shadow_alike : (one also : MachineState) → EquivalentMachines one also → (new also_new : MachineState) → GivesShadow tells one new → FailedNothing one new →
      GivesShadow tells also also_new → FailedNothing also also_new
      → EquivalentMachines new also_new
  shadow_alike one also equivalent new also_new gives quiet gives_too also_quiet =
      let pieces_are : pieces_in also ≡ pieces_in one = sym (ap (λ (o : MachineOutline). pieces_of (reach_of (room_of o.device.store.layout))) equivalent) in
      (done_alike tells told _ (dialogues.attach (shadow_erst (pieces_in one)) ATTACH_STEPS) (dialogues.attaches_held (Allows tells) (shadow_erst (pieces_in one)) ATTACH_STEPS)
      one also (Ok (shadow_client one)) (Ok (shadow_client also)) gives.left gives_too.left new also_new equivalent gives.attaches quiet
      (subst (λ (pieces : ℕ). Attaches (Allows tells) (shadow_erst pieces) ATTACH_STEPS also (Ok (shadow_client also)) gives_too.left also_new) pieces_are gives_too.attaches) also_quiet).equivalent

  quiet_at : (old : MachineState) (machine : MachineState) (new player : PlayerState) → player.machine ≡ machine → new ≡ player → FailedNothing old new.machine → FailedNothing old machine
  quiet_at old machine new player is new_is quiet rose =
      quiet (subst (λ (p : PlayerState). Rose (faults_of old) (faults_of p.machine)) (sym new_is) (subst (λ (m : MachineState). Rose (faults_of old) (faults_of m)) (sym is) rose))

  record LineAlike (said also_said : List Reply) (blocks also_blocks : List (List ℕ)) (new also_new : PlayerState) : Type 0 where
    same : said ≡ also_said
    taken : blocks ≡ also_blocks
    players : EquivalentPlayers new also_new

  close : (said also_said : List Reply) (blocks also_blocks : List (List ℕ)) (words also_words : List Reply) (taken also_taken : List (List ℕ)) (new also_new player also_player : PlayerState)
      → Left said blocks new words taken player → Left also_said also_blocks also_new also_words also_taken also_player
      → words ≡ also_words → taken ≡ also_taken → EquivalentPlayers player also_player → LineAlike said also_said blocks also_blocks new also_new
  close said also_said blocks also_blocks words also_words taken also_taken new also_new player also_player first second same blocks_are players = record {
    same = first.said_is ∙ same ∙ sym second.said_is;
    taken = first.blocks_are ∙ blocks_are ∙ sym second.blocks_are;
    players = subst (λ (p : PlayerState). EquivalentPlayers p also_new) (sym first.new_is) (subst (λ (p : PlayerState). EquivalentPlayers player p) (sym second.new_is) players);
  }

  -- the same words at the same step
  same_said : (one also : MachineState) (words also_words : List (List ℕ)) → EquivalentMachines one also → words ≡ also_words → said_at (changes_in one) words ≡ said_at (changes_in also) also_words
  same_said one also words also_words machines same =
      ap (λ (o : MachineOutline). said_at o.device.store.steps words) machines ∙ ap (said_at (changes_in also)) same

  -- the bridge over two machines that are equivalent makes the same turns
  abbrev MakeTurns : Type 0
  MakeTurns = (client : ClientState) (state : BridgeState) (budget : ℕ) (one other : MachineState) (steps others : List Step) (state_now also_now : BridgeState) (one_after other_after : MachineState)
      → EquivalentMachines one other → sides_in steps ≡ sides_in others
      → AreTurns tells client budget state one steps state_now one_after → FailedNothing one one_after
      → AreTurns tells client budget state other others also_now other_after → FailedNothing other other_after
      → EquivalentSteps steps others × (state_now ≡ also_now) × EquivalentMachines one_after other_after

  -- one line of one player, and of the same player with another machine
  module _ (make_turns : MakeTurns) (counts : List ℕ) (old : PlayerState) (machine_too : MachineState) (equivalent : EquivalentMachines old.machine machine_too) (machine : IsMachine old.machine) where
    abbrev counterpart : PlayerState
    counterpart = with_machine machine_too old

    players_with : (other also_other : Option ClientState) (one also : MachineState) → EquivalentMachines one also → other ≡ also_other →
        EquivalentPlayers (record old { machine = one; other = other }) (record counterpart { machine = also; other = also_other })
    players_with other also_other one also machines others = record { machines = machines; own = refl; other = others; steps = refl; bridges = refl }

    restarts_alike : (one also : MachineState) → EquivalentMachines one also → EquivalentPlayers (restarted one old) (restarted also counterpart)
    restarts_alike one also machines = record { machines = machines; own = refl; other = refl; steps = refl; bridges = refl }

    -- both restart, by what happens then and what is said of it
    restart_alike : (event : ℕ → MachineEvent) (words : ℕ → List ℕ) → ((n m : ℕ) → asked_event (event n) ≡ asked_event (event m)) →
        ((n m : ℕ) → answered_event (event n) ≡ answered_event (event m) → n ≡ m)
        → (said also_said : List Reply) (blocks also_blocks : List (List ℕ)) (new also_new : PlayerState) (n m : ℕ) (one also : MachineState)
        → Happens tells old.machine (event n) one → Left said blocks new (said_at (changes_in one) (words n ∷ [])) [] (restarted one old) → FailedNothing old.machine new.machine
        → Happens tells machine_too (event m) also → Left also_said also_blocks also_new (said_at (changes_in also) (words m ∷ [])) []
        (restarted also counterpart) → FailedNothing machine_too also_new.machine
        → LineAlike said also_said blocks also_blocks new also_new
    restart_alike event words asked answered said also_said blocks also_blocks new also_new n m one also first left quiet second also_left also_quiet =
        let both = happens_alike old.machine machine_too equivalent tells told machine (event n) (event m) one also (asked n m)
        first (quiet_at old.machine one new (restarted one old) refl left.new_is quiet)
        second (quiet_at machine_too also also_new (restarted also counterpart) refl also_left.new_is also_quiet) in
        close said also_said blocks also_blocks (said_at (changes_in one) (words n ∷ [])) (said_at (changes_in also) (words m ∷ [])) [] [] new also_new
        (restarted one old) (restarted also counterpart) left also_left
        (same_said one also (words n ∷ []) (words m ∷ []) both.1 (ap (λ (k : ℕ). words k ∷ []) (answered n m both.0))) refl (restarts_alike one also both.1)

    bridges_alike : (one also : MachineState) (state also_state : BridgeState) → EquivalentMachines one also → state ≡ also_state →
        EquivalentPlayers (record old { machine = one; bridge = state }) (record counterpart { machine = also; bridge = also_state })
    bridges_alike one also state also_state machines states = record { machines = machines; own = refl; other = refl; steps = refl; bridges = states }

    -- turns while the bridge was on
    bridged_alike : (letters : List ℕ) (said also_said : List Reply) (blocks also_blocks : List (List ℕ)) (new also_new : PlayerState) →
        ByBridgeTurns tells old letters said blocks new → FailedNothing old.machine new.machine
        → ByBridgeTurns tells counterpart letters also_said also_blocks also_new → FailedNothing machine_too also_new.machine → LineAlike said also_said blocks also_blocks new also_new
    bridged_alike letters said also_said blocks also_blocks new also_new first quiet second also_quiet =
        let both = make_turns old.own old.bridge (budget_of old) old.machine machine_too first.steps second.steps first.bridge_now second.bridge_now first.machine second.machine equivalent
        (first.sides ∙ sym second.sides)
        first.are_turns (quiet_at old.machine first.machine new (record old { machine = first.machine; bridge = first.bridge_now }) refl first.left.new_is quiet)
        second.are_turns (quiet_at machine_too second.machine also_new (record counterpart { machine = second.machine; bridge = second.bridge_now }) refl second.left.new_is also_quiet) in
        let same_step : changes_in first.machine ≡ changes_in second.machine = ap (λ (o : MachineOutline). o.device.store.steps) both.2 in
        close said also_said blocks also_blocks (replies_of (changes_in first.machine) first.steps) (replies_of (changes_in second.machine) second.steps)
        (blocks_in first.steps) (blocks_in second.steps) new also_new
        (record old { machine = first.machine; bridge = first.bridge_now }) (record counterpart { machine = second.machine; bridge = second.bridge_now }) first.left second.left
        (ap (λ (n : ℕ). replies_of n first.steps) same_step ∙ same_replies (changes_in second.machine) first.steps second.steps both.0) (same_blocks first.steps second.steps both.0)
        (bridges_alike first.machine second.machine first.bridge_now second.bridge_now both.2 both.1)

    -- the bridge is turned on by one where it is by the other
    same_refusal : (id : ℕ) → bridge_refusal old id ≡ bridge_refusal counterpart id
    same_refusal id = ap (λ (o : MachineOutline). refusal_in old.bridge o.handover.situation id) equivalent

    entered_alike : (id : ℕ) (said also_said : List Reply) (blocks also_blocks : List (List ℕ)) (new also_new : PlayerState) → Entered tells old id said blocks new
        → Entered tells counterpart id also_said also_blocks also_new → LineAlike said also_said blocks also_blocks new also_new
    entered_alike id said also_said blocks also_blocks new also_new (TurnedOn none left) (TurnedOn nor left_too) =
        close said also_said blocks also_blocks (said_at (changes_in old.machine) ((codes "bridge " ++ decimal id) ∷ []))
        (said_at (changes_in machine_too) ((codes "bridge " ++ decimal id) ∷ [])) [] [] new also_new
        (record old { bridge = Awaits id }) (record counterpart { bridge = Awaits id }) left left_too
        (same_said old.machine machine_too ((codes "bridge " ++ decimal id) ∷ []) ((codes "bridge " ++ decimal id) ∷ []) equivalent refl) refl
        (bridges_alike old.machine machine_too (Awaits id) (Awaits id) equivalent refl)
    entered_alike id said also_said blocks also_blocks new also_new (NotOn why refuses left) (NotOn reason refused_too left_too) =
        close said also_said blocks also_blocks (said_at (changes_in old.machine) (refused why ∷ [])) (said_at (changes_in machine_too) (refused reason ∷ []))
        [] [] new also_new old counterpart left left_too
        (same_said old.machine machine_too (refused why ∷ []) (refused reason ∷ []) equivalent
        (ap (λ (ws : List ℕ). refused ws ∷ []) (same_Some why reason (sym refuses ∙ same_refusal id ∙ refused_too)))) refl (bridges_alike old.machine machine_too old.bridge old.bridge equivalent refl)
    entered_alike id said also_said blocks also_blocks new also_new (TurnedOn none left) (NotOn reason refused_too left_too) = absurd (none-some reason (sym none ∙ same_refusal id ∙ refused_too))
    entered_alike id said also_said blocks also_blocks new also_new (NotOn why refuses left) (TurnedOn nor left_too) = absurd (none-some why (sym nor ∙ sym (same_refusal id) ∙ refuses))

    by_client_alike : (line : Line) (said also_said : List Reply) (blocks also_blocks : List (List ℕ)) (new also_new : PlayerState) →
        ByItsClient tells old line said blocks new → FailedNothing old.machine new.machine
        → ByItsClient tells counterpart line also_said also_blocks also_new → FailedNothing machine_too also_new.machine → LineAlike said also_said blocks also_blocks new also_new
    by_client_alike line said also_said blocks also_blocks new also_new first quiet second also_quiet =
        let ends = asked_alike (client_of old) (budget_of old) old.machine machine_too equivalent machine line first.0 second.0 first.1 second.1
        first.2 (quiet_at old.machine first.1 new (with_machine first.1 old) refl first.3.new_is quiet)
        second.2 (quiet_at machine_too second.1 also_new (with_machine second.1 counterpart) refl second.3.new_is also_quiet) in
        close said also_said blocks also_blocks (said_at (changes_in first.1) (first.0 ∷ [])) (said_at (changes_in second.1) (second.0 ∷ [])) [] [] new also_new
        (with_machine first.1 old) (with_machine second.1 counterpart) first.3 second.3
        (same_said first.1 second.1 (first.0 ∷ []) (second.0 ∷ []) ends.equivalent (ap (λ (ws : List ℕ). ws ∷ []) ends.same)) refl
        (players_with old.other old.other first.1 second.1 ends.equivalent refl)

    by_itself_alike : (line : Line) (said also_said : List Reply) (blocks also_blocks : List (List ℕ)) (new also_new : PlayerState) → ByItself tells old line said blocks new
        → ByItself tells counterpart line also_said also_blocks also_new → LineAlike said also_said blocks also_blocks new also_new
    by_itself_alike line said also_said blocks also_blocks new also_new first second =
        let ends = happened_alike old.machine machine_too equivalent machine line first.0 second.0 first.1 second.1 first.2 second.2 first.3 second.3 in
        close said also_said blocks also_blocks (said_at (changes_in first.2) first.0) (said_at (changes_in second.2) second.0) first.1 second.1 new also_new
        (with_machine first.2 old) (with_machine second.2 counterpart) first.4 second.4
        (same_said first.2 second.2 first.0 second.0 ends.equivalent ends.same) ends.taken (players_with old.other old.other first.2 second.2 ends.equivalent refl)

    other_alike : (line : Line) (said also_said : List Reply) (blocks also_blocks : List (List ℕ)) (new also_new : PlayerState) →
        PlaysOther tells old line said blocks new → FailedNothing old.machine new.machine
        → PlaysOther tells counterpart line also_said also_blocks also_new → FailedNothing machine_too also_new.machine → LineAlike said also_said blocks also_blocks new also_new
    other_alike blank said also_said blocks also_blocks new also_new first quiet second also_quiet =
        close said also_said blocks also_blocks [] [] [] [] new also_new old counterpart first second refl refl (players_with old.other old.other old.machine machine_too equivalent refl)
    other_alike (write hex) said also_said blocks also_blocks new also_new first quiet second also_quiet = by_client_alike (write hex) said also_said blocks
        also_blocks new also_new first quiet second also_quiet
    other_alike (read id) said also_said blocks also_blocks new also_new first quiet second also_quiet = by_client_alike (read id) said also_said blocks
        also_blocks new also_new first quiet second also_quiet
    other_alike (clear id) said also_said blocks also_blocks new also_new first quiet second also_quiet = by_client_alike (clear id) said also_said blocks
        also_blocks new also_new first quiet second also_quiet
    other_alike count said also_said blocks also_blocks new also_new first quiet second also_quiet = by_client_alike count said also_said blocks also_blocks new also_new first quiet second also_quiet
    other_alike next said also_said blocks also_blocks new also_new first quiet second also_quiet = by_client_alike next said also_said blocks also_blocks new also_new first quiet second also_quiet
    other_alike dummy said also_said blocks also_blocks new also_new first quiet second also_quiet = by_client_alike dummy said also_said blocks also_blocks new also_new first quiet second also_quiet
    other_alike (action code value) said also_said blocks also_blocks new also_new first quiet second also_quiet = by_client_alike (action code value) said
        also_said blocks also_blocks new also_new first quiet second also_quiet
    other_alike (table hex) said also_said blocks also_blocks new also_new first quiet second also_quiet =
        let bytes : second.0 ≡ first.0 = same_bytes hex second.0 first.0 second.4 first.4 in
        let given = subst (λ (bs : List ℕ). Given tells machine_too old.other bs second.1 second.2 second.3) bytes second.5 in
        let ends = given_alike old.machine machine_too equivalent old.other first.0 first.1 second.1 first.2 second.2 first.3 second.3
        first.5 (quiet_at old.machine first.2 new (record old { machine = first.2; other = first.3 }) refl first.6.new_is quiet)
        given (quiet_at machine_too second.2 also_new (record counterpart { machine = second.2; other = second.3 }) refl second.6.new_is also_quiet) in
        close said also_said blocks also_blocks (said_at (changes_in first.2) (first.1 ∷ [])) (said_at (changes_in second.2) (second.1 ∷ [])) [] [] new also_new
        (record old { machine = first.2; other = first.3 }) (record counterpart { machine = second.2; other = second.3 })
        first.6 second.6 (same_said first.2 second.2 (first.1 ∷ []) (second.1 ∷ []) ends.equivalent (ap (λ (ws : List ℕ). ws ∷ []) ends.same)) refl
        (players_with first.3 second.3 first.2 second.2 ends.equivalent ends.others)
    other_alike own_table said also_said blocks also_blocks new also_new first quiet second also_quiet =
        close said also_said blocks also_blocks (said_at (changes_in old.machine) (words_of_table (length old.own.table.entries) ∷ []))
        (said_at (changes_in machine_too) (words_of_table (length old.own.table.entries) ∷ [])) [] []
        new also_new (record old { other = None }) (record counterpart { other = None }) first second
        (same_said old.machine machine_too (words_of_table (length old.own.table.entries) ∷ []) (words_of_table (length old.own.table.entries) ∷ []) equivalent
        refl) refl (players_with None None old.machine machine_too equivalent refl)
    other_alike shadow_table said also_said blocks also_blocks new also_new first quiet second also_quiet =
        let client_is : shadow_client old.machine ≡ shadow_client machine_too = ap (λ (o : MachineOutline). shadow_by o.device.store.layout) equivalent in
        let now = shadow_alike old.machine machine_too equivalent first.0 second.0
        first.1 (quiet_at old.machine first.0 new (record old { machine = first.0; other = Some (shadow_client old.machine) }) refl first.2.new_is quiet)
        second.1 (quiet_at machine_too second.0 also_new (record counterpart { machine = second.0; other = Some (shadow_client machine_too) }) refl second.2.new_is also_quiet) in
        close said also_said blocks also_blocks (said_at (changes_in first.0) (words_of_table shadow_count ∷ [])) (said_at (changes_in second.0) (words_of_table shadow_count ∷ [])) [] [] new also_new
        (record old { machine = first.0; other = Some (shadow_client old.machine) }) (record counterpart { machine = second.0; other = Some (shadow_client machine_too) }) first.2 second.2
        (same_said first.0 second.0 (words_of_table shadow_count ∷ []) (words_of_table shadow_count ∷ []) now refl) refl
        (players_with (Some (shadow_client old.machine)) (Some (shadow_client machine_too)) first.0 second.0 now (ap (λ (client : ClientState). Some client) client_is))
    other_alike (turns letters) said also_said blocks also_blocks new also_new (inl first) quiet (inl second) also_quiet = by_itself_alike (turns letters) said
        also_said blocks also_blocks new also_new first.1 second.1
    other_alike (turns letters) said also_said blocks also_blocks new also_new (inl first) quiet (inr second) also_quiet = absurd (second.on first.0)
    other_alike (turns letters) said also_said blocks also_blocks new also_new (inr first) quiet (inl second) also_quiet = absurd (first.on second.0)
    other_alike (turns letters) said also_said blocks also_blocks new also_new (inr first) quiet (inr second) also_quiet = bridged_alike letters said also_said
        blocks also_blocks new also_new first quiet second also_quiet
    other_alike (bridge id) said also_said blocks also_blocks new also_new first quiet second also_quiet = entered_alike id said also_said blocks also_blocks new also_new first second
    other_alike bert said also_said blocks also_blocks new also_new first quiet second also_quiet = by_itself_alike bert said also_said blocks also_blocks new also_new first second
    other_alike reset said also_said blocks also_blocks new also_new first quiet second also_quiet =
        restart_alike (λ n. Warmed (Ok n)) (λ n. codes "reset " ++ decimal n) (λ n m. refl) (λ n m e. cc e) said also_said blocks also_blocks new also_new
        first.0 second.0 first.1 second.1 first.2 first.3 quiet second.2 second.3 also_quiet
    other_alike power said also_said blocks also_blocks new also_new first quiet second also_quiet =
        restart_alike (λ n. Powered (Ok n)) (λ n. codes "power " ++ decimal n) (λ n m. refl) (λ n m e. cc e) said also_said blocks also_blocks new also_new
        first.0 second.0 first.1 second.1 first.2 first.3 quiet second.2 second.3 also_quiet
    other_alike line said also_said blocks also_blocks new also_new first quiet second also_quiet = absurd first

    by_event_alike : (line : Line) (said also_said : List Reply) (blocks also_blocks : List (List ℕ)) (new also_new : PlayerState) →
        ByOneEvent tells old line said blocks new → FailedNothing old.machine new.machine
        → ByOneEvent tells counterpart line also_said also_blocks also_new → FailedNothing machine_too also_new.machine → LineAlike said also_said blocks also_blocks new also_new
    by_event_alike line said also_said blocks also_blocks new also_new first quiet second also_quiet =
        let asked = (once line first.0 first.1 first.3).equivalent second.0 second.1 second.3 in
        let both = happens_alike old.machine machine_too equivalent tells told machine first.0 second.0 first.2 second.2 asked.question
        first.4 (quiet_at old.machine first.2 new (with_machine first.2 old) refl first.5.new_is quiet)
        second.4 (quiet_at machine_too second.2 also_new (with_machine second.2 counterpart) refl second.5.new_is also_quiet) in
        close said also_said blocks also_blocks (said_at (changes_in first.2) (first.1 ∷ [])) (said_at (changes_in second.2) (second.1 ∷ [])) [] [] new also_new
        (with_machine first.2 old) (with_machine second.2 counterpart) first.5 second.5
        (same_said first.2 second.2 (first.1 ∷ []) (second.1 ∷ []) both.1 (ap (λ (ws : List ℕ). ws ∷ []) (asked.words_are both.0))) refl (players_with old.other old.other first.2 second.2 both.1 refl)

    -- what a line only tells is the same of both
    told_alike : (line : Line) → words_told counts old line ≡ words_told counts counterpart line
    told_alike heard = refl
    told_alike line = refl

    as_alike : (line : Line) (words also_words : Option (List ℕ)) (asks : Bool) (said also_said : List Reply) (blocks also_blocks : List (List ℕ)) (new also_new : PlayerState) → words ≡ also_words
        → PlaysAs tells words asks old line said blocks new → FailedNothing old.machine new.machine → PlaysAs tells also_words asks counterpart line also_said
        also_blocks also_new → FailedNothing machine_too also_new.machine
        → LineAlike said also_said blocks also_blocks new also_new
    as_alike line (Some words) (Some others) asks said also_said blocks also_blocks new also_new same first quiet second also_quiet =
        close said also_said blocks also_blocks (said_at (changes_in old.machine) (words ∷ [])) (said_at (changes_in machine_too) (others ∷ [])) [] [] new also_new old counterpart first second
        (same_said old.machine machine_too (words ∷ []) (others ∷ []) equivalent (ap (λ (ws : List ℕ). ws ∷ []) (same_Some words others same))) refl
        (players_with old.other old.other old.machine machine_too equivalent refl)
    as_alike line None None true said also_said blocks also_blocks new also_new same first quiet second also_quiet = by_event_alike line said also_said blocks
        also_blocks new also_new first quiet second also_quiet
    as_alike line None None false said also_said blocks also_blocks new also_new same first quiet second also_quiet = other_alike line said also_said blocks
        also_blocks new also_new first quiet second also_quiet
    as_alike line None (Some others) asks said also_said blocks also_blocks new also_new same first quiet second also_quiet = absurd (none-some others same)
    as_alike line (Some words) None asks said also_said blocks also_blocks new also_new same first quiet second also_quiet = absurd (none-some words (sym same))

    line_alike : (line : Line) (said also_said : List Reply) (blocks also_blocks : List (List ℕ)) (new also_new : PlayerState) →
        PlaysBy tells counts old line said blocks new → FailedNothing old.machine new.machine
        → PlaysBy tells counts counterpart line also_said also_blocks also_new → FailedNothing machine_too also_new.machine → LineAlike said also_said blocks also_blocks new also_new
    line_alike line said also_said blocks also_blocks new also_new first quiet second also_quiet =
        as_alike line (words_told counts old line) (words_told counts counterpart line) (asks_once line) said also_said blocks also_blocks new also_new (told_alike line) first quiet second also_quiet

  -- two players that are equivalent, as one player with two machines
  is_other : (one also : PlayerState) → EquivalentPlayers one also → also ≡ with_machine also.machine one
  is_other one also players =
      let states = sym players.bridges in
      let own = sym players.own in
      let other = sym players.other in
      let steps = sym players.steps in
      λ i. record { machine = also.machine; own = own i; other = other i; steps = steps i; bridge = states i }

  played_alike : MakeTurns → (counts : List ℕ) (one also : PlayerState) → EquivalentPlayers one also → IsMachine one.machine →
      (line : Line) (said also_said : List Reply) (blocks also_blocks : List (List ℕ)) (steps also_steps : List Step) (new also_new : PlayerState)
      → Plays tells counts one (played_as line said blocks steps new) → FailedNothing one.machine new.machine →
      Plays tells counts also (played_as line also_said also_blocks also_steps also_new) → FailedNothing also.machine also_new.machine
      → LineAlike said also_said blocks also_blocks new also_new
  played_alike make_turns counts one also players machine line said also_said blocks also_blocks steps also_steps new also_new first quiet second also_quiet =
      line_alike make_turns counts one also.machine players.machines machine line said also_said blocks also_blocks new also_new
      (plays_by tells counts one line said blocks steps new first) quiet
      (plays_by tells counts (with_machine also.machine one) line also_said also_blocks also_steps also_new
      (subst (λ (p : PlayerState). Plays tells counts p (played_as line also_said also_blocks also_steps also_new)) (is_other one also players) second)) also_quiet

-- the listeners hear the same
same_wanted : (want wants_too : ℕ → Bool) (blocks : List (List ℕ)) → ((severity : ℕ) → want severity ≡ wants_too severity) → wanted want blocks ≡ wanted wants_too blocks
same_wanted want wants_too blocks same = ap (λ (f : ℕ → Bool). wanted f blocks) (λ i severity. same severity i)

same_heard : (wants wants_too : List (ℕ → Bool)) (blocks : List (List ℕ)) (counts : List ℕ) →
    (AllZip (λ want wants_too. (severity : ℕ) → want severity ≡ wants_too severity) wants wants_too) → heard_after wants blocks counts ≡ heard_after wants_too
    blocks counts
same_heard [] [] blocks counts same = refl
same_heard [] (want ∷ wants_too) blocks counts same = absurd same
same_heard (want ∷ wants) [] blocks counts same = absurd same
same_heard (want ∷ wants) (want_too ∷ wants_too) blocks [] same = refl
same_heard (want ∷ wants) (want_too ∷ wants_too) blocks (heard_so_far ∷ counts) same =
    ap (λ (n : ℕ). (if n == 0 then heard_so_far else min (heard_so_far + n) (2 ^ 64 - 1)) ∷ heard_after wants blocks counts) (same_wanted want want_too blocks same.0)
    ∙ ap (λ (ns : List ℕ). (if (wanted want_too blocks) == 0 then heard_so_far else min (heard_so_far + (wanted want_too blocks)) (2 ^ 64 - 1)) ∷ ns) (same_heard wants wants_too blocks counts same.1)

module _ (tells : Type 0) (told : tells) (make_turns : MakeTurns tells told) (wants wants_too : List (ℕ → Bool))
    (want_alike : (AllZip (λ want wants_too. (severity : ℕ) → want severity ≡ wants_too severity) wants wants_too)) where
  pub histories_alike : (counts : List ℕ) (one also : PlayerState) (first second : List Played) (one_last also_last : PlayerState) → EquivalentPlayers one also
      → IsMachine one.machine → (map (λ (played : Played). played.line) first) ≡ (map (λ (played : Played). played.line) second)
      → Follows tells wants counts one first one_last → FailedNothing one.machine one_last.machine → Follows tells wants_too counts also second also_last → FailedNothing also.machine also_last.machine
      → PlayedAlike first second one_last also_last
  histories_alike counts one also [] [] one_last also_last players machine lines follows quiet follows_too also_quiet =
      let at_end : EquivalentPlayers one_last also_last = subst (λ (p : PlayerState). EquivalentPlayers p also_last) (sym follows)
      (subst (λ (p : PlayerState). EquivalentPlayers one p) (sym follows_too) players) in
      record { said = refl; text = refl; blocks = refl; players = at_end; records = ap (λ (o : MachineOutline). o.device.store.records) at_end.machines }
  histories_alike counts one also (x ∷ first) (y ∷ second) one_last also_last players machine lines follows quiet follows_too also_quiet =
      let line : x.line ≡ y.line = let e = lines in cc in
      let rest : (map (λ (played : Played). played.line) first) ≡ (map (λ (played : Played). played.line) second) = let e = lines in cc in
      let one_step = follows.0.happened.never_falls in
      let one_rest = (history_goes_on tells told wants (heard_after wants x.blocks counts) x.left first one_last follows.1).1.never_falls in
      let also_step = follows_too.0.happened.never_falls in
      let also_rest = (history_goes_on tells told wants_too (heard_after wants_too y.blocks counts) y.left second also_last follows_too.1).1.never_falls in
      let plays_too = subst (λ (l : Line). Plays tells counts also (played_as l y.said y.blocks y.steps y.left)) (sym line) follows_too.0.plays in
      let both = played_alike tells told make_turns counts one also players machine x.line x.said y.said x.blocks y.blocks x.steps y.steps x.left y.left
      follows.0.plays (quiet_first (faults_of one.machine) (faults_of x.left.machine) (faults_of one_last.machine) one_step one_rest quiet)
      plays_too (quiet_first (faults_of also.machine) (faults_of y.left.machine) (faults_of also_last.machine) also_step also_rest also_quiet) in
      let heard : heard_after wants_too y.blocks counts ≡ heard_after wants x.blocks counts =
      ap (λ (bs : List (List ℕ)). heard_after wants_too bs counts) (sym both.taken) ∙ sym (same_heard wants wants_too x.blocks counts want_alike) in
      let more = histories_alike (heard_after wants x.blocks counts) x.left y.left first second one_last also_last both.players
      (events_keep tells one.machine x.left.machine follows.0.happened.trail follows.0.happened.happens machine) rest
      follows.1 (quiet_second (faults_of one.machine) (faults_of x.left.machine) (faults_of one_last.machine) one_step one_rest quiet)
      (subst (λ (ns : List ℕ). Follows tells wants_too ns y.left second also_last) heard follows_too.1)
      (quiet_second (faults_of also.machine) (faults_of y.left.machine) (faults_of also_last.machine) also_step also_rest also_quiet) in
      record {
        said = ap (λ (s : List Reply). s ∷ (map (λ (played : Played). played.said) first)) both.same ∙ ap (λ (s : List (List Reply)). y.said ∷ s) more.said;
        text = ap (λ (s : List Reply). text_of_replies s ++ text_of first) both.same ∙ ap (λ (t : List ℕ). (text_of_replies y.said) ++ t) more.text;
        blocks = ap (λ (s : List (List ℕ)). s ∷ (map (λ (played : Played). played.blocks) first)) both.taken ∙ ap (λ (s : List (List (List ℕ))). y.blocks ∷ s) more.blocks;
        players = more.players;
        records = more.records;
      }
  histories_alike counts one also [] (y ∷ second) one_last also_last players machine lines follows quiet follows_too also_quiet = absurd (let e = lines in cc)
  histories_alike counts one also (x ∷ first) [] one_last also_last players machine lines follows quiet follows_too also_quiet = absurd (let e = lines in cc)

-- Players of the machines' own clients

pub own_players_alike : (one also : MachineState) (steps : Option ℕ) → EquivalentMachines one also → EquivalentPlayers (own_player one steps) (own_player also steps)
own_players_alike one also steps equivalent = record {
  machines = ap (λ (o : MachineOutline). record o { device = record o.device { value = timings_of o.device.store.layout } }) equivalent;
  own = ap (λ (o : MachineOutline). client_by o.device.store.layout) equivalent;
  other = refl;
  steps = refl;
  bridges = refl;
}

-- listeners want what they want
same_wants : (wants : List (ℕ → Bool)) → (AllZip (λ want wants_too. (severity : ℕ) → want severity ≡ wants_too severity) wants wants)
same_wants [] = tt
same_wants (want ∷ wants) = ((λ severity. refl), same_wants wants)

with_value_is_machine : (state : MachineState) (value : ℕ) → IsMachine state → IsMachine (with_value value state)
with_value_is_machine state value machine = record { sizes = machine.sizes; laid = machine.laid; map = machine.map; stands = machine.stands }

pub booted_alike : (tells : Type 0) (told : tells) → MakeTurns tells told → (geometry : Geometry) (flash flash_too : FlashState) (one also : MachineState)
    → records_in (layout_of geometry) flash.told.image ≡ records_in (layout_of geometry) flash_too.told.image → flash.steps ≡ flash_too.steps
    → second_copies geometry.slot_size geometry.slots flash.told.image ≡ second_copies geometry.slot_size geometry.slots flash_too.told.image →
    BootsFrom geometry flash one → BootsFrom geometry flash_too also
    → (wants : List (ℕ → Bool)) (counts : List ℕ) (steps : Option ℕ) (first second : List Played) (one_last also_last : PlayerState) →
    (map (λ (played : Played). played.line) first) ≡ (map (λ (played : Played). played.line) second)
    → Follows tells wants counts (own_player one steps) first one_last → FailedNothing one one_last.machine → Follows tells wants counts (own_player also steps)
    second also_last → FailedNothing also also_last.machine
    → PlayedAlike first second one_last also_last
booted_alike tells told make_turns geometry flash flash_too one also records changes copies boots boots_too wants counts steps first second one_last also_last
    lines follows quiet follows_too also_quiet =
    let equivalent = boots_from_alike geometry flash flash_too one also records changes copies boots boots_too in
    histories_alike tells told make_turns wants wants (same_wants wants) counts (own_player one steps) (own_player also steps) first second one_last also_last
    (own_players_alike one also steps equivalent)
    (with_value_is_machine one (timings_of one.device.store.layout) boots.booted.machine) lines follows quiet follows_too also_quiet
