-- Turns while the bridge is on, and their blocks while these are shown.
use Rattle.std.specs.Prelude.{nat_le, MatchBool}
use Rattle.std.proofs.lemmas.Bool.{lt-leb, false≢true}
use Rattle.std.proofs.Common.{◌≡◌, ◌∙◌, ◌⊎◌, inl, arith, ℕ, ◌+◌, ◌<◌, ◌≤◌, ◌↔◌, Bool, true, false, IsTrue, List, [], ◌∷◌, ◌++◌, length, take, drop, get_or, map, refl, sym, ap, subst, append_assoc}
use Rattle.std.specs.Prelude.{codes}
use Rattle.std.specs.List.{flat_map}
use Rattle.std.proofs.lemmas.List.{append-nil, map-append, take-append-drop, take_more, take_all, flat_map_more}
use Rattle.std.proofs.lemmas.List.Concat.{flat_map-append}
use Rattle.ghes_ack.specs.declared.events.Side.{Side}
use Rattle.ghes_ack.specs.declared.events.Side.TheVariants.{Reader}
use Rattle.ghes_ack.specs.declared.events.Event.{Event}
use Rattle.ghes_ack.specs.declared.events.Event.TheVariants.{Idle, Fill, Publish, Free, Wait, Nothing, Found, Copied, Took, Clear, Ack}
use Rattle.apei_notify.specs.Telling.{Hearing, counts_of}
use Rattle.erst_client.specs.Commands.{ClientState}
use Rattle.base_model.proofs.CrashLemmas.{past_grows}
use Rattle.record_model.specs.Records.{Stored}
use Rattle.erst_machine.specs.MachineState.{MachineState, IsMachine, records_of, told_of}
use Rattle.erst_machine.specs.Shown.{changes_of, shown_by}
use Rattle.erst_machine.specs.Events.{Turns}
use Rattle.erst_commands.specs.Attached.{own_client}
use Rattle.erst_commands.specs.OwnPrograms.{OwnProgramsRun}
use Rattle.erst_bridge.specs.declared.events.BridgeEvent.{BridgeEvent}
use Rattle.erst_bridge.specs.declared.events.BridgeEvent.TheVariants.{Line as ByReader, Stored as IsStored, Kept, Out}
use Rattle.erst_bridge.specs.Bridges.{BridgeState, Off, TurnsReader, Stores, Keeps, RunsOut}
use Rattle.erst_bridge.specs.Turns.{BridgesMachine, Turn, OfFirmware, OfBridge, Step, IsTurn, AreTurns}
use Rattle.erst_bridge.specs.Shown.{ShowsTurns, after_turn}
use Rattle.erst_bridge.proofs.TrailLemmas.{turn_goes_on}
use Rattle.erst_bridge.proofs.ShownLemmas.{turns_show}
use Rattle.erst_bridge.proofs.PrefixLemmas.{turns_show_prefix}
use Rattle.erst_bridge.specs.declared.made.SideTurn.{SideTurn}
use Rattle.erst_bridge.specs.declared.made.MadeTurn.{MadeTurn}
use Rattle.erst_bridge.specs.Made.{turn_of, side_in, sides_in, made_by, AreCounted}
use Rattle.erst_bridge.proofs.TurnsLemmas.{told_again, sides_more, made_more, counted_more, turns_more}
use Rattle.script_text.specs.ScriptGrammar.{Line, turns}
use Rattle.script_lines.specs.Streams.{stream_of}
use Rattle.apei_script.specs.Players.{PlayerState, client_of, budget_of}
use Rattle.apei_script.specs.Words.{Reply, at_step, said_at, words_of_block, text_of_replies, reply_at}
use Rattle.script_text.specs.Turns.{side_of}
use Rattle.apei_script.specs.Bridged.{words_of_turn, words_of_steps, words_of_made, HasTaken, block_of, replies_of, ByBridge, Enters, StaysAs, BridgesTurns, TurnsShown}
use Rattle.apei_script.specs.Plays.{Plays, Blank, ByClient, GivenTable, OwnTable, GivenShadow, OnMachine, ByTheBridge, OnlyTells, Reset, Power, Told}
use Rattle.apei_script.specs.Plays.{changes_in, LinePlayed, PlaysLine, PlaysUnwritten, LeftIn, AtLast, InBridged, stage_in, played_as}
use Rattle.apei_script.specs.Mapped.{after_line}
use Rattle.apei_script.specs.declared.session.Session.{Session}
use Rattle.apei_script.specs.Sessions.{state_of, SameClients}
use Rattle.apei_script.proofs.PlayLemmas.{quiet_with, shows_none, other_bridge}
use Rattle.apei_script.proofs.KeptTurns.{blocks_kept}
use Rattle.apei_script.proofs.MappedTurns.{turns_mapped, turns_end}
use Rattle.apei_notify.proofs.ToldLemmas.{told_none, told_then}
use Rattle.erst_bridge.proofs.Terms.{told_turn, last_of}

-- What power lost shows

module _ (tells : Type 0) (programs : OwnProgramsRun tells) (told : tells) (client : ClientState) (budget : ℕ) where
  pub turns_shown : (state : BridgeState) (old : MachineState) (steps : List Step) (next : BridgeState) (last : MachineState) → client ≡ own_client old → IsMachine old
      → AreTurns tells client budget state old steps next last → TurnsShown budget state old steps last
  turns_shown state old steps next last own machine are = record {
    each = λ some s image from crash. turns_show tells client budget programs told state old steps next last own machine are s image from crash;
    first = λ some m paired s image from crash. turns_show_prefix tells programs told client budget state old steps next last m own machine are paired s image from crash;
    stored = λ s image from crash. blocks_kept tells programs told client budget (λ id. Unit {0}) s (shown_by old image) state old steps next last own machine are
        (λ _. inl (turns_show tells client budget programs told state old steps next last own machine are s image from crash));
    mapped = turns_mapped tells programs told client budget state old steps next last own machine are;
    ends = turns_end tells client budget told state old steps next last are;
  }

pub line_turned : (tells : Type 0) → OwnProgramsRun tells → tells → (counts : List ℕ) (old : PlayerState) (line : Line) (said : List Reply)
    (blocks : List (List ℕ)) (steps : List Step) (new : PlayerState)
    → Plays tells counts old (played_as line said blocks steps new) → IsMachine old.machine → old.own ≡ own_client old.machine → TurnsShown (budget_of old) old.bridge old.machine steps new.machine
line_turned tells programs told counts old line said blocks steps new plays machine own =
    elim plays as (λ one plays. TurnsShown (budget_of old) old.bridge old.machine one.steps one.left.machine) [
      | Blank ↦ shows_none old.bridge old.machine old.machine
      | ByClient line words machine commanded ↦ shows_none old.bridge old.machine machine
      | GivenTable hex bytes words machine other decoded gives ↦ shows_none old.bridge old.machine machine
      | OwnTable ↦ shows_none old.bridge old.machine old.machine
      | GivenShadow left machine attaches attached reaches ↦ shows_none old.bridge old.machine machine
      | OnMachine line said blocks machine alone happened ↦ shows_none old.bridge old.machine machine
      | ByTheBridge line said blocks steps next machine by ↦ of_bridge line said blocks steps next machine by
      | OnlyTells ↦ shows_none old.bridge old.machine old.machine
      | Reset n machine warms ↦ shows_none old.bridge old.machine machine
      | Power n machine powers ↦ shows_none old.bridge old.machine machine
    ]
  where
    of_bridge : (line : Line) (said : List Reply) (blocks : List (List ℕ)) (steps : List Step) (next : BridgeState) (last : MachineState) → ByBridge tells old line said blocks steps next last
        → TurnsShown (budget_of old) old.bridge old.machine steps last
    of_bridge line said blocks steps next last by = elim by as (λ line said blocks steps next last by. TurnsShown (budget_of old) old.bridge old.machine steps last) [
      | Enters id none ↦ shows_none old.bridge old.machine old.machine
      | StaysAs id why refuses ↦ shows_none old.bridge old.machine old.machine
      | BridgesTurns letters steps next last on are sides counted ↦ turns_shown tells programs told old.own (budget_of old) old.bridge old.machine steps next last own machine are
    ]

-- the blocks that turns took, and the replies to them
abbrev pub blocks_in : List Step → List (List ℕ)
blocks_in steps = flat_map (λ (step : Step). block_of step.turn (last_of step.machine)) steps

abbrev pub block_replies : List Step → List Reply
block_replies steps = flat_map (λ (step : Step). said_at (changes_in step.machine) (map words_of_block (block_of step.turn (last_of step.machine)))) steps

-- A turn that took a block

pub taken_is : (turn : Turn) → HasTaken turn → turn ≡ OfBridge (ByReader Took)
taken_is (OfFirmware event) is = absurd is
taken_is (OfBridge (ByReader Idle)) is = absurd is
taken_is (OfBridge (ByReader Fill)) is = absurd is
taken_is (OfBridge (ByReader Publish)) is = absurd is
taken_is (OfBridge (ByReader Free)) is = absurd is
taken_is (OfBridge (ByReader Wait)) is = absurd is
taken_is (OfBridge (ByReader Nothing)) is = absurd is
taken_is (OfBridge (ByReader Found)) is = absurd is
taken_is (OfBridge (ByReader Copied)) is = absurd is
taken_is (OfBridge (ByReader Took)) is = refl
taken_is (OfBridge (ByReader Clear)) is = absurd is
taken_is (OfBridge (ByReader Ack)) is = absurd is
taken_is (OfBridge (IsStored id)) is = absurd is
taken_is (OfBridge (Kept error)) is = absurd is
taken_is (OfBridge Out) is = absurd is

no_block : (turn : Turn) (last : List ℕ) → (HasTaken turn → ⊥) → block_of turn last ≡ []
no_block (OfFirmware event) last none = refl
no_block (OfBridge (ByReader Idle)) last none = refl
no_block (OfBridge (ByReader Fill)) last none = refl
no_block (OfBridge (ByReader Publish)) last none = refl
no_block (OfBridge (ByReader Free)) last none = refl
no_block (OfBridge (ByReader Wait)) last none = refl
no_block (OfBridge (ByReader Nothing)) last none = refl
no_block (OfBridge (ByReader Found)) last none = refl
no_block (OfBridge (ByReader Copied)) last none = refl
no_block (OfBridge (ByReader Took)) last none = absurd (none tt)
no_block (OfBridge (ByReader Clear)) last none = refl
no_block (OfBridge (ByReader Ack)) last none = refl
no_block (OfBridge (IsStored id)) last none = refl
no_block (OfBridge (Kept error)) last none = refl
no_block (OfBridge Out) last none = refl

-- whether a turn took a block, as it was tested
pub not_taken : (turn : Turn) (test : Bool) → IsTrue test ↔ HasTaken turn → test ≡ false → HasTaken turn → ⊥
not_taken turn true h e taken = absurd (cc e)
not_taken turn false h e taken = false≢true (h.1 taken)

-- it is a turn of the reader
reader_took : (tells : Type 0) (client : ClientState) (budget : ℕ) (old : MachineState) (state : BridgeState) (event : BridgeEvent) (next : BridgeState) (left : ℕ) (new : MachineState)
    → BridgesMachine tells client budget old state event next left new → event ≡ ByReader Took → Turns Reader old Took new
reader_took tells client budget old state event next left new turn = elim turn as (λ state event after turn. event ≡ ByReader Took → Turns Reader old Took after.station) [
  | TurnsReader id state event new none reads ↦ λ is. subst (λ (e : Event). Turns Reader old e new) (same_line event is) reads
  | Stores id block left new small writes ↦ λ is. absurd (cc is)
  | Keeps id block error left new small writes ↦ λ is. absurd (cc is)
  | RunsOut id block last ↦ λ is. absurd (cc is)
]
  where
    same_line : (event : Event) → ◌≡◌ {A = BridgeEvent} (ByReader event) (ByReader Took) → event ≡ Took
    same_line event is = cc is

pub turn_took : (tells : Type 0) (client : ClientState) (budget : ℕ) (old : MachineState) (state : BridgeState) (turn : Turn) (next : BridgeState) (new : MachineState)
    → IsTurn tells client budget state old turn next new → HasTaken turn → Turns Reader old Took new
turn_took tells client budget old state turn next new is taken =
    let took = subst (λ (t : Turn). IsTurn tells client budget state old t next new) (taken_is turn taken) is in
    reader_took tells client budget old state (ByReader Took) next took.0 new took.1 refl

-- Turns one after another, while their blocks are shown

again_told : (turn : Turn) → turn_of (told_turn turn) ≡ turn
again_told (OfFirmware event) = refl
again_told (OfBridge event) = refl

words_made : (steps : List Step) → words_of_made (made_by steps) ≡ words_of_steps steps
words_made steps = ap (λ (xs : List ℕ). codes "turns" ++ xs) (each steps)
  where
    each : (steps : List Step) → flat_map (λ (one : MadeTurn). codes " " ++ words_of_turn (turn_of one.turn) one.step) (made_by steps)
        ≡ flat_map (λ (step : Step). codes " " ++ words_of_turn step.turn (changes_in step.machine)) steps
    each [] = refl
    each (step ∷ steps) =
        ap (λ (turn : Turn). (codes " " ++ words_of_turn turn (changes_in step.machine)) ++ flat_map
        (λ (one : MadeTurn). codes " " ++ words_of_turn (turn_of one.turn) one.step) (made_by steps)) (again_told step.turn)
        ∙ ap (λ (xs : List ℕ). (codes " " ++ words_of_turn step.turn (changes_in step.machine)) ++ xs) (each steps)

-- the words of turns behind others
abbrev pub turns_behind : List MadeTurn → List ℕ
turns_behind made = flat_map (λ (one : MadeTurn). codes " " ++ words_of_turn (turn_of one.turn) one.step) made

pub words_more : (made : List MadeTurn) (i : ℕ) (turn : MadeTurn) → i < length made → turn ≡ get_or made i turn
    → words_of_made (take (i + 1) made) ≡ words_of_made (take i made) ++ (codes " " ++ words_of_turn (turn_of turn.turn) turn.step)
words_more made i turn more is =
    ap words_of_made (take_more made i turn more)
    ∙ sym (flat_map_more (λ (one : MadeTurn). codes " " ++ words_of_turn (turn_of one.turn) one.step) (codes "turns") (take i made) (get_or made i turn))
    ∙ ap (λ (one : MadeTurn). words_of_made (take i made) ++ (codes " " ++ words_of_turn (turn_of one.turn) one.step)) (sym is)

pub words_rest : (made : List MadeTurn) (i : ℕ) → words_of_made made ≡ words_of_made (take i made) ++ turns_behind (drop i made)
words_rest made i =
    ap words_of_made (sym (take-append-drop i made))
    ∙ ap (λ (xs : List ℕ). codes "turns" ++ xs) (flat_map-append (λ (one : MadeTurn). codes " " ++ words_of_turn (turn_of one.turn) one.step) (take i made) (drop i made))
    ∙ sym (append_assoc (codes "turns") (turns_behind (take i made)) (turns_behind (drop i made)))

-- the replies to one turn's block
abbrev shown_block : Turn → MachineState → List Reply
shown_block turn machine = said_at (changes_in machine) (map words_of_block (block_of turn (last_of machine)))

blocks_more : (steps : List Step) (step : Step) → blocks_in (steps ++ step ∷ []) ≡ blocks_in steps ++ block_of step.turn (last_of step.machine)
blocks_more steps step =
    flat_map-append (λ (step : Step). block_of step.turn (last_of step.machine)) steps (step ∷ []) ∙ ap (λ (xs : List (List ℕ)). blocks_in steps ++ xs)
    (append-nil (block_of step.turn (last_of step.machine)))

shown_more : (steps : List Step) (step : Step) → block_replies (steps ++ step ∷ []) ≡ block_replies steps ++ shown_block step.turn step.machine
shown_more steps step =
    flat_map-append (λ (step : Step). shown_block step.turn step.machine) steps (step ∷ []) ∙ ap (λ (xs : List Reply). block_replies steps ++ xs) (append-nil (shown_block step.turn step.machine))

-- the line of a reply
abbrev text_of_reply : Reply → List ℕ
text_of_reply reply = reply_at reply.step reply.words

-- replies, and one more
text_more : (written : List ℕ) (said : List Reply) (last : Reply) → (written ++ text_of_replies said) ++ text_of_reply last ≡ written ++ text_of_replies (said ++ last ∷ [])
text_more written said last =
    append_assoc written (text_of_replies said) (text_of_reply last)
    ∙ ap (λ (xs : List ℕ). written ++ (text_of_replies said ++ xs)) (sym (append-nil (text_of_reply last)))
    ∙ ap (λ (xs : List ℕ). written ++ xs) (sym (flat_map-append text_of_reply said (last ∷ [])))

module _ {L : Type 0} (hearing : L → Hearing) (tells told_sink : Type 0) (client : ClientState) (budget : ℕ) (state : BridgeState) (old : MachineState) (members : List L) (written : List ℕ) where
  -- the turns of some letters were made, their blocks told and shown
  pub record BridgedSoFar (now : BridgeState) (new : MachineState) (members_now : List L) (letters : List ℕ) (made : List MadeTurn) (written_now : List ℕ) : Type 0 where
    pub steps : List Step
    pub are : AreTurns tells client budget state old steps now new
    pub sides : sides_in steps ≡ map side_of letters
    pub counted : tells → AreCounted steps
    pub made_is : made ≡ made_by steps
    pub told : Told hearing (blocks_in steps) members members_now
    pub text : told_sink → written_now ≡ written ++ text_of_replies (block_replies steps)

  pub no_step : BridgedSoFar state old members [] [] written
  no_step = record { steps = []; are = (refl, refl); sides = refl; counted = λ t. tt; made_is = refl; told = told_none hearing members; text = λ t. sym (append-nil written) }

  -- one turn more, with whatever was told and shown of it
  step_more : (mid now : BridgeState) (before new : MachineState) (members_mid members_now : List L) (letters : List ℕ) (letter : ℕ)
      (made made_now : List MadeTurn) (written_mid written_now : List ℕ) (turn : SideTurn) (step : ℕ)
      → BridgedSoFar mid before members_mid letters made written_mid
      → IsTurn tells client budget mid before (turn_of turn) now new → side_in (turn_of turn) ≡ side_of letter
      → (tells → changes_of new ≡ step) → step ≡ changes_in new → made_now ≡ made ++ (record { turn = turn; step = step }) ∷ []
      → ((blocks : List (List ℕ)) → Told hearing blocks members members_mid → Told hearing (blocks ++ block_of (turn_of turn) (last_of new)) members members_now)
      → (told_sink → written_now ≡ written_mid ++ text_of_replies (shown_block (turn_of turn) new))
      → BridgedSoFar now new members_now (letters ++ letter ∷ []) made_now written_now
  step_more mid now before new members_mid members_now letters letter made made_now written_mid written_now turn step so is side counted at pushed telling text =
      let last : Step = record { turn = turn_of turn; bridge = now; machine = new } in
      record {
        steps = so.steps ++ last ∷ [];
        are = turns_more tells client budget state old so.steps mid before (turn_of turn) now new so.are is;
        sides = sides_more so.steps last ∙ ap (λ (xs : List Side). xs ++ side_in (turn_of turn) ∷ []) so.sides ∙ ap (λ (x : Side). map side_of letters ++ x ∷ []) side
            ∙ sym (map-append side_of letters (letter ∷ []));
        counted = λ t. counted_more so.steps last (so.counted t) (counted t ∙ at);
        made_is = pushed ∙ ap (λ (xs : List MadeTurn). xs ++ (record { turn = turn; step = step }) ∷ []) so.made_is
            ∙ ap (λ (n : ℕ). made_by so.steps ++ (record { turn = turn; step = n }) ∷ []) at
            ∙ ap (λ (t : SideTurn). made_by so.steps ++ (record { turn = t; step = changes_in new }) ∷ []) (sym (told_again turn))
            ∙ sym (made_more so.steps last);
        told = subst (λ (bs : List (List ℕ)). Told hearing bs members members_now) (sym (blocks_more so.steps last)) (telling (blocks_in so.steps) so.told);
        text = λ t. text t ∙ ap (λ (xs : List ℕ). xs ++ text_of_replies (shown_block (turn_of turn) new)) (so.text t)
            ∙ append_assoc written (text_of_replies (block_replies so.steps)) (text_of_replies (shown_block (turn_of turn) new))
            ∙ ap (λ (xs : List ℕ). written ++ xs) (sym (flat_map-append text_of_reply (block_replies so.steps) (shown_block (turn_of turn) new)))
            ∙ ap (λ (xs : List Reply). written ++ text_of_replies xs) (sym (shown_more so.steps last));
      }

  -- the turn of the next letter, which took no block
  pub bridged_quiet : (mid now : BridgeState) (before new : MachineState) (members_now : List L) (all : List ℕ) (k : ℕ) (made made_now : List MadeTurn)
      (written_now : List ℕ) (turn : SideTurn) (step : ℕ) → k < length all
      → BridgedSoFar mid before members_now (take k all) made written_now
      → IsTurn tells client budget mid before (turn_of turn) now new → side_in (turn_of turn) ≡ side_of (get_or all k 0)
      → (tells → changes_of new ≡ step) → step ≡ changes_in new → made_now ≡ made ++ (record { turn = turn; step = step }) ∷ []
      → (HasTaken (turn_of turn) → ⊥)
      → BridgedSoFar now new members_now (take (k + 1) all) made_now written_now
  bridged_quiet mid now before new members_now all k made made_now written_now turn step more so is side counted at pushed other =
      let none = no_block (turn_of turn) (last_of new) other in
      subst (λ (xs : List ℕ). BridgedSoFar now new members_now xs made_now written_now) (sym (take_more all k 0 more))
      (step_more mid now before new members_now members_now (take k all) (get_or all k 0) made made_now written_now written_now turn step so is side counted at pushed
      (λ blocks told. subst (λ (bs : List (List ℕ)). Told hearing bs members members_now) (sym (ap (λ (bs : List (List ℕ)). blocks ++ bs) none ∙ append-nil blocks)) told)
      (λ t. sym (ap (λ (bs : List (List ℕ)). written_now ++ text_of_replies (said_at (changes_in new) (map words_of_block bs))) none ∙ append-nil written_now)))

  -- the turn of the next letter, which took one
  pub bridged_took : (mid now : BridgeState) (before new : MachineState) (members_mid members_now : List L) (all : List ℕ) (k : ℕ)
      (made made_now : List MadeTurn) (written_mid written_now : List ℕ) (turn : SideTurn) (step : ℕ) → k < length all
      → BridgedSoFar mid before members_mid (take k all) made written_mid
      → IsTurn tells client budget mid before (turn_of turn) now new → side_in (turn_of turn) ≡ side_of (get_or all k 0)
      → (tells → changes_of new ≡ step) → step ≡ changes_in new → made_now ≡ made ++ (record { turn = turn; step = step }) ∷ []
      → HasTaken (turn_of turn) → Told hearing (new.handover.last ∷ []) members_mid members_now
      → (told_sink → written_now ≡ written_mid ++ reply_at (changes_in new) (words_of_block new.handover.last))
      → BridgedSoFar now new members_now (take (k + 1) all) made_now written_now
  bridged_took mid now before new members_mid members_now all k made made_now written_mid written_now turn step more so is side counted at pushed taken telling text =
      let one : block_of (turn_of turn) (last_of new) ≡ new.handover.last ∷ [] = ap (λ (t : Turn). block_of t (last_of new)) (taken_is (turn_of turn) taken) in
      subst (λ (xs : List ℕ). BridgedSoFar now new members_now xs made_now written_now) (sym (take_more all k 0 more))
      (step_more mid now before new members_mid members_now (take k all) (get_or all k 0) made made_now written_mid written_now turn step so is side counted at pushed
      (λ blocks told. subst (λ (bs : List (List ℕ)). Told hearing (blocks ++ bs) members members_now) (sym one)
      (told_then hearing blocks (new.handover.last ∷ []) members members_mid members_now told telling))
      (λ t. text t ∙ ap (λ (xs : List ℕ). written_mid ++ xs) (sym (append-nil (reply_at (changes_in new) (words_of_block new.handover.last))))
      ∙ ap (λ (bs : List (List ℕ)). written_mid ++ text_of_replies (said_at (changes_in new) (map words_of_block bs))) (sym one)))

-- the first reply that was not written is that of a block, which the last of some turns took
pub cut_in_turns : (letters : List ℕ) (k changes : ℕ) (steps : List Step) (step : Step) → step.turn ≡ OfBridge (ByReader Took)
    → LeftIn (turns letters) (turns (take k letters)) (replies_of changes (steps ++ step ∷ [])) (block_replies steps) (at_step (changes_in step.machine) (words_of_block step.machine.handover.last))
cut_in_turns letters k changes steps step took =
    let last : Reply = at_step (changes_in step.machine) (words_of_block step.machine.handover.last) in
    let behind : Reply = at_step changes (words_of_steps (steps ++ step ∷ [])) in
    let shown : block_replies (steps ++ step ∷ []) ≡ block_replies steps ++ last ∷ [] =
    shown_more steps step ∙ ap (λ (t : Turn). block_replies steps ++ shown_block t step.machine) took in
    let said : replies_of changes (steps ++ step ∷ []) ≡ block_replies steps ++ last ∷ behind ∷ [] =
    ap (λ (xs : List Reply). xs ++ behind ∷ []) shown ∙ append_assoc (block_replies steps) (last ∷ []) (behind ∷ []) in
    subst (λ (xs : List ℕ). LeftIn (turns xs) (turns (take k letters)) (replies_of changes (steps ++ step ∷ [])) (block_replies steps) last) (take-append-drop k letters)
    (subst (λ (xs : List Reply). LeftIn (turns (take k letters ++ drop k letters)) (turns (take k letters)) xs (block_replies steps) last) (sym said)
    (InBridged (take k letters) (drop k letters) steps step changes (block_replies steps) last took))

-- A player's turns

module _ {L : Type 0} (hearing : L → Hearing) (tells told_sink : Type 0) (programs : OwnProgramsRun tells) (old : PlayerState) (machine : IsMachine old.machine)
    (on : old.bridge ≡ Off → ⊥) (members : List L) (written : List ℕ)
    (now : BridgeState) (final : MachineState) where
  -- the player behind them
  abbrev new : PlayerState
  new = record old { machine = final; bridge = now }

  abbrev SoFar : BridgeState → MachineState → List L → List ℕ → List MadeTurn → List ℕ → Type 0
  SoFar = BridgedSoFar hearing tells told_sink old.own (budget_of old) old.bridge old.machine members written

  turns_played : (letters : List ℕ) (steps : List Step) → AreTurns tells old.own (budget_of old) old.bridge old.machine steps new.bridge new.machine → sides_in steps ≡ map side_of letters
      → (tells → AreCounted steps) → LinePlayed tells (counts_of hearing members) old (played_as (turns letters) (replies_of (changes_in new.machine) steps) (blocks_in steps) steps new)
  turns_played letters steps are sides counted = quiet_with tells (counts_of hearing members) old (turns letters) (replies_of (changes_in new.machine) steps) (blocks_in steps) steps new refl
      (ByTheBridge (turns letters) (replies_of (changes_in new.machine) steps) (blocks_in steps) steps new.bridge new.machine (BridgesTurns letters steps new.bridge new.machine on are sides counted))
      (λ told own. turns_shown tells programs told old.own (budget_of old) old.bridge old.machine steps new.bridge new.machine own machine are)

  -- the reply behind all turns
  line_text : (members_now : List L) (letters : List ℕ) (made : List MadeTurn) (written_now : List ℕ) →
      (so : SoFar new.bridge new.machine members_now letters made written_now) → (step : ℕ) → step ≡ changes_in new.machine
      → reply_at step (words_of_made made) ≡ text_of_reply (at_step (changes_in new.machine) (words_of_steps so.steps))
  line_text members_now letters made written_now so step at =
      ap (λ (n : ℕ). reply_at n (words_of_made made)) at ∙ ap (λ (m : List MadeTurn). reply_at (changes_in new.machine) (words_of_made m)) so.made_is
      ∙ ap (reply_at (changes_in new.machine)) (words_made so.steps)

  pub turns_all : (members_now : List L) (all : List ℕ) (k : ℕ) (made : List MadeTurn) (written_now written_then : List ℕ) (step : ℕ) → length all ≤ k
      → SoFar new.bridge new.machine members_now (take k all) made written_now → step ≡ changes_in new.machine
      → (told_sink → written_then ≡ written_now ++ reply_at step (words_of_made made))
      → PlaysLine hearing tells (stream_of told_sink written written_then) (stage_in old members) (turns all) (stage_in new members_now)
  turns_all members_now all k made written_now written_then step end so at text = record {
    said = replies_of (changes_in new.machine) so.steps;
    blocks = blocks_in so.steps;
    steps = so.steps;
    played = turns_played all so.steps so.are (so.sides ∙ ap (map side_of) (take_all k all end)) so.counted;
    told = so.told;
    text = λ t. text t ∙ ap (λ (xs : List ℕ). written_now ++ xs) (line_text members_now (take k all) made written_now so step at)
        ∙ ap (λ (xs : List ℕ). xs ++ text_of_reply (at_step (changes_in new.machine) (words_of_steps so.steps))) (so.text t)
        ∙ text_more written (block_replies so.steps) (at_step (changes_in new.machine) (words_of_steps so.steps));
  }

  pub turns_unwritten : (members_now : List L) (all : List ℕ) (k : ℕ) (made : List MadeTurn) (written_now written_then : List ℕ) (step : ℕ) → length all ≤ k
      → SoFar new.bridge new.machine members_now (take k all) made written_now → step ≡ changes_in new.machine
      → (told_sink → (n : ℕ) × (written_then ≡ written_now ++ take n (reply_at step (words_of_made made))))
      → PlaysUnwritten hearing tells (stream_of told_sink written written_then) (stage_in old members) (turns all) (stage_in new members_now)
  turns_unwritten members_now all k made written_now written_then step end so at text = record {
    made = turns all;
    said = replies_of (changes_in new.machine) so.steps;
    before = block_replies so.steps;
    last = at_step (changes_in new.machine) (words_of_steps so.steps);
    left = AtLast (turns all) (block_replies so.steps) (at_step (changes_in new.machine) (words_of_steps so.steps));
    blocks = blocks_in so.steps;
    steps = so.steps;
    played = turns_played all so.steps so.are (so.sides ∙ ap (map side_of) (take_all k all end)) so.counted;
    told = so.told;
    text = λ t. let part = text t in (
      part.0,
      part.1 ∙ ap (λ (xs : List ℕ). written_now ++ take part.0 xs) (line_text members_now (take k all) made written_now so step at)
          ∙ ap (λ (xs : List ℕ). xs ++ take part.0 (text_of_reply (at_step (changes_in new.machine) (words_of_steps so.steps)))) (so.text t),
    );
  }

  -- where the sink refused the line of the block that the last of some turns took
  pub turns_cut : (mid : BridgeState) (before : MachineState) (members_mid members_now : List L) (all : List ℕ) (k : ℕ) (made : List MadeTurn)
      (written_mid written_now : List ℕ) (turn : SideTurn) (step : ℕ) → k < length all
      → SoFar mid before members_mid (take k all) made written_mid
      → IsTurn tells old.own (budget_of old) mid before (turn_of turn) new.bridge new.machine → side_in (turn_of turn) ≡ side_of (get_or all k 0)
      → (tells → changes_of new.machine ≡ step) → step ≡ changes_in new.machine → HasTaken (turn_of turn)
      → Told hearing (new.machine.handover.last ∷ []) members_mid members_now
      → (told_sink → (n : ℕ) × (written_now ≡ written_mid ++ take n (reply_at (changes_in new.machine) (words_of_block new.machine.handover.last))))
      → PlaysUnwritten hearing tells (stream_of told_sink written written_now) (stage_in old members) (turns all) (stage_in new members_now)
  turns_cut mid before members_mid members_now all k made written_mid written_now turn step more so is side counted at taken telling text =
      let last : Step = record { turn = turn_of turn; bridge = new.bridge; machine = new.machine } in
      let took = taken_is (turn_of turn) taken in
      record {
        made = turns (take (k + 1) all);
        said = replies_of (changes_in new.machine) (so.steps ++ last ∷ []);
        before = block_replies so.steps;
        last = at_step (changes_in new.machine) (words_of_block new.machine.handover.last);
        left = cut_in_turns all (k + 1) (changes_in new.machine) so.steps last took;
        blocks = blocks_in (so.steps ++ last ∷ []);
        steps = so.steps ++ last ∷ [];
        played = turns_played (take (k + 1) all) (so.steps ++ last ∷ [])
            (turns_more tells old.own (budget_of old) old.bridge old.machine so.steps mid before (turn_of turn) new.bridge new.machine so.are is)
            (sides_more so.steps last ∙ ap (λ (xs : List Side). xs ++ side_in (turn_of turn) ∷ []) so.sides ∙ ap (λ (x : Side). map side_of (take k all) ++ x ∷ []) side
            ∙ sym (map-append side_of (take k all) (get_or all k 0 ∷ [])) ∙ ap (map side_of) (sym (take_more all k 0 more)))
            (λ t. counted_more so.steps last (so.counted t) (counted t ∙ at));
        told = subst (λ (bs : List (List ℕ)). Told hearing bs members members_now)
            (sym (blocks_more so.steps last ∙ ap (λ (t : Turn). blocks_in so.steps ++ block_of t (last_of new.machine)) took))
            (told_then hearing (blocks_in so.steps) (new.machine.handover.last ∷ []) members members_mid members_now so.told telling);
        text = λ t. let part = text t in (
          part.0,
          part.1 ∙ ap (λ (xs : List ℕ). xs ++ take part.0 (reply_at (changes_in new.machine) (words_of_block new.machine.handover.last))) (so.text t),
        );
      }

-- what power lost at step s in a line may show
abbrev pub ShowsLine : ℕ → PlayerState → Line → List Step → Stored → Type 0
ShowsLine s state line steps shown = elim steps [
  | [] ↦ (shown ≡ records_of state.machine) ⊎ (shown ≡ after_line (client_of state).range state.machine line)
  | step ∷ more ↦ ShowsTurns s state.bridge state.machine (step ∷ more) shown
]

-- before a line has changed anything
shows_at_start : (tells : Type 0) → tells → (client : ClientState) (budget : ℕ) (old : PlayerState) (line : Line) (steps : List Step) (next : BridgeState) (last : MachineState)
    → AreTurns tells client budget old.bridge old.machine steps next last → (s : ℕ) (shown : Stored) → s < changes_of old.machine → shown ≡ records_of old.machine → ShowsLine s old line steps shown
shows_at_start tells told client budget old line [] next last are s shown before same = inl same
shows_at_start tells told client budget old line (step ∷ rest) next last are s shown before same =
    let on = (turn_goes_on tells client budget told old.bridge old.machine step.turn step.bridge step.machine are.0).1 in
    let grows = past_grows (told_of old.machine) (told_of step.machine) on.later in
    by_test (nat_le (changes_of step.machine) s) (lt-leb (changes_of step.machine) s (omega arith))
  where
    by_test : (b : Bool) → b ≡ false → MatchBool b (ShowsTurns s step.bridge step.machine rest shown) ((shown ≡ records_of old.machine) ⊎ (shown ≡ after_turn old.bridge old.machine step.turn))
    by_test true e = absurd (cc e)
    by_test false e = inl same

pub shows_at_first : (tells : Type 0) → tells → (counts : List ℕ) (old : PlayerState) (line : Line) (said : List Reply) (blocks : List (List ℕ)) (steps : List Step) (new : PlayerState)
    → Plays tells counts old (played_as line said blocks steps new) → (s : ℕ) (shown : Stored) → s < changes_of old.machine → shown ≡ records_of old.machine → ShowsLine s old line steps shown
shows_at_first tells told counts old line said blocks steps now plays s shown before same = elim plays as (λ one plays. ShowsLine s old one.line one.steps shown) [
  | ByTheBridge line said blocks steps next machine by ↦ elim by as (λ line said blocks steps next machine by. ShowsLine s old line steps shown) [
    | BridgesTurns letters steps next machine on are sides counted ↦ shows_at_start tells told old.own (budget_of old) old (turns letters) steps next machine are s shown before same
    | other ↦ inl same
  ]
  | other ↦ inl same
]

-- As the code has them

pub same_turn : (tells : Type 0) (client own : ClientState) (budget steps : ℕ) (state : BridgeState) (old : MachineState) (turn : Turn) (next : BridgeState)
    (new : MachineState) → client ≡ own → budget ≡ steps
    → IsTurn tells client budget state old turn next new → IsTurn tells own steps state old turn next new
same_turn tells client own budget steps state old turn next new same many is =
    subst (λ (n : ℕ). IsTurn tells own n state old turn next new) many (subst (λ (c : ClientState). IsTurn tells c budget state old turn next new) same is)

pub so_at : {L : Type 0} (hearing : L → Hearing) (tells told_sink : Type 0) (client : ClientState) (budget : ℕ) (state : BridgeState) (old : MachineState) (members : List L) (written : List ℕ)
    (now then : BridgeState) (new new_then : MachineState) (members_now : List L) (letters : List ℕ) (made made_then : List MadeTurn) (written_now : List ℕ)
    → then ≡ now → new_then ≡ new → made_then ≡ made → BridgedSoFar hearing tells told_sink client budget state old members written now new members_now letters made written_now
    → BridgedSoFar hearing tells told_sink client budget state old members written then new_then members_now letters made_then written_now
so_at hearing tells told_sink client budget state old members written now then new new_then members_now letters made made_then written_now same machine items so =
    subst (λ (b : BridgeState). BridgedSoFar hearing tells told_sink client budget state old members written b new_then members_now letters made_then written_now) (sym same)
    (subst (λ (m : MachineState). BridgedSoFar hearing tells told_sink client budget state old members written now m members_now letters made_then written_now) (sym machine)
    (subst (λ (xs : List MadeTurn). BridgedSoFar hearing tells told_sink client budget state old members written now new members_now letters xs written_now) (sym items) so))

module _ {F L : Type 0} (hearing : L → Hearing) (tells told_sink : Type 0) (old new : Session F) (now : BridgeState) (final : MachineState)
    (clients : SameClients old new) (bridge : new.bridge ≡ now) (machine : new.machine ≡ final) where
  behind_all : state_of new ≡ record (state_of old) { machine = final; bridge = now }
  behind_all = other_bridge old new clients ∙ ap (λ (b : BridgeState). record (state_of old) { machine = new.machine; bridge = b }) bridge
      ∙ ap (λ (m : MachineState). record (state_of old) { machine = m; bridge = now }) machine

  pub played_by : (members members_now : List L) (line : Line) (written written_now : List ℕ) →
      PlaysLine hearing tells (stream_of told_sink written written_now) (stage_in (state_of old) members) line
      (stage_in (record (state_of old) { machine = final; bridge = now }) members_now)
      → PlaysLine hearing tells (stream_of told_sink written written_now) (stage_in (state_of old) members) line (stage_in (state_of new) members_now)
  played_by members members_now line written written_now plays =
      subst (λ (p : PlayerState). PlaysLine hearing tells (stream_of told_sink written written_now) (stage_in (state_of old) members) line (stage_in p members_now)) (sym behind_all) plays

  pub unwritten_by : (members members_now : List L) (line : Line) (written written_now : List ℕ) →
      PlaysUnwritten hearing tells (stream_of told_sink written written_now) (stage_in (state_of old) members) line
      (stage_in (record (state_of old) { machine = final; bridge = now }) members_now)
      → PlaysUnwritten hearing tells (stream_of told_sink written written_now) (stage_in (state_of old) members) line (stage_in (state_of new) members_now)
  unwritten_by members members_now line written written_now plays =
      subst (λ (p : PlayerState). PlaysUnwritten hearing tells (stream_of told_sink written written_now) (stage_in (state_of old) members) line (stage_in p members_now)) (sym behind_all) plays
