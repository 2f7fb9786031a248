-- A line that was played, from what its parts say.
use Rattle.std.proofs.Common.{◌≡◌, ◌∙◌, ℕ, false, List, [], ◌∷◌, ◌++◌, take, Option, refl, sym, ap, subst}
use Rattle.std.proofs.lemmas.List.{append-nil}
use Rattle.std.proofs.lemmas.Bool.{false≢true}
use Rattle.erst_client.specs.Commands.{ClientState}
use Rattle.erst_machine.specs.MachineState.{MachineState}
use Rattle.erst_commands.specs.Attached.{own_client}
use Rattle.erst_bridge.specs.Bridges.{BridgeState}
use Rattle.erst_bridge.specs.Turns.{Step}
use Rattle.script_text.specs.ScriptGrammar.{Line, blank, bert, heard}
use Rattle.apei_notify.specs.Telling.{Hearing, counts_of}
use Rattle.script_lines.specs.Streams.{stream_of}
use Rattle.apei_script.specs.declared.session.Session.{Session}
use Rattle.apei_script.specs.Players.{PlayerState, budget_of, client_of}
use Rattle.apei_script.specs.Words.{Reply, at_step, said_at, words_of_heard, reply_at, text_of_replies}
use Rattle.apei_script.specs.Bridged.{TurnsShown, changes_in}
use Rattle.apei_script.proofs.OneEvent.{NeedsNoBridge}
use Rattle.apei_script.specs.Plays.{Plays, Blank, OnMachine, OnlyTells, LinePlayed, PlaysLine, PlaysUnwritten, Occurred, OccurredUnwritten, LeftIn, AtLast}
use Rattle.apei_script.specs.Plays.{InList, InTurns, InBridged, names_command, stage_in, played_as, one_reply}
use Rattle.apei_script.specs.Sessions.{state_of, SameClients, Lists, ListsUnwritten, LineAnswered, MakesReply}
use Rattle.apei_script.proofs.LineLemmas.{line_happened}
use Rattle.apei_script.proofs.LeavesLemmas.{line_leaves}
use Rattle.apei_notify.proofs.ToldLemmas.{told_none}

-- a player with another machine
abbrev pub with_machine : MachineState → PlayerState → PlayerState
with_machine machine state = record state { machine = machine }

-- a line that is no command on records
pub quiet_with : (tells : Type 0) (counts : List ℕ) (old : PlayerState) (line : Line) (said : List Reply) (blocks : List (List ℕ)) (steps : List Step)
    (new : PlayerState) → names_command line ≡ false → Plays tells counts old (played_as line said blocks steps new)
    → (tells → old.own ≡ own_client old.machine → TurnsShown (budget_of old) old.bridge old.machine steps new.machine) → LinePlayed tells counts old (played_as line said blocks steps new)
quiet_with tells counts old line said blocks steps new none plays turned = record {
  plays = plays;
  happened = line_happened tells counts old line said blocks steps new plays;
  by_map = λ told uses names. absurd (false≢true (sym none ∙ names));
  by_shadow = λ told uses names. absurd (false≢true (sym none ∙ names));
  cause = λ uses names says. absurd (false≢true (sym none ∙ names));
  enough = λ uses names many. absurd (false≢true (sym none ∙ names));
  leaves = λ told uses own unmade. line_leaves tells told (client_of old).range counts old line said blocks steps new plays unmade (λ names. absurd (false≢true (sym none ∙ names))) own;
  turned = turned;
}

-- no turn of the bridge was made
pub shows_none : {budget : ℕ} (state : BridgeState) (old new : MachineState) → TurnsShown budget state old [] new
shows_none state old new = record { each = λ some. absurd (some refl); first = λ some. absurd (some refl); stored = λ s image from crash. tt; mapped = tt; ends = tt }

quiet : (tells : Type 0) (counts : List ℕ) (old : PlayerState) (line : Line) (said : List Reply) (blocks : List (List ℕ)) (new : PlayerState) →
    names_command line ≡ false → Plays tells counts old (played_as line said blocks [] new)
    → LinePlayed tells counts old (played_as line said blocks [] new)
quiet tells counts old line said blocks new none plays = quiet_with tells counts old line said blocks [] new none plays (λ told own. shows_none old.bridge old.machine new.machine)

same_state : (machine : MachineState) (own own_now : ClientState) (other other_now : Option ClientState) (steps steps_now : Option ℕ) (state : BridgeState) →
    own_now ≡ own → other_now ≡ other → steps_now ≡ steps
    → ◌≡◌ {A = PlayerState} (record { machine = machine; own = own_now; other = other_now; steps = steps_now; bridge = state })
    (record { machine = machine; own = own; other = other; steps = steps; bridge = state })
same_state machine own own_now other other_now steps steps_now state a b c =
    ap (λ (x : ClientState). let s : PlayerState = record { machine = machine; own = x; other = other_now; steps = steps_now; bridge = state } in s) a
    ∙ ap (λ (x : Option ClientState). let s : PlayerState = record { machine = machine; own = own; other = x; steps = steps_now; bridge = state } in s) b
    ∙ ap (λ (x : Option ℕ). let s : PlayerState = record { machine = machine; own = own; other = other; steps = x; bridge = state } in s) c

-- only the machine and the bridge are others
pub other_bridge : {F : Type 0} (old new : Session F) → SameClients old new → state_of new ≡ record (state_of old) { machine = new.machine; bridge = new.bridge }
other_bridge old new same = same_state new.machine old.own new.own old.other new.other old.steps new.steps new.bridge same.own same.other same.steps

-- only the machine is another
pub other_machine : {F : Type 0} (old new : Session F) → SameClients old new → new.bridge ≡ old.bridge → state_of new ≡ with_machine new.machine (state_of old)
other_machine old new same bridge = other_bridge old new same ∙ ap (λ (b : BridgeState). record (state_of old) { machine = new.machine; bridge = b }) bridge

-- a session with the same state has the same machine
pub same_machine : {F : Type 0} (old new : Session F) → state_of new ≡ state_of old → new.machine ≡ old.machine
same_machine old new same = ap (λ (s : PlayerState). s.machine) same

-- a line that was answered, with all that is said of it
pub line_answered : (tells : Type 0) (old : PlayerState) (line : Line) (new : PlayerState) (made reply : List ℕ) (step : ℕ)
    → ((words counts : List ℕ) → Plays tells counts old (one_reply line words new) → LinePlayed tells counts old (one_reply line words new))
    → MakesReply tells old line new made → step ≡ (changes_in new.machine) → reply ≡ reply_at step made → LineAnswered tells old line new reply
line_answered tells old line new made reply step whole makes at text = record {
  words = makes.words;
  played = λ counts. whole makes.words counts (makes.plays counts);
  text = text ∙ ap (λ (n : ℕ). reply_at n made) at ∙ ap (reply_at (changes_in new.machine)) makes.made.text;
}

left_quiet : (line made : Line) (said before : List Reply) (last : Reply) → LeftIn line made said before last → names_command line ≡ false → names_command made ≡ false
left_quiet line made said before last left = elim left as (λ line made said before last left. names_command line ≡ false → names_command made ≡ false) [
  | AtLast line before last ↦ λ h. h
  | InList before last behind ↦ λ h. refl
  | InTurns letters behind events step before last ↦ λ h. refl
  | InBridged letters behind steps step changes before last took ↦ λ h. refl
]

left_alone : (state : BridgeState) (line made : Line) (said before : List Reply) (last : Reply) → LeftIn line made said before last → NeedsNoBridge state line → NeedsNoBridge state made
left_alone state line made said before last left = elim left as (λ line made said before last left. NeedsNoBridge state line → NeedsNoBridge state made) [
  | AtLast line before last ↦ λ h. h
  | InList before last behind ↦ λ h. h
  | InTurns letters behind events step before last ↦ λ h. h
  | InBridged letters behind steps step changes before last took ↦ λ h. h
]

module _ {L : Type 0} (hearing : L → Hearing) (tells told_sink : Type 0) where
  pub blank_played : (old : PlayerState) (members : List L) (written : List ℕ) → PlaysLine hearing tells (stream_of told_sink written written) (stage_in old members) blank (stage_in old members)
  blank_played old members written = record {
    said = [];
    blocks = [];
    steps = [];
    played = quiet tells (counts_of hearing members) old blank [] [] old refl Blank;
    told = told_none hearing members;
    text = λ t. sym (append-nil written);
  }

  pub occurred_played : (old new : PlayerState) (members members_now : List L) (line : Line) (written written_now : List ℕ) → names_command line ≡ false →
      NeedsNoBridge old.bridge line → new ≡ with_machine new.machine old
      → Occurred hearing tells (stream_of told_sink written written_now) (stage_in old.machine members) line (stage_in new.machine members_now)
      → PlaysLine hearing tells (stream_of told_sink written written_now) (stage_in old members) line (stage_in new members_now)
  occurred_played old new members members_now line written written_now none alone same h = record {
    said = said_at (changes_in new.machine) h.words;
    blocks = h.blocks;
    steps = [];
    played = quiet tells (counts_of hearing members) old line (said_at (changes_in new.machine) h.words) h.blocks new none
        (subst (λ (s : PlayerState). Plays tells (counts_of hearing members) old (played_as line (said_at (changes_in new.machine) h.words) h.blocks [] s))
        (sym same) (OnMachine line h.words h.blocks new.machine alone h.happened));
    told = h.told;
    text = h.text;
  }

  pub occurred_unwritten : (old new : PlayerState) (members members_now : List L) (line : Line) (written written_now : List ℕ) → names_command line ≡ false →
      NeedsNoBridge old.bridge line → new ≡ with_machine new.machine old
      → OccurredUnwritten hearing tells (stream_of told_sink written written_now) (stage_in old.machine members) line (stage_in new.machine members_now)
      → PlaysUnwritten hearing tells (stream_of told_sink written written_now) (stage_in old members) line (stage_in new members_now)
  occurred_unwritten old new members members_now line written written_now none alone same h = record {
    made = h.made;
    said = said_at (changes_in new.machine) h.words;
    before = h.before;
    last = h.last;
    left = h.left;
    blocks = h.blocks;
    steps = [];
    played = quiet tells (counts_of hearing members) old h.made (said_at (changes_in new.machine) h.words) h.blocks new
        (left_quiet line h.made (said_at (changes_in new.machine) h.words) h.before h.last h.left none)
        (subst (λ (s : PlayerState). Plays tells (counts_of hearing members) old (played_as h.made (said_at (changes_in new.machine) h.words) h.blocks [] s)) (sym same)
        (OnMachine h.made h.words h.blocks new.machine (left_alone old.bridge line h.made (said_at (changes_in new.machine) h.words) h.before h.last h.left alone) h.happened));
    told = h.told;
    text = h.text;
  }

  pub listed_played : (old new : PlayerState) (members : List L) (written written_now : List ℕ) → new ≡ old → Lists tells (stream_of told_sink written written_now) old.machine
      → PlaysLine hearing tells (stream_of told_sink written written_now) (stage_in old members) bert (stage_in new members)
  listed_played old new members written written_now same h =
      subst (λ (s : PlayerState). PlaysLine hearing tells (stream_of told_sink written written_now) (stage_in old members) bert (stage_in s members)) (sym same) (record {
        said = said_at (changes_in old.machine) h.words;
        blocks = [];
        steps = [];
        played = quiet tells (counts_of hearing members) old bert (said_at (changes_in old.machine) h.words) [] old refl (OnMachine bert h.words [] old.machine tt h.happened);
        told = told_none hearing members;
        text = h.text;
      })

  pub listed_unwritten : (old new : PlayerState) (members : List L) (written written_now : List ℕ) → new ≡ old → ListsUnwritten tells (stream_of told_sink written written_now) old.machine
      → PlaysUnwritten hearing tells (stream_of told_sink written written_now) (stage_in old members) bert (stage_in new members)
  listed_unwritten old new members written written_now same h =
      subst (λ (s : PlayerState). PlaysUnwritten hearing tells (stream_of told_sink written written_now) (stage_in old members) bert (stage_in s members)) (sym same) (record {
        made = bert;
        said = said_at (changes_in old.machine) h.words;
        before = h.before;
        last = h.last;
        left = h.left;
        blocks = [];
        steps = [];
        played = quiet tells (counts_of hearing members) old bert (said_at (changes_in old.machine) h.words) [] old refl (OnMachine bert h.words [] old.machine tt h.happened);
        told = told_none hearing members;
        text = h.text;
      })

  -- a line of one reply that changes no listener
  one_text : (step : ℕ) (words written : List ℕ) → written ++ reply_at step words ≡ written ++ (text_of_replies (said_at step (words ∷ [])))
  one_text step words written = ap (λ (xs : List ℕ). written ++ xs) (sym (append-nil (reply_at step words)))

  pub one_played : (old new : PlayerState) (members : List L) (line : Line) (words written written_now : List ℕ) → LinePlayed tells (counts_of hearing members) old (one_reply line words new)
      → (told_sink → written_now ≡ written ++ reply_at (changes_in new.machine) words)
      → PlaysLine hearing tells (stream_of told_sink written written_now) (stage_in old members) line (stage_in new members)
  one_played old new members line words written written_now played text = record {
    said = said_at (changes_in new.machine) (words ∷ []);
    blocks = [];
    steps = [];
    played = played;
    told = told_none hearing members;
    text = λ t. text t ∙ one_text (changes_in new.machine) words written;
  }

  pub one_unwritten : (old new : PlayerState) (members : List L) (line : Line) (words written written_now : List ℕ) → LinePlayed tells (counts_of hearing members) old (one_reply line words new)
      → (told_sink → (n : ℕ) × (written_now ≡ written ++ take n (reply_at (changes_in new.machine) words)))
      → PlaysUnwritten hearing tells (stream_of told_sink written written_now) (stage_in old members) line (stage_in new members)
  one_unwritten old new members line words written written_now played text = record {
    made = line;
    said = said_at (changes_in new.machine) (words ∷ []);
    before = [];
    last = at_step (changes_in new.machine) words;
    left = AtLast line [] (at_step (changes_in new.machine) words);
    blocks = [];
    steps = [];
    played = played;
    told = told_none hearing members;
    text = λ t. let some = text t in (some.0, some.1 ∙ ap (λ (xs : List ℕ). xs ++ take some.0 (reply_at (changes_in new.machine) words)) (sym (append-nil written)));
  }

  -- where the listeners are as they were
  pub answer_played : (old new : PlayerState) (members members_now : List L) (line : Line) (words written written_now : List ℕ) → members_now ≡ members
      → LinePlayed tells (counts_of hearing members) old (one_reply line words new) → (told_sink → written_now ≡ written ++ reply_at (changes_in new.machine) words)
      → PlaysLine hearing tells (stream_of told_sink written written_now) (stage_in old members) line (stage_in new members_now)
  answer_played old new members members_now line words written written_now same played text =
      subst (λ (now : List L). PlaysLine hearing tells (stream_of told_sink written written_now) (stage_in old members) line (stage_in new now)) (sym same)
      (one_played old new members line words written written_now played text)

  pub answer_unwritten : (old new : PlayerState) (members members_now : List L) (line : Line) (words written written_now : List ℕ) → members_now ≡ members
      → LinePlayed tells (counts_of hearing members) old (one_reply line words new)
      → (told_sink → (n : ℕ) × (written_now ≡ written ++ take n (reply_at (changes_in new.machine) words)))
      → PlaysUnwritten hearing tells (stream_of told_sink written written_now) (stage_in old members) line (stage_in new members_now)
  answer_unwritten old new members members_now line words written written_now same played text =
      subst (λ (now : List L). PlaysUnwritten hearing tells (stream_of told_sink written written_now) (stage_in old members) line (stage_in new now)) (sym same)
      (one_unwritten old new members line words written written_now played text)

  heard_line : (old new : PlayerState) (members : List L) → new ≡ old → LinePlayed tells (counts_of hearing members) old (one_reply heard (words_of_heard (counts_of hearing members)) new)
  heard_line old new members same = quiet tells (counts_of hearing members) old heard (said_at (changes_in new.machine) (words_of_heard (counts_of hearing members) ∷ [])) [] new refl
      (subst (λ (s : PlayerState). Plays tells (counts_of hearing members) old (one_reply heard (words_of_heard (counts_of hearing members)) s)) (sym same) OnlyTells)

  pub heard_played : (old new : PlayerState) (members : List L) (written written_now : List ℕ) → new ≡ old
      → (told_sink → written_now ≡ written ++ reply_at (changes_in old.machine) (words_of_heard (counts_of hearing members)))
      → PlaysLine hearing tells (stream_of told_sink written written_now) (stage_in old members) heard (stage_in new members)
  heard_played old new members written written_now same text =
      one_played old new members heard (words_of_heard (counts_of hearing members)) written written_now (heard_line old new members same)
      (λ t. text t ∙ ap (λ (s : PlayerState). written ++ reply_at (changes_in s.machine) (words_of_heard (counts_of hearing members))) (sym same))

  pub heard_unwritten : (old new : PlayerState) (members : List L) (written written_now : List ℕ) → new ≡ old
      → (told_sink → (n : ℕ) × (written_now ≡ written ++ take n (reply_at (changes_in old.machine) (words_of_heard (counts_of hearing members)))))
      → PlaysUnwritten hearing tells (stream_of told_sink written written_now) (stage_in old members) heard (stage_in new members)
  heard_unwritten old new members written written_now same text =
      one_unwritten old new members heard (words_of_heard (counts_of hearing members)) written written_now (heard_line old new members same)
      (λ t. let some = text t in (some.0, some.1 ∙ ap (λ (s : PlayerState). written ++ take some.0 (reply_at (changes_in s.machine) (words_of_heard (counts_of hearing members)))) (sym same)))
