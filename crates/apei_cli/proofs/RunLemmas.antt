-- Laws of a run over the lines of a script.
use Rattle.std.proofs.Common.{◌≡◌, ℕ, Bool, false, List, [], ◌∷◌, ◌++◌, refl, sym, ap, subst, ◌∙◌, append_assoc}
use Rattle.std.proofs.lemmas.List.{append-nil}
use Rattle.base_model.specs.Faults.{Rose}
use Rattle.script_lines.specs.Columns.{BreaksAt}
use Rattle.erst_machine.specs.MachineState.{MachineState}
use Rattle.erst_bridge.specs.Turns.{Step}
use Rattle.script_text.specs.ScriptGrammar.{Line as ScriptLine, IsLine}
use Rattle.script_text.specs.ScriptText.{Means}
use Rattle.apei_notify.specs.Telling.{Hearing, counts_of, wants_of}
use Rattle.script_lines.specs.Streams.{Stream, stream_of}
use Rattle.apei_script.specs.declared.player.PlayStop.{PlayStop}
use Rattle.apei_script.specs.declared.player.PlayStop.TheVariants.{FlashFault as RestartFailed, Memory as NoMemory}
use Rattle.apei_script.specs.Players.{PlayerState}
use Rattle.apei_script.specs.Words.{Reply, text_of_replies}
use Rattle.apei_script.specs.Plays.{Stage, LinePlayed, HasHappened, FailsRestart, PartlyWritten, PlaysLine, PlaysUnwritten, Stops, Told, stage_in, played_as}
use Rattle.erst_machine.specs.Shown.{changes_of}
use Rattle.script_laws.specs.History.{Played, Follows, AreCounted, blocks_of, text_of, heard_after}
use Rattle.script_lines.specs.Ends.{EndsReading}
use Rattle.script_lines.specs.declared.ending.ScriptEnd.{ScriptEnd}
use Rattle.script_lines.specs.declared.ending.ScriptEnd.TheVariants as ending
use Rattle.script_lines.specs.Lines.{Line, Reading, IsNextLine}
use Rattle.script_lines.specs.Played.{IsLineOf, StopsAt, PlaysByFault}
use Rattle.script_lines.specs.Reads.{HasRead, AreReadInOrder, last_line}
use Rattle.script_lines.proofs.PlayedLemmas.{ArePlayed, IsBadFrom, ArePlayed-push, is_bad, stops_at, ends_behind, whole, ends_none as lines_end}
use Rattle.apei_cli.specs.Statuses.{IsUnwritten, LeavesLast, status_of, LinesOf}
use Rattle.apei_cli.proofs.Terms.{GivesTable, FailsInRestart}
use Rattle.apei_cli.specs.Runs.{PlaysLines}
use Rattle.apei_cli.specs.declared.status.Status.{Status}
use Rattle.apei_cli.specs.declared.status.Status.TheVariants.{BadLine, SinkFault, FlashFault, Memory}
use Rattle.apei_notify.proofs.ToldLemmas.{told_none, told_then}
use Rattle.apei_cli.proofs.EndLemmas.{has_status}
use Rattle.apei_cli.proofs.ToldLemmas.{WantsOf, wants_first, wants_stay, heard_all}
use Rattle.apei_script.specs.Bridged.{changes_in}

-- one more line
pub AreCounted-push : (some : List Played) (one : Played) → AreCounted some → changes_of one.left.machine ≡ (changes_in one.left.machine) → AreCounted (some ++ one ∷ [])
AreCounted-push [] one before is = (is, tt)
AreCounted-push (played ∷ rest) one before is = (before.0, AreCounted-push rest one before.1 is)

text_of-push : (some : List Played) (played : Played) → text_of (some ++ played ∷ []) ≡ text_of some ++ (text_of_replies played.said)
text_of-push [] played = append-nil (text_of_replies played.said)
text_of-push (first ∷ some) played = ap (λ (bs : List ℕ). (text_of_replies first.said) ++ bs) (text_of-push some played)
    ∙ sym (append_assoc (text_of_replies first.said) (text_of some) (text_of_replies played.said))

pub blocks_of-push : (some : List Played) (played : Played) → blocks_of (some ++ played ∷ []) ≡ blocks_of some ++ played.blocks
blocks_of-push [] played = append-nil played.blocks
blocks_of-push (first ∷ some) played = ap (λ (bs : List (List ℕ)). first.blocks ++ bs) (blocks_of-push some played) ∙ sym (append_assoc first.blocks (blocks_of some) played.blocks)

-- how often each listener has heard after some lines
abbrev pub counts_after : List (ℕ → Bool) → List Played → List ℕ → List ℕ
counts_after wants [] counts = counts
counts_after wants (played ∷ rest) counts = counts_after wants rest (heard_after wants played.blocks counts)

counts_after-push : (wants : List (ℕ → Bool)) (some : List Played) (played : Played) (counts : List ℕ)
    → counts_after wants (some ++ played ∷ []) counts ≡ heard_after wants played.blocks (counts_after wants some counts)
counts_after-push wants [] played counts = refl
counts_after-push wants (first ∷ some) played counts = counts_after-push wants some played (heard_after wants first.blocks counts)

pub Follows-push : (tells : Type 0) (wants : List (ℕ → Bool)) (counts : List ℕ) (first : PlayerState) (some : List Played) (mid : PlayerState) (played : Played)
    → Follows tells wants counts first some mid
    → LinePlayed tells (counts_after wants some counts) mid played → Follows tells wants counts first (some ++ played ∷ []) played.left
Follows-push tells wants counts first [] mid played is line = (subst (λ (p : PlayerState). LinePlayed tells counts p played) is line, refl)
Follows-push tells wants counts first (one ∷ some) mid played is line = (is.0, Follows-push tells wants (heard_after wants one.blocks counts) one.left some mid played is.1 line)

-- the lines that a player played from the start of a script on
abbrev pub PlaysScript : {L : Type 0} → (L → Hearing) → Type 0 → Stream → Stream → Stage PlayerState L → Stage PlayerState L → Status → Type 0
PlaysScript hearing tells source sink old new status = PlaysLines hearing tells (LinesOf tells source sink status) old new status

module _ {L : Type 0} (hearing : L → Hearing) (told_source told_sink tells : Type 0) where
  -- a run so far: the lines that were read, all of them played, and the listeners told
  pub record SoFar (script rest written written_now : List ℕ) (listeners listeners_now : List L) (old new : PlayerState) (reading : Reading) : Type 0 where
    pub lines : List Line
    pub played : List Played
    pub read : HasRead told_source script rest lines reading
    pub are : ArePlayed (λ (text : List ℕ) (one : Played). Means text one.line) lines played
    pub history : Follows tells (wants_of hearing listeners) (counts_of hearing listeners) old played new
    pub counts : counts_of hearing listeners_now ≡ counts_after (wants_of hearing listeners) played (counts_of hearing listeners)
    pub wants : WantsOf hearing (wants_of hearing listeners) listeners_now
    pub told : Told hearing (blocks_of played) listeners listeners_now
    pub text : told_sink → written_now ≡ written ++ text_of played
    pub counted : tells → AreCounted played

module _ {L : Type 0} (hearing : L → Hearing) (told_source told_sink tells : Type 0) (order : AreReadInOrder told_source) where
  -- nothing was read
  pub SoFar-start : (script written : List ℕ) (listeners : List L) (player : PlayerState) (reading : Reading)
      → reading ≡ record { line = []; number = 0; end = 0; pending = []; at_end = false } → SoFar hearing told_source told_sink tells script script written
      written listeners listeners player player reading
  SoFar-start script written listeners player reading start =
      subst (SoFar hearing told_source told_sink tells script script written written listeners listeners player player) (sym start) (record {
        lines = [];
        played = [];
        read = order.start script;
        are = tt;
        history = refl;
        counts = refl;
        wants = wants_first hearing listeners;
        told = told_none hearing listeners;
        text = λ told. sym (append-nil written);
        counted = λ told. tt;
      })

  -- it was the line that was read last
  stops_here : (Is : Line → Type 0) (script rest rest_now written middle : List ℕ) (members members_now : List L) (old mid : PlayerState) (a b : Reading) (number : ℕ)
      → (so_far : SoFar hearing told_source told_sink tells script rest written middle members members_now old mid a) → IsNextLine told_source a b rest rest_now → number ≡ b.number → Is (last_line b)
      → told_source → StopsAt Is script so_far.lines number
  stops_here Is script rest rest_now written middle members members_now old mid a b number so_far next numbered is told =
      stops_at Is script so_far.lines (last_line b) number b.number numbered (order.stands script rest rest_now so_far.lines a b so_far.read next told) is

  -- a line that was played, behind some
  module _ (script rest written middle : List ℕ) (first members : List L) (old mid : PlayerState) (a : Reading)
      (so_far : SoFar hearing told_source told_sink tells script rest written middle first members old mid a)
      (line : ScriptLine) (said : List Reply) (blocks : List (List ℕ)) (steps : List Step) (new : PlayerState) (members_now : List L)
      (played : LinePlayed tells (counts_of hearing members) mid (played_as line said blocks steps new)) (told : Told hearing blocks members members_now) where
    history_then : Follows tells (wants_of hearing first) (counts_of hearing first) old (so_far.played ++ played_as line said blocks steps new ∷ []) new
    history_then =
        Follows-push tells (wants_of hearing first) (counts_of hearing first) old so_far.played mid (played_as line said blocks steps new) so_far.history
        (subst (λ (counts : List ℕ). LinePlayed tells counts mid (played_as line said blocks steps new)) so_far.counts played)

    told_now : Told hearing (blocks_of (so_far.played ++ played_as line said blocks steps new ∷ [])) first members_now
    told_now =
        subst (λ (bs : List (List ℕ)). Told hearing bs first members_now) (sym (blocks_of-push so_far.played (played_as line said blocks steps new)))
        (told_then hearing (blocks_of so_far.played) blocks first members members_now so_far.told told)

    counts_now : counts_of hearing members_now ≡ counts_after (wants_of hearing first) (so_far.played ++ played_as line said blocks steps new ∷ []) (counts_of hearing first)
    counts_now =
        heard_all hearing (wants_of hearing first) blocks members members_now so_far.wants told
        ∙ ap (heard_after (wants_of hearing first) blocks) so_far.counts
        ∙ sym (counts_after-push (wants_of hearing first) so_far.played (played_as line said blocks steps new) (counts_of hearing first))

  -- one more line was read and played
  pub SoFar-played : (script rest rest_now written middle now : List ℕ) (first members members_now : List L) (old mid new : PlayerState) (a b : Reading) (line : ScriptLine)
      → SoFar hearing told_source told_sink tells script rest written middle first members old mid a → IsNextLine told_source a b rest rest_now →
      IsLineOf (λ (text : List ℕ). Means text line) (last_line b)
      → PlaysLine hearing tells (stream_of told_sink middle now) (stage_in mid members) line (stage_in new members_now) → (tells → changes_of new.machine ≡ (changes_in new.machine))
      → SoFar hearing told_source told_sink tells script rest_now written now first members_now old new b
  SoFar-played script rest rest_now written middle now first members members_now old mid new a b line so_far next is plays counts = record {
    lines = so_far.lines ++ last_line b ∷ [];
    played = so_far.played ++ played_as line plays.said plays.blocks plays.steps new ∷ [];
    read = order.next script rest rest_now so_far.lines a b so_far.read next;
    are = ArePlayed-push (λ (text : List ℕ) (one : Played). Means text one.line) so_far.lines (last_line b) so_far.played (played_as line plays.said plays.blocks plays.steps new) so_far.are is;
    history = history_then script rest written middle first members old mid a so_far line plays.said plays.blocks plays.steps new members_now plays.played plays.told;
    counts = counts_now script rest written middle first members old mid a so_far line plays.said plays.blocks plays.steps new members_now plays.played plays.told;
    wants = wants_stay hearing (wants_of hearing first) plays.blocks members members_now so_far.wants plays.told;
    told = told_now script rest written middle first members old mid a so_far line plays.said plays.blocks plays.steps new members_now plays.played plays.told;
    text = λ told.
        plays.text told
        ∙ ap (λ (bs : List ℕ). bs ++ text_of_replies plays.said) (so_far.text told)
        ∙ append_assoc written (text_of so_far.played) (text_of_replies plays.said)
        ∙ ap (λ (bs : List ℕ). written ++ bs) (sym (text_of-push so_far.played (played_as line plays.said plays.blocks plays.steps new)));
    counted = λ told. AreCounted-push so_far.played (played_as line plays.said plays.blocks plays.steps new) (so_far.counted told) (counts told);
  }

  -- a run that ends behind the lines that were played whole, with the listeners as these left them
  stopped : (script rest rest_now written middle now : List ℕ) (first members members_now : List L) (old mid new : PlayerState) (a : Reading) (status : Status)
      → (so_far : SoFar hearing told_source told_sink tells script rest written middle first members old mid a)
      → LinesOf tells (stream_of told_source script rest_now) (stream_of told_sink written now) status so_far.played mid new.machine →
      LeavesLast tells mid.machine new.machine status → members_now ≡ members
      → (status ≡ FlashFault → HasHappened tells mid.machine new.machine × Rose mid.machine.device.store.flash.faults new.machine.device.store.flash.faults)
      → PlaysScript hearing tells (stream_of told_source script rest_now) (stream_of told_sink written now) (stage_in old first) (stage_in new members_now) status
  stopped script rest rest_now written middle now first members members_now old mid new a status so_far lines behind quiet fault = record {
    played = so_far.played;
    last = mid;
    history = so_far.history;
    lines = lines;
    behind = behind;
    told = subst (Told hearing (blocks_of so_far.played) first) (sym quiet) so_far.told;
    counted = so_far.counted;
    fault = fault;
  }

  -- and whose machine is as they left it
  as_so_far : (script rest rest_now written middle now : List ℕ) (first members : List L) (old new : PlayerState) (a : Reading) (status : Status)
      → (so_far : SoFar hearing told_source told_sink tells script rest written middle first members old new a)
      → LinesOf tells (stream_of told_source script rest_now) (stream_of told_sink written now) status so_far.played new new.machine →
      LeavesLast tells new.machine new.machine status → (status ≡ FlashFault → ⊥)
      → PlaysScript hearing tells (stream_of told_source script rest_now) (stream_of told_sink written now) (stage_in old first) (stage_in new members) status
  as_so_far script rest rest_now written middle now first members old new a status so_far lines behind other =
      stopped script rest rest_now written middle now first members members old new new a status so_far lines behind refl (λ e. absurd (other e))

  -- there is no next line
  pub ends_none : (script rest rest_now written now : List ℕ) (first members : List L) (old new : PlayerState) (a b : Reading) (ended : ScriptEnd)
      → EndsReading told_source a b rest rest_now ended → SoFar hearing told_source told_sink tells script rest written now first members old new a
      → PlaysScript hearing tells (stream_of told_source script rest_now) (stream_of told_sink written now) (stage_in old first) (stage_in new members) (status_of ended)
  ends_none script rest rest_now written now first members old new a b ended end so_far =
      let has = has_status tells ended in
      as_so_far script rest rest_now written now now first members old new a (status_of ended) so_far (record {
        lines = so_far.lines;
        ends = λ told. has.ends script rest_now so_far.lines new.machine new.machine (lines_end IsLine GivesTable told_source script rest rest_now so_far.lines a b ended order so_far.read end told);
        are = subst (PlaysByFault (λ (text : List ℕ) (one : Played). Means text one.line) (IsUnwritten (stream_of told_sink written now))
            (λ (all : List Played). told_sink → now ≡ written ++ text_of all) so_far.lines so_far.played)
            has.fault
            (whole (λ (text : List ℕ) (one : Played). Means text one.line) (IsUnwritten (stream_of told_sink written now)) (λ (all : List Played). told_sink → now ≡ written ++ text_of all)
            told_source a b rest rest_now so_far.lines so_far.played ended end (so_far.are, so_far.text));
      })
      (has.leaves new.machine) has.no_flash

  -- the line that was read is none
  pub ends_bad : (script rest rest_now written now text : List ℕ) (first members : List L) (old new : PlayerState) (a b : Reading) (number column : ℕ)
      → IsNextLine told_source a b rest rest_now → number ≡ b.number → text ≡ b.line → BreaksAt IsLine text column → SoFar hearing told_source told_sink tells
      script rest written now first members old new a
      → PlaysScript hearing tells (stream_of told_source script rest_now) (stream_of told_sink written now) (stage_in old first) (stage_in new members) (BadLine number column)
  ends_bad script rest rest_now written now text first members old new a b number column next numbered same breaks so_far =
      as_so_far script rest rest_now written now now first members old new a (BadLine number column) so_far (record {
        lines = so_far.lines;
        ends = λ told. (
          ending.BadLine number column,
          refl,
          stops_here (IsBadFrom IsLine column) script rest rest_now written now first members old new a b number so_far next numbered
              (is_bad IsLine told_source a b rest rest_now text column next same breaks) told,
        );
        are = (so_far.are, so_far.text);
      })
      refl (λ e. absurd (cc e))

  -- its reply was refused by the sink
  pub ends_unwritten : (script rest rest_now written middle now : List ℕ) (first members members_now : List L) (old mid new : PlayerState) (a b : Reading) (line : ScriptLine)
      → SoFar hearing told_source told_sink tells script rest written middle first members old mid a → IsNextLine told_source a b rest rest_now →
      IsLineOf (λ (text : List ℕ). Means text line) (last_line b)
      → PlaysUnwritten hearing tells (stream_of told_sink middle now) (stage_in mid members) line (stage_in new members_now) → (tells → changes_of new.machine ≡ (changes_in new.machine))
      → PlaysScript hearing tells (stream_of told_source script rest_now) (stream_of told_sink written now) (stage_in old first) (stage_in new members_now) SinkFault
  ends_unwritten script rest rest_now written middle now first members members_now old mid new a b line so_far next is plays counts = record {
    played = so_far.played ++ played_as plays.made plays.said plays.blocks plays.steps new ∷ [];
    last = new;
    history = history_then script rest written middle first members old mid a so_far plays.made plays.said plays.blocks plays.steps new members_now plays.played plays.told;
    lines = record {
      lines = so_far.lines ++ last_line b ∷ [];
      ends = λ told. (ending.SinkFault, refl, ends_behind script so_far.lines (last_line b) b.number (order.stands script rest rest_now so_far.lines a b so_far.read next told));
      are = record {
        before = so_far.lines;
        line = last_line b;
        lines_are = refl;
        first = so_far.played;
        last = played_as plays.made plays.said plays.blocks plays.steps new;
        played_is = refl;
        are = so_far.are;
        made = record {
          within = is.within;
          is = record {
            line = line;
            means = is.is;
            before = plays.before;
            unwritten = plays.last;
            left = plays.left;
            wrote = λ told. subst (λ (bs : List ℕ). PartlyWritten plays.before plays.last bs now) (so_far.text told) (plays.text told);
          };
        };
      };
    };
    behind = refl;
    told = told_now script rest written middle first members old mid a so_far plays.made plays.said plays.blocks plays.steps new members_now plays.played plays.told;
    counted = λ told. AreCounted-push so_far.played (played_as plays.made plays.said plays.blocks plays.steps new) (so_far.counted told) (counts told);
    fault = λ e. absurd (cc e);
  }

  -- the flash failed in its restart
  pub ends_failed : (script rest rest_now written middle now : List ℕ) (first members members_now : List L) (old mid new : PlayerState) (a b : Reading) (line : ScriptLine) (stop : PlayStop)
      → SoFar hearing told_source told_sink tells script rest written middle first members old mid a → IsNextLine told_source a b rest rest_now →
      IsLineOf (λ (text : List ℕ). Means text line) (last_line b)
      → Stops tells mid line new stop → stop ≡ RestartFailed → members_now ≡ members → now ≡ middle
      → PlaysScript hearing tells (stream_of told_source script rest_now) (stream_of told_sink written now) (stage_in old first) (stage_in new members_now) FlashFault
  ends_failed script rest rest_now written middle now first members members_now old mid new a b line stop so_far next is stops why quiet said =
      stopped script rest rest_now written middle now first members members_now old mid new a FlashFault so_far (record {
        lines = so_far.lines;
        ends = λ told. (b.number, at told);
        are = (so_far.are, λ told. said ∙ so_far.text told);
      })
      (line, fails) quiet
      (λ e. subst (λ (m : MachineState). HasHappened tells mid.machine m × Rose mid.machine.device.store.flash.faults m.device.store.flash.faults) left (failed.2, failed.3))
    where
      failed : Stops tells mid line new RestartFailed
      failed = subst (Stops tells mid line new) why stops

      left : failed.0 ≡ new.machine
      left = sym (ap (λ (p : PlayerState). p.machine) failed.4)

      fails : FailsRestart tells mid.machine line new.machine
      fails = subst (FailsRestart tells mid.machine line) left failed.1

      at : told_source → StopsAt (IsLineOf (FailsInRestart tells mid.machine new.machine)) script so_far.lines b.number
      at = stops_here (IsLineOf (FailsInRestart tells mid.machine new.machine)) script rest rest_now written middle first members old mid a b b.number so_far next refl
          (record { within = is.within; is = (line, is.is, fails) })

  -- there was no memory for its table
  pub ends_memory : (script rest rest_now written middle now : List ℕ) (first members members_now : List L) (old mid new : PlayerState) (a b : Reading) (line : ScriptLine) (stop : PlayStop)
      → SoFar hearing told_source told_sink tells script rest written middle first members old mid a → IsNextLine told_source a b rest rest_now →
      IsLineOf (λ (text : List ℕ). Means text line) (last_line b)
      → Stops tells mid line new stop → stop ≡ NoMemory → members_now ≡ members → now ≡ middle
      → PlaysScript hearing tells (stream_of told_source script rest_now) (stream_of told_sink written now) (stage_in old first) (stage_in new members_now) Memory
  ends_memory script rest rest_now written middle now first members members_now old mid new a b line stop so_far next is stops why quiet said =
      let left : Stops tells mid line new NoMemory = subst (Stops tells mid line new) why stops in
      let at = stops_here (IsLineOf GivesTable) script rest rest_now written middle first members old mid a b b.number so_far next refl
      (record { within = is.within; is = (line, is.is, left.1) }) in
      stopped script rest rest_now written middle now first members members_now old mid new a Memory so_far (record {
        lines = so_far.lines;
        ends = λ told. (ending.Memory, refl, (b.number, at told));
        are = (so_far.are, λ told. said ∙ so_far.text told);
      })
      (ap (λ (p : PlayerState). p.machine) left.0) quiet (λ e. absurd (cc e))
