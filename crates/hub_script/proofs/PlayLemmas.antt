-- Lines that are played.
use Rattle.std.proofs.Common.{◌≡◌, ◌∙◌, ℕ, ◌+◌, ◌*◌, ◌<◌, ◌≤◌, inl, inr, Bool, true, false, List, [], ◌∷◌, ◌++◌, length, take, drop, get_or, map, refl, sym, ap}
use Rattle.std.proofs.Common.{subst, arith, append_assoc, cond, length-append}
use Rattle.std.specs.Prelude.{codes}
use Rattle.std.proofs.lemmas.List.{append-nil, take-append-drop, take_more, take_all, flat_map_more, length-take-le, get_or-take}
use Rattle.apei_notify.specs.Telling.{Hearing}
use Rattle.ghes_ack.specs.declared.events.Event.{Event}
use Rattle.ghes_ack.specs.declared.events.Event.TheVariants.{Idle, Took}
use Rattle.ghes_ack.specs.declared.events.Side.{Side}
use Rattle.ghes_hub.specs.Hubs.{HubState, HubTurns, Call, Turns, last_in, sources_in}
use Rattle.ghes_hub.specs.Runs.{takes, told_at}
use Rattle.hub_script.specs.HubGrammar.{Line, blank, comment, hest, error, turns, heard, removal}
use Rattle.hub_script.specs.HubText.{IsText, line_of}
use Rattle.hub_script.specs.declared.hub_line.HubLine.{HubLine}
use Rattle.hub_script.specs.declared.hub_line.HubLine.TheVariants.{Blank, Hest, Error, Turns as TurnsOf, Heard, Drop}
use Rattle.hub_script.specs.RefusalWords.{words_of_refusal}
use Rattle.hub_script.specs.declared.refusals.HubRefusal.TheVariants.{NoHub}
use Rattle.hub_script.specs.Replies.{refused, reply_line, text_of_replies, words_of_block, words_of_turns, word_of}
use Rattle.script_text.specs.Shown.{IsPartWritten}
use Rattle.script_lines.specs.Streams.{stream_of}
use Rattle.hub_script.specs.Stages.{HubStage, Waiting, Serving}
use Rattle.hub_script.specs.Plays.{Plays, source_of, AllNamed, Turned, NoTurn, OneMore, IsBlank, IsComment, AllTurned, NoHubForBlock, NoHubForTurns, NoHubToCount, NoHubToDrop}
use Rattle.script_text.specs.Turns.{side_of}
use Rattle.hub_script.specs.Lines.{PlaysLine, PlaysUnwritten, TextIs, IsLeft, AtLast, InBlock, IsTable}
use Rattle.hub_script.proofs.Terms.{GivesTable}
use Rattle.hub_script.specs.Made.{MakesReply}
use Rattle.script_text.proofs.ShownLemmas.{flat_map-append}

-- what is asked of a hub
abbrev pub asks_hub : Line → Bool
asks_hub blank = false
asks_hub (comment rest) = false
asks_hub (hest hex) = false
asks_hub (error source hex) = true
asks_hub (turns pairs) = true
asks_hub (heard source) = true
asks_hub (removal source at) = true

while_waiting : {L : Type 0} (hearing : L → Hearing) (listeners : List L) (line : Line) → asks_hub line ≡ true → Plays hearing (Waiting listeners) line
    (refused (words_of_refusal NoHub) ∷ []) [] (Waiting listeners)
while_waiting hearing listeners blank asks = absurd (cc asks)
while_waiting hearing listeners (comment rest) asks = absurd (cc asks)
while_waiting hearing listeners (hest hex) asks = absurd (cc asks)
while_waiting hearing listeners (error source hex) asks = NoHubForBlock
while_waiting hearing listeners (turns pairs) asks = NoHubForTurns
while_waiting hearing listeners (heard source) asks = NoHubToCount
while_waiting hearing listeners (removal source at) asks = NoHubToDrop

-- one reply is a text
one_text : (words : List ℕ) → text_of_replies (words ∷ []) ≡ reply_line words
one_text words = append-nil (reply_line words)

-- replies, and one more
more_text : (written : List ℕ) (said : List (List ℕ)) (words : List ℕ) → (written ++ text_of_replies said) ++ reply_line words ≡ written ++ text_of_replies (said ++ words ∷ [])
more_text written said words =
    append_assoc written (text_of_replies said) (reply_line words)
    ∙ ap (λ (xs : List ℕ). written ++ xs) (ap (λ (xs : List ℕ). text_of_replies said ++ xs) (sym (one_text words)) ∙ sym (flat_map-append reply_line said (words ∷ [])))

module _ {L : Type 0} (hearing : L → Hearing) (told_sink : Type 0) (old new : HubStage L) (line : Line) (written now : List ℕ) where
  -- a line of one reply, which was written
  pub one_played : (words : List ℕ) (calls : List Call) → Plays hearing old line (words ∷ []) calls new → (told_sink → now ≡ written ++ reply_line words) →
      PlaysLine hearing (stream_of told_sink written now) old line new
  one_played words calls plays text = record { said = words ∷ []; calls = calls; plays = plays; text = λ t. text t ∙ ap (λ (xs : List ℕ). written ++ xs) (sym (one_text words)) }

  -- and one which was written in part
  pub one_unwritten : (words : List ℕ) (calls : List Call) → Plays hearing old line (words ∷ []) calls new →
      (told_sink → IsPartWritten (reply_line words) written now) → PlaysUnwritten hearing (stream_of told_sink written now) old line new
  one_unwritten words calls plays text = record {
    made = line;
    said = words ∷ [];
    calls = calls;
    before = [];
    last = words;
    left = AtLast [] words;
    plays = plays;
    text = λ t. let part = text t in (part.0, part.1 ∙ ap (λ (xs : List ℕ). xs ++ take part.0 (reply_line words)) (sym (append-nil written)));
  }

  pub reply_played : (reply lent : List ℕ) → MakesReply hearing old line new reply → lent ≡ reply → (told_sink → now ≡ written ++ lent) →
      PlaysLine hearing (stream_of told_sink written now) old line new
  reply_played reply lent made same text = one_played made.words made.calls made.plays (λ t. text t ∙ ap (λ (xs : List ℕ). written ++ xs) (same ∙ made.text))

  pub reply_unwritten : (reply lent : List ℕ) → MakesReply hearing old line new reply → lent ≡ reply → (told_sink → (n : ℕ) × (now ≡ written ++ take n lent)) →
      PlaysUnwritten hearing (stream_of told_sink written now) old line new
  reply_unwritten reply lent made same text = one_unwritten made.words made.calls made.plays
      (λ t. let part = text t in (part.0, part.1 ∙ ap (λ (xs : List ℕ). written ++ take part.0 xs) (same ∙ made.text)))

-- a reply to a line for which there is no hub
pub no_hub : {L : Type 0} (hearing : L → Hearing) (listeners : List L) (line : Line) (reply : List ℕ) → asks_hub line ≡ true → reply ≡ reply_line (refused (words_of_refusal NoHub))
    → MakesReply hearing (Waiting listeners) line (Waiting listeners) reply
no_hub hearing listeners line reply asks is = record {
  words = refused (words_of_refusal NoHub);
  calls = [];
  plays = while_waiting hearing listeners line asks;
  text = is;
}

-- a turn that took a block has the event for it
pub took_is : (event : Event) → takes event ≡ true → event ≡ Took
took_is Took e = refl
took_is event e = absurd (cc e)

pub none_text : (event : Event) (source : ℕ) (last written : List ℕ) → takes event ≡ false → written ≡ written ++ text_of_replies (map (words_of_block source) (told_at event last))
none_text event source last written e =
    sym (append-nil written) ∙ ap (λ (b : Bool). written ++ text_of_replies (map (words_of_block source) (cond b (last ∷ []) []))) (sym e)

-- an event behind those before it
pub said_more : (event : Event) (events spaced now word : List ℕ) → spaced ≡ events ++ codes " " → now ≡ spaced ++ word → word ≡ word_of event → now ≡ events ++ (codes " " ++ word_of event)
said_more event events spaced now word one two is =
    two ∙ ap (λ (xs : List ℕ). xs ++ word) one ∙ ap (λ (xs : List ℕ). (events ++ codes " ") ++ xs) is ∙ append_assoc events (codes " ") (word_of event)

-- so it is a turn with that event
pub turn_took : {L : Type 0} (hearing : L → Hearing) (source : ℕ) (side : Side) (old new : HubState L) (event : Event) → takes event ≡ true
    → HubTurns hearing source side event old new → HubTurns hearing source side Took old new
turn_took hearing source side old new event took turned = subst (λ (e : Event). HubTurns hearing source side e old new) (took_is event took) turned

-- a turn was made, its event said behind those before it, and a block that it took shown
pub record TakesTurn {L : Type 0} (hearing : L → Hearing) (told_sink : Type 0) (source : ℕ) (side : Side) (old new : HubState L) (events events_now written written_now : List ℕ) : Type 0 where
  pub event : Event
  pub turned : HubTurns hearing source side event old new
  pub said : events_now ≡ events ++ (codes " " ++ word_of event)
  pub text : told_sink → written_now ≡ written ++ text_of_replies (map (words_of_block source) (told_at event (last_in new.sources source)))

-- the sink refused the line of the block
pub record TakesUnwritten {L : Type 0} (hearing : L → Hearing) (told_sink : Type 0) (source : ℕ) (side : Side) (old new : HubState L) (written written_now : List ℕ) : Type 0 where
  pub turned : HubTurns hearing source side Took old new
  pub text : told_sink → IsPartWritten (reply_line (words_of_block source (last_in new.sources source))) written written_now

-- turns so far: those of some pairs were made, their events are said, and the blocks that were taken are shown
pub record TurnedSoFar {L : Type 0} (hearing : L → Hearing) (told_sink : Type 0) (old new : HubState L) (pairs said_events written now : List ℕ) : Type 0 where
  pub calls : List Call
  pub events : List Event
  pub said : List (List ℕ)
  pub turned : Turned hearing old pairs calls events said new
  pub events_are : said_events ≡ words_of_turns events
  pub text : told_sink → now ≡ written ++ text_of_replies said

-- two more places of some pairs
two_more : (pairs : List ℕ) (at : ℕ) → 2 * at + 1 < length pairs → take (2 * (at + 1)) pairs ≡ take (2 * at) pairs ++ get_or pairs (2 * at) 0 ∷ get_or pairs (2 * at + 1) 0 ∷ []
two_more pairs at within =
    let n : 2 * (at + 1) ≡ 2 * at + 1 + 1 = omega arith in
    ap (λ (k : ℕ). take k pairs) n
    ∙ take_more pairs (2 * at + 1) 0 within
    ∙ ap (λ (xs : List ℕ). xs ++ get_or pairs (2 * at + 1) 0 ∷ []) (take_more pairs (2 * at) 0 (omega (arith, within)))
    ∙ append_assoc (take (2 * at) pairs) (get_or pairs (2 * at) 0 ∷ []) (get_or pairs (2 * at + 1) 0 ∷ [])

-- a beginning of pairs names sources
named_front : {L : Type 0} (hub : HubState L) (pairs : List ℕ) (k : ℕ) → k ≤ length pairs → AllNamed hub pairs → AllNamed hub (take k pairs)
named_front hub pairs k within named at there =
    let l = length-take-le k pairs within in
    let here = named at (omega (arith, there, l, within)) in
    subst (λ (c : ℕ). source_of c < sources_in hub) (sym (get_or-take k pairs (2 * at) 0 (omega (arith, there, l)))) here

module _ {L : Type 0} (hearing : L → Hearing) (told_sink : Type 0) where
  pub no_turn : (old : HubState L) (said_events written : List ℕ) → said_events ≡ codes "turns" → TurnedSoFar hearing told_sink old old [] said_events written written
  no_turn old said_events written is = record { calls = []; events = []; said = []; turned = NoTurn; events_are = is; text = λ t. sym (append-nil written) }

  -- one more turn, of the source and the side that its pair names
  more_turned : (old mid new : HubState L) (all : List ℕ) (at : ℕ) (said_events said_now written middle now : List ℕ) → 2 * at + 1 < length all
      → TurnedSoFar hearing told_sink old mid (take (2 * at) all) said_events written middle
      → TakesTurn hearing told_sink (source_of (get_or all (2 * at) 0)) (side_of (get_or all (2 * at + 1) 0)) mid new said_events said_now middle now
      → TurnedSoFar hearing told_sink old new (take (2 * (at + 1)) all) said_now written now
  more_turned old mid new all at said_events said_now written middle now within so turn =
      let digit = get_or all (2 * at) 0 in
      let letter = get_or all (2 * at + 1) 0 in
      let shown : List (List ℕ) = map (words_of_block (source_of digit)) (told_at turn.event (last_in new.sources (source_of digit))) in
      subst (λ (pairs : List ℕ). TurnedSoFar hearing told_sink old new pairs said_now written now) (sym (two_more all at within)) (record {
        calls = so.calls ++ Turns (source_of digit) (side_of letter) turn.event ∷ [];
        events = so.events ++ turn.event ∷ [];
        said = so.said ++ shown;
        turned = OneMore (take (2 * at) all) so.calls so.events so.said mid digit letter turn.event new so.turned turn.turned;
        events_are = turn.said ∙ ap (λ (xs : List ℕ). xs ++ (codes " " ++ word_of turn.event)) so.events_are ∙ flat_map_more
            (λ (event : Event). codes " " ++ word_of event) (codes "turns") so.events turn.event;
        text = λ t. turn.text t ∙ ap (λ (xs : List ℕ). xs ++ text_of_replies shown) (so.text t) ∙ append_assoc written (text_of_replies so.said) (text_of_replies shown)
            ∙ ap (λ (xs : List ℕ). written ++ xs) (sym (flat_map-append reply_line so.said shown));
      })

  pub turn_more : (old mid new : HubState L) (all : List ℕ) (at source : ℕ) (side : Side) (said_events said_now written middle now : List ℕ) → 2 * at + 1 < length all
      → source ≡ source_of (get_or all (2 * at) 0) → side ≡ side_of (get_or all (2 * at + 1) 0)
      → TurnedSoFar hearing told_sink old mid (take (2 * at) all) said_events written middle
      → TakesTurn hearing told_sink source side mid new said_events said_now middle now
      → TurnedSoFar hearing told_sink old new (take (2 * (at + 1)) all) said_now written now
  turn_more old mid new all at source side said_events said_now written middle now within of_source of_side so turn =
      more_turned old mid new all at said_events said_now written middle now within so
      (subst (λ (i : ℕ). TakesTurn hearing told_sink i (side_of (get_or all (2 * at + 1) 0)) mid new said_events said_now middle now) of_source
      (subst (λ (s : Side). TakesTurn hearing told_sink source s mid new said_events said_now middle now) of_side turn))

  -- the sink refused the line of a block
  cut_turned : (old mid new : HubState L) (all : List ℕ) (at : ℕ) (said_events written middle now : List ℕ) → 2 * at + 1 < length all → AllNamed old all
      → TurnedSoFar hearing told_sink old mid (take (2 * at) all) said_events written middle
      → TakesUnwritten hearing told_sink (source_of (get_or all (2 * at) 0)) (side_of (get_or all (2 * at + 1) 0)) mid new middle now
      → PlaysUnwritten hearing (stream_of told_sink written now) (Serving old) (turns all) (Serving new)
  cut_turned old mid new all at said_events written middle now within named so turn =
      let digit = get_or all (2 * at) 0 in
      let letter = get_or all (2 * at + 1) 0 in
      let front = take (2 * (at + 1)) all in
      let block = words_of_block (source_of digit) (last_in new.sources (source_of digit)) in
      let events = so.events ++ Took ∷ [] in
      let whole : front ++ drop (2 * (at + 1)) all ≡ all = take-append-drop (2 * (at + 1)) all in
      let made : Turned hearing old front (so.calls ++ Turns (source_of digit) (side_of letter) Took ∷ []) events (so.said ++ block ∷ []) new =
      subst (λ (pairs : List ℕ). Turned hearing old pairs (so.calls ++ Turns (source_of digit) (side_of letter) Took ∷ []) events (so.said ++ block ∷ []) new) (sym (two_more all at within))
      (OneMore (take (2 * at) all) so.calls so.events so.said mid digit letter Took new so.turned turn.turned) in
      record {
        made = turns front;
        said = (so.said ++ block ∷ []) ++ words_of_turns events ∷ [];
        calls = so.calls ++ Turns (source_of digit) (side_of letter) Took ∷ [];
        before = so.said;
        last = block;
        left = subst (λ (xs : List ℕ). IsLeft (Serving old) (turns xs) (turns front) ((so.said ++ block ∷ []) ++ words_of_turns events ∷ []) so.said block) whole
            (subst (λ (xs : List (List ℕ)). IsLeft (Serving old) (turns (front ++ drop (2 * (at + 1)) all)) (turns front) xs so.said block)
            (sym (append_assoc so.said (block ∷ []) (words_of_turns events ∷ [])))
            (InBlock front (drop (2 * (at + 1)) all) so.events so.said block (subst (AllNamed old) (sym whole) named)));
        plays = AllTurned (so.calls ++ Turns (source_of digit) (side_of letter) Took ∷ []) events (so.said ++ block ∷ []) new (named_front old all (2 * (at + 1)) (omega (arith, within)) named) made;
        text = λ t. let part = turn.text t in (part.0, part.1 ∙ ap (λ (xs : List ℕ). xs ++ take part.0 (reply_line block)) (so.text t));
      }

  pub turn_cut : (old mid new : HubState L) (all : List ℕ) (at source : ℕ) (side : Side) (said_events written middle now : List ℕ) → 2 * at + 1 < length all → AllNamed old all
      → source ≡ source_of (get_or all (2 * at) 0) → side ≡ side_of (get_or all (2 * at + 1) 0)
      → TurnedSoFar hearing told_sink old mid (take (2 * at) all) said_events written middle
      → TakesUnwritten hearing told_sink source side mid new middle now
      → PlaysUnwritten hearing (stream_of told_sink written now) (Serving old) (turns all) (Serving new)
  turn_cut old mid new all at source side said_events written middle now within named of_source of_side so turn =
      cut_turned old mid new all at said_events written middle now within named so
      (subst (λ (i : ℕ). TakesUnwritten hearing told_sink i (side_of (get_or all (2 * at + 1) 0)) mid new middle now) of_source
      (subst (λ (s : Side). TakesUnwritten hearing told_sink source s mid new middle now) of_side turn))

  -- all turns
  of_all : (old new : HubState L) (all : List ℕ) (at : ℕ) (said_events written now : List ℕ) → length all ≤ 2 * at → TurnedSoFar hearing told_sink old new (take (2 * at) all) said_events written now
      → TurnedSoFar hearing told_sink old new all said_events written now
  of_all old new all at said_events written now end so = subst (λ (xs : List ℕ). TurnedSoFar hearing told_sink old new xs said_events written now) (take_all (2 * at) all end) so

  pub all_turned : (old new : HubState L) (all : List ℕ) (at : ℕ) (said_events written middle now : List ℕ) → length all ≤ 2 * at → AllNamed old all →
      TurnedSoFar hearing told_sink old new (take (2 * at) all) said_events written middle
      → (told_sink → now ≡ middle ++ reply_line said_events) → PlaysLine hearing (stream_of told_sink written now) (Serving old) (turns all) (Serving new)
  all_turned old new all at said_events written middle now end named some text =
      let so = of_all old new all at said_events written middle end some in
      record {
        said = so.said ++ words_of_turns so.events ∷ [];
        calls = so.calls;
        plays = AllTurned so.calls so.events so.said new named so.turned;
        text = λ t. text t ∙ ap (λ (xs : List ℕ). middle ++ reply_line xs) so.events_are ∙ ap (λ (xs : List ℕ). xs ++ reply_line (words_of_turns so.events)) (so.text t)
            ∙ more_text written so.said (words_of_turns so.events);
      }

  -- and a part of the reply behind them
  pub all_unwritten : (old new : HubState L) (all : List ℕ) (at : ℕ) (said_events written middle now : List ℕ) → length all ≤ 2 * at → AllNamed old all →
      TurnedSoFar hearing told_sink old new (take (2 * at) all) said_events written middle
      → (told_sink → IsPartWritten (reply_line said_events) middle now) → PlaysUnwritten hearing (stream_of told_sink written now) (Serving old) (turns all) (Serving new)
  all_unwritten old new all at said_events written middle now end named some text =
      let so = of_all old new all at said_events written middle end some in
      record {
        made = turns all;
        said = so.said ++ words_of_turns so.events ∷ [];
        calls = so.calls;
        before = so.said;
        last = words_of_turns so.events;
        left = AtLast so.said (words_of_turns so.events);
        plays = AllTurned so.calls so.events so.said new named so.turned;
        text = λ t. let part = text t in (
          part.0,
          part.1 ∙ ap (λ (xs : List ℕ). middle ++ take part.0 (reply_line xs)) so.events_are ∙ ap (λ (xs : List ℕ). xs ++ take part.0 (reply_line (words_of_turns so.events))) (so.text t),
        );
      }

-- what was lent to the sink is the reply with the end of its line
pub lent_text : (told_sink : Type 0) (written now lent words : List ℕ) {reply : List ℕ} → lent ≡ reply → reply ≡ reply_line words →
    (told_sink → now ≡ written ++ lent) → told_sink → now ≡ written ++ reply_line words
lent_text told_sink written now lent words same is text t = text t ∙ ap (λ (xs : List ℕ). written ++ xs) (same ∙ is)

pub lent_part : (told_sink : Type 0) (written now lent words : List ℕ) {reply : List ℕ} → lent ≡ reply → reply ≡ reply_line words →
    (told_sink → (n : ℕ) × (now ≡ written ++ take n lent)) → told_sink → IsPartWritten (reply_line words) written now
lent_part told_sink written now lent words same is text t = let part = text t in (part.0, part.1 ∙ ap (λ (xs : List ℕ). written ++ take part.0 xs) (same ∙ is))

word_short : (event : Event) → length (word_of event) ≤ 7
word_short Idle = omega arith
word_short event = omega arith

-- one event more has at most eight bytes
pub said_longer : (event : Event) (events now : List ℕ) (at : ℕ) → now ≡ events ++ (codes " " ++ word_of event) → length events ≤ 5 + 8 * at → length now ≤ 5 + 8 * (at + 1)
said_longer event events now at is short =
    let w = word_short event in
    let n = ap length is ∙ length-append events (codes " " ++ word_of event) in
    let m = length-append (codes " ") (word_of event) in
    let one : length (codes " ") ≡ 1 = refl in
    omega (arith, w, n, m, one, short)

-- the source of a pair is there
pub is_named : {L : Type 0} (first now : HubState L) (pairs : List ℕ) (at source : ℕ) → AllNamed first pairs → 2 * at < length pairs →
    source ≡ source_of (get_or pairs (2 * at) 0) → sources_in now ≡ sources_in first → source < sources_in now
is_named first now pairs at source named within is count = let here = named at within in omega (arith, here, is, count)

-- a blank line says nothing
pub blank_played : {L : Type 0} (hearing : L → Hearing) (told_sink : Type 0) (stage : HubStage L) (written : List ℕ) → PlaysLine hearing (stream_of told_sink written written) stage blank stage
blank_played hearing told_sink stage written = record { said = []; calls = []; plays = IsBlank; text = λ t. sym (append-nil written) }

-- a comment is played as a blank line
as_comment : {L : Type 0} (hearing : L → Hearing) (old : HubStage L) (said : List (List ℕ)) (calls : List Call) (new : HubStage L) (rest : List ℕ) →
    Plays hearing old blank said calls new → Plays hearing old (comment rest) said calls new
as_comment hearing old said calls new rest IsBlank = IsComment

-- the line that a text is, a comment where it is one
pub text_is : {L : Type 0} (hearing : L → Hearing) (told_sink : Type 0) (old new : HubStage L) (written now text : List ℕ) (line : HubLine) → IsText text line →
    PlaysLine hearing (stream_of told_sink written now) old (line_of line) new
    → TextIs text (λ asked. PlaysLine hearing (stream_of told_sink written now) old asked new)
text_is hearing told_sink old new written now text Blank (inl is) plays = record { line = blank; written = is; made = plays }
text_is hearing told_sink old new written now text Blank (inr (rest, is)) plays = record {
  line = comment rest;
  written = is;
  made =
      record { said = plays.said; calls = plays.calls; plays = as_comment hearing old plays.said plays.calls new rest plays.plays; text = plays.text };
}
text_is hearing told_sink old new written now text (Hest hex) is plays = record { line = hest hex.now; written = is; made = plays }
text_is hearing told_sink old new written now text (Error source hex) is plays = record { line = error source hex.now; written = is; made = plays }
text_is hearing told_sink old new written now text (TurnsOf pairs) is plays = record { line = turns pairs.now; written = is; made = plays }
text_is hearing told_sink old new written now text (Heard source) is plays = record { line = heard source; written = is; made = plays }
text_is hearing told_sink old new written now text (Drop source at) is plays = record { line = removal source at; written = is; made = plays }

-- a blank line has no reply that the sink refuses
none_said : {L : Type 0} (hearing : L → Hearing) (old : HubStage L) (said : List (List ℕ)) (calls : List Call) (new : HubStage L) → Plays hearing old blank said calls new → said ≡ []
none_said hearing old said calls new IsBlank = refl

none_left : {L : Type 0} (hearing : L → Hearing) (old : HubStage L) (made : Line) (said before : List (List ℕ)) (last : List ℕ) (calls : List Call)
    (new : HubStage L) → IsLeft old blank made said before last → Plays hearing old made said calls new → ⊥
none_left hearing old made said before last calls new (AtLast some end) plays =
    let none = ap length (none_said hearing old _ calls new plays) in
    let more = length-append some (end ∷ []) in
    omega (arith, none, more)

pub text_unwritten : {L : Type 0} (hearing : L → Hearing) (told_sink : Type 0) (old new : HubStage L) (written now text : List ℕ) (line : HubLine) →
    IsText text line → PlaysUnwritten hearing (stream_of told_sink written now) old (line_of line) new
    → TextIs text (λ asked. PlaysUnwritten hearing (stream_of told_sink written now) old asked new)
text_unwritten hearing told_sink old new written now text Blank is plays = absurd (none_left hearing old plays.made plays.said plays.before plays.last plays.calls new plays.left plays.plays)
text_unwritten hearing told_sink old new written now text (Hest hex) is plays = record { line = hest hex.now; written = is; made = plays }
text_unwritten hearing told_sink old new written now text (Error source hex) is plays = record { line = error source hex.now; written = is; made = plays }
text_unwritten hearing told_sink old new written now text (TurnsOf pairs) is plays = record { line = turns pairs.now; written = is; made = plays }
text_unwritten hearing told_sink old new written now text (Heard source) is plays = record { line = heard source; written = is; made = plays }
text_unwritten hearing told_sink old new written now text (Drop source at) is plays = record { line = removal source at; written = is; made = plays }

-- and its table, where it gives one
pub gives_table : (text : List ℕ) (line : HubLine) → IsText text line → IsTable line → GivesTable text
gives_table text Blank is table = absurd table
gives_table text (Hest hex) is table = (hex.now, is, table)
gives_table text (Error source hex) is table = absurd table
gives_table text (TurnsOf pairs) is table = absurd table
gives_table text (Heard source) is table = absurd table
gives_table text (Drop source at) is table = absurd table
