-- Lines of one reply, by whether there is a hub.
use Rattle.std.proofs.Common.{◌≡◌, ◌∙◌, ℕ, zero, suc, ◌-◌, ◌*◌, ◌^◌, ◌<◌, ◌≤◌, min, true, false, List, [], ◌∷◌, ◌++◌, length, take, Option, Some, None, is_some, Ok, Vec, refl, sym, ap, subst, arith}
use Rattle.std.specs.Prelude.{IfSome, slice_get, codes, decimal, get_or}
use Rattle.std.specs.declared.alloc.Global.{Global}
use Rattle.std.specs.declared.dyn_box.DynBox.{DynBox}
use Rattle.std.proofs.lemmas.List.{length-take, take_min, length-map}
use Rattle.hex.specs.Hex.{decode_of}
use Rattle.apei_notify.specs.Chains.{members_of}
use Rattle.apei_notify.specs.Telling.{Hearing, counts_of}
use Rattle.hest_sources.specs.declared.sources.HestSource.{HestSource}
use Rattle.hest_sources.specs.declared.tables.HestError.{HestError}
use Rattle.hest_sources.specs.declared.tables.HestError.TheVariants as table_error
use Rattle.hest_sources.specs.Tables.{IsHest, refusal, IsRefusal as IsTableRefusal}
use Rattle.ghes_ack.specs.declared.submission.SubmitError.{SubmitError}
use Rattle.ghes_hub.specs.declared.errors.HubError.{HubError}
use Rattle.ghes_hub.specs.declared.errors.HubError.TheVariants as hub_error
use Rattle.ghes_hub.specs.declared.hub.Hub.{Hub}
use Rattle.ghes_hub.specs.declared.source.Source.{Source}
use Rattle.ghes_hub.specs.Hubs.{HubState, HubSubmits, HubRemoves, Submits, Removes, sources_in}
use Rattle.ghes_hub.specs.OneSource.{refusal_of, waiting_of}
use Rattle.ghes_hub.specs.Opens.{IsOpened}
use Rattle.ghes_hub.specs.Refusals.{hub_refusal, IsRefusal}
use Rattle.ghes_hub.specs.Seen.{seen}
use Rattle.script_text.specs.TableWords.{HestHasWords}
use Rattle.hub_script.specs.HubGrammar.{Line, hest, error, turns, heard, removal}
use Rattle.hub_script.specs.RefusalWords.{words_of_refusal, HubHasWords}
use Rattle.hub_script.specs.declared.refusals.HubRefusal.TheVariants.{Open, Table, NoHub, Nobody, Submit}
use Rattle.hub_script.specs.declared.refusals.HubRefusal.TheVariants as why_not
use Rattle.hub_script.specs.Replies.{refused, reply_line, words_of_heard}
use Rattle.hub_script.proofs.Terms.{words_of_opened, words_of_queued}
use Rattle.script_lines.specs.Streams.{stream_of}
use Rattle.hub_script.specs.Stages.{HubStage, Waiting, Serving, stage_in}
use Rattle.hub_script.specs.Plays.{Plays, listed, NoTable, NoOpening, Opened, IsOpenAlready, NoSource, NotTaken, Queued, NotNamed, NoneToCount, Counted, NoneToDrop, NoListener, Dropped, source_of}
use Rattle.hub_script.specs.Made.{MakesReply, OpensFor, NotOpened, IsOpen}
use Rattle.script_text.specs.Shown.{IsPartWritten}
use Rattle.hub_script.specs.Lines.{PlaysLine, PlaysUnwritten}
use Rattle.hub_script.proofs.PlayLemmas.{asks_hub, no_hub, one_played, one_unwritten, reply_played, reply_unwritten}

pub some_at : {X : Type 0} (xs : List X) (i : ℕ) → i < length xs → (x : X) × (slice_get xs i ≡ Some x)
some_at [] i within = absurd (omega (arith, within))
some_at (x ∷ xs) zero within = (x, refl)
some_at (x ∷ xs) (suc i) within = some_at xs i (omega (arith, within))

take_count : {X : Type 0} (k n : ℕ) (xs : List X) → n ≡ min (length xs) k → length (take k xs) ≡ n
take_count k n xs is = let l = length-take k xs in omega (arith, l, is)

-- the listeners that a hub counts
pub listed_count : {X : Type 0} (members : List X) (n : ℕ) → n ≡ min (length members) (2 ^ 32 - 1) → length (listed members) ≡ n
unfolding listed
listed_count members n is = take_count (2 ^ 32 - 1) n members is

taken_is : {X : Type 0} (k n : ℕ) (xs : List X) → n ≡ min (length xs) k → take n xs ≡ take k xs
taken_is k n xs is = ap (λ (m : ℕ). take m xs) (is ∙ swapped (length xs) k) ∙ take_min k xs
  where
    swapped : (a b : ℕ) → min a b ≡ min b a
    swapped a b = omega arith

pub listed_is : {X : Type 0} (members : List X) (n : ℕ) → n ≡ min (length members) (2 ^ 32 - 1) → take n members ≡ listed members
unfolding listed
listed_is members n is = taken_is (2 ^ 32 - 1) n members is

-- a number from a call, as another type has it
pub not_below : (a b n k : ℕ) → a ≡ b → b ≡ n → a ≤ k → n ≤ k
not_below a b n k one other h = omega (arith, one, other, h)

pub is_below : (a b n k : ℕ) → a ≡ b → b ≡ n → k < a → k < n
is_below a b n k one other h = omega (arith, one, other, h)

-- without a hub the listeners wait
pub still_waiting : {X : Type 0} {H : X → Type 0} (hub : Option (Hub X H)) (listeners : List (DynBox X Global H)) → hub ≡ None
    → (waiting : List (DynBox X Global H)) × (stage_in hub listeners ≡ Waiting waiting)
still_waiting {X} {H} hub listeners none = (listeners, ap (λ (o : Option (Hub X H)). stage_in o listeners) none)

-- the bytes of a line, lent
pub as_lent : (hex bytes lent : List ℕ) (len : ℕ) → decode_of hex ≡ Ok (take len bytes) → lent ≡ bytes → decode_of hex ≡ Ok (take len lent)
as_lent hex bytes lent len decoded same = subst (λ (xs : List ℕ). decode_of hex ≡ Ok (take len xs)) (sym same) decoded

-- what is said of what is there
pub if_some : {X : Type 0} (o : Option X) (x : X) (P : X → Type 0) → o ≡ Some x → IfSome o P → P x
if_some {X} o x P is holds = subst (λ (v : Option X). IfSome v P) is holds

-- a reason that is not want of memory
pub table_refused : (bytes : List ℕ) (why : HestError) → HestHasWords why → IsTableRefusal bytes why → refusal bytes ≡ Some why
table_refused bytes (table_error.Table fault) has is = is
table_refused bytes (table_error.UnknownType at code) has is = is
table_refused bytes (table_error.Cut at) has is = is
table_refused bytes (table_error.Count declared found) has is = is
table_refused bytes table_error.Memory has is = absurd has

pub hub_refused : (table : List HestSource) (why : HubError) → HubHasWords why → IsRefusal table why → hub_refusal table ≡ Some why
hub_refused table hub_error.NoSource has is = is
hub_refused table (hub_error.Many found) has is = is
hub_refused table (hub_error.BlockLen i len) has is = is
hub_refused table (hub_error.Status i) has is = is
hub_refused table (hub_error.Ack i) has is = is
hub_refused table (hub_error.Clash i) has is = is
hub_refused table hub_error.Memory has is = absurd has

-- a hub has a list of listeners for each source
pub hub_chains : {X : Type 0} {H : X → Type 0} (hub : Hub X H) → length (seen hub).chains ≡ sources_in (seen hub)
hub_chains hub = length-map hub.chains.items members_of ∙ hub.one_each

pub none_is : {X : Type 0} (o : Option X) → is_some o ≡ false → o ≡ None
none_is None e = refl
none_is (Some x) e = absurd (cc e)

-- a line is refused
refuses : {L : Type 0} (hearing : L → Hearing) (stage : HubStage L) (line : Line) (words reply : List ℕ) → Plays hearing stage line (words ∷ []) [] stage →
    reply ≡ reply_line words → MakesReply hearing stage line stage reply
refuses hearing stage line words reply plays is = record { words = words; calls = []; plays = plays; text = is }

module _ {X : Type 0} {H : X → Type 0} (hearing : DynBox X Global H → Hearing) (listeners : List (DynBox X Global H)) where
  pub refused_open : (hub : Option (Hub X H)) (hex reply : List ℕ) → is_some hub ≡ true → reply ≡ reply_line (refused (words_of_refusal Open))
      → MakesReply hearing (stage_in hub listeners) (hest hex) (stage_in hub listeners) reply
  refused_open None hex reply some is = absurd (cc some)
  refused_open (Some hub) hex reply some is = refuses hearing (Serving (seen hub)) (hest hex) (refused (words_of_refusal Open)) reply IsOpenAlready is

  pub refused_waiting : (hub : Option (Hub X H)) (line : Line) (reply : List ℕ) → hub ≡ None → asks_hub line ≡ true → reply ≡ reply_line (refused (words_of_refusal NoHub))
      → MakesReply hearing (stage_in hub listeners) line (stage_in hub listeners) reply
  refused_waiting None line reply none asks is = no_hub hearing listeners line reply asks is
  refused_waiting (Some hub) line reply none asks is = absurd (cc none)

  -- the refusal was written, or a part of it
  module _ (told_sink : Type 0) (hub : Option (Hub X H)) (line : Line) (written now : List ℕ) (none : hub ≡ None) (asks : asks_hub line ≡ true) where
    refusal_made : MakesReply hearing (stage_in hub listeners) line (stage_in hub listeners) (reply_line (refused (words_of_refusal NoHub)))
    refusal_made = refused_waiting hub line (reply_line (refused (words_of_refusal NoHub))) none asks refl

    pub waiting_played : (told_sink → now ≡ written ++ reply_line (refused (words_of_refusal NoHub))) → PlaysLine hearing (stream_of told_sink written now)
        (stage_in hub listeners) line (stage_in hub listeners)
    waiting_played text = reply_played hearing told_sink (stage_in hub listeners) (stage_in hub listeners) line written now _ _ refusal_made refl text

    pub waiting_unwritten : (told_sink → IsPartWritten (reply_line (refused (words_of_refusal NoHub))) written now) →
        PlaysUnwritten hearing (stream_of told_sink written now) (stage_in hub listeners) line (stage_in hub listeners)
    waiting_unwritten text = reply_unwritten hearing told_sink (stage_in hub listeners) (stage_in hub listeners) line written now _ _ refusal_made refl text

  -- the stage of a hub that is there
  pub at_hub : (old : Option (Hub X H)) (hub : Hub X H) (line : Line) (new : HubStage (DynBox X Global H)) (reply : List ℕ) → old ≡ Some hub → MakesReply hearing (Serving (seen hub)) line new reply
      → MakesReply hearing (stage_in old listeners) line new reply
  at_hub old hub line new reply is made = subst (λ (o : Option (Hub X H)). MakesReply hearing (stage_in o listeners) line new reply) (sym is) made

  pub at_none : (old : Option (Hub X H)) (line : Line) (new : HubStage (DynBox X Global H)) (reply : List ℕ) → old ≡ None → MakesReply hearing (Waiting listeners) line new reply
      → MakesReply hearing (stage_in old listeners) line new reply
  at_none old line new reply none made = subst (λ (o : Option (Hub X H)). MakesReply hearing (stage_in o listeners) line new reply) (sym none) made

  pub still_none : (old : Option (Hub X H)) (line : Line) (reply : List ℕ) → old ≡ None → MakesReply hearing (Waiting listeners) line (Waiting listeners) reply
      → MakesReply hearing (stage_in old listeners) line (stage_in old listeners) reply
  still_none old line reply none made = subst (λ (o : Option (Hub X H)). MakesReply hearing (stage_in o listeners) line (stage_in o listeners) reply) (sym none) made

  pub still_there : (old : Option (Hub X H)) (hub : Hub X H) (line : Line) (reply : List ℕ) → old ≡ Some hub → MakesReply hearing (Serving (seen hub)) line (Serving (seen hub)) reply
      → MakesReply hearing (stage_in old listeners) line (stage_in old listeners) reply
  still_there old hub line reply is made = subst (λ (o : Option (Hub X H)). MakesReply hearing (stage_in o listeners) line (stage_in o listeners) reply) (sym is) made

  -- a line that was played on a hub that is there
  module _ (told_sink : Type 0) (old : Option (Hub X H)) (hub : Hub X H) (is : old ≡ Some hub) (line : Line) (new : HubStage (DynBox X Global H)) (written now : List ℕ) where
    pub line_at_hub : PlaysLine hearing (stream_of told_sink written now) (Serving (seen hub)) line new → PlaysLine hearing (stream_of told_sink written now) (stage_in old listeners) line new
    line_at_hub plays = subst (λ (o : Option (Hub X H)). PlaysLine hearing (stream_of told_sink written now) (stage_in o listeners) line new) (sym is) plays

    pub unwritten_at_hub : PlaysUnwritten hearing (stream_of told_sink written now) (Serving (seen hub)) line new →
        PlaysUnwritten hearing (stream_of told_sink written now) (stage_in old listeners) line new
    unwritten_at_hub plays = subst (λ (o : Option (Hub X H)). PlaysUnwritten hearing (stream_of told_sink written now) (stage_in o listeners) line new) (sym is) plays

  -- and that left it as it was
  module _ (told_sink : Type 0) (old : Option (Hub X H)) (hub : Hub X H) (is : old ≡ Some hub) (source : ℕ) (within : source < sources_in (seen hub)) (written now : List ℕ) where
    there : (members : List (DynBox X Global H)) × (slice_get (seen hub).chains source ≡ Some members)
    there = some_at (seen hub).chains source (subst (λ (k : ℕ). source < k) (sym (hub_chains hub)) within)

    pub counted : IfSome (slice_get (seen hub).chains source) (λ members. told_sink → now ≡ written ++ reply_line (words_of_heard (counts_of hearing (listed members))))
        → PlaysLine hearing (stream_of told_sink written now) (stage_in old listeners) (heard source) (stage_in old listeners)
    counted text = subst (λ (o : Option (Hub X H)). PlaysLine hearing (stream_of told_sink written now) (stage_in o listeners) (heard source) (stage_in o listeners)) (sym is)
        (one_played hearing told_sink (Serving (seen hub)) (Serving (seen hub)) (heard source) written now (words_of_heard (counts_of hearing (listed there.0))) [] (Counted there.0 within there.1)
        (if_some (slice_get (seen hub).chains source) there.0 (λ (members : List (DynBox X Global H)). told_sink →
        now ≡ written ++ reply_line (words_of_heard (counts_of hearing (listed members)))) there.1 text))

    pub counted_unwritten : IfSome (slice_get (seen hub).chains source) (λ members. told_sink → IsPartWritten (reply_line (words_of_heard (counts_of hearing (listed members)))) written now)
        → PlaysUnwritten hearing (stream_of told_sink written now) (stage_in old listeners) (heard source) (stage_in old listeners)
    counted_unwritten text = subst (λ (o : Option (Hub X H)). PlaysUnwritten hearing (stream_of told_sink written now) (stage_in o listeners) (heard source) (stage_in o listeners)) (sym is)
        (one_unwritten hearing told_sink (Serving (seen hub)) (Serving (seen hub)) (heard source) written now (words_of_heard (counts_of hearing (listed there.0))) [] (Counted there.0 within there.1)
        (if_some (slice_get (seen hub).chains source) there.0 (λ (members : List (DynBox X Global H)). told_sink →
        IsPartWritten (reply_line (words_of_heard (counts_of hearing (listed members)))) written now) there.1 text))

module _ {L : Type 0} (hearing : L → Hearing) (hub : HubState L) where
  pub nobody_given : (source : ℕ) (hex reply : List ℕ) → sources_in hub ≤ source → reply ≡ reply_line (refused (words_of_refusal Nobody)) →
      MakesReply hearing (Serving hub) (error source hex) (Serving hub) reply
  nobody_given source hex reply none is = refuses hearing (Serving hub) (error source hex) (refused (words_of_refusal Nobody)) reply (NoSource none) is

  pub not_taken : (new : HubState L) (source : ℕ) (hex block reply : List ℕ) (why : SubmitError) → new ≡ hub → source < sources_in hub →
      decode_of hex ≡ Ok block → IfSome (slice_get hub.sources.list source) (λ handover. refusal_of handover block ≡ Some why)
      → reply ≡ reply_line (refused (words_of_refusal (Submit why))) → MakesReply hearing (Serving hub) (error source hex) (Serving new) reply
  not_taken new source hex block reply why same within decoded refusal is =
      let at = some_at hub.sources.list source within in
      subst (λ (h : HubState L). MakesReply hearing (Serving hub) (error source hex) (Serving h) reply) (sym same)
      (refuses hearing (Serving hub) (error source hex) (refused (words_of_refusal (Submit why))) reply
      (NotTaken block at.0 why within decoded at.1 (if_some (slice_get hub.sources.list source) at.0 (λ (handover : Source). refusal_of handover block ≡ Some why) at.1 refusal)) is)

  pub queued : (new : HubState L) (source n : ℕ) (hex block reply : List ℕ) → source < sources_in hub → decode_of hex ≡ Ok block →
      IfSome (slice_get hub.sources.list source) (λ handover. refusal_of handover block ≡ None)
      → HubSubmits source block hub new → IfSome (slice_get new.sources.list source) (λ handover. n ≡ length (waiting_of handover)) → reply ≡ reply_line (words_of_queued n)
      → MakesReply hearing (Serving hub) (error source hex) (Serving new) reply
  queued new source n hex block reply within decoded taken submits number is =
      let at = some_at hub.sources.list source within in
      let count = submits.count in
      let then = some_at new.sources.list source (omega (arith, within, count)) in
      record {
        words = words_of_queued (length (waiting_of then.0));
        calls = Submits source block ∷ [];
        plays = Queued block at.0 then.0 new within decoded at.1 (if_some (slice_get hub.sources.list source) at.0 (λ (handover : Source). refusal_of handover block ≡ None) at.1 taken) submits then.1;
        text = is ∙ ap (λ (k : ℕ). reply_line (words_of_queued k)) (if_some (slice_get new.sources.list source) then.0 (λ (handover : Source). n ≡ length (waiting_of handover)) then.1 number);
      }

  pub nobody_turned : (pairs reply : List ℕ) (at : ℕ) → 2 * at < length pairs → sources_in hub ≤ source_of (get_or pairs (2 * at) 0) →
      reply ≡ reply_line (refused (words_of_refusal Nobody)) → MakesReply hearing (Serving hub) (turns pairs) (Serving hub) reply
  nobody_turned pairs reply at within none is = refuses hearing (Serving hub) (turns pairs) (refused (words_of_refusal Nobody)) reply (NotNamed at within none) is

  pub nobody_heard : (source : ℕ) (reply : List ℕ) → sources_in hub ≤ source → reply ≡ reply_line (refused (words_of_refusal Nobody)) →
      MakesReply hearing (Serving hub) (heard source) (Serving hub) reply
  nobody_heard source reply none is = refuses hearing (Serving hub) (heard source) (refused (words_of_refusal Nobody)) reply (NoneToCount none) is

  pub nobody_dropped : (source at : ℕ) (reply : List ℕ) → sources_in hub ≤ source → reply ≡ reply_line (refused (words_of_refusal Nobody)) →
      MakesReply hearing (Serving hub) (removal source at) (Serving hub) reply
  nobody_dropped source at reply none is = refuses hearing (Serving hub) (removal source at) (refused (words_of_refusal Nobody)) reply (NoneToDrop none) is

  pub no_listener : (source at n : ℕ) (reply : List ℕ) → length hub.chains ≡ sources_in hub → source < sources_in hub → IfSome (slice_get hub.chains source)
      (λ members. n ≡ min (length members) (2 ^ 32 - 1)) → n ≤ at
      → reply ≡ reply_line (refused (words_of_refusal Nobody)) → MakesReply hearing (Serving hub) (removal source at) (Serving hub) reply
  no_listener source at n reply one_each within count few is =
      let there = some_at hub.chains source (subst (λ (k : ℕ). source < k) (sym one_each) within) in
      let n_is = listed_count there.0 n (if_some (slice_get hub.chains source) there.0 (λ (members : List L). n ≡ min (length members) (2 ^ 32 - 1)) there.1 count) in
      refuses hearing (Serving hub) (removal source at) (refused (words_of_refusal Nobody)) reply (NoListener there.0 within there.1 (subst (λ (k : ℕ). k ≤ at) (sym n_is) few)) is

  pub dropped : (new : HubState L) (source at n : ℕ) (reply : List ℕ) → length hub.chains ≡ sources_in hub → source < sources_in hub →
      IfSome (slice_get hub.chains source) (λ members. n ≡ min (length members) (2 ^ 32 - 1)) → at < n
      → HubRemoves source at hub new → reply ≡ reply_line (codes "dropped " ++ decimal source ++ codes " " ++ decimal at) → MakesReply hearing (Serving hub) (removal source at) (Serving new) reply
  dropped new source at n reply one_each within count some removes is =
      let there = some_at hub.chains source (subst (λ (k : ℕ). source < k) (sym one_each) within) in
      let n_is = listed_count there.0 n (if_some (slice_get hub.chains source) there.0 (λ (members : List L). n ≡ min (length members) (2 ^ 32 - 1)) there.1 count) in
      record {
        words = codes "dropped " ++ decimal source ++ codes " " ++ decimal at;
        calls = Removes source at ∷ [];
        plays =
            Dropped there.0 new within there.1 (subst (λ (k : ℕ). at < k) (sym n_is) some) removes;
        text = is;
      }

-- a table for listeners that wait
module _ {L : Type 0} (hearing : L → Hearing) (listeners : List L) (hex bytes reply : List ℕ) (decoded : decode_of hex ≡ Ok bytes) where
  pub no_table : (why : HestError) → refusal bytes ≡ Some why → reply ≡ reply_line (refused (words_of_refusal (Table why))) →
      MakesReply hearing (Waiting listeners) (hest hex) (Waiting listeners) reply
  no_table why refusal is = refuses hearing (Waiting listeners) (hest hex) (refused (words_of_refusal (Table why))) reply (NoTable bytes why decoded refusal) is

  pub opens : (n : ℕ) (table : List HestSource) (new : HubStage L) → n ≤ length bytes → IsHest table (take n bytes) → OpensFor listeners table new reply →
      MakesReply hearing (Waiting listeners) (hest hex) new reply
  opens n table new within begins is = elim is as (λ new reply is. MakesReply hearing (Waiting listeners) (hest hex) new reply) [
    | NotOpened why refusal ↦ record { words = refused (words_of_refusal (why_not.Hub why)); calls = []; plays = NoOpening bytes n table why decoded within begins refusal; text = refl }
    | IsOpen hub admits opened ↦ record { words = _; calls = []; plays = Opened bytes n table hub decoded within begins admits opened; text = refl }
  ]

-- a hub was opened for a table, or was not
module _ {X : Type 0} {H : X → Type 0} (table : List HestSource) (old taken : Vec (DynBox X Global H) Global) (same : taken ≡ old) (reply : List ℕ) (hub : Option (Hub X H)) where
  pub opened_for : (the : Hub X H) (waiting : List (DynBox X Global H)) (n : ℕ) → hub ≡ Some the → hub_refusal table ≡ None →
      IsOpened table taken.items (seen the) → n ≡ sources_in (seen the) → reply ≡ reply_line (words_of_opened n)
      → OpensFor old.items table (stage_in hub waiting) reply
  opened_for the waiting n is admits opened count text =
      subst (λ (o : Option (Hub X H)). OpensFor old.items table (stage_in o waiting) reply) (sym is)
      (subst (OpensFor old.items table (Serving (seen the))) (sym (text ∙ ap (λ (k : ℕ). reply_line (words_of_opened k)) count))
      (IsOpen (seen the) admits (subst (λ (v : Vec (DynBox X Global H) Global). IsOpened table v.items (seen the)) same opened)))

  pub not_opened_for : (back : List (DynBox X Global H)) (why : HubError) → hub ≡ None → back ≡ taken.items → hub_refusal table ≡ Some why →
      reply ≡ reply_line (refused (words_of_refusal (why_not.Hub why)))
      → OpensFor old.items table (stage_in hub back) reply
  not_opened_for back why none kept refusal text =
      subst (λ (o : Option (Hub X H)). OpensFor old.items table (stage_in o back) reply) (sym none)
      (subst (λ (ls : List (DynBox X Global H)). OpensFor old.items table (Waiting ls) reply) (sym (kept ∙ ap (λ (v : Vec (DynBox X Global H) Global). v.items) same))
      (subst (OpensFor old.items table (Waiting old.items)) (sym text) (NotOpened why refusal)))
