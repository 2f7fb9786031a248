-- A record that is stored stays over lines that spare its identifier.
use Rattle.std.proofs.Common.{◌≡◌, ◌≢◌, ◌∙◌, ◌⊎◌, inl, inr, ℕ, ◌<◌, ◌≤◌, nat_le, nat_eq, cond, Bool, true, false, List, [], ◌∷◌, Option, None, Result, Ok, Err, refl, sym, ap, subst, arith}
use Rattle.std.specs.Prelude.{is_none, if◌then◌else◌, MatchBool}
use Rattle.std.specs.Ordering.{nat_cmp, eq_by_cmp}
use Rattle.std.specs.FinMap.{get, remove, get-remove}
use Rattle.std.specs.Cmp.{nat_cmp_total}
use Rattle.std.proofs.lemmas.Bool.{cases_lt, le-leb, lt-leb, ne_eqb}
use Rattle.std.proofs.lemmas.Bool.Decides.{nat_tests}
use Rattle.hex.specs.Hex.{decode_of}
use Rattle.hex.specs.declared.error.FromHexError.{FromHexError}
use Rattle.base_model.specs.Flash.{CrashImage}
use Rattle.base_model.specs.Layout.{Layout}
use Rattle.base_model.proofs.CrashLemmas.{CrashImage-earlier, CrashImage-now, Leaves-exit, past_grows}
use Rattle.record_model.specs.Records.{Stored as Records}
use Rattle.record_model.specs.RecordMap.{Write, Clear, refusal_of, made_by, after}
use Rattle.record_store.specs.Store.{records_of as records_in}
use Rattle.erst_client.specs.Commands.{write_refusal}
use Rattle.erst_machine.specs.MachineState.{MachineState, IsMachine, records_of, told_of}
use Rattle.erst_machine.specs.Shown.{changes_of, shown_by}
use Rattle.erst_machine.proofs.CrashTrail.{shown_alike, events_are_shown}
use Rattle.erst_machine.proofs.EventLemmas.{events_keep}
use Rattle.erst_commands.specs.Attached.{own_client}
use Rattle.erst_commands.specs.OwnPrograms.{OwnProgramsRun}
use Rattle.erst_commands.specs.Writes.{marked, id_of}
use Rattle.erst_bridge.specs.Bridges.{BridgeState}
use Rattle.erst_bridge.specs.Turns.{Step, AreTurns}
use Rattle.erst_bridge.specs.Shown.{IsStoredAs}
use Rattle.erst_bridge.proofs.KeptRecordLemmas.{stored_after}
use Rattle.script_text.specs.ScriptGrammar.{Line, write, clear}
use Rattle.apei_script.specs.Players.{PlayerState, client_of, budget_of, UsesEither, GivenNoOther}
use Rattle.apei_script.specs.Words.{Reply}
use Rattle.apei_script.specs.Mapped.{after_line}
use Rattle.apei_script.specs.Bridged.{ByBridge, Enters, StaysAs, BridgesTurns, KeepsBlocks}
use Rattle.apei_script.specs.Plays.{Plays, ByTheBridge, LinePlayed, names_command, IsOwnLine, played_as}
use Rattle.script_laws.specs.History.{Played, heard_after, Follows, ShowsLines, AreOwnLines}
use Rattle.script_laws.specs.Spares.{SpareLines, KeepsAll, AreOwnUntil, KeepsInAny}
use Rattle.apei_script.proofs.BridgeLemmas.{ShowsLine}
use Rattle.apei_script.proofs.KeptTurns.{SpareTurns, kept_turns, blocks_kept}
use Rattle.apei_script.proofs.LeavesLemmas.{after_write}
use Rattle.apei_script.proofs.LineLemmas.{line_divides, line_own}
use Rattle.erst_bridge.proofs.TrailLemmas.{own_client-same}
use Rattle.script_laws.proofs.HistoryLemmas.{no_other, uses_either, line_goes_on, history_goes_on, turns_show, line_shows}

-- Commands of others

get_removed : (stored : Records) (n q : ℕ) → get (remove stored n) q ≡ (if nat_eq q n then None else get stored q)
get_removed stored n q = get-remove nat_cmp_total stored n q ∙ ap (λ (b : Bool). cond {A = Option (List ℕ × ℕ)} b None (get stored q)) (by_numbers q n)
  where
    by_numbers : (x y : ℕ) → eq_by_cmp nat_cmp x y ≡ nat_eq x y
    by_numbers x y = grind (arith, nat_tests)

kept_cleared : (layout : Layout) (n : ℕ) (stored : Records) (id : ℕ) (bytes : List ℕ) → id ≢ n → IsStoredAs id bytes stored → IsStoredAs id bytes (after layout (Clear n) stored)
unfolding after made_by
kept_cleared layout n stored id bytes apart is = by_test (is_none (refusal_of layout (Clear n) stored))
  where
    by_test : (b : Bool) → IsStoredAs id bytes (if b then remove stored n else stored)
    by_test true = (is.0, get_removed stored n id ∙ ap (λ (b : Bool). cond {A = Option (List ℕ × ℕ)} b None (get stored id)) (ne_eqb id n apart) ∙ is.1)
    by_test false = is

kept_written : (range : ℕ) (state : MachineState) (decoded : Result (List ℕ) FromHexError) (id : ℕ) (bytes : List ℕ) → ((written : List ℕ) → decoded ≡ Ok written → id ≢ id_of written)
    → IsStoredAs id bytes (records_of state) → IsStoredAs id bytes (after_write range state decoded)
kept_written range state (Err why) id bytes spares is = is
kept_written range state (Ok written) id bytes spares is = by_test (is_none (write_refusal written range))
  where
    by_test : (b : Bool) → IsStoredAs id bytes (if b then after state.device.store.layout (Write (id_of written) (marked written)) (records_of state) else records_of state)
    by_test true = stored_after state.device.store.layout (id_of written) (marked written) (records_of state) id bytes (spares written refl) is
    by_test false = is

-- a line that neither writes nor clears an identifier
abbrev Spares : ℕ → Line → Type 0
Spares id line = elim line [
  | clear other ↦ id ≢ other
  | write hex ↦ (bytes : List ℕ) → decode_of hex ≡ Ok bytes → id ≢ id_of bytes
  | other ↦ Unit {0}
]

kept_line : (range : ℕ) (state : MachineState) (line : Line) (id : ℕ) (bytes : List ℕ) → Spares id line → IsStoredAs id bytes (records_of state) → IsStoredAs id bytes (after_line range state line)
kept_line range state (write hex) id bytes spares is = kept_written range state (decode_of hex) id bytes spares is
kept_line range state (clear n) id bytes spares is = kept_cleared state.device.store.layout n (records_of state) id bytes spares is
kept_line range state line id bytes spares is = is

on_behind : (b : Bool) (P Q : Type 0) → b ≡ true → MatchBool b P Q → P
on_behind true P Q e h = h
on_behind false P Q e h = absurd (cc e)

not_behind : (b : Bool) (P Q : Type 0) → b ≡ false → MatchBool b P Q → Q
not_behind true P Q e h = absurd (cc e)
not_behind false P Q e h = h

module _ (tells : Type 0) where
  -- a line made no turn of the bridge, or all of them are its steps
  pub line_turns : (counts : List ℕ) (old : PlayerState) (line : Line) (said : List Reply) (blocks : List (List ℕ)) (steps : List Step) (new : PlayerState) →
      Plays tells counts old (played_as line said blocks steps new)
      → (steps ≡ []) ⊎ AreTurns tells old.own (budget_of old) old.bridge old.machine steps new.bridge new.machine
  line_turns counts old line said blocks steps new plays =
      elim plays as (λ one plays. (one.steps ≡ []) ⊎ AreTurns tells old.own (budget_of old) old.bridge old.machine one.steps one.left.bridge one.left.machine) [
        | ByTheBridge line said blocks steps state machine by ↦ of_bridge line said blocks steps state machine by
        | other ↦ inl refl
      ]
    where
      of_bridge : (line : Line) (said : List Reply) (blocks : List (List ℕ)) (steps : List Step) (state : BridgeState) (machine : MachineState) →
          ByBridge tells old line said blocks steps state machine
          → (steps ≡ []) ⊎ AreTurns tells old.own (budget_of old) old.bridge old.machine steps state machine
      of_bridge line said blocks steps state machine by = elim by as (λ line said blocks steps state machine by. (steps ≡ []) ⊎ AreTurns tells old.own
          (budget_of old) old.bridge old.machine steps state machine) [
            | Enters id none ↦ inl refl
            | StaysAs id why refuses ↦ inl refl
            | BridgesTurns letters steps state machine on are sides counted ↦ inr are
          ]

  pub machine_then : (counts : List ℕ) (old : PlayerState) (played : Played) → LinePlayed tells counts old played → IsMachine old.machine → IsMachine played.left.machine
  machine_then counts old played line machine = events_keep tells old.machine played.left.machine line.happened.trail line.happened.happens machine

  pub own_then : (counts : List ℕ) (old : PlayerState) (played : Played) → LinePlayed tells counts old played → old.own ≡ own_client old.machine
      → played.left.own ≡ own_client played.left.machine
  own_then counts old played line own =
      (line_own tells counts old played.line played.said played.blocks played.steps played.left line.plays).0 ∙ own
      ∙ sym (own_client-same old.machine played.left.machine (line_divides tells counts old played.line played.said played.blocks played.steps played.left line.plays))

  other_then : (counts : List ℕ) (old : PlayerState) (played : Played) → LinePlayed tells counts old played → IsOwnLine played.line → GivenNoOther old
      → GivenNoOther played.left
  other_then counts old played line is none = no_other tells counts old played.line played.said played.blocks played.steps played.left line.plays is none

module _ (tells : Type 0) (programs : OwnProgramsRun tells) (told : tells) where
  -- behind a line, and at whatever power lost in it shows
  keeps_line : (counts : List ℕ) (old : PlayerState) (line : Line) (said : List Reply) (blocks : List (List ℕ)) (steps : List Step) (new : PlayerState) (id : ℕ)
      (bytes : List ℕ) → IsMachine old.machine
      → old.own ≡ own_client old.machine → (names_command line ≡ true → UsesEither old) → IsOwnLine line →
      LinePlayed tells counts old (played_as line said blocks steps new) → Spares id line → SpareTurns id old.bridge old.machine steps
      → IsStoredAs id bytes (records_of old.machine)
      → IsStoredAs id bytes (records_of new.machine) × ((s : ℕ) (shown : Records) → ShowsLine s old line steps shown → IsStoredAs id bytes shown)
  keeps_line counts old line said blocks [] new id bytes machine own either is played spares spared there =
      let leaves = played.leaves told either is refl in
      let made = kept_line (client_of old).range old.machine line id bytes spares there in
      let same : records_of new.machine ≡ shown_by old.machine (told_of new.machine).image =
      ap (λ (l : Layout). records_in l (told_of new.machine).image) (line_divides tells counts old line said blocks [] new played.plays) in (
        elim (Leaves-exit (told_of old.machine) (told_of new.machine) _ leaves) [
          | inl keeps ↦ subst (IsStoredAs id bytes) (sym (same ∙ keeps)) there
          | inr after ↦ subst (IsStoredAs id bytes) (sym (same ∙ after)) made
        ],
        λ s shown shows. elim shows [
          | inl keeps ↦ subst (IsStoredAs id bytes) (sym keeps) there
          | inr after ↦ subst (IsStoredAs id bytes) (sym after) made
        ],
      )
  keeps_line counts old line said blocks (step ∷ rest) new id bytes machine own either is played spares spared there =
      elim (line_turns tells counts old line said blocks (step ∷ rest) new played.plays) [
        | inl e ↦ absurd (cc e)
        | inr are ↦ kept_turns tells programs told old.own (budget_of old) old.bridge old.machine (step ∷ rest) new.bridge new.machine id bytes own machine are spared there
      ]

  pub kept_lines : (wants : List (ℕ → Bool)) (counts : List ℕ) (first : PlayerState) (played : List Played) (last : PlayerState) → IsMachine first.machine →
      first.own ≡ own_client first.machine → GivenNoOther first
      → AreOwnLines played → Follows tells wants counts first played last → (s id : ℕ) (bytes : List ℕ) → SpareLines s id first played → IsStoredAs id bytes (records_of first.machine)
      → (shown : Records) → ShowsLines s first played shown → IsStoredAs id bytes shown
  kept_lines wants counts first [] last machine own none lines follows s id bytes spares there shown shows = subst (IsStoredAs id bytes) (sym shows) there
  kept_lines wants counts first (line ∷ rest) last machine own none lines follows s id bytes spares there shown shows =
      let keeps = keeps_line counts first line.line line.said line.blocks line.steps line.left id bytes machine own (λ _. uses_either first own none) lines.0 follows.0 spares.0 spares.1 there in
      elim (cases_lt s (changes_of line.left.machine)) [
        | inl under_way ↦ keeps.1 s shown (not_behind (nat_le (changes_of line.left.machine) s) _ _ (lt-leb (changes_of line.left.machine) s under_way) shows)
        | inr ended ↦ kept_lines wants (heard_after wants line.blocks counts) line.left rest last (machine_then tells counts first line follows.0 machine)
            (own_then tells counts first line follows.0 own)
            (other_then tells counts first line follows.0 lines.0 none) lines.1 follows.1 s id bytes (spares.2 ended) keeps.0 shown
            (on_behind (nat_le (changes_of line.left.machine) s) _ _ (le-leb (changes_of line.left.machine) s ended) shows)
      ]

  -- the blocks that the turns of one line stored
  blocks_of_line : (counts : List ℕ) (old : PlayerState) (line : Played) (s : ℕ) (shown : Records) (spared : ℕ → Type 0) → IsMachine old.machine → old.own ≡ own_client old.machine
      → LinePlayed tells counts old line
      → (changes_of old.machine ≤ s → ShowsLine s old line.line line.steps shown ⊎ ((id : ℕ) (bytes : List ℕ) → spared id →
      IsStoredAs id bytes (records_of line.left.machine) → IsStoredAs id bytes shown))
      → (steps : List Step) → line.steps ≡ steps → KeepsBlocks spared s old.bridge old.machine steps shown
  blocks_of_line counts old line s shown spared machine own played either [] is = tt
  blocks_of_line counts old line s shown spared machine own played either (step ∷ rest) is =
      elim (line_turns tells counts old line.line line.said line.blocks line.steps line.left played.plays) [
        | inl none ↦ absurd (let e : ◌≡◌ {A = List Step} (step ∷ rest) [] = sym is ∙ none in cc e)
        | inr are ↦ blocks_kept tells programs told old.own (budget_of old) spared s shown old.bridge old.machine (step ∷ rest) line.left.bridge line.left.machine own machine
            (subst (λ (steps : List Step). AreTurns tells old.own (budget_of old) old.bridge old.machine steps line.left.bridge line.left.machine) is are)
            (λ from. elim (either from) [
              | inl shows ↦ inl (subst (λ (steps : List Step). ShowsLine s old line.line steps shown) is shows)
              | inr keeps ↦ inr keeps
            ])
      ]

  pub all_kept : (wants : List (ℕ → Bool)) (counts : List ℕ) (first : PlayerState) (played : List Played) (last : PlayerState) → IsMachine first.machine →
      first.own ≡ own_client first.machine → GivenNoOther first
      → AreOwnLines played → Follows tells wants counts first played last → (s : ℕ) (shown : Records) → (changes_of first.machine ≤ s → ShowsLines s first played shown) → KeepsAll s first played shown
  all_kept wants counts first [] last machine own none lines follows s shown shows = tt
  all_kept wants counts first (line ∷ rest) last machine own none lines follows s shown shows =
      let left = line.left in
      let on = (events_are_shown tells told first.machine left.machine follows.0.happened.trail follows.0.happened.happens).goes_on in
      let grows = past_grows (told_of first.machine) (told_of left.machine) on.later in
      let machine_now = machine_then tells counts first line follows.0 machine in
      let own_now = own_then tells counts first line follows.0 own in
      let none_now = other_then tells counts first line follows.0 lines.0 none in
      let behind : changes_of left.machine ≤ s → ShowsLines s left rest shown =
      λ from. on_behind (nat_le (changes_of left.machine) s) _ _ (le-leb (changes_of left.machine) s from) (shows (omega (arith, from))) in (
        blocks_of_line counts first line s shown (λ id. changes_of left.machine ≤ s → SpareLines s id left rest) machine own follows.0
            (λ from. elim (cases_lt s (changes_of left.machine)) [
              | inl before ↦ inl (not_behind (nat_le (changes_of left.machine) s) _ _ (lt-leb (changes_of left.machine) s before) (shows from))
              | inr after ↦ inr (λ id bytes spares there.
                  kept_lines wants (heard_after wants line.blocks counts) left rest last machine_now own_now none_now lines.1 follows.1 s id bytes (spares after) there shown (behind after))
            ])
            line.steps refl,
        all_kept wants (heard_after wants line.blocks counts) left rest last machine_now own_now none_now lines.1 follows.1 s shown behind,
      )

  -- In any script. Before the end the image is one of power lost in the lines; from then on it shows the records that they leave
  kept_until : (wants : List (ℕ → Bool)) (counts : List ℕ) (first : PlayerState) (played : List Played) (last : PlayerState) → IsMachine first.machine → first.own ≡ own_client first.machine
      → Follows tells wants counts first played last → (s id : ℕ) (bytes : List ℕ) → AreOwnUntil s first played → SpareLines s id first played → IsStoredAs id bytes (records_of first.machine)
      → (image : List ℕ) → (s < changes_of last.machine → CrashImage (told_of last.machine) s image)
      → (changes_of last.machine ≤ s → shown_by first.machine image ≡ records_of last.machine) → changes_of first.machine ≤ s → IsStoredAs id bytes (shown_by first.machine image)
  kept_until wants counts first [] last machine own follows s id bytes are spares there image torn late from =
      let same = ap (λ (p : PlayerState). changes_of p.machine) follows in
      subst (IsStoredAs id bytes) (sym (late (omega (arith, from, same)) ∙ ap (λ (p : PlayerState). records_of p.machine) follows)) there
  kept_until wants counts first (line ∷ rest) last machine own follows s id bytes are spares there image torn late from =
      let left = line.left.machine in
      let one = (line_goes_on tells told counts first line.line line.said line.blocks line.steps line.left follows.0).1 in
      let more = (history_goes_on tells told wants (heard_after wants line.blocks counts) line.left rest last follows.1).1 in
      let grows = past_grows (told_of left) (told_of last.machine) more.later in
      let alike = shown_alike first.machine left image one.equivalent in
      let keeps = keeps_line counts first line.line line.said line.blocks line.steps line.left id bytes machine own are.0.1 are.0.0 follows.0 spares.0 spares.1 there in
      elim (cases_lt s (changes_of left)) [
        | inl before ↦ keeps.1 s (shown_by first.machine image)
            (line_shows tells told counts first line own are.0.1 are.0.0 follows.0 line.steps refl s image from
            (CrashImage-earlier (told_of left) (told_of last.machine) s image more.later before (torn (omega (arith, before, grows)))))
        | inr ended ↦ subst (IsStoredAs id bytes) alike
            (kept_until wants (heard_after wants line.blocks counts) line.left rest last (machine_then tells counts first line follows.0 machine) (own_then tells counts first line follows.0 own)
            follows.1 s id bytes (are.1 ended) (spares.2 ended) keeps.0 image torn (λ behind. alike ∙ late behind) ended)
      ]

  block_in_any : (counts : List ℕ) (old : PlayerState) (line : Played) (s : ℕ) (image : List ℕ) (spared : ℕ → Type 0) → IsMachine old.machine → old.own ≡ own_client old.machine
      → LinePlayed tells counts old line → (s < changes_of line.left.machine → CrashImage (told_of line.left.machine) s image)
      → (changes_of line.left.machine ≤ s → (id : ℕ) (bytes : List ℕ) → spared id → IsStoredAs id bytes (records_of line.left.machine) → IsStoredAs id bytes (shown_by old.machine image))
      → (steps : List Step) → line.steps ≡ steps → KeepsBlocks spared s old.bridge old.machine steps (shown_by old.machine image)
  block_in_any counts old line s image spared machine own played torn keeps [] made = tt
  block_in_any counts old line s image spared machine own played torn keeps (step ∷ rest) made =
      blocks_of_line counts old line s (shown_by old.machine image) spared machine own played
      (λ from. elim (cases_lt s (changes_of line.left.machine)) [
        | inl before ↦ inl (subst (λ (steps : List Step). ShowsLine s old line.line steps (shown_by old.machine image)) (sym made)
            (turns_show tells told counts old line own played step rest made s image from (torn before)))
        | inr after ↦ inr (keeps after)
      ])
      (step ∷ rest) made

  pub all_in_any : (wants : List (ℕ → Bool)) (counts : List ℕ) (first : PlayerState) (played : List Played) (last : PlayerState) → IsMachine first.machine → first.own ≡ own_client first.machine
      → Follows tells wants counts first played last → (s : ℕ) (image : List ℕ) → (s < changes_of last.machine → CrashImage (told_of last.machine) s image)
      → (changes_of last.machine ≤ s → shown_by first.machine image ≡ records_of last.machine) → KeepsInAny s first played (shown_by first.machine image)
  all_in_any wants counts first [] last machine own follows s image torn late = tt
  all_in_any wants counts first (line ∷ rest) last machine own follows s image torn late =
      let left = line.left.machine in
      let one = (line_goes_on tells told counts first line.line line.said line.blocks line.steps line.left follows.0).1 in
      let more = (history_goes_on tells told wants (heard_after wants line.blocks counts) line.left rest last follows.1).1 in
      let grows = past_grows (told_of left) (told_of last.machine) more.later in
      let alike = shown_alike first.machine left image one.equivalent in
      let machine_now = machine_then tells counts first line follows.0 machine in
      let own_now = own_then tells counts first line follows.0 own in (
        block_in_any counts first line s image (λ id. changes_of left ≤ s → AreOwnUntil s line.left rest × SpareLines s id line.left rest) machine own follows.0
            (λ before. CrashImage-earlier (told_of left) (told_of last.machine) s image more.later before (torn (omega (arith, before, grows))))
            (λ after id bytes spares there. subst (IsStoredAs id bytes) alike
            (kept_until wants (heard_after wants line.blocks counts) line.left rest last machine_now own_now follows.1 s id bytes (spares after).0 (spares after).1 there image torn
            (λ behind. alike ∙ late behind) after))
            line.steps refl,
        subst (λ (m : Records). KeepsInAny s line.left rest m) alike
            (all_in_any wants (heard_after wants line.blocks counts) line.left rest last machine_now own_now follows.1 s image torn (λ behind. alike ∙ late behind)),
      )

  pub crash_in_any : (wants : List (ℕ → Bool)) (counts : List ℕ) (first : PlayerState) (played : List Played) (last : PlayerState) → IsMachine first.machine → first.own ≡ own_client first.machine
      → Follows tells wants counts first played last → (s : ℕ) (image : List ℕ) → CrashImage (told_of last.machine) s image → KeepsInAny s first played (shown_by first.machine image)
  crash_in_any wants counts first played last machine own follows s image crash =
      let on = (history_goes_on tells told wants counts first played last follows).1 in
      all_in_any wants counts first played last machine own follows s image (λ before. crash)
      (λ late. sym (shown_alike first.machine last.machine image on.equivalent) ∙ ap (shown_by last.machine) (CrashImage-now (told_of last.machine) s image late crash))
