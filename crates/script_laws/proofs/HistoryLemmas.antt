-- Lines one after another.
use Rattle.std.proofs.Common.{◌≡◌, ℕ, ◌≤◌, Bool, true, ◌⊎◌, List, [], ◌∷◌, ◌++◌, length, Option, Some, None, refl, sym, ap, subst, ◌∙◌, arith, inl, inr}
use Rattle.base_model.specs.Flash.{CrashImage, IsLater, image_at}
use Rattle.base_model.specs.Layout.{Layout}
use Rattle.base_model.proofs.CrashLemmas.{past_grows, image_at-later, image_at-now, CrashImage-earlier, CrashImage-now}
use Rattle.record_model.specs.Records.{Stored}
use Rattle.apei_space.specs.Accesses.{Move, Trail}
use Rattle.erst_machine.specs.MachineState.{MachineState, IsMachine, told_of}
use Rattle.erst_machine.specs.Events.{Event, Happens}
use Rattle.erst_machine.specs.Shown.{changes_of, shown_by, made_by_event, GoesOn, IsShown}
use Rattle.erst_machine.proofs.CrashTrail.{shown_alike, by_step, events_are_shown, happens_then}
use Rattle.erst_machine.proofs.EventLemmas.{events_keep}
use Rattle.erst_commands.specs.Attached.{own_client}
use Rattle.erst_commands.specs.Equivalence.{FailedNothing}
use Rattle.erst_commands.proofs.Dialogues.{quiet_first, quiet_second}
use Rattle.erst_bridge.specs.Turns.{Step}
use Rattle.erst_bridge.proofs.TrailLemmas.{own_client-same}
use Rattle.erst_bridge.specs.Shown.{ShowsTurns}
use Rattle.script_text.specs.ScriptGrammar.{Line}
use Rattle.apei_script.specs.Words.{Reply}
use Rattle.erst_client.specs.Commands.{ClientState}
use Rattle.erst_shadow.specs.ShadowCommands.{shadow_client}
use Rattle.apei_script.specs.Players.{PlayerState, UsesOwn, UsesShadow, UsesEither, budget_of, GivenNoOther}
use Rattle.apei_script.specs.Plays.{Plays, Blank, ByClient, GivenTable, OwnTable, GivenShadow, OnMachine, ByTheBridge, OnlyTells, Reset, Power, HasHappened}
use Rattle.apei_script.specs.Plays.{LinePlayed, names_command, IsOwnLine, played_as}
use Rattle.script_laws.specs.History.{Played, heard_after, Follows, EndInOrder, ShowsLines, ShowsEachLine, AreOwnLines, AreMapped, NoneSaysHardware, AllGoThrough, AlwaysUsesEither}
use Rattle.script_laws.specs.History.{IsMappedBy}
use Rattle.apei_script.proofs.BridgeLemmas.{ShowsLine}
use Rattle.apei_script.proofs.EventChanges.{along}
use Rattle.apei_script.proofs.LineLemmas.{line_divides, line_own}
use Rattle.apei_script.proofs.SessionLines.{in_use}
use Rattle.apei_script.specs.Mapped.{Mapped}
use Rattle.apei_script.specs.ShadowMapped.{ShadowMapped}

abbrev faults_of : MachineState → ℕ
faults_of state = state.device.store.flash.faults

abbrev Moves : Type 0
Moves = List (Move Event MachineState)

-- the client of a machine's second table depends on how the flash is divided alone
shadow_client-kept : (old new : MachineState) → new.device.store.layout ≡ old.device.store.layout → shadow_client new ≡ shadow_client old
shadow_client-kept old new same = ap (λ (l : Layout). shadow_client (record old { device = record old.device { store = record old.device.store { layout = l } } })) same

stays_given : (other : Option ClientState) (old new : MachineState) → new.device.store.layout ≡ old.device.store.layout → (other ≡ None) ⊎ (other ≡ Some (shadow_client old))
    → (other ≡ None) ⊎ (other ≡ Some (shadow_client new))
stays_given other old new same (inl none) = inl none
stays_given other old new same (inr given) = inr (given ∙ ap (λ (client : ClientState). Some client) (sym (shadow_client-kept old new same)))

-- the client in use is one of the machine's two
pub uses_either : (state : PlayerState) → state.own ≡ own_client state.machine → GivenNoOther state → UsesEither state
uses_either state own (inl none) = inl (ap (in_use state.own) none ∙ own)
uses_either state own (inr given) = inr (ap (in_use state.own) given)

module _ (tells : Type 0) where
  -- only a table of a line gives another client
  pub no_other : (counts : List ℕ) (old : PlayerState) (line : Line) (said : List Reply) (blocks : List (List ℕ)) (steps : List Step) (new : PlayerState) →
      Plays tells counts old (played_as line said blocks steps new)
      → IsOwnLine line → GivenNoOther old → GivenNoOther new
  no_other counts old line said blocks steps new plays own given =
      elim plays as (λ one plays. one.left.machine.device.store.layout ≡ old.machine.device.store.layout → IsOwnLine one.line → GivenNoOther one.left) [
        | Blank ↦ λ same own. given
        | ByClient line words machine commanded ↦ λ same own. stays_given old.other old.machine machine same given
        | GivenTable hex bytes words machine other decoded gives ↦ λ same own. absurd own
        | OwnTable ↦ λ same own. inl refl
        | GivenShadow left machine attaches attached reaches ↦ λ same own. inr (ap (λ (client : ClientState). Some client) (sym (shadow_client-kept old.machine machine same)))
        | OnMachine line said blocks machine alone happened ↦ λ same own. stays_given old.other old.machine machine same given
        | ByTheBridge line said blocks steps next machine by ↦ λ same own. stays_given old.other old.machine machine same given
        | OnlyTells ↦ λ same own. given
        | Reset n machine warms ↦ λ same own. inl refl
        | Power n machine powers ↦ λ same own. inl refl
      ] (line_divides tells counts old line said blocks steps new plays) own

  pub one_list : (wants : List (ℕ → Bool)) (counts : List ℕ) (first : PlayerState) (played : List Played) (last : PlayerState) → Follows tells wants counts first played last
      → (trail : Moves) × Trail (Happens tells) first.machine trail last.machine
  one_list wants counts first [] last is = ([], ap (λ (s : PlayerState). s.machine) is)
  one_list wants counts first (line ∷ rest) last is =
      let head = is.0.happened in
      let tail = one_list wants (heard_after wants line.blocks counts) line.left rest last is.1 in
      (head.trail ++ tail.0, happens_then tells first.machine line.left.machine last.machine head.trail tail.0 head.happens tail.1)

  pub history_keeps : (wants : List (ℕ → Bool)) (counts : List ℕ) (first : PlayerState) (played : List Played) (last : PlayerState) → Follows tells wants counts first played last
      → IsMachine first.machine → IsMachine last.machine
  history_keeps wants counts first played last is machine =
      let all = one_list wants counts first played last is in events_keep tells first.machine last.machine all.0 all.1 machine

  pub history_divides : (wants : List (ℕ → Bool)) (counts : List ℕ) (first : PlayerState) (played : List Played) (last : PlayerState) → Follows tells wants counts first played last
      → last.machine.device.store.layout ≡ first.machine.device.store.layout
  history_divides wants counts first played last is =
      let all = one_list wants counts first played last is in (along tells first.machine last.machine all.0 all.1).layout

  pub history_own : (wants : List (ℕ → Bool)) (counts : List ℕ) (first : PlayerState) (played : List Played) (last : PlayerState) → Follows tells wants counts first played last
      → (last.own ≡ first.own) × (last.steps ≡ first.steps)
  history_own wants counts first [] last is = (ap (λ (p : PlayerState). p.own) is, ap (λ (p : PlayerState). p.steps) is)
  history_own wants counts first (line ∷ rest) last is =
      let one = line_own tells counts first line.line line.said line.blocks line.steps line.left is.0.plays in
      let more = history_own wants (heard_after wants line.blocks counts) line.left rest last is.1 in
      (more.0 ∙ one.0, more.1 ∙ one.1)

  pub history_happens : (wants : List (ℕ → Bool)) (counts : List ℕ) (first : PlayerState) (played : List Played) (last : PlayerState) → Follows tells wants counts first played last
      → HasHappened tells first.machine last.machine
  history_happens wants counts first played last is =
      let all = one_list wants counts first played last is in
      let takes = along tells first.machine last.machine all.0 all.1 in
      record { trail = all.0; happens = all.1; shown = λ told. events_are_shown tells told first.machine last.machine all.0 all.1; never_falls = takes.never_falls; exact = takes.exact }

  -- each line

  pub history_uses_either : (wants : List (ℕ → Bool)) (counts : List ℕ) (first : PlayerState) (played : List Played) (last : PlayerState)
      → first.own ≡ own_client first.machine → GivenNoOther first → AreOwnLines played → Follows tells wants counts first played last → AlwaysUsesEither first played
  history_uses_either wants counts first [] last own given lines is = uses_either first own given
  history_uses_either wants counts first (line ∷ rest) last own given lines is =
      let plays = is.0.plays in
      let stay = line_own tells counts first line.line line.said line.blocks line.steps line.left plays in
      let divides = line_divides tells counts first line.line line.said line.blocks line.steps line.left plays in (
        uses_either first own given,
        history_uses_either wants (heard_after wants line.blocks counts) line.left rest last
            (stay.0 ∙ own ∙ sym (own_client-same first.machine line.left.machine divides))
            (no_other counts first line.line line.said line.blocks line.steps line.left plays lines.0 given) lines.1 is.1,
      )

  pub history_says_no_hardware : (wants : List (ℕ → Bool)) (counts : List ℕ) (first : PlayerState) (played : List Played) (last : PlayerState)
      → Follows tells wants counts first played last → FailedNothing first.machine last.machine → NoneSaysHardware first played
  history_says_no_hardware wants counts first [] last is quiet = tt
  history_says_no_hardware wants counts first (line ∷ rest) last is quiet =
      let step = is.0.happened.never_falls in
      let more = (history_happens wants (heard_after wants line.blocks counts) line.left rest last is.1).never_falls in (
        λ uses names says. quiet_first (faults_of first.machine) (faults_of line.left.machine) (faults_of last.machine) step more quiet (is.0.cause uses names says),
        history_says_no_hardware wants (heard_after wants line.blocks counts) line.left rest last is.1
            (quiet_second (faults_of first.machine) (faults_of line.left.machine) (faults_of last.machine) step more quiet),
      )

  pub history_goes_through : (wants : List (ℕ → Bool)) (counts : List ℕ) (first : PlayerState) (played : List Played) (last : PlayerState)
      → Follows tells wants counts first played last → AllGoThrough first played
  history_goes_through wants counts first [] last is = tt
  history_goes_through wants counts first (line ∷ rest) last is =
      (is.0.enough, history_goes_through wants (heard_after wants line.blocks counts) line.left rest last is.1)

  module _ (told : tells) where
    is_mapped : (counts : List ℕ) (old : PlayerState) (played : Played) → LinePlayed tells counts old played → UsesOwn old → names_command played.line ≡ true
        → (IsMappedBy (λ words. Mapped (budget_of old) old.machine played.line words played.left.machine) old played)
    is_mapped counts old played line uses names =
        let by_map = line.by_map told uses names in
        record { words = by_map.0; said = by_map.1; mapped = by_map.2; cause = line.cause (inl uses) names; enough = line.enough (inl uses) names }

    is_shadow_mapped : (counts : List ℕ) (old : PlayerState) (played : Played) → LinePlayed tells counts old played → UsesShadow old
        → names_command played.line ≡ true → (IsMappedBy (λ words. ShadowMapped (budget_of old) old.machine played.line words played.left.machine) old played)
    is_shadow_mapped counts old played line uses names =
        let mapped = line.by_shadow told uses names in
        record { words = mapped.0; said = mapped.1; mapped = mapped.2; cause = line.cause (inr uses) names; enough = line.enough (inr uses) names }

    pub history_is_mapped : (wants : List (ℕ → Bool)) (counts : List ℕ) (first : PlayerState) (played : List Played) (last : PlayerState) → Follows tells wants counts first played last
        → AreMapped first played
    history_is_mapped wants counts first [] last is = tt
    history_is_mapped wants counts first (line ∷ rest) last is =
        (is_mapped counts first line is.0, is_shadow_mapped counts first line is.0, history_is_mapped wants (heard_after wants line.blocks counts) line.left rest last is.1)

    pub history_is_shown : (wants : List (ℕ → Bool)) (counts : List ℕ) (first : PlayerState) (played : List Played) (last : PlayerState) → Follows tells wants counts first played last
        → (trail : Moves) × Trail (Happens tells) first.machine trail last.machine × IsShown made_by_event first.machine trail last.machine
    history_is_shown wants counts first played last is =
        let all = one_list wants counts first played last is in (all.0, all.1, events_are_shown tells told first.machine last.machine all.0 all.1)

    pub history_goes_on : (wants : List (ℕ → Bool)) (counts : List ℕ) (first : PlayerState) (played : List Played) (last : PlayerState) → Follows tells wants counts first played last
        → (n : ℕ) × GoesOn n first.machine last.machine
    history_goes_on wants counts first played last is =
        let all = one_list wants counts first played last is in (length all.0, (events_are_shown tells told first.machine last.machine all.0 all.1).goes_on)

    pub line_goes_on : (counts : List ℕ) (old : PlayerState) (line : Line) (said : List Reply) (blocks : List (List ℕ)) (steps : List Step) (new : PlayerState)
        → LinePlayed tells counts old (played_as line said blocks steps new)
        → (n : ℕ) × GoesOn n old.machine new.machine
    line_goes_on counts old line said blocks steps new played =
        let happened = played.happened in (length happened.trail, (events_are_shown tells told old.machine new.machine happened.trail happened.happens).goes_on)

    pub history_ends : (wants : List (ℕ → Bool)) (counts : List ℕ) (first : PlayerState) (played : List Played) (last : PlayerState) → Follows tells wants counts first played last
        → ShowsEachLine last first played
    history_ends wants counts first [] last is = tt
    history_ends wants counts first (line ∷ rest) last is =
        let left = line.left.machine in
        let one = (line_goes_on counts first line.line line.said line.blocks line.steps line.left is.0).1 in
        let more = (history_goes_on wants (heard_after wants line.blocks counts) line.left rest last is.1).1 in
        let image : image_at (told_of last.machine) (changes_of left) ≡ (told_of left).image =
        image_at-later (told_of left) (told_of last.machine) (changes_of left) more.later (omega arith) ∙ image_at-now (told_of left) (changes_of left) (omega arith) in (
          ap (shown_by first.machine) image ∙ sym (shown_alike first.machine left (told_of left).image one.equivalent),
          history_ends wants (heard_after wants line.blocks counts) line.left rest last is.1,
        )

    pub history_in_order : (wants : List (ℕ → Bool)) (counts : List ℕ) (first : PlayerState) (played : List Played) (last : PlayerState) → Follows tells wants counts first played last
        → EndInOrder (changes_of first.machine) played (changes_of last.machine)
    history_in_order wants counts first [] last is = let same = ap (λ (p : PlayerState). changes_of p.machine) is in omega arith
    history_in_order wants counts first (line ∷ rest) last is =
        let one = (line_goes_on counts first line.line line.said line.blocks line.steps line.left is.0).1 in
        (past_grows (told_of first.machine) (told_of line.left.machine) one.later, history_in_order wants (heard_after wants line.blocks counts) line.left rest last is.1)

    pub history_ends_later : (wants : List (ℕ → Bool)) (counts : List ℕ) (first : PlayerState) (played : List Played) (last : PlayerState) → Follows tells wants counts first played last
        → ShowsEachLine last first played × IsLater (told_of first.machine) (told_of last.machine)
    history_ends_later wants counts first played last is =
        (history_ends wants counts first played last is, (history_goes_on wants counts first played last is).1.later)

    -- one line
    pub turns_show : (counts : List ℕ) (old : PlayerState) (played : Played) → old.own ≡ own_client old.machine → LinePlayed tells counts old played
        → (step : Step) (rest : List Step) → played.steps ≡ step ∷ rest → (s : ℕ) (image : List ℕ) → changes_of old.machine ≤ s → CrashImage (told_of played.left.machine) s image
        → ShowsTurns s old.bridge old.machine (step ∷ rest) (shown_by old.machine image)
    turns_show counts old played own line step rest some s image from crash =
        subst (λ (steps : List Step). ShowsTurns s old.bridge old.machine steps (shown_by old.machine image)) some
        ((line.turned told own).each (λ unmade. absurd (let e : ◌≡◌ {A = List Step} (step ∷ rest) [] = sym some ∙ unmade in cc e)) s image from crash)

    pub line_shows : (counts : List ℕ) (old : PlayerState) (played : Played) → old.own ≡ own_client old.machine → (names_command played.line ≡ true → UsesEither old) → IsOwnLine played.line
        → LinePlayed tells counts old played → (steps : List Step) → played.steps ≡ steps
        → (s : ℕ) (image : List ℕ) → changes_of old.machine ≤ s → CrashImage (told_of played.left.machine) s image → ShowsLine s old played.line steps (shown_by old.machine image)
    line_shows counts old played own either is line [] unmade s image from crash = (line.leaves told either is unmade).each s image from crash
    line_shows counts old played own either is line (step ∷ rest) some s image from crash = turns_show counts old played own line step rest some s image from crash

    pub history_shows : (wants : List (ℕ → Bool)) (counts : List ℕ) (first : PlayerState) (played : List Played) (last : PlayerState)
        → first.own ≡ own_client first.machine → GivenNoOther first → AreOwnLines played → Follows tells wants counts first played last
        → (s : ℕ) (image : List ℕ) → changes_of first.machine ≤ s → CrashImage (told_of last.machine) s image → ShowsLines s first played (shown_by first.machine image)
    history_shows wants counts first [] last own given lines is s image from crash =
        ap (shown_by first.machine) (CrashImage-now (told_of first.machine) s image from (subst (λ (p : PlayerState). CrashImage (told_of p.machine) s image) is crash))
    history_shows wants counts first (line ∷ rest) last own given lines is s image from crash =
        let left = line.left.machine in
        let one = (line_goes_on counts first line.line line.said line.blocks line.steps line.left is.0).1 in
        let more = (history_goes_on wants (heard_after wants line.blocks counts) line.left rest last is.1).1 in
        let shows = line_shows counts first line own (λ _. uses_either first own given) lines.0 is.0 in
        let stay = line_own tells counts first line.line line.said line.blocks line.steps line.left is.0.plays in
        by_step (changes_of left) s _ _
        (λ after. subst (λ (m : Stored). ShowsLines s line.left rest m) (shown_alike first.machine left image one.equivalent)
        (history_shows wants (heard_after wants line.blocks counts) line.left rest last
        (stay.0 ∙ own ∙ sym (own_client-same first.machine left one.equivalent.layout))
        (no_other counts first line.line line.said line.blocks line.steps line.left is.0.plays lines.0 given) lines.1 is.1 s image after crash))
        (λ before. shows line.steps refl s image from (CrashImage-earlier (told_of left) (told_of last.machine) s image more.later before crash))
