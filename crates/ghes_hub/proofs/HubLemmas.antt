-- One source of a hub over lists of calls: what stands between its own changes nothing.
use Rattle.std.proofs.Common.{◌≡◌, ◌≢◌, ◌∙◌, ℕ, ◌≤◌, inl, inr, Bool, true, false, cond, ◌==◌, List, [], ◌∷◌, ◌++◌, length, remove, Option, Some, None}
use Rattle.std.proofs.Common.{slice_get, All, refl, sym, ap, subst, arith, length-append}
use Rattle.std.proofs.lemmas.Bool.{cases_eq, eq-eqb, ne_eqb}
use Rattle.std.proofs.lemmas.List.{get_or_at}
use Rattle.apei_space.specs.RamState.{RamState}
use Rattle.apei_notify.specs.Telling.{Told, Hearing}
use Rattle.ghes_ack.specs.declared.events.Side.{Side}
use Rattle.ghes_ack.specs.declared.events.Event.{Event}
use Rattle.ghes_ack.specs.Machine.{Machine, Fits, submitted, started, last_taken, IsState, with_status}
use Rattle.ghes_ack.specs.Schedules.{Step, Submit, Turn, Watched, from_start, AreFitting}
use Rattle.ghes_ack.proofs.ScheduleLemmas.{watched_machine}
use Rattle.ghes_ack.proofs.CallLemmas.{started_long}
use Rattle.base_model.specs.Bytes.{spelled}
use Rattle.ghes_hub.specs.declared.source.Source.{Source}
use Rattle.ghes_hub.specs.declared.source.Source.TheVariants.{Acknowledged, Plain}
use Rattle.ghes_hub.specs.Kinds.{Kind, turned_by}
use Rattle.ghes_hub.specs.Runs.{after_by, run_by, events_by, takes, told_at, told_by}
use Rattle.ghes_hub.specs.OneSource.{SourceStands, last_of}
use Rattle.ghes_hub.specs.SourcesState.{SourcesState, layouts_in, StandsAt}
use Rattle.ghes_hub.specs.Hubs.{HubState, last_in, Call, Submits, Turns, Removes, DoAll, steps_at, events_at, left_at, OpenedSource, Serves}
use Rattle.ghes_hub.proofs.KindLemmas.{turned_keeps}
use Rattle.ghes_hub.proofs.RunLemmas.{blocks_by, taken_by, order_by, told_is, took_fits}
use Rattle.apei_notify.proofs.ToldLemmas.{told_then, told_none}
use Rattle.ghes_hub.proofs.ToldLemmas.{Told-left}

last_fits : (len : ℕ) (blocks : List (List ℕ)) (block : List ℕ) → All (Fits len) (blocks ++ block ∷ []) → Fits len block
last_fits len blocks block all =
    let n = length-append blocks (block ∷ []) in
    subst (Fits len) (get_or_at blocks block [] [] (length blocks) refl) (all (length blocks) [] (omega (arith, n)))

-- a source stands for a state of the machine, over its own window
pub is_state : (p : Source) (ram : RamState) (m : Machine) → SourceStands p ram m → IsState (length m.window) m
is_state (Acknowledged h) ram m st = subst (λ (n : ℕ). IsState n m) (sym st.state.window) st.state
is_state (Plain h) ram m st = subst (λ (n : ℕ). IsState n m) (sym st.state.window) st.state

pub last_is : (p : Source) (ram : RamState) (m : Machine) → SourceStands p ram m → last_of p ≡ last_taken m
last_is (Acknowledged h) ram m st = st.last
last_is (Plain h) ram m st = st.last

pub last_at : (kind : Kind) (s : SourcesState) (i : ℕ) (m : Machine) → StandsAt kind s i m → last_in s i ≡ last_taken m
last_at kind s i m at = ap (λ (o : Option Source). elim o [ None ↦ [] | Some handover ↦ last_of handover ]) at.is ∙ last_is at.handover s.ram m at.stands

pub state_at : (kind : Kind) (s : SourcesState) (i : ℕ) (m : Machine) → StandsAt kind s i m → IsState (length m.window) m
state_at kind s i m at = is_state at.handover s.ram m at.stands

-- after some calls, from any state
record Goes {L : Type 0} (hearing : L → Hearing) (kind : Kind) (j : ℕ) (len : ℕ) (left : List L) (steps : List Step) (events : List Event) (last : HubState L) (w : Watched) : Type 0 where
  stands : StandsAt kind last.sources j (run_by kind w steps).machine
  events_are : events ≡ events_by kind w steps
  fitting : AreFitting len steps
  now : List L
  members_are : slice_get last.chains j ≡ Some now
  told : Told hearing (told_by kind w steps) left now

by_test : {A : Type 0} (i j : ℕ) (a b : A) (P : A → Type 0) → (i ≡ j → P a) → (i ≢ j → P b) → P (cond (i == j) a b)
by_test {A} i j a b P same other = elim (cases_eq i j) [
  | inl is ↦ subst (λ (t : Bool). P (cond t a b)) (sym (eq-eqb i j is)) (same is)
  | inr apart ↦ subst (λ (t : Bool). P (cond t a b)) (sym (ne_eqb i j apart)) (other apart)
]

goes : {L : Type 0} (hearing : L → Hearing) (kind : Kind) (j : ℕ) (len : ℕ) (calls : List Call) (first last : HubState L) (members : List L) (w : Watched) →
    length w.machine.window ≡ len → StandsAt kind first.sources j w.machine → slice_get first.chains j ≡ Some members → DoAll hearing calls first last →
    Goes hearing kind j len (left_at j calls members) (steps_at j calls) (events_at j calls) last w
goes {L} hearing kind j len [] first last members w n st is same = record {
  stands = subst (λ (h : HubState L). StandsAt kind h.sources j w.machine) (sym same) st;
  events_are = refl;
  fitting = tt;
  now = members;
  members_are = ap (λ (h : HubState L). slice_get h.chains j) same ∙ is;
  told = told_none hearing members;
}
goes {L} hearing kind j len (Submits i block ∷ calls) first last members w n st is (between, does, later) =
    let chain : slice_get between.chains j ≡ Some members = ap (λ (cs : List (List L)). slice_get cs j) does.chains ∙ is in
    by_test i j (Submit block ∷ steps_at j calls) (steps_at j calls) (λ (steps : List Step). Goes hearing kind j len (left_at j calls members) steps (events_at j calls) last w)
    (λ same.
    let here : StandsAt kind between.sources j (submitted w.machine block) = subst (λ (k : ℕ). StandsAt kind between.sources k (submitted w.machine block)) same
    (does.submitted kind w.machine (subst (λ (k : ℕ). StandsAt kind first.sources k w.machine) (sym same) st)) in
    let rest = goes hearing kind j len calls between last members (after_by kind w (Submit block)) n here chain later in
    let all = (state_at kind between.sources j (submitted w.machine block) here).blocks in
    record {
      stands = rest.stands;
      events_are = rest.events_are;
      fitting = (subst (λ (k : ℕ). Fits k block) n (last_fits (length w.machine.window) w.machine.blocks block all), rest.fitting);
      now = rest.now;
      members_are = rest.members_are;
      told = rest.told;
    })
    (λ apart. goes hearing kind j len calls between last members w n (does.others kind j w.machine (λ e. apart (sym e)) st) chain later)
goes {L} hearing kind j len (Turns i side event ∷ calls) first last members w n st is (between, does, later) = elim (cases_eq i j) [
  | inl same ↦
      let t : (event ≡ (turned_by kind side w.machine).0) × StandsAt kind between.sources j (turned_by kind side w.machine).1 =
      subst (λ (k : ℕ). (event ≡ (turned_by kind side w.machine).0) × StandsAt kind between.sources k (turned_by kind side w.machine).1) same
      (does.turned kind w.machine (subst (λ (k : ℕ). StandsAt kind first.sources k w.machine) (sym same) st)) in
      let m : Machine = (turned_by kind side w.machine).1 in
      let v : Watched = after_by kind w (Turn side) in
      let is_m : v.machine ≡ m = watched_machine w (turned_by kind side w.machine).0 m in
      let here : StandsAt kind between.sources j v.machine = subst (StandsAt kind between.sources j) (sym is_m) t.1 in
      let kept : IsState (length w.machine.window) m = turned_keeps kind (length w.machine.window) side w.machine (state_at kind first.sources j w.machine st) in
      let wide : length v.machine.window ≡ len = ap (λ (x : Machine). length x.window) is_m ∙ kept.window ∙ n in
      let told_blocks : List (List ℕ) = told_at (turned_by kind side w.machine).0 (last_taken m) in
      let blocks_are : told_at event (last_in between.sources i) ≡ told_blocks =
      ap (λ (k : ℕ). told_at event (last_in between.sources k)) same ∙ ap (told_at event) (last_at kind between.sources j m t.1) ∙ ap (λ (e : Event). told_at e (last_taken m)) t.0 in
      let tell = does.told members (ap (slice_get first.chains) same ∙ is) in
      let chain : slice_get between.chains j ≡ Some tell.0 = ap (slice_get between.chains) (sym same) ∙ tell.1 in
      let told_here : Told hearing told_blocks members tell.0 = subst (λ (bs : List (List ℕ)). Told hearing bs members tell.0) blocks_are tell.2 in
      let rest = goes hearing kind j len calls between last tell.0 v wide here chain later in
      let yes_test : (i == j) ≡ true = eq-eqb i j same in
      subst (λ (b : Bool). Goes hearing kind j len (left_at j calls members) (cond b (Turn side ∷ steps_at j calls) (steps_at j calls))
      (cond b (event ∷ events_at j calls) (events_at j calls)) last w) (sym yes_test) (record {
        stands = rest.stands;
        events_are = ap (λ (e : Event). e ∷ events_at j calls) t.0 ∙ ap (λ (es : List Event). (turned_by kind side w.machine).0 ∷ es) rest.events_are;
        fitting = rest.fitting;
        now = rest.now;
        members_are = rest.members_are;
        told = told_then hearing told_blocks (told_by kind v (steps_at j calls)) (left_at j calls members) (left_at j calls tell.0) rest.now
            (Told-left hearing told_blocks j calls members tell.0 told_here) rest.told;
      })
  | inr apart ↦
      let no_test : (i == j) ≡ false = ne_eqb i j apart in
      let chain : slice_get between.chains j ≡ Some members = does.other_chains j (λ e. apart (sym e)) ∙ is in
      subst (λ (b : Bool). Goes hearing kind j len (left_at j calls members) (cond b (Turn side ∷ steps_at j calls) (steps_at j calls))
      (cond b (event ∷ events_at j calls) (events_at j calls)) last w) (sym no_test)
      (goes hearing kind j len calls between last members w n (does.others kind j w.machine (λ e. apart (sym e)) st) chain later)
]
goes {L} hearing kind j len (Removes i at ∷ calls) first last members w n st is (between, does, later) =
    let here : StandsAt kind between.sources j w.machine = subst (λ (s : SourcesState). StandsAt kind s j w.machine) (sym does.sources) st in
    by_test i j (remove members at) members (λ (left : List L). Goes hearing kind j len (left_at j calls left) (steps_at j calls) (events_at j calls) last w)
    (λ same.
    let chain : slice_get between.chains j ≡ Some (remove members at) = ap (slice_get between.chains) (sym same) ∙ does.removed members (ap (slice_get first.chains) same ∙ is) in
    goes hearing kind j len calls between last (remove members at) w n here chain later)
    (λ apart. goes hearing kind j len calls between last members w n here (does.other_chains j (λ e. apart (sym e)) ∙ is) later)

pub serves : {L : Type 0} (hearing : L → Hearing) (source : OpenedSource L) (calls : List Call) (first last : HubState L) →
    StandsAt source.kind first.sources source.number (started source.window) → slice_get first.chains source.number ≡ Some source.listeners →
    DoAll hearing calls first last → Serves hearing source calls last
serves hearing source calls first last st is all =
    let kind = source.kind in
    let j = source.number in
    let window = source.window in
    let members = source.listeners in
    let room = (state_at kind first.sources j (started window) st).room in
    let long = started_long window (length (with_status window (spelled 4 0))) refl room in
    let g = goes hearing kind j (length (with_status window (spelled 4 0))) calls first last members (from_start window) refl st is all in
    let good : AreFitting (length window) (steps_at j calls) = subst (λ (k : ℕ). AreFitting k (steps_at j calls)) (sym long) g.fitting in
    let wide : 20 ≤ length window = omega (arith, long, room) in
    let taken = taken_by kind window (steps_at j calls) wide good in
    let told : told_by kind (from_start window) (steps_at j calls) ≡ (run_by kind (from_start window) (steps_at j calls)).taken = told_is kind window (steps_at j calls) wide good ∙ sym taken in
    record {
      stands = g.stands;
      events = g.events_are;
      blocks = blocks_by kind window (steps_at j calls);
      taken = taken;
      order = order_by kind window (steps_at j calls) wide good;
      now = g.now;
      members_are = g.members_are;
      told = subst (λ (bs : List (List ℕ)). Told hearing bs (left_at j calls members) g.now) told g.told;
    }

-- the block that a source took is as long as a block's head
pub took_head : (kind : Kind) (side : Side) (event : Event) (i : ℕ) (old new : SourcesState) (m : Machine) → StandsAt kind old i m →
    (event ≡ (turned_by kind side m).0) × StandsAt kind new i (turned_by kind side m).1 → takes event ≡ true → 20 ≤ length (last_in new i)
took_head kind side event i old new m st t took =
    let head = (took_fits kind (length m.window) side m (state_at kind old i m st) (sym (ap takes t.0) ∙ took)).head in
    let last = ap length (last_at kind new i (turned_by kind side m).1 t.1) in
    omega (arith, head, last)

-- no call moves a source
pub stays : {L : Type 0} (hearing : L → Hearing) (calls : List Call) (first last : HubState L) → DoAll hearing calls first last → layouts_in last.sources ≡ layouts_in first.sources
stays {L} hearing [] first last same = ap (λ (h : HubState L). layouts_in h.sources) same
stays hearing (Submits i block ∷ calls) first last (between, does, later) = stays hearing calls between last later ∙ does.layouts
stays hearing (Turns i side event ∷ calls) first last (between, does, later) = stays hearing calls between last later ∙ does.layouts
stays hearing (Removes i at ∷ calls) first last (between, does, later) = stays hearing calls between last later ∙ ap layouts_in does.sources
