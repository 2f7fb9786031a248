-- Runs of either kind.
use Rattle.std.proofs.Common.{◌≡◌, ◌∙◌, ℕ, ◌+◌, ◌<◌, ◌≤◌, ◌⊎◌, inl, inr, nat_lt, cond, Bool, true, false, List, [], ◌∷◌, ◌++◌, length, length-append, take}
use Rattle.std.proofs.Common.{drop, get_or, All, refl, sym, ap, subst, arith, append_assoc}
use Rattle.std.proofs.lemmas.List.{take_more, take-append-le, append-nil, get_or_at}
use Rattle.std.proofs.lemmas.List.Elements.{All-take}
use Rattle.std.proofs.lemmas.Grind.{get_or_tail}
use Rattle.std.proofs.lemmas.Bool.Decides.{nat_tests}
use Rattle.ghes_ack.specs.declared.events.Side.{Side}
use Rattle.ghes_ack.specs.declared.events.Side.TheVariants.{Firmware, Reader}
use Rattle.ghes_ack.specs.declared.events.Event.{Event}
use Rattle.ghes_ack.specs.Machine.{Machine, Situation, Filling, Published, Reading, Cleared, Acknowledged, Fits, at_work, pieces, filling, firmware_turn}
use Rattle.ghes_ack.specs.Machine.{reader_turn, turned, last_taken, InSituation, IsState}
use Rattle.ghes_ack.proofs.Terms.{Turned}
use Rattle.ghes_ack.proofs.Terms.{offered}
use Rattle.ghes_ack.proofs.Terms.{reading}
use Rattle.ghes_ack.specs.Schedules.{Step, Submit, Turn, Watched, after, run, from_start, AreFitting, AreInOrder, submissions}
use Rattle.ghes_ack.proofs.StepLemmas.{submit_keeps, start_is}
use Rattle.ghes_ack.proofs.ScheduleLemmas.{watched_machine, run_state, run_taken, run_order, run_blocks, state_in_order}
use Rattle.ghes_hub.specs.Kinds.{Kind, ByRegister, ByStatus, turned_by}
use Rattle.ghes_hub.proofs.Terms.{settled}
use Rattle.ghes_hub.specs.Runs.{after_by, run_by, takes, told_at, told_by}
use Rattle.ghes_hub.proofs.KindLemmas.{spread, spread_run, spread_submissions, spread_fitting, turned_keeps}

-- the steps of a handover of either kind, as those of one with an acknowledgement
run_as : Kind → Watched → List Step → List Step
run_as ByRegister w steps = steps
run_as ByStatus w steps = spread w steps

same_run : (w : Watched) (steps : List Step) → run w steps ≡ run_by ByRegister w steps
same_run w [] = refl
same_run w (Submit block ∷ steps) = same_run (after w (Submit block)) steps
same_run w (Turn side ∷ steps) = same_run (after w (Turn side)) steps

run_is : (kind : Kind) (w : Watched) (steps : List Step) → run w (run_as kind w steps) ≡ run_by kind w steps
unfolding run_as
run_is ByRegister w steps = same_run w steps
run_is ByStatus w steps = spread_run w steps

as_submissions : (kind : Kind) (w : Watched) (steps : List Step) → submissions (run_as kind w steps) ≡ submissions steps
unfolding run_as
as_submissions ByRegister w steps = refl
as_submissions ByStatus w steps = spread_submissions w steps

as_fitting : (kind : Kind) (len : ℕ) (w : Watched) (steps : List Step) → AreFitting len steps → AreFitting len (run_as kind w steps)
unfolding run_as
as_fitting ByRegister len w steps good = good
as_fitting ByStatus len w steps good = spread_fitting len w steps good

pub state_by : (kind : Kind) (window : List ℕ) (steps : List Step) → 20 ≤ length window → AreFitting (length window) steps → IsState (length window) (run_by kind (from_start window) steps).machine
state_by kind window steps room good =
    subst (λ (w : Watched). IsState (length window) w.machine) (run_is kind (from_start window) steps)
    (run_state window (run_as kind (from_start window) steps) room (as_fitting kind (length window) (from_start window) steps good))

pub blocks_by : (kind : Kind) (window : List ℕ) (steps : List Step) → (run_by kind (from_start window) steps).machine.blocks ≡ submissions steps
blocks_by kind window steps =
    sym (ap (λ (w : Watched). w.machine.blocks) (run_is kind (from_start window) steps))
    ∙ run_blocks window (run_as kind (from_start window) steps)
    ∙ as_submissions kind (from_start window) steps

pub taken_by : (kind : Kind) (window : List ℕ) (steps : List Step) → 20 ≤ length window → AreFitting (length window) steps →
    (run_by kind (from_start window) steps).taken ≡ take (run_by kind (from_start window) steps).machine.taken (submissions steps)
taken_by kind window steps room good =
    let is = run_is kind (from_start window) steps in
    let xs : List Step = run_as kind (from_start window) steps in
    sym (ap (λ (w : Watched). w.taken) is)
    ∙ run_taken window xs room (as_fitting kind (length window) (from_start window) steps good)
    ∙ ap (take (run (from_start window) xs).machine.taken) (run_blocks window xs ∙ as_submissions kind (from_start window) steps)
    ∙ ap (λ (w : Watched). take w.machine.taken (submissions steps)) is

pub order_by : (kind : Kind) (window : List ℕ) (steps : List Step) → 20 ≤ length window → AreFitting (length window) steps → AreInOrder (run_by kind (from_start window) steps).machine
order_by kind window steps room good =
    subst (λ (w : Watched). AreInOrder w.machine) (run_is kind (from_start window) steps)
    (run_order window (run_as kind (from_start window) steps) room (as_fitting kind (length window) (from_start window) steps good))

-- what a turn tells is what it takes
record Tells (m : Machine) (turn : Turned) : Type 0 where
  blocks : turn.1.blocks ≡ m.blocks
  told : take turn.1.taken m.blocks ≡ take m.taken m.blocks ++ told_at turn.0 (last_taken turn.1)

none_told : (m : Machine) → take m.taken m.blocks ≡ take m.taken m.blocks ++ []
none_told m = sym (append-nil (take m.taken m.blocks))

offered_tells : (m : Machine) (xs : List (List ℕ)) → Tells m (offered m xs)
offered_tells m [] = record { blocks = refl; told = none_told m }
offered_tells m (block ∷ waiting) = test (nat_lt m.filled (pieces block)) refl where
  test : (b : Bool) → nat_lt m.filled (pieces block) ≡ b → Tells m (filling m block)
  test true e = rw e (record { blocks = refl; told = none_told m })
  test false e = rw e (record { blocks = refl; told = none_told m })

firmware_tells : (m : Machine) (s : Situation) → Tells m (firmware_turn m s)
firmware_tells m Filling = offered_tells m (drop m.published m.blocks)
firmware_tells m Published = record { blocks = refl; told = none_told m }
firmware_tells m Reading = record { blocks = refl; told = none_told m }
firmware_tells m Cleared = record { blocks = refl; told = none_told m }
firmware_tells m Acknowledged = record { blocks = refl; told = none_told m }

-- the block taken last is the next one
taken_next : (m : Machine) → get_or ([] ∷ m.blocks) (m.taken + 1) [] ≡ get_or m.blocks m.taken []
taken_next m = get_or_tail [] m.blocks (m.taken + 1) [] (omega arith) ∙ ap (λ (k : ℕ). get_or m.blocks k []) (omega arith)

reading_tells : (m : Machine) (block : List ℕ) → (m.taken < length m.blocks) ⊎ (nat_lt m.copied (pieces block) ≡ false) → Tells m (reading m block)
reading_tells m block more = test (nat_lt (m.copied + 1) (pieces block)) (nat_lt m.copied (pieces block)) refl refl where
  took : nat_lt m.copied (pieces block) ≡ true → take (m.taken + 1) m.blocks ≡ take m.taken m.blocks ++ get_or ([] ∷ m.blocks) (m.taken + 1) [] ∷ []
  took e = elim more [ inl there ↦ take_more m.blocks m.taken [] there ∙ ap (λ (x : List ℕ). take m.taken m.blocks ++ x ∷ []) (sym (taken_next m)) | inr over ↦ absurd (let n = sym e ∙ over in cc) ]

  test : (a b : Bool) → nat_lt (m.copied + 1) (pieces block) ≡ a → nat_lt m.copied (pieces block) ≡ b → Tells m (reading m block)
  test true b e f = rw e (record { blocks = refl; told = none_told m })
  test false true e f = rw (e, f) (record { blocks = refl; told = took f })
  test false false e f = rw (e, f) (record { blocks = refl; told = none_told m })

reader_tells : (m : Machine) (s : Situation) → InSituation m s → Tells m (reader_turn m s)
reader_tells m Filling st = record { blocks = refl; told = none_told m }
reader_tells m Published st = record { blocks = refl; told = none_told m }
reader_tells m Reading (inl h) = reading_tells m (at_work m) (inl (let t = h.1.taken_is in let k = h.1.there in omega (arith, t, k)))
reader_tells m Reading (inr h) = reading_tells m (at_work m) (inr (let k = h.0 in grind (arith, nat_tests)))
reader_tells m Cleared st = record { blocks = refl; told = none_told m }
reader_tells m Acknowledged st = record { blocks = refl; told = none_told m }

turned_tells : (len : ℕ) (side : Side) (m : Machine) → IsState len m → Tells m (turned side m)
turned_tells len Firmware m st = firmware_tells m m.situation
turned_tells len Reader m st = reader_tells m m.situation st.holds

settled_tells : (m : Machine) (event : Event) (t : Machine) (s : Situation) → Tells m (event, t) → Tells m (event, settled t s)
settled_tells m event t Filling h = h
settled_tells m event t Published h = h
settled_tells m event t Reading h = h
settled_tells m event t Acknowledged h = h
settled_tells m event t Cleared h = record { blocks = h.blocks; told = h.told }

by_tells : (kind : Kind) (len : ℕ) (side : Side) (m : Machine) → IsState len m → Tells m (turned_by kind side m)
by_tells ByRegister len side m st = turned_tells len side m st
by_tells ByStatus len side m st = settled_tells m (turned side m).0 (turned side m).1 (turned side m).1.situation (turned_tells len side m st)

told_run : (kind : Kind) (len : ℕ) (w : Watched) (steps : List Step) → AreFitting len steps → IsState len w.machine →
    take w.machine.taken w.machine.blocks ++ told_by kind w steps ≡ take (run_by kind w steps).machine.taken (run_by kind w steps).machine.blocks
told_run kind len w [] good st = append-nil (take w.machine.taken w.machine.blocks)
told_run kind len w (Submit block ∷ steps) good st =
    let o = state_in_order len w.machine st in
    let t = o.taken in
    let s = o.submitted in
    ap (λ (xs : List (List ℕ)). xs ++ told_by kind (after_by kind w (Submit block)) steps) (sym (take-append-le w.machine.taken w.machine.blocks (block ∷ []) (omega (arith, t, s))))
    ∙ told_run kind len (after_by kind w (Submit block)) steps good.1 (submit_keeps len w.machine block good.0 st)
told_run kind len w (Turn side ∷ steps) good st =
    let event = (turned_by kind side w.machine).0 in
    let m = (turned_by kind side w.machine).1 in
    let v : Watched = after_by kind w (Turn side) in
    let is : v.machine ≡ m = watched_machine w event m in
    let h = by_tells kind len side w.machine st in
    let now : take w.machine.taken w.machine.blocks ++ told_at event (last_taken m) ≡ take v.machine.taken v.machine.blocks =
    sym h.told ∙ ap (take m.taken) (sym h.blocks) ∙ sym (ap (λ (k : Machine). take k.taken k.blocks) is) in
    sym (append_assoc (take w.machine.taken w.machine.blocks) (told_at event (last_taken m)) (told_by kind v steps))
    ∙ ap (λ (xs : List (List ℕ)). xs ++ told_by kind v steps) now
    ∙ told_run kind len v steps good (subst (IsState len) (sym is) (turned_keeps kind len side w.machine st))

-- the listeners are told of the blocks that were taken, in order
pub told_is : (kind : Kind) (window : List ℕ) (steps : List Step) → 20 ≤ length window → AreFitting (length window) steps →
    told_by kind (from_start window) steps ≡ take (run_by kind (from_start window) steps).machine.taken (submissions steps)
told_is kind window steps room good =
    told_run kind (length window) (from_start window) steps good (start_is window room)
    ∙ ap (take (run_by kind (from_start window) steps).machine.taken) (blocks_by kind window steps)

-- a block that was taken is one that the window takes
pub took_fits : (kind : Kind) (len : ℕ) (side : Side) (m : Machine) → IsState len m → takes (turned_by kind side m).0 ≡ true → Fits len (last_taken (turned_by kind side m).1)
took_fits kind len side m st took =
    let h = by_tells kind len side m st in
    let t = (turned_by kind side m).1 in
    let told : take t.taken m.blocks ≡ take m.taken m.blocks ++ last_taken t ∷ [] = h.told ∙ ap (λ (b : Bool). take m.taken m.blocks ++ cond b (last_taken t ∷ []) []) took in
    let all : All (Fits len) (take m.taken m.blocks ++ last_taken t ∷ []) = subst (All (Fits len)) told (All-take (Fits len) t.taken m.blocks st.blocks) in
    let n = length-append (take m.taken m.blocks) (last_taken t ∷ []) in
    subst (Fits len) (get_or_at (take m.taken m.blocks) (last_taken t) [] [] (length (take m.taken m.blocks)) refl) (all (length (take m.taken m.blocks)) [] (omega (arith, n)))
