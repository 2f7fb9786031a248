-- What whole schedules keep.
use Rattle.std.proofs.Common.{◌≡◌, ℕ, ◌+◌, ◌*◌, ◌<◌, ◌≤◌, inl, inr, nat_lt, Bool, true, false, List, [], ◌∷◌, ◌++◌, length, take, drop, get_or, refl, sym, ap, ◌∙◌, arith, append_assoc}
use Rattle.std.proofs.lemmas.List.{take_all, take-append-le, append-nil, get_or_append_left}
use Rattle.std.proofs.lemmas.List.{take_more}
use Rattle.std.proofs.lemmas.Bool.Decides.{nat_tests}
use Rattle.ghes_ack.specs.declared.events.Side.{Side}
use Rattle.ghes_ack.specs.declared.events.Side.TheVariants.{Firmware, Reader}
use Rattle.ghes_ack.specs.declared.events.Event.{Event}
use Rattle.ghes_ack.specs.declared.events.Event.TheVariants.{Idle, Fill, Publish, Free, Wait, Nothing, Found, Copied, Took, Clear, Ack}
use Rattle.ghes_ack.specs.Machine.{Machine, Situation, Filling, Published, Reading, Cleared, Acknowledged, at_work, pieces, filling, firmware_turn, reader_turn}
use Rattle.ghes_ack.specs.Machine.{turned, submitted, IsWhole, InSituation, IsState}
use Rattle.ghes_ack.proofs.Terms.{IsReading}
use Rattle.ghes_ack.proofs.Terms.{offered}
use Rattle.ghes_ack.proofs.Terms.{reading}
use Rattle.ghes_ack.specs.Schedules.{Step, Submit, Turn, Watched, next_piece, watched, after, run, from_start, AreFitting, submissions, AreInOrder}
use Rattle.ghes_ack.proofs.PieceLemmas.{next_copied}
use Rattle.ghes_ack.proofs.StepLemmas.{turn_keeps, submit_keeps, start_is}

-- the reader has what it took, and of the block at work what it copied
record Seen (w : Watched) : Type 0 where
  taken : w.taken ≡ take w.machine.taken w.machine.blocks
  copied : w.machine.situation ≡ Reading → w.machine.copied < pieces (at_work w.machine) → w.copied ≡ take (64 * w.machine.copied) (at_work w.machine)

firmware_seen : (w : Watched) (s : Situation) → w.machine.situation ≡ s → Seen w → Seen (watched w (firmware_turn w.machine s).0 (firmware_turn w.machine s).1)
firmware_seen w Filling now h = go (drop w.machine.published w.machine.blocks) where
  go : (xs : List (List ℕ)) → Seen (watched w (offered w.machine xs).0 (offered w.machine xs).1)
  go [] = record { taken = h.taken; copied = h.copied }
  go (block ∷ waiting) = test (nat_lt w.machine.filled (pieces block)) refl where
    test : (b : Bool) → nat_lt w.machine.filled (pieces block) ≡ b → Seen (watched w (filling w.machine block).0 (filling w.machine block).1)
    test true e = rw e (record { taken = h.taken; copied = λ r. absurd (let n = sym now ∙ r in cc) })
    test false e = rw e (record { taken = h.taken; copied = λ r. absurd cc })
firmware_seen w Published now h = record { taken = h.taken; copied = h.copied }
firmware_seen w Reading now h = record { taken = h.taken; copied = h.copied }
firmware_seen w Cleared now h = record { taken = h.taken; copied = h.copied }
firmware_seen w Acknowledged now h = record { taken = h.taken; copied = λ r. absurd cc }

-- the next piece of a block that the window holds whole
copied_more : (w : Watched) (t : ℕ) → IsWhole w.machine t → w.machine.copied < pieces (at_work w.machine) → w.copied ≡ take (64 * w.machine.copied) (at_work w.machine) →
    w.copied ++ next_piece w.machine ≡ take (64 * (w.machine.copied + 1)) (at_work w.machine)
copied_more w t h more so_far =
    let step : 64 * w.machine.copied + 64 ≡ 64 * (w.machine.copied + 1) = omega arith in
    ap (λ (x : List ℕ). x ++ next_piece w.machine) so_far
    ∙ next_copied w.machine.window (at_work w.machine) (64 * w.machine.copied) h.whole (omega (arith, more))
    ∙ ap (λ (n : ℕ). take n (at_work w.machine)) step

reading_seen : (w : Watched) → w.machine.situation ≡ Reading → IsReading w.machine → Seen w → Seen (watched w (reading w.machine (at_work w.machine)).0 (reading w.machine (at_work w.machine)).1)
reading_seen w now (inl r) h = test (nat_lt (w.machine.copied + 1) (pieces (at_work w.machine))) refl where
  test : (b : Bool) → nat_lt (w.machine.copied + 1) (pieces (at_work w.machine)) ≡ b → Seen (watched w (reading w.machine (at_work w.machine)).0 (reading w.machine (at_work w.machine)).1)
  test true e = rw e (record { taken = h.taken; copied = λ _ _. copied_more w 0 r.1 r.0 (h.copied now r.0) })
  test false e =
      let less : nat_lt w.machine.copied (pieces (at_work w.machine)) ≡ true = (let more = r.0 in grind (arith, nat_tests)) in
      let last : length (at_work w.machine) ≤ 64 * (w.machine.copied + 1) = (let more = r.0 in grind (arith, nat_tests)) in
      let all : w.copied ++ next_piece w.machine ≡ at_work w.machine = copied_more w 0 r.1 r.0 (h.copied now r.0) ∙ take_all (64 * (w.machine.copied + 1)) (at_work w.machine) last in
      let t : w.machine.taken ≡ w.machine.acknowledged = (let k = r.1.taken_is in omega (arith, k)) in
      let more : take (w.machine.taken + 1) w.machine.blocks ≡ take w.machine.taken w.machine.blocks ++ at_work w.machine ∷ [] =
      (let there = r.1.there in take_more w.machine.blocks w.machine.taken [] (omega (arith, t, there)))
      ∙ ap (λ (k : ℕ). take w.machine.taken w.machine.blocks ++ get_or w.machine.blocks k [] ∷ []) t in
      rw (e, less) (record {
        taken = ap (λ (x : List ℕ). w.taken ++ x ∷ []) all ∙ ap (λ (x : List (List ℕ)). x ++ at_work w.machine ∷ []) h.taken ∙ sym more;
        copied = λ _ k. absurd (let m = r.0 in grind (arith, nat_tests));
      })
reading_seen w now (inr r) h =
    let all = r.0 in
    let over : nat_lt (w.machine.copied + 1) (pieces (at_work w.machine)) ≡ false = grind (arith, nat_tests) in
    let done : nat_lt w.machine.copied (pieces (at_work w.machine)) ≡ false = grind (arith, nat_tests) in
    rw (over, done) (record { taken = h.taken; copied = λ r2. absurd cc })

reader_seen : (w : Watched) (s : Situation) → w.machine.situation ≡ s → InSituation w.machine s → Seen w → Seen (watched w (reader_turn w.machine s).0 (reader_turn w.machine s).1)
reader_seen w Filling now st h = record { taken = h.taken; copied = h.copied }
reader_seen w Published now st h = record { taken = h.taken; copied = λ _ _. refl }
reader_seen w Reading now st h = reading_seen w now st h
reader_seen w Cleared now st h = record { taken = h.taken; copied = λ r. absurd cc }
reader_seen w Acknowledged now st h = record { taken = h.taken; copied = h.copied }

turn_seen : (len : ℕ) (w : Watched) (side : Side) → IsState len w.machine → Seen w → Seen (after w (Turn side))
turn_seen len w Firmware st h = firmware_seen w w.machine.situation refl h
turn_seen len w Reader st h = reader_seen w w.machine.situation refl st.holds h

-- the numbers are in order
in_order : (m : Machine) (s : Situation) → InSituation m s → AreInOrder m
in_order m Filling h = let p = h.published in let t = h.taken in let a = h.all in record {
  acknowledged = omega (arith, t);
  taken = omega (arith, p, t);
  published = omega (arith, p);
  submitted = omega (arith, p, a);
}
in_order m Published h = let p = h.published in let t = h.taken_is in let a = h.there in record {
  acknowledged = omega (arith, t);
  taken = omega (arith, p, t);
  published = omega (arith, p);
  submitted = omega (arith, p, a);
}
in_order m Reading (inl h) = let p = h.1.published in let t = h.1.taken_is in let a = h.1.there in record {
  acknowledged = omega (arith, t);
  taken =
      omega (arith, p, t);
  published = omega (arith, p);
  submitted = omega (arith, p, a);
}
in_order m Reading (inr h) = let p = h.1.published in let t = h.1.taken_is in let a = h.1.there in record {
  acknowledged = omega (arith, t);
  taken =
      omega (arith, p, t);
  published = omega (arith, p);
  submitted = omega (arith, p, a);
}
in_order m Cleared h = let p = h.published in let t = h.taken in let a = h.all in record {
  acknowledged = omega (arith, t);
  taken = omega (arith, p, t);
  published = omega (arith, p);
  submitted = omega (arith, p, a);
}
in_order m Acknowledged h = let p = h.published in let t = h.taken in let a = h.all in record {
  acknowledged = omega (arith, t);
  taken = omega (arith, p, t);
  published = omega (arith, p);
  submitted = omega (arith, p, a);
}

pub state_in_order : (len : ℕ) (m : Machine) → IsState len m → AreInOrder m
state_in_order len m st = in_order m m.situation st.holds

pub submitted_at_work : (m : Machine) (block : List ℕ) (s : Situation) → s ≡ Reading → InSituation m s → at_work (submitted m block) ≡ at_work m
submitted_at_work m block Reading r (inl h) = get_or_append_left m.blocks (block ∷ []) [] m.acknowledged h.1.there
submitted_at_work m block Reading r (inr h) = get_or_append_left m.blocks (block ∷ []) [] m.acknowledged h.1.there
submitted_at_work m block Filling r h = absurd cc
submitted_at_work m block Published r h = absurd cc
submitted_at_work m block Cleared r h = absurd cc
submitted_at_work m block Acknowledged r h = absurd cc

submit_seen : (len : ℕ) (w : Watched) (block : List ℕ) → IsState len w.machine → Seen w → Seen (after w (Submit block))
submit_seen len w block st h =
    let o = state_in_order len w.machine st in
    let t = o.taken in
    let s = o.submitted in
    record {
      taken = h.taken ∙ sym (take-append-le w.machine.taken w.machine.blocks (block ∷ []) (omega (arith, t, s)));
      copied = λ r more. let same = submitted_at_work w.machine block w.machine.situation r st.holds in rw same (h.copied r (rw (sym same) more));
    }

record Holds (len : ℕ) (w : Watched) : Type 0 where
  state : IsState len w.machine
  seen : Seen w

run_holds : (len : ℕ) (w : Watched) (steps : List Step) → AreFitting len steps → Holds len w → Holds len (run w steps)
run_holds len w [] good h = h
run_holds len w (Submit block ∷ steps) good h =
    run_holds len (after w (Submit block)) steps good.1 (record { state = submit_keeps len w.machine block good.0 h.state; seen = submit_seen len w block h.state h.seen })
run_holds len w (Turn side ∷ steps) good h =
    run_holds len (after w (Turn side)) steps good (record { state = turned_state (turned side w.machine).0 (turn_keeps len side w.machine h.state); seen = turn_seen len w side h.state h.seen }) where
      turned_state : (event : Event) → IsState len (turned side w.machine).1 → IsState len (watched w event (turned side w.machine).1).machine
      turned_state Idle st = st
      turned_state Fill st = st
      turned_state Publish st = st
      turned_state Free st = st
      turned_state Wait st = st
      turned_state Nothing st = st
      turned_state Found st = st
      turned_state Copied st = st
      turned_state Took st = st
      turned_state Clear st = st
      turned_state Ack st = st

start_holds : (window : List ℕ) → 20 ≤ length window → Holds (length window) (from_start window)
start_holds window room = record { state = start_is window room; seen = record { taken = refl; copied = λ r. absurd cc } }

pub run_state : (window : List ℕ) (steps : List Step) → 20 ≤ length window → AreFitting (length window) steps → IsState (length window) (run (from_start window) steps).machine
run_state window steps room good = (run_holds (length window) (from_start window) steps good (start_holds window room)).state

pub run_taken : (window : List ℕ) (steps : List Step) → 20 ≤ length window → AreFitting (length window) steps →
    (run (from_start window) steps).taken ≡ take (run (from_start window) steps).machine.taken (run (from_start window) steps).machine.blocks
run_taken window steps room good = (run_holds (length window) (from_start window) steps good (start_holds window room)).seen.taken

pub run_order : (window : List ℕ) (steps : List Step) → 20 ≤ length window → AreFitting (length window) steps → AreInOrder (run (from_start window) steps).machine
run_order window steps room good = state_in_order (length window) (run (from_start window) steps).machine (run_state window steps room good)

-- no turn changes the list of blocks
offered_blocks : (m : Machine) (xs : List (List ℕ)) → (offered m xs).1.blocks ≡ m.blocks
offered_blocks m [] = refl
offered_blocks m (block ∷ waiting) = test (nat_lt m.filled (pieces block)) refl where
  test : (b : Bool) → nat_lt m.filled (pieces block) ≡ b → (filling m block).1.blocks ≡ m.blocks
  test true e = rw e refl
  test false e = rw e refl

reading_blocks : (m : Machine) (block : List ℕ) → (reading m block).1.blocks ≡ m.blocks
reading_blocks m block = test (nat_lt (m.copied + 1) (pieces block)) (nat_lt m.copied (pieces block)) refl refl where
  test : (a b : Bool) → nat_lt (m.copied + 1) (pieces block) ≡ a → nat_lt m.copied (pieces block) ≡ b → (reading m block).1.blocks ≡ m.blocks
  test true b e f = rw e refl
  test false true e f = rw (e, f) refl
  test false false e f = rw (e, f) refl

firmware_blocks : (m : Machine) (s : Situation) → (firmware_turn m s).1.blocks ≡ m.blocks
firmware_blocks m Filling = offered_blocks m (drop m.published m.blocks)
firmware_blocks m Published = refl
firmware_blocks m Reading = refl
firmware_blocks m Cleared = refl
firmware_blocks m Acknowledged = refl

reader_blocks : (m : Machine) (s : Situation) → (reader_turn m s).1.blocks ≡ m.blocks
reader_blocks m Filling = refl
reader_blocks m Published = refl
reader_blocks m Reading = reading_blocks m (at_work m)
reader_blocks m Cleared = refl
reader_blocks m Acknowledged = refl

turned_blocks : (side : Side) (m : Machine) → (turned side m).1.blocks ≡ m.blocks
turned_blocks Firmware m = firmware_blocks m m.situation
turned_blocks Reader m = reader_blocks m m.situation

pub watched_machine : (w : Watched) (event : Event) (m : Machine) → (watched w event m).machine ≡ m
watched_machine w Idle m = refl
watched_machine w Fill m = refl
watched_machine w Publish m = refl
watched_machine w Free m = refl
watched_machine w Wait m = refl
watched_machine w Nothing m = refl
watched_machine w Found m = refl
watched_machine w Copied m = refl
watched_machine w Took m = refl
watched_machine w Clear m = refl
watched_machine w Ack m = refl

run_blocks_from : (w : Watched) (steps : List Step) → (run w steps).machine.blocks ≡ w.machine.blocks ++ submissions steps
run_blocks_from w [] = sym (append-nil w.machine.blocks)
run_blocks_from w (Submit block ∷ steps) = run_blocks_from (after w (Submit block)) steps ∙ append_assoc w.machine.blocks (block ∷ []) (submissions steps)
run_blocks_from w (Turn side ∷ steps) =
    run_blocks_from (after w (Turn side)) steps
    ∙ ap (λ (xs : List (List ℕ)). xs ++ submissions steps) (ap (λ (m : Machine). m.blocks) (watched_machine w (turned side w.machine).0 (turned side w.machine).1) ∙ turned_blocks side w.machine)

pub run_blocks : (window : List ℕ) (steps : List Step) → (run (from_start window) steps).machine.blocks ≡ submissions steps
run_blocks window steps = run_blocks_from (from_start window) steps
