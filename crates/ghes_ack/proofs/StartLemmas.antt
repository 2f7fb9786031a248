-- A start and a submission.
use Rattle.std.proofs.Common.{◌≡◌, ◌∙◌, ℕ, ◌+◌, ◌-◌, ◌<◌, ◌≤◌, ◌⊎◌, inl, inr, nat_lt, ◌==◌, cond, Bool, true, false, List, [], ◌∷◌, ◌++◌, length, map, Option}
use Rattle.std.proofs.Common.{Some, None, option_to_list, Result, Ok, Vec, refl, sym, ap, subst, arith, append_assoc, length-append}
use Rattle.std.specs.declared.alloc.Global.{Global}
use Rattle.std.proofs.lemmas.List.{drop-append-le, get_or_append_left, length-map}
use Rattle.std.proofs.lemmas.Bool.Decides.{nat_tests}
use Rattle.std.proofs.lemmas.Bool.{cases_lt}
use Rattle.base_model.specs.Bytes.{spelled}
use Rattle.base_model.proofs.BytesLemmas.{length-spelled}
use Rattle.apei_space.specs.RamState.{RamState}
use Rattle.ghes_block.specs.declared.error.BlockError.{BlockError}
use Rattle.ghes_block.specs.Reading.{checked}
use Rattle.ghes_block.proofs.Terms.{status_at}
use Rattle.ghes_ack.specs.declared.maps.HandoverMap.{HandoverMap}
use Rattle.ghes_ack.specs.declared.window.BlockWindow.{BlockWindow}
use Rattle.ghes_ack.specs.declared.window_blocks.Blocks.{Blocks}
use Rattle.ghes_ack.specs.WindowQueues.{IsEmpty, Adds}
use Rattle.ghes_ack.specs.Machine.{Machine, Situation, Filling, Published, Reading, Cleared, Acknowledged, Fits, with_status, started, submitted, waiting_in, InSituation, IsState}
use Rattle.ghes_ack.specs.Maps.{HasAckBits, HasWindows, ack_read, window, with_ack, with_address, memory_started, IsSet, ack_mask}
use Rattle.ghes_ack.specs.Handovers.{HandoverState, fresh, StandsFor}
use Rattle.ghes_ack.specs.Windows.{address_at}
use Rattle.ghes_ack.proofs.Terms.{reason}
use Rattle.ghes_ack.specs.Submissions.{refusal_of}
use Rattle.ghes_ack.specs.declared.submission.SubmitError.{SubmitError}
use Rattle.ghes_ack.specs.declared.submission.SubmitError.TheVariants.{Long, Trailing, Full}
use Rattle.std.specs.VecDeque.{deque_len}
use Rattle.ghes_ack.specs.declared.ends.Ends.{Ends}
use Rattle.ghes_ack.specs.Sides.{AreConsistent, state_of, view_of, in_work}
use Rattle.ghes_ack.proofs.Terms.{situation_in}
use Rattle.ghes_ack.proofs.StepLemmas.{start_is, submit_keeps}
use Rattle.ghes_ack.proofs.ScheduleLemmas.{state_in_order}
use Rattle.ghes_ack.proofs.MemoryLemmas.{length-window, window-with_window, address-with_window, address-with_ack, address-with_address, HasWindows-with_ack, HasWindows-with_address}
use Rattle.ghes_ack.proofs.EffectLemmas.{windows_window, length-status}
use Rattle.ghes_ack.proofs.Kept.{Kept, Agrees, kept_over}
use Rattle.ghes_ack.proofs.TurnLemmas.{kept_with, agrees, stands_by}
use Rattle.std.specs.Prelude.{bit_or}

-- the two sides of a start, with no block
pub fresh_is : {M : Type 0} (b : Blocks M) → IsEmpty b → state_of Filling b ≡ fresh b.map
fresh_is b e =
    let waiting : map (λ v. v.items) b.waiting.items ≡ [] = ap (map (λ v. v.items)) e.waiting in
    let work : in_work Filling b.at_work b.last ≡ None = ap (λ (o : Option (Vec ℕ Global)). in_work Filling o b.last) e.at_work in
    let filled = e.filled in
    let copied = e.copied in
    let last = e.last in
    cc

pub fresh_agrees : {M : Type 0} (at : M) (len : ℕ) (window : List ℕ) → length window ≡ len → 20 ≤ len → Agrees (kept_over len (fresh at) (with_status window (spelled 4 0))) (started window)
fresh_agrees at len window n head = record {
  state = subst (λ (k : ℕ). IsState k (started window)) n (start_is window (omega (arith, n, head)));
  bytes_are = refl;
  situation_is = refl;
  blocks = refl;
  wait = refl;
  filled_is = refl;
  copied_is = refl;
  last_is = refl;
}

pub fresh_stands : (at : HandoverMap) (ram new : RamState) → HasWindows at ram → new ≡ memory_started at ram → IsSet at new → StandsFor (fresh at) new (started (window at ram))
fresh_stands at ram new w is set =
    let a : RamState = with_address at ram in
    let x : ℕ = bit_or (ack_read at ram) (ack_mask at) in
    let w_a = HasWindows-with_address at ram w in
    let w_b = HasWindows-with_ack at a x w_a in
    let bytes : List ℕ = with_status (window at ram) (spelled 4 0) in
    let wide = length-status at ram (spelled 4 0) (length-spelled 4 0) w in
    stands_by (fresh at) new bytes (started (window at ram)) (fresh_agrees at at.len (window at ram) (length-window at ram w) w.head)
    (sym (ap (window at) is ∙ window-with_window at (with_ack at a x) bytes w_b wide)) (windows_window at (with_ack at a x) new bytes is wide w_b)
    (ap (address_at at.status) is ∙ address-with_window at (with_ack at a x) bytes w_b wide ∙ address-with_ack at a x w_a ∙ address-with_address at ram w) set

pub record IsBegun (at : HandoverMap) (h : HandoverState) (ram new : RamState) : Type 0 where
  pub fresh_is : h ≡ fresh at
  pub stands : StandsFor h new (started (window at ram))

pub begun : (at : HandoverMap) (b : Blocks HandoverMap) (ram new : RamState) → b.map ≡ at → IsEmpty b → HasWindows at ram → new ≡ memory_started at ram →
    IsSet at new → IsBegun at (state_of Filling b) ram new
begun at b ram new same e w is set =
    let all : state_of Filling b ≡ fresh at = fresh_is b e ∙ ap fresh same in
    record {
      fresh_is = all;
      stands = subst (λ (h : HandoverState). StandsFor h new (started (window at ram))) (sym all) (fresh_stands at ram new w is set);
    }

-- a block that was read whole has a head and is published
pub checked_fits : (bytes : List ℕ) (n len : ℕ) → checked bytes ≡ Ok n → length bytes ≤ len → Fits len bytes
unfolding checked
checked_fits bytes n len is room = go (nat_lt (length bytes) 20) (status_at bytes == 0) refl refl where
  go : (a b : Bool) → nat_lt (length bytes) 20 ≡ a → (status_at bytes == 0) ≡ b → Fits len bytes
  go true b e f = absurd (let x = rw e at is in cc)
  go false true e f = absurd (let x = rw (e, f) at is in cc)
  go false false e f = record { head = grind (arith, nat_tests); fits = room; published = grind (arith, nat_tests) }

-- a block whose pieces are filled is one of those submitted
filled_in : (m : Machine) (s : Situation) → InSituation m s → 0 < m.filled → m.published < length m.blocks
filled_in m Filling h some = let b = h.begun some in let p = h.published in omega (arith, b, p)
filled_in m Published h some = let z = h.none_filled in absurd (omega (arith, z, some))
filled_in m Reading (inl h) some = let z = h.1.none_filled in absurd (omega (arith, z, some))
filled_in m Reading (inr h) some = let z = h.1.none_filled in absurd (omega (arith, z, some))
filled_in m Cleared h some = let z = h.none_filled in absurd (omega (arith, z, some))
filled_in m Acknowledged h some = let z = h.none_filled in absurd (omega (arith, z, some))

-- one more waits
waits_more : (m : Machine) (block : List ℕ) → m.published ≤ length m.blocks → (0 < m.filled → m.published < length m.blocks) → waiting_in m + 1 ≡ waiting_in (submitted m block)
waits_more m block few begun = go (cases_lt 0 m.filled) where
  n : length (m.blocks ++ block ∷ []) ≡ length m.blocks + 1
  n = length-append m.blocks (block ∷ [])

  go : (0 < m.filled) ⊎ (m.filled ≤ 0) → waiting_in m + 1 ≡ waiting_in (submitted m block)
  go (inl some) =
      let e : (m.filled == 0) ≡ false = grind (arith, nat_tests) in
      let b = begun some in
      let k = n in
      rw e (omega (arith, b, k))
  go (inr none) =
      let e : (m.filled == 0) ≡ true = grind (arith, nat_tests) in
      let k = n in
      rw e (omega (arith, few, k))

-- a block that fits is one more of those that it agrees with
pub submits_more : (k : Kept) (m : Machine) (block : List ℕ) (held : List (List ℕ)) (waiting : ℕ) → held ≡ k.held ++ block ∷ [] → waiting ≡ k.waiting + 1 → Fits k.len block → Agrees k m →
    Agrees (record k { held = held; waiting = waiting }) (submitted m block)
submits_more k m block held waiting is_held is_waiting good a =
    let o = state_in_order k.len m a.state in
    let n = o.acknowledged in
    let t = o.taken in
    let s = o.submitted in
    record {
      state = submit_keeps k.len m block good a.state;
      bytes_are = a.bytes_are;
      situation_is = a.situation_is;
      blocks = is_held ∙ ap (λ (xs : List (List ℕ)). xs ++ block ∷ []) a.blocks ∙ sym (drop-append-le m.acknowledged m.blocks (block ∷ []) (omega (arith, n, t, s)));
      wait = is_waiting ∙ ap (λ (i : ℕ). i + 1) a.wait ∙ waits_more m block s (filled_in m m.situation a.state.holds);
      filled_is = a.filled_is;
      copied_is = a.copied_is;
      last_is = a.last_is ∙ sym (get_or_append_left ([] ∷ m.blocks) (block ∷ []) [] m.taken (omega (arith, t, s)));
    }

pub submits : (h : HandoverState) (ram : RamState) (m : Machine) (block : List ℕ) → Fits h.map.len block → StandsFor h ram m →
    StandsFor (record h { waiting = h.waiting ++ block ∷ [] }) ram (submitted m block)
submits h ram m block good st =
    let more = submits_more (kept_with h (window h.map ram)) m block (option_to_list h.at_work ++ (h.waiting ++ block ∷ [])) (length (h.waiting ++ block ∷ []))
    (sym (append_assoc (option_to_list h.at_work) h.waiting (block ∷ []))) (length-append h.waiting (block ∷ [])) good (agrees h ram m st) in
    stands_by (record h { waiting = h.waiting ++ block ∷ [] }) ram (window h.map ram) (submitted m block) more refl st.windows st.address st.acks

-- the acknowledge bits
pub bits_of : (ends : Option Ends) (b : Blocks HandoverMap) → AreConsistent ends b → HasAckBits b.map
bits_of None b all = absurd all
bits_of (Some ends) b all = all.bits

-- the blocks that wait
pub waiting_of : (ends : Option Ends) (b : Blocks HandoverMap) → AreConsistent ends b → length (view_of ends b).waiting ≡ deque_len b.waiting
waiting_of None b all = absurd all
waiting_of (Some ends) b all = length-map b.waiting.items (λ v. v.items) ∙ all.room.counted

-- a block more
added_in : {M : Type 0} {w : M → BlockWindow} (s : Situation) (b after : Blocks M) (block : List ℕ) → Adds w b after block →
    state_of s after ≡ record (state_of s b) { waiting = (state_of s b).waiting ++ block ∷ [] }
added_in s b after block a =
    let waiting = a.waiting in
    let map_is = a.same.map in
    let filled = a.same.filled in
    let copied = a.same.copied in
    let last = a.same.last in
    let items : after.last.items ≡ b.last.items = ap (λ v. v.items) a.same.last in
    let work : in_work s after.at_work after.last ≡ in_work s b.at_work b.last =
    ap (λ (x : Option (Vec ℕ Global)). in_work s x after.last) a.at_work ∙ ap (λ (x : Vec ℕ Global). in_work s b.at_work x) a.same.last in
    cc

pub added : {M : Type 0} {w : M → BlockWindow} (ends : Option Ends) (b after : Blocks M) (block : List ℕ) → Adds w b after block →
    view_of ends after ≡ record (view_of ends b) { waiting = (view_of ends b).waiting ++ block ∷ [] }
added ends b after block a =
    ap (λ (o : Option (Vec ℕ Global)). state_of (situation_in ends o) after) a.at_work ∙ added_in (situation_in ends b.at_work) b after block a

-- 64 blocks wait
pub full : (len waiting : ℕ) (block : List ℕ) (size : ℕ) → length block ≤ len → checked block ≡ Ok size → length block ≤ size → 64 ≤ waiting → refusal_of len block waiting ≡ Some Full
full len waiting block size fits is whole many =
    let long : nat_lt len (length block) ≡ false = grind (arith, nat_tests) in
    let rest : nat_lt size (length block) ≡ false = grind (arith, nat_tests) in
    let room : nat_lt waiting 64 ≡ false = grind (arith, nat_tests) in
    ap (λ (b : Bool). cond b (Some (Long (length block))) (reason (checked block) (length block) waiting)) long
    ∙ ap (λ (r : Result ℕ BlockError). reason r (length block) waiting) is
    ∙ ap (λ (b : Bool). cond b (Some (Trailing (length block - size))) (cond (nat_lt waiting 64) None (Some Full))) rest
    ∙ ap (λ (b : Bool). cond b None (Some Full)) room

-- by another name of the window's length and of how many wait
pub refused_as : (len other waiting n : ℕ) (block : List ℕ) (r : Option SubmitError) → len ≡ other → n ≡ waiting → refusal_of len block waiting ≡ r → refusal_of other block n ≡ r
refused_as len other waiting n block r same wait is =
    subst (λ (k : ℕ). refusal_of k block n ≡ r) same (subst (λ (k : ℕ). refusal_of len block k ≡ r) (sym wait) is)
