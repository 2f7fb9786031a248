-- Each step of the machine leaves a state of it.
use Rattle.std.proofs.Common.{◌≡◌, ℕ, suc, ◌+◌, ◌-◌, ◌*◌, ◌<◌, ◌≤◌, ◌⊎◌, inl, inr, nat_lt, Bool, true, false, List, [], ◌∷◌, length, take, drop, get_or, All}
use Rattle.std.proofs.Common.{refl, sym, ap, ◌∙◌, subst, arith, length-append, length-drop}
use Rattle.std.proofs.lemmas.List.{length-take, get_or-drop, get_or_append_left, take_all}
use Rattle.std.proofs.lemmas.List.Elements.{All-get_or, All-append, All-nil}
use Rattle.std.proofs.lemmas.Bool.Decides.{nat_tests}
use Rattle.std.proofs.lemmas.Bool.{cases_lt}
use Rattle.base_model.specs.Bytes.{number_at, spelled}
use Rattle.base_model.proofs.BytesLemmas.{length-spelled}
use Rattle.ghes_ack.specs.declared.events.Side.{Side}
use Rattle.ghes_ack.specs.declared.events.Side.TheVariants.{Firmware, Reader}
use Rattle.ghes_ack.specs.Machine.{Machine, Situation, Filling, Published, Reading, Cleared, Acknowledged, Fits, at_work, pieces, hidden, with_piece}
use Rattle.ghes_ack.specs.Machine.{with_status, filling, firmware_turn, reader_turn, turned, started, submitted, IsFilling, IsWhole, IsEmptied, InSituation}
use Rattle.ghes_ack.specs.Machine.{IsState}
use Rattle.ghes_ack.proofs.Terms.{IsReading}
use Rattle.ghes_ack.proofs.Terms.{offered}
use Rattle.ghes_ack.proofs.Terms.{reading}
use Rattle.ghes_ack.proofs.RoomLemmas.{All-one}
use Rattle.ghes_ack.proofs.PieceLemmas.{length-hidden, next_bytes, published_whole, number_at-take, status-cleared, status-hidden, length-with_piece, length-with_status}

pub fits_at_work : (len : ℕ) (m : Machine) → All (Fits len) m.blocks → m.acknowledged < length m.blocks → Fits len (at_work m)
fits_at_work len m all there = All-get_or (Fits len) m.blocks m.acknowledged [] there all

-- the block that is offered is the one at work
pub offered-first : (m : Machine) (block : List ℕ) (waiting : List (List ℕ)) → m.published ≡ m.acknowledged → drop m.published m.blocks ≡ block ∷ waiting →
    (at_work m ≡ block) × (m.acknowledged < length m.blocks)
offered-first m block waiting same is =
    let e : get_or (drop m.published m.blocks) 0 [] ≡ get_or (block ∷ waiting) 0 [] = ap (λ (xs : List (List ℕ)). get_or xs 0 []) is in
    let at : get_or (drop m.published m.blocks) 0 [] ≡ get_or m.blocks (m.published + 0) [] = get_or-drop m.published m.blocks 0 [] in
    let k : m.published + 0 ≡ m.acknowledged = omega (arith, same) in
    let n : length (drop m.published m.blocks) ≡ length m.blocks - m.published = length-drop m.published m.blocks in
    let some : length (drop m.published m.blocks) ≡ suc (length waiting) = ap length is in
    (sym (ap (λ (i : ℕ). get_or m.blocks i []) k) ∙ sym at ∙ e, omega (arith, n, some, same))

-- one more piece is filled
fill_keeps : (len : ℕ) (m : Machine) (block : List ℕ) → IsState len m → m.situation ≡ Filling → IsFilling m → at_work m ≡ block → m.acknowledged < length m.blocks → m.filled < pieces block →
    IsState len (record m { filled = m.filled + 1; window = with_piece m.window block m.filled })
fill_keeps len m block st now h is there more =
    let good : Fits len block = subst (Fits len) is (fits_at_work len m st.blocks there) in
    let four : 4 ≤ length block = let g = good.head in omega (arith, g) in
    let room : length block ≤ length m.window = let g = good.fits in let n = st.window in omega (arith, g, n) in
    let n = length-hidden block in
    let front : take (64 * m.filled) (take (length (hidden block)) m.window) ≡ take (64 * m.filled) (hidden block) =
    subst (λ (k : ℕ). take (64 * m.filled) (take k m.window) ≡ take (64 * m.filled) (hidden block)) (sym n)
    (subst (λ (b : List ℕ). take (64 * m.filled) (take (length b) m.window) ≡ take (64 * m.filled) (hidden b)) is h.filled) in
    let next = next_bytes m.window (hidden block) (64 * m.filled) 64 (omega (arith, n, more)) (omega (arith, n, room)) front in
    let step : 64 * m.filled + 64 ≡ 64 * (m.filled + 1) = omega arith in
    let after : take (64 * (m.filled + 1)) (take (length block) (with_piece m.window block m.filled)) ≡ take (64 * (m.filled + 1)) (hidden block) =
    subst (λ (k : ℕ). take (64 * (m.filled + 1)) (take k (with_piece m.window block m.filled)) ≡ take (64 * (m.filled + 1)) (hidden block)) n
    (subst (λ (k : ℕ). take k (take (length (hidden block)) (with_piece m.window block m.filled)) ≡ take k (hidden block)) step next) in
    let status : number_at (with_piece m.window block m.filled) 0 4 ≡ 0 =
    sym (number_at-take (with_piece m.window block m.filled) (length block) four)
    ∙ sym (number_at-take (take (length block) (with_piece m.window block m.filled)) (64 * (m.filled + 1)) (omega arith))
    ∙ ap (λ (x : List ℕ). number_at x 0 4) after
    ∙ number_at-take (hidden block) (64 * (m.filled + 1)) (omega arith)
    ∙ status-hidden block four in
    record {
      window = length-with_piece m.window block m.filled room more ∙ st.window;
      room = st.room;
      blocks = st.blocks;
      holds = subst (λ (s : Situation). InSituation (record m { filled = m.filled + 1; window = with_piece m.window block m.filled }) s) (sym now) (record {
        published = h.published;
        taken = h.taken;
        all = h.all;
        begun = λ _. there;
        pieces_filled = rw is (omega (arith, more));
        filled = rw is after;
        status = status;
      });
    }

publish_keeps : (len : ℕ) (m : Machine) (block : List ℕ) → IsState len m → IsFilling m → at_work m ≡ block → m.acknowledged < length m.blocks → pieces block ≤ m.filled →
    IsState len (record m { published = m.published + 1; filled = 0; window = with_status m.window (take 4 block); situation = Published })
publish_keeps len m block st h is there none =
    let good : Fits len block = subst (Fits len) is (fits_at_work len m st.blocks there) in
    let four : 4 ≤ length block = let g = good.head in omega (arith, g) in
    let n = length-hidden block in
    let all : take (length block) m.window ≡ hidden block =
    sym (take_all (64 * m.filled) (take (length block) m.window) (let l = length-take (length block) m.window in omega (arith, l, none)))
    ∙ subst (λ (b : List ℕ). take (64 * m.filled) (take (length b) m.window) ≡ take (64 * m.filled) (hidden b)) is h.filled
    ∙ take_all (64 * m.filled) (hidden block) (omega (arith, n, none)) in
    let whole = published_whole m.window block four all in
    record {
      window = length-with_status m.window (take 4 block) (length-take 4 block ∙ omega (arith, four)) (let w = st.window in let r = st.room in omega (arith, w, r)) ∙ st.window;
      room = st.room;
      blocks = st.blocks;
      holds = record {
        published = let p = h.published in omega (arith, p);
        taken_is = let p = h.taken in omega (arith, p);
        there = there;
        none_filled = refl;
        whole = rw is whole;
      };
    }

-- a state with the same window and blocks
same_blocks : (len : ℕ) (m n : Machine) → n.window ≡ m.window → n.blocks ≡ m.blocks → IsState len m → InSituation n n.situation → IsState len n
same_blocks len m n window blocks st holds = record {
  window = ap length window ∙ st.window;
  room = st.room;
  blocks = subst (All (Fits len)) (sym blocks) st.blocks;
  holds = holds;
}

free_keeps : (len : ℕ) (m : Machine) → IsState len m → IsEmptied m 0 → IsState len (record m { situation = Filling })
free_keeps len m st h = same_blocks len m (record m { situation = Filling }) refl refl st (record {
  published = let p = h.published in omega (arith, p);
  taken = let p = h.taken in omega (arith, p);
  all = let p = h.all in omega (arith, p);
  begun = λ some. let z = h.none_filled in absurd (omega (arith, z, some));
  pieces_filled = rw h.none_filled (omega arith);
  filled = rw h.none_filled refl;
  status = h.status;
})

pub firmware_keeps : (len : ℕ) (m : Machine) (s : Situation) → m.situation ≡ s → IsState len m → InSituation m s → IsState len (firmware_turn m s).1
firmware_keeps len m Filling now st h = go (drop m.published m.blocks) refl where
  go : (xs : List (List ℕ)) → drop m.published m.blocks ≡ xs → IsState len (offered m xs).1
  go [] is = st
  go (block ∷ waiting) is = test (nat_lt m.filled (pieces block)) refl where
    test : (b : Bool) → nat_lt m.filled (pieces block) ≡ b → IsState len (filling m block).1
    test true e = let at = offered-first m block waiting h.published is in rw e (fill_keeps len m block st now h at.0 at.1 (grind (arith, nat_tests)))
    test false e = let at = offered-first m block waiting h.published is in rw e (publish_keeps len m block st h at.0 at.1 (grind (arith, nat_tests)))
firmware_keeps len m Published now st h = st
firmware_keeps len m Reading now st h = st
firmware_keeps len m Cleared now st h = st
firmware_keeps len m Acknowledged now st h = free_keeps len m st h

found_keeps : (len : ℕ) (m : Machine) → IsState len m → IsWhole m 0 → IsState len (record m { copied = 0; situation = Reading })
found_keeps len m st h = same_blocks len m (record m { copied = 0; situation = Reading }) refl refl st (inl (
  (let g = (fits_at_work len m st.blocks h.there).head in omega (arith, g)),
  record { published = h.published; taken_is = h.taken_is; there = h.there; none_filled = h.none_filled; whole = h.whole },
))

reading_keeps : (len : ℕ) (m : Machine) → m.situation ≡ Reading → IsState len m → IsReading m → IsState len (reading m (at_work m)).1
reading_keeps len m now st (inl h) = test (nat_lt (m.copied + 1) (pieces (at_work m))) refl where
  copies : IsReading (record m { copied = m.copied + 1 }) → IsState len (record m { copied = m.copied + 1 })
  copies x = same_blocks len m (record m { copied = m.copied + 1 }) refl refl st (subst (λ (s : Situation). InSituation (record m { copied = m.copied + 1 }) s) (sym now) x)

  takes : IsReading (record m { copied = m.copied + 1; taken = m.taken + 1 }) → IsState len (record m { copied = m.copied + 1; taken = m.taken + 1 })
  takes x = same_blocks len m (record m { copied = m.copied + 1; taken = m.taken + 1 }) refl refl st
      (subst (λ (s : Situation). InSituation (record m { copied = m.copied + 1; taken = m.taken + 1 }) s) (sym now) x)

  test : (b : Bool) → nat_lt (m.copied + 1) (pieces (at_work m)) ≡ b → IsState len (reading m (at_work m)).1
  test true e = rw e (copies (inl ((grind (arith, nat_tests)), record { published = h.1.published; taken_is = h.1.taken_is; there = h.1.there; none_filled = h.1.none_filled; whole = h.1.whole })))
  test false e =
      let last : m.copied + 1 ≡ pieces (at_work m) = (let more = h.0 in grind (arith, nat_tests)) in
      let less : nat_lt m.copied (pieces (at_work m)) ≡ true = (let more = h.0 in grind (arith, nat_tests)) in
      rw (e, less) (takes (inr (last, record { published = h.1.published; taken_is = let t = h.1.taken_is in omega (arith, t); there = h.1.there; none_filled = h.1.none_filled; whole = h.1.whole })))
reading_keeps len m now st (inr h) =
    let all = h.0 in
    let over : nat_lt (m.copied + 1) (pieces (at_work m)) ≡ false = grind (arith, nat_tests) in
    let done : nat_lt m.copied (pieces (at_work m)) ≡ false = grind (arith, nat_tests) in
    let w = st.window in
    let r = st.room in
    let room : 4 ≤ length m.window = omega (arith, w, r) in
    rw (over, done) (record {
      window = length-with_status m.window (spelled 4 0) (length-spelled 4 0) room ∙ st.window;
      room = st.room;
      blocks = st.blocks;
      holds = record { published = h.1.published; taken = h.1.taken_is; all = let t = h.1.there in omega (arith, t); none_filled = h.1.none_filled; status = status-cleared m.window room };
    })

ack_keeps : (len : ℕ) (m : Machine) → IsState len m → IsEmptied m 1 → IsState len (record m { acknowledged = m.acknowledged + 1; situation = Acknowledged })
ack_keeps len m st h = same_blocks len m (record m { acknowledged = m.acknowledged + 1; situation = Acknowledged }) refl refl st (record {
  published = let p = h.published in omega (arith, p);
  taken = let p = h.taken in omega (arith, p);
  all = let p = h.all in omega (arith, p);
  none_filled = h.none_filled;
  status = h.status;
})

pub reader_keeps : (len : ℕ) (m : Machine) (s : Situation) → m.situation ≡ s → IsState len m → InSituation m s → IsState len (reader_turn m s).1
reader_keeps len m Filling now st h = st
reader_keeps len m Published now st h = found_keeps len m st h
reader_keeps len m Reading now st h = reading_keeps len m now st h
reader_keeps len m Cleared now st h = ack_keeps len m st h
reader_keeps len m Acknowledged now st h = st

pub turn_keeps : (len : ℕ) (side : Side) (m : Machine) → IsState len m → IsState len (turned side m).1
turn_keeps len Firmware m st = firmware_keeps len m m.situation refl st st.holds
turn_keeps len Reader m st = reader_keeps len m m.situation refl st st.holds

-- a block more
same_at_work : (m : Machine) (block : List ℕ) → m.acknowledged < length m.blocks → at_work (submitted m block) ≡ at_work m
same_at_work m block there = get_or_append_left m.blocks (block ∷ []) [] m.acknowledged there

longer : (m : Machine) (block : List ℕ) → length (submitted m block).blocks ≡ length m.blocks + 1
longer m block = length-append m.blocks (block ∷ [])

whole_keeps : (m : Machine) (block : List ℕ) (taken : ℕ) → IsWhole m taken → IsWhole (submitted m block) taken
whole_keeps m block taken h = record {
  published = h.published;
  taken_is = h.taken_is;
  there = let n = longer m block in let t = h.there in omega (arith, n, t);
  none_filled = h.none_filled;
  whole = rw (same_at_work m block h.there) h.whole;
}

emptied_keeps : (m : Machine) (block : List ℕ) (ahead : ℕ) → IsEmptied m ahead → IsEmptied (submitted m block) ahead
emptied_keeps m block ahead h =
    let n = longer m block in
    let t = h.all in
    record { published = h.published; taken = h.taken; all = omega (arith, n, t); none_filled = h.none_filled; status = h.status }

filling_keeps : (m : Machine) (block : List ℕ) → IsFilling m → IsFilling (submitted m block)
filling_keeps m block h = go (cases_lt m.acknowledged (length m.blocks)) where
  n : length (submitted m block).blocks ≡ length m.blocks + 1
  n = longer m block

  go : (m.acknowledged < length m.blocks) ⊎ (length m.blocks ≤ m.acknowledged) → IsFilling (submitted m block)
  go (inl there) = record {
    published = h.published;
    taken = h.taken;
    all = let t = h.all in let k = n in omega (arith, k, t);
    begun = λ _. let k = n in omega (arith, k, there);
    pieces_filled = rw (same_at_work m block there) h.pieces_filled;
    filled = rw (same_at_work m block there) h.filled;
    status = h.status;
  }
  go (inr none) =
      let zero : m.filled ≡ 0 = nothing (cases_lt 0 m.filled) in
      record {
        published = h.published;
        taken = h.taken;
        all = let t = h.all in let k = n in omega (arith, k, t);
        begun = λ some. absurd (omega (arith, zero, some));
        pieces_filled = rw zero (omega arith);
        filled = rw zero refl;
        status = h.status;
      } where
        nothing : (0 < m.filled) ⊎ (m.filled ≤ 0) → m.filled ≡ 0
        nothing (inl some) = let t = h.begun some in absurd (omega (arith, t, none))
        nothing (inr z) = omega (arith, z)

submit_in : (m : Machine) (block : List ℕ) (s : Situation) → InSituation m s → InSituation (submitted m block) s
submit_in m block Filling h = filling_keeps m block h
submit_in m block Published h = whole_keeps m block 0 h
submit_in m block Reading (inl h) = inl (rw (same_at_work m block h.1.there) h.0, whole_keeps m block 0 h.1)
submit_in m block Reading (inr h) = inr (rw (same_at_work m block h.1.there) h.0, whole_keeps m block 1 h.1)
submit_in m block Cleared h = emptied_keeps m block 1 h
submit_in m block Acknowledged h = emptied_keeps m block 0 h

pub submit_keeps : (len : ℕ) (m : Machine) (block : List ℕ) → Fits len block → IsState len m → IsState len (submitted m block)
submit_keeps len m block good st = record {
  window = st.window;
  room = st.room;
  blocks = All-append (Fits len) m.blocks (block ∷ []) st.blocks (All-one (Fits len) block good);
  holds = submit_in m block m.situation st.holds;
}

pub start_is : (window : List ℕ) → 20 ≤ length window → IsState (length window) (started window)
start_is window room =
    let four : 4 ≤ length window = omega (arith, room) in
    record {
      window = length-with_status window (spelled 4 0) (length-spelled 4 0) four;
      room = room;
      blocks = All-nil (Fits (length window));
      holds = record {
        published = refl;
        taken = refl;
        all = omega arith;
        begun = λ some. absurd (omega (arith, some));
        pieces_filled = omega arith;
        filled = refl;
        status = status-cleared window four;
      };
    }
