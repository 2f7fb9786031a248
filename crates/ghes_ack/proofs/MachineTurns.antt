-- Each turn of the machine, by what a handover keeps of it and what its window holds.
use Rattle.std.proofs.Common.{◌≡◌, ◌∙◌, ℕ, suc, ◌+◌, ◌-◌, ◌*◌, ◌<◌, ◌≤◌, ◌⊎◌, inl, inr, zero-add, nat_lt, ◌==◌, cond, Bool, true, false, List, [], ◌∷◌, length}
use Rattle.std.proofs.Common.{take, drop, get_or, refl, sym, ap, subst, arith, length-drop}
use Rattle.std.proofs.lemmas.List.{drop-drop, get_or-drop}
use Rattle.std.proofs.lemmas.Bool.Decides.{nat_tests}
use Rattle.base_model.specs.Bytes.{part, number_at, spelled, put_at}
use Rattle.base_model.proofs.BytesLemmas.{part-part, length-part, SameOutside-refl, is_put_at}
use Rattle.ghes_ack.proofs.PieceLemmas.{number_at-take, part-front}
use Rattle.ghes_ack.specs.declared.events.Side.{Side}
use Rattle.ghes_ack.specs.declared.events.Side.TheVariants.{Firmware, Reader}
use Rattle.ghes_ack.specs.declared.events.Event.{Event}
use Rattle.ghes_ack.specs.declared.events.Event.TheVariants.{Idle, Fill, Publish, Free, Wait, Nothing, Found, Copied, Took, Clear, Ack}
use Rattle.ghes_ack.specs.Machine.{Machine, Situation, Filling, Published, Reading, Cleared, Acknowledged, Fits, at_work, last_taken, waiting_in, pieces}
use Rattle.ghes_ack.specs.Machine.{with_piece, with_status, firmware_turn, reader_turn, turned, IsFilling, IsWhole, IsEmptied, InSituation, IsState}
use Rattle.ghes_ack.proofs.Terms.{Turned}
use Rattle.ghes_ack.proofs.Terms.{IsReading}
use Rattle.ghes_ack.proofs.Terms.{offered}
use Rattle.ghes_ack.proofs.Kept.{Kept, Agrees}
use Rattle.ghes_ack.proofs.StepLemmas.{turn_keeps, fits_at_work}

-- a turn of the machine, after which it agrees with this
pub record Next (side : Side) (event : Event) (k : Kept) (m : Machine) : Type 0 where
  pub machine : Machine
  pub is : turned side m ≡ (event, machine)
  pub agrees : Agrees k machine

-- what the state of a machine after a turn is
kept_state : (side : Side) (event : Event) (len : ℕ) (m n : Machine) → turned side m ≡ (event, n) → IsState len m → IsState len n
kept_state side event len m n is st = subst (IsState len) (ap (λ (t : Turned). t.1) is) (turn_keeps len side m st)

next_by : (side : Side) (event : Event) (k : Kept) (m n : Machine) → turned side m ≡ (event, n) → IsState k.len m → n.window ≡ k.bytes →
    n.situation ≡ k.situation → k.held ≡ drop n.acknowledged n.blocks → k.waiting ≡ waiting_in n →
    k.filled ≡ n.filled → k.copied ≡ n.copied → k.last ≡ last_taken n → Next side event k m
next_by side event k m n is st bytes situation blocks wait filled copied last = record {
  machine = n;
  is = is;
  agrees = record {
    state = kept_state side event k.len m n is st;
    bytes_are = bytes;
    situation_is = situation;
    blocks = blocks;
    wait = wait;
    filled_is = filled;
    copied_is = copied;
    last_is = last;
  };
}

-- what a state says in its situation
pub in_situation : (k : Kept) (m : Machine) (s : Situation) → k.situation ≡ s → Agrees k m → InSituation m s
in_situation k m s is a = subst (InSituation m) (a.situation_is ∙ is) a.state.holds

-- the oldest block that is not acknowledged
pub record IsOldest (k : Kept) (m : Machine) (block : List ℕ) (rest : List (List ℕ)) : Type 0 where
  pub is : at_work m ≡ block
  pub there : m.acknowledged < length m.blocks
  pub fits : Fits k.len block
  pub behind : length rest + 1 ≡ length m.blocks - m.acknowledged

pub oldest : (k : Kept) (m : Machine) (block : List ℕ) (rest : List (List ℕ)) → k.held ≡ block ∷ rest → Agrees k m → IsOldest k m block rest
oldest k m block rest held a =
    let blocks : drop m.acknowledged m.blocks ≡ block ∷ rest = sym a.blocks ∙ held in
    let first : get_or (drop m.acknowledged m.blocks) 0 [] ≡ block = ap (λ (xs : List (List ℕ)). get_or xs 0 []) blocks in
    let at : at_work m ≡ block = ap (λ (i : ℕ). get_or m.blocks i []) (let e : m.acknowledged ≡ m.acknowledged + 0 = omega arith in e) ∙ sym (get_or-drop m.acknowledged m.blocks 0 []) ∙ first in
    let n = length-drop m.acknowledged m.blocks in
    let some : length (drop m.acknowledged m.blocks) ≡ suc (length rest) = ap length blocks in
    let there : m.acknowledged < length m.blocks = omega (arith, n, some) in
    record {
      is = at;
      there = there;
      fits = subst (Fits k.len) at (fits_at_work k.len m a.state.blocks there);
      behind = omega (arith, n, some);
    }

-- while the firmware writes, that block is the one offered
offered_is : (k : Kept) (m : Machine) (blocks : List (List ℕ)) → k.situation ≡ Filling → k.held ≡ blocks → Agrees k m → drop m.published m.blocks ≡ blocks
offered_is k m blocks now held a =
    let f : IsFilling m = in_situation k m Filling now a in
    ap (λ (i : ℕ). drop i m.blocks) f.published ∙ sym a.blocks ∙ held

-- what the firmware does with the next block, by a test: a piece of it is not filled yet
abbrev filling_by : Machine → List ℕ → Bool → Turned
filling_by m block more =
    cond {A = Turned} more (Fill, record m { filled = m.filled + 1; window = with_piece m.window block m.filled })
    (Publish, record m { published = m.published + 1; filled = 0; window = with_status m.window (take 4 block); situation = Published })

fills_by : (m : Machine) (block : List ℕ) (rest : List (List ℕ)) (more : Bool) → m.situation ≡ Filling → drop m.published m.blocks ≡ block ∷ rest →
    nat_lt m.filled (pieces block) ≡ more → turned Firmware m ≡ filling_by m block more
fills_by m block rest more now is a = ap (firmware_turn m) now ∙ ap (offered m) is ∙ ap (filling_by m block) a

turned_fill : (m : Machine) (block : List ℕ) (rest : List (List ℕ)) → m.situation ≡ Filling → drop m.published m.blocks ≡ block ∷ rest → m.filled < pieces block →
    turned Firmware m ≡ (Fill, record m { filled = m.filled + 1; window = with_piece m.window block m.filled })
turned_fill m block rest now is more = fills_by m block rest true now is (grind (arith, nat_tests))

turned_publish : (m : Machine) (block : List ℕ) (rest : List (List ℕ)) → m.situation ≡ Filling → drop m.published m.blocks ≡ block ∷ rest → pieces block ≤ m.filled →
    turned Firmware m ≡ (Publish, record m { published = m.published + 1; filled = 0; window = with_status m.window (take 4 block); situation = Published })
turned_publish m block rest now is none = fills_by m block rest false now is (grind (arith, nat_tests))

one_begun : (n : ℕ) → cond {A = ℕ} (n + 1 == 0) 0 1 ≡ 1
one_begun n = let e : (n + 1 == 0) ≡ false = grind (arith, nat_tests) in ap (λ (b : Bool). cond {A = ℕ} b 0 1) e

-- turns after which nothing is another
same : (side : Side) (event : Event) (k : Kept) (m : Machine) → turned side m ≡ (event, m) → Agrees k m → Next side event k m
same side event k m is a = record { machine = m; is = is; agrees = a }

pub idles : (k : Kept) (m : Machine) → k.situation ≡ Filling → k.held ≡ [] → Agrees k m → Next Firmware Idle k m
idles k m now none a = same Firmware Idle k m (ap (firmware_turn m) (a.situation_is ∙ now) ∙ ap (offered m) (offered_is k m [] now none a)) a

pub fills : (k : Kept) (m : Machine) (block : List ℕ) (rest : List (List ℕ)) → k.situation ≡ Filling → k.held ≡ block ∷ rest → 64 * k.filled < length block → Agrees k m →
    Next Firmware Fill (record k { held = block ∷ rest; waiting = length rest; filled = k.filled + 1; bytes = with_piece k.bytes block k.filled }) m
fills k m block rest now held more a =
    let f : IsFilling m = in_situation k m Filling now a in
    let x = oldest k m block rest held a in
    let e = a.filled_is in
    let few : m.filled < pieces block = omega (arith, more, e) in
    let turn : turned Firmware m ≡ (Fill, record m { filled = m.filled + 1; window = with_piece m.window block m.filled }) =
    turned_fill m block rest (a.situation_is ∙ now) (offered_is k m (block ∷ rest) now held a) few in
    next_by Firmware Fill (record k { held = block ∷ rest; waiting = length rest; filled = k.filled + 1; bytes = with_piece k.bytes block k.filled }) m
    (record m { filled = m.filled + 1; window = with_piece m.window block m.filled }) turn a.state
    (ap (λ (i : ℕ). with_piece m.window block i) (sym a.filled_is) ∙ ap (λ (w : List ℕ). with_piece w block k.filled) a.bytes_are) a.situation_is
    (sym held ∙ a.blocks)
    (let l = x.behind in let p = f.published in let o = one_begun m.filled in omega (arith, l, p, o)) (ap (λ (i : ℕ). i + 1) a.filled_is) a.copied_is a.last_is

-- a block all of whose pieces are filled is published
pub publishes : (k : Kept) (m : Machine) (block : List ℕ) (rest : List (List ℕ)) → k.situation ≡ Filling → k.held ≡ block ∷ rest → length block ≤ 64 * k.filled → Agrees k m →
    Next Firmware Publish (record k { situation = Published; held = block ∷ rest; waiting = length rest; filled = 0; bytes = with_status k.bytes (take 4 block) }) m
publishes k m block rest now held none a =
    let f : IsFilling m = in_situation k m Filling now a in
    let x = oldest k m block rest held a in
    let e = a.filled_is in
    let turn : turned Firmware m ≡ (Publish, record m { published = m.published + 1; filled = 0; window = with_status m.window (take 4 block); situation = Published }) =
    turned_publish m block rest (a.situation_is ∙ now) (offered_is k m (block ∷ rest) now held a) (omega (arith, none, e)) in
    next_by Firmware Publish (record k {
      situation = Published;
      held = block ∷ rest;
      waiting = length rest;
      filled = 0;
      bytes =
          with_status k.bytes (take 4 block);
    }) m (record m {
      published = m.published + 1;
      filled = 0;
      window = with_status m.window (take 4 block);
      situation =
          Published;
    }) turn a.state (ap (λ (w : List ℕ). with_status w (take 4 block)) a.bytes_are) refl (sym held ∙ a.blocks)
    (let l = x.behind in let p = f.published in omega (arith, l, p)) refl a.copied_is a.last_is

-- the firmware waits for an acknowledgement
turned_wait : (m : Machine) (s : Situation) → m.situation ≡ s → (s ≡ Published) ⊎ ((s ≡ Reading) ⊎ (s ≡ Cleared)) → turned Firmware m ≡ (Wait, m)
turned_wait m s now (inl is) = ap (firmware_turn m) (now ∙ is)
turned_wait m s now (inr (inl is)) = ap (firmware_turn m) (now ∙ is)
turned_wait m s now (inr (inr is)) = ap (firmware_turn m) (now ∙ is)

pub waits : (k : Kept) (m : Machine) → (k.situation ≡ Published) ⊎ ((k.situation ≡ Reading) ⊎ (k.situation ≡ Cleared)) → Agrees k m → Next Firmware Wait k m
waits k m held a = same Firmware Wait k m (turned_wait m k.situation a.situation_is held) a

-- a turn that changes the situation, and how many pieces are copied
moves : (side : Side) (event : Event) (k : Kept) (m : Machine) (s : Situation) (copied : ℕ) →
    turned side m ≡ (event, record m { situation = s; copied = copied }) → Agrees k m → Next side event (record k { situation = s; copied = copied }) m
moves side event k m s copied is a = next_by side event (record k { situation = s; copied = copied }) m (record m { situation = s; copied = copied }) is a.state
    a.bytes_are refl a.blocks a.wait a.filled_is refl a.last_is

pub frees : (k : Kept) (m : Machine) → k.situation ≡ Acknowledged → Agrees k m → Next Firmware Free (record k { situation = Filling }) m
frees k m now a =
    subst (λ (i : ℕ). Next Firmware Free (record k { situation = Filling; copied = i }) m) (sym a.copied_is)
    (moves Firmware Free k m Filling m.copied (ap (firmware_turn m) (a.situation_is ∙ now)) a)

-- the reader looks for a block
hidden_by : (m : Machine) (s : Situation) → (s ≡ Filling) ⊎ (s ≡ Acknowledged) → InSituation m s → number_at m.window 0 4 ≡ 0
hidden_by m s (inl is) h = let f : IsFilling m = subst (InSituation m) is h in f.status
hidden_by m s (inr is) h = let f : IsEmptied m 0 = subst (InSituation m) is h in f.status

pub no_status : (k : Kept) (m : Machine) → (k.situation ≡ Filling) ⊎ (k.situation ≡ Acknowledged) → Agrees k m → number_at k.bytes 0 4 ≡ 0
no_status k m now a = ap (λ (w : List ℕ). number_at w 0 4) (sym a.bytes_are) ∙ hidden_by m k.situation now (subst (InSituation m) a.situation_is a.state.holds)

-- a published block shows its status, while it is read, too
whole_status : (len : ℕ) (m : Machine) (taken : ℕ) → IsState len m → IsWhole m taken → 0 < number_at m.window 0 4
whole_status len m taken st w =
    let good = fits_at_work len m st.blocks w.there in
    let head = good.head in
    let some = good.published in
    let e : number_at m.window 0 4 ≡ number_at (at_work m) 0 4 = sym (number_at-take m.window (length (at_work m)) (omega (arith, head))) ∙ ap (λ (x : List ℕ). number_at x 0 4) w.whole in
    omega (arith, e, some)

read_status : (len : ℕ) (m : Machine) → IsState len m → IsReading m → 0 < number_at m.window 0 4
read_status len m st (inl r) = whole_status len m 0 st r.1
read_status len m st (inr r) = whole_status len m 1 st r.1

pub some_status : (k : Kept) (m : Machine) → (k.situation ≡ Published) ⊎ (k.situation ≡ Reading) → Agrees k m → 0 < number_at k.bytes 0 4
some_status k m (inl now) a = subst (λ (w : List ℕ). 0 < number_at w 0 4) a.bytes_are (whole_status k.len m 0 a.state (in_situation k m Published now a))
some_status k m (inr now) a = subst (λ (w : List ℕ). 0 < number_at w 0 4) a.bytes_are (read_status k.len m a.state (in_situation k m Reading now a))

turned_nothing : (m : Machine) (s : Situation) → m.situation ≡ s → (s ≡ Filling) ⊎ (s ≡ Acknowledged) → turned Reader m ≡ (Nothing, m)
turned_nothing m s now (inl is) = ap (reader_turn m) (now ∙ is)
turned_nothing m s now (inr is) = ap (reader_turn m) (now ∙ is)

pub finds_nothing : (k : Kept) (m : Machine) → (k.situation ≡ Filling) ⊎ (k.situation ≡ Acknowledged) → Agrees k m → Next Reader Nothing k m
finds_nothing k m now a = same Reader Nothing k m (turned_nothing m k.situation a.situation_is now) a

pub finds : (k : Kept) (m : Machine) → k.situation ≡ Published → Agrees k m → Next Reader Found (record k { situation = Reading; copied = 0 }) m
finds k m now a = moves Reader Found k m Reading 0 (ap (reader_turn m) (a.situation_is ∙ now)) a

not_past : (m : Machine) → IsReading m → 64 * m.copied < length (at_work m) → (m.copied < pieces (at_work m)) × IsWhole m 0
not_past m (inl h) more = h
not_past m (inr h) more = absurd (let e = h.0 in omega (arith, e, more))

reads_whole : (k : Kept) (m : Machine) (block : List ℕ) (rest : List (List ℕ)) → k.situation ≡ Reading → k.held ≡ block ∷ rest → 64 * k.copied < length block →
    Agrees k m → (m.copied < pieces (at_work m)) × IsWhole m 0
reads_whole k m block rest now held more a =
    let c = a.copied_is in
    let e : length (at_work m) ≡ length block = ap length (oldest k m block rest held a).is in
    not_past m (in_situation k m Reading now a) (omega (arith, more, c, e))

part_of_whole : (w block : List ℕ) (at n : ℕ) → take (length block) w ≡ block → at + n ≤ length block → part w at n ≡ part block at n
part_of_whole w block at n whole le =
    ap (λ (i : ℕ). part w i n) (sym (zero-add at)) ∙ sym (part-part w 0 (length block) at n le) ∙ ap (λ (x : List ℕ). part x at n) (part-front w (length block) ∙ whole)

-- a copy of bytes goes over the same bytes
pub copies_over : (k : Kept) (m : Machine) (block : List ℕ) (rest : List (List ℕ)) (at n : ℕ) → k.situation ≡ Reading → k.held ≡ block ∷ rest →
    64 * k.copied < length block → at + n ≤ length block → Agrees k m →
    put_at block at (part k.bytes at n) ≡ block
copies_over k m block rest at n now held more inside a =
    let w = (oldest k m block rest held a).is in
    let whole : take (length block) m.window ≡ block = subst (λ (b : List ℕ). take (length b) m.window ≡ b) w (reads_whole k m block rest now held more a).1.whole in
    let piece : part k.bytes at n ≡ part block at n = ap (λ (x : List ℕ). part x at n) (sym a.bytes_are) ∙ part_of_whole m.window block at n whole inside in
    let long : length (part k.bytes at n) ≡ n = ap length piece ∙ length-part block at n inside in
    let back : part block at (length (part k.bytes at n)) ≡ part k.bytes at n = ap (part block at) long ∙ sym piece in
    sym (is_put_at block block at (part k.bytes at n) (SameOutside-refl at (length (part k.bytes at n)) block) back)

-- what the reader does with the block at work, by two tests: more pieces follow the next one, and there is a next one
abbrev reading_by : Machine → Bool → Bool → Turned
reading_by m more some =
    cond {A = Turned} more (Copied, record m { copied = m.copied + 1 })
    (cond {A = Turned} some (Took, record m { copied = m.copied + 1; taken = m.taken + 1 }) (Clear, record m { window = with_status m.window (spelled 4 0); situation = Cleared }))

reads_by : (m : Machine) (more some : Bool) → m.situation ≡ Reading → nat_lt (m.copied + 1) (pieces (at_work m)) ≡ more → nat_lt m.copied (pieces (at_work m))
    ≡ some → turned Reader m ≡ reading_by m more some
reads_by m more some now a b =
    ap (reader_turn m) now ∙ ap (λ (t : Bool). reading_by m t (nat_lt m.copied (pieces (at_work m)))) a ∙ ap (reading_by m more) b

turned_copied : (m : Machine) → m.situation ≡ Reading → m.copied + 1 < pieces (at_work m) → turned Reader m ≡ (Copied, record m { copied = m.copied + 1 })
turned_copied m now more = reads_by m true (nat_lt m.copied (pieces (at_work m))) now (grind (arith, nat_tests)) refl

turned_took : (m : Machine) → m.situation ≡ Reading → m.copied < pieces (at_work m) → pieces (at_work m) ≤ m.copied + 1 →
    turned Reader m ≡ (Took, record m { copied = m.copied + 1; taken = m.taken + 1 })
turned_took m now more last = reads_by m false true now (grind (arith, nat_tests)) (grind (arith, nat_tests))

turned_clear : (m : Machine) → m.situation ≡ Reading → pieces (at_work m) ≤ m.copied → turned Reader m ≡ (Clear, record m { window = with_status m.window (spelled 4 0); situation = Cleared })
turned_clear m now all = reads_by m false false now (grind (arith, nat_tests)) (grind (arith, nat_tests))

pub copies_more : (k : Kept) (m : Machine) (block : List ℕ) (rest : List (List ℕ)) → k.situation ≡ Reading → k.held ≡ block ∷ rest →
    64 * (k.copied + 1) < length block → Agrees k m → Next Reader Copied (record k { copied = k.copied + 1 }) m
copies_more k m block rest now held more a =
    let e : length (at_work m) ≡ length block = ap length (oldest k m block rest held a).is in
    let c = a.copied_is in
    let turn : turned Reader m ≡ (Copied, record m { copied = m.copied + 1 }) = turned_copied m (a.situation_is ∙ now) (omega (arith, more, e, c)) in
    next_by Reader Copied (record k { copied = k.copied + 1 }) m (record m { copied = m.copied + 1 }) turn a.state a.bytes_are a.situation_is a.blocks a.wait
    a.filled_is (ap (λ (i : ℕ). i + 1) a.copied_is) a.last_is

pub copies_last : (k : Kept) (m : Machine) (block : List ℕ) (rest : List (List ℕ)) → k.situation ≡ Reading → k.held ≡ block ∷ rest →
    64 * k.copied < length block → length block ≤ 64 * (k.copied + 1) → Agrees k m →
    Next Reader Took (record k { copied = k.copied + 1; last = block }) m
copies_last k m block rest now held more all a =
    let w = (oldest k m block rest held a).is in
    let e : length (at_work m) ≡ length block = ap length w in
    let c = a.copied_is in
    let x = reads_whole k m block rest now held more a in
    let t = x.1.taken_is in
    let one : m.taken + 1 ≡ suc m.acknowledged = omega (arith, t) in
    let turn : turned Reader m ≡ (Took, record m { copied = m.copied + 1; taken = m.taken + 1 }) = turned_took m (a.situation_is ∙ now) x.0 (omega (arith, all, e, c)) in
    next_by Reader Took (record k { copied = k.copied + 1; last = block }) m (record m { copied = m.copied + 1; taken = m.taken + 1 }) turn a.state a.bytes_are
    a.situation_is a.blocks a.wait a.filled_is (ap (λ (i : ℕ). i + 1) a.copied_is)
    (sym w ∙ sym (ap (λ (k : ℕ). get_or ([] ∷ m.blocks) k []) one))

pub clears : (k : Kept) (m : Machine) (block : List ℕ) (rest : List (List ℕ)) → k.situation ≡ Reading → k.held ≡ block ∷ rest → length block ≤ 64 * k.copied → Agrees k m →
    Next Reader Clear (record k { situation = Cleared; bytes = with_status k.bytes (spelled 4 0) }) m
clears k m block rest now held all a =
    let e : length (at_work m) ≡ length block = ap length (oldest k m block rest held a).is in
    let c = a.copied_is in
    let turn : turned Reader m ≡ (Clear, record m { window = with_status m.window (spelled 4 0); situation = Cleared }) = turned_clear m (a.situation_is ∙ now) (omega (arith, all, e, c)) in
    next_by Reader Clear (record k { situation = Cleared; bytes = with_status k.bytes (spelled 4 0) }) m
    (record m { window = with_status m.window (spelled 4 0); situation = Cleared }) turn a.state (ap (λ (w : List ℕ). with_status w (spelled 4 0))
    a.bytes_are) refl a.blocks a.wait a.filled_is a.copied_is a.last_is

pub acknowledges : (k : Kept) (m : Machine) (block : List ℕ) (rest : List (List ℕ)) → k.situation ≡ Cleared → k.held ≡ block ∷ rest → Agrees k m →
    Next Reader Ack (record k { situation = Acknowledged; held = rest }) m
acknowledges k m block rest now held a =
    let turn : turned Reader m ≡ (Ack, record m { acknowledged = m.acknowledged + 1; situation = Acknowledged }) = ap (reader_turn m) (a.situation_is ∙ now) in
    next_by Reader Ack (record k { situation = Acknowledged; held = rest }) m (record m { acknowledged = m.acknowledged + 1; situation = Acknowledged }) turn
    a.state a.bytes_are refl (ap (drop 1) (sym held ∙ a.blocks) ∙ drop-drop 1 m.acknowledged m.blocks) a.wait a.filled_is a.copied_is a.last_is
