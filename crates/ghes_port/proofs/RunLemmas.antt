-- Whatever happens to a source, a memory and a guest.
use Rattle.std.proofs.Common.{◌≡◌, ◌∙◌, ℕ, zero, suc, ◌+◌, ◌-◌, ◌*◌, ◌<◌, ◌≤◌, inl, inr, Bool, true, false, if◌then◌else◌, ◌==◌, Option, Some, None, Ok, List}
use Rattle.std.proofs.Common.{[], ◌∷◌, ◌++◌, length, take, drop, All, bit_and, bit_or, refl, sym, ap, subst, arith, length-append, append_assoc}
use Rattle.std.proofs.lemmas.Bool.{eq-eqb, ne_eqb, cases_lt}
use Rattle.std.proofs.lemmas.List.{take-append-drop, take-append-le, drop-append-le, length-take, length-drop}
use Rattle.base_model.specs.Bytes.{little, part, spelled}
use Rattle.ghes_block.specs.Reading.{checked}
use Rattle.ghes_block.proofs.Blocks.{passed, passed_more, passed_front, block_length, Passed}
use Rattle.ghes_port.specs.declared.maps.SourceMap.{SourceMap}
use Rattle.ghes_port.specs.declared.maps.AckRegister.{AckRegister}
use Rattle.ghes_port.specs.declared.stages.Stage.{Stage}
use Rattle.ghes_port.specs.declared.stages.Stage.TheVariants.{Hide, TellAddress, ReadFirst, SetAck, Fill, ReadAck, ClearAck, Show, Notify, Await}
use Rattle.ghes_port.specs.Places.{index_of, octets}
use Rattle.ghes_port.specs.Memories.{bytes_from, with_bytes}
use Rattle.ghes_port.specs.Machine.{SourceState, told, told_at, after, submitted, frees, stage_after, queue_after, ack_asked, piece_at, IsGood}
use Rattle.ghes_port.specs.Sound.{IsPlaced, HasBits, IsSource}
use Rattle.ghes_port.specs.Readers.{IsRead, notices_of, waited_for, IsNotified, Reader, Looks, Copies, Owes, Answers, World, memory_after, status_at, number_in}
use Rattle.ghes_port.specs.Readers.{address_in, answered, emptied, IsBegun, Happens, Submits, Accesses, GuestLooks, GuestCopies, GuestTakes, GuestAsks}
use Rattle.ghes_port.specs.Readers.{GuestAnswers, Elsewhere, SameAck, SameParts, Leads, Stays, Then, IsAckApart, IsApart, IsFirst, IsPrefix, AreOff, IsBusy}
use Rattle.ghes_port.specs.Readers.{HasAnswered}
use Rattle.ghes_port.proofs.MemoryLemmas.{far, length-bytes_from, two}
use Rattle.ghes_port.proofs.WidthLemmas.{spelled_off, swapped, set_back}
use Rattle.ghes_port.proofs.TogetherLemmas.{acked, IsClear, AreFilled, AreSoFar, AreAll, IsShown, IsTaken, IsOut, IsIn, AreTogether, status_is, front, hidden}
use Rattle.ghes_port.proofs.TogetherLemmas.{front_off, short_off, asked_keeps, freed_is, accessed}
use Rattle.ghes_port.proofs.AddressLemmas.{IsAddressed, address_accessed, address_same, address_is}
use Rattle.ghes_port.proofs.NoticeLemmas.{notified}
use Rattle.ghes_port.proofs.SourceLemmas.{source_after, source_more}

-- a guest's copy of the first bytes of a window, in which a block stands first: what it takes is the block
takes_whole : (m : ℕ → ℕ) (at : ℕ) (block copied : List ℕ) (size : ℕ) → checked block ≡ Ok (length block) → bytes_from m at (length block) ≡ block → copied ≡ bytes_from m at (length copied)
    → checked copied ≡ Ok size → take size copied ≡ block
takes_whole m at block copied size whole there copy read = elim (cases_lt (length copied) (length block)) [
  | inl short ↦
      let sized = passed copied size read in
      let p : Passed copied = sized.0 in
      let size_is : block_length copied ≡ size = sized.1 in
      let fits = p.there in
      -- the block would be no longer than what was copied
      let more : List ℕ = drop (length copied) block in
      let begins : take (length copied) block ≡ copied = ap (take (length copied)) (sym there) ∙ front m at (length copied) (length block) (omega (arith, short)) ∙ sym copy in
      let split : copied ++ more ≡ block = ap (λ (xs : List ℕ). xs ++ more) (sym begins) ∙ take-append-drop (length copied) block in
      let shorter : List ℕ = take size copied in
      let rest : List ℕ = drop size copied in
      let parts : shorter ++ rest ≡ copied = take-append-drop size copied in
      let n : length shorter ≡ size = rw length-take (omega (arith, fits, size_is)) in
      let p_parts : Passed (shorter ++ rest) = subst Passed (sym parts) p in
      let l_parts : block_length (shorter ++ rest) ≡ length shorter = ap block_length parts ∙ size_is ∙ sym n in
      let f = passed_front shorter rest p_parts l_parts in
      let whole_again = passed_more shorter (rest ++ more) f.0 f.1 in
      let joined : shorter ++ (rest ++ more) ≡ block = sym (append_assoc shorter rest more) ∙ ap (λ (xs : List ℕ). xs ++ more) parts ∙ split in
      let is : block_length block ≡ size = ap block_length (sym joined) ∙ whole_again.1 ∙ n in
      let own : block_length block ≡ length block = (passed block (length block) whole).1 in
      absurd (omega (arith, is, own, short, fits, size_is))
  | inr long ↦
      let begins : take (length block) copied ≡ block = ap (take (length block)) copy ∙ front m at (length block) (length copied) (omega (arith, long)) ∙ there in
      let more : List ℕ = drop (length block) copied in
      let split : block ++ more ≡ copied = ap (λ (xs : List ℕ). xs ++ more) (sym begins) ∙ take-append-drop (length block) copied in
      let own = passed block (length block) whole in
      let again = passed_more block more own.0 own.1 in
      let is : block_length copied ≡ length block = ap block_length (sym split) ∙ again.1 in
      let size_is : size ≡ length block = sym ((passed copied size read).1) ∙ is in
      ap (λ (n : ℕ). take n copied) size_is ∙ begins
]

-- a block more
more_so_far : (map : SourceMap) (m : ℕ → ℕ) (queue : List (List ℕ)) (block : List ℕ) (piece : ℕ) → 20 ≤ length block → AreSoFar map m queue piece → AreSoFar map m (queue ++ block ∷ []) piece
unfolding part
more_so_far map m [] block piece low far = subst (λ (p : ℕ). (piece_at p < length block) × AreFilled map m block (64 * p)) (sym far) (omega (arith, low), refl)
more_so_far map m (one ∷ rest) block piece low far = far

more_all : (map : SourceMap) (m : ℕ → ℕ) (queue : List (List ℕ)) (block : List ℕ) → AreAll map m queue → AreAll map m (queue ++ block ∷ [])
more_all map m [] block all = absurd all
more_all map m (one ∷ rest) block all = all

more_in : (map : SourceMap) (queue left : List (List ℕ)) (m : ℕ → ℕ) (block : List ℕ) (reader : Reader) → IsIn map queue m left reader → IsIn map (queue ++ block ∷ []) m (left ++ block ∷ []) reader
more_in map queue left m block Looks inside = (ap (λ (xs : List (List ℕ)). xs ++ block ∷ []) inside.0, inside.1)
more_in map queue left m block (Copies copied) inside = inside
more_in map queue left m block Owes inside = inside
more_in map queue left m block (Answers read) inside = inside

more_shown : (map : SourceMap) (queue left : List (List ℕ)) (m : ℕ → ℕ) (block : List ℕ) → IsShown map queue m left → IsShown map (queue ++ block ∷ []) m (left ++ block ∷ [])
more_shown map [] left m block shown = absurd shown
more_shown map (one ∷ rest) left m block shown = (ap (λ (xs : List (List ℕ)). xs ++ block ∷ []) shown.0, shown.1, shown.2)

more_taken : (map : SourceMap) (queue left : List (List ℕ)) (m : ℕ → ℕ) (block : List ℕ) → IsTaken map queue m left → IsTaken map (queue ++ block ∷ []) m (left ++ block ∷ [])
more_taken map [] left m block taken = absurd taken
more_taken map (one ∷ rest) left m block taken = (ap (λ (xs : List (List ℕ)). xs ++ block ∷ []) taken.0, taken.1)

more_out : (map : SourceMap) (queue left : List (List ℕ)) (m : ℕ → ℕ) (block : List ℕ) (reader : Reader) → IsOut map queue m left reader → IsOut map (queue ++ block ∷ []) m (left ++ block ∷ []) reader
more_out map queue left m block Looks (inl shown) = inl (more_shown map queue left m block shown)
more_out map queue left m block Looks (inr answered) = inr (more_taken map queue left m block answered.0, answered.1)
more_out map queue left m block (Copies copied) out = (more_shown map queue left m block out.0, out.1, out.2)
more_out map queue left m block Owes out = (more_taken map queue left m block out.0, out.1)
more_out map queue left m block (Answers read) out = (more_taken map queue left m block out.0, out.1)

one_more_block : (map : SourceMap) (queue left : List (List ℕ)) (m : ℕ → ℕ) (block : List ℕ) (stage : Stage) (reader : Reader) → 20 ≤ length block → AreTogether map queue m left stage reader
    → AreTogether map (queue ++ block ∷ []) m (left ++ block ∷ []) stage reader
one_more_block map queue left m block Hide reader low at = (ap (λ (xs : List (List ℕ)). xs ++ block ∷ []) at.0, at.1)
one_more_block map queue left m block TellAddress reader low at = more_in map queue left m block reader at
one_more_block map queue left m block ReadFirst reader low at = more_in map queue left m block reader at
one_more_block map queue left m block (SetAck v) reader low at = more_in map queue left m block reader at
one_more_block map queue left m block (Fill piece) reader low at = (more_in map queue left m block reader at.0, more_so_far map m queue block piece low at.1)
one_more_block map queue left m block ReadAck reader low at = (more_in map queue left m block reader at.0, more_all map m queue block at.1)
one_more_block map queue left m block (ClearAck v) reader low at = (more_in map queue left m block reader at.0, more_all map m queue block at.1)
one_more_block map queue left m block Show reader low at = (more_in map queue left m block reader at.0, more_all map m queue block at.1, at.2)
one_more_block map queue left m block Notify reader low at = more_out map queue left m block reader at
one_more_block map queue left m block Await reader low at = more_out map queue left m block reader at

-- the guest reads the block status
still : (map : SourceMap) (queue left : List (List ℕ)) (m : ℕ → ℕ) (stage : Stage) → status_at map.block m ≡ 0 → AreTogether map queue m left stage Looks
    → AreTogether map queue m left stage (if status_at map.block m == 0 then Looks else Copies [])
still map queue left m stage zero_word at = subst (λ (t : Bool). AreTogether map queue m left stage (if t then Looks else Copies [])) (sym (eq-eqb (status_at map.block m) 0 zero_word)) at

out_looked : (map : SourceMap) (queue left : List (List ℕ)) (m : ℕ → ℕ) → All (IsGood map.len) queue → IsOut map queue m left Looks
    → IsOut map queue m left (if status_at map.block m == 0 then Looks else Copies [])
out_looked map [] left m good (inl shown) = absurd shown
out_looked map (block ∷ rest) left m good (inl shown) =
    let some : 0 < status_at map.block m = (status_is map.len m map.block block (good 0 block (omega (arith))) shown.1).0 in
    subst (λ (t : Bool). IsOut map (block ∷ rest) m left (if t then Looks else Copies [])) (sym (ne_eqb (status_at map.block m) 0 (λ e. omega (arith, e, some)))) (shown, omega (arith), refl)
out_looked map [] left m good (inr answered) = absurd answered.0
out_looked map (block ∷ rest) left m good (inr answered) =
    subst (λ (t : Bool). IsOut map (block ∷ rest) m left (if t then Looks else Copies [])) (sym (eq-eqb (status_at map.block m) 0 answered.0.1)) (inr answered)

looked : (map : SourceMap) (queue left : List (List ℕ)) (m : ℕ → ℕ) (stage : Stage) → IsBegun stage → All (IsGood map.len) queue → AreTogether map queue m left stage Looks
    → AreTogether map queue m left stage (if status_at map.block m == 0 then Looks else Copies [])
looked map queue left m Hide begun good at = absurd begun
looked map queue left m TellAddress begun good at = absurd begun
looked map queue left m ReadFirst begun good at = still map queue left m ReadFirst at.1 at
looked map queue left m (SetAck v) begun good at = still map queue left m (SetAck v) at.1 at
looked map queue left m (Fill piece) begun good at = still map queue left m (Fill piece) at.0.1 at
looked map queue left m ReadAck begun good at = still map queue left m ReadAck at.0.1 at
looked map queue left m (ClearAck v) begun good at = still map queue left m (ClearAck v) at.0.1 at
looked map queue left m Show begun good at = still map queue left m Show at.0.1 at
looked map queue left m Notify begun good at = out_looked map queue left m good at
looked map queue left m Await begun good at = out_looked map queue left m good at

-- while a guest does anything else, the block is out
abbrev pub IsOutAt : Stage → Type 0
IsOutAt Notify = Unit {0}
IsOutAt Await = Unit {0}
IsOutAt _ = ⊥

begun_out : (stage : Stage) → IsOutAt stage → IsBegun stage
begun_out Hide there = there
begun_out TellAddress there = there
begun_out ReadFirst there = absurd there
begun_out (SetAck v) there = absurd there
begun_out (Fill piece) there = absurd there
begun_out ReadAck there = absurd there
begun_out (ClearAck v) there = absurd there
begun_out Show there = absurd there
begun_out Notify there = tt
begun_out Await there = tt

busy_in : (map : SourceMap) (queue left : List (List ℕ)) (m : ℕ → ℕ) (reader : Reader) → IsBusy reader → IsIn map queue m left reader → ⊥
busy_in map queue left m Looks busy inside = busy
busy_in map queue left m (Copies copied) busy inside = inside
busy_in map queue left m Owes busy inside = inside
busy_in map queue left m (Answers read) busy inside = inside

pub is_out : (map : SourceMap) (queue left : List (List ℕ)) (m : ℕ → ℕ) (stage : Stage) (reader : Reader) → IsBusy reader → AreTogether map queue m left stage reader
    → IsOutAt stage × IsOut map queue m left reader
is_out map queue left m Hide reader busy at = absurd (subst IsBusy at.1 busy)
is_out map queue left m TellAddress reader busy at = absurd (busy_in map queue left m reader busy at)
is_out map queue left m ReadFirst reader busy at = absurd (busy_in map queue left m reader busy at)
is_out map queue left m (SetAck v) reader busy at = absurd (busy_in map queue left m reader busy at)
is_out map queue left m (Fill piece) reader busy at = absurd (busy_in map queue left m reader busy at.0)
is_out map queue left m ReadAck reader busy at = absurd (busy_in map queue left m reader busy at.0)
is_out map queue left m (ClearAck v) reader busy at = absurd (busy_in map queue left m reader busy at.0)
is_out map queue left m Show reader busy at = absurd (busy_in map queue left m reader busy at.0)
is_out map queue left m Notify reader busy at = (tt, at)
is_out map queue left m Await reader busy at = (tt, at)

of_out : (map : SourceMap) (queue left : List (List ℕ)) (m : ℕ → ℕ) (stage : Stage) (reader : Reader) → IsOutAt stage → IsOut map queue m left reader → AreTogether map queue m left stage reader
of_out map queue left m Hide reader there out = absurd there
of_out map queue left m TellAddress reader there out = absurd there
of_out map queue left m ReadFirst reader there out = absurd there
of_out map queue left m (SetAck v) reader there out = absurd there
of_out map queue left m (Fill piece) reader there out = absurd there
of_out map queue left m ReadAck reader there out = absurd there
of_out map queue left m (ClearAck v) reader there out = absurd there
of_out map queue left m Show reader there out = absurd there
of_out map queue left m Notify reader there out = out
of_out map queue left m Await reader there out = out

-- it copies
copied_more : (map : SourceMap) (queue left : List (List ℕ)) (m : ℕ → ℕ) (copied : List ℕ) (n : ℕ) → length copied + n ≤ map.len → IsOut map queue m left (Copies copied)
    → IsOut map queue m left (Copies (copied ++ bytes_from m (map.block + length copied) n))
copied_more map queue left m copied n small out =
    let more : List ℕ = bytes_from m (map.block + length copied) n in
    let l : length (copied ++ more) ≡ length copied + n = length-append copied more ∙ ap (λ (k : ℕ). length copied + k) (length-bytes_from m (map.block + length copied) n) in (
      out.0,
      omega (arith, l, small),
      ap (λ (xs : List ℕ). xs ++ more) out.2 ∙ sym (two m map.block (length copied) n) ∙ ap (bytes_from m map.block) (sym l),
    )

-- it takes the block
took : (map : SourceMap) (queue left : List (List ℕ)) (m : ℕ → ℕ) (ack : Option AckRegister) → 20 ≤ map.len → IsAckApart map ack → acked map ack m ≡ false → map.ack ≡ ack
    → IsTaken map queue (with_bytes m map.block (spelled 4 0)) left → IsOut map queue (with_bytes m map.block (spelled 4 0)) left (emptied ack)
took map queue left m None head apart clear is taken = inr (taken, ap (λ (o : Option AckRegister). acked map o (with_bytes m map.block (spelled 4 0))) is ∙ ap (frees None) (hidden m map.block))
took map queue left m (Some ack) head apart clear is taken =
    let new : ℕ → ℕ = with_bytes m map.block (spelled 4 0) in
    let at : ℕ = index_of ack.place in
    let n : ℕ = octets ack.access in
    let off : AreOff at n map.block (length (spelled 4 0)) = spelled_off at n map.block 4 0 (short_off at n map.block map.len 4 (omega (arith, head)) apart.1) in
    let same : acked map (Some ack) new ≡ acked map (Some ack) m = ap (λ (bs : List ℕ). bit_and (little bs) ack.set == ack.set) (far m map.block (spelled 4 0) at n off) in
    (taken, ap (λ (o : Option AckRegister). acked map o new) is ∙ same ∙ clear)

taken_now : (map : SourceMap) (block : List ℕ) (rest left later : List (List ℕ)) (m : ℕ → ℕ) → block ∷ rest ≡ left → later ≡ drop 1 left
    → IsTaken map (block ∷ rest) (with_bytes m map.block (spelled 4 0)) later
taken_now map block rest left later m is next = (ap (drop 1) is ∙ sym next, hidden m map.block)

-- it acknowledges
number_written : (map : SourceMap) (queue left : List (List ℕ)) (m : ℕ → ℕ) (ack : AckRegister) (value : ℕ) → 20 ≤ map.len → IsAckApart map (Some ack) → IsTaken map queue m left
    → IsTaken map queue (with_bytes m (index_of ack.place) (spelled (octets ack.access) value)) left
number_written map [] left m ack value head apart taken = absurd taken
number_written map (block ∷ rest) left m ack value head apart taken =
    let at : ℕ = index_of ack.place in
    let n : ℕ = octets ack.access in
    (taken.0, ap little (far m at (spelled n value) map.block 4 (spelled_off map.block 4 at n value (front_off at n map.block map.len 4 (omega (arith, head)) apart.1))) ∙ taken.1)

-- and its acknowledgement is there
acked_now : (map : SourceMap) (m : ℕ → ℕ) (ack : AckRegister) (value : ℕ) → HasBits (Some ack) → map.ack ≡ Some ack
    → acked map map.ack (with_bytes m (index_of ack.place) (spelled (octets ack.access) (bit_or value ack.set))) ≡ true
acked_now map m ack value bits is =
    let new : ℕ → ℕ = with_bytes m (index_of ack.place) (spelled (octets ack.access) (bit_or value ack.set)) in
    ap (λ (o : Option AckRegister). acked map o new) is
    ∙ eq-eqb (bit_and (number_in ack new) ack.set) ack.set (set_back ack.access m (index_of ack.place) value ack.set bits.1)

-- somebody writes elsewhere
status_else : (map : SourceMap) (m new : ℕ → ℕ) → 20 ≤ map.len → SameParts map m new → status_at map.block new ≡ status_at map.block m
status_else map m new head same = ap little (same.block map.block 4 (omega (arith)) (omega (arith, head)))

acked_else : (map : SourceMap) (ack : Option AckRegister) (m new : ℕ → ℕ) → 20 ≤ map.len → SameParts map m new → SameAck ack m new → acked map ack new ≡ acked map ack m
acked_else map None m new head same register = ap (frees None) (status_else map m new head same)
acked_else map (Some ack) m new head same register = ap (λ (bs : List ℕ). bit_and (little bs) ack.set == ack.set) register

clear_else : (ack : Option AckRegister) (m new : ℕ → ℕ) → SameAck ack m new → IsClear ack m → IsClear ack new
clear_else None m new register clear = clear
clear_else (Some ack) m new register clear = ap (λ (bs : List ℕ). bit_and (little bs) ack.set == ack.set) register ∙ clear

in_else : (map : SourceMap) (queue left : List (List ℕ)) (m new : ℕ → ℕ) (reader : Reader) → 20 ≤ map.len → SameParts map m new → IsIn map queue m left reader → IsIn map queue new left reader
in_else map queue left m new Looks head same inside = (inside.0, status_else map m new head same ∙ inside.1)
in_else map queue left m new (Copies copied) head same inside = inside
in_else map queue left m new Owes head same inside = inside
in_else map queue left m new (Answers read) head same inside = inside

far_else : (map : SourceMap) (queue : List (List ℕ)) (m new : ℕ → ℕ) (piece : ℕ) → All (IsGood map.len) queue → SameParts map m new → AreSoFar map m queue piece → AreSoFar map new queue piece
far_else map [] m new piece good same far = far
far_else map (block ∷ rest) m new piece good same far =
    let high = (good 0 block (omega (arith))).fits.fits in
    let begins = far.0 in
    (begins, same.block (map.block + 4) (64 * piece) (omega (arith)) (omega (arith, high, begins)) ∙ far.1)

all_else : (map : SourceMap) (queue : List (List ℕ)) (m new : ℕ → ℕ) → All (IsGood map.len) queue → SameParts map m new → AreAll map m queue → AreAll map new queue
all_else map [] m new good same all = all
all_else map (block ∷ rest) m new good same all =
    let fits = (good 0 block (omega (arith))).fits in
    let low = fits.head in
    let high = fits.fits in
    same.block (map.block + 4) (length block - 4) (omega (arith)) (omega (arith, low, high)) ∙ all

shown_else : (map : SourceMap) (queue left : List (List ℕ)) (m new : ℕ → ℕ) → 20 ≤ map.len → All (IsGood map.len) queue → SameParts map m new → IsShown map queue m left → IsShown map queue new left
shown_else map [] left m new head good same shown = shown
shown_else map (block ∷ rest) left m new head good same shown =
    let high = (good 0 block (omega (arith))).fits.fits in
    (shown.0, same.block map.block (length block) (omega (arith)) (omega (arith, high)) ∙ shown.1, acked_else map map.ack m new head same same.ack ∙ shown.2)

taken_else : (map : SourceMap) (queue left : List (List ℕ)) (m new : ℕ → ℕ) → 20 ≤ map.len → SameParts map m new → IsTaken map queue m left → IsTaken map queue new left
taken_else map [] left m new head same taken = taken
taken_else map (block ∷ rest) left m new head same taken = (taken.0, status_else map m new head same ∙ taken.1)

out_else : (map : SourceMap) (queue left : List (List ℕ)) (m new : ℕ → ℕ) (reader : Reader) → 20 ≤ map.len → All (IsGood map.len) queue → SameParts map m new → IsOut map queue m left reader
    → IsOut map queue new left reader
out_else map queue left m new Looks head good same (inl shown) = inl (shown_else map queue left m new head good same shown)
out_else map queue left m new Looks head good same (inr answered) = inr (taken_else map queue left m new head same answered.0, acked_else map map.ack m new head same same.ack ∙ answered.1)
out_else map queue left m new (Copies copied) head good same out =
    let short = out.1 in
    (shown_else map queue left m new head good same out.0, out.1, out.2 ∙ sym (same.block map.block (length copied) (omega (arith)) (omega (arith, short))))
out_else map queue left m new Owes head good same out = (taken_else map queue left m new head same out.0, acked_else map map.ack m new head same same.ack ∙ out.1)
out_else map queue left m new (Answers read) head good same out = (taken_else map queue left m new head same out.0, acked_else map map.ack m new head same same.ack ∙ out.1)

elsewhere : (map : SourceMap) (queue left : List (List ℕ)) (m new : ℕ → ℕ) (stage : Stage) (reader : Reader) → 20 ≤ map.len → All (IsGood map.len) queue → SameParts map m new
    → AreTogether map queue m left stage reader → AreTogether map queue new left stage reader
elsewhere map queue left m new Hide reader head good same at = at
elsewhere map queue left m new TellAddress reader head good same at = in_else map queue left m new reader head same at
elsewhere map queue left m new ReadFirst reader head good same at = in_else map queue left m new reader head same at
elsewhere map queue left m new (SetAck v) reader head good same at = in_else map queue left m new reader head same at
elsewhere map queue left m new (Fill piece) reader head good same at = (in_else map queue left m new reader head same at.0, far_else map queue m new piece good same at.1)
elsewhere map queue left m new ReadAck reader head good same at = (in_else map queue left m new reader head same at.0, all_else map queue m new good same at.1)
elsewhere map queue left m new (ClearAck v) reader head good same at = (in_else map queue left m new reader head same at.0, all_else map queue m new good same at.1)
elsewhere map queue left m new Show reader head good same at =
    (in_else map queue left m new reader head same at.0, all_else map queue m new good same at.1, clear_else map.ack m new same.ack at.2)
elsewhere map queue left m new Notify reader head good same at = out_else map queue left m new reader head good same at
elsewhere map queue left m new Await reader head good same at = out_else map queue left m new reader head good same at

-- all of it
pub record Holds (w : World) : Type 0 where
  pub source : IsSource w.source
  pub apart : IsApart w.source.map
  pub prefix : IsPrefix w
  pub notified : IsNotified w
  pub addressed : IsAddressed w.source.map w.memory w.source.stage
  pub together : AreTogether w.source.map w.source.queue w.memory (drop (length w.taken) w.submitted) w.source.stage w.reader

next_taken : (xs : List (List ℕ)) (k : ℕ) (block : List ℕ) (rest : List (List ℕ)) → drop k xs ≡ block ∷ rest → take (suc k) xs ≡ take k xs ++ block ∷ []
next_taken [] zero block rest is = absurd (let e : [] ≡ block ∷ rest = is in cc)
next_taken [] (suc k) block rest is = absurd (let e : [] ≡ block ∷ rest = is in cc)
next_taken (x ∷ xs) zero block rest is = ap (take 1) is
next_taken (x ∷ xs) (suc k) block rest is = ap (λ (ys : List (List ℕ)). x ∷ ys) (next_taken xs k block rest is)

next_left : (xs : List (List ℕ)) (k : ℕ) → drop (suc k) xs ≡ drop 1 (drop k xs)
next_left [] zero = refl
next_left [] (suc k) = refl
next_left (x ∷ xs) zero = refl
next_left (x ∷ xs) (suc k) = next_left xs k

no_more : (taken submitted : List (List ℕ)) → taken ≡ take (length taken) submitted → length taken ≤ length submitted
no_more taken submitted prefix = let n = ap length prefix ∙ length-take (length taken) submitted in omega (arith, n)

taking : (map : SourceMap) (queue : List (List ℕ)) (m : ℕ → ℕ) (copied : List ℕ) (size : ℕ) (taken all : List (List ℕ)) (stage : Stage) → IsPlaced map → IsApart map → All (IsGood map.len) queue
    → taken ≡ take (length taken) all → IsOutAt stage → IsOut map queue m (drop (length taken) all) (Copies copied) → checked copied ≡ Ok size
    → (taken ++ take size copied ∷ [] ≡ take (length (taken ++ take size copied ∷ [])) all)
    × AreTogether map queue (with_bytes m map.block (spelled 4 0)) (drop (length (taken ++ take size copied ∷ [])) all) stage (emptied map.ack)
taking map [] m copied size taken all stage placed apart good prefix there out read = absurd out.0
taking map (block ∷ rest) m copied size taken all stage placed apart good prefix there out read =
    let k : ℕ = length taken in
    let one = good 0 block (omega (arith)) in
    let is : block ∷ rest ≡ drop k all = out.0.0 in
    let whole : take size copied ≡ block = takes_whole m map.block block copied size one.whole out.0.1 out.2 read in
    let l = length-append taken (take size copied ∷ []) in
    let n : length (taken ++ take size copied ∷ []) ≡ suc k = omega (arith, l) in
    let later : List (List ℕ) = drop (length (taken ++ take size copied ∷ [])) all in
    let next : later ≡ drop 1 (drop k all) = ap (λ (j : ℕ). drop j all) n ∙ next_left all k in (
      ap (λ (x : List ℕ). taken ++ x ∷ []) whole ∙ ap (λ (xs : List (List ℕ)). xs ++ block ∷ []) prefix ∙ sym (next_taken all k block rest (sym is)) ∙ ap (λ (j : ℕ). take j all) (sym n),
      of_out map (block ∷ rest) later (with_bytes m map.block (spelled 4 0)) stage (emptied map.ack) there
          (took map (block ∷ rest) later m map.ack placed.head apart.ack out.0.2 refl (taken_now map block rest (drop k all) later m is next)),
    )

-- bytes of the address's register, after a guest's writes
status_off : (map : SourceMap) (m : ℕ → ℕ) → IsPlaced map → IsApart map
    → bytes_from (with_bytes m map.block (spelled 4 0)) (index_of map.address.place) (octets map.address.access) ≡ bytes_from m (index_of map.address.place) (octets map.address.access)
status_off map m placed apart =
    let at : ℕ = index_of map.address.place in
    let n : ℕ = octets map.address.access in
    let head = placed.head in
    far m map.block (spelled 4 0) at n (spelled_off at n map.block 4 0 (short_off at n map.block map.len 4 (omega (arith, head)) apart.address))

answer_off : (map : SourceMap) (m : ℕ → ℕ) (ack : AckRegister) (value : ℕ) → IsAckApart map (Some ack)
    → bytes_from (with_bytes m (index_of ack.place) (spelled (octets ack.access) value)) (index_of map.address.place) (octets map.address.access)
    ≡ bytes_from m (index_of map.address.place) (octets map.address.access)
answer_off map m ack value apart =
    let at : ℕ = index_of map.address.place in
    let n : ℕ = octets map.address.access in
    let place : ℕ = index_of ack.place in
    let k : ℕ = octets ack.access in
    far m place (spelled k value) at n (spelled_off at n place k value (swapped place k at n apart.0))

-- at the address that the guest reads
abbrev pub left_of : World → List (List ℕ)
left_of w = drop (length w.taken) w.submitted

keeps_submit : (old : World) (block : List ℕ) → IsGood old.source.map.len block → Holds old
    → Holds (record old { source = submitted old.source block; submitted = old.submitted ++ block ∷ [] })
keeps_submit old block good h =
    let le = no_more old.taken old.submitted h.prefix in
    let notified = h.notified in
    let queue_more = length-append old.source.queue (block ∷ []) in
    let all_more = length-append old.submitted (block ∷ []) in
    record {
      source = source_more old.source block good h.source;
      apart = h.apart;
      prefix = h.prefix ∙ sym (take-append-le (length old.taken) old.submitted (block ∷ []) le);
      notified = omega (arith, notified, queue_more, all_more);
      addressed = h.addressed;
      together = subst (λ (left : List (List ℕ)). AreTogether old.source.map (old.source.queue ++ block ∷ []) old.memory left old.source.stage old.reader)
          (sym (drop-append-le (length old.taken) old.submitted (block ∷ []) le))
          (one_more_block old.source.map old.source.queue (left_of old) old.memory block old.source.stage old.reader good.fits.head h.together);
    }

keeps_access : (old : World) (value : ℕ) → IsRead (told old.source) old.memory value → Holds old
    → Holds (record old { source = after old.source value; memory = memory_after (told old.source) old.memory; notices = old.notices + notices_of (told old.source) })
keeps_access old value read h =
    let s : SourceState = old.source in
    record {
      source = source_after s value h.source;
      apart = h.apart;
      prefix = h.prefix;
      notified = notified s.map s.queue s.stage value old.notices (length old.submitted) h.source.reached h.notified;
      addressed = address_accessed s.map s.queue old.memory s.stage value h.source.placed h.apart h.source.good h.source.reached h.addressed;
      together = accessed s.map s.queue (left_of old) old.memory s.stage old.reader value h.source.placed h.apart h.source.good read h.together;
    }

-- the reader's state alone
with_reader : (old : World) (reader : Reader) → Holds old → AreTogether old.source.map old.source.queue old.memory (left_of old) old.source.stage reader → Holds (record old { reader = reader })
with_reader old reader h at = record { source = h.source; apart = h.apart; prefix = h.prefix; notified = h.notified; addressed = h.addressed; together = at }

keeps_look : (old : World) → IsBegun old.source.stage → old.reader ≡ Looks → Holds old
    → Holds (record old { reader = if status_at (address_in old.source.map old.memory) old.memory == 0 then Looks else Copies [] })
keeps_look old is looks h =
    let s : SourceState = old.source in
    let at = subst (λ (r : Reader). AreTogether s.map s.queue old.memory (left_of old) s.stage r) looks h.together in
    let place : address_in s.map old.memory ≡ s.map.block = address_is s.map old.memory s.stage is h.addressed in
    with_reader old (if status_at (address_in s.map old.memory) old.memory == 0 then Looks else Copies []) h
    (subst (λ (a : ℕ). AreTogether s.map s.queue old.memory (left_of old) s.stage (if status_at a old.memory == 0 then Looks else Copies [])) (sym place)
    (looked s.map s.queue (left_of old) old.memory s.stage is h.source.good at))

pub out_of : (old : World) (reader : Reader) → old.reader ≡ reader → IsBusy reader → Holds old → IsOutAt old.source.stage × IsOut old.source.map old.source.queue old.memory (left_of old) reader
out_of old reader is busy h =
    let s : SourceState = old.source in
    is_out s.map s.queue (left_of old) old.memory s.stage reader busy (subst (λ (r : Reader). AreTogether s.map s.queue old.memory (left_of old) s.stage r) is h.together)

pub address_out : (old : World) → IsOutAt old.source.stage → Holds old → address_in old.source.map old.memory ≡ old.source.map.block
address_out old there h = address_is old.source.map old.memory old.source.stage (begun_out old.source.stage there) h.addressed

keeps_copy : (old : World) (copied : List ℕ) (n : ℕ) → old.reader ≡ Copies copied → length copied + n ≤ old.source.map.len → Holds old
    → Holds (record old { reader = Copies (copied ++ bytes_from old.memory (address_in old.source.map old.memory + length copied) n) })
keeps_copy old copied n is small h =
    let s : SourceState = old.source in
    let out = out_of old (Copies copied) is tt h in
    let place = address_out old out.0 h in
    let now = of_out s.map s.queue (left_of old) old.memory s.stage (Copies (copied ++ bytes_from old.memory (s.map.block + length copied) n)) out.0
    (copied_more s.map s.queue (left_of old) old.memory copied n small out.1) in
    with_reader old (Copies (copied ++ bytes_from old.memory (address_in s.map old.memory + length copied) n)) h
    (subst (λ (a : ℕ). AreTogether s.map s.queue old.memory (left_of old) s.stage (Copies (copied ++ bytes_from old.memory (a + length copied) n))) (sym place) now)

-- a block is taken, at the address that the guest reads
taken_at : World → List ℕ → ℕ → ℕ → World
taken_at old copied size block = record old {
  reader = emptied old.source.map.ack;
  memory = with_bytes old.memory block (spelled 4 0);
  taken = old.taken ++ take size copied ∷ [];
}

keeps_take : (old : World) (copied : List ℕ) (size : ℕ) → old.reader ≡ Copies copied → checked copied ≡ Ok size → Holds old → Holds (taken_at old copied size (address_in old.source.map old.memory))
unfolding taken_at
keeps_take old copied size is read h =
    let s : SourceState = old.source in
    let out = out_of old (Copies copied) is tt h in
    let place = address_out old out.0 h in
    let t = taking s.map s.queue old.memory copied size old.taken old.submitted s.stage h.source.placed h.apart h.source.good h.prefix out.0 out.1 read in
    let now : Holds (taken_at old copied size s.map.block) = record {
      source = h.source;
      apart = h.apart;
      prefix = t.0;
      notified = h.notified;
      addressed = address_same s.map old.memory (with_bytes old.memory s.map.block (spelled 4 0)) s.stage (status_off s.map old.memory h.source.placed h.apart) h.addressed;
      together = t.1;
    } in
    subst (λ (a : ℕ). Holds (taken_at old copied size a)) (sym place) now

keeps_answer : (old : World) (ack : AckRegister) (read : ℕ) → old.source.map.ack ≡ Some ack → old.reader ≡ Answers read → Holds old
    → Holds (record old { reader = Looks; memory = answered ack read old.memory })
keeps_answer old ack read some is h =
    let s : SourceState = old.source in
    let out = out_of old (Answers read) is tt h in
    let word : ℕ = bit_or (bit_and read ack.keep) ack.set in
    let apart : IsAckApart s.map (Some ack) = subst (IsAckApart s.map) some h.apart.ack in
    let memory : ℕ → ℕ = with_bytes old.memory (index_of ack.place) (spelled (octets ack.access) word) in
    record {
      source = h.source;
      apart = h.apart;
      prefix = h.prefix;
      notified = h.notified;
      addressed = address_same s.map old.memory memory s.stage (answer_off s.map old.memory ack word apart) h.addressed;
      together = of_out s.map s.queue (left_of old) memory s.stage Looks out.0 (inr (
        number_written s.map s.queue (left_of old) old.memory ack word h.source.placed.head apart out.1.0,
        acked_now s.map old.memory ack (bit_and read ack.keep) (subst HasBits some h.source.placed.ack) some,
      ));
    }

pub keeps : (old new : World) → Happens old new → Holds old → Holds new
unfolding taken_at
keeps old new (Submits block good is) h = subst Holds (sym is) (keeps_submit old block good h)
keeps old new (Accesses value read is) h = subst Holds (sym is) (keeps_access old value read h)
keeps old new (GuestLooks begun looks is) h = subst Holds (sym is) (keeps_look old begun looks h)
keeps old new (GuestCopies copied n copies small is) h = subst Holds (sym is) (keeps_copy old copied n copies small h)
keeps old new (GuestTakes copied size copies read is) h = subst Holds (sym is) (keeps_take old copied size copies read h)
keeps old new (GuestAsks ack some owes is) h =
    let s : SourceState = old.source in
    let out = out_of old Owes owes tt h in
    subst Holds (sym is) (with_reader old (Answers (number_in ack old.memory)) h (of_out s.map s.queue (left_of old) old.memory s.stage (Answers (number_in ack old.memory)) out.0 out.1))
keeps old new (GuestAnswers ack read some answers is) h = subst Holds (sym is) (keeps_answer old ack read some answers h)
keeps old new (Elsewhere memory same is) h =
    let s : SourceState = old.source in
    subst Holds (sym is) (record {
      source = h.source;
      apart = h.apart;
      prefix = h.prefix;
      notified = h.notified;
      addressed = address_same s.map old.memory memory s.stage same.address h.addressed;
      together = elsewhere s.map s.queue (left_of old) old.memory memory s.stage old.reader h.source.placed.head h.source.good same h.together;
    })

begins : (map : SourceMap) (queue left : List (List ℕ)) (m : ℕ → ℕ) (stage : Stage) (reader : Reader) → stage ≡ Hide → queue ≡ left → reader ≡ Looks → AreTogether map queue m left stage reader
begins map queue left m stage reader is same looks = subst (λ (s : Stage). AreTogether map queue m left s reader) (sym is) (same, looks)

pub holds_first : (w : World) → IsFirst w → Holds w
holds_first w f =
    let notices = f.notices in
    let lengths = ap length f.submitted in
    record {
      source = f.source;
      apart = f.apart;
      prefix = f.taken ∙ sym (ap (λ (xs : List (List ℕ)). take (length xs) w.submitted) f.taken);
      notified = subst (λ (s : Stage). w.notices + length w.source.queue ≡ length w.submitted + waited_for s) (sym f.stage) (omega (arith, notices, lengths));
      addressed = subst (λ (s : Stage). IsAddressed w.source.map w.memory s) (sym f.stage) tt;
      together = begins w.source.map w.source.queue (left_of w) w.memory w.source.stage w.reader f.stage
          (sym (ap (λ (xs : List (List ℕ)). drop (length xs) w.submitted) f.taken ∙ f.submitted)) f.reader;
    }

pub holds_last : (first last : World) → IsFirst first → Leads first last → Holds last
holds_last first last f Stays = holds_first first f
holds_last first last f (Then between next before happens) = keeps between next happens (holds_last first between f before)

-- while the guest has a block that it has not acknowledged, no access writes
pub no_write : (map : SourceMap) (queue left : List (List ℕ)) (m : ℕ → ℕ) (stage : Stage) (reader : Reader) → IsBusy reader → AreTogether map queue m left stage reader
    → memory_after (told_at map queue stage) m ≡ m
no_write map queue left m stage reader busy at = by_stage stage (is_out map queue left m stage reader busy at).0
  where
    by_stage : (stage : Stage) → IsOutAt stage → memory_after (told_at map queue stage) m ≡ m
    by_stage Hide there = absurd there
    by_stage TellAddress there = absurd there
    by_stage ReadFirst there = absurd there
    by_stage (SetAck v) there = absurd there
    by_stage (Fill piece) there = absurd there
    by_stage ReadAck there = absurd there
    by_stage (ClearAck v) there = absurd there
    by_stage Show there = absurd there
    by_stage Notify there = refl
    by_stage Await there = asked_keeps map map.ack m

-- the next look, after the guest took the block that is waited for and acknowledged it
fewer : (map : SourceMap) (queue left : List (List ℕ)) (m : ℕ → ℕ) → IsShown map queue m left → length left < length queue → ⊥
fewer map [] left m shown few = shown
fewer map (block ∷ rest) left m shown few = let same = ap length shown.0 in omega (arith, same, few)

is_free : (map : SourceMap) (queue left : List (List ℕ)) (m : ℕ → ℕ) → IsOut map queue m left Looks → length left < length queue → acked map map.ack m ≡ true
is_free map queue left m (inl shown) few = absurd (fewer map queue left m shown few)
is_free map queue left m (inr answered) few = answered.1

released_after : (s : SourceState) (value : ℕ) → s.stage ≡ Await → frees s.map.ack value ≡ true → after s value ≡ record s { stage = Fill 0; queue = drop 1 s.queue }
released_after s value awaits free =
    ap (λ (t : Stage). record s { stage = stage_after s.map s.queue t value; queue = queue_after s.map s.queue t value }) awaits
    ∙ ap (λ (b : Bool). record s { stage = if b then Fill 0 else Await; queue = if b then drop 1 s.queue else s.queue }) free

pub seen : (first last : World) (value : ℕ) → IsFirst first → Leads first last → HasAnswered last → IsRead (told last.source) last.memory value
    → after last.source value ≡ record last.source { stage = Fill 0; queue = drop 1 last.source.queue }
seen first last value f runs answered read =
    let s : SourceState = last.source in
    let h : Holds last = holds_last first last f runs in
    let at : AreTogether s.map s.queue last.memory (left_of last) Await Looks =
    subst (λ (t : Stage). AreTogether s.map s.queue last.memory (left_of last) t Looks) answered.0
    (subst (λ (r : Reader). AreTogether s.map s.queue last.memory (left_of last) s.stage r) answered.1 h.together) in
    let le = no_more last.taken last.submitted h.prefix in
    let n = length-drop (length last.taken) last.submitted in
    let many = answered.2 in
    let asked : IsRead (ack_asked s.map s.map.ack) last.memory value = subst (λ (t : Stage). IsRead (told_at s.map s.queue t) last.memory value) answered.0 read in
    released_after s value answered.0
    (freed_is s.map s.map.ack last.memory value asked ∙ is_free s.map s.queue (left_of last) last.memory at (omega (arith, le, n, many)))
