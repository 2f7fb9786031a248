-- What an access writes: inside the source's parts alone.
use Rattle.std.proofs.Common.{◌≡◌, ℕ, ◌+◌, ◌<◌, ◌≤◌, inl, inr, Option, Some, None, List, [], ◌∷◌, length, take, All, bit_or, refl, sym, subst, arith}
use Rattle.std.proofs.lemmas.List.{length-take, length-drop}
use Rattle.base_model.specs.Bytes.{part, spelled}
use Rattle.base_model.proofs.BytesLemmas.{length-spelled}
use Rattle.ghes_port.specs.declared.maps.SourceMap.{SourceMap}
use Rattle.ghes_port.specs.declared.maps.AckRegister.{AckRegister}
use Rattle.ghes_port.specs.declared.stages.Stage.{Stage}
use Rattle.ghes_port.specs.declared.stages.Stage.TheVariants.{Hide, TellAddress, ReadFirst, SetAck, Fill, ReadAck, ClearAck, Show, Notify, Await}
use Rattle.ghes_port.specs.Places.{index_of, octets}
use Rattle.ghes_port.specs.Memories.{bytes_from, with_bytes}
use Rattle.ghes_port.specs.Machine.{told_at, piece_at, piece_of, ack_read, ack_set, ack_cleared, ack_asked, address_number, cleared, IsGood}
use Rattle.ghes_port.specs.Sound.{IsReached}
use Rattle.ghes_port.specs.Readers.{memory_after, AreOff}
use Rattle.ghes_port.proofs.MemoryLemmas.{far}

-- what somebody sees of a memory, and which bytes are clear of it: a write of these changes nothing that is seen
pub record View : Type 1 where
  pub Same : (ℕ → ℕ) → (ℕ → ℕ) → Type 0
  pub Clear : ℕ → ℕ → Type 0
  pub same : (m : ℕ → ℕ) → Same m m
  pub inner : (at n other k : ℕ) → at ≤ other → other + k ≤ at + n → Clear at n → Clear other k
  pub written : (m : ℕ → ℕ) (at : ℕ) (bytes : List ℕ) → Clear at (length bytes) → Same m (with_bytes m at bytes)

pub off_inner : (a l at n other k : ℕ) → at ≤ other → other + k ≤ at + n → AreOff a l at n → AreOff a l other k
off_inner a l at n other k low high (inl before) = inl (omega (arith, before, low))
off_inner a l at n other k low high (inr after) = inr (omega (arith, after, high))

-- n bytes at an index
abbrev pub bytes_seen : ℕ → ℕ → View
bytes_seen a l = record {
  Same = λ old new. bytes_from new a l ≡ bytes_from old a l;
  Clear = λ at n. AreOff a l at n;
  same = λ m. refl;
  inner = off_inner a l;
  written = λ m at bytes clear. far m at bytes a l clear;
}

reads_only : (v : View) (ack : Option AckRegister) (m : ℕ → ℕ) → v.Same m (memory_after (ack_read ack) m)
reads_only v None m = v.same m
reads_only v (Some ack) m = v.same m

asks_only : (v : View) (map : SourceMap) (ack : Option AckRegister) (m : ℕ → ℕ) → v.Same m (memory_after (ack_asked map ack) m)
asks_only v map None m = v.same m
asks_only v map (Some ack) m = v.same m

number_only : (v : View) (m : ℕ → ℕ) (at n value : ℕ) → v.Clear at n → v.Same m (with_bytes m at (spelled n value))
number_only v m at n value clear = v.written m at (spelled n value) (subst (λ (k : ℕ). v.Clear at k) (sym (length-spelled n value)) clear)

four : (v : View) (m : ℕ → ℕ) (at len : ℕ) (bytes : List ℕ) → length bytes ≤ 4 → 20 ≤ len → v.Clear at len → v.Same m (with_bytes m at bytes)
four v m at len bytes short long clear = v.written m at bytes (v.inner at len at (length bytes) (omega (arith)) (omega (arith, short, long)) clear)

sets_only : (v : View) (ack : Option AckRegister) (read : ℕ) (m : ℕ → ℕ) → ((a : AckRegister) → ack ≡ Some a → v.Clear (index_of a.place) (octets a.access))
    → v.Same m (memory_after (ack_set ack read) m)
sets_only v None read m clear = v.same m
sets_only v (Some ack) read m clear = number_only v m (index_of ack.place) (octets ack.access) (bit_or read ack.set) (clear ack refl)

clears_only : (v : View) (ack : Option AckRegister) (read : ℕ) (m : ℕ → ℕ) → ((a : AckRegister) → ack ≡ Some a → v.Clear (index_of a.place) (octets a.access))
    → v.Same m (memory_after (ack_cleared ack read) m)
clears_only v None read m clear = v.same m
clears_only v (Some ack) read m clear = number_only v m (index_of ack.place) (octets ack.access) (cleared ack read) (clear ack refl)

piece_fits : (block : List ℕ) (at : ℕ) → at < length block → at + length (part block at 64) ≤ length block
unfolding part
piece_fits block at begins = rw (length-take, length-drop) (omega (arith, begins))

-- the register of the address apart, which one access writes, an access writes inside the window or the acknowledge register
pub access_only : (v : View) (map : SourceMap) (queue : List (List ℕ)) (stage : Stage) (m : ℕ → ℕ) → 20 ≤ map.len → All (IsGood map.len) queue → IsReached map queue stage
    → (stage ≡ TellAddress → v.Clear (index_of map.address.place) (octets map.address.access)) → v.Clear map.block map.len
    → ((a : AckRegister) → map.ack ≡ Some a → v.Clear (index_of a.place) (octets a.access)) → v.Same m (memory_after (told_at map queue stage) m)
access_only v map queue Hide m head good reached address block ack = four v m map.block map.len (spelled 4 0) (let n = length-spelled 4 0 in omega (arith, n)) head block
access_only v map queue TellAddress m head good reached address block ack = number_only v m (index_of map.address.place) (octets map.address.access) (address_number map) (address refl)
access_only v map queue ReadFirst m head good reached address block ack = reads_only v map.ack m
access_only v map queue (SetAck read) m head good reached address block ack = sets_only v map.ack read m ack
access_only v map [] (Fill piece) m head good reached address block ack = v.same m
access_only v map (b ∷ rest) (Fill piece) m head good reached address block ack =
    let high = (good 0 b (omega (arith))).fits.fits in
    let within = piece_fits b (piece_at piece) reached in
    v.written m (map.block + piece_at piece) (piece_of b piece)
    (v.inner map.block map.len (map.block + piece_at piece) (length (piece_of b piece)) (omega (arith)) (omega (arith, high, within)) block)
access_only v map queue ReadAck m head good reached address block ack = reads_only v map.ack m
access_only v map queue (ClearAck read) m head good reached address block ack = clears_only v map.ack read m ack
access_only v map [] Show m head good reached address block ack = v.same m
access_only v map (b ∷ rest) Show m head good reached address block ack = four v m map.block map.len (take 4 b) (let n = length-take 4 b in omega (arith, n)) head block
access_only v map queue Notify m head good reached address block ack = v.same m
access_only v map queue Await m head good reached address block ack = asks_only v map map.ack m
