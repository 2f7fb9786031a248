-- The turns of the two sides of a plain handover with their blocks.
use Rattle.std.proofs.Common.{◌≡◌, ◌∙◌, ℕ, suc, ◌+◌, ◌-◌, ◌*◌, ◌<◌, ◌≤◌, min, List, [], ◌∷◌, length, take, map, get_or, All, Vec, Option, Some, None, refl, sym, ap, subst, arith}
use Rattle.std.specs.declared.alloc.Global.{Global}
use Rattle.std.specs.Vec.{with_items}
use Rattle.std.proofs.lemmas.List.{with_items_is}
use Rattle.std.proofs.lemmas.List.Elements.{All-get_or}
use Rattle.base_model.specs.Bytes.{part, spelled, put_at}
use Rattle.apei_space.specs.RamState.{RamState}
use Rattle.ghes_ack.specs.declared.events.Side.TheVariants.{Firmware, Reader}
use Rattle.ghes_ack.specs.declared.events.Event.TheVariants.{Idle, Fill, Publish, Free, Found, Copied, Took, Clear}
use Rattle.ghes_ack.specs.Machine.{Machine, Filling, Published, Reading, Acknowledged, Fits, with_piece, with_status}
use Rattle.ghes_hub.specs.declared.plain.map.PlainMap.{PlainMap}
use Rattle.ghes_ack.specs.declared.window_blocks.Blocks.{Blocks}
use Rattle.ghes_ack.specs.WindowQueues.{TakesOut, HoldsNone, count_of, held_of}
use Rattle.ghes_ack.specs.Windows.{block_bytes, with_block}
use Rattle.ghes_hub.specs.Plain.{PlainState, PlainStands}
use Rattle.ghes_hub.proofs.Terms.{plain_window_of}
use Rattle.ghes_ack.specs.Handovers.{over}
use Rattle.ghes_hub.specs.PlainSides.{Turns, FirmwareMakes, Idles, Fills, Publishes, with_next_piece, ReaderMakes, Copies, Takes, Clears}
use Rattle.ghes_ack.specs.Sides.{state_of, in_work, IsCopiedSoFar}
use Rattle.ghes_ack.proofs.SideLemmas.{in_hand, none_in_hand}
use Rattle.ghes_hub.proofs.PlainTurns.{frees, finds}

-- the block in hand is one that the window takes
pub fits_in_hand : (b t : Blocks PlainMap) (block : Vec ℕ Global) → TakesOut plain_window_of b t block → All (Fits b.map.window.len) (held_of b) → Fits b.map.window.len block.items
fits_in_hand b t block out all =
    let some : length (held_of b) ≡ suc (length (map (λ v. v.items) t.waiting.items)) = ap length out.held in
    subst (λ (blocks : List (List ℕ)). Fits b.map.window.len (get_or blocks 0 [])) out.held (All-get_or (Fits b.map.window.len) (held_of b) 0 [] (omega (arith, some)) all)

pub fills_hand : (b t : Blocks PlainMap) (block : Vec ℕ Global) (bytes : List ℕ) (ram new : RamState) → TakesOut plain_window_of b t block → bytes ≡ block.items → 64 * t.filled < length block.items →
    new ≡ with_block t.map.window ram (with_piece (block_bytes t.map.window ram) bytes t.filled) →
    FirmwareMakes (state_of Filling b) ram Fill (state_of Filling (record t { at_work = Some block; filled = t.filled + 1 })) new
fills_hand b t block bytes ram new out is more memory =
    let f = out.same.filled in
    let memory_b : new ≡ with_block b.map.window ram (with_piece (block_bytes b.map.window ram) block.items b.filled) =
    memory ∙ ap (λ (x : List ℕ). with_block t.map.window ram (with_piece (block_bytes t.map.window ram) x t.filled)) is
    ∙ ap (λ (k : ℕ). with_block t.map.window ram (with_piece (block_bytes t.map.window ram) block.items k)) f
    ∙ ap (λ (at : PlainMap). with_block at.window ram (with_piece (block_bytes at.window ram) block.items b.filled)) out.same.map in
    Fills block.items (map (λ v. v.items) t.waiting.items) out.held (omega (arith, more, f)) refl
    (sym (in_hand b t block Filling (b.filled + 1) (t.filled + 1) out (ap (λ (k : ℕ). k + 1) (sym f)))) memory_b

pub publishes_hand : (b t : Blocks PlainMap) (block : Vec ℕ Global) (bytes : List ℕ) (ram new : RamState) → TakesOut plain_window_of b t block →
    bytes ≡ block.items → length block.items ≤ 64 * t.filled →
    new ≡ with_block t.map.window ram (with_status (block_bytes t.map.window ram) (take 4 bytes)) →
    FirmwareMakes (state_of Filling b) ram Publish (state_of Published (record t { at_work = Some block; filled = 0 })) new
publishes_hand b t block bytes ram new out is none memory =
    let f = out.same.filled in
    let memory_b : new ≡ with_block b.map.window ram (with_status (block_bytes b.map.window ram) (take 4 block.items)) =
    memory ∙ ap (λ (x : List ℕ). with_block t.map.window ram (with_status (block_bytes t.map.window ram) (take 4 x))) is
    ∙ ap (λ (at : PlainMap). with_block at.window ram (with_status (block_bytes at.window ram) (take 4 block.items))) out.same.map in
    Publishes block.items (map (λ v. v.items) t.waiting.items) out.held (omega (arith, none, f)) refl (sym (in_hand b t block Published 0 0 out refl)) memory_b

-- the block at work is free
pub frees_at : (b : Blocks PlainMap) (ram : RamState) → b.at_work ≡ None → (m : Machine) → PlainStands (state_of Acknowledged b) ram m →
    Turns Firmware Free (over (state_of Acknowledged b) ram) (over (state_of Filling b) ram) m
frees_at b ram none m st =
    let h = state_of Acknowledged b in
    let same : in_work Acknowledged b.at_work b.last ≡ in_work Filling b.at_work b.last =
    ap (λ (o : Option (Vec ℕ Global)). in_work Acknowledged o b.last) none ∙ sym (ap (λ (o : Option (Vec ℕ Global)). in_work Filling o b.last) none) in
    subst (λ (o : Option (List ℕ)). Turns Firmware Free (over h ram) (over (record h { situation = Filling; at_work = o }) ram) m) same (frees h ram m refl st)

-- the reader copies
copied_items : (b : Blocks PlainMap) (block : Vec ℕ Global) (bytes copied : List ℕ) (ram : RamState) → bytes ≡ block.items →
    copied ≡ put_at bytes (64 * b.copied) (part (block_bytes b.map.window ram) (64 * b.copied) (min 64 (length bytes - 64 * b.copied))) → length copied ≡ block.len →
    (with_items block copied).items ≡ with_next_piece (state_of Reading b) ram block.items
copied_items b block bytes copied ram is memory long = with_items_is block copied long ∙ memory ∙ ap (with_next_piece (state_of Reading b) ram) is

pub copies_at : (b : Blocks PlainMap) (block : Vec ℕ Global) (bytes copied : List ℕ) (ram : RamState) → b.at_work ≡ Some block → bytes ≡ block.items → 64 * (b.copied + 1) < length block.items →
    copied ≡ put_at bytes (64 * b.copied) (part (block_bytes b.map.window ram) (64 * b.copied) (min 64 (length bytes - 64 * b.copied))) → length copied ≡ block.len →
    ReaderMakes (state_of Reading b) ram Copied (state_of Reading (record b { at_work = Some (with_items block copied); copied = b.copied + 1 })) ram
copies_at b block bytes copied ram some is more memory long =
    let work : in_work Reading b.at_work b.last ≡ Some block.items = ap (λ (o : Option (Vec ℕ Global)). in_work Reading o b.last) some in
    Copies block.items work more refl
    (ap (λ (x : List ℕ). record (state_of Reading b) { at_work = Some x; copied = b.copied + 1 }) (copied_items b block bytes copied ram is memory long)) refl

pub takes_at : (b after : Blocks PlainMap) (block : Vec ℕ Global) (bytes copied : List ℕ) (ram : RamState) → b.at_work ≡ Some block → bytes ≡ block.items →
    64 * b.copied < length block.items → length block.items ≤ 64 * (b.copied + 1) →
    copied ≡ put_at bytes (64 * b.copied) (part (block_bytes b.map.window ram) (64 * b.copied) (min 64 (length bytes - 64 * b.copied))) → length copied ≡ block.len →
    after ≡ record b { at_work = None; copied = b.copied + 1; last = with_items block copied; spare = after.spare } → ReaderMakes (state_of Reading b) ram Took (state_of Reading after) ram
takes_at b after block bytes copied ram some is more all memory long is_after =
    let work : in_work Reading b.at_work b.last ≡ Some block.items = ap (λ (o : Option (Vec ℕ Global)). in_work Reading o b.last) some in
    Takes block.items work more all refl
    (ap (state_of Reading) is_after ∙ ap (λ (x : List ℕ). record (state_of Reading b) { at_work = Some x; copied = b.copied + 1; last = x })
    (copied_items b block bytes copied ram is memory long)) refl

pub clears_at : (b : Blocks PlainMap) (rest : Option (Vec ℕ Global)) (ram new : RamState) → b.at_work ≡ None → rest ≡ None → IsCopiedSoFar b.copied b.at_work b.last →
    new ≡ with_block b.map.window ram (with_status (block_bytes b.map.window ram) (spelled 4 0)) → ReaderMakes (state_of Reading b) ram Clear (state_of Acknowledged (record b { at_work = rest })) new
clears_at b rest ram new none gone far memory =
    let work : in_work Reading b.at_work b.last ≡ Some b.last.items = ap (λ (o : Option (Vec ℕ Global)). in_work Reading o b.last) none in
    let all : length b.last.items ≤ 64 * b.copied = subst (λ (o : Option (Vec ℕ Global)). IsCopiedSoFar b.copied o b.last) none far in
    Clears b.last.items work all refl (ap (λ (o : Option (Vec ℕ Global)). state_of Acknowledged (record b { at_work = o })) gone) memory

pub idles_at : (b new : Blocks PlainMap) (ram : RamState) → HoldsNone plain_window_of b new → FirmwareMakes (state_of Filling b) ram Idle (state_of Filling new) ram
idles_at b new ram none = Idles none.held refl (none_in_hand b new none) refl

pub finds_at : (b : Blocks PlainMap) (ram : RamState) → count_of b.at_work ≡ 1 → (m : Machine) → PlainStands (state_of Published b) ram m →
    Turns Reader Found (over (state_of Published b) ram) (over (state_of Reading (record b { copied = 0 })) ram) m
finds_at b ram one m st = subst (λ (o : Option (List ℕ)). Turns Reader Found (over (state_of Published b) ram)
    (over (record (state_of Published b) { situation = Reading; copied = 0; at_work = o }) ram) m) (same b.at_work one)
    (finds (state_of Published b) ram m refl st) where
      same : (o : Option (Vec ℕ Global)) → count_of o ≡ 1 → in_work Published o b.last ≡ in_work Reading o b.last
      same (Some block) e = refl
      same None e = absurd (omega (arith, e))
