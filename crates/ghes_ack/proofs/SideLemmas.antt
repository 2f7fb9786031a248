-- Turns of each side by its own end, its blocks and the memory alone.
use Rattle.std.proofs.Common.{◌≡◌, ◌∙◌, ℕ, zero, suc, ◌+◌, ◌-◌, ◌*◌, ◌<◌, ◌≤◌, min, List, [], replicate, ◌∷◌, ◌++◌, length, take, map, get_or, All, Vec, Option}
use Rattle.std.proofs.Common.{Some, None, option_to_list, refl, sym, ap, subst, arith}
use Rattle.std.specs.declared.alloc.Global.{Global}
use Rattle.std.specs.Vec.{with_items}
use Rattle.std.proofs.lemmas.List.{with_items_is}
use Rattle.std.proofs.lemmas.List.Elements.{All-get_or}
use Rattle.base_model.specs.Bytes.{part, spelled, put_at}
use Rattle.apei_space.specs.RamState.{RamState}
use Rattle.ghes_ack.specs.declared.maps.HandoverMap.{HandoverMap}
use Rattle.ghes_ack.specs.declared.events.Event.{Event}
use Rattle.ghes_ack.specs.declared.ends.FirmwareEnd.{FirmwareEnd}
use Rattle.ghes_ack.specs.declared.ends.FirmwareEnd.TheVariants.{Writes}
use Rattle.ghes_ack.specs.declared.ends.MayWrite.{MayWrite}
use Rattle.ghes_ack.specs.declared.events.Event.TheVariants.{Idle, Fill, Publish, Copied, Took, Clear}
use Rattle.ghes_ack.specs.declared.window.BlockWindow.{BlockWindow}
use Rattle.ghes_ack.specs.declared.window_blocks.Blocks.{Blocks}
use Rattle.ghes_ack.specs.WindowQueues.{held_of, HoldsNone, TakesOut}
use Rattle.ghes_ack.specs.Machine.{Situation, Filling, Published, Reading, Cleared, Fits, with_piece, with_pieces, with_status}
use Rattle.ghes_ack.specs.Maps.{window, window_of, ack_read, with_window, with_ack, with_clear, IsClear}
use Rattle.ghes_ack.specs.Handovers.{HandoverOver, kept, over}
use Rattle.ghes_ack.specs.Sides.{state_of, in_work, IsCopiedSoFar}
use Rattle.ghes_ack.specs.OwnTurns.{FirmwareMakes, FirmwareRuns, firmware_at, Idles, Fills, Publishes, ReaderMakes, Copies, Takes, Clears}
use Rattle.ghes_ack.proofs.Terms.{read_over}
use Rattle.ghes_ack.proofs.RunLemmas.{noted, taken_noted}

-- the block in hand is one that the window takes
first_fits : (len : ℕ) (block : List ℕ) (blocks rest : List (List ℕ)) → blocks ≡ block ∷ rest → All (Fits len) blocks → Fits len block
first_fits len block blocks rest is all =
    let n : length blocks ≡ suc (length rest) = ap length is in
    subst (λ (xs : List (List ℕ)). Fits len (get_or xs 0 [])) is (All-get_or (Fits len) blocks 0 [] (omega (arith, n)) all)

pub fits_in_hand : (b t : Blocks HandoverMap) (block : Vec ℕ Global) → TakesOut window_of b t block → All (Fits b.map.len) (held_of b) → Fits b.map.len block.items
fits_in_hand b t block out all = first_fits b.map.len block.items (held_of b) (map (λ v. v.items) t.waiting.items) out.held all

-- what the handover is after a turn that took out a block
pub in_hand : {M : Type 0} {w : M → BlockWindow} (b t : Blocks M) (block : Vec ℕ Global) (s : Situation) (filled other : ℕ) → TakesOut w b t block → filled ≡ other →
    ◌≡◌ {A = HandoverOver M} (record { map = b.map; situation = s; waiting = map (λ v. v.items) t.waiting.items; at_work = Some block.items; filled = filled; copied = b.copied; last = b.last.items })
    (record { map = t.map; situation = s; waiting = map (λ v. v.items) t.waiting.items; at_work = Some block.items; filled = other; copied = t.copied; last = t.last.items })
in_hand b t block s filled other out same =
    let at = out.same.map in
    let copied = out.same.copied in
    let last : t.last.items ≡ b.last.items = ap (λ v. v.items) out.same.last in
    cc

-- turns of a firmware that may write
pub writes_run : (end after : FirmwareEnd) (write : MayWrite) (old new : Blocks HandoverMap) (ram memory : RamState) (events : List Event) → end ≡ Writes write
    → FirmwareMakes (state_of Filling old) ram events (state_of (firmware_at after) new) memory → FirmwareRuns end (over old ram) events after (over new memory)
writes_run end after write old new ram memory events is made = subst (λ (e : FirmwareEnd). FirmwareRuns e (over old ram) events after (over new memory)) (sym is) made

-- there is none
none_held : (work : Option (Vec ℕ Global)) (last : Vec ℕ Global) (waiting : List (List ℕ)) → option_to_list (in_work Filling work last) ++ waiting ≡ [] →
    (in_work Filling work last ≡ None) × (waiting ≡ [])
none_held None last waiting is = (refl, is)
none_held (Some block) last waiting is = absurd cc

pub none_in_hand : {M : Type 0} {w : M → BlockWindow} (b t : Blocks M) → HoldsNone w b t → state_of Filling t ≡ state_of Filling b
none_in_hand b t none =
    let old = none_held b.at_work b.last (map (λ v. v.items) b.waiting.items) none.held in
    let work_old : in_work Filling b.at_work b.last ≡ None = old.0 in
    let waiting_old : map (λ v. v.items) b.waiting.items ≡ [] = old.1 in
    let work_new : in_work Filling t.at_work t.last ≡ None = ap (λ (o : Option (Vec ℕ Global)). in_work Filling o t.last) none.at_work in
    let waiting_new : map (λ v. v.items) t.waiting.items ≡ [] = ap (map (λ v. v.items)) none.waiting in
    let at = none.same.map in
    let filled = none.same.filled in
    let copied = none.same.copied in
    let last : t.last.items ≡ b.last.items = ap (λ v. v.items) none.same.last in
    cc

pub idles_at : (b t : Blocks HandoverMap) (ram : RamState) (events rest : List Event) → HoldsNone window_of b t → events ≡ replicate 1 Idle ++ rest →
    FirmwareMakes (state_of Filling b) ram (take 1 events) (state_of Filling t) ram
idles_at b t ram events rest none is_noted = Idles none.held (noted 1 Idle events rest is_noted) (none_in_hand b t none) refl

-- the next pieces are filled
pub fills_at : (count : ℕ) (b t : Blocks HandoverMap) (block : Vec ℕ Global) (bytes : List ℕ) (ram new : RamState) (events rest : List Event) →
    TakesOut window_of b t block → bytes ≡ block.items → 0 < count → 64 * (t.filled + count) < length block.items + 64 →
    new ≡ with_window t.map ram (with_pieces (window t.map ram) bytes t.filled count) → events ≡ replicate count Fill ++ rest →
    FirmwareMakes (state_of Filling b) ram (take count events) (state_of Filling (record t { at_work = Some block; filled = t.filled + count })) new
fills_at zero b t block bytes ram new events rest out is some more memory is_noted = absurd (omega (arith, some))
fills_at (suc n) b t block bytes ram new events rest out is some more memory is_noted =
    let f = out.same.filled in
    let memory_b : new ≡ with_window b.map ram (with_pieces (window b.map ram) block.items b.filled (suc n)) =
    memory ∙ ap (λ (x : List ℕ). with_window t.map ram (with_pieces (window t.map ram) x t.filled (suc n))) is
    ∙ ap (λ (k : ℕ). with_window t.map ram (with_pieces (window t.map ram) block.items k (suc n))) f
    ∙ ap (λ (at : HandoverMap). with_window at ram (with_pieces (window at ram) block.items b.filled (suc n))) out.same.map in
    Fills n block.items (map (λ v. v.items) t.waiting.items) out.held (omega (arith, more, f)) (noted (suc n) Fill events rest is_noted)
    (sym (in_hand b t block Filling (b.filled + suc n) (t.filled + suc n) out (ap (λ (k : ℕ). k + suc n) (sym f)))) memory_b

-- the block at work, of which one piece more is filled in its place
work_next : (b : Blocks HandoverMap) (block : Vec ℕ Global) → b.at_work ≡ Some block → kept (state_of Filling b) ≡ block.items ∷ map (λ v. v.items) b.waiting.items
work_next b block some = ap (λ (o : Option (Vec ℕ Global)). option_to_list (in_work Filling o b.last) ++ map (λ v. v.items) b.waiting.items) some

pub fits_at : (b : Blocks HandoverMap) (block : Vec ℕ Global) → b.at_work ≡ Some block → All (Fits b.map.len) (held_of b) → Fits b.map.len block.items
fits_at b block some all = first_fits b.map.len block.items (held_of b) (map (λ v. v.items) b.waiting.items) (work_next b block some) all

pub fills_next : (b : Blocks HandoverMap) (block : Vec ℕ Global) (bytes : List ℕ) (ram new : RamState) → b.at_work ≡ Some block → bytes ≡ block.items → 64 * b.filled < length block.items →
    new ≡ with_window b.map ram (with_piece (window b.map ram) bytes b.filled) → FirmwareMakes (state_of Filling b) ram (Fill ∷ []) (state_of Filling (record b { filled = b.filled + 1 })) new
fills_next b block bytes ram new some is more memory =
    let work : in_work Filling b.at_work b.last ≡ Some block.items = ap (λ (o : Option (Vec ℕ Global)). in_work Filling o b.last) some in
    Fills 0 block.items (map (λ v. v.items) b.waiting.items) (work_next b block some) (omega (arith, more)) refl
    (ap (λ (o : Option (List ℕ)). record (state_of Filling b) { at_work = o; filled = b.filled + 1 }) work)
    (memory ∙ ap (λ (x : List ℕ). with_window b.map ram (with_piece (window b.map ram) x b.filled)) is)

-- a block all of whose pieces are filled is published
pub publishes_at : (b t : Blocks HandoverMap) (block : Vec ℕ Global) (bytes : List ℕ) (ram new : RamState) (events rest : List Event) →
    TakesOut window_of b t block → bytes ≡ block.items → length block.items ≤ 64 * t.filled →
    new ≡ with_window t.map (with_ack t.map ram (with_clear t.map (ack_read t.map ram))) (with_status (window t.map ram) (take 4 bytes)) → IsClear t.map new → events ≡ replicate 1 Publish ++ rest →
    FirmwareMakes (state_of Filling b) ram (take 1 events) (state_of Published (record t { at_work = Some block; filled = 0 })) new
publishes_at b t block bytes ram new events rest out is none memory clear is_noted =
    let f = out.same.filled in
    let same = out.same.map in
    let memory_b : new ≡ with_window b.map (with_ack b.map ram (with_clear b.map (ack_read b.map ram))) (with_status (window b.map ram) (take 4 block.items)) =
    memory ∙ ap (λ (x : List ℕ). with_window t.map (with_ack t.map ram (with_clear t.map (ack_read t.map ram))) (with_status (window t.map ram) (take 4 x))) is
    ∙ ap (λ (at : HandoverMap). with_window at (with_ack at ram (with_clear at (ack_read at ram))) (with_status (window at ram) (take 4 block.items))) same in
    Publishes block.items (map (λ v. v.items) t.waiting.items) out.held (omega (arith, none, f)) (noted 1 Publish events rest is_noted) (sym (in_hand b t block Published 0 0 out refl)) memory_b
    (subst (λ (at : HandoverMap). IsClear at new) same clear)

pub begins_at : {M : Type 0} (b : Blocks M) (block : Vec ℕ Global) → b.at_work ≡ Some block → IsCopiedSoFar b.copied b.at_work b.last → 64 * b.copied < length block.items
begins_at b block some far = subst (λ (o : Option (Vec ℕ Global)). IsCopiedSoFar b.copied o b.last) some far

pub none_copied : {M : Type 0} (b : Blocks M) (block : Vec ℕ Global) → b.at_work ≡ Some block → 20 ≤ length block.items → IsCopiedSoFar 0 b.at_work b.last
none_copied b block some head =
    let begins : 64 * 0 < length block.items = omega (arith, head) in
    subst (λ (o : Option (Vec ℕ Global)). IsCopiedSoFar 0 o b.last) (sym some) begins

-- the block over which pieces were copied
copied_items : (p : ℕ) (b : Blocks HandoverMap) (block : Vec ℕ Global) (bytes copied : List ℕ) (ram : RamState) → bytes ≡ block.items →
    copied ≡ put_at bytes (64 * b.copied) (part (window b.map ram) (64 * b.copied) (min (64 * p) (length bytes - 64 * b.copied))) → length copied ≡ block.len →
    (with_items block copied).items ≡ read_over b.map ram block.items b.copied p
copied_items p b block bytes copied ram is memory long = with_items_is block copied long ∙ memory ∙ ap (λ (x : List ℕ). read_over b.map ram x b.copied p) is

pub copies_at : (count : ℕ) (b : Blocks HandoverMap) (block : Vec ℕ Global) (bytes copied : List ℕ) (ram : RamState) (events rest : List Event) →
    b.at_work ≡ Some block → bytes ≡ block.items → 64 * (b.copied + count) < length block.items →
    copied ≡ put_at bytes (64 * b.copied) (part (window b.map ram) (64 * b.copied) (min (64 * count) (length bytes - 64 * b.copied))) →
    length copied ≡ block.len → events ≡ replicate count Copied ++ rest →
    ReaderMakes (state_of Reading b) ram (take count events) (state_of Reading (record b { at_work = Some (with_items block copied); copied = b.copied + count })) ram
copies_at count b block bytes copied ram events rest some is more memory long is_noted =
    let work : in_work Reading b.at_work b.last ≡ Some block.items = ap (λ (o : Option (Vec ℕ Global)). in_work Reading o b.last) some in
    Copies count block.items work more (noted count Copied events rest is_noted)
    (ap (λ (x : List ℕ). record (state_of Reading b) { at_work = Some x; copied = b.copied + count }) (copied_items count b block bytes copied ram is memory long)) refl

pub copies_next : (b : Blocks HandoverMap) (block : Vec ℕ Global) (bytes copied : List ℕ) (ram : RamState) → b.at_work ≡ Some block → bytes ≡ block.items → 64 * (b.copied + 1) < length block.items →
    copied ≡ put_at bytes (64 * b.copied) (part (window b.map ram) (64 * b.copied) (min 64 (length bytes - 64 * b.copied))) → length copied ≡ block.len →
    ReaderMakes (state_of Reading b) ram (Copied ∷ []) (state_of Reading (record b { at_work = Some (with_items block copied); copied = b.copied + 1 })) ram
copies_next b block bytes copied ram some is more memory long = copies_at 1 b block bytes copied ram (Copied ∷ []) [] some is more memory long refl

pub takes_at : (count : ℕ) (b after : Blocks HandoverMap) (block : Vec ℕ Global) (bytes copied : List ℕ) (ram : RamState) (events rest : List Event) →
    0 < count → b.at_work ≡ Some block → bytes ≡ block.items →
    64 * (b.copied + count) < length block.items + 64 → length block.items ≤ 64 * (b.copied + count) →
    copied ≡ put_at bytes (64 * b.copied) (part (window b.map ram) (64 * b.copied) (min (64 * count) (length bytes - 64 * b.copied))) → length copied ≡ block.len →
    events ≡ replicate (count - 1) Copied ++ Took ∷ rest → after ≡ record b { at_work = None; copied = b.copied + count; last = with_items block copied; spare = after.spare } →
    ReaderMakes (state_of Reading b) ram (take count events) (state_of Reading after) ram
takes_at zero b after block bytes copied ram events rest positive some is more all memory long is_noted is_after = absurd (omega (arith, positive))
takes_at (suc n) b after block bytes copied ram events rest positive some is more all memory long is_noted is_after =
    let e : suc n - 1 ≡ n = omega arith in
    let work : in_work Reading b.at_work b.last ≡ Some block.items = ap (λ (o : Option (Vec ℕ Global)). in_work Reading o b.last) some in
    Takes n block.items work (omega (arith, more)) all (taken_noted (suc n) events rest positive is_noted ∙ ap (λ (k : ℕ). replicate k Copied ++ Took ∷ []) e)
    (ap (state_of Reading) is_after ∙ ap (λ (x : List ℕ). record (state_of Reading b) { at_work = Some x; copied = b.copied + suc n; last = x })
    (copied_items (suc n) b block bytes copied ram is memory long)) refl

-- all pieces are copied
pub clears_at : (b : Blocks HandoverMap) (rest : Option (Vec ℕ Global)) (ram new : RamState) (events others : List Event) → b.at_work ≡ None → rest ≡ None → IsCopiedSoFar b.copied b.at_work b.last →
    new ≡ with_window b.map ram (with_status (window b.map ram) (spelled 4 0)) → events ≡ replicate 1 Clear ++ others → ReaderMakes (state_of Reading b) ram
    (take 1 events) (state_of Cleared (record b { at_work = rest })) new
clears_at b rest ram new events others none gone far memory is_noted =
    let work : in_work Reading b.at_work b.last ≡ Some b.last.items = ap (λ (o : Option (Vec ℕ Global)). in_work Reading o b.last) none in
    let after : in_work Cleared rest b.last ≡ Some b.last.items = ap (λ (o : Option (Vec ℕ Global)). in_work Cleared o b.last) gone in
    let all : length b.last.items ≤ 64 * b.copied = subst (λ (o : Option (Vec ℕ Global)). IsCopiedSoFar b.copied o b.last) none far in
    Clears b.last.items work all (noted 1 Clear events others is_noted)
    (ap (λ (o : Option (List ℕ)). record (state_of Cleared b) { at_work = o }) after ∙ ap (λ (o : Option (List ℕ)). record (state_of Cleared b) { at_work = o }) (sym work)) memory
