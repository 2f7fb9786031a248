-- The slot of a part, its bytes, and the numbers that the first slot names.
use Rattle.std.proofs.Common.{◌≡◌, ℕ, zero, suc, ◌+◌, ◌-◌, ◌*◌, ◌<◌, ◌≤◌, cond, List, [], ◌∷◌, length, take, drop, replicate, get_or, refl, sym, ap, subst, ◌∙◌, arith}
use Rattle.std.specs.Prelude.{nat_lt, min}
use Rattle.std.proofs.Math.Nat.{mul_comm}
use Rattle.std.proofs.lemmas.List.{get_or-take}
use Rattle.base_model.specs.Bytes.{part, little, number_at}
use Rattle.base_model.proofs.BytesLemmas.{part-part, length-part}
use Rattle.flash_model.specs.declared.geometry.Geometry.{Geometry}
use Rattle.base_model.specs.Flash.{IsErased}
use Rattle.record_model.specs.Records.{Head, head_at, part_len, named}
use Rattle.record_model.specs.Filling.{Target, IsBegun, IsFilled}
use Rattle.record_model.specs.Plan.{target_of}
use Rattle.base_model.proofs.ErasedLemmas.{slots_apart, IsErased-within}
use Rattle.record_model.proofs.BegunLemmas.{length-bytes, length-first, part_len-le}
use Rattle.record_store.specs.declared.draft.Draft.{Draft}
use Rattle.flash_model.specs.Layouts.{layout_of}
use Rattle.record_store.specs.Drafts.{IsDraft, plan_of}

pub behind : (ys : List ℕ) (i : ℕ) → get_or (drop 1 ys) i 0 ≡ get_or ys (suc i) 0
behind [] i = refl
behind (y ∷ ys) i = refl

pub target_slot : (geometry : Geometry) (draft : Draft) (body : List ℕ) (number : ℕ) → number < draft.parts →
    (target_of (layout_of geometry) (plan_of draft body) number).slot ≡ get_or draft.slots number 0
target_slot geometry draft body zero h = refl
target_slot geometry draft body (suc n) h = get_or-take (draft.parts - 1) (drop 1 draft.slots) n 0 (omega arith) ∙ behind draft.slots n

pub target_len : (geometry : Geometry) (draft : Draft) (body : List ℕ) (number : ℕ) → length (target_of (layout_of geometry) (plan_of draft body) number).bytes
    ≡ part_len (geometry.slot_size - 64) (length body) number
target_len geometry draft body zero = length-first (geometry.slot_size - 64) body
target_len geometry draft body (suc n) = length-bytes (geometry.slot_size - 64) (suc n) body

-- a part ends within the record
pub part_end : (room len number at : ℕ) → at < part_len room len number → number * room + part_len room len number ≤ len
unfolding part_len
part_end room len number at h = omega arith

pub part_fits : (room len number : ℕ) → part_len room len number ≤ room
part_fits = part_len-le

-- the next bytes of a part are those of the record there
target_bytes : (geometry : Geometry) (draft : Draft) (body : List ℕ) (number : ℕ) → (target_of (layout_of geometry) (plan_of draft body) number).bytes
    ≡ part body (number * (geometry.slot_size - 64)) (part_len (geometry.slot_size - 64) (length body) number)
target_bytes geometry draft body zero = ap (λ (k : ℕ). part body k (part_len (geometry.slot_size - 64) (length body) 0)) (omega arith)
target_bytes geometry draft body (suc n) = refl

pub piece_is : (geometry : Geometry) (draft : Draft) (body : List ℕ) (number at count : ℕ) → at + count ≤ part_len (geometry.slot_size - 64) (length body) number
    → take count (drop (number * (geometry.slot_size - 64) + at) body) ≡ take count (drop at (target_of (layout_of geometry) (plan_of draft body) number).bytes)
unfolding part
piece_is geometry draft body number at count h =
    sym (part-part body (number * (geometry.slot_size - 64)) (part_len (geometry.slot_size - 64) (length body) number) at count h)
    ∙ ap (λ (xs : List ℕ). take count (drop at xs)) (sym (target_bytes geometry draft body number))

-- the three numbers of the first slot
three : (a b c parts : ℕ) → 1 ≤ parts → parts ≤ 4
    → (cond (nat_lt 1 parts) a 0xFFFF ∷ cond (nat_lt 2 parts) b 0xFFFF ∷ cond (nat_lt 3 parts) c 0xFFFF ∷ []) ≡ named (take (parts - 1) (a ∷ b ∷ c ∷ []))
unfolding named
three a b c zero some few = absurd (omega arith)
three a b c (suc zero) some few = refl
three a b c (suc (suc zero)) some few = refl
three a b c (suc (suc (suc zero))) some few = refl
three a b c (suc (suc (suc (suc zero)))) some few = refl
three a b c (suc (suc (suc (suc (suc n))))) some few = absurd (omega arith)

pub four_of : (slots : List ℕ) → length slots ≡ 4 → drop 1 slots ≡ get_or slots 1 0 ∷ get_or slots 2 0 ∷ get_or slots 3 0 ∷ []
four_of [] e = absurd (omega arith)
four_of (a ∷ []) e = absurd (omega arith)
four_of (a ∷ b ∷ []) e = absurd (omega arith)
four_of (a ∷ b ∷ c ∷ []) e = absurd (omega arith)
four_of (a ∷ b ∷ c ∷ d ∷ []) e = refl
four_of (a ∷ b ∷ c ∷ d ∷ f ∷ rest) e = absurd (omega arith)

pub names_first : (slots : List ℕ) (parts : ℕ) → length slots ≡ 4 → 1 ≤ parts → parts ≤ 4
    → (cond (nat_lt 1 parts) (get_or slots 1 0) 0xFFFF ∷ cond (nat_lt 2 parts) (get_or slots 2 0) 0xFFFF ∷ cond (nat_lt 3 parts) (get_or slots 3 0) 0xFFFF ∷ [])
    ≡ named (take (parts - 1) (drop 1 slots))
names_first slots parts long some few =
    three (get_or slots 1 0) (get_or slots 2 0) (get_or slots 3 0) parts some few ∙ ap (λ (xs : List ℕ). named (take (parts - 1) xs)) (sym (four_of slots long))

-- an erased range of the slot of a part
pub erased_here : (image : List ℕ) (slot target size inner n : ℕ) → target ≡ slot → IsErased image (target * size) size → inner + n ≤ size → IsErased image (slot * size + inner) n
erased_here image slot target size inner n is blank fits =
    subst (λ (k : ℕ). IsErased image (k * size + inner) n) is (IsErased-within image (target * size) size (target * size + inner) n blank (omega arith) (omega arith))

-- what of the slot of a part is not programmed yet
pub rest_here : (image : List ℕ) (slot size : ℕ) (target : Target) (count inner n : ℕ) → target.slot ≡ slot → IsBegun size target count image →
    32 + count ≤ inner → inner + n ≤ size → IsErased image (slot * size + inner) n
rest_here image slot size target count inner n is begun low fits =
    subst (λ (k : ℕ). IsErased image (k * size + inner) n) is
    (IsErased-within image (target.slot * size + 32 + count) (size - 32 - count) (target.slot * size + inner) n begun.rest (omega arith) (omega arith))

-- the bytes of a piece, as the program cuts them
pub record IsPiece (geometry : Geometry) (draft : Draft) (body : List ℕ) (number piece start count : ℕ) : Type 0 where
  pub within : start + count ≤ length body
  pub counted : count ≡ min 256 (length (target_of (layout_of geometry) (plan_of draft body) number).bytes - 256 * piece)
  pub bytes : take (start + count - start) (drop start body)
      ≡ take (min 256 (length (target_of (layout_of geometry) (plan_of draft body) number).bytes - 256 * piece)) (drop (256 * piece) (target_of (layout_of geometry) (plan_of draft body) number).bytes)

pub cut_piece : (geometry : Geometry) (draft : Draft) (body : List ℕ) (number piece room len count : ℕ) → length body ≡ draft.len → room ≡ geometry.slot_size - 64
    → len ≡ part_len (geometry.slot_size - 64) draft.len number → count ≡ min 256 (len - 256 * piece)
    → 256 * piece < length (target_of (layout_of geometry) (plan_of draft body) number).bytes → IsPiece geometry draft body number piece (number * room + 256 * piece) count
cut_piece geometry draft body number piece room len count long is_room is_len is_count some =
    let target : length (target_of (layout_of geometry) (plan_of draft body) number).bytes ≡ part_len (geometry.slot_size - 64) (length body) number = target_len geometry draft body number in
    let same : part_len (geometry.slot_size - 64) (length body) number ≡ part_len (geometry.slot_size - 64) draft.len number = ap (λ (n : ℕ). part_len (geometry.slot_size - 64) n number) long in
    let ends : number * (geometry.slot_size - 64) + part_len (geometry.slot_size - 64) (length body) number ≤ length body =
    part_end (geometry.slot_size - 64) (length body) number (256 * piece) (omega arith) in
    let start : number * room ≡ number * (geometry.slot_size - 64) = ap (λ (k : ℕ). number * k) is_room in
    let counted : count ≡ min 256 (length (target_of (layout_of geometry) (plan_of draft body) number).bytes - 256 * piece) = omega arith in
    let left : number * room + 256 * piece + count - (number * room + 256 * piece) ≡ count = omega arith in
    let at : number * room + 256 * piece ≡ number * (geometry.slot_size - 64) + 256 * piece = omega arith in
    record {
      within = omega arith;
      counted = counted;
      bytes = ap (λ (n : ℕ). take n (drop (number * room + 256 * piece) body)) left ∙ ap (λ (k : ℕ). take count (drop k body)) at
          ∙ piece_is geometry draft body number (256 * piece) count (omega arith)
          ∙ ap (λ (n : ℕ). take n (drop (256 * piece) (target_of (layout_of geometry) (plan_of draft body) number).bytes)) counted;
    }

one_byte : (bytes : List ℕ) → length bytes ≡ 1 → little bytes ≡ 0xFF → bytes ≡ replicate 1 0xFF
one_byte [] long is = absurd (omega arith)
one_byte (b ∷ []) long is = let e : b ≡ 0xFF = omega arith in ap (λ (x : ℕ). x ∷ []) e
one_byte (b ∷ c ∷ rest) long is = absurd (omega arith)

-- the gate of a filled first slot reads as erased
pub gate_erased : (geometry : Geometry) (draft : Draft) (body image : List ℕ) → IsDraft geometry draft body → IsFilled geometry.slot_size (target_of (layout_of geometry) (plan_of draft body) 0) image
    → length image ≡ geometry.slot_size * geometry.slots → IsErased image (get_or draft.slots 0 0 * geometry.slot_size) 1
unfolding number_at head_at
gate_erased geometry draft body image is filled sized =
    let slot = get_or draft.slots 0 0 in
    let size = geometry.slot_size in
    let within : slot < geometry.slots = is.below 0 (omega (arith, is.some)) in
    let ends : slot * size + size ≤ geometry.slots * size = slots_apart slot geometry.slots size within in
    let swapped : size * geometry.slots ≡ geometry.slots * size = mul_comm size geometry.slots in
    let large : 512 ≤ size = geometry.least_slot in
    one_byte (part image (slot * size) 1) (length-part image (slot * size) 1 (omega arith)) (ap (λ (h : Head). h.gate) filled.head)
