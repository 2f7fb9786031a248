-- A boot error region at any moment.
use Rattle.std.proofs.Common.{◌≡◌, ◌∙◌, ℕ, zero, suc, ◌+◌, ◌-◌, ◌*◌, ◌<◌, ◌≤◌, ◌⊎◌, inl, inr, min, Bool, true, false, ◌||◌, ◌==◌, nat_lt, if◌then◌else◌, List}
use Rattle.std.proofs.Common.{[], ◌∷◌, ◌++◌, length, take, All, refl, sym, ap, subst, arith}
use Rattle.std.proofs.lemmas.Bool.{cases_lt, cases_eq, eq-eqb}
use Rattle.std.proofs.lemmas.Grind.{common_steps}
use Rattle.std.proofs.lemmas.List.{length-take, take-replicate}
use Rattle.std.specs.Prelude.{replicate}
use Rattle.base_model.specs.Bytes.{little, part, number_at, joined, zeros}
use Rattle.base_model.proofs.BytesLemmas.{length-part}
use Rattle.ghes_block.specs.Region.{IsOneBlock, IsListOf, ends}
use Rattle.ghes_block.specs.Reading.{block_of}
use Rattle.ghes_block.proofs.Whole.{whole_block}
use Rattle.ghes_ack.proofs.RoomLemmas.{All-more}
use Rattle.ghes_port.specs.declared.boot.BootStage.{BootStage}
use Rattle.ghes_port.specs.declared.boot.BootStage.TheVariants.{Clear, Rest, Fill, Show}
use Rattle.ghes_port.specs.Machine.{piece_at, piece_of}
use Rattle.ghes_port.specs.Memories.{bytes_from, with_byte, with_bytes}
use Rattle.ghes_port.specs.Readers.{memory_after}
use Rattle.ghes_port.specs.Boot.{BootState, told_at, stage_after, end_after, IsReached, IsBoot, BootWorld, laid_after, BootHappens, Lays, Accesses, Elsewhere}
use Rattle.ghes_port.specs.Boot.{BootLeads, Stays, Then, IsBootFirst, IsCleared, lost_from, MayBeLeft}
use Rattle.ghes_port.proofs.MemoryLemmas.{far_byte, same_byte, other_byte, far, length-bytes_from, two}
use Rattle.ghes_port.proofs.TogetherLemmas.{one_more, rest_length, shown_block, front, is_more, is_less}
use Rattle.ghes_port.proofs.TableLemmas.{structures_more}

-- the bytes of a range are 0
abbrev AreZero : (ℕ → ℕ) → ℕ → ℕ → Type 0
AreZero m low high = (i : ℕ) → low ≤ i → i < high → m i ≡ 0

bytes_same : (m new : ℕ → ℕ) (at n : ℕ) → ((i : ℕ) → at ≤ i → i < at + n → new i ≡ m i) → bytes_from new at n ≡ bytes_from m at n
bytes_same m new at zero same = refl
bytes_same m new at (suc n) same =
    ap (λ (b : ℕ). b ∷ bytes_from new (suc at) n) (same at (omega (arith)) (omega (arith)))
    ∙ ap (λ (bs : List ℕ). m at ∷ bs) (bytes_same m new (suc at) n (λ i low high. same i (omega (arith, low)) (omega (arith, high))))

zeros_from : (m : ℕ → ℕ) (at n : ℕ) → AreZero m at (at + n) → bytes_from m at n ≡ zeros n
zeros_from m at zero none = refl
zeros_from m at (suc n) none =
    ap (λ (b : ℕ). b ∷ bytes_from m (suc at) n) (none at (omega (arith)) (omega (arith)))
    ∙ ap (λ (bs : List ℕ). 0 ∷ bs) (zeros_from m (suc at) n (λ i low high. none i (omega (arith, low)) (omega (arith, high))))

zero_far : (m : ℕ → ℕ) (at : ℕ) (bytes : List ℕ) (low high : ℕ) → (high ≤ at) ⊎ (at + length bytes ≤ low) → AreZero m low high → AreZero (with_bytes m at bytes) low high
zero_far m at bytes low high (inl before) none = λ i above below. far_byte m at bytes i (inl (omega (arith, before, below))) ∙ none i above below
zero_far m at bytes low high (inr after) none = λ i above below. far_byte m at bytes i (inr (omega (arith, after, above))) ∙ none i above below

zero_written : (m : ℕ → ℕ) (at n : ℕ) → AreZero (with_bytes m at (zeros n)) at (at + n)
zero_written m at zero i low high = absurd (omega (arith, low, high))
zero_written m at (suc n) i low high =
    let under : ℕ → ℕ = with_bytes m (suc at) (zeros n) in
    elim (cases_eq i at) [
      | inl e ↦ subst (λ (a : ℕ). with_byte under at 0 a ≡ 0) (sym e) (same_byte under at 0)
      | inr differ ↦ other_byte under at 0 i differ ∙ zero_written m (suc at) n i (omega (arith, low, differ)) (omega (arith, high))
    ]

pub length-zeros : (n : ℕ) → length (zeros n) ≡ n
length-zeros zero = refl
length-zeros (suc n) = ap suc (length-zeros n)

pub blank : (n : ℕ) → n ≤ 64 → take n (replicate 64 0) ≡ zeros n
blank n few = take-replicate n 64 0 few

-- what stands in the region after the blocks that are laid, by how far it is
InStage : BootState → (ℕ → ℕ) → BootStage → Type 0
InStage b m (Clear piece) = AreZero m b.at (b.at + 64 * piece)
InStage b m Rest = AreZero m (b.at + b.end) (b.at + b.len)
InStage b m (Fill piece) =
    AreZero m (b.at + b.end) (b.at + b.end + 4) × (bytes_from m (b.at + b.end + 4) (64 * piece) ≡ part b.block 4 (64 * piece)) × AreZero m (b.at + b.end + 4 + 64 * piece) (b.at + b.len)
InStage b m Show =
    AreZero m (b.at + b.end) (b.at + b.end + 4) × (bytes_from m (b.at + b.end + 4) (length b.block - 4) ≡ part b.block 4 (length b.block - 4))
    × AreZero m (b.at + b.end + length b.block) (b.at + b.len)

record Holds (w : BootWorld) : Type 0 where
  pub is : IsBoot w.boot
  pub each : All IsOneBlock w.laid
  pub blocks : bytes_from w.memory w.boot.at w.boot.end ≡ joined w.laid
  pub stands : InStage w.boot w.memory w.boot.stage

-- a piece of zeros
cleared : (b : BootState) (m : ℕ → ℕ) (piece : ℕ) (more : Bool) → (more ≡ true → 64 * (piece + 1) < b.len) → (more ≡ false → b.len ≤ 64 * (piece + 1)) → 64 * piece < b.len → b.end ≡ 0
    → AreZero m b.at (b.at + 64 * piece) → InStage b (with_bytes m (b.at + 64 * piece) (zeros (min 64 (b.len - 64 * piece)))) (if more then Clear (piece + 1) else Rest)
unfolding InStage
cleared b m piece more goes ends within first none = by_more more goes ends
  where
    all : AreZero (with_bytes m (b.at + 64 * piece) (zeros (min 64 (b.len - 64 * piece)))) b.at (b.at + 64 * piece + min 64 (b.len - 64 * piece))
    all i low high = elim (cases_lt i (b.at + 64 * piece)) [
      | inl below ↦ far_byte m (b.at + 64 * piece) (zeros (min 64 (b.len - 64 * piece))) i (inl below) ∙ none i low below
      | inr above ↦ zero_written m (b.at + 64 * piece) (min 64 (b.len - 64 * piece)) i above high
    ]

    by_more : (more : Bool) → (more ≡ true → 64 * (piece + 1) < b.len) → (more ≡ false → b.len ≤ 64 * (piece + 1))
        → InStage b (with_bytes m (b.at + 64 * piece) (zeros (min 64 (b.len - 64 * piece)))) (if more then Clear (piece + 1) else Rest)
    by_more true goes ends = let there = goes refl in λ i low high. all i low (omega (arith, high, there))
    by_more false goes ends = let past = ends refl in λ i low high. all i (omega (arith, low)) (omega (arith, high, past, within))

-- a piece of a block
filled : (b : BootState) (m : ℕ → ℕ) (piece : ℕ) (more : Bool) → (more ≡ true → piece_at (piece + 1) < length b.block) → (more ≡ false → length b.block ≤ piece_at (piece + 1))
    → piece_at piece < length b.block
    → InStage b m (Fill piece) → InStage b (with_bytes m (b.at + b.end + piece_at piece) (piece_of b.block piece)) (if more then Fill (piece + 1) else Show)
unfolding InStage
filled b m piece more goes ends begins stands = by_more more goes ends
  where
    by_more : (more : Bool) → (more ≡ true → piece_at (piece + 1) < length b.block) → (more ≡ false → length b.block ≤ piece_at (piece + 1))
        → InStage b (with_bytes m (b.at + b.end + piece_at piece) (piece_of b.block piece)) (if more then Fill (piece + 1) else Show)
    by_more true goes ends =
        let bytes : List ℕ = piece_of b.block piece in
        let there = goes refl in
        let n : length bytes ≡ 64 = length-part b.block (piece_at piece) 64 (omega (arith, there)) in
        let sum : 64 * piece + length bytes ≡ 64 * (piece + 1) = omega (arith, n) in
        let new : ℕ → ℕ = with_bytes m (b.at + b.end + piece_at piece) bytes in
        let word = zero_far m (b.at + b.end + piece_at piece) bytes (b.at + b.end) (b.at + b.end + 4) (inl (omega (arith))) stands.0 in
        let rest = zero_far m (b.at + b.end + piece_at piece) bytes (b.at + b.end + 4 + 64 * (piece + 1)) (b.at + b.len) (inr (omega (arith, n)))
        (λ i low high. stands.2 i (omega (arith, low)) high) in
        (word, subst (λ (k : ℕ). bytes_from new (b.at + b.end + 4) k ≡ part b.block 4 k) sum (one_more (b.at + b.end) m b.block piece stands.1), rest)
    by_more false goes ends =
        let bytes : List ℕ = piece_of b.block piece in
        let past = ends refl in
        let n : length bytes ≡ length b.block - piece_at piece = rest_length b.block (piece_at piece) (omega (arith, past)) in
        let sum : 64 * piece + length bytes ≡ length b.block - 4 = omega (arith, n, begins) in
        let new : ℕ → ℕ = with_bytes m (b.at + b.end + piece_at piece) bytes in
        let word = zero_far m (b.at + b.end + piece_at piece) bytes (b.at + b.end) (b.at + b.end + 4) (inl (omega (arith))) stands.0 in
        let rest = zero_far m (b.at + b.end + piece_at piece) bytes (b.at + b.end + length b.block) (b.at + b.len) (inr (omega (arith, n, begins)))
        (λ i low high. stands.2 i (omega (arith, low, begins)) high) in
        (word, subst (λ (k : ℕ). bytes_from new (b.at + b.end + 4) k ≡ part b.block 4 k) sum (one_more (b.at + b.end) m b.block piece stands.1), rest)

-- where it is after an access
boot_is : (b : BootState) (stage : BootStage) → IsBoot b → IsReached b stage → IsBoot (record b { stage = stage_after b stage; end = end_after b stage })
boot_is b (Clear piece) is reached = record { below = is.below; short = is.short; within = is.within; reached = next (nat_lt (64 * (piece + 1)) b.len) (is_more (64 * (piece + 1)) b.len) }
  where
    next : (more : Bool) → (more ≡ true → 64 * (piece + 1) < b.len) → IsReached (record b { stage = if more then Clear (piece + 1) else Rest }) (if more then Clear (piece + 1) else Rest)
    next true goes = (goes refl, reached.1)
    next false goes = tt
boot_is b Rest is reached = record { below = is.below; short = is.short; within = is.within; reached = tt }
boot_is b (Fill piece) is reached = record {
  below = is.below;
  short = is.short;
  within = is.within;
  reached = next (nat_lt (piece_at (piece + 1)) (length b.block))
      (is_more (piece_at (piece + 1)) (length b.block));
}
  where
    next : (more : Bool) → (more ≡ true → piece_at (piece + 1) < length b.block) → IsReached (record b { stage = if more then Fill (piece + 1) else Show }) (if more then Fill (piece + 1) else Show)
    next true goes = (reached.0, goes refl)
    next false goes = reached.0
boot_is b Show is reached = let fits = reached.fits.fits in let within = is.within in record { below = is.below; short = is.short; within = omega (arith, fits, within); reached = tt }

accessed : (b : BootState) (m : ℕ → ℕ) (laid : List (List ℕ)) (stage : BootStage) → IsBoot b → IsReached b stage → All IsOneBlock laid → bytes_from m b.at b.end ≡ joined laid → InStage b m stage
    → All IsOneBlock (laid_after b stage laid)
    × (bytes_from (memory_after (told_at b stage) m) b.at (end_after b stage) ≡ joined (laid_after b stage laid))
    × InStage (record b { stage = stage_after b stage; end = end_after b stage }) (memory_after (told_at b stage) m) (stage_after b stage)
unfolding InStage
accessed b m laid (Clear piece) is reached each blocks stands =
    let first = reached.1 in (
      each,
      none b.end first ∙ sym (none_before b.end first)
          ∙ blocks,
      cleared b m piece (nat_lt (64 * (piece + 1)) b.len) (is_more (64 * (piece + 1)) b.len) (is_less (64 * (piece + 1)) b.len) reached.0 first stands,
    )
  where
    none : (n : ℕ) → n ≡ 0 → bytes_from (memory_after (told_at b (Clear piece)) m) b.at n ≡ []
    none n e = ap (bytes_from (memory_after (told_at b (Clear piece)) m) b.at) e

    none_before : (n : ℕ) → n ≡ 0 → bytes_from m b.at n ≡ []
    none_before n e = ap (bytes_from m b.at) e
accessed b m laid Rest is reached each blocks stands = (each, blocks, stands)
accessed b m laid (Fill piece) is reached each blocks stands = (
  each,
  far m (b.at + b.end + piece_at piece) (piece_of b.block piece) b.at b.end (inl (omega (arith))) ∙ blocks,
  filled b m piece (nat_lt (piece_at (piece + 1)) (length b.block)) (is_more (piece_at (piece + 1)) (length b.block)) (is_less (piece_at (piece + 1)) (length b.block)) reached.1 stands,
)
accessed b m laid Show is reached each blocks stands =
    let word : List ℕ = take 4 b.block in
    let new : ℕ → ℕ = with_bytes m (b.at + b.end) word in
    let low = reached.fits.head in
    let n : length word ≡ 4 = rw length-take (omega (arith, low)) in
    let shown : bytes_from new (b.at + b.end) (length b.block) ≡ b.block = shown_block (b.at + b.end) m b.block low stands.1 in
    let before : bytes_from new b.at b.end ≡ joined laid = far m (b.at + b.end) word b.at b.end (inl (omega (arith))) ∙ blocks in
    let rest = zero_far m (b.at + b.end) word (b.at + b.end + length b.block) (b.at + b.len) (inr (omega (arith, n, low))) stands.2 in (
      All-more IsOneBlock laid b.block each (block_of b.block, whole_block b.block reached.bytes reached.whole),
      two new b.at b.end (length b.block) ∙ ap (λ (xs : List ℕ). xs ++ bytes_from new (b.at + b.end) (length b.block)) before ∙ ap (λ (xs : List ℕ). joined laid ++ xs) shown
          ∙ sym (structures_more laid b.block),
      λ i above below. rest i (omega (arith, above)) below,
    )

-- others write elsewhere
zero_same : (b : BootState) (m new : ℕ → ℕ) (low high : ℕ) → b.at ≤ low → high ≤ b.at + b.len → ((i : ℕ) → b.at ≤ i → i < b.at + b.len → new i ≡ m i) → AreZero m low high → AreZero new low high
zero_same b m new low high first last same none = λ i above below. same i (omega (arith, first, above)) (omega (arith, last, below)) ∙ none i above below

filled_same : (b : BootState) (m new : ℕ → ℕ) (n : ℕ) → b.end + 4 + n ≤ b.len → ((i : ℕ) → b.at ≤ i → i < b.at + b.len → new i ≡ m i)
    → bytes_from m (b.at + b.end + 4) n ≡ part b.block 4 n → bytes_from new (b.at + b.end + 4) n ≡ part b.block 4 n
filled_same b m new n fits same is = bytes_same m new (b.at + b.end + 4) n (λ i low high. same i (omega (arith, low)) (omega (arith, high, fits))) ∙ is

stage_same : (b : BootState) (m new : ℕ → ℕ) (stage : BootStage) → IsReached b stage → b.end ≤ b.len → ((i : ℕ) → b.at ≤ i → i < b.at + b.len → new i ≡ m i) → InStage b m stage → InStage b new stage
unfolding InStage
stage_same b m new (Clear piece) reached within same stands = let first = reached.0 in zero_same b m new b.at (b.at + 64 * piece) (omega (arith)) (omega (arith, first)) same stands
stage_same b m new Rest reached within same stands = zero_same b m new (b.at + b.end) (b.at + b.len) (omega (arith)) (omega (arith)) same stands
stage_same b m new (Fill piece) reached within same stands =
    let high = reached.0.fits.fits in
    let low = reached.0.fits.head in
    let begins = reached.1 in (
      zero_same b m new (b.at + b.end) (b.at + b.end + 4) (omega (arith)) (omega (arith, high, low, within)) same stands.0,
      filled_same b m new (64 * piece) (omega (arith, high, begins, within)) same stands.1,
      zero_same b m new (b.at + b.end + 4 + 64 * piece) (b.at + b.len) (omega (arith)) (omega (arith)) same stands.2,
    )
stage_same b m new Show reached within same stands =
    let high = reached.fits.fits in
    let low = reached.fits.head in (
      zero_same b m new (b.at + b.end) (b.at + b.end + 4) (omega (arith)) (omega (arith, high, low, within)) same stands.0,
      filled_same b m new (length b.block - 4) (omega (arith, high, low, within)) same stands.1,
      zero_same b m new (b.at + b.end + length b.block) (b.at + b.len) (omega (arith)) (omega (arith)) same stands.2,
    )

keeps : (old new : BootWorld) → BootHappens old new → Holds old → Holds new
unfolding InStage part
keeps old new (Lays block rests good is) h =
    let b : BootState = old.boot in
    let low = good.fits.head in
    let high = good.fits.fits in
    let within = h.is.within in
    let none : AreZero old.memory (b.at + b.end) (b.at + b.len) = subst (InStage b old.memory) rests h.stands in
    subst Holds (sym is) (record {
      is = record { below = h.is.below; short = h.is.short; within = within; reached = (good, omega (arith, low)) };
      each = h.each;
      blocks = h.blocks;
      stands = (λ i above below. none i above (omega (arith, below, low, high, within)), refl, λ i above below. none i (omega (arith, above)) below);
    })
keeps old new (Accesses is) h =
    let a = accessed old.boot old.memory old.laid old.boot.stage h.is h.is.reached h.each h.blocks h.stands in
    subst Holds (sym is) (record { is = boot_is old.boot old.boot.stage h.is h.is.reached; each = a.0; blocks = a.1; stands = a.2 })
keeps old new (Elsewhere memory same is) h =
    let b : BootState = old.boot in
    let within = h.is.within in
    subst Holds (sym is) (record {
      is = h.is;
      each = h.each;
      blocks = bytes_same old.memory memory b.at b.end (λ i low high. same i low (omega (arith, high, within))) ∙ h.blocks;
      stands = stage_same b old.memory memory b.stage h.is.reached within same h.stands;
    })

holds_first : (w : BootWorld) → IsBootFirst w → Holds w
unfolding InStage
holds_first w f =
    let at : ℕ = w.boot.at in
    let len : ℕ = w.boot.len in
    record {
      is = f.is;
      each = subst (λ (laid : List (List ℕ)). All IsOneBlock laid) (sym f.laid) (λ k d within. absurd (omega (arith, within)));
      blocks = ap (λ (b : BootState). bytes_from w.memory at b.end) f.boot ∙ sym (ap joined f.laid);
      stands = subst (λ (b : BootState). InStage b w.memory b.stage) (sym f.boot) (λ i low high. absurd (omega (arith, low, high)));
    }

holds_last : (first last : BootWorld) → IsBootFirst first → BootLeads first last → Holds last
holds_last first last f Stays = holds_first first f
holds_last first last f (Then between next before happens) = keeps between next happens (holds_last first between f before)

-- what may be left is the list of the blocks that were laid
word_zero : (b : BootState) (m : ℕ → ℕ) (stage : BootStage) → IsCleared stage → b.end + 4 ≤ b.len → InStage b m stage → AreZero m (b.at + b.end) (b.at + b.end + 4)
unfolding InStage
word_zero b m (Clear piece) cleared fits stands = absurd cleared
word_zero b m Rest cleared fits stands = λ i low high. stands i low (omega (arith, high, fits))
word_zero b m (Fill piece) cleared fits stands = stands.0
word_zero b m Show cleared fits stands = stands.0

front_kept : (b : BootState) (stage : BootStage) (i : ℕ) → IsCleared stage → i < b.at + b.end + 4 → i < b.at + b.len → i < lost_from b stage
front_kept b (Clear piece) i cleared before within = absurd cleared
front_kept b Rest i cleared before within = within
front_kept b (Fill piece) i cleared before within = omega (arith, before)
front_kept b Show i cleared before within = within

ended : (rest : List ℕ) (n : ℕ) → length rest ≡ n → (n < 20) ⊎ (number_at rest 0 4 ≡ 0) → ends rest ≡ true
ended rest n is (inl short) = first_true (nat_lt (length rest) 20) (number_at rest 0 4 == 0) (below (length rest) 20 (omega (arith, is, short)))
  where
    first_true : (a b : Bool) → a ≡ true → (a || b) ≡ true
    first_true true b e = refl
    first_true false b e = absurd (let f : false ≡ true = e in cc)

    below : (a b : ℕ) → a < b → nat_lt a b ≡ true
    below a b less = grind (arith, common_steps, less)
ended rest n is (inr none) = second_true (nat_lt (length rest) 20) (number_at rest 0 4 == 0) (eq-eqb (number_at rest 0 4) 0 none)
  where
    second_true : (a b : Bool) → b ≡ true → (a || b) ≡ true
    second_true true b e = refl
    second_true false b e = e

status_none : (m : ℕ → ℕ) (at n : ℕ) → 4 ≤ n → AreZero m at (at + 4) → number_at (bytes_from m at n) 0 4 ≡ 0
unfolding number_at part
status_none m at n long none = ap little (front m at 4 n long ∙ zeros_from m at 4 none)

pub list_left : (first last : BootWorld) (memory : ℕ → ℕ) → IsBootFirst first → BootLeads first last → IsCleared last.boot.stage → MayBeLeft last memory
    → IsListOf last.laid (bytes_from memory last.boot.at last.boot.len)
list_left first last memory f leads cleared left =
    let h = holds_last first last f leads in
    let b : BootState = last.boot in
    let within = h.is.within in
    let same : (i : ℕ) → b.at ≤ i → i < b.at + b.end + 4 → i < b.at + b.len → memory i ≡ last.memory i = λ i low before inside. left i low (front_kept b b.stage i cleared before inside) in
    let blocks : bytes_from memory b.at b.end ≡ joined last.laid =
    bytes_same last.memory memory b.at b.end (λ i low high. same i low (omega (arith, high)) (omega (arith, high, within))) ∙ h.blocks in
    let rest : List ℕ = bytes_from memory (b.at + b.end) (b.len - b.end) in
    let sum : b.end + (b.len - b.end) ≡ b.len = omega (arith, within) in
    record {
      each = h.each;
      rest = rest;
      begins = ap (bytes_from memory b.at) (sym sum) ∙ two memory b.at b.end (b.len - b.end) ∙ ap (λ (xs : List ℕ). xs ++ rest) blocks;
      done = ended rest (b.len - b.end) (length-bytes_from memory (b.at + b.end) (b.len - b.end)) (elim (cases_lt (b.len - b.end) 20) [
        | inl short ↦ inl short
        | inr long ↦ inr (status_none memory (b.at + b.end) (b.len - b.end) (omega (arith, long)) (λ i low high.
            same i (omega (arith, low)) high (omega (arith, high, long)) ∙ word_zero b last.memory b.stage cleared (omega (arith, long)) h.stands i low high))
      ]);
    }
