-- The machine has what a move needs, both ways.
use Rattle.std.proofs.Common.{◌≡◌, ◌∙◌, ℕ, zero, suc, ◌+◌, ◌*◌, ◌^◌, ◌<◌, ◌≤◌, inl, inr, List, ◌++◌, length, Result, Ok, refl, sym, ap, subst, arith}
use Rattle.base_model.specs.Bytes.{part, number_at, spelled, put_at, SameOutside}
use Rattle.base_model.proofs.BytesLemmas.{length-spelled, length-part, part-part, part-append, part-put_at, length-put_at, SameOutside-put_at, SameOutside-refl, SameOutside-wider, is_put_at}
use Rattle.apei_tables.specs.declared.registers.Place.TheVariants.{Memory}
use Rattle.apei_tables.specs.declared.widths.Width.TheVariants.{B64}
use Rattle.apei_space.specs.declared.faults.SpaceFault.{SpaceFault}
use Rattle.apei_space.specs.Calls.{Read, Write, Copy}
use Rattle.erst_shadow.specs.MoveEntries.{MoveRegister, Offset, Source, Target, Length, address_of}
use Rattle.erst_shadow.specs.MoveSpaces.{AreAddressable}
use Rattle.erst_shadow.specs.PlainMoves.{ShareNone}
use Rattle.erst_shadow.proofs.PlainLemmas.{part-beside, number-put, number-beside, place_in as place_behind, registers_differ}
use Rattle.erst_machine.specs.declared.areas.Area.TheVariants.{Scratch, LogRange}
use Rattle.erst_machine.specs.declared.areas.Location.{Location}
use Rattle.erst_machine.specs.declared.areas.Location.TheVariants.{Inside}
use Rattle.erst_machine.specs.MachineState.{MachineState, location_of}
use Rattle.erst_machine.specs.Allowed.{Allows, number_read, write_of, NumberWritten, copy_of}
use Rattle.erst_machine.proofs.PlaceLemmas.{area_found}
use Rattle.erst_device.specs.Actions.{log_range_at}
use Rattle.erst_shadow.specs.ShadowMoves.{holding}
use Rattle.erst_machine.specs.Areas.{place_location}
use Rattle.erst_shadow.proofs.Terms.{HoldsPieces, KeepsOthers, MovedIn, MovedOut, scratch_at}
use Rattle.erst_shadow.proofs.Serving.{ServesMove, after_rounds}

-- bytes that were changed twice within the same place
SameOutside-then : (at n : ℕ) (old mid new : List ℕ) → SameOutside at n old mid → SameOutside at n mid new → SameOutside at n old new
SameOutside-then at n old mid new first second = record {
  same_length = second.same_length ∙ first.same_length;
  before = second.before ∙ first.before;
  after = second.after ∙ first.after;
}

-- where a register stands in the scratch memory
abbrev pub place_in : MoveRegister → ℕ
place_in Offset = 0xF80
place_in Source = 0xF88
place_in Target = 0xF90
place_in Length = 0xF98

register_location : (reach : ℕ) (r : MoveRegister) → place_location reach (Memory (address_of r)) 8 ≡ Inside Scratch (place_in r)
register_location reach Offset = refl
register_location reach Source = refl
register_location reach Target = refl
register_location reach Length = refl

pub register_low : (r : MoveRegister) → (0xF80 ≤ place_in r) × (place_in r + 8 ≤ 4096)
register_low Offset = (omega arith, omega arith)
register_low Source = (omega arith, omega arith)
register_low Target = (omega arith, omega arith)
register_low Length = (omega arith, omega arith)

register_at : (r : MoveRegister) → 0xF80 + place_behind r ≡ place_in r
register_at Offset = refl
register_at Source = refl
register_at Target = refl
register_at Length = refl

registers_apart : (r other : MoveRegister) → (address_of r ≡ address_of other → ⊥) → ShareNone (place_in other) 8 (place_in r) 8
registers_apart r other not =
    subst (λ (k : ℕ). ShareNone (place_in other) 8 k 8) (register_at r)
    (subst (λ (k : ℕ). ShareNone k 8 (0xF80 + place_behind r) 8) (register_at other) (registers_differ 0xF80 r other not))

-- bytes that begin with the first pieces of others, and have the next piece put behind them
piece_behind : (i : ℕ) (old source piece : List ℕ) → length piece ≡ 128 → 128 * i + length piece ≤ length old → part old 0 (128 * i) ≡ part source 0 (128 * i) → piece ≡ part source (128 * i) 128
    → part (put_at old (128 * i) piece) 0 (128 * suc i) ≡ part source 0 (128 * suc i)
piece_behind i old source piece size fits begins is =
    let now = put_at old (128 * i) piece in
    let next : 128 * i + 128 ≡ 128 * suc i = omega arith in
    let front : part now 0 (128 * i) ≡ part source 0 (128 * i) = part-beside old piece (128 * i) 0 (128 * i) fits (inl (omega arith)) ∙ begins in
    let back : part now (0 + 128 * i) 128 ≡ part source (0 + 128 * i) 128 =
    ap (λ (k : ℕ). part now k 128) (omega arith) ∙ ap (λ (k : ℕ). part now (128 * i) k) (sym size) ∙ part-put_at old (128 * i) piece fits ∙ is ∙ ap (λ (k : ℕ). part source k 128) (omega arith) in
    ap (λ (k : ℕ). part now 0 k) (sym next) ∙ sym (part-append now 0 (128 * i) 128)
    ∙ ap (λ (xs : List ℕ). xs ++ part now (0 + 128 * i) 128) front ∙ ap (λ (xs : List ℕ). part source 0 (128 * i) ++ xs) back
    ∙ part-append source 0 (128 * i) 128 ∙ ap (λ (k : ℕ). part source 0 k) next

-- Registers, whichever way the record is moved

abbrev pub value : MoveRegister → MachineState → ℕ
value r w = number_at w.memory.scratch (place_in r) 8

abbrev pub put : MoveRegister → ℕ → MachineState → MachineState
put r n w = record w { memory = record w.memory { scratch = put_at w.memory.scratch (place_in r) (spelled 8 n) } }

pub register_read : (tells : Type 0) (w v : MachineState) (r : MoveRegister) (answer : Result ℕ SpaceFault) →
    Allows tells w (Read (Memory (address_of r)) B64 answer) v → (answer ≡ Ok (value r w)) × (v ≡ w)
register_read tells w v r answer h = (h.0 ∙ ap (λ (s : Location). number_read s w (address_of r) B64) (register_location (length w.memory.range) r), h.1)

pub register_written : (tells : Type 0) (w v : MachineState) (r : MoveRegister) (n : ℕ) (answer : Result (Unit {0}) SpaceFault) →
    Allows tells w (Write (Memory (address_of r)) B64 n answer) v → (answer ≡ Ok tt) × (v ≡ put r n w)
register_written tells w v r n answer h = subst (λ (s : Location). NumberWritten tells s w (write_of (address_of r) B64 n answer) v) (register_location (length w.memory.range) r) h

put_long : (first w : MachineState) (r : MoveRegister) (n : ℕ) → KeepsOthers first w → place_in r + length (spelled 8 n) ≤ length w.memory.scratch
put_long first w r n comes = let low = (register_low r).1 in omega (arith, length-spelled 8 n, low, comes.scratch)

put_comes : (first w : MachineState) (r : MoveRegister) (n : ℕ) → KeepsOthers first w → KeepsOthers first (put r n w)
put_comes first w r n comes = record {
  range = comes.range;
  scratch = length-put_at w.memory.scratch (place_in r) (spelled 8 n) (put_long first w r n comes) ∙ comes.scratch;
  elsewhere = ap (λ (m : MachineState). holding w.memory.range (put_at w.memory.scratch (place_in r) (spelled 8 n)) m) comes.elsewhere;
}

value_put : (first w : MachineState) (r : MoveRegister) (n : ℕ) → KeepsOthers first w → n < 2 ^ 64 → value r (put r n w) ≡ n
value_put first w r n comes small = let low = (register_low r).1 in number-put w.memory.scratch (place_in r) n (omega (arith, low, comes.scratch)) small

value_beside : (first w : MachineState) (r other : MoveRegister) (n : ℕ) → KeepsOthers first w → (address_of r ≡ address_of other → ⊥) → value other (put r n w) ≡ value other w
value_beside first w r other n comes not =
    number-beside w.memory.scratch (spelled 8 n) (place_in r) (place_in other) (put_long first w r n comes)
    (subst (λ (k : ℕ). ShareNone (place_in other) 8 (place_in r) k) (sym (length-spelled 8 n)) (registers_apart r other not))

pub record KeepsRange (first w : MachineState) : Type 0 where
  pub comes : KeepsOthers first w
  pub kept : w.memory.range ≡ first.memory.range

-- a copy between two places that are found
copied_by : (tells : Type 0) (w v : MachineState) (from target n : ℕ) (source sink : Location) (answer : Result (Unit {0}) SpaceFault) →
    location_of w (Memory from) n ≡ source → location_of w (Memory target) n ≡ sink
    → Allows tells w (Copy from target n answer) v → (answer ≡ (copy_of source sink w from target n).0) × (v ≡ (copy_of source sink w from target n).1)
copied_by tells w v from target n source sink answer source_is sink_is h =
    let outcome : copy_of (location_of w (Memory from) n) (location_of w (Memory target) n) w from target n ≡ copy_of source sink w from target n =
    ap (λ (s : Location). copy_of s (location_of w (Memory target) n) w from target n) source_is ∙ ap (λ (s : Location). copy_of source s w from target n) sink_is in
    (h.0 ∙ ap (λ (o : Result (Unit {0}) SpaceFault × MachineState). o.0) outcome, h.1 ∙ ap (λ (o : Result (Unit {0}) SpaceFault × MachineState). o.1) outcome)

-- what a move needs of the machine, whichever way it goes, by what is asked of its pieces
abbrev served : (tells : Type 0) (first : MachineState) (fits : MachineState → Type 0) (from target count : ℕ) (piece : ℕ → MachineState → MachineState)
    → ((w : MachineState) → fits w → KeepsOthers first w)
    → ((w : MachineState) (r : MoveRegister) (n : ℕ) → fits w → fits (put r n w))
    → ((w v : MachineState) (i : ℕ) (answer : Result (Unit {0}) SpaceFault) → fits w → i < count →
    Allows tells w (Copy (from + 128 * i) (target + 128 * i) 128 answer) v → (answer ≡ Ok tt) × (v ≡ piece i w))
    → ((w : MachineState) (i : ℕ) → fits w → i < count → fits (piece i w))
    → ((w : MachineState) (r : MoveRegister) (i : ℕ) → fits w → i < count → value r (piece i w) ≡ value r w)
    → ServesMove (Allows tells) fits from target count
served tells first fits from target count piece comes puts copies moves behind = record {
  value = value;
  put = put;
  copied = piece;
  reads = λ w v r answer is h. register_read tells w v r answer h;
  writes = λ w v r n answer is h. register_written tells w v r n answer h;
  copies = copies;
  put_fits = puts;
  copied_fits = moves;
  value_put = λ w r n is small. value_put first w r n (comes w is) small;
  value_beside = λ w r other n is not. value_beside first w r other n (comes w is) not;
  value_behind = behind;
}

-- a piece of bytes that have so many, and its room in others
piece_long : (count i : ℕ) (bytes : List ℕ) → 128 * count ≤ length bytes → i < count → length (part bytes (128 * i) 128) ≡ 128
piece_long count i bytes room less = length-part bytes (128 * i) 128 (omega (arith, room, less))

piece_fits : (count i : ℕ) (bytes others : List ℕ) → 128 * count ≤ length bytes → 128 * count ≤ length others → i < count → 128 * i + length (part bytes (128 * i) 128) ≤ length others
piece_fits count i bytes others room fits less = omega (arith, piece_long count i bytes room less, fits, less)

module _ (tells : Type 0) (first : MachineState) (count : ℕ) (room : HoldsPieces first count) where
  pub below_in : AreAddressable scratch_at log_range_at count
  below_in = let few = room.few in record { source = omega arith; target_is = omega arith; some = room.some }

  pub below_out : AreAddressable log_range_at scratch_at count
  below_out = let few = room.few in record { source = omega arith; target_is = omega arith; some = room.some }

  scratch_location : (w : MachineState) (i : ℕ) → KeepsOthers first w → i < count → location_of w (Memory (scratch_at + 128 * i)) 128 ≡ Inside Scratch (128 * i)
  scratch_location w i comes less = area_found (length w.memory.range) Scratch (128 * i) 128 (omega (arith, comes.range, room.small)) (omega arith) (omega (arith, room.few))

  range_location : (w : MachineState) (i : ℕ) → KeepsOthers first w → i < count → location_of w (Memory (log_range_at + 128 * i)) 128 ≡ Inside LogRange (128 * i)
  range_location w i comes less = area_found (length w.memory.range) LogRange (128 * i) 128 (omega (arith, comes.range, room.small)) (omega arith) (omega (arith, comes.range, room.range))

  scratch_room : (w : MachineState) → KeepsOthers first w → 128 * count ≤ length w.memory.scratch
  scratch_room w comes = omega (arith, comes.scratch, room.few)

  range_room : (w : MachineState) → KeepsOthers first w → 128 * count ≤ length w.memory.range
  range_room w comes = omega (arith, comes.range, room.range)

  fits_range : (w : MachineState) (i : ℕ) → KeepsOthers first w → i < count → 128 * i + length (part w.memory.scratch (128 * i) 128) ≤ length w.memory.range
  fits_range w i comes less = piece_fits count i w.memory.scratch w.memory.range (scratch_room w comes) (range_room w comes) less

  fits_scratch : (w : MachineState) (i : ℕ) → KeepsOthers first w → i < count → 128 * i + length (part w.memory.range (128 * i) 128) ≤ length w.memory.scratch
  fits_scratch w i comes less = piece_fits count i w.memory.range w.memory.scratch (range_room w comes) (scratch_room w comes) less

  -- In

  abbrev piece_in : ℕ → MachineState → MachineState
  piece_in i w = record w { memory = record w.memory { range = put_at w.memory.range (128 * i) (part w.memory.scratch (128 * i) 128) } }

  pub space_in : ServesMove (Allows tells) (KeepsOthers first) scratch_at log_range_at count
  space_in = served tells first (KeepsOthers first) scratch_at log_range_at count piece_in (λ w comes. comes) (λ w r n comes. put_comes first w r n comes)
      (λ w v i answer comes less h. copied_by tells w v (scratch_at + 128 * i) (log_range_at + 128 * i) 128 (Inside Scratch (128 * i))
      (Inside LogRange (128 * i)) answer (scratch_location w i comes less) (range_location w i comes less) h)
      (λ w i comes less. record {
        range = length-put_at w.memory.range (128 * i) (part w.memory.scratch (128 * i) 128) (fits_range w i comes less) ∙ comes.range;
        scratch = comes.scratch;
        elsewhere = ap (λ (m : MachineState). holding (put_at w.memory.range (128 * i) (part w.memory.scratch (128 * i) 128)) w.memory.scratch m) comes.elsewhere;
      })
      (λ w r i comes less. refl)

  -- what was moved in so far
  record WentIn (size : ℕ) (w : MachineState) : Type 0 where
    comes : KeepsOthers first w
    same : SameOutside 0 size first.memory.range w.memory.range
    there : part w.memory.range 0 size ≡ part first.memory.scratch 0 size
    record_kept : part w.memory.scratch 0 0xF80 ≡ part first.memory.scratch 0 0xF80

  put_moved : (size : ℕ) (w : MachineState) (r : MoveRegister) (n : ℕ) → WentIn size w → WentIn size (put r n w)
  put_moved size w r n is = record {
    comes = put_comes first w r n is.comes;
    same = is.same;
    there = is.there;
    record_kept = part-beside w.memory.scratch (spelled 8 n) (place_in r) 0 0xF80 (put_long first w r n is.comes) (inl (let low = (register_low r).0 in omega arith)) ∙ is.record_kept;
  }

  piece_kept : (w : MachineState) (i : ℕ) → i < count → part w.memory.scratch 0 0xF80 ≡ part first.memory.scratch 0 0xF80 → part w.memory.scratch (128 * i) 128
      ≡ part first.memory.scratch (128 * i) 128
  piece_kept w i less kept =
      let few = room.few in
      sym (part-part w.memory.scratch 0 0xF80 (128 * i) 128 (omega arith) ∙ ap (λ (k : ℕ). part w.memory.scratch k 128) (omega arith)) ∙ ap (λ (xs : List ℕ). part xs (128 * i) 128) kept
      ∙ part-part first.memory.scratch 0 0xF80 (128 * i) 128 (omega arith) ∙ ap (λ (k : ℕ). part first.memory.scratch k 128) (omega arith)

  piece_moved : (i : ℕ) (w : MachineState) → i < count → WentIn (128 * i) w → WentIn (128 * suc i) (piece_in i w)
  unfolding space_in
  piece_moved i w less is =
      let others = part w.memory.scratch (128 * i) 128 in
      let size = piece_long count i w.memory.scratch (scratch_room w is.comes) less in
      let fits = fits_range w i is.comes less in
      record {
        comes = space_in.copied_fits w i is.comes less;
        same = SameOutside-then 0 (128 * suc i) first.memory.range w.memory.range (put_at w.memory.range (128 * i) others)
            (SameOutside-wider 0 (128 * i) 0 (128 * suc i) first.memory.range w.memory.range (omega arith) (omega arith) is.same)
            (SameOutside-wider (128 * i) (length others) 0 (128 * suc i) w.memory.range (put_at w.memory.range (128 * i) others) (omega arith)
            (omega (arith, size)) (SameOutside-put_at w.memory.range (128 * i) others fits));
        there = piece_behind i w.memory.range first.memory.scratch others size fits is.there (piece_kept w i less is.record_kept);
        record_kept = is.record_kept;
      }

  pub first_comes : KeepsOthers first first
  first_comes = record { range = refl; scratch = room.scratch; elsewhere = refl }

  none_moved : WentIn 0 first
  unfolding part
  none_moved = record { comes = first_comes; same = SameOutside-refl 0 0 first.memory.range; there = refl; record_kept = refl }

  rounds_moved : (i : ℕ) → i ≤ count → WentIn (128 * i) (after_rounds space_in i first)
  unfolding space_in
  rounds_moved zero less = put_moved 0 _ Offset 0 (put_moved 0 _ Length 128 (put_moved 0 _ Target log_range_at (put_moved 0 first Source scratch_at none_moved)))
  rounds_moved (suc i) less = put_moved (128 * suc i) _ Offset (128 * suc i) (piece_moved i (after_rounds space_in i first) (omega arith) (rounds_moved i (omega arith)))

  pub moved_in : MovedIn count first (after_rounds space_in count first)
  moved_in =
      let is = rounds_moved count (omega arith) in
      let last = after_rounds space_in count first in
      let size : length (part first.memory.scratch 0 (128 * count)) ≡ 128 * count = length-part first.memory.scratch 0 (128 * count) (omega (arith, room.scratch, room.few)) in
      record {
        others = is.comes;
        moved = is_put_at first.memory.range last.memory.range 0 (part first.memory.scratch 0 (128 * count))
            (subst (λ (k : ℕ). SameOutside 0 k first.memory.range last.memory.range) (sym size) is.same)
            (ap (λ (k : ℕ). part last.memory.range 0 k) size ∙ is.there);
      }

  -- Out

  abbrev piece_out : ℕ → MachineState → MachineState
  piece_out i w = record w { memory = record w.memory { scratch = put_at w.memory.scratch (128 * i) (part w.memory.range (128 * i) 128) } }

  -- the log range stays as it is
  pub space_out : ServesMove (Allows tells) (KeepsRange first) log_range_at scratch_at count
  space_out = served tells first (KeepsRange first) log_range_at scratch_at count piece_out (λ w stays. stays.comes)
      (λ w r n stays. record { comes = put_comes first w r n stays.comes; kept = stays.kept })
      (λ w v i answer stays less h. copied_by tells w v (log_range_at + 128 * i) (scratch_at + 128 * i) 128 (Inside LogRange (128 * i))
      (Inside Scratch (128 * i)) answer (range_location w i stays.comes less) (scratch_location w i stays.comes less) h)
      (λ w i stays less. record {
        comes = record {
          range = stays.comes.range;
          scratch = length-put_at w.memory.scratch (128 * i) (part w.memory.range (128 * i) 128) (fits_scratch w i stays.comes less) ∙ stays.comes.scratch;
          elsewhere = ap (λ (m : MachineState). holding w.memory.range (put_at w.memory.scratch (128 * i) (part w.memory.range (128 * i) 128)) m) stays.comes.elsewhere;
        };
        kept = stays.kept;
      })
      (λ w r i stays less.
      number-beside w.memory.scratch (part w.memory.range (128 * i) 128) (128 * i) (place_in r) (fits_scratch w i stays.comes less)
      (inr (let low = (register_low r).0 in omega (arith, piece_long count i w.memory.range (range_room w stays.comes) less, room.few))))

  record CameOut (size : ℕ) (w : MachineState) : Type 0 where
    comes : KeepsOthers first w
    there : part w.memory.scratch 0 size ≡ part first.memory.range 0 size
    kept : w.memory.range ≡ first.memory.range

  put_fetched : (size : ℕ) (w : MachineState) (r : MoveRegister) (n : ℕ) → size ≤ 0xF80 → CameOut size w → CameOut size (put r n w)
  put_fetched size w r n less is = record {
    comes = put_comes first w r n is.comes;
    there = part-beside w.memory.scratch (spelled 8 n) (place_in r) 0 size (put_long first w r n is.comes) (inl (let low = (register_low r).0 in omega arith)) ∙ is.there;
    kept = is.kept;
  }

  piece_fetched : (i : ℕ) (w : MachineState) → i < count → CameOut (128 * i) w → CameOut (128 * suc i) (piece_out i w)
  unfolding space_out
  piece_fetched i w less is = record {
    comes = (space_out.copied_fits w i (record { comes = is.comes; kept = is.kept }) less).comes;
    there = piece_behind i w.memory.scratch first.memory.range (part w.memory.range (128 * i) 128) (piece_long count i w.memory.range (range_room w is.comes)
        less) (fits_scratch w i is.comes less) is.there
        (ap (λ (xs : List ℕ). part xs (128 * i) 128) is.kept);
    kept = is.kept;
  }

  none_fetched : CameOut 0 first
  unfolding part
  none_fetched = record { comes = first_comes; there = refl; kept = refl }

  rounds_fetched : (i : ℕ) → i ≤ count → CameOut (128 * i) (after_rounds space_out i first)
  unfolding space_out
  rounds_fetched zero less =
      put_fetched 0 _ Offset 0 (omega arith)
      (put_fetched 0 _ Length 128 (omega arith) (put_fetched 0 _ Target scratch_at (omega arith) (put_fetched 0 first Source log_range_at (omega arith)
      none_fetched)))
  rounds_fetched (suc i) less =
      put_fetched (128 * suc i) _ Offset (128 * suc i) (omega (arith, room.few)) (piece_fetched i (after_rounds space_out i first) (omega arith) (rounds_fetched i (omega arith)))

  pub moved_out : MovedOut count first (after_rounds space_out count first)
  moved_out = let is = rounds_fetched count (omega arith) in record { others = is.comes; moved = is.there; kept = is.kept }
