-- A client's commands by the table.
use Rattle.std.proofs.Common.{◌≡◌, ◌∙◌, ℕ, ◌+◌, ◌*◌, ◌^◌, ◌≤◌, ◌<◌, List, [], ◌∷◌, ◌++◌, length, take, drop, Option, Some, None, Result, Ok, Err, refl, sym, ap, subst, arith}
use Rattle.std.specs.Prelude.{codes}
use Rattle.std.proofs.lemmas.List.{length-take}
use Rattle.base_model.specs.Bytes.{part, number_at, put_at}
use Rattle.base_model.proofs.BytesLemmas.{length-put_at, length-part, part-part, part-put_at, number_at-part}
use Rattle.apei_space.specs.declared.faults.SpaceFault.{SpaceFault}
use Rattle.apei_space.specs.Calls.{WriteBytes, ReadBytes}
use Rattle.record_model.specs.RecordMap.{Write, Clear}
use Rattle.erst_client.specs.declared.errors.ClientError.{ClientError}
use Rattle.erst_client.specs.declared.requests.Request.{Request}
use Rattle.erst_client.specs.Commands.{Puts, NotPut, NotMarked, IsPut, Writes, IsNoRecord as refused, IsNotPut, IsAsked, copy_refusal, CopiesOut, IsFilled}
use Rattle.erst_client.specs.Commands.{IsNotFilled, copied, Reads, IsNotRead as not_read, HasNoLength, IsNotCopied as not_copied, IsCopied as is_copied}
use Rattle.erst_client.specs.Sequences.{write_requests, read_requests, clear_requests, dummy_requests, Sequence}
use Rattle.erst_machine.specs.declared.areas.Area.TheVariants.{Scratch}
use Rattle.erst_machine.specs.declared.areas.Location.{Location}
use Rattle.erst_machine.specs.MachineState.{MachineState, IsMachine, reach_in}
use Rattle.erst_machine.specs.Allowed.{Allows, bytes_stored, bytes_read}
use Rattle.erst_machine.proofs.PlaceLemmas.{area_found}
use Rattle.erst_commands.specs.OwnPrograms.{OwnProgramsRun}
use Rattle.erst_commands.specs.Attached.{own_client}
use Rattle.erst_commands.specs.Changes.{HoldsRecord}
use Rattle.erst_commands.specs.Writes.{marked, id_of}
use Rattle.erst_commands.proofs.RangeLemmas.{IsRecord, not_refused, marked-put, holds-marked}
use Rattle.erst_commands.proofs.LimitLemmas.{reach-least}
use Rattle.erst_client.proofs.RefusalLemmas.{copies}
use Rattle.erst_commands.proofs.StartLemmas.{write_command, clear_command, dummy_command}
use Rattle.erst_commands.proofs.ReadLemmas.{read_command}
use Rattle.erst_shadow.specs.ShadowTables.{shadow_entries}
use Rattle.erst_shadow.specs.ShadowMoves.{holding}
use Rattle.erst_shadow.specs.ShadowSequences.{SequenceAsOwn}
use Rattle.erst_shadow.specs.ShadowCommands.{pieces_in, shadow_client, AsOwn, ShadowChange, ShadowDummy, ShadowWriteAnswered, IsNoRecord, IsWritten, ShadowRead}
use Rattle.erst_shadow.specs.ShadowCommands.{ShadowReadAnswered, IsNotRead, IsNotCopied, IsCopied}
use Rattle.erst_shadow.proofs.SequenceLemmas.{write_as_own, clear_as_own, read_as_own, dummy_as_own}
use Rattle.erst_shadow.proofs.Terms.{HoldsPieces, range_with_record}

no_fault : (fault : SpaceFault) → ◌≡◌ {A = Result (Unit {0}) SpaceFault} (Err fault) (Ok tt) → ⊥
no_fault fault e = absurd (cc e)

pub no_error : (error : ClientError) → ◌≡◌ {A = Result (Unit {0}) ClientError} (Ok tt) (Err error) → ⊥
no_error error e = absurd (cc e)

-- a machine has room for the pieces of its table
pub holds_pieces : (state : MachineState) → IsMachine state → HoldsPieces state (pieces_in state)
holds_pieces state machine =
    let least = reach-least state.device.store.layout in
    record {
      scratch = machine.sizes.scratch;
      range = omega (arith, machine.sizes.range);
      small = omega (arith, machine.sizes.range, machine.sizes.small);
      some = omega (arith, least);
      few = omega arith;
    }

-- and is one with other bytes in these two memories, if they are as many
pub is_machine_with : (state : MachineState) (range scratch : List ℕ) → IsMachine state → length range ≡ length state.memory.range → length scratch ≡ 4096 → IsMachine (holding range scratch state)
is_machine_with state range scratch machine same long = record {
  sizes = record { small = machine.sizes.small; range = same ∙ machine.sizes.range; scratch = long; ports = machine.sizes.ports; region = machine.sizes.region; shared = machine.sizes.shared };
  laid = machine.laid;
  map = machine.map;
  stands = machine.stands;
}

pub length_moved : (state : MachineState) (pieces : ℕ) → HoldsPieces state pieces → length (range_with_record pieces state) ≡ length state.memory.range
length_moved state pieces rooms =
    let size : length (part state.memory.scratch 0 (128 * pieces)) ≡ 128 * pieces = length-part state.memory.scratch 0 (128 * pieces) (omega (arith, rooms.scratch, rooms.few)) in
    length-put_at state.memory.range 0 (part state.memory.scratch 0 (128 * pieces)) (omega (arith, size, rooms.range))

-- the log range holds the record that was moved into it
holds_moved : (state : MachineState) (pieces id : ℕ) (bytes : List ℕ) → HoldsPieces state pieces → HoldsRecord state.memory.scratch id bytes →
    length bytes ≤ 128 * pieces → HoldsRecord (range_with_record pieces state) id bytes
holds_moved state pieces id bytes rooms holds fits =
    let moved = part state.memory.scratch 0 (128 * pieces) in
    let size : length moved ≡ 128 * pieces = length-part state.memory.scratch 0 (128 * pieces) (omega (arith, rooms.scratch, rooms.few)) in
    let there : part (range_with_record pieces state) 0 (128 * pieces) ≡ moved = ap (λ (k : ℕ). part (range_with_record pieces state) 0 k) (sym size)
    ∙ part-put_at state.memory.range 0 moved (omega (arith, size, rooms.range)) in
    record {
      stands = sym (part-part (range_with_record pieces state) 0 (128 * pieces) 0 (length bytes) (omega arith) ∙ ap (λ (k : ℕ). part (range_with_record pieces state) k (length bytes)) (omega arith))
          ∙ ap (λ (xs : List ℕ). part xs 0 (length bytes)) there
          ∙ part-part state.memory.scratch 0 (128 * pieces) 0 (length bytes) (omega arith) ∙ ap (λ (k : ℕ). part state.memory.scratch k (length bytes)) (omega arith) ∙ holds.stands;
      within = omega (arith, length_moved state pieces rooms, rooms.range);
      least = holds.least;
      size = holds.size;
      name = holds.name;
    }

-- a command by the machine's own table, from its sequence
as_own : {tells : Type 0} {pieces : ℕ} {timings : Option (ℕ × ℕ)} {requests : List Request} {Own : MachineState → MachineState → ℕ →
    Result (Unit {0}) ClientError → ℕ → Type 0} (budget : ℕ) (first : MachineState) (result : Result (Unit {0}) ClientError) (left : ℕ) (last : MachineState)
    (is : SequenceAsOwn tells pieces timings requests budget first result left last) → Own (holding (range_with_record pieces first) is.scratch first)
    is.own_last is.own_budget result is.own_left → AsOwn pieces first last Own budget result left
as_own {tells} {pieces} {timings} {requests} {Own} budget first result left last is own = record {
  own_first = holding (range_with_record pieces first) is.scratch first;
  own_last = is.own_last;
  own_budget = is.own_budget;
  own_left = is.own_left;
  first_is = refl;
  last_is = is.last_is;
  own = own;
  paid = is.paid;
  shown = is.shown;
}

module _ (tells : Type 0) (own : OwnProgramsRun tells) where
  pub shadow_dummy : (first : MachineState) (pieces : ℕ) → HoldsPieces first pieces
      → (budget : ℕ) (result : Result (Unit {0}) ClientError) (left : ℕ) (last : MachineState) → Sequence (Allows tells) (shadow_entries pieces)
      (own_client first).timings dummy_requests budget first result left last
      → ShadowDummy pieces first last budget result left
  shadow_dummy first pieces rooms budget result left last sequence =
      let is = dummy_as_own tells own pieces (own_client first).timings budget first rooms result left last sequence in
      as_own budget first result left last is (dummy_command tells own (holding (range_with_record pieces first) is.scratch first) is.own_budget result is.own_left is.own_last is.sequence)

module _ (tells : Type 0) (own : OwnProgramsRun tells) (told : tells) where
  -- the sequence of a write from a scratch memory that begins with the record
  pub shadow_write : (first : MachineState) (pieces id : ℕ) (bytes : List ℕ) → HoldsPieces first pieces → HoldsRecord first.memory.scratch id bytes →
      length bytes ≤ 128 * pieces → 128 * pieces ≤ reach_in first.device
      → (budget : ℕ) (result : Result (Unit {0}) ClientError) (left : ℕ) (last : MachineState) → Sequence (Allows tells) (shadow_entries pieces)
      (own_client first).timings write_requests budget first result left last
      → (change : ShadowChange pieces first last id (Write id bytes) write_requests budget result left) × (part change.own_first.memory.range 0 (length bytes) ≡ bytes)
  unfolding as_own
  shadow_write first pieces id bytes rooms holds fits reach budget result left last sequence =
      let is = write_as_own tells own pieces (own_client first).timings budget first rooms result left last sequence in
      let there = holds_moved first pieces id bytes rooms holds fits in (
        as_own budget first result left last is
            (write_command tells own told (holding (range_with_record pieces first) is.scratch first) id bytes there (omega arith) is.own_budget result is.own_left is.own_last is.sequence),
        there.stands,
      )

  pub shadow_clear : (first : MachineState) (pieces id : ℕ) → HoldsPieces first pieces → id < 2 ^ 64
      → (budget : ℕ) (result : Result (Unit {0}) ClientError) (left : ℕ) (last : MachineState) → Sequence (Allows tells) (shadow_entries pieces)
      (own_client first).timings (clear_requests id) budget first result left last
      → ShadowChange pieces first last id (Clear id) (clear_requests id) budget result left
  shadow_clear first pieces id rooms small budget result left last sequence =
      let is = clear_as_own tells own pieces (own_client first).timings budget first rooms result left last id sequence in
      as_own budget first result left last is (clear_command tells own told (holding (range_with_record pieces first) is.scratch first) id small is.own_budget
      result is.own_left is.own_last is.sequence)

  -- the sequence of a read
  pub shadow_read : (first : MachineState) (pieces id : ℕ) → IsMachine first → HoldsPieces first pieces → id < 2 ^ 64 →
      (budget : ℕ) (result : Result (Unit {0}) ClientError) (left : ℕ) (last : MachineState)
      → Sequence (Allows tells) (shadow_entries pieces) (own_client first).timings (read_requests id) budget first result left last
      → ShadowRead pieces first last id budget result left
  shadow_read first pieces id machine rooms small budget result left last sequence =
      let is = read_as_own tells own pieces (own_client first).timings budget first rooms result left last id sequence in
      let there = holding (range_with_record pieces first) is.scratch first in
      as_own budget first result left last is
      (read_command tells own told there (is_machine_with first (range_with_record pieces first) is.scratch machine (length_moved first pieces rooms) is.long)
      id small (own_client first).timings is.own_budget result is.own_left is.own_last is.sequence)

-- A client's write: the record is put into the scratch memory

abbrev pub with_scratch : List ℕ → MachineState → MachineState
with_scratch scratch state = holding state.memory.range scratch state

module _ (tells : Type 0) (first : MachineState) (machine : IsMachine first) (bytes : List ℕ) (is : IsRecord bytes (128 * pieces_in first)) where
  small_range : length first.memory.range ≤ 65536
  small_range = (holds_pieces first machine).small

  start_location : (answer : Result (Unit {0}) SpaceFault) (new : MachineState) → Allows tells first (WriteBytes 0x1000 bytes answer) new →
      (answer ≡ Ok tt) × (new ≡ with_scratch (put_at first.memory.scratch 0 bytes) first)
  start_location answer new allowed =
      let location = area_found (length first.memory.range) Scratch 0 (length bytes) small_range (omega (arith, is.least)) (omega (arith, is.fits)) in
      (allowed.0 ∙ ap (λ (s : Location). (bytes_stored s first 0x1000 bytes).0) location, allowed.1 ∙ ap (λ (s : Location). (bytes_stored s first 0x1000 bytes).1) location)

  mark_location : (mid : MachineState) (answer : Result (Unit {0}) SpaceFault) (new : MachineState) → mid ≡ with_scratch (put_at first.memory.scratch 0 bytes)
      first → Allows tells mid (WriteBytes 0x106C (codes "ER") answer) new
      → (answer ≡ Ok tt) × (new ≡ with_scratch (put_at first.memory.scratch 0 (marked bytes)) first)
  mark_location mid answer new mid_is allowed_at =
      let there = with_scratch (put_at first.memory.scratch 0 bytes) first in
      let allowed = subst (λ (m : MachineState). Allows tells m (WriteBytes 0x106C (codes "ER") answer) new) mid_is allowed_at in
      let location = area_found (length first.memory.range) Scratch 108 2 small_range (omega arith) (omega arith) in (
        allowed.0 ∙ ap (λ (s : Location). (bytes_stored s there 0x106C (codes "ER")).0) location,
        allowed.1 ∙ ap (λ (s : Location). (bytes_stored s there 0x106C (codes "ER")).1) location ∙ ap (λ (scratch : List ℕ). with_scratch scratch first)
            (marked-put first.memory.scratch bytes (omega (arith, is.least))),
      )

  pub puts_record : (result : Result (Unit {0}) ClientError) (mid : MachineState) → Puts (Allows tells) 0x1000 bytes first result mid →
      (result ≡ Ok tt) × (mid ≡ with_scratch (put_at first.memory.scratch 0 (marked bytes)) first)
  puts_record result mid puts = elim puts as (λ result mid puts. (result ≡ Ok tt) × (mid ≡ with_scratch (put_at first.memory.scratch 0 (marked bytes)) first)) [
    | NotPut fault last allowed ↦ absurd (no_fault fault (start_location (Err fault) last allowed).0)
    | NotMarked between fault last allowed marks ↦ absurd (no_fault fault (mark_location between (Err fault) last (start_location (Ok tt) between allowed).1 marks).0)
    | IsPut between last allowed marks ↦ (refl, (mark_location between (Ok tt) last (start_location (Ok tt) between allowed).1 marks).1)
  ]

-- the machine with a marked record in its scratch memory still has room
pub start_holds : (first : MachineState) → IsMachine first → (bytes : List ℕ) → IsRecord bytes (128 * pieces_in first) →
    HoldsPieces (with_scratch (put_at first.memory.scratch 0 (marked bytes)) first) (pieces_in first)
start_holds first machine bytes framed =
    let rooms = holds_pieces first machine in
    let least = framed.least in
    let same = length-put_at bytes 108 (codes "ER") (omega arith) in
    record {
      scratch = length-put_at first.memory.scratch 0 (marked bytes) (omega (arith, same, framed.fits, rooms.scratch, rooms.few)) ∙ rooms.scratch;
      range = rooms.range;
      small = rooms.small;
      some = rooms.some;
      few = rooms.few;
    }

pub writes_as_map : (tells : Type 0) → OwnProgramsRun tells → tells → (bytes : List ℕ) (budget : ℕ) (first : MachineState)
    (result : Result (Unit {0}) ClientError) (left : ℕ) (last : MachineState) → IsMachine first
    → Writes (Allows tells) (shadow_client first) bytes budget first result left last → ShadowWriteAnswered bytes budget first result left last
writes_as_map tells own told bytes budget first result left last machine writes = elim writes as (λ result left last writes. ShadowWriteAnswered bytes budget first result left last) [
  | refused error is ↦ IsNoRecord error is
  | IsNotPut error last is puts ↦ absurd (no_error error (sym (puts_record tells first machine bytes (not_refused bytes (128 * pieces_in first) is) (Err error) last puts).0))
  | IsAsked mid result left last is puts sequence ↦
      let pieces = pieces_in first in
      let framed = not_refused bytes (128 * pieces_in first) is in
      let there = (puts_record tells first machine bytes framed (Ok tt) mid puts).1 in
      let rooms = holds_pieces first machine in
      let least = framed.least in
      let same = length-put_at bytes 108 (codes "ER") (omega arith) in
      let start = with_scratch (put_at first.memory.scratch 0 (marked bytes)) first in
      let holds = holds-marked first.memory.scratch bytes (record { least = framed.least; size = framed.size; fits = omega (arith, framed.fits, rooms.scratch, rooms.few) }) in
      let change = shadow_write tells own told start pieces (id_of bytes) (marked bytes) (start_holds first machine bytes framed) holds
      (omega (arith, same, framed.fits)) (omega (arith, rooms.range, machine.sizes.range)) budget result left last
      (subst (λ (m : MachineState). Sequence (Allows tells) (shadow_entries pieces) (own_client first).timings write_requests budget m result left last) there sequence) in
      IsWritten result left last is (record {
        own_first = change.0.own_first;
        own_last = change.0.own_last;
        own_budget = change.0.own_budget;
        own_left = change.0.own_left;
        first_is = change.0.first_is;
        last_is = change.0.last_is;
        own = change.0.own;
        paid = change.0.paid;
        shown = change.0.shown;
      }) change.1
]

-- A client's read: the record is copied out of the scratch memory

module _ (tells : Type 0) (mid : MachineState) (small : length mid.memory.range ≤ 65536) where
  pub length_read : (field : List ℕ) (answer : Result (Unit {0}) SpaceFault) (new : MachineState) → Allows tells mid (ReadBytes 0x1014 (0 ∷ 0 ∷ 0 ∷ 0 ∷ []) field answer) new
      → (answer ≡ Ok tt) × (field ≡ part mid.memory.scratch 20 4) × (new ≡ mid)
  length_read field answer new allowed =
      let location = area_found (length mid.memory.range) Scratch 20 4 small (omega arith) (omega arith) in (
        allowed.0 ∙ ap (λ (s : Location). (bytes_read s mid 0x1014 (0 ∷ 0 ∷ 0 ∷ 0 ∷ [])).0) location,
        allowed.1 ∙ ap (λ (s : Location). (bytes_read s mid 0x1014 (0 ∷ 0 ∷ 0 ∷ 0 ∷ [])).1) location,
        allowed.2,
      )

  scratch_read : (before after : List ℕ) (answer : Result (Unit {0}) SpaceFault) (new : MachineState) → 0 < length before → length before ≤ 4096 →
      Allows tells mid (ReadBytes 0x1000 before after answer) new
      → (answer ≡ Ok tt) × (after ≡ part mid.memory.scratch 0 (length before)) × (new ≡ mid)
  scratch_read before after answer new some fits allowed =
      let location = area_found (length mid.memory.range) Scratch 0 (length before) small some (omega arith) in
      (allowed.0 ∙ ap (λ (s : Location). (bytes_read s mid 0x1000 before).0) location, allowed.1 ∙ ap (λ (s : Location). (bytes_read s mid 0x1000 before).1) location, allowed.2)

  copied_out : (before after : List ℕ) (answer : Result (Unit {0}) ClientError) (new : MachineState) → 0 < length before → length before ≤ 4096 →
      CopiesOut (Allows tells) 0x1000 before after mid answer new
      → (answer ≡ Ok tt) × (after ≡ part mid.memory.scratch 0 (length before)) × (new ≡ mid)
  copied_out before after answer new some fits copies = elim copies as (λ answer new copies. (answer ≡ Ok tt) × (after ≡ part mid.memory.scratch 0 (length before)) × (new ≡ mid)) [
    | IsFilled new allowed ↦ let read = scratch_read before after (Ok tt) new some fits allowed in (refl, read.1, read.2)
    | IsNotFilled fault new allowed ↦ absurd (no_fault fault (scratch_read before after (Err fault) new some fits allowed).0)
  ]

module _ (tells : Type 0) (own : OwnProgramsRun tells) (told : tells) (id : ℕ) (out : List ℕ) (budget : ℕ) (first : MachineState) (machine : IsMachine first) (small : id < 2 ^ 64) where
  -- the sequence of a read that is answered
  abbrev HasRead : ℕ → MachineState → Type 0
  HasRead left mid = ShadowRead (pieces_in first) first mid id budget (Ok tt) left

  has_read : (left : ℕ) (mid : MachineState) → Sequence (Allows tells) (shadow_entries (pieces_in first)) (own_client first).timings (read_requests id) budget first (Ok tt) left mid → HasRead left mid
  has_read left mid sequence = shadow_read tells own told first (pieces_in first) id machine (holds_pieces first machine) small budget (Ok tt) left mid sequence

  same_number : (left : ℕ) (mid : MachineState) (has : HasRead left mid) (field : List ℕ) → field ≡ part mid.memory.scratch 20 4 → number_at field 0 4 ≡ number_at has.own_last.memory.range 20 4
  same_number left mid has field is =
      let least = reach-least first.device.store.layout in
      let within : 20 + 4 ≤ 128 * pieces_in first = omega (arith, least) in
      ap (λ (xs : List ℕ). number_at xs 0 4) is ∙ number_at-part mid.memory.scratch 20 4 0 4 (omega arith)
      ∙ sym (number_at-part mid.memory.scratch 0 (128 * pieces_in first) 20 4 within) ∙ ap (λ (xs : List ℕ). number_at xs 20 4) has.shown.moved ∙ number_at-part
      has.own_last.memory.range 0 (128 * pieces_in first) 20 4 within

  by_length : (left : ℕ) (mid : MachineState) (has : HasRead left mid) (next : MachineState) (whole : List ℕ) (answer : Result (Unit {0}) ClientError) (last : MachineState)
      → (len : ℕ) → len ≡ number_at has.own_last.memory.range 20 4 → next ≡ mid → copy_refusal len (128 * pieces_in first) (length out) ≡ None
      → CopiesOut (Allows tells) 0x1000 (take len out) whole next answer last → ShadowReadAnswered id out budget first (copied answer len) (whole ++ drop len out) left last
  by_length left mid has next whole answer last len len_is next_is taken copying =
      let fit = copies len (128 * pieces_in first) (length out) taken in
      let cut : length (take len out) ≡ len = length-take len out ∙ (omega (arith, fit.fits)) in
      let done = copied_out tells mid has.shown.small (take len out) whole answer last (omega (arith, cut, fit.least)) (omega (arith, cut, fit.within))
      (subst (λ (m : MachineState). CopiesOut (Allows tells) 0x1000 (take len out) whole m answer last) next_is copying) in
      let bytes : whole ≡ part has.own_last.memory.range 0 len = done.1 ∙ ap (λ (n : ℕ). part mid.memory.scratch 0 n) cut
      ∙ sym (part-part mid.memory.scratch 0 (128 * pieces_in first) 0 len (omega (arith, fit.within))) ∙ ap (λ (xs : List ℕ). part xs 0 len) has.shown.moved
      ∙ part-part has.own_last.memory.range 0 (128 * pieces_in first) 0 len (omega (arith, fit.within)) in
      subst (λ (r : Result (Unit {0}) ClientError). ShadowReadAnswered id out budget first (copied r len) (whole ++ drop len out) left last) (sym done.0)
      (subst (λ (m : MachineState). ShadowReadAnswered id out budget first (Ok len) (whole ++ drop len out) left m) (sym done.2)
      (subst (λ (xs : List ℕ). ShadowReadAnswered id out budget first (Ok len) (xs ++ drop len out) left mid) (sym bytes)
      (subst (λ (n : ℕ). ShadowReadAnswered id out budget first (Ok n) (part has.own_last.memory.range 0 n ++ drop n out) left mid) (sym len_is)
      (IsCopied left mid has (subst (λ (n : ℕ). copy_refusal n (128 * pieces_in first) (length out) ≡ None) len_is taken)))))

  pub reads_as_map : (result : Result ℕ ClientError) (after : List ℕ) (left : ℕ) (last : MachineState) → Reads (Allows tells) (shadow_client first) id out budget first result after left last
      → ShadowReadAnswered id out budget first result after left last
  reads_as_map result after left last reads = elim reads as (λ result after left last reads. ShadowReadAnswered id out budget first result after left last) [
    | not_read error left last sequence ↦
        IsNotRead error left last (shadow_read tells own told first (pieces_in first) id machine (holds_pieces first machine) small budget (Err error) left last sequence)
    | HasNoLength left mid field fault last sequence length_at ↦
        let has = has_read left mid sequence in
        absurd (no_fault fault (length_read tells mid has.shown.small field (Err fault) last length_at).0)
    | not_copied left mid field error last sequence length_at why ↦
        let has = has_read left mid sequence in
        let read = length_read tells mid has.shown.small field (Ok tt) last length_at in
        subst (λ (m : MachineState). ShadowReadAnswered id out budget first (Err error) out left m) (sym read.2)
        (IsNotCopied error left mid has (subst (λ (n : ℕ). copy_refusal n (128 * pieces_in first) (length out) ≡ Some error) (same_number left mid has field read.1) why))
    | is_copied left mid field next whole answer last sequence length_at taken copying ↦
        let has = has_read left mid sequence in
        let read = length_read tells mid has.shown.small field (Ok tt) next length_at in
        by_length left mid has next whole answer last (number_at field 0 4) (same_number left mid has field read.1) read.2 taken copying
  ]
