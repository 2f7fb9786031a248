-- One access of two machines that are equivalent, over flashes that fail nothing.
use Rattle.std.proofs.Common.{◌≡◌, ℕ, ◌+◌, ◌-◌, ◌/◌, ◌%◌, ◌^◌, List, length, Option, Some, None, Result, Ok, refl, sym, ap, subst, ◌∙◌}
use Rattle.std.specs.Prelude.{min}
use Rattle.std.proofs.lemmas.List.{length-replicate}
use Rattle.base_model.specs.Bytes.{part, number_at, spelled, put_at}
use Rattle.apei_tables.specs.declared.registers.Place.{Place}
use Rattle.apei_tables.specs.declared.registers.Place.TheVariants.{Memory}
use Rattle.apei_tables.specs.declared.widths.Width.{Width}
use Rattle.apei_tables.specs.Access.{bits}
use Rattle.apei_space.specs.declared.faults.SpaceFault.{SpaceFault}
use Rattle.apei_space.specs.Calls.{Call, Read, Write, Wait, Copy, ReadBytes, WriteBytes}
use Rattle.apei_space.specs.Windows.{address_of}
use Rattle.ghes_ack.specs.Handovers.{HandoverState}
use Rattle.erst_entries.specs.Actions.{action_of}
use Rattle.erst_machine.specs.declared.areas.Area.{Area}
use Rattle.erst_machine.specs.declared.areas.Area.TheVariants.{Device, Scratch, LogRange, Handover, BootErrors, Ports}
use Rattle.erst_machine.specs.declared.areas.Location.{Location}
use Rattle.erst_machine.specs.declared.areas.Location.TheVariants.{Inside, Beyond, Nowhere}
use Rattle.erst_machine.specs.declared.areas.Register.{Register}
use Rattle.erst_machine.specs.declared.areas.Register.TheVariants.{Action, Value, NoRegister}
use Rattle.erst_machine.specs.Areas.{place_location, register_at}
use Rattle.erst_machine.specs.Memories.{MemoryState, bytes_in, with_bytes}
use Rattle.erst_machine.specs.MachineState.{MachineState, location_of}
use Rattle.erst_machine.specs.Allowed.{ActsOn, write_of, RegisterWritten, NumberWritten, number_read, register_read, put_in, bytes_read, bytes_stored, copy_fault, copied_to, copied, copy_of, Allows}
use Rattle.erst_commands.specs.Equivalence.{DeviceOutline, MachineOutline, device_outline, machine_outline, EquivalentMachines, FailedNothing, bytes_shown, answered}
use Rattle.erst_commands.proofs.DeviceOutlines.{Became, became, became_alike}
use Rattle.erst_machine.proofs.Words.{copied_from}
use Rattle.erst_commands.proofs.Terms.{AskAlike, any_buffer}

pub same_machine : (s t : MachineOutline) → s.device ≡ t.device → s.memory ≡ t.memory → s.handover ≡ t.handover → s.waited ≡ t.waited → s ≡ t
same_machine s t device memory handover waited =
    ap (λ (d : DeviceOutline). record s { device = d }) device
    ∙ ap (λ (m : MemoryState). record s { device = t.device; memory = m }) memory
    ∙ ap (λ (h : HandoverState). record s { device = t.device; memory = t.memory; handover = h }) handover
    ∙ ap (λ (n : ℕ). record t { waited = n }) waited

-- what an access of each answers, and the states behind them
pub record BothDo {A : Type 0} (one_answer other_answer : A) (one_after other_after : MachineState) : Type 0 where
  pub answer : one_answer ≡ other_answer
  pub equivalent : EquivalentMachines one_after other_after

become_alike : (one_after other_after x y : MachineState) → one_after ≡ x → other_after ≡ y → EquivalentMachines x y → EquivalentMachines one_after other_after
become_alike one_after other_after x y first second equivalent = ap machine_outline first ∙ equivalent ∙ sym (ap machine_outline second)

both : {A : Type 0} (one_answer other_answer : A) (one_after other_after : MachineState) (a b : A) (x y : MachineState) → one_answer ≡ a → other_answer ≡ b →
    one_after ≡ x → other_after ≡ y → a ≡ b → EquivalentMachines x y
    → BothDo one_answer other_answer one_after other_after
both one_answer other_answer one_after other_after a b x y one_is other_is one_state other_state answers equivalent = record {
  answer = one_is ∙ answers ∙ sym other_is;
  equivalent = become_alike one_after other_after x y one_state other_state equivalent;
}

module _ (tells : Type 0) (told : tells) (one other : MachineState) (equivalent : EquivalentMachines one other) where
  same_range : one.memory.range ≡ other.memory.range
  same_range = ap (λ (o : MachineOutline). o.memory.range) equivalent

  -- a code in ACTION
  acts_alike : (code : ℕ) (one_after other_after : MachineState) → ActsOn tells one code one_after → FailedNothing one one_after →
      ActsOn tells other code other_after → FailedNothing other other_after → EquivalentMachines one_after other_after
  acts_alike code one_after other_after first quiet second also_quiet =
      let own = became tells told one.device one.memory.range (action_of code) one_after.device one_after.memory.range first.acts (first.copies told) quiet in
      let others = became tells told other.device other.memory.range (action_of code) other_after.device other_after.memory.range second.acts (second.copies told) also_quiet in
      let moved = subst (λ (r : List ℕ). Became (action_of code) (device_outline other.device) r (device_outline other_after.device) other_after.memory.range) (sym same_range) others in
      let both_are = became_alike (action_of code) (device_outline one.device) (device_outline other.device) one.memory.range (device_outline one_after.device)
      one_after.memory.range (device_outline other_after.device) other_after.memory.range
      (ap (λ (o : MachineOutline). o.device) equivalent) own moved in
      same_machine (machine_outline one_after) (machine_outline other_after) both_are.0
      (first.memory ∙ ap (λ (o : MachineOutline). record o.memory { range = one_after.memory.range }) equivalent
      ∙ ap (λ (r : List ℕ). record other.memory { range = r }) both_are.1 ∙ sym second.memory)
      (first.handover ∙ ap (λ (o : MachineOutline). o.handover) equivalent ∙ sym second.handover)
      (first.waited ∙ ap (λ (o : MachineOutline). o.waited) equivalent ∙ sym second.waited)

  put_alike : (area : Area) (start : ℕ) (bytes : List ℕ) → EquivalentMachines (put_in area start one bytes) (put_in area start other bytes)
  put_alike area start bytes = ap (λ (o : MachineOutline). record o { memory = with_bytes area o.memory (put_at (bytes_in area o.memory) start bytes) }) equivalent

  -- reads
  register_alike : (register : Register) (at : ℕ) (width : Width) → register_read register one at width ≡ register_read register other at width
  register_alike Action at width = refl
  register_alike Value at width = ap (λ (o : MachineOutline). Ok o.device.value) equivalent
  register_alike NoRegister at width = refl

  area_alike : (area : Area) (start at : ℕ) (width : Width) → number_read (Inside area start) one at width ≡ number_read (Inside area start) other at width
  area_alike Device start at width = register_alike (register_at start width) at width
  area_alike Scratch start at width = ap (λ (o : MachineOutline). Ok (number_at (bytes_in Scratch o.memory) start (bits width / 8))) equivalent
  area_alike LogRange start at width = ap (λ (o : MachineOutline). Ok (number_at (bytes_in LogRange o.memory) start (bits width / 8))) equivalent
  area_alike Handover start at width = ap (λ (o : MachineOutline). Ok (number_at (bytes_in Handover o.memory) start (bits width / 8))) equivalent
  area_alike BootErrors start at width = ap (λ (o : MachineOutline). Ok (number_at (bytes_in BootErrors o.memory) start (bits width / 8))) equivalent
  area_alike Ports start at width = ap (λ (o : MachineOutline). Ok (number_at (bytes_in Ports o.memory) start (bits width / 8))) equivalent

  number_alike : (location : Location) (at : ℕ) (width : Width) → number_read location one at width ≡ number_read location other at width
  number_alike (Inside area start) at width = area_alike area start at width
  number_alike (Beyond area address) at width = refl
  number_alike (Nowhere address) at width = refl

  part_alike : (area : Area) (start : ℕ) (before buffer : List ℕ) → length before ≡ length buffer → part (bytes_in area one.memory) start (length before)
      ≡ part (bytes_in area other.memory) start (length buffer)
  part_alike area start before buffer long =
      ap (λ (o : MachineOutline). part (bytes_in area o.memory) start (length before)) equivalent ∙ ap (λ (n : ℕ). part (bytes_in area other.memory) start n) long

  -- what a read of bytes answers, and what it shows
  filled_alike : (area : Area) (start at : ℕ) (before buffer : List ℕ) → length before ≡ length buffer →
      ((bytes_read (Inside area start) one at before).0 ≡ (bytes_read (Inside area start) other at buffer).0)
      × (bytes_shown (bytes_read (Inside area start) one at before).0 (bytes_read (Inside area start) one at before).1 ≡ bytes_shown
      (bytes_read (Inside area start) other at buffer).0 (bytes_read (Inside area start) other at buffer).1)
  filled_alike Device start at before buffer long = (refl, refl)
  filled_alike Scratch start at before buffer long = (refl, part_alike Scratch start before buffer long)
  filled_alike LogRange start at before buffer long = (refl, part_alike LogRange start before buffer long)
  filled_alike Handover start at before buffer long = (refl, part_alike Handover start before buffer long)
  filled_alike BootErrors start at before buffer long = (refl, part_alike BootErrors start before buffer long)
  filled_alike Ports start at before buffer long = (refl, part_alike Ports start before buffer long)

  bytes_alike : (location : Location) (at : ℕ) (before buffer : List ℕ) → length before ≡ length buffer → ((bytes_read location one at before).0 ≡ (bytes_read location other at buffer).0)
      × (bytes_shown (bytes_read location one at before).0 (bytes_read location one at before).1 ≡ bytes_shown (bytes_read location other at buffer).0 (bytes_read location other at buffer).1)
  bytes_alike (Inside area start) at before buffer long = filled_alike area start at before buffer long
  bytes_alike (Beyond area address) at before buffer long = (refl, refl)
  bytes_alike (Nowhere address) at before buffer long = (refl, refl)

  -- writes of bytes, and copies
  area_stored_alike : (area : Area) (start at : ℕ) (bytes : List ℕ) →
      BothDo (bytes_stored (Inside area start) one at bytes).0 (bytes_stored (Inside area start) other at bytes).0
      (bytes_stored (Inside area start) one at bytes).1 (bytes_stored (Inside area start) other at bytes).1
  area_stored_alike Device start at bytes = record { answer = refl; equivalent = equivalent }
  area_stored_alike Handover start at bytes = record { answer = refl; equivalent = equivalent }
  area_stored_alike BootErrors start at bytes = record { answer = refl; equivalent = equivalent }
  area_stored_alike Scratch start at bytes = record { answer = refl; equivalent = put_alike Scratch start bytes }
  area_stored_alike LogRange start at bytes = record { answer = refl; equivalent = put_alike LogRange start bytes }
  area_stored_alike Ports start at bytes = record { answer = refl; equivalent = put_alike Ports start bytes }

  stored_alike : (location : Location) (at : ℕ) (bytes : List ℕ) → BothDo (bytes_stored location one at bytes).0 (bytes_stored location other at bytes).0
      (bytes_stored location one at bytes).1 (bytes_stored location other at bytes).1
  stored_alike (Inside area start) at bytes = area_stored_alike area start at bytes
  stored_alike (Beyond area address) at bytes = record { answer = refl; equivalent = equivalent }
  stored_alike (Nowhere address) at bytes = record { answer = refl; equivalent = equivalent }

  from_alike : (location : Location) (n : ℕ) → copied_from location one n ≡ copied_from location other n
  from_alike (Inside area start) n = ap (λ (o : MachineOutline). part (bytes_in area o.memory) start n) equivalent
  from_alike (Beyond area address) n = refl
  from_alike (Nowhere address) n = refl

  to_alike : (location : Location) (bytes others : List ℕ) → bytes ≡ others → EquivalentMachines (copied_to location one bytes) (copied_to location other others)
  to_alike (Inside area start) bytes others same = put_alike area start bytes ∙ ap (λ (xs : List ℕ). machine_outline (put_in area start other xs)) same
  to_alike (Beyond area address) bytes others same = equivalent
  to_alike (Nowhere address) bytes others same = equivalent

  copied_alike : (first second : Option SpaceFault) (source target : Location) (n : ℕ) →
      BothDo (copied first second source target one n).0 (copied first second source target other n).0 (copied first second source target one n).1 (copied first second source target other n).1
  copied_alike (Some fault) second source target n = record { answer = refl; equivalent = equivalent }
  copied_alike None (Some fault) source target n = record { answer = refl; equivalent = equivalent }
  copied_alike None None source target n = record { answer = refl; equivalent = to_alike target _ _ (from_alike source n) }

  -- writes of a number
  module _ (at : ℕ) (width : Width) (value : ℕ) (x y : Result (Unit {0}) SpaceFault) (one_after other_after : MachineState)
      (quiet : FailedNothing one one_after) (also_quiet : FailedNothing other other_after) where
    written_register : (register : Register) → RegisterWritten tells register one (write_of at width value x) one_after → RegisterWritten tells register other
        (write_of at width value y) other_after → BothDo x y one_after other_after
    written_register Action first second = record { answer = first.0 ∙ sym second.0; equivalent = acts_alike (value % 2 ^ 32) one_after other_after first.1 quiet second.1 also_quiet }
    written_register Value first second = record {
      answer = first.0 ∙ sym second.0;
      equivalent = become_alike one_after other_after (record one { device = record one.device { value = value } }) (record other { device = record other.device { value = value } }) first.1 second.1
          (ap (λ (o : MachineOutline). record o { device = record o.device { value = value } }) equivalent);
    }
    written_register NoRegister first second = record { answer = first.0 ∙ sym second.0; equivalent = become_alike one_after other_after one other first.1 second.1 equivalent }

    written_put : (area : Area) (start : ℕ) → (x ≡ Ok tt) × (one_after ≡ put_in area start one (spelled (bits width / 8) value)) →
        (y ≡ Ok tt) × (other_after ≡ put_in area start other (spelled (bits width / 8) value))
        → BothDo x y one_after other_after
    written_put area start first second = record {
      answer = first.0 ∙ sym second.0;
      equivalent = become_alike one_after other_after _ _ first.1 second.1
          (put_alike area start (spelled (bits width / 8) value));
    }

    written_area : (area : Area) (start : ℕ) → NumberWritten tells (Inside area start) one (write_of at width value x) one_after →
        NumberWritten tells (Inside area start) other (write_of at width value y) other_after → BothDo x y one_after other_after
    written_area Device start first second = written_register (register_at start width) first second
    written_area Handover start first second = record { answer = first.0 ∙ sym second.0; equivalent = become_alike one_after other_after one other first.1 second.1 equivalent }
    written_area BootErrors start first second = record { answer = first.0 ∙ sym second.0; equivalent = become_alike one_after other_after one other first.1 second.1 equivalent }
    written_area Scratch start first second = written_put Scratch start first second
    written_area LogRange start first second = written_put LogRange start first second
    written_area Ports start first second = written_put Ports start first second

    written_alike : (location : Location) → NumberWritten tells location one (write_of at width value x) one_after →
        NumberWritten tells location other (write_of at width value y) other_after → BothDo x y one_after other_after
    written_alike (Inside area start) first second = written_area area start first second
    written_alike (Beyond area address) first second = record { answer = first.0 ∙ sym second.0; equivalent = become_alike one_after other_after one other first.1 second.1 equivalent }
    written_alike (Nowhere address) first second = record { answer = first.0 ∙ sym second.0; equivalent = become_alike one_after other_after one other first.1 second.1 equivalent }

  same_location : (at : Place) (n : ℕ) → location_of other at n ≡ location_of one at n
  same_location at n = ap (λ (o : MachineOutline). place_location (length o.memory.range) at n) (sym equivalent)

  -- calls that ask the same
  read_both : (at : Place) (width : Width) (x y : Result ℕ SpaceFault) (one_after other_after : MachineState) → Allows tells one (Read at width x) one_after →
      Allows tells other (Read at width y) other_after → BothDo x y one_after other_after
  read_both at width x y one_after other_after first second =
      let location : Location = location_of one at (bits width / 8) in
      both x y one_after other_after _ _ one other first.0 (second.0 ∙ ap (λ (s : Location). number_read s other (address_of at) width) (same_location at (bits width / 8))) first.1 second.1
      (number_alike location (address_of at) width) equivalent

  write_both : (at : Place) (width : Width) (value : ℕ) (x y : Result (Unit {0}) SpaceFault) (one_after other_after : MachineState) →
      Allows tells one (Write at width value x) one_after → FailedNothing one one_after
      → Allows tells other (Write at width value y) other_after → FailedNothing other other_after → BothDo x y one_after other_after
  write_both at width value x y one_after other_after first quiet second also_quiet =
      written_alike (address_of at) width value x y one_after other_after quiet also_quiet (location_of one at (bits width / 8)) first
      (subst (λ (s : Location). NumberWritten tells s other (write_of (address_of at) width value y) other_after) (same_location at (bits width / 8)) second)

  wait_both : (micros : ℕ) (one_after other_after : MachineState) → Allows tells one (Wait micros) one_after → Allows tells other (Wait micros) other_after → EquivalentMachines one_after other_after
  wait_both micros one_after other_after first second =
      become_alike one_after other_after _ _ first second (ap (λ (o : MachineOutline). record o { waited = min (o.waited + micros) (2 ^ 64 - 1) }) equivalent)

  copy_both : (from target n : ℕ) (x y : Result (Unit {0}) SpaceFault) (one_after other_after : MachineState) → Allows tells one (Copy from target n x)
      one_after → Allows tells other (Copy from target n y) other_after → BothDo x y one_after other_after
  copy_both from target n x y one_after other_after first second =
      let own = copied_alike (copy_fault (location_of one (Memory from) n) from) (copy_fault (location_of one (Memory target) n) target)
      (location_of one (Memory from) n) (location_of one (Memory target) n) n in
      let moved : copy_of (location_of other (Memory from) n) (location_of other (Memory target) n) other from target n
      ≡ copy_of (location_of one (Memory from) n) (location_of one (Memory target) n) other from target n =
      ap (λ (o : MachineOutline). copy_of (place_location (length o.memory.range) (Memory from) n) (place_location (length o.memory.range) (Memory target) n) other from target n) (sym equivalent) in
      both x y one_after other_after _ _ _ _ first.0 (second.0 ∙ ap (λ (p : Result (Unit {0}) SpaceFault × MachineState). p.0) moved) first.1
      (second.1 ∙ ap (λ (p : Result (Unit {0}) SpaceFault × MachineState). p.1) moved)
      own.answer own.equivalent

  pub fill_both : (at : ℕ) (before buffer after afterwards : List ℕ) (x y : Result (Unit {0}) SpaceFault) (one_after other_after : MachineState) →
      length before ≡ length buffer → Allows tells one (ReadBytes at before after x) one_after
      → Allows tells other (ReadBytes at buffer afterwards y) other_after → (x ≡ y) × (bytes_shown x after ≡ bytes_shown y afterwards) × EquivalentMachines one_after other_after
  fill_both at before buffer after afterwards x y one_after other_after long first second =
      let location : Location = location_of one (Memory at) (length before) in
      let moved : bytes_read (location_of other (Memory at) (length buffer)) other at buffer ≡ bytes_read location other at buffer =
      ap (λ (n : ℕ). bytes_read (location_of other (Memory at) n) other at buffer) (sym long) ∙ ap (λ (s : Location). bytes_read s other at buffer) (same_location (Memory at) (length before)) in
      let same = bytes_alike location at before buffer long in
      let other_answer : y ≡ (bytes_read location other at buffer).0 = second.0 ∙ ap (λ (p : Result (Unit {0}) SpaceFault × List ℕ). p.0) moved in
      let other_bytes : afterwards ≡ (bytes_read location other at buffer).1 = second.1 ∙ ap (λ (p : Result (Unit {0}) SpaceFault × List ℕ). p.1) moved in (
        first.0 ∙ same.0 ∙ sym other_answer,
        ap (λ (r : Result (Unit {0}) SpaceFault). bytes_shown r after) first.0 ∙ ap (λ (xs : List ℕ). bytes_shown (bytes_read location one at before).0 xs) first.1 ∙ same.1
            ∙ sym (ap (λ (r : Result (Unit {0}) SpaceFault). bytes_shown r afterwards) other_answer ∙ ap (λ (xs : List ℕ). bytes_shown (bytes_read location other at buffer).0 xs) other_bytes),
        become_alike one_after other_after one other first.2 second.2 equivalent,
      )

  put_both : (at : ℕ) (bytes : List ℕ) (x y : Result (Unit {0}) SpaceFault) (one_after other_after : MachineState) → Allows tells one (WriteBytes at bytes x)
      one_after → Allows tells other (WriteBytes at bytes y) other_after → BothDo x y one_after other_after
  put_both at bytes x y one_after other_after first second =
      let location : Location = location_of one (Memory at) (length bytes) in
      let own = stored_alike location at bytes in
      let moved : bytes_stored (location_of other (Memory at) (length bytes)) other at bytes ≡ bytes_stored location other at bytes =
      ap (λ (s : Location). bytes_stored s other at bytes) (same_location (Memory at) (length bytes)) in
      both x y one_after other_after _ _ _ _ first.0 (second.0 ∙ ap (λ (p : Result (Unit {0}) SpaceFault × MachineState). p.0) moved) first.1
      (second.1 ∙ ap (λ (p : Result (Unit {0}) SpaceFault × MachineState). p.1) moved)
      own.answer own.equivalent

  pub answer_alike : (call also : Call) (one_after other_after : MachineState) → AskAlike call also → Allows tells one call one_after →
      FailedNothing one one_after → Allows tells other also other_after → FailedNothing other other_after
      → (answered call ≡ answered also) × EquivalentMachines one_after other_after
  answer_alike (Read at width x) (Read place wide y) one_after other_after asks first quiet second also_quiet =
      let same : Read place wide y ≡ Read at width y = cc in
      let done = read_both at width x y one_after other_after first (subst (λ (c : Call). Allows tells other c other_after) same second) in
      let answer : x ≡ y = done.answer in
      (cc, done.equivalent)
  answer_alike (Write at width value x) (Write place wide number y) one_after other_after asks first quiet second also_quiet =
      let same : Write place wide number y ≡ Write at width value y = cc in
      let done = write_both at width value x y one_after other_after first quiet (subst (λ (c : Call). Allows tells other c other_after) same second) also_quiet in
      let answer : x ≡ y = done.answer in
      (cc, done.equivalent)
  answer_alike (Wait micros) (Wait time) one_after other_after asks first quiet second also_quiet =
      let is : time ≡ micros = cc in
      (cc, wait_both micros one_after other_after first (subst (λ (n : ℕ). Allows tells other (Wait n) other_after) is second))
  answer_alike (Copy from target len x) (Copy source place n y) one_after other_after asks first quiet second also_quiet =
      let same : Copy source place n y ≡ Copy from target len y = cc in
      let done = copy_both from target len x y one_after other_after first (subst (λ (c : Call). Allows tells other c other_after) same second) in
      let answer : x ≡ y = done.answer in
      (cc, done.equivalent)
  answer_alike (ReadBytes at before after x) (ReadBytes place buffer afterwards y) one_after other_after asks first quiet second also_quiet =
      let at_is : place ≡ at = cc in
      let buffer_is : any_buffer before ≡ any_buffer buffer = cc in
      let long : length before ≡ length buffer = sym (length-replicate {A = ℕ} (length before) 0) ∙ ap (λ (xs : List ℕ). length xs) buffer_is ∙ length-replicate {A = ℕ} (length buffer) 0 in
      let moved = subst (λ (k : ℕ). Allows tells other (ReadBytes k buffer afterwards y) other_after) at_is second in
      let done = fill_both at before buffer after afterwards x y one_after other_after long first moved in
      let answer : x ≡ y = done.0 in
      let filled : bytes_shown x after ≡ bytes_shown y afterwards = done.1 in
      (cc, done.2)
  answer_alike (WriteBytes at bytes x) (WriteBytes place others y) one_after other_after asks first quiet second also_quiet =
      let same : WriteBytes place others y ≡ WriteBytes at bytes y = cc in
      let done = put_both at bytes x y one_after other_after first (subst (λ (c : Call). Allows tells other c other_after) same second) in
      let answer : x ≡ y = done.answer in
      (cc, done.equivalent)
  answer_alike call also one_after other_after asks first quiet second also_quiet = absurd (cc)
