-- A client's read over the machine.
use Rattle.std.proofs.Common.{◌≡◌, ℕ, ◌^◌, ◌<◌, ◌≤◌, List, [], ◌∷◌, ◌++◌, length, take, drop, Some, None, Result, Ok, Err, refl, sym, ap, subst, ◌∙◌, arith}
use Rattle.std.proofs.lemmas.List.{length-take, take_at}
use Rattle.base_model.specs.Bytes.{part, little, number_at, put_at}
use Rattle.base_model.proofs.BytesLemmas.{length-put_at, number_at-part, part-append_left}
use Rattle.apei_space.specs.declared.faults.SpaceFault.{SpaceFault}
use Rattle.apei_space.specs.Calls.{ReadBytes}
use Rattle.erst_client.specs.declared.errors.ClientError.{ClientError}
use Rattle.erst_client.specs.Commands.{copy_refusal, CopiesOut, IsFilled, IsNotFilled, copied, Reads, IsNotRead as not_read, HasNoLength, IsNotCopied as not_copied, IsCopied as is_copied}
use Rattle.erst_client.proofs.RefusalLemmas.{copies}
use Rattle.erst_machine.specs.declared.areas.Location.{Location}
use Rattle.erst_machine.specs.MachineState.{MachineState, IsMachine, reach_in}
use Rattle.erst_machine.specs.Allowed.{Allows, bytes_read}
use Rattle.erst_commands.specs.OwnPrograms.{OwnProgramsRun}
use Rattle.erst_commands.specs.Attached.{own_client}
use Rattle.erst_commands.specs.Reads.{ReadMade, IsRead, IsRefused, IsFailed, ReadCommand, Answers, StopsBehind, StopsBefore, ReadAnswered, IsNotRead, IsNotCopied, IsCopied}
use Rattle.erst_commands.proofs.RangeLemmas.{location-start, location-length, at-start}
use Rattle.erst_commands.proofs.ReadLemmas.{read_command}

no_fault : (fault : SpaceFault) → ◌≡◌ {A = Result (Unit {0}) SpaceFault} (Err fault) (Ok tt) → ⊥
no_fault fault e = absurd (cc e)

-- the log range has the bytes that it had
kept_length : (first last : MachineState) (id : ℕ) (result : Result (Unit {0}) ClientError) → ReadMade first last id result → length last.memory.range ≡ length first.memory.range
kept_length first last id result made = elim made as (λ result made. length last.memory.range ≡ length first.memory.range) [
  | IsRead found body generation asked is_named here fits range cursor ↦ ap length range ∙ length-put_at first.memory.range 0 body (omega (arith, fits))
  | IsRefused refusal error asked refused is range cursor ↦ ap length range
  | IsFailed leaves rose range cursor ↦ ap length range
]

ok_length : (first last : MachineState) (id budget : ℕ) (result : Result (Unit {0}) ClientError) (left : ℕ) → ReadCommand first last id budget result left →
    length last.memory.range ≡ length first.memory.range
ok_length first last id budget result left command = elim command as (λ result left command. length last.memory.range ≡ length first.memory.range) [
  | Answers result left made spent ↦ kept_length first last id result made
  | StopsBehind result made least short ↦ kept_length first last id result made
  | StopsBefore leaves range cursor which short ↦ ap length range
]

module _ (tells : Type 0) (mid : MachineState) (reach : ℕ) (range_is : length mid.memory.range ≡ reach) where
  length_read : 24 ≤ reach → (field : List ℕ) (answer : Result (Unit {0}) SpaceFault) (new : MachineState) → Allows tells mid (ReadBytes 0x100014 (0 ∷ 0 ∷ 0 ∷ 0 ∷ []) field answer) new
      → (answer ≡ Ok tt) × (field ≡ part mid.memory.range 20 4) × (new ≡ mid)
  length_read long field answer new allowed =
      let location = location-length (length mid.memory.range) (omega (arith, long, range_is)) in (
        allowed.0 ∙ ap (λ (s : Location). (bytes_read s mid 0x100014 (0 ∷ 0 ∷ 0 ∷ 0 ∷ [])).0) location,
        allowed.1 ∙ ap (λ (s : Location). (bytes_read s mid 0x100014 (0 ∷ 0 ∷ 0 ∷ 0 ∷ [])).1) location,
        allowed.2,
      )

  range_read : (before after : List ℕ) (answer : Result (Unit {0}) SpaceFault) (new : MachineState) → 0 < length before → length before ≤ reach →
      Allows tells mid (ReadBytes 0x100000 before after answer) new
      → (answer ≡ Ok tt) × (after ≡ part mid.memory.range 0 (length before)) × (new ≡ mid)
  range_read before after answer new some fits allowed =
      let location = location-start (length mid.memory.range) (length before) some (omega (arith, fits, range_is)) in
      (allowed.0 ∙ ap (λ (s : Location). (bytes_read s mid 0x100000 before).0) location, allowed.1 ∙ ap (λ (s : Location). (bytes_read s mid 0x100000 before).1) location, allowed.2)

  copied_out : (before after : List ℕ) (answer : Result (Unit {0}) ClientError) (new : MachineState) → 0 < length before → length before ≤ reach →
      CopiesOut (Allows tells) 0x100000 before after mid answer new
      → (answer ≡ Ok tt) × (after ≡ part mid.memory.range 0 (length before)) × (new ≡ mid)
  copied_out before after answer new some fits copies = elim copies as (λ answer new copies. (answer ≡ Ok tt) × (after ≡ part mid.memory.range 0 (length before)) × (new ≡ mid)) [
    | IsFilled new allowed ↦ let read = range_read before after (Ok tt) new some fits allowed in (refl, read.1, read.2)
    | IsNotFilled fault new allowed ↦ absurd (no_fault fault (range_read before after (Err fault) new some fits allowed).0)
  ]

pub read_out : (tells : Type 0) → OwnProgramsRun tells → tells → (id : ℕ) (out : List ℕ) (budget : ℕ) (first : MachineState) (result : Result ℕ ClientError)
    (after : List ℕ) (left : ℕ) (last : MachineState) → IsMachine first → id < 2 ^ 64
    → 128 ≤ reach_in first.device → Reads (Allows tells) (own_client first) id out budget first result after left last → ReadAnswered id out budget first result after left last
read_out tells own told id out budget first result after left last machine small long reads =
    elim reads as (λ result after left last reads. ReadAnswered id out budget first result after left last) [
      | not_read error left last sequence ↦ IsNotRead error left last (read_command tells own told first machine id small (own_client first).timings budget (Err error) left last sequence)
      | HasNoLength left mid field fault last sequence length_at ↦
          let command = read_command tells own told first machine id small (own_client first).timings budget (Ok tt) left mid sequence in
          absurd (no_fault fault (length_read tells mid (reach_in first.device) (range_of mid left command) (omega (arith, long)) field (Err fault) last length_at).0)
      | not_copied left mid field error last sequence length_at refused ↦
          let command = read_command tells own told first machine id small (own_client first).timings budget (Ok tt) left mid sequence in
          let read = length_read tells mid (reach_in first.device) (range_of mid left command) (omega (arith, long)) field (Ok tt) last length_at in
          subst (λ (m : MachineState). ReadAnswered id out budget first (Err error) out left m) (sym read.2)
          (IsNotCopied error left mid command (subst (λ (n : ℕ). copy_refusal n (reach_in first.device) (length out) ≡ Some error) (length_of mid field read.1) refused))
      | is_copied left mid field next whole answer last sequence length_at taken copying ↦
          let command = read_command tells own told first machine id small (own_client first).timings budget (Ok tt) left mid sequence in
          let read = length_read tells mid (reach_in first.device) (range_of mid left command) (omega (arith, long)) field (Ok tt) next length_at in
          by_length mid field next whole answer last left command (number_at field 0 4) (length_of mid field read.1) read.2 taken copying
    ]
  where
    range_of : (mid : MachineState) (left : ℕ) → ReadCommand first mid id budget (Ok tt) left → length mid.memory.range ≡ reach_in first.device
    range_of mid left command = ok_length first mid id budget (Ok tt) left command ∙ machine.sizes.range

    length_of : (mid : MachineState) (field : List ℕ) → field ≡ part mid.memory.range 20 4 → number_at field 0 4 ≡ number_at mid.memory.range 20 4
    length_of mid field is = ap (λ (xs : List ℕ). number_at xs 0 4) is ∙ number_at-part mid.memory.range 20 4 0 4 (omega arith)

    by_length : (mid : MachineState) (field : List ℕ) (next : MachineState) (whole : List ℕ) (answer : Result (Unit {0}) ClientError) (last : MachineState)
        (left : ℕ) → ReadCommand first mid id budget (Ok tt) left
        → (len : ℕ) → len ≡ number_at mid.memory.range 20 4 → next ≡ mid → copy_refusal len (reach_in first.device) (length out) ≡ None
        → CopiesOut (Allows tells) 0x100000 (take len out) whole next answer last → ReadAnswered id out budget first (copied answer len) (whole ++ drop len out) left last
    by_length mid field next whole answer last left command len len_is next_is taken copying =
        let has = copies len (reach_in first.device) (length out) taken in
        let cut : length (take len out) ≡ len = length-take len out ∙ (omega (arith, has.fits)) in
        let done = copied_out tells mid (reach_in first.device) (range_of mid left command) (take len out) whole answer last (omega (arith, cut, has.least)) (omega (arith, cut, has.within))
        (subst (λ (m : MachineState). CopiesOut (Allows tells) 0x100000 (take len out) whole m answer last) next_is copying) in
        let bytes : whole ≡ part mid.memory.range 0 len = done.1 ∙ ap (λ (n : ℕ). part mid.memory.range 0 n) cut in
        subst (λ (r : Result (Unit {0}) ClientError). ReadAnswered id out budget first (copied r len) (whole ++ drop len out) left last) (sym done.0)
        (subst (λ (m : MachineState). ReadAnswered id out budget first (Ok len) (whole ++ drop len out) left m) (sym done.2)
        (subst (λ (xs : List ℕ). ReadAnswered id out budget first (Ok len) (xs ++ drop len out) left mid) (sym bytes)
        (subst (λ (n : ℕ). ReadAnswered id out budget first (Ok n) (part mid.memory.range 0 n ++ drop n out) left mid) (sym len_is)
        (IsCopied left mid command (subst (λ (n : ℕ). copy_refusal n (reach_in first.device) (length out) ≡ None) len_is taken)))))

-- a framed record is shown whole
pub framed_whole : (range body : List ℕ) → 128 ≤ length body → length body ≤ length range → number_at body 20 4 ≡ length body
    → (number_at (put_at range 0 body) 20 4 ≡ length body) × (part (put_at range 0 body) 0 (length body) ≡ body)
unfolding part number_at
framed_whole range body least fits framed = (
  ap (λ (xs : List ℕ). number_at xs 20 4) (at-start range body) ∙ ap little (part-append_left body (drop (length body) range) 20 4 (omega (arith, least))) ∙ framed,
  ap (λ (xs : List ℕ). take (length body) xs) (at-start range body) ∙ take_at body (drop (length body) range) (length body) refl,
)
