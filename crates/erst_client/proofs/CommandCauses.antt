-- A device's fault in a command's answer has its cause.
use Rattle.std.proofs.Common.{ℕ, ◌-◌, ◌^◌, ◌==◌, nat_lt, not, cond, Bool, true, false, List, length, Option, Some, None, Result, Ok, Err, sym, subst, arith, bit_and, slice_index}
use Rattle.apei_space.specs.Calls.{Call, HasReason}
use Rattle.apei_space.specs.Accesses.{Stays, Goes}
use Rattle.erst_entries.specs.declared.actions.Action.TheVariants.{GetRecordCount, GetRecordIdentifier}
use Rattle.erst_entries.specs.declared.entries.Entry.{Entry}
use Rattle.erst_entries.specs.Layout.{Erst}
use Rattle.erst_interp.specs.declared.stops.RunStop.{RunStop}
use Rattle.erst_client.specs.declared.errors.AttachError.{AttachError}
use Rattle.erst_client.specs.declared.errors.AttachError.TheVariants.{NonVolatile, NoRange}
use Rattle.erst_client.specs.declared.errors.ClientError.{ClientError}
use Rattle.erst_client.specs.declared.errors.ClientError.TheVariants.{Hardware}
use Rattle.erst_client.specs.Sequences.{write_requests, read_requests, Sequence}
use Rattle.erst_client.specs.Commands.{ClientState, Puts, NotPut, NotMarked, IsPut, Writes, IsNoRecord, IsNotPut, IsAsked, copied, CopiesOut, IsFilled}
use Rattle.erst_client.specs.Commands.{IsNotFilled, Reads, IsNotRead, HasNoLength, IsNotCopied, IsCopied, Counts, Names}
use Rattle.erst_client.specs.Attaching.{attach_requests, Attaches}
use Rattle.erst_client.specs.Causes.{OfAttaching, HasDeviceCause, HasAttachCause}
use Rattle.erst_client.proofs.SequenceLemmas.{sequence_on}
use Rattle.erst_client.proofs.CommandLemmas.{puts_on, writes_on, copies_on, reads_on, counts_on, names_on}
use Rattle.erst_client.proofs.AttachLemmas.{attaches_on}
use Rattle.erst_client.proofs.RefusalLemmas.{write_own, copy_own, own_cause}
use Rattle.erst_client.proofs.CauseLemmas.{OfAsked, fault_within, answer_within, fault_cause, rises, performs_cause, asks_cause, sequence_cause}
use Rattle.erst_client.specs.Asking.{counted, named}
use Rattle.erst_client.proofs.Terms.{client_of, attached, OfAnswer}

module _ {W : Type 0} (allows : W → Call → W → Type 0) (faults : W → ℕ) (reasons : (old new : W) (call : Call) → allows old call new → HasReason faults old call new) where
  puts_cause : (address : ℕ) (bytes : List ℕ) (old : W) (result : Result (Unit {0}) ClientError) (new : W) → Puts allows address bytes old result new → OfAnswer (faults old) (faults new) result
  puts_cause address bytes old result new puts =
      elim puts as (λ result new puts. OfAnswer (faults old) (faults new) result) [
        | NotPut fault last first ↦ fault_cause faults old last fault (reasons old last _ first).leaves
        | NotMarked mid fault last first second ↦
            fault_within (faults old) (faults mid) (faults last) (faults last) fault (reasons old mid _ first).never_falls (reasons mid last _ second).never_falls
            (fault_cause faults mid last fault (reasons mid last _ second).leaves) (omega arith)
        | IsPut mid last first second ↦ tt
      ]

  pub writes_cause : (client : ClientState) (bytes : List ℕ) (budget : ℕ) (old : W) (result : Result (Unit {0}) ClientError) (left : ℕ) (last : W) →
      Writes allows client bytes budget old result left last → HasDeviceCause (faults old) (faults last) result
  writes_cause client bytes budget old result left last writes = record {
    never_falls = rises allows faults reasons client.table.entries old last (writes_on allows client bytes budget old result left last writes);
    of_answer = elim writes as (λ result left last writes. OfAnswer (faults old) (faults last) result) [
      | IsNoRecord error is ↦ own_cause (faults old) (faults old) error (write_own bytes client.range error is)
      | IsNotPut error last fits puts ↦ puts_cause client.address bytes old (Err error) last puts
      | IsAsked mid result left last fits puts sequence ↦
          answer_within (faults old) (faults mid) (faults last) (faults last) result (rises allows faults reasons client.table.entries old mid
          (puts_on allows client.address bytes old (Ok tt) mid puts))
          (rises allows faults reasons client.table.entries mid last (sequence_on allows client.table.entries mid client.timings write_requests budget mid result left last Stays sequence))
          (sequence_cause allows faults reasons client.table.entries client.timings write_requests budget mid result left last sequence) (omega arith)
    ];
  }

  copies_cause : (address : ℕ) (before after : List ℕ) (old : W) (result : Result (Unit {0}) ClientError) (new : W) (len : ℕ) →
      CopiesOut allows address before after old result new → OfAnswer (faults old) (faults new) (copied result len)
  copies_cause address before after old result new len copies =
      elim copies as (λ result new copies. OfAnswer (faults old) (faults new) (copied result len)) [
        | IsFilled new reads ↦ tt
        | IsNotFilled fault new reads ↦ fault_cause faults old new fault (reasons old new _ reads).leaves
      ]

  pub reads_cause : (client : ClientState) (id : ℕ) (out : List ℕ) (budget : ℕ) (old : W) (result : Result ℕ ClientError) (after : List ℕ) (left : ℕ) (last : W) →
      Reads allows client id out budget old result after left last → HasDeviceCause (faults old) (faults last) result
  reads_cause client id out budget old result after left last reads = record {
    never_falls = rises allows faults reasons client.table.entries old last (reads_on allows client id out budget old result after left last reads);
    of_answer = elim reads as (λ result after left last reads. OfAnswer (faults old) (faults last) result) [
      | IsNotRead error left last sequence ↦ sequence_cause allows faults reasons client.table.entries client.timings (read_requests id) budget old (Err error) left last sequence
      | HasNoLength left mid field fault last sequence size ↦
          fault_within (faults old) (faults mid) (faults last) (faults last) fault
          (rises allows faults reasons client.table.entries old mid (sequence_on allows client.table.entries old client.timings (read_requests id) budget old (Ok tt) left mid Stays sequence))
          (reasons mid last _ size).never_falls (fault_cause faults mid last fault (reasons mid last _ size).leaves) (omega arith)
      | IsNotCopied left mid field error last sequence size refused ↦ own_cause (faults old) (faults last) error (copy_own _ client.range (length out) error refused)
      | IsCopied left mid field next whole answer last sequence size fits copies ↦
          answer_within (faults old) (faults next) (faults last) (faults last) (copied answer _)
          (rises allows faults reasons client.table.entries old next
          (Goes mid _ next (sequence_on allows client.table.entries old client.timings (read_requests id) budget old (Ok tt) left mid Stays sequence) size))
          (rises allows faults reasons client.table.entries next last (copies_on allows next client.address _ whole next answer last Stays copies))
          (copies_cause client.address _ whole next answer last _ copies) (omega arith)
    ];
  }

  pub sequence_has_cause : (entries : List Entry) (timings : Option (ℕ × ℕ)) (requests : List _) (budget : ℕ) (old : W) (result : Result (Unit {0}) ClientError) (left : ℕ) (last : W) →
      Sequence allows entries timings requests budget old result left last → HasDeviceCause (faults old) (faults last) result
  sequence_has_cause entries timings requests budget old result left last sequence = record {
    never_falls = rises allows faults reasons entries old last (sequence_on allows entries old timings requests budget old result left last Stays sequence);
    of_answer = sequence_cause allows faults reasons entries timings requests budget old result left last sequence;
  }

  of_counted : (a b : ℕ) (answer : Result ℕ RunStop) → OfAsked a b answer → OfAnswer a b (counted answer)
  of_counted a b (Err stop) of = of
  of_counted a b (Ok count) of = go (count == 2 ^ 32 - 1) where
    go : (p : Bool) → OfAnswer {T = ℕ} a b (cond p (Err Hardware) (Ok count))
    go true = tt
    go false = tt

  of_named : (a b : ℕ) (answer : Result ℕ RunStop) → OfAsked a b answer → OfAnswer a b (named answer)
  of_named a b (Err stop) of = of
  of_named a b (Ok id) of = go (id == 0) (id == 2 ^ 64 - 1) where
    go : (p q : Bool) → OfAnswer {T = Option ℕ} a b (cond p (Err Hardware) (cond q (Ok None) (Ok (Some id))))
    go true q = tt
    go false true = tt
    go false false = tt

  pub counts_cause : (entries : List Entry) (budget : ℕ) (old : W) (result : Result ℕ ClientError) (left : ℕ) (last : W) →
      Counts allows entries budget old result left last → HasDeviceCause (faults old) (faults last) result
  counts_cause entries budget old result left last counts = record {
    never_falls = rises allows faults reasons entries old last (counts_on allows entries budget old result left last counts);
    of_answer = subst (λ (r : Result ℕ ClientError). OfAnswer (faults old) (faults last) r) (sym counts.result_is)
        (of_counted (faults old) (faults last) counts.answer (performs_cause allows faults reasons entries GetRecordCount 0 budget old counts.answer left last counts.asks));
  }

  pub names_cause : (entries : List Entry) (budget : ℕ) (old : W) (result : Result (Option ℕ) ClientError) (left : ℕ) (last : W) →
      Names allows entries budget old result left last → HasDeviceCause (faults old) (faults last) result
  names_cause entries budget old result left last names = record {
    never_falls = rises allows faults reasons entries old last (names_on allows entries budget old result left last names);
    of_answer = subst (λ (r : Result (Option ℕ) ClientError). OfAnswer (faults old) (faults last) r) (sym names.result_is)
        (of_named (faults old) (faults last) names.answer (performs_cause allows faults reasons entries GetRecordIdentifier 0 budget old names.answer left last names.asks));
  }

  of_attached : (a b : ℕ) (erst : Erst) (answers : Result (List ℕ) RunStop) → OfAsked a b answers → OfAttaching a b (attached erst answers)
  of_attached a b erst (Err stop) of = of
  of_attached a b erst (Ok answers) of = go (not (bit_and (slice_index answers 2) 2 == 0)) (nat_lt (slice_index answers 1) 128) where
    go : (p q : Bool) → OfAttaching {T = ClientState} a b (cond p (Err (NonVolatile (slice_index answers 2))) (cond q (Err (NoRange (slice_index answers 1))) (Ok (client_of erst answers))))
    go true q = tt
    go false true = tt
    go false false = tt

  pub attaches_cause : (erst : Erst) (budget : ℕ) (old : W) (result : Result ClientState AttachError) (left : ℕ) (last : W) →
      Attaches allows erst budget old result left last → HasAttachCause (faults old) (faults last) result
  attaches_cause erst budget old result left last attaches = record {
    never_falls = rises allows faults reasons erst.entries old last (attaches_on allows erst budget old result left last attaches);
    of_answer = subst (λ (r : Result ClientState AttachError). OfAttaching (faults old) (faults last) r) (sym attaches.result_is)
        (of_attached (faults old) (faults last) erst attaches.answers (asks_cause allows faults reasons erst.entries (attach_requests erst.entries) budget old
        attaches.answers left last attaches.asks));
  }
