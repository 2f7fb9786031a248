-- The accesses of commands.
use Rattle.std.proofs.Common.{◌≡◌, ℕ, ◌++◌, List, length, take, drop, Option, None, Result, Ok, Err, sym, subst}
use Rattle.base_model.specs.Bytes.{number_at}
use Rattle.apei_space.specs.Calls.{Call}
use Rattle.apei_space.specs.Accesses.{Reaches, Stays, Goes}
use Rattle.erst_entries.specs.declared.actions.Action.TheVariants.{GetRecordCount, GetRecordIdentifier}
use Rattle.erst_entries.specs.declared.entries.Entry.{Entry}
use Rattle.erst_client.specs.declared.errors.ClientError.{ClientError}
use Rattle.erst_client.specs.Sequences.{write_requests, read_requests, Sequence}
use Rattle.erst_client.specs.Commands.{ClientState, Puts, NotPut, NotMarked, IsPut, Writes, IsNoRecord, IsNotPut, IsAsked, CopiesOut, IsFilled, IsNotFilled}
use Rattle.erst_client.specs.Commands.{copy_refusal, copied, Reads, IsNotRead, HasNoLength, IsNotCopied, IsCopied, Counts, Names}
use Rattle.erst_client.proofs.RequestLemmas.{performs_on}
use Rattle.erst_client.proofs.SequenceLemmas.{sequence_on}
use Rattle.erst_client.proofs.Terms.{LengthRead}

pub puts_on : {W : Type 0} (allows : W → Call → W → Type 0) (address : ℕ) (bytes : List ℕ) (old : W) (result : Result (Unit {0}) ClientError) (new : W) →
    Puts allows address bytes old result new → Reaches allows old new
puts_on allows address bytes old result new puts =
    elim puts as (λ result new puts. Reaches allows old new) [
      | NotPut fault last first ↦ Goes old _ last Stays first
      | NotMarked mid fault last first second ↦ Goes mid _ last (Goes old _ mid Stays first) second
      | IsPut mid last first second ↦ Goes mid _ last (Goes old _ mid Stays first) second
    ]

pub writes_on : {W : Type 0} (allows : W → Call → W → Type 0) (client : ClientState) (bytes : List ℕ) (budget : ℕ) (old : W) (result : Result (Unit {0}) ClientError) (left : ℕ) (last : W) →
    Writes allows client bytes budget old result left last → Reaches allows old last
writes_on allows client bytes budget old result left last writes =
    elim writes as (λ result left last writes. Reaches allows old last) [
      | IsNoRecord error is ↦ Stays
      | IsNotPut error last fits puts ↦ puts_on allows client.address bytes old (Err error) last puts
      | IsAsked mid result left last fits puts sequence ↦
          sequence_on allows client.table.entries old client.timings write_requests budget mid result left last (puts_on allows client.address bytes old (Ok tt) mid puts) sequence
    ]

pub copies_on : {W : Type 0} (allows : W → Call → W → Type 0) (first : W) (address : ℕ) (before after : List ℕ) (old : W) (result : Result (Unit {0}) ClientError) (new : W) →
    Reaches allows first old → CopiesOut allows address before after old result new → Reaches allows first new
copies_on allows first address before after old result new so copies =
    elim copies as (λ result new copies. Reaches allows first new) [
      | IsFilled new reads ↦ Goes old _ new so reads
      | IsNotFilled fault new reads ↦ Goes old _ new so reads
    ]

pub reads_on : {W : Type 0} (allows : W → Call → W → Type 0) (client : ClientState) (id : ℕ) (out : List ℕ) (budget : ℕ) (old : W)
    (result : Result ℕ ClientError) (after : List ℕ) (left : ℕ) (last : W) →
    Reads allows client id out budget old result after left last → Reaches allows old last
reads_on allows client id out budget old result after left last reads =
    elim reads as (λ result after left last reads. Reaches allows old last) [
      | IsNotRead error left last sequence ↦ sequence_on allows client.table.entries old client.timings (read_requests id) budget old (Err error) left last Stays sequence
      | HasNoLength left mid field fault last sequence length ↦
          Goes mid _ last (sequence_on allows client.table.entries old client.timings (read_requests id) budget old (Ok tt) left mid Stays sequence) length
      | IsNotCopied left mid field error last sequence length refused ↦
          Goes mid _ last (sequence_on allows client.table.entries old client.timings (read_requests id) budget old (Ok tt) left mid Stays sequence) length
      | IsCopied left mid field next whole answer last sequence length fits copies ↦
          copies_on allows old client.address _ whole next answer last
          (Goes mid _ next (sequence_on allows client.table.entries old client.timings (read_requests id) budget old (Ok tt) left mid Stays sequence) length) copies
    ]

pub counts_on : {W : Type 0} (allows : W → Call → W → Type 0) (entries : List Entry) (budget : ℕ) (old : W) (result : Result ℕ ClientError) (left : ℕ) (last : W) →
    Counts allows entries budget old result left last → Reaches allows old last
counts_on allows entries budget old result left last counts = performs_on allows entries old GetRecordCount 0 budget old counts.answer left last Stays counts.asks

pub names_on : {W : Type 0} (allows : W → Call → W → Type 0) (entries : List Entry) (budget : ℕ) (old : W) (result : Result (Option ℕ) ClientError) (left : ℕ) (last : W) →
    Names allows entries budget old result left last → Reaches allows old last
names_on allows entries budget old result left last names = performs_on allows entries old GetRecordIdentifier 0 budget old names.answer left last Stays names.asks

-- a record of the length that was read is copied out
pub read_copied : {W : Type 0} (allows : W → Call → W → Type 0) (client : ClientState) (id : ℕ) (out : List ℕ) (budget : ℕ) (old : W) (left : ℕ) (mid : W) (field : List ℕ) (next : W) (whole : List ℕ)
    (answer : Result (Unit {0}) ClientError) (last : W) (len : ℕ) → len ≡ number_at field 0 4 →
    Sequence allows client.table.entries client.timings (read_requests id) budget old (Ok tt) left mid → LengthRead allows client mid field (Ok tt) next →
    copy_refusal len client.range (length out) ≡ None → CopiesOut allows client.address (take len out) whole next answer last →
    Reads allows client id out budget old (copied answer len) (whole ++ drop len out) left last
read_copied allows client id out budget old left mid field next whole answer last len is sequence reads fits copies =
    subst (λ (n : ℕ). Reads allows client id out budget old (copied answer n) (whole ++ drop n out) left last) (sym is)
    (IsCopied left mid field next whole answer last sequence reads
    (subst (λ (n : ℕ). copy_refusal n client.range (length out) ≡ None) is fits)
    (subst (λ (n : ℕ). CopiesOut allows client.address (take n out) whole next answer last) is copies))
