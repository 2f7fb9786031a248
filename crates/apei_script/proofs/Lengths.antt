-- How long the records are that a client's calls succeed on.
use Rattle.std.proofs.Common.{◌≡◌, ℕ, ◌≤◌, List, length, take, None, Result, Ok, Err, arith}
use Rattle.std.specs.Prelude.{IfOk, OnOk}
use Rattle.std.proofs.lemmas.List.{length-take-le}
use Rattle.apei_space.specs.Calls.{Call}
use Rattle.base_model.specs.Bytes.{number_at}
use Rattle.erst_client.specs.declared.errors.ClientError.{ClientError}
use Rattle.erst_client.specs.Commands.{ClientState, Writes, IsNoRecord, IsNotPut, IsAsked, Reads, IsNotRead, HasNoLength, IsNotCopied, IsCopied, copied, copy_refusal}
use Rattle.erst_client.proofs.RefusalLemmas.{copies}
use Rattle.erst_commands.proofs.RangeLemmas.{not_refused}

-- a length is that of a record, and within the room
pub record IsRecordLength (len room : ℕ) : Type 0 where
  pub least : 128 ≤ len
  pub most : len ≤ room

admitted : (len range room : ℕ) → copy_refusal len range room ≡ None → IsRecordLength len room
admitted len range room none = let is = copies len range room none in record { least = is.least; most = is.fits }

-- a read answers the length of a record that the buffer has room for
pub read_length : {W : Type 0} (allows : W → Call → W → Type 0) (client : ClientState) (id : ℕ) (out : List ℕ) (steps : ℕ) (old : W)
    (result : Result ℕ ClientError) (after : List ℕ) (left : ℕ) (last : W)
    → Reads allows client id out steps old result after left last → IfOk result (λ size. IsRecordLength size (length out))
read_length allows client id out steps old result after left last reads =
    elim reads as (λ result after left last reads. IfOk result (λ size. IsRecordLength size (length out))) [
      | IsNotRead error left last asks ↦ tt
      | HasNoLength left mid field fault last asks length_read ↦ tt
      | IsNotCopied left mid field error last asks length_read why ↦ tt
      | IsCopied left mid field next whole answer last asks length_read none copies ↦ of answer (number_at field 0 4) (admitted (number_at field 0 4) client.range (length out) none)
    ]
  where
    of : (answer : Result (Unit {0}) ClientError) (size : ℕ) → IsRecordLength size (length out) → IfOk (copied answer size) (λ n. IsRecordLength n (length out))
    of (Ok done) size h = h
    of (Err error) size h = tt

-- bytes that were written are those of a record
pub written_length : {W : Type 0} (allows : W → Call → W → Type 0) (client : ClientState) (bytes : List ℕ) (steps : ℕ) (old : W) (result : Result (Unit {0}) ClientError) (left : ℕ) (last : W)
    → Writes allows client bytes steps old result left last → OnOk result (128 ≤ length bytes)
written_length allows client bytes steps old result left last writes =
    elim writes as (λ result left last writes. OnOk result (128 ≤ length bytes)) [
      | IsNoRecord error why ↦ tt
      | IsNotPut error last none puts ↦ tt
      | IsAsked mid result left last none puts asks ↦ of (not_refused bytes client.range none).least result
    ]
  where
    of : 128 ≤ length bytes → (result : Result (Unit {0}) ClientError) → OnOk result (128 ≤ length bytes)
    of h (Ok done) = h
    of h (Err error) = tt

-- so many bytes stand in a buffer that was the beginning of a longer one
pub within_out : (len : ℕ) (out after : List ℕ) → length after ≡ length out → IsRecordLength len (length out) → len ≤ length after
within_out len out after same is = let most = is.most in omega arith

pub fits_out : (len : ℕ) (bytes after : List ℕ) → 65536 ≤ length bytes → length after ≡ length (take 65536 bytes) →
    IsRecordLength len (length (take 65536 bytes)) → IsRecordLength (length (take len after)) 65536
fits_out len bytes after room same is =
    let whole : length (take 65536 bytes) ≡ 65536 = length-take-le 65536 bytes room in
    let least = is.least in
    let most = is.most in
    let size : length (take len after) ≡ len = length-take-le len after (omega arith) in
    record { least = omega arith; most = omega arith }

-- a read answers no more bytes than its buffer shows
pub read_within : {W : Type 0} (allows : W → Call → W → Type 0) (client : ClientState) (id : ℕ) (out : List ℕ) (steps : ℕ) (old : W)
    (result : Result ℕ ClientError) (after : List ℕ) (left : ℕ) (last : W)
    → Reads allows client id out steps old result after left last → length after ≡ length out → IfOk result (λ size. size ≤ length after)
read_within allows client id out steps old result after left last reads same = of result (read_length allows client id out steps old result after left last reads)
  where
    of : (result : Result ℕ ClientError) → IfOk result (λ size. IsRecordLength size (length out)) → IfOk result (λ size. size ≤ length after)
    of (Ok size) is = within_out size out after same is
    of (Err error) is = tt
