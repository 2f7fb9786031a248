-- What the write of a record makes of the records.
use Rattle.std.proofs.Common.{◌≡◌, ◌≢◌, inl, inr, ◌⊎◌, ◌∙◌, ℕ, ◌^◌, ◌<◌, nat_eq, cond, Bool, true, false, List, [], ◌∷◌, Option, Some, None, Result, Ok, refl, sym, ap, subst, arith}
use Rattle.std.specs.Prelude.{is_none, if◌then◌else◌}
use Rattle.std.specs.Option.{option_map}
use Rattle.std.specs.Ordering.{nat_cmp, eq_by_cmp}
use Rattle.std.specs.FinMap.{get, insert, get-insert}
use Rattle.std.specs.Cmp.{nat_cmp_total}
use Rattle.std.proofs.lemmas.Bool.{eq-eqb, ne_eqb}
use Rattle.std.proofs.lemmas.Bool.Decides.{nat_tests}
use Rattle.base_model.specs.Layout.{Layout}
use Rattle.base_model.specs.Bytes.{put_at}
use Rattle.record_model.specs.Records.{Stored as Records}
use Rattle.record_model.specs.RecordMap.{Write, refusal_of, made_by, after, next_generation}
use Rattle.record_model.proofs.MapLemmas.{after-done}
use Rattle.erst_client.specs.declared.errors.ClientError.{ClientError}
use Rattle.erst_client.specs.Commands.{write_refusal}
use Rattle.erst_client.specs.Sequences.{write_requests}
use Rattle.erst_machine.specs.MachineState.{MachineState, reach_in, records_of}
use Rattle.erst_commands.specs.Changes.{ChangeCommand, IsTaken, IsRefused, IsFailed, IsStopped}
use Rattle.erst_commands.specs.Writes.{WriteAnswered, IsNoRecord, IsWritten, marked, id_of}
use Rattle.erst_commands.specs.OwnPrograms.{with_range}
use Rattle.erst_bridge.specs.BridgedRecord.{bridged}
use Rattle.erst_bridge.proofs.RecordLemmas.{name}
use Rattle.erst_bridge.specs.Shown.{IsStoredAs}
use Rattle.erst_bridge.specs.Prefixes.{bytes_in, with_blocks}
use Rattle.erst_bridge.proofs.Terms.{after_write, stored_record}

-- what one record more makes of what an identifier has
get_put : (stored : Records) (n : ℕ) (record_now : List ℕ × ℕ) (q : ℕ) → get (insert stored n record_now) q ≡ (if nat_eq q n then Some record_now else get stored q)
get_put stored n record_now q = get-insert nat_cmp_total stored n record_now q ∙ ap (λ (b : Bool). cond b (Some record_now) (get stored q)) (by_numbers q n)
  where
    by_numbers : (x y : ℕ) → eq_by_cmp nat_cmp x y ≡ nat_eq x y
    by_numbers x y = grind (arith, nat_tests)

-- a write of another identifier leaves a record
pub stored_after : (layout : Layout) (n : ℕ) (bytes : List ℕ) (stored : Records) (id : ℕ) (there : List ℕ) → id ≢ n → IsStoredAs id there stored →
    IsStoredAs id there (after layout (Write n bytes) stored)
unfolding after made_by
stored_after layout n bytes stored id there other is = by_test (is_none (refusal_of layout (Write n bytes) stored))
  where
    by_test : (b : Bool) → IsStoredAs id there (if b then insert stored n (bytes, next_generation (get stored n)) else stored)
    by_test true =
        (is.0, get_put stored n (bytes, next_generation (get stored n)) id ∙ ap (λ (b : Bool). if b then Some (bytes, next_generation (get stored n)) else get stored id) (ne_eqb id n other) ∙ is.1)
    by_test false = is

pub other_stays : (old : MachineState) (block : List ℕ) (n id : ℕ) (there : List ℕ) → n < 2 ^ 64 → id ≢ n → IsStoredAs id there (records_of old) →
    IsStoredAs id there (after_write old (bridged block n))
other_stays old block n id there fits apart is = by_test (is_none (write_refusal (bridged block n) (reach_in old.device)))
  where
    other : id ≢ id_of (bridged block n)
    other = λ e. apart (e ∙ name block n fits)

    by_test : (b : Bool) → IsStoredAs id there (if b then after old.device.store.layout (Write (id_of (bridged block n)) (marked (bridged block n))) (records_of old) else records_of old)
    by_test true = stored_after old.device.store.layout (id_of (bridged block n)) (marked (bridged block n)) (records_of old) id there other is
    by_test false = is

-- a write that the map takes
taken_write : (P : Records → Type 0) (id : ℕ) (bytes : List ℕ) (layout : Layout) (before now : Records) → refusal_of layout (Write id bytes) before ≡ None → now ≡ after layout (Write id bytes) before
    → P (insert before id (bytes, next_generation (get before id))) → P now
unfolding made_by
taken_write P id bytes layout before now taken is there = subst P (sym (is ∙ after-done layout (Write id bytes) before taken)) there

command_put : (P : Records → Type 0) (bytes : List ℕ) (old : MachineState) (result : Result (Unit {0}) ClientError) (left : ℕ) (last : MachineState) (budget : ℕ)
    → ChangeCommand (with_range (put_at old.memory.range 0 (marked bytes)) old) last (id_of bytes) (Write (id_of bytes) (marked bytes)) write_requests budget result left → result ≡ Ok tt
    → P (insert (records_of old) (id_of bytes) (marked bytes, next_generation (get (records_of old) (id_of bytes)))) → P (records_of last)
command_put P bytes old result left last budget made =
    elim made as (λ result left made. result ≡ Ok tt → P (insert (records_of old) (id_of bytes) (marked bytes, next_generation (get (records_of old) (id_of bytes)))) → P (records_of last)) [
      | IsTaken pauses left taken now made spent ↦ λ ok. taken_write P (id_of bytes) (marked bytes) old.device.store.layout (records_of old) (records_of last) taken now
      | IsRefused refusal error left refused is now made spent ↦ λ ok. absurd (cc ok)
      | IsFailed pauses left usable rose either leaves few spent ↦ λ ok. absurd (cc ok)
      | IsStopped pauses leaves few short ↦ λ ok. absurd (cc ok)
    ]

-- a write that was answered Ok put the record
answer_put : (P : Records → Type 0) (bytes : List ℕ) (budget : ℕ) (old : MachineState) (result : Result (Unit {0}) ClientError) (left : ℕ) (new : MachineState)
    → WriteAnswered bytes budget old result left new → result ≡ Ok tt
    → P (insert (records_of old) (id_of bytes) (marked bytes, next_generation (get (records_of old) (id_of bytes)))) → P (records_of new)
answer_put P bytes budget old result left new answered =
    elim answered as (λ result left new answered. result ≡ Ok tt →
    P (insert (records_of old) (id_of bytes) (marked bytes, next_generation (get (records_of old) (id_of bytes)))) → P (records_of new)) [
      | IsNoRecord error refused ↦ λ ok. absurd (cc ok)
      | IsWritten result left last fits made ↦ λ ok. command_put P bytes old result left last budget made ok
    ]

pub answer_stores : (block : List ℕ) (n budget : ℕ) (old : MachineState) (left : ℕ) (new : MachineState) → n < 2 ^ 64 → WriteAnswered (bridged block n) budget old (Ok tt) left new
    → IsStoredAs n (stored_record block n) (records_of new)
answer_stores block n budget old left new fits answered =
    let bytes = marked (bridged block n) in
    let k = id_of (bridged block n) in
    let put : IsStoredAs k bytes (insert (records_of old) k (bytes, next_generation (get (records_of old) k))) = (
      next_generation (get (records_of old) k),
      get_put (records_of old) k (bytes, next_generation (get (records_of old) k)) k
          ∙ ap (λ (b : Bool). if b then Some (bytes, next_generation (get (records_of old) k)) else get (records_of old) k) (eq-eqb k k refl),
    ) in
    subst (λ (q : ℕ). IsStoredAs q bytes (records_of new)) (name block n fits) (answer_put (IsStoredAs k bytes) (bridged block n) budget old (Ok tt) left new answered refl put)

-- what each identifier has
abbrev pub Contents : Type 0
Contents = ℕ → Option (List ℕ)

-- with the record of one block more
abbrev pub with_block : ℕ → List ℕ → Contents → Contents
with_block id block contents = with_blocks id (block ∷ []) contents

-- records whose bytes are some contents
abbrev pub HasBytes : Contents → Records → Type 0
HasBytes contents stored = (q : ℕ) → bytes_in stored q ≡ contents q

put_bytes : (stored : Records) (n : ℕ) (record_now : List ℕ × ℕ) (q : ℕ) → bytes_in (insert stored n record_now) q ≡ (if nat_eq q n then Some record_now.0 else bytes_in stored q)
put_bytes stored n record_now q = ap (option_map (λ (held : List ℕ × ℕ). held.0)) (get_put stored n record_now q) ∙ choice (nat_eq q n)
  where
    choice : (b : Bool) → option_map (λ (held : List ℕ × ℕ). held.0) (if b then Some record_now else get stored q) ≡ (if b then Some record_now.0 else bytes_in stored q)
    choice true = refl
    choice false = refl

pub answer_bytes : (block : List ℕ) (n budget : ℕ) (old : MachineState) (left : ℕ) (new : MachineState) → n < 2 ^ 64 → WriteAnswered (bridged block n) budget old (Ok tt) left new
    → HasBytes (with_block n block (bytes_in (records_of old))) (records_of new)
answer_bytes block n budget old left new fits answered = λ q.
    answer_put (HasBytes (λ q. if nat_eq q (id_of (bridged block n)) then Some (stored_record block n) else bytes_in (records_of old) q)) (bridged block n) budget old (Ok tt) left new answered refl
    (λ q. put_bytes (records_of old) (id_of (bridged block n)) (marked (bridged block n), next_generation (get (records_of old) (id_of (bridged block n)))) q) q
    ∙ ap (λ (k : ℕ). if nat_eq q k then Some (stored_record block n) else bytes_in (records_of old) q) (name block n fits)

-- a write leaves the records, or puts the record
after_either : (layout : Layout) (n : ℕ) (bytes : List ℕ) (stored : Records)
    → HasBytes (bytes_in stored) (after layout (Write n bytes) stored) ⊎ HasBytes (λ q. if nat_eq q n then Some bytes else bytes_in stored q) (after layout (Write n bytes) stored)
unfolding after made_by
after_either layout n bytes stored = by_test (is_none (refusal_of layout (Write n bytes) stored))
  where
    put : Records
    put = insert stored n (bytes, next_generation (get stored n))

    by_test : (b : Bool) → HasBytes (bytes_in stored) (if b then put else stored) ⊎ HasBytes (λ q. if nat_eq q n then Some bytes else bytes_in stored q) (if b then put else stored)
    by_test true = inr (λ q. put_bytes stored n (bytes, next_generation (get stored n)) q)
    by_test false = inl (λ q. refl)

pub write_either : (old : MachineState) (block : List ℕ) (n : ℕ) → n < 2 ^ 64
    → HasBytes (bytes_in (records_of old)) (after_write old (bridged block n)) ⊎ HasBytes (with_block n block (bytes_in (records_of old))) (after_write old (bridged block n))
write_either old block n fits = by_test (is_none (write_refusal (bridged block n) (reach_in old.device)))
  where
    made : Records
    made = after old.device.store.layout (Write (id_of (bridged block n)) (marked (bridged block n))) (records_of old)

    by_test : (b : Bool) → HasBytes (bytes_in (records_of old)) (if b then made else records_of old) ⊎ HasBytes (with_block n block (bytes_in (records_of old))) (if b then made else records_of old)
    by_test true = elim (after_either old.device.store.layout (id_of (bridged block n)) (marked (bridged block n)) (records_of old)) [
      | inl same ↦ inl same
      | inr put ↦ inr (λ q. put q ∙ ap (λ (k : ℕ). if nat_eq q k then Some (stored_record block n) else bytes_in (records_of old) q) (name block n fits))
    ]
    by_test false = inl (λ q. refl)
