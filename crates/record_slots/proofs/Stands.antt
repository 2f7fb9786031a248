-- What was programmed or erased stands there.
use Rattle.std.proofs.Common.{◌≡◌, ℕ, ◌+◌, ◌≤◌, List, [], ◌∷◌, Result, length, replicate, refl, sym, ap, subst, ◌∙◌, arith}
use Rattle.std.specs.Prelude.{OnOk}
use Rattle.std.proofs.lemmas.List.{length-replicate}
use Rattle.std.proofs.lemmas.Result.{on_ok_weaker}
use Rattle.base_model.specs.Bytes.{part, little, number_at, put_at, spelled}
use Rattle.base_model.proofs.BytesLemmas.{part-put_at}
use Rattle.record_slots.proofs.Heads.{three_fields}
use Rattle.base_model.specs.Flash.{IsErased}
use Rattle.record_model.specs.Records.{Head, head_fields}

-- bytes of this many stand at their place
pub stands_at : (old new : List ℕ) (place len : ℕ) (others : List ℕ) → length others ≡ len → place + len ≤ length old → new ≡ put_at old place others
    → part new place len ≡ others
stands_at old new place len others size fits is =
    ap (λ (xs : List ℕ). part xs place len) is
    ∙ subst (λ (n : ℕ). part (put_at old place others) place n ≡ others) size (part-put_at old place others (omega arith))

pub erased_at : (old new : List ℕ) (place len : ℕ) → place + len ≤ length old → new ≡ put_at old place (replicate len 0xFF) → IsErased new place len
erased_at old new place len fits is = stands_at old new place len (replicate len 0xFF) (length-replicate len 0xFF) fits is

-- a byte stands as the number that it is
pub byte_at_place : (old new : List ℕ) (place byte : ℕ) → place + 1 ≤ length old → new ≡ put_at old place (byte ∷ []) → number_at new place 1 ≡ byte
unfolding number_at
byte_at_place old new place byte fits is = ap little (stands_at old new place 1 (byte ∷ []) refl fits is) ∙ (omega arith)

-- so it does after a call that programs it, whatever its place is called
pub bytes_stand : {E tells : Type 0} (put : Result (Unit {0}) E) (old new others : List ℕ) (found place : ℕ) → found ≡ place → (tells → place + length others ≤ length old)
    → OnOk put (tells → new ≡ put_at old found others) → OnOk put (tells → part new place (length others) ≡ others)
bytes_stand put old new others found place at fits bytes =
    on_ok_weaker put (λ holds told. stands_at old new place (length others) others refl (fits told) (holds told ∙ ap (λ (k : ℕ). put_at old k others) at)) bytes

pub byte_stands : {E tells : Type 0} (put : Result (Unit {0}) E) (old new : List ℕ) (byte found place : ℕ) → found ≡ place → (tells → place + 1 ≤ length old)
    → OnOk put (tells → new ≡ put_at old found (byte ∷ [])) → OnOk put (tells → number_at new place 1 ≡ byte)
byte_stands put old new byte found place at fits bytes =
    on_ok_weaker put (λ holds told. byte_at_place old new place byte (fits told) (holds told ∙ ap (λ (k : ℕ). put_at old k (byte ∷ [])) at)) bytes

-- the fields of a head are 24 bytes
pub length-head_fields : (head : Head) → length head.next ≡ 3 → length (head_fields head) ≡ 24
unfolding head_fields spelled
length-head_fields head three =
    let is = three_fields head.next three in
    subst (λ (next : List ℕ). length (head_fields (record head { next = next })) ≡ 24) (sym is.3) (of_three head is.0 is.1 is.2)
  where
    of_three : (h : Head) (a b c : ℕ) → length (head_fields (record h { next = a ∷ b ∷ c ∷ [] })) ≡ 24
    of_three h a b c = refl
