-- The bytes of a medium behind its first ones.
use Rattle.std.proofs.Common.{◌≡◌, ◌∙◌, ℕ, ◌+◌, ◌-◌, ◌≤◌, List, length, take, drop, sym, ap, arith}
use Rattle.std.proofs.lemmas.List.{length-drop, drop-drop, drop-take, take-take}
use Rattle.base_model.specs.Bytes.{SameOutside, part, put_at}
use Rattle.base_model.proofs.BytesLemmas.{SameOutside-put_at, part-put_at, is_put_at}

-- what differs there in a range alone
pub same_behind : (origin place n : ℕ) (old new : List ℕ) → SameOutside (origin + place) n old new → SameOutside place n (drop origin old) (drop origin new)
same_behind origin place n old new same =
    let far : origin + (place + n) ≡ origin + place + n = omega arith in
    record {
      same_length = length-drop origin new ∙ ap (λ (size : ℕ). size - origin) same.same_length ∙ sym (length-drop origin old);
      before = sym (drop-take origin place new) ∙ ap (drop origin) same.before ∙ drop-take origin place old;
      after = drop-drop (place + n) origin new ∙ ap (λ (k : ℕ). drop k new) far ∙ same.after ∙ ap (λ (k : ℕ). drop k old) (sym far) ∙ sym (drop-drop (place + n) origin old);
    }

-- leaves the first bytes
pub same_front : (origin place n : ℕ) (old new : List ℕ) → SameOutside (origin + place) n old new → take origin new ≡ take origin old
same_front origin place n old new same =
    sym (take-take origin (origin + place) new (omega arith)) ∙ ap (take origin) same.before ∙ take-take origin (origin + place) old (omega arith)

-- bytes that are put there
part_behind : (origin place n : ℕ) (bytes : List ℕ) → part (drop origin bytes) place n ≡ part bytes (origin + place) n
unfolding part
part_behind origin place n bytes = ap (take n) (drop-drop place origin bytes)

pub put_behind : (origin place : ℕ) (medium bytes : List ℕ) → origin + place + length bytes ≤ length medium
    → drop origin (put_at medium (origin + place) bytes) ≡ put_at (drop origin medium) place bytes
put_behind origin place medium bytes within =
    is_put_at (drop origin medium) (drop origin (put_at medium (origin + place) bytes)) place bytes
    (same_behind origin place (length bytes) medium (put_at medium (origin + place) bytes) (SameOutside-put_at medium (origin + place) bytes within))
    (part_behind origin place (length bytes) (put_at medium (origin + place) bytes) ∙ part-put_at medium (origin + place) bytes within)
