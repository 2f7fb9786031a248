-- What stands at the front of bytes, with the others as before.
use Rattle.std.proofs.Common.{◌≡◌, ◌∙◌, ℕ, ◌+◌, List, ◌++◌, length, take, drop, sym, ap, arith}
use Rattle.std.proofs.lemmas.List.{take-append-drop}
use Rattle.base_model.specs.Bytes.{put_at}

pub put_first : (bytes before now : List ℕ) (size : ℕ) → take size now ≡ bytes → length bytes ≡ size → drop size now ≡ drop size before → now ≡ put_at before 0 bytes
unfolding put_at
put_first bytes before now size first long after =
    let place : size ≡ 0 + length bytes = omega (arith, long) in
    sym (take-append-drop size now)
    ∙ ap (λ (xs : List ℕ). xs ++ drop size now) first
    ∙ ap (λ (xs : List ℕ). bytes ++ xs) after
    ∙ ap (λ (n : ℕ). bytes ++ drop n before) place
