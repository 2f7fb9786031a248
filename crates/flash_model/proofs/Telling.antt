-- Ranges of slices are parts.
use Rattle.std.proofs.Common.{◌≡◌, ℕ, ◌+◌, ◌-◌, List, length, take, drop, refl, arith, append_assoc}
use Rattle.std.proofs.lemmas.List.{drop-drop}
use borrow.Rule.Slice.PartMut.{put_mid}
use Rattle.base_model.specs.Bytes.{part, put_at}

-- a range of a slice is a part
pub part-range : (image now : List ℕ) (at len n : ℕ) → now ≡ image → len ≡ n → take (at + len - at) (drop at now) ≡ part image at n
unfolding part
part-range image now at len n same size = let e : at + len - at ≡ n = omega arith in rw (same, e) refl

-- a write to a range of a slice puts bytes there
pub put_mid-put_at : (image now others : List ℕ) (at n : ℕ) → now ≡ others → length others ≡ n → put_mid at (at + n - at) image now ≡ put_at image at others
unfolding put_at
put_mid-put_at image now others at n same size =
    let e : at + n - at ≡ length others = omega (arith, size) in
    rw (same, e, drop-drop, append_assoc) refl
