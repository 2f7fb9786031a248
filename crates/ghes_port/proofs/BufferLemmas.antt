-- The block in a buffer.
use Rattle.std.proofs.Common.{◌≡◌, ℕ, zero, suc, ◌<◌, List, [], ◌∷◌, length, get_or, map, All, sym, subst, arith}
use Rattle.std.specs.Prelude.{Vec}
use Rattle.std.specs.declared.alloc.Global.{Global}
use Rattle.ghes_port.specs.Machine.{IsGood}

pub good_at : (len : ℕ) (buffers : List (Vec ℕ Global)) (i : ℕ) (buffer : Vec ℕ Global) → All (IsGood len) (map (λ b. b.items) buffers) → i < length buffers
    → buffer ≡ get_or buffers i buffer → IsGood len buffer.items
good_at len [] i buffer good within is = absurd (omega (arith, within))
good_at len (one ∷ rest) zero buffer good within is = subst (λ (b : Vec ℕ Global). IsGood len b.items) (sym is) (good 0 one.items (omega (arith)))
good_at len (one ∷ rest) (suc i) buffer good within is =
    good_at len rest i buffer (λ k d inside. good (suc k) d (omega (arith, inside))) (omega (arith, within)) is
