-- Masks moved up within 128 bits, layouts one after another, and what it says that no window clashes.
use Rattle.std.proofs.Common.{◌≡◌, ◌∙◌, List, [], ◌∷◌, ◌++◌, append_assoc, ℕ, ◌+◌, ◌*◌, ◌%◌, ◌^◌, ◌<◌, refl, sym, ap, arith}
use Rattle.std.proofs.lemmas.Nat.{pow-add, pow_pos, mul-add-lt}
use Rattle.std.proofs.Math.Pow.{pow-lt}
use Rattle.std.proofs.Math.Nat.{mod-eq_of_lt}
use Rattle.std.proofs.lemmas.List.{append-nil}
use Rattle.apei_space.specs.declared.windows.Window.{Window}
use Rattle.ghes_hub.specs.declared.layouts.Layout.{Layout}
use Rattle.ghes_hub.specs.Layouts.{layout_windows}
use Rattle.ghes_hub.specs.Refusals.{all_windows}
use Rattle.apei_tables.specs.declared.widths.Width.{Width}
use Rattle.apei_tables.specs.declared.widths.Width.TheVariants.{B8, B16, B32, B64}
use Rattle.apei_tables.specs.Access.{bits}

pub shifted : (write x offset y : ℕ) → x ≡ write → y ≡ offset → offset < 64 → write < 2 ^ 64 → x * 2 ^ y % 2 ^ 128 ≡ write * 2 ^ offset
shifted write x offset y is_x is_y low small =
    let some = pow_pos offset in
    let a : write * 2 ^ offset + 0 < 2 ^ offset * 2 ^ 64 = mul-add-lt write (2 ^ offset) 0 (2 ^ 64) small some in
    let b : 2 ^ (offset + 64) ≡ 2 ^ offset * 2 ^ 64 = pow-add 2 offset 64 in
    let c : 2 ^ (offset + 64) < 2 ^ 128 =
    (let e : offset + 64 < 128 = omega (arith, low) in pow-lt e) in
    ap (λ (k : ℕ). k * 2 ^ y % 2 ^ 128) is_x ∙ ap (λ (k : ℕ). write * 2 ^ k % 2 ^ 128) is_y ∙ mod-eq_of_lt (omega (arith, a, b, c))

pub one_shifted : (w : Width) (bytes : ℕ) → 8 * bytes ≡ bits w → 1 * 2 ^ (8 * bytes) % 2 ^ 128 ≡ 2 ^ bits w
one_shifted w bytes e = ap (λ (k : ℕ). 1 * 2 ^ k % 2 ^ 128) e ∙ go w where
  go : (w : Width) → 1 * 2 ^ bits w % 2 ^ 128 ≡ 2 ^ bits w
  go B8 = refl
  go B16 = refl
  go B32 = refl
  go B64 = refl

pub windows_push : (xs : List Layout) (layout : Layout) → all_windows (xs ++ layout ∷ []) ≡ all_windows xs ++ layout_windows layout
windows_push [] layout = append-nil (layout_windows layout)
windows_push (x ∷ xs) layout = ap (λ (ws : List Window). layout_windows x ++ ws) (windows_push xs layout) ∙ sym (append_assoc (layout_windows x) (all_windows xs) (layout_windows layout))
