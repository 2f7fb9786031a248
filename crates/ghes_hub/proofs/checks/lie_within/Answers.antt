use Rattle.std.proofs.Common.{◌≡◌, ◌∙◌, ℕ, ◌*◌, ◌%◌, ◌^◌, nat_lt, ◌&&◌, Bool, true, sym, ap, arith}
use Rattle.std.proofs.lemmas.Bool.Decides.{nat_tests}
use Rattle.apei_tables.specs.Access.{bits}
use Rattle.ghes_hub.proofs.PlanLemmas.{shifted, one_shifted}
use Rattle.ghes_hub.proofs.checks.lie_within.Goals as goal

pub returns-then-mask-gt0 : goal.returns-then-mask-gt0
returns-then-mask-gt0 c =
    let write = c.args.mask in
    let some : nat_lt 0 write ≡ true = (let h = c.if-mask-gt0.true in grind (arith, nat_tests)) in
    let left = shifted write c.from.result c.args.offset c.from-then-mask-gt0.result c.from.ensures c.from-then-mask-gt0.ensures c.requires c.ranges.mask.fits in
    let right = one_shifted c.args.access c.bytes.result c.bytes.ensures in
    ap (λ (x : ℕ). nat_lt x (1 * 2 ^ (8 * c.bytes.result) % 2 ^ 128)) left ∙ ap (λ (x : ℕ). nat_lt (write * 2 ^ c.args.offset) x) right
    ∙ sym (ap (λ (b : Bool). b && nat_lt (write * 2 ^ c.args.offset) (2 ^ bits c.args.access)) some)
