use Rattle.std.proofs.Common.{◌≡◌, ◌∙◌, ℕ, ◌≤◌, List, length, vec_len, sym, ap, subst, arith}
use Rattle.ghes_hub.proofs.PlainBlocks.{fits_in_hand, fills_hand, publishes_hand, idles_at}
use Rattle.ghes_hub.proofs.plain.firmware.fill_or_publish.Goals as goal

pub returns-in_default-clause-makes : goal.returns-in_default-clause-makes
returns-in_default-clause-makes c = idles_at c.args.blocks.now c.next.new.self c.args.ram.now c.in_default.ensures

pub fill-requires-clause-fits : goal.fill-requires-clause-fits
fill-requires-clause-fits c =
    let good = fits_in_hand c.args.blocks.now c.next.new.self c.in-Some.block c.in-Some.ensures c.requires.fits in
    let fits : length c.deref.result.now ≤ c.args.blocks.now.map.window.len = subst (λ (x : List ℕ). length x ≤ c.args.blocks.now.map.window.len) (sym c.deref.ensures.value) good.fits in
    let same : c.next.new.self.map.window.len ≡ c.args.blocks.now.map.window.len = ap (λ at. at.window.len) c.in-Some.ensures.same.map in
    omega (arith, fits, same)

pub returns-then-blocks-len-clause-makes : goal.returns-then-blocks-len-clause-makes
returns-then-blocks-len-clause-makes c =
    let n : length c.in-Some.block.items ≡ vec_len c.in-Some.block = ap length (sym c.deref.ensures.value) ∙ c.deref.ensures.len in
    let l = c.len.ensures in
    let more = c.if-blocks-len.true in
    fills_hand c.args.blocks.now c.next.new.self c.in-Some.block c.deref.result.now c.args.ram.now c.fill.new.ram c.in-Some.ensures c.deref.ensures.value (omega (arith, n, l, more)) c.fill.ensures

pub show-wait-requires-clause-head : goal.show-wait-requires-clause-head
show-wait-requires-clause-head c =
    let good = fits_in_hand c.args.blocks.now c.next.new.self c.in-Some.block c.in-Some.ensures c.requires.fits in
    subst (λ (x : List ℕ). 20 ≤ length x) (sym c.deref-2.ensures.value) good.head

pub returns-clause-makes : goal.returns-clause-makes
returns-clause-makes c =
    let n : length c.in-Some.block.items ≡ vec_len c.in-Some.block = ap length (sym c.deref-2.ensures.value) ∙ c.deref-2.ensures.len in
    let l = c.len.ensures in
    let none = c.if-blocks-len.false in
    publishes_hand c.args.blocks.now c.next.new.self c.in-Some.block c.deref-2.result.now c.args.ram.now c.show-wait.new.ram c.in-Some.ensures
    c.deref-2.ensures.value (omega (arith, n, l, none)) c.show-wait.ensures
