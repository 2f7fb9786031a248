use Rattle.std.proofs.Common.{◌≡◌, ◌∙◌, ℕ, ◌≤◌, List, length, drop, vec_len, sym, ap, subst, arith}
use Rattle.ghes_ack.proofs.SideLemmas.{fits_in_hand, writes_run, idles_at, fills_at, publishes_at}
use Rattle.ghes_ack.proofs.blocks.firmware.firmware_run.Goals as goal

pub fill_more-requires-clause-head : goal.fill_more-requires-clause-head
fill_more-requires-clause-head c =
    let good = fits_in_hand c.args.blocks.now c.next.new.self c.in-Some.block c.in-Some.ensures c.requires.able.fits in
    subst (λ (x : List ℕ). 20 ≤ length x) (sym c.deref.ensures.value) good.head

pub fill_more-requires-clause-fits : goal.fill_more-requires-clause-fits
fill_more-requires-clause-fits c =
    let good = fits_in_hand c.args.blocks.now c.next.new.self c.in-Some.block c.in-Some.ensures c.requires.able.fits in
    let fits : length c.deref.result.now ≤ c.args.blocks.now.map.len = subst (λ (x : List ℕ). length x ≤ c.args.blocks.now.map.len) (sym c.deref.ensures.value) good.fits in
    let same : c.next.new.self.map.len ≡ c.args.blocks.now.map.len = ap (λ at. at.len) c.in-Some.ensures.same.map in
    omega (arith, fits, same)

pub overflow_cast-blocks : goal.overflow_cast-blocks
overflow_cast-blocks c =
    let fits = (fits_in_hand c.args.blocks.now c.next.new.self c.in-Some.block c.in-Some.ensures c.requires.able.fits).fits in
    let n : length c.in-Some.block.items ≡ vec_len c.in-Some.block = ap length (sym c.deref.ensures.value) ∙ c.deref.ensures.len in
    let short = c.requires.able.short in
    let l = c.len-then-at-len.ensures in
    let d = c.div_ceil.ensures in
    let k = c.min-count.ensures in
    omega (arith, fits, n, short, l, d, k)

pub overflow_add-blocks : goal.overflow_add-blocks
overflow_add-blocks c =
    let fits = (fits_in_hand c.args.blocks.now c.next.new.self c.in-Some.block c.in-Some.ensures c.requires.able.fits).fits in
    let n : length c.in-Some.block.items ≡ vec_len c.in-Some.block = ap length (sym c.deref.ensures.value) ∙ c.deref.ensures.len in
    let short = c.requires.able.short in
    let first = c.len.ensures in
    let more = c.if-at-len.true in
    let l = c.len-then-at-len.ensures in
    let d = c.div_ceil.ensures in
    let k = c.min-count.ensures in
    omega (arith, fits, n, short, first, more, l, d, k)

pub returns-in_default-clause-runs : goal.returns-in_default-clause-runs
returns-in_default-clause-runs c =
    writes_run _ _ _ _ _ _ _ _ c.in-Writes.is (idles_at c.args.blocks.now c.next.new.self c.args.ram.now c.note.new.events (drop 1 c.args.events.now) c.in_default.ensures c.note.ensures)

pub returns-then-at-len-clause-runs : goal.returns-then-at-len-clause-runs
returns-then-at-len-clause-runs c =
    let n : length c.in-Some.block.items ≡ vec_len c.in-Some.block = ap length (sym c.deref.ensures.value) ∙ c.deref.ensures.len in
    let first = c.len.ensures in
    let more = c.if-at-len.true in
    let l = c.len-then-at-len.ensures in
    let d = c.div_ceil.ensures in
    let k = c.min-count.ensures in
    let some = c.requires.some in
    writes_run _ _ _ _ _ _ _ _ c.in-Writes.is
    (fills_at c.min-count.result c.args.blocks.now c.next.new.self c.in-Some.block c.deref.result.now c.args.ram.now c.fill_more.new.ram
    c.note-then-at-len.new.events (drop c.min-count.result c.args.events.now) c.in-Some.ensures c.deref.ensures.value
    (omega (arith, n, first, more, l, d, k, some)) (omega (arith, n, first, more, l, d, k, some)) c.fill_more.ensures c.note-then-at-len.ensures)

pub publish-wait-requires-clause-head : goal.publish-wait-requires-clause-head
publish-wait-requires-clause-head c =
    let good = fits_in_hand c.args.blocks.now c.next.new.self c.in-Some.block c.in-Some.ensures c.requires.able.fits in
    subst (λ (x : List ℕ). 20 ≤ length x) (sym c.deref-in-Writes.ensures.value) good.head

pub returns-else-at-len-clause-runs : goal.returns-else-at-len-clause-runs
returns-else-at-len-clause-runs c =
    let l = c.len.ensures in
    let n : length c.in-Some.block.items ≡ vec_len c.in-Some.block = ap length (sym c.deref-in-Writes.ensures.value) ∙ c.deref-in-Writes.ensures.len in
    let none = c.if-at-len.false in
    writes_run _ _ _ _ _ _ _ _ c.in-Writes.is
    (publishes_at c.args.blocks.now c.next.new.self c.in-Some.block c.deref-in-Writes.result.now c.args.ram.now c.publish-wait.new.ram
    c.note-in-Writes.new.events (drop 1 c.args.events.now) c.in-Some.ensures c.deref-in-Writes.ensures.value (omega (arith, n, none, l))
    c.publish-wait.ensures.memory c.publish-wait.ensures.clear c.note-in-Writes.ensures)
