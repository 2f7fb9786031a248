use Rattle.std.proofs.Common.{◌≡◌, ◌∙◌, ◌+◌, ◌-◌, ◌*◌, ℕ, List, sym, ap, subst, arith, take, drop, refl}
use Rattle.base_model.specs.Bytes.{part}
use Rattle.erst_entries.specs.declared.entries.Entry.{Entry}
use Rattle.erst_entries.specs.Layout.{entry_spelling}
use Rattle.erst_entries.specs.Tables.{AreRead}
use Rattle.erst_entries.proofs.TableBytes.{AreRead-none, AreRead-next}
use Rattle.erst_entries.proofs.tables.read_entries.Goals as goal

pub loop-index-init : goal.loop-index-init
loop-index-init c = subst (λ (es : List Entry). AreRead c.args.table.now 0 es) (sym c.in_ok-entries.ensures.items) (AreRead-none c.args.table.now)

pub loop-index-preserved : goal.loop-index-preserved
unfolding part
loop-index-preserved c =
    let at : ℕ = 48 + 32 * c.loop-index.index in
    let n : at + 32 - at ≡ 32 = omega arith in
    let read : part c.args.table.now at 32 ≡ entry_spelling c.read.result = ap (λ (k : ℕ). take k (drop at c.args.table.now)) (sym n) ∙ c.read.ensures.spelled in
    let next = AreRead-next c.args.table.now c.loop-index.index c.loop-index.entries.items c.read.result at c.loop-index.invariant refl read c.read.ensures.fits in
    subst (λ (es : List Entry). AreRead c.args.table.now (c.loop-index.index + 1) es) (sym c.in_ok-push.ensures.items) next
