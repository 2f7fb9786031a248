use Rattle.std.proofs.Common.{◌≡◌, ◌<◌, ◌^◌, Some, None, arith, length, ℕ, subst}
use Rattle.base_model.proofs.BytesLemmas.{AreBytes-each}
use Rattle.erst_entries.specs.Tables.{AreRead, refusal}
use Rattle.erst_entries.proofs.Finding.{not_refused, is_erst, fits_erst, only, size_within, size_small}
use Rattle.erst_entries.proofs.tables.ErstTable.decode.Goals as goal

pub returns-in-Err-clause-only : goal.returns-in-Err-clause-only
returns-in-Err-clause-only c = λ erst table rest same fits is.
    let none : refusal c.args.bytes.now ≡ None = not_refused erst c.args.bytes.now table rest same fits is in
    let some : refusal c.args.bytes.now ≡ Some c.in-Err.error = c.in-Err.ensures.refused in
    absurd cc

pub invariant_of-erst : goal.invariant_of-erst
invariant_of-erst c =
    let found = c.in-Ok.ensures.found in
    let read = c.in-Ok-read_entries.ensures in
    let count = c.get_u32-count.ensures in
    let each = AreBytes-each c.args.bytes.now (λ k. omega (arith, c.type_inv.bytes k)) in
    let size : length c.in-Ok.found.1.now < 2 ^ 32 = size_small c.args.bytes.now c.in-Ok.found.0 c.in-Ok.found.1.now each found in
    (omega (arith, found.counted, read.many, count), rw c.deref.ensures.value at c.in-Ok-by_action.ensures)

pub returns-clause-found : goal.returns-clause-found
returns-clause-found c =
    let each = AreBytes-each c.args.bytes.now (λ k. omega (arith, c.type_inv.bytes k)) in
    let found = c.in-Ok.ensures.found in
    let are = subst (λ (n : ℕ). AreRead c.in-Ok.found.1.now n c.in-Ok-read_entries.entries.items) c.get_u32-count.ensures c.in-Ok-read_entries.ensures in
    let e = is_erst c.args.bytes.now c.in-Ok.found.0 c.in-Ok.found.1.now c.in-Ok-read_entries.entries.items each found are in
    let f = fits_erst c.args.bytes.now c.in-Ok.found.0 c.in-Ok.found.1.now c.in-Ok-read_entries.entries.items each found are in
    rw (c.get_u32.ensures, c.get_u32-2.ensures, c.get_u32-count.ensures) (rw (← found.finds.prefix) e, f, size_within c.args.bytes.now c.in-Ok.found.0 c.in-Ok.found.1.now found)

pub returns-clause-only : goal.returns-clause-only
returns-clause-only c = λ erst table rest same fits is.
    let each = AreBytes-each c.args.bytes.now (λ k. omega (arith, c.type_inv.bytes k)) in
    let found = c.in-Ok.ensures.found in
    let are = subst (λ (n : ℕ). AreRead c.in-Ok.found.1.now n c.in-Ok-read_entries.entries.items) c.get_u32-count.ensures c.in-Ok-read_entries.ensures in
    let o = only c.args.bytes.now c.in-Ok.found.0 c.in-Ok.found.1.now c.in-Ok-read_entries.entries.items each found are erst table rest same fits is in
    rw (c.get_u32.ensures, c.get_u32-2.ensures, c.get_u32-count.ensures) o
