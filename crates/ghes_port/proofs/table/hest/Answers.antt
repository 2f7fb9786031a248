use Rattle.std.proofs.Common.{◌∙◌, ℕ, List, ◌++◌, length, sym, ap}
use Rattle.ghes_port.proofs.TableLemmas.{unsealed}
use Rattle.ghes_port.proofs.table.hest.Goals as goal

pub seal_hest-requires-clause-written : goal.seal_hest-requires-clause-written
seal_hest-requires-clause-written c =
    let bytes = c.in_ok-structures.structures.items in
    unsealed c.args.setups.now c.deref_mut.result.now c.head-head.result bytes c.len.result
    (c.deref_mut.ensures.value ∙ c.in_ok-table.ensures ∙ ap (λ (xs : List ℕ). c.head-head.result ++ xs) c.deref.ensures.value) c.head-head.ensures.bytes c.in_ok-structures.ensures.bytes
    (c.len.ensures ∙ sym c.deref.ensures.len ∙ ap (λ (xs : List ℕ). length xs) c.deref.ensures.value) c.head-head.ensures.len
