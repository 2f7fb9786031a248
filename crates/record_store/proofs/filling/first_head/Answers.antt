use Rattle.std.proofs.Common.{◌≡◌, length, sym, [], ◌∷◌, ◌∙◌, arith, cond, get_or}
use Rattle.std.specs.Prelude.{nat_lt}
use Rattle.record_store.proofs.Here.{names_first}
use Rattle.record_model.specs.Records.{gate_closed, not_killed}
use Rattle.record_store.proofs.filling.first_head.Goals as goal

pub returns : goal.returns
returns c =
    let slots = c.args.draft.now.slots in
    let long : length slots ≡ 4 = omega arith in
    let parts = c.args.draft.now.parts in
    let next : (c.named_at.result ∷ c.named_at-2.result ∷ c.named_at-3.result ∷ [])
    ≡ (cond (nat_lt 1 parts) (get_or slots 1 0) 0xFFFF ∷ cond (nat_lt 2 parts) (get_or slots 2 0) 0xFFFF ∷ cond (nat_lt 3 parts) (get_or slots 3 0) 0xFFFF ∷ []) =
    λ i. c.named_at.ensures i ∷ c.named_at-2.ensures i ∷ c.named_at-3.ensures i ∷ [] in
    let named_is = next ∙ names_first slots parts long c.requires.some c.requires.few in
    λ i. record {
      gate = gate_closed;
      kill = not_killed;
      format = 2;
      generation = c.args.draft.now.generation;
      id = c.get.ensures.value i;
      len = sym c.requires.len i;
      next = named_is i;
    }
