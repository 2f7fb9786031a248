use Rattle.std.proofs.Common.{◌≡◌, ℕ, sym, ap, subst, ◌∙◌}
use Rattle.record_model.specs.Records.{is_reserved}
use Rattle.record_store.specs.Store.{stored}
use Rattle.record_store.proofs.StoredLemmas.{reserved_absent}
use Rattle.erst_device.specs.Starts.{HasLength, named}
use Rattle.erst_device.proofs.starting.find_record.Goals as goal

pub returns-in_err-id-clause-finds : goal.returns-in_err-id-clause-finds
returns-in_err-id-clause-finds g c =
    let s = c.args.store.now in
    rw c.from_residual.ensures (λ told. reserved_absent s.layout (named c.args.id c.args.least) s.flash.told.image c.in_err-id.ensures)

pub returns-in-Ok-clause-finds : goal.returns-in-Ok-clause-finds
returns-in-Ok-clause-finds g c =
    let same : c.in_ok-id.id ≡ named c.args.id c.args.least = c.in_ok-id.ensures in (
      c.get.ensures.value ∙ same,
      ap is_reserved (sym (c.get.ensures.value ∙ same)) ∙ c.get.ensures.allowed,
      λ told. subst (λ (n : ℕ). HasLength (stored c.args.store.now) n c.in-Ok.size) same
          (let held = c.in-Ok.ensures.answer told in record { body = held.0; generation = held.1.0; here = held.1.1; size_is = held.2 }),
    )
