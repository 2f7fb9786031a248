use Rattle.std.proofs.Common.{arith}
use Rattle.ghes_port.proofs.TableLemmas.{structures_next, fit_next}
use Rattle.ghes_port.proofs.table.structures.Goals as goal

pub loop-setup-preserved : goal.loop-setup-preserved
loop-setup-preserved c =
    let inv = c.loop-setup.invariant in
    let pushed = c.in_ok-push_structure.ensures.pushed in
    let fits = c.in_ok-push_structure.ensures.fits in
    let longer = c.in_ok-push_structure.ensures.len in
    let so_far = inv.len in
    record {
      bytes = structures_next c.args.setups.now c.loop-setup.setup-index _ c.loop-setup.bytes.items _ c.loop-setup-test.true inv.bytes pushed;
      fit = fit_next c.args.setups.now c.loop-setup.setup-index _ c.loop-setup-test.true inv.fit fits;
      len = omega (arith, longer, so_far);
    }
