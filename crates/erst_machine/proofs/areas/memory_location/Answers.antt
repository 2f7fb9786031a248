use Rattle.std.proofs.Common.{◌<◌, sym, ◌∙◌, arith}
use Rattle.erst_machine.proofs.PlaceLemmas.{around_scratch, around_range, around_device, around_handover, around_errors}
use Rattle.erst_machine.proofs.areas.memory_location.Goals as goal

pub returns-then-at-lt-LOG_RANGE-clause-value : goal.returns-then-at-lt-LOG_RANGE-clause-value
returns-then-at-lt-LOG_RANGE-clause-value c =
    let some : 0 < c.args.n = omega (arith, c.if-n-eq0.false) in
    c.location_alone.ensures.value ∙ sym (around_scratch c.args.at c.args.reach c.args.n c.if-at-lt-LOG_RANGE.true c.requires.reach some)

pub returns-then-at-lt-ACTION-clause-value : goal.returns-then-at-lt-ACTION-clause-value
returns-then-at-lt-ACTION-clause-value c =
    let some : 0 < c.args.n = omega (arith, c.if-n-eq0.false) in
    c.location_alone-then-at-lt-ACTION.ensures.value ∙ sym (around_range c.args.at c.args.reach c.args.n c.if-at-lt-LOG_RANGE.false c.if-at-lt-ACTION.true c.requires.reach some)

pub returns-then-at-lt-STATUS-clause-value : goal.returns-then-at-lt-STATUS-clause-value
returns-then-at-lt-STATUS-clause-value c =
    let some : 0 < c.args.n = omega (arith, c.if-n-eq0.false) in
    c.location_alone-then-at-lt-STATUS.ensures.value ∙ sym (around_device c.args.at c.args.reach c.args.n c.if-at-lt-ACTION.false c.if-at-lt-STATUS.true c.requires.reach some)

pub returns-then-at-lt-BOOT_ERRORS-clause-value : goal.returns-then-at-lt-BOOT_ERRORS-clause-value
returns-then-at-lt-BOOT_ERRORS-clause-value c =
    let some : 0 < c.args.n = omega (arith, c.if-n-eq0.false) in
    c.location_alone-then-at-lt-BOOT_ERRORS.ensures.value ∙ sym (around_handover c.args.at c.args.reach c.args.n c.if-at-lt-STATUS.false c.if-at-lt-BOOT_ERRORS.true c.requires.reach some)

pub returns-else-at-lt-BOOT_ERRORS-clause-value : goal.returns-else-at-lt-BOOT_ERRORS-clause-value
returns-else-at-lt-BOOT_ERRORS-clause-value c =
    let some : 0 < c.args.n = omega (arith, c.if-n-eq0.false) in
    c.location_alone-else-at-lt-BOOT_ERRORS.ensures.value ∙ sym (around_errors c.args.at c.args.reach c.args.n c.if-at-lt-BOOT_ERRORS.false c.requires.reach some)
