use Rattle.std.proofs.Common.{ℕ, ◌+◌, ◌∷◌, drop, get_or, subst, sym}
use Rattle.erst_entries.proofs.Listing.{IsLeft, is_left-next, is_left-other, is_left-passed, is_left-here, is_left-end, same_test, other_test}
use Rattle.erst_entries.proofs.programs.nth.Goals as goal
use Rattle.erst_entries.proofs.programs.nth.Goals.{then-entry-action+else-left-eq0, else-entry-action}

pub returns-then-left-eq0 : goal.returns-then-left-eq0
returns-then-left-eq0 c =
    let next = is_left-next c.args.action c.args.entries.now c.loop-entry.entry-index c.loop-entry.left c.args.entries.now c.args.index
    (record {
      action = 0;
      code = 0;
      flags = 0;
      spare = 0;
      region = record { space = 0; width = 0; offset = 0; access = 0; address = 0 };
      value = 0;
      mask =
          0;
    }) c.loop-entry-test.true c.loop-entry.invariant in
    let none = subst (λ (k : ℕ). IsLeft c.args.action (get_or c.args.entries.now c.loop-entry.entry-index
    (record {
      action = 0;
      code = 0;
      flags = 0;
      spare = 0;
      region = record { space = 0; width = 0; offset = 0; access = 0; address = 0 };
      value = 0;
      mask =
          0;
    }) ∷ drop (c.loop-entry.entry-index + 1) c.args.entries.now) k c.args.entries.now c.args.index) c.if-left-eq0.true next in
    is_left-here c.args.action _ _ c.args.entries.now c.args.index (same_test _ _ c.if-entry-action.true) none

pub loop-entry-preserved : goal.loop-entry-preserved
loop-entry-preserved c =
    let next = is_left-next c.args.action c.args.entries.now c.loop-entry.entry-index c.loop-entry.left c.args.entries.now c.args.index
    (record {
      action = 0;
      code = 0;
      flags = 0;
      spare = 0;
      region = record { space = 0; width = 0; offset = 0; access = 0; address = 0 };
      value = 0;
      mask =
          0;
    }) c.loop-entry-test.true c.loop-entry.invariant in
    elim c.if-entry-action.branch [
      | then-entry-action+else-left-eq0 w ↦ is_left-passed c.args.action _ _ c.loop-entry.left c.if-entry-action.left c.args.entries.now c.args.index
          w.if-entry-action.true w.if-left-eq0.false w.left-is next
      | else-entry-action w ↦ subst (λ (k : ℕ). IsLeft c.args.action (drop (c.loop-entry.entry-index + 1) c.args.entries.now) k c.args.entries.now c.args.index)
          (sym w.left-is) (is_left-other c.args.action _ _ c.loop-entry.left c.args.entries.now c.args.index (other_test _ _ w.if-entry-action.false) next)
    ]

pub unreachable-requires : goal.unreachable-requires
unreachable-requires c = is_left-end c.args.action c.args.entries.now c.loop-entry.entry-index c.loop-entry.left c.args.entries.now c.args.index c.loop-entry-test.false c.loop-entry.invariant
