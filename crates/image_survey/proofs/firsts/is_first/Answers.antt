use Rattle.std.proofs.Common.{◌≡◌, ◌-◌, ◌<◌, ℕ, true, false, sym, ap, ◌∙◌, arith}
use Rattle.record_model.specs.Records.{entry_of, record_of, is_behind}
use Rattle.image_survey.proofs.SlotLemmas.{first-dead, first-live, behind_more, behind_here, behind_none}
use Rattle.image_survey.proofs.firsts.is_first.Goals as goal

pub returns-then-not-lives-slot : goal.returns-then-not-lives-slot
returns-then-not-lives-slot c seen all marked =
    first-dead (c.args.geometry.now.slot_size - 64) c.args.geometry.now.slots seen c.args.slot (sym (marked c.args.slot _ c.requires.slot) ∙ c.if-not-lives-slot.true)

pub loop-at-init : goal.loop-at-init
loop-at-init c seen all marked =
    behind_none (entry_of (c.args.geometry.now.slot_size - 64) c.args.geometry.now.slots seen) (record_of (c.args.geometry.now.slot_size - 64) seen c.args.slot) c.args.slot

pub loop-at-preserved : goal.loop-at-preserved
loop-at-preserved c seen all marked =
    let room = c.args.geometry.now.slot_size - 64 in
    behind_more (entry_of room c.args.geometry.now.slots seen) c.loop-at.at c.args.slot (record_of room seen c.args.slot) (c.loop-at.invariant seen all marked) (c.if-is_ahead.ensures seen all marked)

pub returns-then-is_ahead : goal.returns-then-is_ahead
returns-then-is_ahead c seen all marked =
    let room = c.args.geometry.now.slot_size - 64 in
    let slots = c.args.geometry.now.slots in
    let low : c.loop-at.at < slots = omega arith in
    first-live room slots seen c.args.slot true (sym (marked c.args.slot _ c.requires.slot) ∙ c.if-not-lives-slot.false)
    (behind_here (entry_of room slots seen) c.loop-at.at slots c.args.slot (record_of room seen c.args.slot) low (c.if-is_ahead.ensures seen all marked))

pub returns : goal.returns
returns c seen all marked =
    let room = c.args.geometry.now.slot_size - 64 in
    let slots = c.args.geometry.now.slots in
    let end : slots ≡ c.loop-at.at = omega arith in
    first-live room slots seen c.args.slot false (sym (marked c.args.slot _ c.requires.slot) ∙ c.if-not-lives-slot.false)
    (ap (λ (n : ℕ). is_behind (entry_of room slots seen) n (record_of room seen c.args.slot) c.args.slot) end ∙ c.loop-at.invariant seen all marked)
