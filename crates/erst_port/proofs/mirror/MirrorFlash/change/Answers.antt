use Rattle.std.proofs.Common.{◌∙◌, ℕ, List, length, refl, ap}
use Rattle.base_model.specs.Bytes.{part}
use Rattle.erst_port.specs.Contents.{bytes_of}
use Rattle.erst_port.proofs.Dues.{last_now, change_of}
use Rattle.erst_port.proofs.Logs.{entries_after, filled_after}
use Rattle.erst_port.proofs.Made.{may_be_put, found_is, past_is, enters}
use Rattle.erst_port.proofs.mirror.MirrorFlash.change.Goals as goal

pub invariant_of-self-2-clause-log_told : goal.invariant_of-self-2-clause-log_told
invariant_of-self-2-clause-log_told c =
    let old = c.args.self.now in
    let range = c.range-range.result in
    let bytes = bytes_of c.args.content in
    let found = found_is old.image.items c.put.new.image.items c.bytes_at.result.now c.args.at range.len bytes c.requires.within c.put.ensures.bytes c.range-range.ensures.len
    (c.bytes_at.ensures ∙ ap (λ (image : List ℕ). part image c.args.at range.len) c.deref-2.ensures.value) in
    let entered = enters old.log c.enter.new.self range old.steps (length old.past.changes) c.bytes_at.result.now bytes old.counted found c.enter.ensures.entered in
    let past = past_is old.past.changes c.then-past.result.changes c.deref.result.now old.image.items c.args.at range.len bytes c.then-past.ensures c.deref.ensures.value c.range-range.ensures.len in
    rw past
    (entries_after old.sector old.past.changes old.image.items range c.args.at bytes c.put.new.image.items old.log c.enter.new.self c.requires.within c.put.ensures.bytes
    c.range-range.ensures.at c.range-range.ensures.len (may_be_put old.sector old.image.items c.args.at c.args.content range.kind c.range-range.ensures.kind c.requires.asked) entered old.log_told)

pub invariant_of-self-2-clause-log_filled : goal.invariant_of-self-2-clause-log_filled
invariant_of-self-2-clause-log_filled c =
    let old = c.args.self.now in
    let range = c.range-range.result in
    let bytes = bytes_of c.args.content in
    let found = found_is old.image.items c.put.new.image.items c.bytes_at.result.now c.args.at range.len bytes c.requires.within c.put.ensures.bytes c.range-range.ensures.len
    (c.bytes_at.ensures ∙ ap (λ (image : List ℕ). part image c.args.at range.len) c.deref-2.ensures.value) in
    let entered = enters old.log c.enter.new.self range old.steps (length old.past.changes) c.bytes_at.result.now bytes old.counted found c.enter.ensures.entered in
    let past = past_is old.past.changes c.then-past.result.changes c.deref.result.now old.image.items c.args.at range.len bytes c.then-past.ensures c.deref.ensures.value c.range-range.ensures.len in
    rw (past, c.put.ensures.size)
    (filled_after (length old.image.items) old.past.changes (change_of old.image.items c.args.at bytes) range bytes old.log c.enter.new.self old.log_room refl entered old.log_filled)

pub invariant_of-self-2-clause-last_told : goal.invariant_of-self-2-clause-last_told
invariant_of-self-2-clause-last_told c =
    let old = c.args.self.now in
    let range = c.range-range.result in
    let bytes = bytes_of c.args.content in
    let past = past_is old.past.changes c.then-past.result.changes c.deref.result.now old.image.items c.args.at range.len bytes c.then-past.ensures c.deref.ensures.value c.range-range.ensures.len in
    rw past
    (last_now old.sector old.past.changes old.image.items range c.args.at bytes c.put.new.image.items c.requires.within c.put.ensures.bytes
    (may_be_put old.sector old.image.items c.args.at c.args.content range.kind c.range-range.ensures.kind c.requires.asked) c.range-range.ensures.at c.range-range.ensures.len)
