use Rattle.std.proofs.Common.{◌≡◌, ◌∙◌, ℕ, suc, ◌+◌, ◌-◌, ◌<◌, ◌≤◌, List, [], ◌∷◌, length, Option, sym, ap, arith}
use Rattle.base_model.proofs.BytesLemmas.{length-part, length-part-le}
use Rattle.show_findings.specs.Places.{seen_number}
use Rattle.show_items.specs.Records.{body_group, descriptor_at, descriptor_group, room_behind, section_groups}
use Rattle.show_items.proofs.BeginningLemmas.{added_and_stopped, same_begun, stops, turned_and_begun}
use Rattle.show_items.proofs.ItemLemmas.{same_groups, turned_and_more}
use Rattle.show_items.proofs.RecordLemmas.{body_seen, no_count, no_section, one_section_more, section_of}
use Rattle.show_items.proofs.SheetLemmas.{no_groups}
use Rattle.show_items.proofs.records.add_sections.Goals as goal

pub returns-in_default-clause-groups : goal.returns-in_default-clause-groups
returns-in_default-clause-groups g c =
    let bytes = c.args.bytes.now in
    let index = c.loop-index.index in
    let room = c.loop-index.room in
    let sheet = c.loop-index.sheet in
    let written : Option (List ℕ) = g.P.Pages.written c.loop-index.pages in
    let left = seen_number bytes 10 2 - index in
    let counted : index < seen_number bytes 10 2 = omega (arith, c.loop-index-test.true, c.seen_u16-index-end.ensures) in
    let none : descriptor_at index + 72 ≤ length bytes → ⊥ = λ within. c.in_default.ensures.section (record { counted = counted; within = within }) in
    c.loop-index.invariant.whole sheet written
    (same_groups [] (section_groups bytes left index room) written written sheet sheet (sym (no_section bytes left index room none)) (no_groups written sheet))

pub overflow_sub-room : goal.overflow_sub-room
overflow_sub-room g c =
    let same = ap (λ (body : List ℕ). length body) c.seen_at-body.ensures in
    omega (arith, same, length-part-le c.in-Some.section.body.now 0 c.loop-index.room)

pub add_described-requires-clause-whole : goal.add_described-requires-clause-whole
add_described-requires-clause-whole g c =
    let bytes = c.args.bytes.now in
    let same = ap (λ (descriptor : List ℕ). length descriptor) c.in-Some.ensures.section.1.head in
    omega (arith, same, length-part bytes (descriptor_at c.loop-index.index) 72 c.in-Some.ensures.section.0.within)

pub loop-index-preserved : goal.loop-index-preserved
loop-index-preserved g c =
    let bytes = c.args.bytes.now in
    let index = c.loop-index.index in
    let room = c.loop-index.room in
    let section = c.in-Some.section in
    let body = c.seen_at-body.result.now in
    let is = c.in-Some.ensures.section.1 in
    let left = seen_number bytes 10 2 - (index + 1) in
    let one : seen_number bytes 10 2 - index ≡ suc left = omega (arith, c.loop-index-test.true, c.seen_u16-index-end.ensures) in
    let seen = body_seen bytes index section.at section.descriptor.now section.body_at section.body.now body room is c.seen_at-body.ensures in
    let behind : room - length body ≡ room_behind bytes index room = ap (λ (b : List ℕ). room - length b) seen in
    let before : Option (List ℕ) = g.P.Pages.written c.loop-index.pages in
    let middle : Option (List ℕ) = g.P.Pages.written c.turn.new.pages in
    let added = c.add_described.new.sheet in
    let described = same_groups _ (descriptor_group bytes index ∷ body_group bytes index room ∷ []) _ _ c.loop-index.sheet added
    (section_of bytes index section.at section.descriptor.now section.body_at section.body.now body room is seen) c.in_ok-add_described.ensures in
    record {
      stop = c.in_ok-turn.ensures.cause ∙ c.loop-index.invariant.stop;
      whole = λ last written adds. c.loop-index.invariant.whole last written
          (same_groups _ (section_groups bytes (seen_number bytes 10 2 - index) index room) before written c.loop-index.sheet last
          (one_section_more bytes (seen_number bytes 10 2 - index) left index room (room - length body) one c.in-Some.ensures.section.0.within behind)
          (turned_and_more (descriptor_group bytes index ∷ body_group bytes index room ∷ []) (section_groups bytes left (index + 1) (room - length body))
          before middle written c.loop-index.sheet added c.turn.new.self last described c.in_ok-turn.ensures.turned adds));
      stopped = λ written begun. c.loop-index.invariant.stopped written
          (same_begun _ (section_groups bytes (seen_number bytes 10 2 - index) index room) before written c.loop-index.sheet
          (one_section_more bytes (seen_number bytes 10 2 - index) left index room (room - length body) one c.in-Some.ensures.section.0.within behind)
          (turned_and_begun (descriptor_group bytes index ∷ body_group bytes index room ∷ []) (section_groups bytes left (index + 1) (room - length body))
          before middle written c.loop-index.sheet added c.turn.new.self described c.in_ok-turn.ensures.turned begun));
    }

pub returns-in_err-turn-clause-stopped : goal.returns-in_err-turn-clause-stopped
returns-in_err-turn-clause-stopped g c =
    let bytes = c.args.bytes.now in
    let index = c.loop-index.index in
    let room = c.loop-index.room in
    let section = c.in-Some.section in
    let body = c.seen_at-body.result.now in
    let is = c.in-Some.ensures.section.1 in
    let left = seen_number bytes 10 2 - (index + 1) in
    let one : seen_number bytes 10 2 - index ≡ suc left = omega (arith, c.loop-index-test.true, c.seen_u16-index-end.ensures) in
    let seen = body_seen bytes index section.at section.descriptor.now section.body_at section.body.now body room is c.seen_at-body.ensures in
    let behind : room - length body ≡ room_behind bytes index room = ap (λ (b : List ℕ). room - length b) seen in
    let before : Option (List ℕ) = g.P.Pages.written c.loop-index.pages in
    let after : Option (List ℕ) = g.P.Pages.written c.turn.new.pages in
    let added = c.add_described.new.sheet in
    let described = same_groups _ (descriptor_group bytes index ∷ body_group bytes index room ∷ []) _ _ c.loop-index.sheet added
    (section_of bytes index section.at section.descriptor.now section.body_at section.body.now body room is seen) c.in_ok-add_described.ensures in
    stops c.from_residual-in_err-turn.result _
    (c.loop-index.invariant.stopped after
    (same_begun _ (section_groups bytes (seen_number bytes 10 2 - index) index room) before after c.loop-index.sheet
    (one_section_more bytes (seen_number bytes 10 2 - index) left index room (room - length body) one c.in-Some.ensures.section.0.within behind)
    (added_and_stopped (descriptor_group bytes index ∷ body_group bytes index room ∷ []) (section_groups bytes left (index + 1) (room - length body))
    before after c.loop-index.sheet added described c.in_err-turn.ensures.stopped)))

pub returns-clause-groups : goal.returns-clause-groups
returns-clause-groups g c =
    let bytes = c.args.bytes.now in
    let index = c.loop-index.index in
    let room = c.loop-index.room in
    let sheet = c.loop-index.sheet in
    let written : Option (List ℕ) = g.P.Pages.written c.loop-index.pages in
    let left = seen_number bytes 10 2 - index in
    let none : left ≡ 0 = omega (arith, c.loop-index-test.false, c.seen_u16-index-end.ensures) in
    c.loop-index.invariant.whole sheet written
    (same_groups [] (section_groups bytes left index room) written written sheet sheet (sym (no_count bytes left index room none)) (no_groups written sheet))
