use Rattle.std.proofs.Common.{◌≡◌, ◌∙◌, ℕ, suc, ◌+◌, ◌-◌, ◌<◌, ◌^◌, List, [], ◌∷◌, length, Option, sym, arith}
use Rattle.show_items.specs.Blocks.{data_group, entry_body_len, entry_group, entry_groups}
use Rattle.show_items.proofs.BeginningLemmas.{added_and_stopped, same_begun, stops, turned_and_begun}
use Rattle.show_items.proofs.BlockLemmas.{data_within, end_of, entry_of, no_entry, one_entry_more, whole_head}
use Rattle.show_items.proofs.ItemLemmas.{same_groups, turned_and_more}
use Rattle.show_items.proofs.SheetLemmas.{no_groups}
use Rattle.show_items.proofs.blocks.add_entries.Goals as goal

pub add_entry-requires-clause-whole : goal.add_entry-requires-clause-whole
add_entry-requires-clause-whole g c =
    let entry = c.in-Some.ensures.entry in
    omega (arith, whole_head c.args.bytes.now c.in-Some.entry.head.now c.loop-entry.at entry.0 entry.1.head_is)

pub add_entry-requires-clause-body : goal.add_entry-requires-clause-body
add_entry-requires-clause-body g c =
    let bytes = c.args.bytes.now in
    let small : length bytes < 2 ^ 63 = omega arith in
    data_within bytes c.in-Some.entry.body.now c.in-Some.entry.body_at (entry_body_len bytes c.loop-entry.at)
    c.in-Some.ensures.entry.1.content c.in-Some.ensures.places.2 small

pub loop-entry-preserved : goal.loop-entry-preserved
loop-entry-preserved g c =
    let bytes = c.args.bytes.now in
    let index = c.loop-entry.index in
    let at = c.loop-entry.at in
    let entry = c.in-Some.entry in
    let there = c.in-Some.ensures.entry.0 in
    let is = c.in-Some.ensures.entry.1 in
    let left = length bytes - (index + 1) in
    let one : length bytes - index ≡ suc left = omega (arith, c.loop-entry.invariant.below, c.in-Some.ensures.places.1) in
    let before : Option (List ℕ) = g.P.Pages.written c.loop-entry.pages in
    let middle : Option (List ℕ) = g.P.Pages.written c.turn.new.pages in
    let added = c.add_entry.new.sheet in
    let described = same_groups _ (entry_group bytes index at ∷ data_group bytes index at ∷ []) _ _ c.loop-entry.sheet added
    (entry_of bytes index at entry.head.now entry.body_at entry.body.now entry.next is) c.in_ok-add_entry.ensures in
    record {
      below = omega (arith, c.loop-entry.invariant.below, c.in-Some.ensures.places.0);
      stop = c.in_ok-turn.ensures.cause ∙ c.loop-entry.invariant.stop;
      whole = λ last written adds. c.loop-entry.invariant.whole last written
          (same_groups _ (entry_groups bytes (length bytes - index) index at) before written c.loop-entry.sheet last
          (one_entry_more bytes (length bytes - index) left index at entry.next one there (end_of bytes at entry.head.now entry.body_at entry.body.now entry.next is))
          (turned_and_more (entry_group bytes index at ∷ data_group bytes index at ∷ []) (entry_groups bytes left (index + 1) entry.next)
          before middle written c.loop-entry.sheet added c.turn.new.self last described c.in_ok-turn.ensures.turned adds));
      stopped = λ written begun. c.loop-entry.invariant.stopped written
          (same_begun _ (entry_groups bytes (length bytes - index) index at) before written c.loop-entry.sheet
          (one_entry_more bytes (length bytes - index) left index at entry.next one there (end_of bytes at entry.head.now entry.body_at entry.body.now entry.next is))
          (turned_and_begun (entry_group bytes index at ∷ data_group bytes index at ∷ []) (entry_groups bytes left (index + 1) entry.next)
          before middle written c.loop-entry.sheet added c.turn.new.self described c.in_ok-turn.ensures.turned begun));
    }

pub returns-in_err-turn-clause-stopped : goal.returns-in_err-turn-clause-stopped
returns-in_err-turn-clause-stopped g c =
    let bytes = c.args.bytes.now in
    let index = c.loop-entry.index in
    let at = c.loop-entry.at in
    let entry = c.in-Some.entry in
    let there = c.in-Some.ensures.entry.0 in
    let is = c.in-Some.ensures.entry.1 in
    let left = length bytes - (index + 1) in
    let one : length bytes - index ≡ suc left = omega (arith, c.loop-entry.invariant.below, c.in-Some.ensures.places.1) in
    let before : Option (List ℕ) = g.P.Pages.written c.loop-entry.pages in
    let after : Option (List ℕ) = g.P.Pages.written c.turn.new.pages in
    let added = c.add_entry.new.sheet in
    let described = same_groups _ (entry_group bytes index at ∷ data_group bytes index at ∷ []) _ _ c.loop-entry.sheet added
    (entry_of bytes index at entry.head.now entry.body_at entry.body.now entry.next is) c.in_ok-add_entry.ensures in
    stops c.from_residual-in_err-turn.result _
    (c.loop-entry.invariant.stopped after
    (same_begun _ (entry_groups bytes (length bytes - index) index at) before after c.loop-entry.sheet
    (one_entry_more bytes (length bytes - index) left index at entry.next one there (end_of bytes at entry.head.now entry.body_at entry.body.now entry.next is))
    (added_and_stopped (entry_group bytes index at ∷ data_group bytes index at ∷ []) (entry_groups bytes left (index + 1) entry.next)
    before after c.loop-entry.sheet added described c.in_err-turn.ensures.stopped)))

pub returns-clause-groups : goal.returns-clause-groups
returns-clause-groups g c =
    let bytes = c.args.bytes.now in
    let index = c.loop-entry.index in
    let at = c.loop-entry.at in
    let sheet = c.loop-entry.sheet in
    let written : Option (List ℕ) = g.P.Pages.written c.loop-entry.pages in
    let left = length bytes - index in
    c.loop-entry.invariant.whole sheet written
    (same_groups [] (entry_groups bytes left index at) written written sheet sheet (sym (no_entry bytes left index at c.in_default.ensures.entry)) (no_groups written sheet))
