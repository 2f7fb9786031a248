use Rattle.std.proofs.Common.{◌≡◌, suc, ◌+◌, ◌-◌, ◌++◌, List, [], length, arith}
use Rattle.show_items.specs.Blocks.{ArePartsBehind}
use Rattle.show_items.specs.declared.parts.Part.{Part}
use Rattle.show_items.proofs.BlockLemmas.{end_of, whole_head}
use Rattle.show_items.proofs.PartLemmas.{found_all, found_then, no_entry_left, of_entry, one_entry_more}
use Rattle.show_items.proofs.parts.parts_of_entries.Goals as goal

pub guid_at-kind-requires : goal.guid_at-kind-requires
guid_at-kind-requires c =
    let entry = c.in-Some.ensures.entry in
    omega (arith, whole_head c.args.bytes.now c.in-Some.entry.head.now c.loop-entry.at entry.0 entry.1.head_is)

pub loop-entry-preserved : goal.loop-entry-preserved
loop-entry-preserved c =
    let bytes = c.args.bytes.now in
    let table = c.args.table.now in
    let index = c.loop-entry.index in
    let at = c.loop-entry.at in
    let entry = c.in-Some.entry in
    let is = c.in-Some.ensures.entry.1 in
    let added = c.in_ok-add_part_of.ensures in
    let left = length bytes - (index + 1) in
    let one : length bytes - index ≡ suc left = omega (arith, c.loop-entry.invariant.below, c.in-Some.ensures.places.1) in
    record {
      below = omega (arith, c.loop-entry.invariant.below, c.in-Some.ensures.places.0);
      whole = λ more rest.
          found_then c.loop-entry.parts.items added.0 more c.add_part_of.new.parts.items (λ (all : List Part). ArePartsBehind table bytes (length bytes) 0 20 all) added.2
          (c.loop-entry.invariant.whole (added.0 ++ more)
          (one_entry_more table bytes (length bytes - index) left index at entry.next added.0 more one c.in-Some.ensures.entry.0
          (end_of bytes at entry.head.now entry.body_at entry.body.now entry.next is)
          (of_entry table bytes c.guid_at-kind.result index at entry.head.now entry.body_at entry.body.now entry.next added.0 is c.guid_at-kind.ensures added.1) rest));
    }

pub returns : goal.returns
returns c =
    let bytes = c.args.bytes.now in
    let table = c.args.table.now in
    found_all c.loop-entry.parts.items (λ (all : List Part). ArePartsBehind table bytes (length bytes) 0 20 all)
    (c.loop-entry.invariant.whole [] (no_entry_left table bytes (length bytes - c.loop-entry.index) c.loop-entry.index c.loop-entry.at c.in_default.ensures.entry))
