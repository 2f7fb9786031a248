use Rattle.std.proofs.Common.{◌≡◌, ◌+◌, ◌-◌, length, arith}
use Rattle.ghes_block.specs.Grammar.{entry_bytes}
use Rattle.ghes_block.specs.Entries.{value_of}
use Rattle.ghes_block.proofs.EntryLaws.{length-entry_bytes}
use Rattle.item_parts.specs.Parts.{header_size}
use Rattle.item_parts.proofs.blocks.data_part.Goals as goal

pub overflow_sub-body : goal.overflow_sub-body
overflow_sub-body c =
    let entry = value_of c.args.entry.now in
    let size : length (entry_bytes entry) ≡ header_size entry + length entry.body = length-entry_bytes entry c.requires.head in
    let next = c.requires.next in
    omega arith

pub overflow_sub-result : goal.overflow_sub-result
overflow_sub-result c =
    let entry = value_of c.args.entry.now in
    let size : length (entry_bytes entry) ≡ header_size entry + length entry.body = length-entry_bytes entry c.requires.head in
    let next = c.requires.next in
    omega arith

pub returns : goal.returns
returns c =
    let entry = value_of c.args.entry.now in
    let size : length (entry_bytes entry) ≡ header_size entry + length entry.body = length-entry_bytes entry c.requires.head in
    let next = c.requires.next in
    let body : c.args.next - length c.args.entry.now.body.now ≡ c.args.at + header_size entry = omega arith in
    let len : c.args.next - length c.args.entry.now.body.now - c.args.at ≡ header_size entry = omega arith in
    λ i. record { at = c.args.at; len = len i; body = body i; body_len = length c.args.entry.now.body.now; kind = 0 }
