use Rattle.std.proofs.Common.{ℕ, ◌+◌, length, Err, sym, ap, ◌∙◌, arith}
use Rattle.ghes_block.specs.declared.error.BlockError.TheVariants.{RawOffset}
use Rattle.ghes_block.specs.Reading.{length_if_there, entry_count}
use Rattle.ghes_block.proofs.Whole.{at_short, at_zero, at_no_raw, at_raw_offset, at_raw, answered}
use Rattle.ghes_block.proofs.block.checked_block.Goals as goal

pub returns-then-bytes-lt-HEADER : goal.returns-then-bytes-lt-HEADER
returns-then-bytes-lt-HEADER c = at_short c.args.bytes.now c.if-bytes-lt-HEADER.true

pub returns-then-get_u32-eq0 : goal.returns-then-get_u32-eq0
returns-then-get_u32-eq0 c = at_zero c.args.bytes.now c.if-bytes-lt-HEADER.false (sym c.get_u32.ensures ∙ c.if-get_u32-eq0.true)

pub returns-then-raw_length-eq0 : goal.returns-then-raw_length-eq0
returns-then-raw_length-eq0 c =
    let data_len = c.get_u32-data_length.ensures in
    let end = c.from-data_end.ensures in
    answered c.args.bytes.now (20 + c.from-data_end.result) c.get_u32-data_length.result c.sized_block.result data_len
    (at_no_raw c.args.bytes.now c.if-bytes-lt-HEADER.false (λ z. c.if-get_u32-eq0.false (c.get_u32.ensures ∙ z)) (sym c.get_u32-raw_length.ensures ∙ c.if-raw_length-eq0.true)
    ∙ ap (λ (n : ℕ). length_if_there (length c.args.bytes.now) n (entry_count c.args.bytes.now)) (omega arith))
    c.sized_block.ensures

pub returns-then-from-data_end : goal.returns-then-from-data_end
returns-then-from-data_end c =
    let data_len = c.get_u32-data_length.ensures in
    let end = c.from-data_end.ensures in
    let offset = c.get_u32-raw_offset.ensures in
    let from = c.from.ensures in
    let again = c.from-then-from-data_end.ensures in
    let low = c.if-from-data_end.true in
    at_raw_offset c.args.bytes.now c.if-bytes-lt-HEADER.false (λ z. c.if-get_u32-eq0.false (c.get_u32.ensures ∙ z)) (λ z. c.if-raw_length-eq0.false (c.get_u32-raw_length.ensures ∙ z)) (omega arith)
    ∙ ap (λ (n : ℕ). Err (RawOffset n)) (omega arith)

pub returns : goal.returns
returns c =
    let data_len = c.get_u32-data_length.ensures in
    let end = c.from-data_end.ensures in
    let offset = c.get_u32-raw_offset.ensures in
    let raw = c.get_u32-raw_length.ensures in
    let from = c.from.ensures in
    let from2 = c.from-2.ensures in
    let from3 = c.from-3.ensures in
    let high = c.if-from-data_end.false in
    answered c.args.bytes.now (c.from-2.result + c.from-3.result) c.get_u32-data_length.result c.sized_block-2.result data_len
    (at_raw c.args.bytes.now c.if-bytes-lt-HEADER.false (λ z. c.if-get_u32-eq0.false (c.get_u32.ensures ∙ z)) (λ z. c.if-raw_length-eq0.false (c.get_u32-raw_length.ensures ∙ z)) (omega arith)
    ∙ ap (λ (n : ℕ). length_if_there (length c.args.bytes.now) n (entry_count c.args.bytes.now)) (omega arith))
    c.sized_block-2.ensures
