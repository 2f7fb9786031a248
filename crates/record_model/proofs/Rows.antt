-- The numbers of changes of some writes, on slots of two sectors of 4,096 bytes.
use Rattle.std.proofs.Common.{◌≡◌, Some, None, refl, arith, []}
use Rattle.base_model.specs.Layout.{Layout, reach_of}
use Rattle.record_model.specs.Records.{parts_of, part_len}
use Rattle.record_model.specs.RecordMap.{pieces_of_parts}
use Rattle.record_model.proofs.RefusalLemmas.{changes_of_write}

abbrev layout : Layout
layout = record {
  sector = 4096;
  per_slot = 2;
  slots = 4;
  slot_size = 8192;
  product = refl;
  least_sector = omega arith;
  few_sectors = omega arith;
  few_slots =
      omega arith;
  many_slots = omega arith;
  least_slot = omega arith;
  greatest_slot = omega arith;
}

fits_one : changes_of_write layout 8128 None ≡ 37
unfolding parts_of part_len pieces_of_parts
fits_one = refl

two : changes_of_write layout 8129 None ≡ 42
unfolding parts_of part_len pieces_of_parts
two = refl

three : changes_of_write layout 20000 None ≡ 92
unfolding parts_of part_len pieces_of_parts
three = refl

replaced : changes_of_write layout 128 (Some ([], 1)) ≡ 7
unfolding parts_of part_len pieces_of_parts
replaced = refl

longest : reach_of 8128 ≡ 32512
unfolding reach_of
longest = refl
