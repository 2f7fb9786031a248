-- How long an execution takes.
use Rattle.std.specs.Prelude.{ℕ, ◌+◌, ◌*◌, ◌^◌}
use Rattle.base_model.specs.Layout.{Layout, room_of, reach_of}
use Rattle.record_model.specs.Records.{parts_of}
use Rattle.record_model.specs.RecordMap.{changes_of_parts}

-- the flash changes of a write of the longest record that takes the place of another, the most that an execution makes
abbrev pub most_changes : Layout → ℕ
most_changes layout =
    changes_of_parts layout (reach_of (room_of layout)) (parts_of (room_of layout) (reach_of (room_of layout))) + 2

-- the greatest time of an execution in bits 63 to 32 and the nominal one in bits 31 to 0, in microseconds (ACPI 6.4, section
-- 18.5.1.1): 10 for each flash change, where the nominal one is that of a new record of at most 256 bytes
abbrev pub timings_of : Layout → ℕ
timings_of layout = 2 ^ 32 * (10 * most_changes layout) + 10 * (layout.per_slot + 4)
