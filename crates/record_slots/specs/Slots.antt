-- A slot's head as the numbers that the definitions speak of, and the flash that a geometry fits.
pub use Rattle.flash_model.specs.Layouts.{Fits}
use Rattle.record_model.specs.Records as records
use Rattle.record_slots.specs.declared.head.Head.{Head}

-- the numbers of a head
abbrev pub numbers_of : Head → records.Head
numbers_of head = record { gate = head.gate; kill = head.kill; format = head.format; generation = head.generation; id = head.id; len = head.len; next = head.next }
