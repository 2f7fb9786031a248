-- How a run ends, by what it wrote.
use Rattle.std.specs.Prelude.{◌≡◌, ℕ, List, take, Option, Result, Ok, Err, String, string_bytes}
use Rattle.std.specs.Io.KnownBytes.{Appends}
use Rattle.std.specs.declared.alloc.AllocError.{AllocError}
use Rattle.std.specs.declared.alloc.Global.{Global}
use Rattle.base_model.specs.Faults.{Rose}
use Rattle.apei_look.specs.declared.image_file.FileFault.TheVariants.{Unreadable}
use Rattle.apei_look.specs.declared.status.Status.{Status}
use Rattle.apei_look.specs.declared.status.Status.TheVariants.{Done, SinkFault, File, Memory}

-- the first ones of some bytes were added to those that are written, and nothing else
abbrev pub Begins : (bytes : List ℕ) (before after : Option (List ℕ)) → Type 0
Begins bytes before after = (n : ℕ) × Appends before after (take n bytes)

-- bytes were added to those that are written, as are said with this ending. Without memory, or where the file can't be
-- read, none were added. Where the output fails, the first ones were of those that another ending would have said
abbrev pub EndsBy : (IsSaid : List ℕ → Status → Type 0) (before after : Option (List ℕ)) → Status → Type 0
EndsBy IsSaid before after Memory = after ≡ before
EndsBy IsSaid before after (File Unreadable) = after ≡ before
EndsBy IsSaid before after SinkFault = (said : List ℕ) × (other : Status) × IsSaid said other × Begins said before after
EndsBy IsSaid before after status = (said : List ℕ) × Appends before after said × IsSaid said status

-- a run ends by a fault of the system only where one was counted
abbrev pub IsCaused : (before after : ℕ) → Status → Type 0
IsCaused before after SinkFault = Rose before after
IsCaused before after (File Unreadable) = Rose before after
IsCaused before after other = after ≡ before

-- these bytes were written, and nothing else
abbrev pub IsAll : (bytes said : List ℕ) → Status → Type 0
IsAll bytes said status = (said ≡ bytes) × (status ≡ Done)

-- those of a text, where there was memory for it
abbrev pub IsTold : Result (String Global) AllocError → (before after : Option (List ℕ)) → Status → Type 0
IsTold (Ok text) before after status = EndsBy (IsAll (string_bytes text)) before after status
IsTold (Err error) before after status = (status ≡ Memory) × (after ≡ before)

-- the ending that a call answers
abbrev pub ending : Result Status Status → Status
ending (Ok status) = status
ending (Err status) = status
