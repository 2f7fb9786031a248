-- Why Linux refuses an entry, in words.
use Rattle.std.specs.Prelude.{ℕ, List, codes}
use Rattle.linux_checks.specs.declared.reasons.Reason.{Reason}
use Rattle.linux_checks.specs.declared.reasons.Reason.TheVariants.{Instruction, NoAddress, AccessSize, TooWide, OtherSpace, NoBits, TooHigh, Notification, ShortBlock, NeverPolled, ShortRegion}
use Rattle.linux_checks.specs.declared.reasons.Refusal.{Refusal}

-- what stands there is refused for this reason
abbrev pub refusal : (at : ℕ) → Reason → Refusal
refusal at reason = record { at = at; reason = reason }

abbrev pub reason_text : Reason → List ℕ
reason_text Instruction = codes "the instruction is none of the standard's"
reason_text NoAddress = codes "the register's address is 0"
reason_text AccessSize = codes "the register's access size is none of 8, 16, 32 and 64 bits"
reason_text TooWide = codes "the register has more bits than one access"
reason_text OtherSpace = codes "the register is neither in memory nor in I/O space"
reason_text NoBits = codes "the register has no bits"
reason_text TooHigh = codes "the address has more than 52 bits"
reason_text Notification = codes "Linux has no driver for this notification"
reason_text ShortBlock = codes "the error status block is shorter than its head of 20 bytes"
reason_text NeverPolled = codes "the poll interval is 0"
reason_text ShortRegion = codes "the region is shorter than the head of a block, 20 bytes"
