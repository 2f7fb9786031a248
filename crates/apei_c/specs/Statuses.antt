-- The numbers of statuses, and the status of each answer of a port.
use Rattle.std.specs.Prelude.{ℕ, Result, Ok, Err}
use Rattle.erst_port.specs.declared.errors.PortError.{PortError}
use Rattle.erst_port.specs.declared.errors.PortError.TheVariants.{BadAccess, Due as AccessDue, Flash as AccessFlash}
use Rattle.erst_port.specs.declared.errors.OpenError.{OpenError}
use Rattle.erst_port.specs.declared.errors.OpenError.TheVariants.{Foreign as IsForeign, Version as OtherVersion, Size as OtherSize, Addresses as BadAddresses, Memory as NoMemory}
use Rattle.apei_c.specs.declared.status.Status.{Status}
use Rattle.apei_c.specs.declared.status.Status.TheVariants.{Done, Closed, Open, Window, Access, Due, Nothing, Short, Busy, Flash, Memory, Geometry, Foreign}
use Rattle.apei_c.specs.declared.status.Status.TheVariants.{Version, Size, Addresses, Bad, Unsaved, SavedVersion, SavedFlash, Source, Count, SourceType}
use Rattle.apei_c.specs.declared.status.Status.TheVariants.{Reserved, Preallocation, Notification, Length, Places, AddressRegister, Address, AckRegister, Mask}
use Rattle.apei_c.specs.declared.status.Status.TheVariants.{Zero, Alignment, Late, Clash, Identifier, Full, Long, Block, Waits, Choice, Region}
use Rattle.apei_c.specs.declared.status.Status.TheVariants.{Table, Unattached, NonVolatile, NoRange, NoSpace, Hardware, Failed, Empty, NotFound, Frame, TooLong}
use Rattle.apei_c.specs.declared.status.Status.TheVariants.{SmallBuffer, BadLength, Unknown, Trailing, TooLate, Steps, NoAction, Fault, Program, ListFull}

abbrev pub number_of : Status → ℕ
number_of Done = 0
number_of Closed = 2
number_of Open = 3
number_of Window = 4
number_of Access = 5
number_of Due = 6
number_of Nothing = 7
number_of Short = 8
number_of Busy = 9
number_of Flash = 10
number_of Memory = 11
number_of Geometry = 12
number_of Foreign = 13
number_of Version = 14
number_of Size = 15
number_of Addresses = 16
number_of Bad = 17
number_of Unsaved = 18
number_of SavedVersion = 19
number_of SavedFlash = 20
number_of Source = 32
number_of Count = 33
number_of SourceType = 34
number_of Reserved = 35
number_of Preallocation = 36
number_of Notification = 37
number_of Length = 38
number_of Places = 39
number_of AddressRegister = 40
number_of Address = 41
number_of AckRegister = 42
number_of Mask = 43
number_of Zero = 44
number_of Alignment = 45
number_of Late = 46
number_of Clash = 47
number_of Identifier = 48
number_of Full = 49
number_of Long = 50
number_of Block = 51
number_of Waits = 52
number_of Choice = 53
number_of Region = 54
number_of Table = 64
number_of Unattached = 65
number_of NonVolatile = 66
number_of NoRange = 67
number_of NoSpace = 68
number_of Hardware = 69
number_of Failed = 70
number_of Empty = 71
number_of NotFound = 72
number_of Frame = 73
number_of TooLong = 74
number_of SmallBuffer = 75
number_of BadLength = 76
number_of Unknown = 77
number_of Trailing = 78
number_of TooLate = 79
number_of Steps = 80
number_of NoAction = 81
number_of Fault = 82
number_of Program = 83
number_of ListFull = 84

abbrev pub status_of_error : PortError → Status
status_of_error BadAccess = Access
status_of_error AccessDue = Due
status_of_error AccessFlash = Flash

abbrev pub status_of_access : Result (Unit {0}) PortError → Status
status_of_access (Ok done) = Done
status_of_access (Err error) = status_of_error error

abbrev pub status_of_opening : OpenError → Status
status_of_opening IsForeign = Foreign
status_of_opening (OtherVersion found) = Version
status_of_opening (OtherSize found wanted) = Size
status_of_opening BadAddresses = Addresses
status_of_opening NoMemory = Memory
