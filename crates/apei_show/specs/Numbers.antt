-- The exit numbers of a run.
use Rattle.std.specs.Prelude.{ℕ, Bool, true, false, Result, Ok, Err}
use Rattle.clap_words.specs.declared.error.WordsError.TheVariants as words
use Rattle.show_items.specs.declared.pages.Stop.{Stop}
use Rattle.show_items.specs.declared.pages.Stop.TheVariants as stops
use Rattle.apei_show.specs.declared.status.Status.{Status}
use Rattle.apei_show.specs.declared.status.Status.TheVariants.{Done, Words, Bad, Output, Unread, Memory, Closed}

abbrev pub number_of : Status → ℕ
number_of Done = 0
number_of (Words words.BadWords) = 1
number_of (Words words.Memory) = 8
number_of Bad = 3
number_of Output = 4
number_of Unread = 5
number_of Memory = 8
number_of Closed = 0

-- how a run ends whose output stopped
abbrev pub status_of : Stop → Status
status_of stops.Memory = Memory
status_of stops.Output = Output
status_of stops.Closed = Closed

-- how a file ended of which it was told whether an item is bad
abbrev pub status_of_file : Result Bool Stop → Status
status_of_file (Ok true) = Bad
status_of_file (Ok false) = Done
status_of_file (Err stop) = status_of stop

-- a file that could not be read is said before an item that was bad
abbrev pub worse_of : Status → Status → Status
worse_of Unread other = Unread
worse_of first other = other
