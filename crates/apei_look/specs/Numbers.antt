-- The exit numbers of a run.
use Rattle.std.specs.Prelude.{ℕ}
use Rattle.clap_words.specs.declared.error.WordsError.TheVariants as words
use Rattle.apei_look.specs.declared.status.Status.{Status}
use Rattle.apei_look.specs.declared.status.Status.TheVariants.{Done, Words, SinkFault, File, BadGeometry, Length, Unread, Memory, NoRecord}

abbrev pub number_of : Status → ℕ
number_of Done = 0
number_of (Words words.BadWords) = 1
number_of (Words words.Memory) = 8
number_of SinkFault = 4
number_of (File fault) = 5
number_of BadGeometry = 6
number_of (Length found wanted) = 6
number_of (Unread unread) = 6
number_of Memory = 8
number_of (NoRecord id) = 10
