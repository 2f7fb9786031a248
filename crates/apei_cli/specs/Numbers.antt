-- The exit number of each status.
use Rattle.std.specs.Prelude.{ℕ}
use Rattle.apei_cli.specs.declared.status.Status.{Status}
use Rattle.apei_cli.specs.declared.status.Status.TheVariants.{Done, BadWords, BadLine, SourceFault, SinkFault, FlashFault, BadGeometry, TooLong, Memory}

abbrev pub exit_number : Status → ℕ
exit_number Done = 0
exit_number BadWords = 1
exit_number (BadLine line column) = 2
exit_number SourceFault = 3
exit_number SinkFault = 4
exit_number FlashFault = 5
exit_number (BadGeometry sector per_slot slots size) = 6
exit_number (TooLong line) = 7
exit_number Memory = 8
