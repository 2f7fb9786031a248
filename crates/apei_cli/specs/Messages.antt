-- What the program says of each status on standard error.
use Rattle.std.specs.Prelude.{ℕ, List, [], ◌++◌, codes, decimal}
use Rattle.apei_cli.specs.declared.status.Status.{Status}
use Rattle.apei_cli.specs.declared.status.Status.TheVariants.{Done, BadWords, BadLine, SourceFault, SinkFault, FlashFault, BadGeometry, TooLong, Memory}

abbrev pub words_of_status : Status → List ℕ
words_of_status Done = []
words_of_status BadWords = codes "apei: bad words"
words_of_status (BadLine line column) = codes "apei: line " ++ decimal line ++ codes " column " ++ decimal column
words_of_status SourceFault = codes "apei: read failed"
words_of_status SinkFault = codes "apei: write failed"
words_of_status FlashFault = codes "apei: flash failed"
words_of_status (BadGeometry sector per_slot slots size) =
    codes "apei: bad geometry " ++ decimal sector ++ codes " " ++ decimal per_slot ++ codes " " ++ decimal slots ++ codes " " ++ decimal size
words_of_status (TooLong line) = codes "apei: line " ++ decimal line ++ codes " too long"
words_of_status Memory = codes "apei: out of memory"
