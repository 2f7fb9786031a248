-- The words of what a client is refused.
use Rattle.std.specs.Prelude.{ℕ, List, ◌++◌, codes, decimal}
use Rattle.erst_client.specs.declared.errors.AttachError.{AttachError}
use Rattle.erst_client.specs.declared.errors.AttachError.TheVariants.{Stopped as attach_stopped, NonVolatile, NoRange}
use Rattle.erst_client.specs.declared.errors.ClientError.{ClientError}
use Rattle.erst_client.specs.declared.errors.ClientError.TheVariants.{NoSpace, Hardware, Failed, Empty, NotFound, Frame, TooLong, SmallBuffer, BadLength, Status, Stopped, Trailing, Range, Late}
use Rattle.script_text.specs.FrameWords.{words_of_frame}
use Rattle.apei_script.specs.RunWords.{words_of_fault, words_of_stop}

abbrev pub words_of_attach : AttachError → List ℕ
words_of_attach (attach_stopped why) = codes "stopped " ++ words_of_stop why
words_of_attach (NonVolatile found) = codes "non-volatile " ++ decimal found
words_of_attach (NoRange len) = codes "no-range " ++ decimal len

abbrev pub words_of_client : ClientError → List ℕ
words_of_client NoSpace = codes "no-space"
words_of_client Hardware = codes "hardware"
words_of_client Failed = codes "failed"
words_of_client Empty = codes "empty"
words_of_client NotFound = codes "not-found"
words_of_client (Frame why) = codes "frame " ++ words_of_frame why
words_of_client (TooLong len range) = codes "too-long " ++ decimal len ++ codes " " ++ decimal range
words_of_client (SmallBuffer need) = codes "small " ++ decimal need
words_of_client (BadLength found) = codes "bad-length " ++ decimal found
words_of_client (Status found) = codes "status " ++ decimal found
words_of_client (Stopped why) = codes "stopped " ++ words_of_stop why
words_of_client (Trailing bytes) = codes "trailing " ++ decimal bytes
words_of_client (Range fault) = codes "range " ++ words_of_fault fault
words_of_client (Late waited) = codes "late " ++ decimal waited
