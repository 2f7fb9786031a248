-- The words of blocks that are not taken over, and of a region that has no room for one.
use Rattle.std.specs.Prelude.{ℕ, List, ◌++◌, codes, decimal}
use Rattle.ghes_ack.specs.declared.submission.SubmitError.{SubmitError}
use Rattle.ghes_ack.specs.declared.submission.SubmitError.TheVariants.{Long, Malformed, Trailing, Full}
use Rattle.script_text.specs.FrameWords.{words_of_block}

abbrev pub words_of_submit : SubmitError → List ℕ
words_of_submit (Long len) = codes "long " ++ decimal len
words_of_submit (Malformed why) = codes "block " ++ words_of_block why
words_of_submit (Trailing bytes) = codes "trailing " ++ decimal bytes
words_of_submit Full = codes "full"
