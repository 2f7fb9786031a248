-- The words of records and of status blocks that are refused.
use Rattle.std.specs.Prelude.{ℕ, List, codes, ◌++◌, decimal}
use Rattle.cper_frame.specs.declared.error.FrameError.{FrameError}
use Rattle.cper_frame.specs.declared.error.FrameError.TheVariants.{Need, Start, End, Length, Section, Limit}
use Rattle.ghes_block.specs.declared.error.BlockError.{BlockError}
use Rattle.ghes_block.specs.declared.error.BlockError.TheVariants.{Need as block_need, NotPublished, RawOffset, Entry, Rest}

abbrev pub words_of_frame : FrameError → List ℕ
words_of_frame (Need more) = codes "need " ++ decimal more
words_of_frame Start = codes "start"
words_of_frame End = codes "end"
words_of_frame (Length found) = codes "length " ++ decimal found
words_of_frame (Section index) = codes "section " ++ decimal index
words_of_frame (Limit found) = codes "limit " ++ decimal found

abbrev pub words_of_block : BlockError → List ℕ
words_of_block (block_need more) = codes "need " ++ decimal more
words_of_block NotPublished = codes "not-published"
words_of_block (RawOffset found) = codes "raw-offset " ++ decimal found
words_of_block (Entry index at) = codes "entry " ++ decimal index ++ codes " " ++ decimal at
words_of_block (Rest bytes) = codes "rest " ++ decimal bytes
