-- The letters and the words for what a slot is, and the words for what a file is.
use Rattle.std.specs.Prelude.{ℕ, Bool, true, false, List, codes}
use Rattle.image_survey.specs.declared.kinds.SlotKind.{SlotKind}
use Rattle.image_survey.specs.declared.kinds.SlotKind.TheVariants.{First, Further, SecondCopy, Orphan, Filling, Killed, Erased, Unknown}
use Rattle.image_survey.specs.declared.files.FileKind.{FileKind}
use Rattle.image_survey.specs.declared.files.FileKind.TheVariants.{Store, Other, Foreign}
use Rattle.apei_look.specs.declared.unread.Unread.{Unread}
use Rattle.apei_look.specs.declared.unread.Unread.TheVariants.{Version, Damaged}

-- the letter as ASCII numbers it, R + 2 o w k . ?, and the word
abbrev pub legend_of : SlotKind → ℕ × List ℕ
legend_of First = (82, codes "first")
legend_of Further = (43, codes "further")
legend_of SecondCopy = (50, codes "second-copy")
legend_of Orphan = (111, codes "orphan")
legend_of Filling = (119, codes "filling")
legend_of Killed = (107, codes "killed")
legend_of Erased = (46, codes "erased")
legend_of Unknown = (63, codes "unknown")

abbrev pub letter_of : SlotKind → ℕ
letter_of kind = (legend_of kind).0

abbrev pub word_of : SlotKind → List ℕ
word_of kind = (legend_of kind).1

abbrev pub file_word_of : FileKind → List ℕ
file_word_of Store = codes "store"
file_word_of Other = codes "other-geometry"
file_word_of Foreign = codes "foreign"

-- of a file that is a medium, and of others by their heads
abbrev pub file_word : (is_medium : Bool) → FileKind → List ℕ
file_word true kind = codes "medium"
file_word false kind = file_word_of kind

-- of a medium whose slots are not shown
abbrev pub unread_word_of : Unread → List ℕ
unread_word_of (Version found) = codes "other-version"
unread_word_of Damaged = codes "damaged-medium"
