-- What is said of a medium whose slots are not shown.
use Rattle.std.specs.Prelude.{ℕ, List, ◌++◌, codes, decimal}
use Rattle.apei_look.specs.declared.unread.Unread.{Unread}
use Rattle.apei_look.specs.declared.unread.Unread.TheVariants.{Version, Damaged}

-- why they are not, in words
abbrev pub unread_words : Unread → List ℕ
unread_words (Version found) =
    codes "a medium of the library, version " ++ decimal found ++ codes ": version 1 is the only one that is shown"
unread_words Damaged = codes "a medium of the library whose first sector is damaged: its geometry is not known"

-- as a line
abbrev pub unread_line : Unread → List ℕ
unread_line unread = unread_words unread ++ codes "\n"
