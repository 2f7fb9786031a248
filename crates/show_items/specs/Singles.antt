-- Items of which no standard has a fault: what is shown of one.
use Rattle.std.specs.Prelude.{◌≡◌, ℕ, true, false, List, [], ◌∷◌, take, codes, Some}
use Rattle.show_items.specs.Groups.{bytes_group, single}
use Rattle.show_items.specs.Items.{Shown}
use Rattle.show_items.specs.Judged.{HasNoFault, IsShownAs}
use Rattle.show_items.specs.Records.{section_group}

-- the types of the sections whose bodies Linux shows in pstore: fe08ffbe-95e4-4be7-bc73-4096044a38fc
abbrev pub machine_check : List ℕ
machine_check =
    0xBE ∷ 0xFF ∷ 0x08 ∷ 0xFE ∷ 0xE4 ∷ 0x95 ∷ 0xE7 ∷ 0x4B
    ∷ 0xBC ∷ 0x73 ∷ 0x40 ∷ 0x96 ∷ 0x04 ∷ 0x4A ∷ 0x38 ∷ 0xFC ∷ []

-- and c197e04e-d545-4a70-9c17-a5549419eb12
abbrev pub kernel_log : List ℕ
kernel_log =
    0x4E ∷ 0xE0 ∷ 0x97 ∷ 0xC1 ∷ 0x45 ∷ 0xD5 ∷ 0x70 ∷ 0x4A
    ∷ 0x9C ∷ 0x17 ∷ 0xA5 ∷ 0x54 ∷ 0x94 ∷ 0x19 ∷ 0xEB ∷ 0x12 ∷ []

-- a file that is the body of a section
pub record IsBody (kind guid bytes : List ℕ) (item : Shown) : Type 0 where
  pub heading : IsShownAs kind (Some 0) bytes item
  pub groups : item.groups ≡ section_group 0 guid 0 bytes ∷ []
  pub judged : HasNoFault false item

abbrev pub IsMachineCheck : List ℕ → Shown → Type 0
IsMachineCheck bytes item = IsBody (codes "machine-check") machine_check bytes item

abbrev pub IsDmesg : List ℕ → Shown → Type 0
IsDmesg bytes item = IsBody (codes "dmesg") kernel_log bytes item

-- bytes of which nothing is told but a sentence
pub record IsSentence (kind : List ℕ) (at : ℕ) (bytes : List ℕ) (item : Shown) : Type 0 where
  pub heading : IsShownAs kind (Some at) bytes item
  pub groups : item.groups ≡ []
  pub judged : HasNoFault false item

abbrev pub IsEmpty : Shown → Type 0
IsEmpty item = IsSentence (codes "empty") 0 [] item

-- bytes that hold nothing, which begin there in their file
abbrev pub IsBlank : (at : ℕ) → List ℕ → Shown → Type 0
IsBlank at bytes item = IsSentence (codes "blank") at bytes item

abbrev pub IsPacked : List ℕ → Shown → Type 0
IsPacked bytes item = IsSentence (codes "packed") 0 bytes item

-- bytes that are none of what is known: the first of them are shown
pub record IsUnknown (at : ℕ) (bytes : List ℕ) (item : Shown) : Type 0 where
  pub heading : IsShownAs (codes "none") (Some at) bytes item
  pub groups : item.groups ≡ bytes_group (single (codes "bytes")) (take 16 bytes) ∷ []
  pub judged : HasNoFault true item
