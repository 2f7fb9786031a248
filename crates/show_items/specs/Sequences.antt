-- Items one after another.
use Rattle.std.specs.Prelude.{◌≡◌, ℕ, ◌<◌, ◌==◌, ◌⊎◌, Bool, true, false, List, [], ◌∷◌, length, take, drop, Some}
use Rattle.show_findings.specs.declared.items.Item.{Item}
use Rattle.show_findings.specs.declared.items.Item.TheVariants.{Record, Table, Block}
use Rattle.show_findings.specs.declared.kinds.FileKind.{FileKind}
use Rattle.show_findings.specs.declared.kinds.FileKind.TheVariants.{Records, Tables, Blocks, Blank}
use Rattle.show_findings.specs.Kinds.{kind_behind}
use Rattle.show_findings.specs.Places.{item_len}
use Rattle.show_items.specs.Blocks.{IsBlock}
use Rattle.show_items.specs.Items.{Shown, counted}
use Rattle.show_items.specs.Judged.{MayEnd}
use Rattle.show_items.specs.Records.{IsRecord}
use Rattle.show_items.specs.Singles.{IsBlank, IsUnknown}
use Rattle.show_items.specs.Tables.{IsTable}

-- how many of the bytes belong to the item of this kind that they begin with: all, where it is no record, no table and no block
abbrev pub len_of : FileKind → List ℕ → ℕ
len_of Records bytes = item_len Record bytes
len_of Tables bytes = item_len Table bytes
len_of Blocks bytes = item_len Block bytes
len_of other bytes = length bytes

-- bytes that hold nothing are an item only where no other stands before them
abbrev pub is_item : (at : ℕ) → FileKind → Bool
is_item at Blank = at == 0
is_item at kind = true

-- an item of this kind, which begins there in its file
abbrev pub IsItemAs : FileKind → (at : ℕ) → List ℕ → Shown → Type 0
IsItemAs Records at bytes item = IsRecord (Some at) bytes item
IsItemAs Tables at bytes item = IsTable (Some at) bytes item
IsItemAs Blocks at bytes item = IsBlock (Some at) bytes item
IsItemAs Blank at bytes item = IsBlank at bytes item
IsItemAs other at bytes item = IsUnknown at bytes item

abbrev pub kind_of_item : Item → FileKind
kind_of_item Record = Records
kind_of_item Table = Tables
kind_of_item Block = Blocks

-- the item that the bytes begin with, and what stands behind it
abbrev pub first_len : List ℕ → ℕ
first_len bytes = len_of (kind_behind bytes) bytes

abbrev pub first_item : List ℕ → List ℕ
first_item bytes = take (first_len bytes) bytes

abbrev pub behind_first : List ℕ → List ℕ
behind_first bytes = drop (first_len bytes) bytes

abbrev pub IsFirst : (at : ℕ) → List ℕ → Shown → Type 0
IsFirst at bytes item = IsItemAs (kind_behind bytes) at (first_item bytes) item

-- the bytes, which begin there in their file, are these items one after another
abbrev pub AreItems : (early : Bool) → (at : ℕ) → List ℕ → List Shown → Type 0
AreItems early at bytes [] = MayEnd early ⊎ ((bytes ≡ []) ⊎ (is_item at (kind_behind bytes) ≡ false))
AreItems early at bytes (item ∷ items) =
    (0 < length bytes) × (is_item at (kind_behind bytes) ≡ true) × IsFirst at bytes item
    × AreItems early (counted at (first_len bytes)) (behind_first bytes) items

-- one item of this kind
abbrev pub AreOne : (Is : Shown → Type 0) → List Shown → Type 0
AreOne Is items = (item : Shown) × Is item × (items ≡ item ∷ [])

-- one, or none
abbrev pub AreIf : (is : Bool) → (Is : Shown → Type 0) → List Shown → Type 0
AreIf false Is items = items ≡ []
AreIf true Is items = AreOne Is items

-- what the bytes begin with, if it is an item
abbrev pub AreFirst : (at : ℕ) → List ℕ → List Shown → Type 0
AreFirst at bytes items = AreIf (is_item at (kind_behind bytes)) (IsFirst at bytes) items
