-- What is written of a file, and why no more is.
use Rattle.std.specs.Prelude.{◌≡◌, ◌⊎◌, ℕ, Bool, true, false, if◌then◌else◌, List, [], ◌++◌, codes, Option}
use Rattle.std.specs.Io.KnownBytes.{append_known}
use Rattle.std.specs.declared.io.ErrorKind.{ErrorKind}
use Rattle.std.specs.declared.io.ErrorKind.TheVariants.{BrokenPipe, Interrupted}
use Rattle.show_items.specs.Beginnings.{IsBegun}
use Rattle.show_items.specs.Files.{AreItemsOfFile}
use Rattle.show_items.specs.Items.{AreNamedBy, Shown, bad_after, items_text, smbios_of}
use Rattle.show_items.specs.declared.pages.Stop.{Stop}
use Rattle.show_items.specs.declared.pages.Stop.TheVariants.{Output, Closed}
use Rattle.show_items.specs.declared.sheet.Form.{Form}
use Rattle.show_items.specs.declared.sheet.Form.TheVariants.{Text}
use Rattle.show_items.specs.declared.sheet.Manner.{Manner}
use Rattle.apei_show.specs.Names.{name_of}

-- an output that nobody reads any more is closed
abbrev pub stop_of : ErrorKind → Stop
stop_of BrokenPipe = Closed
stop_of kind = Output

-- a signal broke off the call
abbrev pub is_interrupted : ErrorKind → Bool
is_interrupted Interrupted = true
is_interrupted kind = false

-- the line of a file, with an empty line before all but the first
abbrev pub path_text : (is_first : Bool) → (path : List ℕ) → List ℕ
path_text is_first path = (if is_first then [] else codes "\n") ++ path ++ codes ":\n"

-- it stands before the items of each file where there are several, but not in the other forms, whose lines name the file themselves
abbrev pub heads_files : Form → Bool → Bool
heads_files Text named = named
heads_files form named = false

abbrev pub head_text : Manner → (is_first : Bool) → (path : List ℕ) → List ℕ
head_text manner is_first path = if heads_files manner.form manner.named then path_text is_first path else []

-- the items of a file were written, and it is told whether one is bad
pub record IsWritten (manner : Manner) (text path bytes : List ℕ) (bad : Bool) : Type 0 where
  pub items : List Shown
  pub are : AreItemsOfFile false (name_of path) bytes items
  pub is : text ≡ items_text manner path 0 items
  pub named_by : AreNamedBy (smbios_of manner) items
  pub tells : bad ≡ bad_after false items

-- of the items of a file all, or the first ones, or none
abbrev pub AreBegun : (name bytes : List ℕ) → List Shown → Type 0
AreBegun name bytes items = (items ≡ []) ⊎ ((early : Bool) × AreItemsOfFile early name bytes items)

-- a page could not be written: a beginning of a head and of the text of these items was
pub record StopsWriting (manner : Manner) (head path bytes : List ℕ) (before after : Option (List ℕ)) : Type 0 where
  pub items : List Shown
  pub are : AreBegun (name_of path) bytes items
  pub begun : IsBegun before (append_known before (head ++ items_text manner path 0 items)) after
  pub named_by : AreNamedBy (smbios_of manner) items
