-- What is written of an image.
use Rattle.std.specs.Prelude.{◌≡◌, ℕ, List, [], ◌∷◌, ◌++◌, codes, decimal, encode_utf8}
use Rattle.record_model.specs.Records.{Head}
use Rattle.flash_model.specs.declared.geometry.Geometry.{Geometry}
use Rattle.apei_look.specs.declared.unread.Unread.{Unread}
use Rattle.apei_look.specs.declared.unread.Unread.TheVariants.{Version, Damaged}
use Rattle.apei_look.specs.Words.{unread_word_of}

-- a text with something of a kind behind it
pub record GrowsBy (IsMore : List ℕ → Type 0) (old new : List ℕ) : Type 0 where
  pub more : List ℕ
  pub of_kind : IsMore more
  pub is : new ≡ old ++ more

-- the record that a head names, in a line and in an object
abbrev pub identity_text : Head → List ℕ
identity_text head = decimal head.id ++ codes " generation " ++ decimal head.generation ++ codes " bytes " ++ decimal head.len

abbrev pub identity_json : Head → List ℕ
identity_json head =
    codes "\"id\":\"" ++ decimal head.id ++ codes "\",\"generation\":" ++ decimal head.generation ++ codes ",\"bytes\":" ++ decimal head.len

-- the version of the mediums whose slots are shown
abbrev pub version : ℕ
version = 1

-- a space and a comma, as ASCII numbers them
abbrev pub space : ℕ
space = 32

abbrev pub comma : ℕ
comma = 44

-- numbers of slots, each behind a mark
abbrev pub slot_numbers : (mark : ℕ) → (slots : List ℕ) → List ℕ
slot_numbers mark [] = []
slot_numbers mark (slot ∷ slots) = encode_utf8 mark ++ decimal slot ++ slot_numbers mark slots

-- a geometry, as an object
abbrev pub geometry_json : Geometry → List ℕ
geometry_json geometry =
    codes "{\"sector\":" ++ decimal geometry.sector ++ codes ",\"per_slot\":" ++ decimal geometry.per_slot ++ codes ",\"slots\":" ++ decimal geometry.slots ++ codes "}"

-- the object, on its line, of a medium whose slots are not shown
abbrev pub version_json : Unread → List ℕ
version_json (Version found) = decimal found
version_json Damaged = codes "null"

abbrev pub unread_object : Unread → (held : ℕ) → List ℕ
unread_object unread held =
    codes "{\"held\":" ++ decimal held ++ codes ",\"file\":\"" ++ unread_word_of unread ++ codes "\",\"medium\":{\"version\":" ++ version_json unread ++ codes "}}\n"
