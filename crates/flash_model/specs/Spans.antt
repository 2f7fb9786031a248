-- What is known of the sectors of a flash in memory: all bytes are erased but those of a span of each.
use Rattle.std.specs.Prelude.{ℕ, ◌+◌, ◌-◌, ◌*◌, ◌<◌, ◌≤◌, List, length, slice_index_or}
use Rattle.base_model.specs.Flash.{IsErased}
use Rattle.flash_model.specs.declared.spans.Span.{Span}

-- all bytes of the sector at a place are erased but those of a span
pub record IsErasedBut (span : Span) (sector : ℕ) (image : List ℕ) (place : ℕ) : Type 0 where
  pub from : span.from ≤ sector
  pub to : span.to ≤ sector
  pub before : IsErased image place span.from
  pub behind : IsErased image (place + span.to) (sector - span.to)

-- and so of the first sectors of an image
abbrev pub AreErasedBut : List Span → (sector : ℕ) → (image : List ℕ) → Type 0
AreErasedBut spans sector image = (s : ℕ) → s < length spans → IsErasedBut (slice_index_or spans s (record { from = 0; to = 0 })) sector image (s * sector)
