-- The sections of a record, one after another.
use Rattle.std.proofs.Common.{◌≡◌, ◌∙◌, ℕ, zero, suc, ◌+◌, ◌≤◌, nat_lt, List, [], ◌∷◌, length, take, codes, refl, sym, ap, arith}
use Rattle.std.proofs.lemmas.Bool.{cond-true, cond-false, le-ltb, lt-ltb}
use Rattle.base_model.specs.Bytes.{part}
use Rattle.show_findings.specs.Places.{IsSection}
use Rattle.show_items.specs.Groups.{Group, fields_group, numbered}
use Rattle.show_items.specs.Records.{body_group, descriptor_at, descriptor_group, descriptor_of, room_behind, section_body, section_group, section_groups, section_offset}
use Rattle.field_lines.specs.Records.{section_descriptor}
use Rattle.show_items.proofs.ItemLemmas.{first_part}

-- as much of a body as there is room for
pub body_seen : (bytes : List ℕ) (index at : ℕ) (descriptor : List ℕ) (body_at : ℕ) (content body : List ℕ) (room : ℕ)
    → IsSection bytes index at descriptor body_at content → body ≡ part content 0 room → body ≡ take room (section_body bytes index)
body_seen bytes index at descriptor body_at content body room is seen =
    seen ∙ first_part content room ∙ ap (λ (all : List ℕ). take room all) is.content

-- what is added of a section is what a record of these bytes has
pub section_of : (bytes : List ℕ) (index at : ℕ) (descriptor : List ℕ) (body_at : ℕ) (content body : List ℕ) (room : ℕ)
    → IsSection bytes index at descriptor body_at content → body ≡ take room (section_body bytes index)
    → fields_group (numbered (codes "descriptor") index at) section_descriptor descriptor
    ∷ section_group index (part descriptor 16 16) body_at body ∷ []
    ≡ descriptor_group bytes index ∷ body_group bytes index room ∷ []
section_of bytes index at descriptor body_at content body room is seen =
    let head : ℕ → List ℕ → Group = λ a d. fields_group (numbered (codes "descriptor") index a) section_descriptor d in
    let tail : List ℕ → ℕ → List ℕ → Group = λ d a b. section_group index (part d 16 16) a b in
    let first : head at descriptor ≡ descriptor_group bytes index =
    ap (λ (a : ℕ). head a descriptor) is.place ∙ ap (λ (d : List ℕ). head (descriptor_at index) d) is.head in
    let second : tail descriptor body_at body ≡ body_group bytes index room =
    ap (λ (d : List ℕ). tail d body_at body) is.head
    ∙ ap (λ (a : ℕ). tail (descriptor_of bytes index) a body) is.offset
    ∙ ap (λ (b : List ℕ). tail (descriptor_of bytes index) (section_offset bytes index) b) seen in
    ap (λ (g : Group). g ∷ tail descriptor body_at body ∷ []) first
    ∙ ap (λ (g : Group). descriptor_group bytes index ∷ g ∷ []) second

-- a section that is there, and those behind it
pub one_section_more : (bytes : List ℕ) (count left index room room' : ℕ) → count ≡ suc left → descriptor_at index + 72 ≤ length bytes
    → room' ≡ room_behind bytes index room
    → descriptor_group bytes index ∷ body_group bytes index room ∷ section_groups bytes left (index + 1) room'
    ≡ section_groups bytes count index room
one_section_more bytes (suc count) left index room room' one there behind =
    let more : ℕ → ℕ → List Group = λ n r. descriptor_group bytes index ∷ body_group bytes index room ∷ section_groups bytes n (index + 1) r in
    let same : left ≡ count = omega (arith, one) in
    ap (λ (r : ℕ). more left r) behind
    ∙ ap (λ (n : ℕ). more n (room_behind bytes index room)) same
    ∙ sym (cond-false (nat_lt (length bytes) (descriptor_at index + 72)) [] _ (le-ltb (length bytes) (descriptor_at index + 72) there))
one_section_more bytes zero left index room room' one there behind = absurd (omega (arith, one))

-- none is left
pub no_section : (bytes : List ℕ) (count index room : ℕ) → (descriptor_at index + 72 ≤ length bytes → ⊥) → section_groups bytes count index room ≡ []
no_section bytes zero index room none = refl
no_section bytes (suc count) index room none =
    cond-true (nat_lt (length bytes) (descriptor_at index + 72)) [] _ (lt-ltb (length bytes) (descriptor_at index + 72) (omega (arith, none)))

pub no_count : (bytes : List ℕ) (count index room : ℕ) → count ≡ 0 → section_groups bytes count index room ≡ []
no_count bytes count index room none = ap (λ (n : ℕ). section_groups bytes n index room) none
