-- The texts of sections and of slots, one after another.
use Rattle.std.proofs.Common.{◌≡◌, ◌∙◌, ℕ, zero, suc, ◌+◌, List, [], ◌∷◌, ◌++◌, drop, Some, refl, ap, sym, append_assoc, add-one}
use Rattle.std.specs.Prelude.{slice_get}
use Rattle.image_survey.specs.Kinds.{kind_at}
use Rattle.cper_frame.specs.Grammar.{SectionValue}
use Rattle.apei_look.specs.Records.{AreRecords, IsSlotText}
use Rattle.apei_look.specs.Texts.{GrowsBy}

pub first_left : {A : Type 0} → (xs : List A) (k : ℕ) (x : A) → slice_get xs k ≡ Some x → drop k xs ≡ x ∷ drop (suc k) xs
first_left [] k x is = cc
first_left (y ∷ ys) zero x is = let same : y ≡ x = cc in ap (λ z. z ∷ ys) same
first_left (y ∷ ys) (suc k) x is = first_left ys k x is

-- the next of a list of sections was written
pub next_section : (of_section : ℕ → SectionValue → List ℕ) (of_all : ℕ → List SectionValue → List ℕ)
    → ((k : ℕ) (section : SectionValue) (rest : List SectionValue) → of_all k (section ∷ rest) ≡ of_section k section ++ of_all (k + 1) rest)
    → (sections : List SectionValue) (k : ℕ) (section : SectionValue) (start old new : List ℕ)
    → slice_get sections k ≡ Some section
    → new ≡ old ++ of_section k section
    → old ++ of_all k (drop k sections) ≡ start
    → new ++ of_all (k + 1) (drop (k + 1) sections) ≡ start
next_section of_section of_all one_by_one sections k section start old new here written invariant =
    let rest : List ℕ = of_all (k + 1) (drop (k + 1) sections) in
    let split : of_all k (drop k sections) ≡ of_section k section ++ rest =
    ap (of_all k) (first_left sections k section here)
    ∙ one_by_one k section (drop (suc k) sections)
    ∙ ap (λ (n : ℕ). of_section k section ++ of_all (k + 1) (drop n sections)) (sym (add-one k)) in
    ap (λ (t : List ℕ). t ++ rest) written
    ∙ append_assoc old (of_section k section) rest
    ∙ ap (λ (t : List ℕ). old ++ t) (sym split)
    ∙ invariant

-- what was written of a slot stands behind that of those before it
pub next_slot : (slot_size slots : ℕ) (image : List ℕ) (n : ℕ) {old middle new : List ℕ}
    → GrowsBy (AreRecords slot_size slots image n) old middle
    → GrowsBy (IsSlotText slot_size slots image n (kind_at slot_size slots image n)) middle new
    → GrowsBy (AreRecords slot_size slots image (n + 1)) old new
next_slot slot_size slots image n {old} before last =
    rw add-one (record {
      more = before.more ++ last.more;
      of_kind = (before.more, last.more, before.of_kind, last.of_kind, refl);
      is = last.is ∙ ap (λ (t : List ℕ). t ++ last.more) before.is ∙ append_assoc old before.more last.more;
    })
