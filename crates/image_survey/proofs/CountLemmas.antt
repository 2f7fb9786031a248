-- What the first slots of an image are together.
use Rattle.std.proofs.Common.{◌≡◌, ℕ, suc, ◌+◌, ◌-◌, Bool, not, List, refl, ap, ◌∙◌, arith}
use Rattle.std.specs.Prelude.{◌&&◌}
use Rattle.record_model.specs.Records.{count_below, one_if, is_up, slot_at, entry_at, is_first, stored_in, second_copies}
use Rattle.record_model.proofs.FirstLemmas.{first_count}
use Rattle.image_survey.specs.Kinds.{kind_at}
use Rattle.image_survey.specs.Counts.{is_free, is_record, is_second_copy, bytes_of, bytes_among, AreTotals}
use Rattle.image_survey.specs.Heads.{is_unknown}
use Rattle.image_survey.specs.declared.survey.SlotView.{SlotView}
use Rattle.image_survey.specs.Shown.{IsShown}
use Rattle.image_survey.proofs.KindLemmas.{record_kind, copy_kind}

-- the slots that are free, the first slots of records, the second copies, and the bytes of the records, of the first n slots
pub record Counted (size slots : ℕ) (image : List ℕ) (n f r s b : ℕ) : Type 0 where
  pub free : f ≡ count_below (λ k. is_free (kind_at size slots image k)) n
  pub records : r ≡ count_below (is_first (entry_at size slots image) slots) n
  pub second_copies : s ≡ count_below (λ k. is_up (size - 64) slots (slot_at size image k) && not (is_first (entry_at size slots image) slots k)) n
  pub bytes : b ≡ bytes_among size slots image n

pub counted-none : (size slots : ℕ) (image : List ℕ) → Counted size slots image 0 0 0 0 0
unfolding count_below
counted-none size slots image = record { free = refl; records = refl; second_copies = refl; bytes = refl }

pub count_none : (test : ℕ → Bool) → 0 ≡ count_below test 0
unfolding count_below
count_none test = refl

-- one more of what a test counts
pub count_more : (test : ℕ → Bool) (n so_far more : ℕ) → so_far ≡ count_below test n → more ≡ one_if (test n) → so_far + more ≡ count_below test (n + 1)
unfolding count_below
count_more test n so_far more had is =
    let up : n + 1 ≡ suc n = omega arith in
    let next : count_below test (n + 1) ≡ one_if (test n) + count_below test n = ap (count_below test) up in
    omega arith

bytes_more : (size slots : ℕ) (image : List ℕ) (n so_far more : ℕ) → so_far ≡ bytes_among size slots image n
    → more ≡ bytes_of (kind_at size slots image n) (slot_at size image n).head.len → so_far + more ≡ bytes_among size slots image (n + 1)
bytes_more size slots image n so_far more had is =
    let up : n + 1 ≡ suc n = omega arith in
    let next : bytes_among size slots image (n + 1) ≡ bytes_among size slots image n + bytes_of (kind_at size slots image n) (slot_at size image n).head.len =
    ap (bytes_among size slots image) up in
    omega arith

-- one more slot
pub counted-more : (size slots : ℕ) (image : List ℕ) (n f r s b f' r' s' b' : ℕ) (view : SlotView) → IsShown size slots image n view → Counted size slots image n f r s b
    → f' ≡ one_if (is_free view.kind) → r' ≡ one_if (is_record view.kind) → s' ≡ one_if (is_second_copy view.kind) → b' ≡ bytes_of view.kind view.look.head.len
    → Counted size slots image (n + 1) (f + f') (r + r') (s + s') (b + b')
counted-more size slots image n f r s b f' r' s' b' view shown had one two three four = record {
  free = count_more (λ k. is_free (kind_at size slots image k)) n f f' had.free (one ∙ (λ i. one_if (is_free (shown.kind i))));
  records = count_more (is_first (entry_at size slots image) slots) n r r' had.records
      (two ∙ (λ i. one_if (is_record (shown.kind i))) ∙ ap one_if (record_kind size slots n image));
  second_copies = count_more (λ k. is_up (size - 64) slots (slot_at size image k) && not (is_first (entry_at size slots image) slots k)) n s s' had.second_copies
      (three ∙ (λ i. one_if (is_second_copy (shown.kind i))) ∙ ap one_if (copy_kind size slots n image));
  bytes = bytes_more size slots image n b b' had.bytes (four ∙ (λ i. bytes_of (shown.kind i) (shown.seen.head i).len));
}

-- all slots
pub totals_are : (size slots : ℕ) (image : List ℕ) (n f r s b : ℕ) → n ≡ slots → Counted size slots image n f r s b
    → AreTotals size slots image (record { free = f; records = r; second_copies = s; bytes = b })
unfolding stored_in second_copies
totals_are size slots image n f r s b end all = record {
  free = all.free ∙ ap (count_below (λ k. is_free (kind_at size slots image k))) end;
  records = all.records ∙ ap (count_below (is_first (entry_at size slots image) slots)) end ∙ first_count (entry_at size slots image) slots;
  second_copies = all.second_copies ∙ ap (count_below (λ k. is_up (size - 64) slots (slot_at size image k) && not (is_first (entry_at size slots image) slots k))) end;
  bytes = all.bytes ∙ ap (bytes_among size slots image) end;
}

-- one more slot of those of no known form
pub unknown_more : (size slots : ℕ) (image : List ℕ) (n so_far more : ℕ) (view : SlotView) → IsShown size slots image n view
    → so_far ≡ count_below (λ k. is_unknown (kind_at size slots image k)) n → more ≡ one_if (is_unknown view.kind)
    → so_far + more ≡ count_below (λ k. is_unknown (kind_at size slots image k)) (n + 1)
unknown_more size slots image n so_far more view shown had is =
    count_more (λ k. is_unknown (kind_at size slots image k)) n so_far more had (is ∙ (λ i. one_if (is_unknown (shown.kind i))))
