-- A medium whose first sector stays is one of the same geometry.
use Rattle.std.proofs.Common.{◌≡◌, ◌∙◌, ℕ, zero, suc, ◌+◌, ◌-◌, ◌*◌, ◌%◌, ◌^◌, ◌≤◌, List, length, refl, sym, ap, arith}
use Rattle.std.proofs.lemmas.List.{drop_all}
use Rattle.base_model.specs.Bytes.{SameOutside}
use Rattle.base_model.proofs.BytesLemmas.{part-before, number_at-before}
use Rattle.flash_model.specs.declared.geometry.Geometry.{Geometry}
use Rattle.image_survey.specs.Checksums.{word_sum}
use Rattle.image_survey.specs.Headers.{IsMedium}
use Rattle.port_laws.specs.Losses.{SameFront}

outside : (origin : ℕ) (old new : List ℕ) → SameFront origin old new → SameOutside origin (length old - origin) old new
outside origin old new same = record {
  same_length = same.size;
  before = same.front;
  after = drop_all (origin + (length old - origin)) new (omega (arith, same.size)) ∙ sym (drop_all (origin + (length old - origin)) old (omega arith));
}

words_before : (at n count : ℕ) (old new : List ℕ) → SameOutside at n old new → 4 * count ≤ at → word_sum count new ≡ word_sum count old
unfolding word_sum
words_before at n zero old new same within = refl
words_before at n (suc count) old new same within =
    let rest = words_before at n count old new same (omega (arith, within)) in
    let word = number_at-before at n (4 * count) 4 old new same (omega (arith, within)) in
    omega (arith, rest, word)

pub medium_stays : (geometry : Geometry) (old new : List ℕ) → SameFront geometry.sector old new → IsMedium geometry old → IsMedium geometry new
medium_stays geometry old new front medium =
    let same = outside geometry.sector old new front in
    let n = length old - geometry.sector in
    let wide = geometry.least_sector in
    let whole = medium.has.whole in
    record {
      has = record {
        whole = record {
          long = omega (arith, whole.long, front.size);
          signed = number_at-before geometry.sector n 0 8 old new same (omega (arith, wide)) ∙ whole.signed;
          sealed = ap (λ (sum : ℕ). sum % 2 ^ 32) (words_before geometry.sector n 12 old new same (omega (arith, wide))) ∙ whole.sealed;
          marked = number_at-before geometry.sector n 48 1 old new same (omega (arith, wide)) ∙ whole.marked;
          begun = number_at-before geometry.sector n 49 1 old new same (omega (arith, wide)) ∙ whole.begun;
        };
        header = part-before geometry.sector n 0 48 old new same (omega (arith, wide)) ∙ medium.has.header;
      };
      size = front.size ∙ medium.size;
    }
