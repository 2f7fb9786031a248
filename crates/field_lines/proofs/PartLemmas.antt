-- One part more, and no part more.
use Rattle.std.proofs.Common.{◌≡◌, ℕ, zero, suc, ◌+◌, ◌-◌, ◌<◌, ◌≤◌, List, ◌++◌, length, drop, true, false, refl, sym, ap, ◌∙◌, arith, nat_lt, append_assoc}
use Rattle.std.specs.Prelude.{if◌then◌else◌}
use Rattle.std.proofs.lemmas.Grind.{common_steps}
use Rattle.base_model.specs.Bytes.{part}
use Rattle.field_lines.specs.Fields.{Field}
use Rattle.field_lines.specs.Layouts.{Group, Heading, parts_text, parts_end, part_text, part_size, end_text}

one_less : (n : ℕ) → n ≡ suc n - 1
one_less n = omega arith

-- with parts left and the end not reached
pub next_part :
    (text : ℕ → ℕ → Field → List ℕ → List ℕ) (heading : ℕ → ℕ → Heading → List ℕ) (base : ℕ) (body : List ℕ) (group : Group) (n index at : ℕ)
    → 0 < n → at < length body
    → parts_text text heading base body group n index at
    ≡ part_text text heading group index (base + at) (part body at (part_size group.measure (drop at body)))
    ++ parts_text text heading base body group (n - 1) (index + 1) (at + part_size group.measure (drop at body))
unfolding parts_text
next_part text heading base body group zero index at some within = absurd (omega (arith, some))
next_part text heading base body group (suc n) index at some within =
    let test : nat_lt at (length body) ≡ true = grind (arith, common_steps) in
    let size : ℕ = part_size group.measure (drop at body) in
    rw test (ap
    (λ (more : ℕ). part_text text heading group index (base + at) (part body at size) ++ parts_text text heading base body group more (index + 1) (at + size))
    (one_less n))

pub no_next_part :
    (text : ℕ → ℕ → Field → List ℕ → List ℕ) (heading : ℕ → ℕ → Heading → List ℕ) (base : ℕ) (body : List ℕ) (group : Group) (n index at : ℕ)
    → length body ≤ at → parts_text text heading base body group n index at ≡ end_text heading index (base + at)
unfolding parts_text
no_next_part text heading base body group zero index at beyond = refl
no_next_part text heading base body group (suc n) index at beyond =
    let test : nat_lt at (length body) ≡ false = grind (arith, common_steps) in
    rw test refl

pub no_part_left :
    (text : ℕ → ℕ → Field → List ℕ → List ℕ) (heading : ℕ → ℕ → Heading → List ℕ) (base : ℕ) (body : List ℕ) (group : Group) (n index at : ℕ)
    → n ≡ 0 → parts_text text heading base body group n index at ≡ end_text heading index (base + at)
unfolding parts_text
no_part_left text heading base body group zero index at none = refl
no_part_left text heading base body group (suc n) index at none = absurd (omega (arith, none))

pub next_end : (body : List ℕ) (group : Group) (n at : ℕ) → 0 < n → at < length body → parts_end body group n at ≡ parts_end body group (n - 1) (at + part_size group.measure (drop at body))
unfolding parts_end
next_end body group zero at some within = absurd (omega (arith, some))
next_end body group (suc n) at some within =
    let test : nat_lt at (length body) ≡ true = grind (arith, common_steps) in
    rw test (ap (λ (more : ℕ). parts_end body group more (at + part_size group.measure (drop at body))) (one_less n))

pub no_next_end : (body : List ℕ) (group : Group) (n at : ℕ) → length body ≤ at → parts_end body group n at ≡ at
unfolding parts_end
no_next_end body group zero at beyond = refl
no_next_end body group (suc n) at beyond =
    let test : nat_lt at (length body) ≡ false = grind (arith, common_steps) in
    rw test refl

pub no_end_left : (body : List ℕ) (group : Group) (n at : ℕ) → n ≡ 0 → parts_end body group n at ≡ at
unfolding parts_end
no_end_left body group zero at none = refl
no_end_left body group (suc n) at none = absurd (omega (arith, none))

-- a part was written
pub wrote_part :
    (text : ℕ → ℕ → Field → List ℕ → List ℕ) (heading : ℕ → ℕ → Heading → List ℕ) (base : ℕ) (body : List ℕ) (group : Group) (n index at size : ℕ) (old new bytes : List ℕ)
    → size ≡ part_size group.measure (drop at body) → bytes ≡ part body at size → new ≡ old ++ part_text text heading group index (base + at) bytes
    → 0 < n → at < length body
    → new ++ parts_text text heading base body group (n - 1) (index + 1) (at + size) ≡ old ++ parts_text text heading base body group n index at
wrote_part text heading base body group n index at size old new bytes size_is bytes_are new_is some within =
    let full : ℕ = part_size group.measure (drop at body) in
    let next : List ℕ = part_text text heading group index (base + at) (part body at full) in
    let others : List ℕ = parts_text text heading base body group (n - 1) (index + 1) (at + full) in
    let written : new ≡ old ++ next =
    new_is ∙ ap (λ (b : List ℕ). old ++ part_text text heading group index (base + at) b) bytes_are
    ∙ ap (λ (s : ℕ). old ++ part_text text heading group index (base + at) (part body at s)) size_is in
    ap (λ (s : ℕ). new ++ parts_text text heading base body group (n - 1) (index + 1) (at + s)) size_is
    ∙ ap (λ (front : List ℕ). front ++ others) written
    ∙ append_assoc old next others
    ∙ ap (λ (t : List ℕ). old ++ t) (sym (next_part text heading base body group n index at some within))

pub behind_part : (body : List ℕ) (group : Group) (n at size : ℕ)
    → size ≡ part_size group.measure (drop at body) → 0 < n → at < length body → parts_end body group (n - 1) (at + size) ≡ parts_end body group n at
behind_part body group n at size size_is some within =
    ap (λ (s : ℕ). parts_end body group (n - 1) (at + s)) size_is ∙ sym (next_end body group n at some within)
