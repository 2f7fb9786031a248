-- What changes of a flash leave of the spans of its sectors.
use Rattle.std.proofs.Common.{◌≡◌, ℕ, ◌+◌, ◌-◌, ◌*◌, ◌<◌, ◌≤◌, ◌⊎◌, List, length, get_or, set, replicate, refl, sym, ap, subst, ◌∙◌, arith, inl, inr}
use Rattle.std.proofs.Math.ListN.{length-set}
use Rattle.std.proofs.Math.Nat.{mul-le-mul_right}
use Rattle.std.proofs.lemmas.Bool.{cases_eq, cases_lt}
use Rattle.std.proofs.lemmas.List.{get_or-replicate, get_or-set_other, get_or-set_same, length-replicate}
use Rattle.base_model.specs.Bytes.{part, put_at, SameOutside}
use Rattle.base_model.proofs.BytesLemmas.{SameOutside-wider, SameOutside-put_at, part-put_at, is_put_at}
use Rattle.base_model.specs.Flash.{IsErased}
use Rattle.base_model.proofs.ErasedLemmas.{slots_apart, IsErased-before, IsErased-after, IsErased-append, IsErased-within}
use Rattle.flash_model.specs.declared.spans.Span.{Span}
use Rattle.flash_model.specs.Spans.{IsErasedBut, AreErasedBut}

abbrev pub no_bytes : Span
no_bytes = record { from = 0; to = 0 }

pub rest_stays : (old new : List ℕ) (at : ℕ) (bytes : List ℕ) → at + length bytes ≤ length old → new ≡ put_at old at bytes → SameOutside at (length bytes) old new
rest_stays old new at bytes within put = rw put (SameOutside-put_at old at bytes within)

none_erased : (image : List ℕ) (place n : ℕ) → n ≡ 0 → IsErased image place n
unfolding part
none_erased image place n none = rw none refl

-- a span of all bytes leaves none that are erased
pub known_of_all : (sector n : ℕ) (image : List ℕ) (spans : List Span) → spans ≡ replicate n (record { from = 0; to = sector }) → AreErasedBut spans sector image
known_of_all sector n image spans all s h =
    let span : Span = record { from = 0; to = sector } in
    let low : s < n = omega (arith, h, ap (length {A = Span}) all ∙ length-replicate n span) in
    let is : get_or spans s no_bytes ≡ span = ap (λ (xs : List Span). get_or xs s no_bytes) all ∙ get_or-replicate n s span no_bytes low in
    rw is (record { from = omega arith; to = omega arith; before = none_erased image (s * sector) 0 refl; behind = none_erased image (s * sector + sector) (sector - sector) (omega arith) })

-- a change before a sector, and one behind it
pub stays_behind : (span : Span) (sector place at len : ℕ) (old new : List ℕ) → SameOutside at len old new → at + len ≤ place → IsErasedBut span sector old place → IsErasedBut span sector new place
stays_behind span sector place at len old new same h but = record {
  from = but.from;
  to = but.to;
  before = IsErased-after at len place span.from old new same h but.before;
  behind = IsErased-after at len (place + span.to) (sector - span.to) old new same (omega arith) but.behind;
}

pub stays_before : (span : Span) (sector place at len : ℕ) (old new : List ℕ) → SameOutside at len old new → place + sector ≤ at → IsErasedBut span sector old place → IsErasedBut span sector new place
stays_before span sector place at len old new same h but = record {
  from = but.from;
  to = but.to;
  before = IsErased-before at len place span.from old new same (omega (arith, but.from)) but.before;
  behind = IsErased-before at len (place + span.to) (sector - span.to) old new same (omega (arith, but.to)) but.behind;
}

-- a change that has bytes of a sector
pub stays_widened : (span wider : Span) (sector place at len : ℕ) (old new : List ℕ) → SameOutside at len old new
    → wider.from ≤ span.from → wider.from ≤ at - place → span.to ≤ wider.to → wider.to ≤ sector → (at + len ≤ place + wider.to) ⊎ (wider.to ≡ sector)
    → IsErasedBut span sector old place → IsErasedBut wider sector new place
stays_widened span wider sector place at len old new same less from more to end but = record {
  from = omega (arith, but.from);
  to = to;
  before = elim (cases_eq wider.from 0) [
    | inl none ↦ none_erased new place wider.from none
    | inr some ↦ IsErased-before at len place wider.from old new same (omega arith) (IsErased-within old place span.from place wider.from but.before (omega arith) (omega arith))
  ];
  behind = elim end [
    | inl beyond ↦
        IsErased-after at len (place + wider.to) (sector - wider.to) old new same beyond
        (IsErased-within old (place + span.to) (sector - span.to) (place + wider.to) (sector - wider.to) but.behind (omega arith) (omega arith))
    | inr all ↦ none_erased new (place + wider.to) (sector - wider.to) (omega arith)
  ];
}

-- ones in the span make the whole sector erased
pub fills_sector : (span : Span) (sector at : ℕ) (old new : List ℕ) → IsErasedBut span sector old at → at + sector ≤ length old
    → new ≡ put_at old (at + span.from) (replicate (span.to - span.from) 0xFF) → new ≡ put_at old at (replicate sector 0xFF)
fills_sector span sector at old new but within put =
    let n = span.to - span.from in
    let ones : List ℕ = replicate n 0xFF in
    let long : length ones ≡ n = length-replicate n 0xFF in
    let all : length {A = ℕ} (replicate sector 0xFF) ≡ sector = length-replicate sector 0xFF in
    let fits : (at + span.from) + length ones ≤ length old = omega (arith, long, but.from, but.to) in
    let same : SameOutside (at + span.from) n old new =
    subst (λ (k : ℕ). SameOutside (at + span.from) k old new) long (rw put (SameOutside-put_at old (at + span.from) ones fits)) in
    let filled : IsErased new (at + span.from) n =
    subst (λ (k : ℕ). part new (at + span.from) k ≡ ones) long (rw put (part-put_at old (at + span.from) ones fits)) in
    let before : IsErased new at span.from = IsErased-before (at + span.from) n at span.from old new same (omega arith) but.before in
    let rest = sector - (span.from + n) in
    let behind : IsErased new (at + (span.from + n)) rest =
    IsErased-after (at + span.from) n (at + (span.from + n)) rest old new same (omega arith)
    (IsErased-within old (at + span.to) (sector - span.to) (at + (span.from + n)) rest but.behind (omega arith) (omega (arith, but.from, but.to))) in
    let erased : IsErased new at ((span.from + n) + rest) = IsErased-append new at (span.from + n) rest (IsErased-append new at span.from n before filled) behind in
    let whole : (span.from + n) + rest ≡ sector = omega (arith, but.from, but.to) in
    is_put_at old new at (replicate sector 0xFF)
    (subst (λ (k : ℕ). SameOutside at k old new) (sym all) (SameOutside-wider (at + span.from) n at sector old new (omega arith) (omega (arith, but.from, but.to)) same))
    (subst (λ (k : ℕ). part new at k ≡ replicate sector 0xFF) (sym all) (subst (λ (k : ℕ). IsErased new at k) whole erased))

-- a sector that was erased
erased_outside : (sector at : ℕ) (old new : List ℕ) → at + sector ≤ length old → new ≡ put_at old at (replicate sector 0xFF) → SameOutside at sector old new
erased_outside sector at old new within put =
    let all : length {A = ℕ} (replicate sector 0xFF) ≡ sector = length-replicate sector 0xFF in
    subst (λ (k : ℕ). SameOutside at k old new) all (rw put (SameOutside-put_at old at (replicate sector 0xFF) (omega (arith, all))))

erased_now : (sector at : ℕ) (old new : List ℕ) → at + sector ≤ length old → new ≡ put_at old at (replicate sector 0xFF) → IsErased new at sector
erased_now sector at old new within put =
    let all : length {A = ℕ} (replicate sector 0xFF) ≡ sector = length-replicate sector 0xFF in
    subst (λ (k : ℕ). part new at k ≡ replicate sector 0xFF) all (rw put (part-put_at old at (replicate sector 0xFF) (omega (arith, all))))

other_sector : (span : Span) (sector number s : ℕ) (old new : List ℕ) → SameOutside (number * sector) sector old new → (number ≡ s → ⊥) →
    IsErasedBut span sector old (s * sector) → IsErasedBut span sector new (s * sector)
other_sector span sector number s old new same apart but = elim (cases_lt s number) [
  | inl below ↦ stays_before span sector (s * sector) (number * sector) sector old new same (slots_apart s number sector below) but
  | inr above ↦ stays_behind span sector (s * sector) (number * sector) sector old new same (slots_apart number s sector (omega (arith, above, apart))) but
]

pub erases : (spans : List Span) (clear : Span) (sector number : ℕ) (old new : List ℕ) → number * sector + sector ≤ length old → new ≡ put_at old (number * sector) (replicate sector 0xFF)
    → clear.from ≡ sector → clear.to ≡ 0 → number < length spans → AreErasedBut spans sector old → AreErasedBut (set spans number clear) sector new
erases spans clear sector number old new within put from to here known s h =
    let same = erased_outside sector (number * sector) old new within put in
    let erased = erased_now sector (number * sector) old new within put in
    let listed : s < length spans = omega (arith, h, length-set spans number clear) in
    elim (cases_eq s number) [
      | inl at ↦
          let now : get_or (set spans number clear) s no_bytes ≡ clear = ap (λ (k : ℕ). get_or (set spans number clear) k no_bytes) at ∙ get_or-set_same spans number clear no_bytes here in
          rw (now, at)
          (record {
            from = omega (arith, from);
            to = omega (arith, to);
            before = subst (λ (k : ℕ). IsErased new (number * sector) k) (sym from) erased;
            behind = IsErased-within new (number * sector) sector (number * sector + clear.to) (sector - clear.to) erased (omega arith) (omega (arith, to));
          })
      | inr apart ↦
          let now : get_or (set spans number clear) s no_bytes ≡ get_or spans s no_bytes = get_or-set_other spans number s clear no_bytes apart in
          rw now (other_sector (get_or spans s no_bytes) sector number s old new same (λ is. apart (sym is)) (known s listed))
    ]

-- a sector behind all that are known
pub erases_behind : (spans : List Span) (sector number : ℕ) (old new : List ℕ) → number * sector + sector ≤ length old → new ≡ put_at old (number * sector) (replicate sector 0xFF)
    → length spans ≤ number → AreErasedBut spans sector old → AreErasedBut spans sector new
erases_behind spans sector number old new within put behind known s h =
    stays_before (get_or spans s no_bytes) sector (s * sector) (number * sector) sector old new (erased_outside sector (number * sector) old new within put)
    (slots_apart s number sector (omega arith)) (known s h)

-- sectors without bytes
pub known_of_none : (spans : List Span) (old new : List ℕ) → AreErasedBut spans 0 old → AreErasedBut spans 0 new
known_of_none spans old new known s h =
    let but = known s h in
    let span = get_or spans s no_bytes in
    record {
      from = but.from;
      to = but.to;
      before = none_erased new (s * 0) span.from (omega (arith, but.from));
      behind = none_erased new (s * 0 + span.to) (0 - span.to) (omega arith);
    }

-- the first sectors were widened by a range
pub record AreWidened (sector at len n : ℕ) (old now : List Span) : Type 0 where
  pub count : length now ≡ length old
  pub before : (s : ℕ) → s < n → s < length old → (image new : List ℕ) → SameOutside at len image new → IsErasedBut (get_or old s no_bytes) sector image
      (s * sector) → IsErasedBut (get_or now s no_bytes) sector new (s * sector)
  pub behind : (s : ℕ) → n ≤ s → get_or now s no_bytes ≡ get_or old s no_bytes

pub widened_none : (sector at len n : ℕ) (spans : List Span) → n * sector ≤ at → AreWidened sector at len n spans spans
widened_none sector at len n spans begins = record {
  count = refl;
  before = λ s below listed image new same but.
      let ends = slots_apart s n sector below in
      stays_before (get_or spans s no_bytes) sector (s * sector) at len image new same (omega (arith, ends, begins)) but;
  behind = λ s h. refl;
}

pub widened_more : (sector at len n : ℕ) (old now : List Span) (wider : Span) → n < length old → AreWidened sector at len n old now
    → ((image new : List ℕ) → SameOutside at len image new → IsErasedBut (get_or old n no_bytes) sector image (n * sector) → IsErasedBut wider sector new (n * sector))
    → AreWidened sector at len (n + 1) old (set now n wider)
widened_more sector at len n old now wider listed had widens = record {
  count = length-set now n wider ∙ had.count;
  before = λ s below inside image new same but. elim (cases_eq s n) [
    | inl here ↦
        let is : get_or (set now n wider) s no_bytes ≡ wider = ap (λ (k : ℕ). get_or (set now n wider) k no_bytes) here ∙ get_or-set_same now n wider no_bytes (omega (arith, listed, had.count)) in
        rw is (subst (λ (k : ℕ). IsErasedBut wider sector new (k * sector)) (sym here)
        (widens image new same (subst (λ (k : ℕ). IsErasedBut (get_or old k no_bytes) sector image (k * sector)) here but)))
    | inr apart ↦ rw (get_or-set_other now n s wider no_bytes apart) (had.before s (omega (arith, below, apart)) inside image new same but)
  ];
  behind = λ s h. get_or-set_other now n s wider no_bytes (omega (arith, h)) ∙ had.behind s (omega arith);
}

pub widened_all : (sector at len n : ℕ) (old now : List Span) → AreWidened sector at len n old now → (length old ≤ n) ⊎ (at + len ≤ n * sector)
    → (image new : List ℕ) → SameOutside at len image new → AreErasedBut old sector image → AreErasedBut now sector new
widened_all sector at len n old now had end image new same known s h =
    let inside : s < length old = omega (arith, h, had.count) in
    elim (cases_lt s n) [
      | inl below ↦ had.before s below inside image new same (known s inside)
      | inr beyond ↦ elim end [
        | inl none ↦ absurd (omega arith)
        | inr ends ↦
            let later : n * sector ≤ s * sector = mul-le-mul_right sector (omega (arith, beyond)) in
            rw (had.behind s (omega (arith, beyond))) (stays_behind (get_or old s no_bytes) sector (s * sector) at len image new same (omega arith) (known s inside))
      ]
    ]
