-- What one answer does: the questions that are left, and the buffer.
use Rattle.std.proofs.Common.{◌≡◌, ◌∙◌, ℕ, suc, ◌+◌, ◌<◌, ◌≤◌, Bool, true, List, length, take, Option, Some, Result, Ok, Err, refl, sym, subst, ap, arith}
use Rattle.std.proofs.lemmas.List.{length-take-le, length-set, drop-set-lt}
use Rattle.std.proofs.lemmas.Grind.{take-set_at}
use Rattle.std.specs.Prelude.{Contains, set}
use Rattle.erst_entries.specs.declared.entries.Entry.{Entry}
use Rattle.erst_client.specs.declared.errors.ClientError.{ClientError}
use Rattle.erst_listing.specs.declared.listing.Listing.{Listing}
use Rattle.erst_listing.specs.declared.listing.Listing.TheVariants.{Asking as Asks, Ended}
use Rattle.erst_listing.specs.declared.errors.ListError.TheVariants.{Full}
use Rattle.erst_listing.specs.Gathering.{GoesOn, IsNew, EndsOnce, HasNoRoom}
use Rattle.erst_listing.specs.Listing.{IsHeard, IsOver, IsAsked, asked, questions_left, listed_by}
use Rattle.erst_listing.proofs.Lists.{length_more}

-- an answer behind which one more question comes leaves one question fewer
on_lowers : (room : ℕ) (ids : List ℕ) (ended_once : Bool) (answer : Option ℕ) (more : List ℕ) (ends : Bool) → GoesOn room ids ended_once answer more ends →
    questions_left room (length more) ends < questions_left room (length ids) ended_once
on_lowers room ids ended_once answer more ends on = elim on as (λ (answer : Option ℕ) (more : List ℕ) (ends : Bool) on. questions_left room (length more) ends <
    questions_left room (length ids) ended_once) [
      | IsNew id more misses fits is ↦ fewer more (ap length is ∙ length_more ids id) fits
      | EndsOnce first ↦ subst (λ (b : Bool). questions_left room (length ids) true < questions_left room (length ids) b) (sym first) (omega arith)
    ]
  where
    fewer : (more : List ℕ) → length more ≡ length ids + 1 → length ids < room → questions_left room (length more) ended_once < questions_left room (length ids) ended_once
    fewer more long fits = omega (arith, long, fits)

-- how many questions come behind an answer
pub heard_lowers : (entries : List Entry) (steps listed : ℕ) (ended_once : Bool) (held : List ℕ) (count : ℕ) (ends : Bool) (answer : Option ℕ) (after : List ℕ)
    → listed ≤ length held → count ≤ length after →
    GoesOn (length held) (take listed held) ended_once answer (take count after) ends → questions_left (length held) count ends < questions_left (length held) listed ended_once
heard_lowers entries steps listed ended_once held count ends answer after fits counts on =
    let less = on_lowers (length held) (take listed held) ended_once answer (take count after) ends on in
    subst (λ (n : ℕ). questions_left (length held) count ends < questions_left (length held) n ended_once) (length-take-le listed held fits)
    (subst (λ (n : ℕ). questions_left (length held) n ends < questions_left (length held) (length (take listed held)) ended_once) (length-take-le count after counts) less)

-- the questions that are left, and the one that runs
abbrev pub listing_rank : ℕ → Listing → ℕ
listing_rank room (Asks listed ended_once asking) = suc (questions_left room listed ended_once)
listing_rank room (Ended listed result) = 0

pub rank_heard : (entries : List Entry) (steps listed : ℕ) (ended_once : Bool) (held : List ℕ) (answer : Result (Option ℕ) ClientError) (at : Listing) (after : List ℕ) → listed ≤ length held →
    IsHeard entries steps listed ended_once held answer at after → listing_rank (length after) at < suc (questions_left (length held) listed ended_once)
rank_heard entries steps listed ended_once held answer at after fits heard =
    elim heard as (λ (answer : Result (Option ℕ) ClientError) (at : Listing) (after : List ℕ) heard. listing_rank (length after) at < suc
    (questions_left (length held) listed ended_once)) [
      | IsOver answer result ends ↦ omega arith
      | IsAsked answer count ends after on counts same rest ↦
          let less = heard_lowers entries steps listed ended_once held count ends answer after fits counts on in
          subst (λ (n : ℕ). suc (questions_left n count ends) < suc (questions_left (length held) listed ended_once)) (sym same) (omega (arith, less))
    ]

-- the buffer keeps its length, and holds what is counted
pub room_heard : (entries : List Entry) (steps listed : ℕ) (ended_once : Bool) (held : List ℕ) (answer : Result (Option ℕ) ClientError) (at : Listing) (after : List ℕ) → listed ≤ length held →
    IsHeard entries steps listed ended_once held answer at after → (listed_by at ≤ length after) × (length after ≡ length held)
room_heard entries steps listed ended_once held answer at after fits heard =
    elim heard as (λ (answer : Result (Option ℕ) ClientError) (at : Listing) (after : List ℕ) heard. (listed_by at ≤ length after) × (length after ≡ length held)) [
      | IsOver answer result ends ↦ (fits, refl)
      | IsAsked answer count ends after on counts same rest ↦ (counts, same)
    ]

-- one for which the buffer has no room
pub told_full : (entries : List Entry) (steps listed : ℕ) (ended_once : Bool) (held : List ℕ) (id : ℕ) → listed ≡ length held → (Contains (take listed held) id → ⊥) →
    IsHeard entries steps listed ended_once held (Ok (Some id)) (Ended listed (Err Full)) held
told_full entries steps listed ended_once held id full misses =
    IsOver (Ok (Some id)) (Err Full) (HasNoRoom id misses (length-take-le listed held (omega (arith, full)) ∙ full))

-- one that is put into the buffer
pub told_new : (entries : List Entry) (steps listed : ℕ) (ended_once : Bool) (held : List ℕ) (id : ℕ) → listed ≤ length held → (listed ≡ length held → ⊥) → (Contains (take listed held) id → ⊥) →
    IsHeard entries steps listed ended_once held (Ok (Some id)) (asked entries steps (listed + 1) ended_once) (set held listed id)
told_new entries steps listed ended_once held id fits apart misses =
    let same = length-set held listed id in
    let long = length-take-le listed held fits in
    IsAsked (Some id) (listed + 1) ended_once (set held listed id) (IsNew id (take (listed + 1) (set held listed id)) misses (omega (arith, long, below))
    (take-set_at held listed (listed + 1) id refl below))
    (omega (arith, same, below)) same (drop-set-lt (listed + 1) held listed id (omega arith))
  where
    below : listed < length held
    below = grind (arith, apart)
