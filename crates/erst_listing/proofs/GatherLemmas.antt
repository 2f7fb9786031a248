-- Whatever is answered, a listing has each identifier once, and no other than was answered.
use Rattle.std.proofs.Common.{ℕ, ◌≤◌, Bool, List, length, Option, Result, Ok, inl, inr, sym, subst, arith}
use Rattle.std.specs.Prelude.{Contains}
use Rattle.erst_client.specs.declared.errors.ClientError.{ClientError}
use Rattle.erst_listing.specs.Gathering.{GoesOn, IsNew, EndsOnce, Gathers, NoneAsked, OneAsked}
use Rattle.erst_listing.specs.Devices.{AreDistinct, IsAnAnswer}
use Rattle.erst_listing.proofs.Lists.{none_in, in_more, distinct_more, length_more}

pub record IsGathered {W : Type 0} (asks : W → Result (Option ℕ) ClientError → W → Type 0) (room : ℕ) (ids : List ℕ) : Type 0 where
  pub fits : length ids ≤ room
  pub distinct : AreDistinct ids
  pub answered : (id : ℕ) → Contains ids id → IsAnAnswer asks id

one_more : {W : Type 0} (asks : W → Result (Option ℕ) ClientError → W → Type 0) (room : ℕ) (ids : List ℕ) (ended_once : Bool) (answer : Option ℕ) (more : List ℕ) (ends : Bool) (old new : W) →
    IsGathered asks room ids → asks old (Ok answer) new → GoesOn room ids ended_once answer more ends → IsGathered asks room more
one_more asks room ids ended_once answer more ends old new so asked on = (elim on as (λ (answer : Option ℕ) (more : List ℕ) (ends : Bool) on. asks old (Ok answer) new → IsGathered asks room more) [
  | IsNew id more misses fits is ↦ λ asked. subst (IsGathered asks room) (sym is) (record {
    fits = let long = length_more ids id in omega (arith, long, fits);
    distinct = distinct_more ids id so.distinct misses;
    answered = λ other has. elim (in_more ids id other has) [
      | inl same ↦ subst (IsAnAnswer asks) same (record { old = old; new = new; answers = asked })
      | inr earlier ↦ so.answered other earlier
    ];
  })
  | EndsOnce first ↦ λ asked. so
]) asked

pub gathered : {W : Type 0} (asks : W → Result (Option ℕ) ClientError → W → Type 0) (room : ℕ) (first : W) (ids : List ℕ) (ended_once : Bool) (last : W) →
    Gathers asks room first ids ended_once last → IsGathered asks room ids
gathered asks room first ids ended_once last NoneAsked = record { fits = omega arith; distinct = tt; answered = λ id has. absurd (none_in id has) }
gathered asks room first ids ended_once last (OneAsked before was mid answer more ends after gathers asked on) =
    one_more asks room before was answer more ends mid after (gathered asks room first before was mid gathers) asked on
