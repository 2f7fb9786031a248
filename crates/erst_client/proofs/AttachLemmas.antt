-- What attaching asks, and its accesses.
use Rattle.std.proofs.Common.{◌≡◌, ℕ, ◌==◌, not, nat_lt, cond, Bool, true, false, bit_and, List, [], ◌∷◌, length, slice_get, Option, Result, Ok, Err, refl, sym, ap, subst}
use Rattle.std.proofs.lemmas.Bool.{eq-eqb, ne_eqb}
use Rattle.apei_space.specs.Calls.{Call}
use Rattle.apei_space.specs.Accesses.{Reaches, Stays}
use Rattle.erst_entries.specs.declared.actions.Action.TheVariants.{GetExecuteOperationTimings}
use Rattle.erst_entries.specs.declared.entries.Entry.{Entry}
use Rattle.erst_entries.specs.Actions.{code_of}
use Rattle.erst_entries.specs.Layout.{Erst}
use Rattle.erst_entries.specs.Programs.{entries_of}
use Rattle.erst_interp.specs.declared.stops.RunStop.{RunStop}
use Rattle.erst_client.specs.declared.errors.AttachError.{AttachError}
use Rattle.erst_client.specs.declared.errors.AttachError.TheVariants.{NonVolatile, NoRange}
use Rattle.erst_client.specs.declared.requests.Request.{Request}
use Rattle.erst_client.specs.Timings.{timings_of}
use Rattle.erst_client.specs.Requests.{Asks, NoneLeft, Answered, StopsHere}
use Rattle.erst_client.specs.Commands.{ClientState}
use Rattle.erst_client.specs.Attaching.{attach_requests, Attaches, client_result, found_result, AsksTimings, NoTimings, HasTimings, TimingsStop}
use Rattle.erst_client.proofs.RequestLemmas.{asks_on}
use Rattle.erst_client.proofs.Terms.{timing_requests, attached}

-- the request that the timings are, or none
abbrev pub TimingsAsked : {W : Type 0} → (W → Call → W → Type 0) → List Entry → ℕ → ℕ → W → Result (Option (ℕ × ℕ)) RunStop → ℕ → W → Type 0
TimingsAsked allows entries count budget old (Ok timings) left last =
    (answers : List ℕ) × (Asks allows entries (timing_requests count) budget old (Ok answers) left last × (timings ≡ timings_of (slice_get answers 0)))
TimingsAsked allows entries count budget old (Err stop) left last = Asks allows entries (timing_requests count) budget old (Err stop) left last

abbrev timings_one : Request
timings_one = record { action = GetExecuteOperationTimings; given = 0 }

none_asked : (count : ℕ) → count ≡ 0 → [] ≡ timing_requests count
none_asked count none = sym (ap (λ (b : Bool). cond {A = List Request} b [] (timings_one ∷ [])) (eq-eqb count 0 none))

one_asked : (count : ℕ) → (count ≡ 0 → ⊥) → timings_one ∷ [] ≡ timing_requests count
one_asked count some = sym (ap (λ (b : Bool). cond {A = List Request} b [] (timings_one ∷ [])) (ne_eqb count 0 some))

pub timings_asked : {W : Type 0} (allows : W → Call → W → Type 0) (entries : List Entry) (budget : ℕ) (old : W) (result : Result (Option (ℕ × ℕ)) RunStop) (left : ℕ) (last : W) →
    AsksTimings allows entries budget old result left last → TimingsAsked allows entries (length (entries_of (code_of GetExecuteOperationTimings) entries)) budget old result left last
timings_asked allows entries budget old result left last asks =
    let count = length (entries_of (code_of GetExecuteOperationTimings) entries) in
    elim asks as (λ result left last asks. TimingsAsked allows entries (length (entries_of (code_of GetExecuteOperationTimings) entries)) budget old result left last) [
      | NoTimings none ↦
          ([], (subst (λ (r : List Request). Asks allows entries r budget old (Ok []) budget old) (none_asked count none) (NoneLeft budget old), refl))
      | HasTimings answer left last some run ↦ (
        answer ∷ [],
        (
          subst (λ (r : List Request). Asks allows entries r budget old (Ok (answer ∷ [])) left last) (one_asked count some)
              (Answered timings_one [] budget old answer left last [] left last run (NoneLeft left last)),
          refl,
        ),
      )
      | TimingsStop stop left last some run ↦
          subst (λ (r : List Request). Asks allows entries r budget old (Err stop) left last) (one_asked count some) (StopsHere timings_one [] budget old stop left last run)
    ]

-- what is found makes the client of the answers
pub found_attached : (erst : Erst) (address len attributes : ℕ) (timings : Option (ℕ × ℕ)) (answers : List ℕ) → timings ≡ timings_of (slice_get answers 0) →
    client_result erst (found_result address len attributes timings) ≡ attached erst (Ok (address ∷ len ∷ attributes ∷ answers))
found_attached erst address len attributes timings answers is = go (not (bit_and attributes 2 == 0)) (nat_lt len 128) where
  go : (b d : Bool) →
      client_result erst (cond b (Err (NonVolatile attributes)) (cond d (Err (NoRange len)) (Ok (record { address = address; len = len; timings = timings }))))
      ≡ cond {A = Result ClientState AttachError} b (Err (NonVolatile attributes))
      (cond d (Err (NoRange len)) (Ok (record { table = erst; address = address; range = len; timings = timings_of (slice_get answers 0) })))
  go true d = refl
  go false true = refl
  go false false = ap (λ (t : Option (ℕ × ℕ)). answer_of t) is where
    answer_of : Option (ℕ × ℕ) → Result ClientState AttachError
    answer_of t = Ok (record { table = erst; address = address; range = len; timings = t })

pub attaches_on : {W : Type 0} (allows : W → Call → W → Type 0) (erst : Erst) (budget : ℕ) (old : W) (result : Result ClientState AttachError) (left : ℕ) (last : W) →
    Attaches allows erst budget old result left last → Reaches allows old last
attaches_on allows erst budget old result left last attaches = asks_on allows erst.entries old (attach_requests erst.entries) budget old attaches.answers left last Stays attaches.asks
