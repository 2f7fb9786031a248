-- Requests, one after another.
use Rattle.std.proofs.Common.{◌≡◌, ℕ, List, [], ◌∷◌, Result, Ok, Err, refl}
use Rattle.apei_space.specs.Calls.{Call}
use Rattle.erst_entries.specs.declared.entries.Entry.{Entry}
use Rattle.erst_interp.specs.declared.stops.RunStop.{RunStop}
use Rattle.erst_client.specs.declared.requests.Request.{Request}
use Rattle.erst_client.specs.Requests.{Performs, Asks, NoneLeft, Answered, StopsLater, StopsHere}

-- an answer, and those of the requests behind it
abbrev pub with_answer : ℕ → Result (List ℕ) RunStop → Result (List ℕ) RunStop
with_answer answer (Ok answers) = Ok (answer ∷ answers)
with_answer answer (Err stop) = Err stop

-- the first request was answered, or stopped
pub data FirstAsked {W : Type 0} (allows : W → Call → W → Type 0) (entries : List Entry) (request : Request) (rest : List Request) (budget : ℕ) (old : W)
    (result : Result (List ℕ) RunStop) (left : ℕ) (last : W) : Type 0 where
  Went : (answer asked : ℕ) (mid : W) (others : Result (List ℕ) RunStop) → Performs allows entries request.action request.given budget old (Ok answer) asked mid
      → Asks allows entries rest asked mid others left last → result ≡ with_answer answer others → FirstAsked allows entries request rest budget old result left last
  Halted : (stop : RunStop) → Performs allows entries request.action request.given budget old (Err stop) left last → result ≡ Err stop →
      FirstAsked allows entries request rest budget old result left last

pub first_asked : {W : Type 0} (allows : W → Call → W → Type 0) (entries : List Entry) (request : Request) (rest : List Request) (budget : ℕ) (old : W)
    (result : Result (List ℕ) RunStop) (left : ℕ) (last : W)
    → Asks allows entries (request ∷ rest) budget old result left last → FirstAsked allows entries request rest budget old result left last
first_asked allows entries request rest budget old result left last (Answered r rs b o answer asked mid answers after l run more) = Went answer asked mid (Ok answers) run more refl
first_asked allows entries request rest budget old result left last (StopsLater r rs b o answer asked mid stop after l run more) = Went answer asked mid (Err stop) run more refl
first_asked allows entries request rest budget old result left last (StopsHere r rs b o stop after l run) = Halted stop run refl

-- none is left
pub record NoneAsked {W : Type 0} (budget : ℕ) (old : W) (result : Result (List ℕ) RunStop) (left : ℕ) (last : W) : Type 0 where
  pub result_is : result ≡ Ok []
  pub left_is : left ≡ budget
  pub last_is : last ≡ old

pub none_asked : {W : Type 0} (allows : W → Call → W → Type 0) (entries : List Entry) (budget : ℕ) (old : W) (result : Result (List ℕ) RunStop) (left : ℕ)
    (last : W) → Asks allows entries [] budget old result left last
    → NoneAsked budget old result left last
none_asked allows entries budget old result left last (NoneLeft b o) = record { result_is = refl; left_is = refl; last_is = refl }
