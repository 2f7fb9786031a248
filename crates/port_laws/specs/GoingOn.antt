-- What a caller asks of a port, one thing after another, with its medium made to hold all before each.
use Rattle.std.specs.Prelude.{◌≡◌, ℕ, List, [], ◌∷◌, Result}
use Rattle.apei_tables.specs.declared.widths.Width.{Width}
use Rattle.erst_port.specs.declared.errors.PortError.{PortError}
use Rattle.erst_port.specs.declared.windows.Location.{Location}
use Rattle.erst_port.specs.Parts.{all_made}
use Rattle.erst_port.specs.PortState.{PortState, flash_of}
use Rattle.erst_port.specs.Accesses.{NumberWritten, bytes_stored, Resets}

-- a write of a number, one of bytes of the log range, and a restart
pub data Ask : Type 0 where
  AsksNumber : (location : Location) (width : Width) (value : ℕ) → Ask
  AsksBytes : (location : Location) (bytes : List ℕ) → Ask
  AsksRestart : Ask

abbrev pub Answers : PortState → Ask → Result (Unit {0}) PortError → PortState → Type 0
Answers old (AsksNumber location width value) answer new = NumberWritten location old width value answer new
Answers old (AsksBytes location bytes) answer new = (answer ≡ (bytes_stored location old bytes).0) × (new ≡ (bytes_stored location old bytes).1)
Answers old AsksRestart answer new = Resets old answer new

-- the port once its medium has made every change
abbrev pub fully_made : PortState → PortState
fully_made port = record port { made = all_made (flash_of port).steps }

-- what was answered, one after another, and the port at the end
abbrev pub AnswersAll : PortState → List Ask → List (Result (Unit {0}) PortError) → PortState → Type 0
AnswersAll old [] answers new = (answers ≡ []) × (new ≡ old)
AnswersAll old (ask ∷ rest) answers new =
    (answer : Result (Unit {0}) PortError) × (behind : PortState) × (more : List (Result (Unit {0}) PortError))
    × Answers old ask answer behind × AnswersAll (fully_made behind) rest more new × (answers ≡ answer ∷ more)
