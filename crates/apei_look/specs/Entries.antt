-- What stands at a path, and what of it is known.
use Rattle.std.specs.Prelude.{◌≡◌, ℕ, Bool, true, false, List, length, take, Option, IfSome}
use Rattle.apei_look.specs.declared.host.Found.{Found}
use Rattle.apei_look.specs.declared.host.Found.TheVariants.{File}

-- what it is, whether a run holds it for its changes, and its bytes
pub record Entry : Type 0 where
  pub found : Found
  pub is_held : Bool
  pub bytes : List ℕ

-- this is what it is, where that is known
abbrev pub IsFound : Option Entry → Found → Type 0
IsFound entry found = IfSome entry (λ known. found ≡ known.found)

-- it could be locked exactly where no run holds it
abbrev pub IsLocked : Option Entry → (locked : Bool) → Type 0
IsLocked entry true = IfSome entry (λ known. known.is_held ≡ false)
IsLocked entry false = IfSome entry (λ known. known.is_held ≡ true)

-- it has so many bytes
abbrev pub IsSize : Option Entry → (size : ℕ) → Type 0
IsSize entry size = IfSome entry (λ known. size ≡ length known.bytes)

-- these are its first bytes, so many
pub record IsBeginning (entry : Option Entry) (len : ℕ) (bytes : List ℕ) : Type 0 where
  pub sized : length bytes ≡ len
  pub first : IfSome entry (λ known. bytes ≡ take len known.bytes)

-- it is a regular file of so many bytes, which no run holds
pub record IsFileOf (size : ℕ) (known : Entry) : Type 0 where
  pub regular : known.found ≡ File
  pub free : known.is_held ≡ false
  pub sized : size ≡ length known.bytes
