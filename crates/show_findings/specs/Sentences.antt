-- Sentences are added to what is there.
use Rattle.std.specs.Prelude.{◌≡◌, ◌<◌, ◌++◌, ℕ, List, length, String, string_bytes}
use Rattle.std.specs.declared.alloc.Global.{Global}

-- this text stands behind what stood there
abbrev pub Adds : (text : List ℕ) → (before after : String Global) → Type 0
Adds text before after = string_bytes after ≡ string_bytes before ++ text

-- a text, which may be empty, stands behind what stood there
pub record Grows (before after : String Global) : Type 0 where
  pub more : List ℕ
  pub is : string_bytes after ≡ string_bytes before ++ more

-- a text that is not empty does
pub record Says (before after : String Global) : Type 0 where
  pub more : List ℕ
  pub some : 0 < length more
  pub is : string_bytes after ≡ string_bytes before ++ more

-- this text does, and what may stand behind it is not said here
pub record Tells (text : List ℕ) (before after : String Global) : Type 0 where
  pub more : List ℕ
  pub is : string_bytes after ≡ string_bytes before ++ text ++ more
