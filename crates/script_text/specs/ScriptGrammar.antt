-- The lines of a script, and how each is written.
use Rattle.std.specs.Prelude.{◌≡◌, ℕ, ◌^◌, ◌<◌, ◌≤◌, List, [], ◌++◌, codes, decimal}
use Rattle.script_lines.specs.Parts.{IsPairs}
use Rattle.script_text.specs.Turns.{IsTurns}

-- a line, with what stands in it
pub data Line : Type 0 where
  blank : Line
  comment : (rest : List ℕ) → Line
  write : (hex : List ℕ) → Line
  read : (id : ℕ) → Line
  clear : (id : ℕ) → Line
  count : Line
  next : Line
  dummy : Line
  action : (code value : ℕ) → Line
  table : (hex : List ℕ) → Line
  own_table : Line
  shadow_table : Line
  error : (hex : List ℕ) → Line
  turns : (letters : List ℕ) → Line
  peek : (at len : ℕ) → Line
  fatal : (hex : List ℕ) → Line
  bert : Line
  heard : Line
  reset : Line
  power : Line
  bridge : (id : ℕ) → Line

-- what may stand in a line: anything in a comment, and in those that are not named here there is nothing
abbrev pub IsValid : Line → Type 0
IsValid (write hex) = IsPairs hex
IsValid (read id) = id < 2 ^ 64
IsValid (clear id) = id < 2 ^ 64
IsValid (action code value) = (code < 256) × (value < 2 ^ 64)
IsValid (table hex) = IsPairs hex
IsValid (error hex) = IsPairs hex
IsValid (turns letters) = IsTurns letters
IsValid (peek at len) = (at < 2 ^ 64) × (1 ≤ len) × (len ≤ 4096)
IsValid (fatal hex) = IsPairs hex
IsValid (bridge id) = id < 2 ^ 64
IsValid line = Unit {0}

-- how a line is written
abbrev pub text_of : Line → List ℕ
text_of blank = []
text_of (comment rest) = codes "#" ++ rest
text_of (write hex) = codes "write " ++ hex
text_of (read id) = codes "read " ++ decimal id
text_of (clear id) = codes "clear " ++ decimal id
text_of count = codes "count"
text_of next = codes "next"
text_of dummy = codes "dummy"
text_of (action code value) = codes "action " ++ decimal code ++ codes " " ++ decimal value
text_of (table hex) = codes "table " ++ hex
text_of own_table = codes "table own"
text_of shadow_table = codes "table shadow"
text_of (error hex) = codes "error " ++ hex
text_of (turns letters) = codes "turns " ++ letters
text_of (peek at len) = codes "peek " ++ decimal at ++ codes " " ++ decimal len
text_of (fatal hex) = codes "fatal " ++ hex
text_of bert = codes "bert"
text_of heard = codes "heard"
text_of reset = codes "reset"
text_of power = codes "power"
text_of (bridge id) = codes "bridge " ++ decimal id

-- a text is a line of a script
abbrev pub IsLine : List ℕ → Type 0
IsLine text = (line : Line) × IsValid line × (text ≡ text_of line)
