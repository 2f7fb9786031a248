-- The commands that a seed generates, and the lines of a script that they stand for.
use Rattle.std.specs.Prelude.{ℕ, zero, suc, ◌+◌, ◌*◌, ◌^◌, ◌≤◌, ◌/◌, ◌%◌, ◌==◌, nat_lt, if◌then◌else◌, List, [], ◌∷◌}
use Rattle.hex.specs.Hex.{encode_lower}
use Rattle.script_text.specs.ScriptGrammar.{Line, write, read, clear, next}
use Rattle.apei_cli.specs.declared.generate.command.Command.{Command}
use Rattle.apei_cli.specs.declared.generate.command.Command.TheVariants.{Write, Clear, Read, Next}
use Rattle.apei_cli.specs.Records.{record_of}

-- of eight commands five write, and one each clears, reads and names: one of 40 identifiers, and one of 16 sizes in bytes
abbrev pub command_of : ℕ → Command
command_of drawn =
    let id = 1 + (drawn / 8) % 40 in
    if nat_lt (drawn % 8) 5 then Write id (128 + 16 * ((drawn / 512) % 16))
    else if drawn % 8 == 5 then Clear id
    else if drawn % 8 == 6 then Read id
    else Next

-- the sizes of the records that are written
abbrev pub HasSize : Command → Type 0
HasSize (Write id size) = (128 ≤ size) × (size ≤ 368)
HasSize command = Unit {0}

-- the line of a script that a command is
abbrev pub line_for : Command → Line
line_for (Write id size) = write (encode_lower (record_of id size))
line_for (Clear id) = clear id
line_for (Read id) = read id
line_for Next = next

-- the lines that a seed generates: one of the high bits of each number behind it in a linear congruential sequence modulo 2 ^ 64, with Knuth's
-- multiplier of MMIX
abbrev pub generated_lines : ℕ → ℕ → List Line
generated_lines seed zero = []
generated_lines seed (suc n) =
    let next = (seed * 6364136223846793005 + 1442695040888963407) % 2 ^ 64 in line_for (command_of (next / 2 ^ 33)) ∷ generated_lines next n
