use Rattle.std.proofs.Common.{◌≡◌, take, true}
use Rattle.std.specs.Prelude.{All, IsTrue}
use Rattle.std.specs.Char.{is_ascii_hexdigit}
use Rattle.script_lines.proofs.parts.are_digits.Given as goal

abbrev pub invariant-loop-byte : goal.invariant-loop-byte
invariant-loop-byte l = l.all ≡ true → All (λ c. IsTrue (is_ascii_hexdigit c)) (take l.byte-index l.text)
