-- Lists of bytes: parts, numbers in them, fields that stand one after another.
use Rattle.std.specs.Prelude.{◌≡◌, ℕ, zero, suc, ◌+◌, ◌*◌, ◌<◌, ◌/◌, ◌%◌, List, [], ◌∷◌, ◌++◌, length, take, drop, replicate}

-- the n bytes at a place
unfoldable pub part : List ℕ → ℕ → ℕ → List ℕ
part bytes at n = take n (drop at bytes)

-- the number that bytes stand for, each of them worth 256 times the one before it
abbrev pub little : List ℕ → ℕ
little [] = 0
little (byte ∷ bytes) = byte + 256 * little bytes

-- the number in the n bytes at a place, the low byte first
unfoldable pub number_at : List ℕ → ℕ → ℕ → ℕ
number_at bytes at n = little (part bytes at n)

-- the n low bytes of a number, the low byte first
unfoldable pub spelled : ℕ → ℕ → List ℕ
spelled zero x = []
spelled (suc n) x = x % 256 ∷ spelled n (x / 256)

-- the bytes with others in the place of those at `at`
unfoldable pub put_at : List ℕ → ℕ → List ℕ → List ℕ
put_at bytes at others = take at bytes ++ others ++ drop (at + length others) bytes

-- so many zeros
abbrev pub zeros : ℕ → List ℕ
zeros n = replicate n 0

-- the two differ in no byte outside the n bytes at a place
pub record SameOutside (at n : ℕ) (old new : List ℕ) : Type 0 where
  pub same_length : length new ≡ length old
  pub before : take at new ≡ take at old
  pub after : drop (at + n) new ≡ drop (at + n) old

-- each is the number of a byte
abbrev pub AreBytes : List ℕ → Type 0
AreBytes [] = Unit {0}
AreBytes (byte ∷ bytes) = (byte < 256) × AreBytes bytes

-- fields that stand one after another
abbrev pub joined : List (List ℕ) → List ℕ
joined [] = []
joined (field ∷ fields) = field ++ joined fields
