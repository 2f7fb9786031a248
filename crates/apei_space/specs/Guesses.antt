-- Guesses at the window that holds an address: slots with the numbers of two windows, found by the word or the page of an address.
use Rattle.std.specs.Prelude.{ℕ, zero, suc, ◌+◌, ◌-◌, ◌*◌, ◌/◌, ◌%◌, ◌^◌, Bool, true, false, nat_le, not, if◌then◌else◌, List, [], ◌∷◌, get_or, slice_set, replicate, min}
use Rattle.apei_space.specs.declared.guesses.Guess.{Guess}
use Rattle.apei_space.specs.declared.windows.Stretch.{Stretch}
use Rattle.apei_space.specs.Windows.{address_of}

abbrev pub no_guess : Guess
no_guess = record { first = 0; second = 0 }

-- the highest 8 bits of a key's product with the golden ratio
abbrev pub slot : ℕ → ℕ
slot key = key * 11400714819323198485 % 2 ^ 64 / 2 ^ 56

abbrev pub guessed : List Guess → ℕ → Guess
guessed slots key = get_or slots (slot key) no_guess

-- the number goes before the newer of the slot's two
abbrev pub put : ℕ → List Guess → ℕ → List Guess
put number slots key = slice_set slots (slot key) (record { first = number; second = (guessed slots key).first })

-- the number under so many keys from a first one on
abbrev pub noted : ℕ → ℕ → ℕ → List Guess → List Guess
noted number key zero slots = slots
noted number key (suc n) slots = put number (noted number key n slots) ((key + n) % 2 ^ 64)

-- a window of at most 512 bytes is known by its words of 8 bytes, a longer one by its pages
abbrev pub shift : ℕ → ℕ
shift len = if nat_le len 512 then 3 else 12

-- by how many of them: the first, and 63 behind it at most
abbrev pub keys : ℕ → ℕ
keys len = min ((len - 1) / 2 ^ shift len) 63 + 1

abbrev pub window_noted : ℕ → ℕ → ℕ → List Guess → List Guess
window_noted address len number slots = noted number (address / 2 ^ shift len) (keys len) slots

-- the short windows or the others, each under its number
abbrev pub all_noted : Bool → List Stretch → ℕ → List Guess → List Guess
all_noted is_short [] number slots = slots
all_noted is_short (stretch ∷ stretches) number slots =
    all_noted is_short stretches (number + 1) (
    if (if is_short then nat_le stretch.window.len 512 else not (nat_le stretch.window.len 512))
    then window_noted (address_of stretch.window.place) stretch.window.len number slots
    else slots)

-- all windows, the short ones last
abbrev pub guesses_at : List Stretch → List Guess
guesses_at stretches = all_noted true stretches 0 (all_noted false stretches 0 (replicate 256 no_guess))
