-- The changes of a format by their numbers.
use Rattle.std.proofs.Common.{◌≡◌, ℕ, zero, suc, ◌+◌, ◌-◌, ◌<◌, ◌≤◌, List, [], ◌∷◌, ◌++◌, length, take, Some, None, refl, sym, ap, ◌∙◌, arith, add-zero}
use Rattle.std.specs.List.{slice_get}
use Rattle.std.proofs.lemmas.Option.{slice_get_past}
use Rattle.std.proofs.lemmas.List.{take-append-le}
use Rattle.flash_model.specs.declared.geometry.Geometry.{Geometry}
use Rattle.image_survey.specs.declared.format.FormatChange.{FormatChange}
use Rattle.image_survey.specs.Headers.{whole, ended}
use Rattle.image_survey.specs.Formats.{marks, puts_header, erases, erases_from, flash_sectors, format_changes}

pub at_left : (xs ys : List FormatChange) (i : ℕ) → i < length xs → slice_get (xs ++ ys) i ≡ slice_get xs i
at_left [] ys i within = absurd (omega arith)
at_left (x ∷ xs) ys zero within = refl
at_left (x ∷ xs) ys (suc i) within = at_left xs ys i (omega arith)

pub at_right : (xs ys : List FormatChange) (n i : ℕ) → n ≡ length xs + i → slice_get (xs ++ ys) n ≡ slice_get ys i
at_right [] ys n i is = ap (slice_get ys) (omega arith)
at_right (x ∷ xs) ys zero i is = absurd (omega arith)
at_right (x ∷ xs) ys (suc n) i is = at_right xs ys n i (omega arith)

pub length-erases : (geometry : Geometry) (number n : ℕ) → length (erases_from geometry number n) ≡ n
unfolding erases_from
length-erases geometry number zero = refl
length-erases geometry number (suc n) = ap suc (length-erases geometry (number + 1) n)

pub erase_at : (geometry : Geometry) (number n k : ℕ) → k < n → slice_get (erases_from geometry number n) k ≡ Some (erases geometry (number + k))
unfolding erases_from
erase_at geometry number zero k within = absurd (omega arith)
erase_at geometry number (suc n) zero within = ap (λ (m : ℕ). Some (erases geometry m)) (sym (add-zero number))
erase_at geometry number (suc n) (suc k) within =
    erase_at geometry (number + 1) n k (omega arith) ∙ ap (λ (m : ℕ). Some (erases geometry m)) (omega arith)

pub take-erases : (geometry : Geometry) (number n k : ℕ) → k ≤ n → take k (erases_from geometry number n) ≡ erases_from geometry number k
unfolding erases_from
take-erases geometry number n zero within = refl
take-erases geometry number zero (suc k) within = absurd (omega arith)
take-erases geometry number (suc n) (suc k) within =
    ap (λ (xs : List FormatChange). erases geometry number ∷ xs) (take-erases geometry (number + 1) n k (omega arith))

-- the changes behind the erases of the flash
abbrev pub last_changes : Geometry → List FormatChange
last_changes geometry = erases geometry 0 ∷ puts_header geometry ∷ marks 48 whole ∷ []

pub first_at : (geometry : Geometry) → slice_get (format_changes geometry) 0 ≡ Some (marks 49 ended)
unfolding format_changes
first_at geometry = refl

pub flash_erase_at : (geometry : Geometry) (step : ℕ) → 0 < step → step ≤ flash_sectors geometry → slice_get (format_changes geometry) step ≡ Some (erases geometry step)
unfolding format_changes
flash_erase_at geometry zero some within = absurd (omega arith)
flash_erase_at geometry (suc k) some within =
    let sectors = flash_sectors geometry in
    at_left (erases_from geometry 1 sectors) (last_changes geometry) k (rw (length-erases geometry 1 sectors) (omega arith))
    ∙ erase_at geometry 1 sectors k (omega arith) ∙ ap (λ (m : ℕ). Some (erases geometry m)) (omega arith)

pub last_at : (geometry : Geometry) (step k : ℕ) → step ≡ flash_sectors geometry + 1 + k → slice_get (format_changes geometry) step ≡ slice_get (last_changes geometry) k
unfolding format_changes
last_at geometry zero k is = absurd (omega arith)
last_at geometry (suc n) k is =
    let sectors = flash_sectors geometry in
    at_right (erases_from geometry 1 sectors) (last_changes geometry) n k (rw (length-erases geometry 1 sectors) (omega arith))

-- the changes before one
pub take-flash : (geometry : Geometry) (k : ℕ) → k ≤ flash_sectors geometry → take (suc k) (format_changes geometry) ≡ marks 49 ended ∷ erases_from geometry 1 k
unfolding format_changes
take-flash geometry k within =
    let sectors = flash_sectors geometry in
    let size : length (erases_from geometry 1 sectors) ≡ sectors = length-erases geometry 1 sectors in
    ap (λ (xs : List FormatChange). marks 49 ended ∷ xs)
    (take-append-le k (erases_from geometry 1 sectors) (last_changes geometry) (omega arith) ∙ take-erases geometry 1 sectors k within)

take-right : (xs ys : List FormatChange) (n k : ℕ) → n ≡ length xs + k → take n (xs ++ ys) ≡ xs ++ take k ys
take-right [] ys n k is = ap (λ (m : ℕ). take m ys) (omega arith)
take-right (x ∷ xs) ys zero k is = absurd (omega arith)
take-right (x ∷ xs) ys (suc n) k is = ap (λ (zs : List FormatChange). x ∷ zs) (take-right xs ys n k (omega arith))

pub take-last : (geometry : Geometry) (step k : ℕ) → step ≡ flash_sectors geometry + 1 + k
    → take step (format_changes geometry) ≡ marks 49 ended ∷ erases_from geometry 1 (flash_sectors geometry) ++ take k (last_changes geometry)
unfolding format_changes
take-last geometry zero k is = absurd (omega arith)
take-last geometry (suc n) k is =
    let sectors = flash_sectors geometry in
    ap (λ (xs : List FormatChange). marks 49 ended ∷ xs) (take-right (erases_from geometry 1 sectors) (last_changes geometry) n k (rw (length-erases geometry 1 sectors) (omega arith)))

-- the same for a number that is told otherwise
pub first_for : (geometry : Geometry) (step : ℕ) → step ≡ 0 → slice_get (format_changes geometry) step ≡ Some (marks 49 ended)
first_for geometry step is = ap (slice_get (format_changes geometry)) is ∙ first_at geometry

pub last_for : (geometry : Geometry) (step k : ℕ) → flash_sectors geometry < step → step - flash_sectors geometry ≡ k + 1
    → slice_get (format_changes geometry) step ≡ slice_get (last_changes geometry) k
last_for geometry step k above is = last_at geometry step k (omega arith)

pub none_for : (geometry : Geometry) (step : ℕ) → flash_sectors geometry + 3 < step → slice_get (format_changes geometry) step ≡ None
none_for geometry step above =
    let k : ℕ = step - flash_sectors geometry - 1 in
    last_at geometry step k (omega arith) ∙ beyond k (omega arith)
  where
    beyond : (k : ℕ) → 3 ≤ k → slice_get (last_changes geometry) k ≡ None
    beyond k far = slice_get_past (last_changes geometry) k far
