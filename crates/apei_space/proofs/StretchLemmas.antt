-- Windows with the places of their bytes: each is where a place that it holds is found.
use Rattle.std.proofs.Common.{◌≡◌, ◌∙◌, ℕ, zero, suc, ◌+◌, ◌-◌, ◌<◌, ◌≤◌, ◌^◌, All, List, [], ◌∷◌, ◌++◌, length, take, drop, get_or, Some, sym, ap, subst, arith}
use Rattle.std.proofs.lemmas.List.{drop_more, drop_all, append_assoc, append-nil}
use Rattle.std.specs.List.Sorted.{IsPermutation}
use Rattle.apei_tables.specs.declared.registers.Place.{Place}
use Rattle.apei_space.specs.declared.windows.Window.{Window}
use Rattle.apei_space.specs.declared.windows.Stretch.{Stretch}
use Rattle.apei_space.specs.Windows.{room, location, total, AreApart}
use Rattle.apei_space.specs.Stretches.{IsStretch, IsTableOf, stretches_from}
use Rattle.apei_space.proofs.Placed.{location_at}

taken : (windows : List Window) (i : ℕ) (d : Window) → i < length windows → total (take (suc i) windows) ≡ total (take i windows) + (get_or windows i d).len
taken [] i d inside = absurd (omega (arith, inside))
taken (window ∷ windows) zero d inside = omega arith
taken (window ∷ windows) (suc i) d inside = let later = taken windows i d (omega (arith, inside)) in omega (arith, later)

left : (windows : List Window) (i : ℕ) (d : Window) → i < length windows → total (drop i windows) ≡ (get_or windows i d).len + total (drop (suc i) windows)
left [] i d inside = absurd (omega (arith, inside))
left (window ∷ windows) zero d inside = omega arith
left (window ∷ windows) (suc i) d inside = left windows i d (omega (arith, inside))

pub total_more : (windows : List Window) (i : ℕ) (d : Window) → i < length windows → total (take (i + 1) windows) ≡ total (take i windows) + (get_or windows i d).len
total_more windows i d inside = let same : suc i ≡ i + 1 = omega arith in subst (λ (n : ℕ). total (take n windows) ≡ total (take i windows) + (get_or windows i d).len) same (taken windows i d inside)

pub total_rest : (windows : List Window) (i : ℕ) (d : Window) → i < length windows → total (drop i windows) ≡ (get_or windows i d).len + total (drop (i + 1) windows)
total_rest windows i d inside = let same : suc i ≡ i + 1 = omega arith in subst (λ (n : ℕ). total (drop i windows) ≡ (get_or windows i d).len + total (drop n windows)) same (left windows i d inside)

pub stretch_location : (windows : List Window) (at : Place) (stretch : Stretch) (r : ℕ) → AreApart windows → IsStretch windows stretch → r ≡ room stretch.window at → 0 < r
    → Some (stretch.start + (stretch.window.len - r), r) ≡ location windows 0 at
stretch_location windows at stretch r apart is room_is more =
    let there = location_at windows 0 at is.number stretch.window apart is.inside is.window_is (subst (λ (n : ℕ). 0 < n) room_is more) in
    let start = is.start_is in
    subst (λ (n : ℕ). Some (stretch.start + (stretch.window.len - n), n) ≡ location windows 0 at) (sym room_is)
    (ap (λ (n : ℕ). Some (n + (stretch.window.len - room stretch.window at), room stretch.window at)) (omega (arith, start)) ∙ sym there)

pub table_of : (windows : List Window) (table same : List Stretch) → same ≡ table → total windows < 2 ^ 63 → AreApart windows → All (IsStretch windows) table → IsTableOf windows same
table_of windows table same is few apart are = record { few = few; apart = apart; are = subst (All (IsStretch windows)) (sym is) are }

pub stretches_more : (windows : List Window) (i start : ℕ) (d : Window) (done : List Stretch) → i < length windows
    → (done ++ record { window = get_or windows i d; start = start } ∷ []) ++ stretches_from (start + (get_or windows i d).len) (drop (i + 1) windows) ≡ done ++ stretches_from start (drop i windows)
stretches_more windows i start d done inside =
    append_assoc done _ _ ∙ ap (λ (left : List Window). done ++ stretches_from start left) (sym (drop_more windows i d inside))

pub stretches_all : (windows : List Window) (i start : ℕ) (done table : List Stretch) → length windows ≤ i → done ++ stretches_from start (drop i windows) ≡ stretches_from 0 windows
    → IsPermutation done table → IsPermutation (stretches_from 0 windows) table
stretches_all windows i start done table past whole same =
    let none : done ++ stretches_from start (drop i windows) ≡ done = ap (λ (left : List Window). done ++ stretches_from start left) (drop_all i windows past) ∙ append-nil done in
    subst (λ (all : List Stretch). IsPermutation all table) (sym none ∙ whole) same
