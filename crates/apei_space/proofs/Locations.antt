-- What a window holds lies among all bytes, and below the last address.
use Rattle.std.proofs.Common.{◌≡◌, ℕ, ◌+◌, ◌-◌, ◌<◌, ◌≤◌, ◌^◌, ◌==◌, nat_le, Bool, true, false, List, [], ◌∷◌, Some, refl, subst, arith}
use Rattle.std.proofs.lemmas.Bool.Decides.{nat_tests}
use Rattle.apei_tables.specs.declared.registers.Place.{Place}
use Rattle.apei_tables.specs.declared.registers.Place.TheVariants.{Memory, Io}
use Rattle.apei_space.specs.declared.windows.Window.{Window}
use Rattle.apei_space.specs.Windows.{address_of, room_in, room_from, room, total, location, EndsBelow, AreApart}

pub record LocationFits (all top : ℕ) (at : Place) (given : ℕ × ℕ) : Type 0 where
  pub within : given.0 + given.1 ≤ all
  pub below : address_of at + given.1 < top

room_in_fits : (base n at : ℕ) → base + n < 2 ^ 64 → (room_in base n at ≤ n) × ((room_in base n at ≡ 0 → ⊥) → at + room_in base n at < 2 ^ 64)
room_in_fits base n at h = go (nat_le base at) refl where
  go : (b : Bool) → nat_le base at ≡ b → (room_in base n at ≤ n) × ((room_in base n at ≡ 0 → ⊥) → at + room_in base n at < 2 ^ 64)
  go true e = (rw e (omega arith), λ some. grind (arith, nat_tests))
  go false e = (rw e (omega arith), λ some. grind (arith, nat_tests))

room_fits : (place : Place) (n : ℕ) (at : Place) → EndsBelow place n → (room_from place n at ≤ n) × ((room_from place n at ≡ 0 → ⊥) → address_of at + room_from place n at < 2 ^ 64)
room_fits (Memory base) n (Memory at) h = room_in_fits base n at h
room_fits (Io base) n (Io at) h = room_in_fits base n at h
room_fits (Memory base) n (Io at) h = (omega arith, λ no. absurd (no refl))
room_fits (Io base) n (Memory at) h = (omega arith, λ no. absurd (no refl))

pub location_fits : (windows : List Window) (start : ℕ) (at : Place) (given : ℕ × ℕ) → AreApart windows → location windows start at ≡ Some given →
    LocationFits (start + total windows) (2 ^ 64) at given
location_fits [] start at given apart is = absurd cc
location_fits (window ∷ windows) start at given apart is = go (room window at == 0) refl (location_fits windows (start + window.len) at given apart.2) where
  go : (b : Bool) → (room window at == 0) ≡ b → (location windows (start + window.len) at ≡ Some given → LocationFits (start + window.len + total windows) (2 ^ 64) at given) →
      LocationFits (start + (window.len + total windows)) (2 ^ 64) at given
  go true none rest =
      let later = rest (rw none at is) in
      record { within = omega arith; below = later.below }
  go false some rest =
      let there : Some (start + (window.len - room window at), room window at) ≡ Some given = rw some at is in
      let same : (start + (window.len - room window at), room window at) ≡ given = cc in
      let fits = room_fits window.place window.len at apart.0 in
      let less : room window at ≤ window.len = fits.0 in
      let held : (room window at ≡ 0 → ⊥) = λ zero. grind (arith, nat_tests) in
      subst (λ (p : ℕ × ℕ). LocationFits (start + (window.len + total windows)) (2 ^ 64) at p) same (record { within = omega arith; below = fits.1 held })
