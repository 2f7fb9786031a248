-- A record's time (UEFI 2.8, N.2.1).
use Rattle.std.specs.Prelude.{◌≡◌, ℕ, ℤ, pos, ◌+ℤ◌, ◌*ℤ◌, ◌+◌, ◌*◌, ◌/◌, ◌%◌, ◌^◌, ◌≤◌, ◌==◌, Bool, true, false, List, [], ◌∷◌}
use Rattle.std.specs.Str.{bytes_eq}
use Rattle.jiff.specs.Words.{civil_nanos, IsDate, IsTime, IsYmd, IsHms, IsTimestampNanos}
use Rattle.jiff.specs.declared.civil.datetimes.DateTime.{DateTime}
use Rattle.cper_frame.specs.declared.heads.RecordHead.{RecordHead}
use Rattle.apei_look.specs.declared.time.RecordTime.{RecordTime}
use Rattle.apei_look.specs.declared.time.RecordTime.TheVariants.{Missing, Calendar, Bytes}

-- both halves of a byte are decimal digits
abbrev pub IsDigits : ℕ → Type 0
IsDigits byte = (byte / 16 ≤ 9) × (byte % 16 ≤ 9)

-- the number that they are
abbrev pub two_digits : ℕ → ℕ
two_digits byte = byte / 16 * 10 + byte % 16

-- bit 1 of the validation bits says that there is a time
abbrev pub has_time : ℕ → Bool
has_time validation = validation / 2 % 2 == 1

-- one byte of a time, from the low one on: seconds, minutes, hours, flags, day, month, year and century
abbrev pub byte_of : (stamp at : ℕ) → ℕ
byte_of stamp at = stamp / 2 ^ (8 * at) % 256

abbrev pub digits_at : (stamp at : ℕ) → ℤ
digits_at stamp at = pos (two_digits (byte_of stamp at))

abbrev pub year_of : ℕ → ℤ
year_of stamp = digits_at stamp 7 *ℤ pos 100 +ℤ digits_at stamp 6

-- bit 0 of the flags says that it is the time of the error
abbrev pub is_of_error : ℕ → Bool
is_of_error stamp = byte_of stamp 3 % 2 == 1

-- each byte but the flags has two digits
pub record AreDigits (stamp : ℕ) : Type 0 where
  pub second : IsDigits (byte_of stamp 0)
  pub minute : IsDigits (byte_of stamp 1)
  pub hour : IsDigits (byte_of stamp 2)
  pub day : IsDigits (byte_of stamp 4)
  pub month : IsDigits (byte_of stamp 5)
  pub year : IsDigits (byte_of stamp 6)
  pub century : IsDigits (byte_of stamp 7)

-- they are a date and a time of the calendar
pub record AreOfCalendar (stamp : ℕ) : Type 0 where
  pub digits : AreDigits stamp
  pub date : IsDate (year_of stamp) (digits_at stamp 5) (digits_at stamp 4)
  pub time : IsTime (digits_at stamp 2) (digits_at stamp 1) (digits_at stamp 0) (pos 0)

-- these
pub record IsOfDigits (stamp : ℕ) (found : DateTime) : Type 0 where
  pub digits : AreDigits stamp
  pub date : IsYmd (year_of stamp) (digits_at stamp 5) (digits_at stamp 4) found.date
  pub time : IsHms (digits_at stamp 2) (digits_at stamp 1) (digits_at stamp 0) (pos 0) found.time

-- Linux's creator identifier, 75a574e3-5052-4b29-8a8e-be2c6490b89d
abbrev pub linux : List ℕ
linux = 0xE3 ∷ 0x74 ∷ 0xA5 ∷ 0x75 ∷ 0x52 ∷ 0x50 ∷ 0x29 ∷ 0x4B ∷ 0x8A ∷ 0x8E ∷ 0xBE ∷ 0x2C ∷ 0x64 ∷ 0x90 ∷ 0xB8 ∷ 0x9D ∷ []

-- Linux writes the seconds since 1970
abbrev pub nanos_since_1970 : ℕ → ℤ
nanos_since_1970 stamp = pos stamp *ℤ pos 1_000_000_000

abbrev pub IsCalendar : (is_linux : Bool) → ℕ → DateTime → (is_precise : Bool) → Type 0
IsCalendar true stamp time is_precise = (civil_nanos time ≡ nanos_since_1970 stamp) × (is_precise ≡ true)
IsCalendar false stamp time is_precise = IsOfDigits stamp time × (is_precise ≡ is_of_error stamp)

abbrev pub IsNoTime : (is_linux : Bool) → ℕ → Type 0
IsNoTime true stamp = IsTimestampNanos (nanos_since_1970 stamp) → ⊥
IsNoTime false stamp = AreOfCalendar stamp → ⊥

-- the time of a record: exactly one of these
abbrev pub IsTimeOf : RecordHead → RecordTime → Type 0
IsTimeOf head Missing = has_time head.validation ≡ false
IsTimeOf head (Calendar time is_precise) =
    (has_time head.validation ≡ true) × IsCalendar (bytes_eq head.creator linux) head.timestamp time is_precise
IsTimeOf head (Bytes stamp) =
    (has_time head.validation ≡ true) × IsNoTime (bytes_eq head.creator linux) head.timestamp × (stamp ≡ head.timestamp)
