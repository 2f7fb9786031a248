-- Times: in digits of four bits, and in seconds.
use Rattle.std.specs.Prelude.{ℕ, ◌+◌, ◌-◌, ◌*◌, ◌/◌, ◌%◌, ◌==◌, nat_lt, if◌then◌else◌, List, [], ◌∷◌, ◌++◌, codes, slice_index}
use Rattle.apei_bytes.specs.Guid.{digit}

unfoldable pub two_digits : ℕ → List ℕ
two_digits number = digit (number / 10 % 10) ∷ digit (number % 10) ∷ []

-- a byte has two digits of four bits
unfoldable pub packed_digits : ℕ → List ℕ
packed_digits byte = digit (byte / 16) ∷ digit (byte % 16) ∷ []

abbrev pub precise_word : ℕ → List ℕ
precise_word byte = if byte % 2 == 1 then codes " precise" else []

-- the century, the year, the month and the day, from the last byte on
unfoldable pub stamp_date : List ℕ → List ℕ
stamp_date bytes =
    let pair = λ (n : ℕ). packed_digits (slice_index bytes n) in
    pair 7 ++ pair 6 ++ codes "-" ++ pair 5 ++ codes "-" ++ pair 4

-- the hour, the minute and the second
unfoldable pub stamp_clock : List ℕ → List ℕ
stamp_clock bytes =
    let pair = λ (n : ℕ). packed_digits (slice_index bytes n) in
    pair 2 ++ codes ":" ++ pair 1 ++ codes ":" ++ pair 0

-- 8 bytes, as `2026-11-26 22:15:34`; the fourth says whether the time is precise (UEFI 2.8, N.2.1)
abbrev pub stamp_text : List ℕ → List ℕ
stamp_text bytes = stamp_date bytes ++ codes " " ++ stamp_clock bytes ++ precise_word (slice_index bytes 3)

-- The calendar repeats after 400 years, which have 146,097 days. Here its years begin with March, so that a leap day is the last
-- day of one; the year 0 began 719,468 days before 1970.

-- the day of its 400 years
abbrev pub cycle_day : ℕ → ℕ
cycle_day days = (days + 719468) % 146097

-- a year has 365 days, but for a leap day behind each fourth, not behind each hundredth, and behind the four hundredth
abbrev pub cycle_year : ℕ → ℕ
cycle_year day = (day - day / 1460 + day / 36524 - day / 146096) / 365

-- how many days before a year
abbrev pub days_before : ℕ → ℕ
days_before year = 365 * year + year / 4 - year / 100

abbrev pub year_day : ℕ → ℕ
year_day day = day - days_before (cycle_year day)

-- the months from March on have 153 days for each five of them
abbrev pub march_month : ℕ → ℕ
march_month days = (5 * year_day (cycle_day days) + 2) / 153

abbrev pub day_of : ℕ → ℕ
day_of days = year_day (cycle_day days) - (153 * march_month days + 2) / 5 + 1

abbrev pub month_of : ℕ → ℕ
month_of days = if nat_lt (march_month days) 10 then march_month days + 3 else march_month days - 9

abbrev pub year_of : ℕ → ℕ
year_of days = 400 * ((days + 719468) / 146097) + cycle_year (cycle_day days) + (if nat_lt (march_month days) 10 then 0 else 1)

abbrev pub clock_text : ℕ → List ℕ
clock_text seconds = two_digits (seconds / 3600 % 24) ++ codes ":" ++ two_digits (seconds / 60 % 60) ++ codes ":" ++ two_digits (seconds % 60)

-- the time in UTC, so many seconds behind the start of 1970, as `2026-11-26 22:15:34`
abbrev pub date_text : ℕ → List ℕ
date_text seconds =
    let days = seconds / 86400 in
    two_digits (year_of days / 100) ++ two_digits (year_of days) ++ codes "-" ++ two_digits (month_of days) ++ codes "-" ++ two_digits (day_of days)
    ++ codes " " ++ clock_text seconds
