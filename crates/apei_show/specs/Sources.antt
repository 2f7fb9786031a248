-- What is read of a file.
use Rattle.std.specs.Prelude.{◌≡◌, ℕ, ◌^◌, ◌<◌, ◌≤◌, ◌⊎◌, List, length, Option, IfSome, codes, if◌then◌else◌}
use Rattle.std.specs.Str.{bytes_eq}
use Rattle.base_model.specs.Faults.{Rose}
use Rattle.apei_show.specs.Faults.{Failed, Faults}
use Rattle.apei_show.specs.declared.source.Unread.{Unread as Reason}
use Rattle.apei_show.specs.declared.source.Unread.TheVariants as reasons
use Rattle.apei_show.specs.declared.status.Status.{Status}
use Rattle.apei_show.specs.declared.status.Status.TheVariants.{Unread, Memory}

-- the most bytes of a file that are shown
abbrev pub most : ℕ
most = 2 ^ 28

-- the bytes that a path names: those of standard input, where it is `-`
abbrev pub named : (input : Option (List ℕ)) (content : List ℕ → Option (List ℕ)) → List ℕ → Option (List ℕ)
named input content path = if bytes_eq path (codes "-") then input else content path

-- all bytes that were given, where they are known, and no more than are shown
pub record IsWhole (given : Option (List ℕ)) (bytes : List ℕ) : Type 0 where
  pub short : length bytes ≤ most
  pub all : IfSome given (λ known. bytes ≡ known)

-- more than is shown was given, where it is known
abbrev pub IsLong : Option (List ℕ) → Type 0
IsLong given = IfSome given (λ known. most < length known)

-- why what was given is not read: an error is that of a call which failed
abbrev pub IsCause : (given : Option (List ℕ)) (before after : Faults) → Reason → Type 0
IsCause given before after (reasons.System error) = Failed before after error
IsCause given before after reasons.Memory = after ≡ before
IsCause given before after reasons.Long = (after ≡ before) × IsLong given

-- what the run says of it
abbrev pub IsRefusal : (given : Option (List ℕ)) (before after : Faults) → Status → Type 0
IsRefusal given before after Unread = Rose before.count after.count ⊎ ((after ≡ before) × IsLong given)
IsRefusal given before after Memory = after ≡ before
IsRefusal given before after other = ⊥
