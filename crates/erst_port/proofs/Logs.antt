-- The log of a flash that made one more change.
use Rattle.std.proofs.Common.{◌≡◌, ◌∙◌, ◌⊎◌, ℕ, ◌+◌, ◌<◌, ◌≤◌, List, [], ◌∷◌, ◌++◌, length, Some, inl, inr, sym, ap, subst, arith}
use Rattle.std.specs.Prelude.{slice_get}
use Rattle.std.proofs.lemmas.List.{length_push, length-append, take-append-le, take_all}
use Rattle.std.proofs.lemmas.Option.{same_Some, slice_get_within}
use Rattle.base_model.specs.Bytes.{part, put_at}
use Rattle.base_model.proofs.BytesLemmas.{length-put_at, part-append_left, part-append_right, part-whole}
use Rattle.base_model.specs.Flash.{Change, Told}
use Rattle.base_model.proofs.CrashLemmas.{slice_get-push, slice_get-take}
use Rattle.erst_port.specs.Dues.{IsDue, MayPut, AreLogged, bytes_in, log_room}
use Rattle.erst_port.specs.Logs.{AreEntries, IsFilled, IsEntered, IsLeft, HasPlace}
use Rattle.erst_port.specs.declared.due.Kind.{Kind}
use Rattle.erst_port.specs.declared.log.Range.{Range}
use Rattle.erst_port.specs.declared.log.Entry.{Entry}
use Rattle.erst_port.specs.declared.log.Log.{Log}
use Rattle.erst_port.proofs.Dues.{due_later, due_now, later, flash_of, after}

-- what an entry says of a change
abbrev Holds : (sector : ℕ) → Told → List ℕ → ℕ → Entry → Type 0
Holds sector told bytes s entry = (entry.start + entry.range.len ≤ length bytes) × IsDue sector told s entry.range.kind entry.range.at (part bytes entry.start entry.range.len)

abbrev entry_of : Range → ℕ → Entry
entry_of range start = record { range = range; start = start }

-- a place of a list is that of a longer one
in_front : {A : Type 0} (xs : List A) (y : A) (s : ℕ) → s < length xs → slice_get (xs ++ y ∷ []) s ≡ slice_get xs s
in_front xs y s within =
    sym (slice_get-take (xs ++ y ∷ []) (length xs) s within)
    ∙ ap (λ (zs : List _). slice_get zs s) (take-append-le (length xs) xs (y ∷ []) (omega arith) ∙ take_all (length xs) xs (omega arith))

below_or_last : (s n : ℕ) → s < n + 1 → (s < n) ⊎ (s ≡ n)
below_or_last s n low = grind arith

-- the bytes that it has stay where they are
holds_longer : (sector : ℕ) (old new : Told) (bytes more : List ℕ) (s : ℕ) (entry : Entry) → ((kind : Kind) (at : ℕ) (due : List ℕ) → IsDue sector old s kind at due → IsDue sector new s kind at due)
    → Holds sector old bytes s entry → Holds sector new (bytes ++ more) s entry
holds_longer sector old new bytes more s entry goes_on holds = (
  omega (arith, holds.0, length-append bytes more),
  subst (λ (found : List ℕ). IsDue sector new s entry.range.kind entry.range.at found) (sym (part-append_left bytes more entry.start entry.range.len holds.0))
      (goes_on entry.range.kind entry.range.at _ holds.1),
)

-- the new entry has its bytes behind all others
holds_new : (sector : ℕ) (told : Told) (bytes content : List ℕ) (s : ℕ) (range : Range) → range.len ≡ length content → IsDue sector told s range.kind range.at content
    → Holds sector told (bytes ++ content) s (entry_of range (length bytes))
holds_new sector told bytes content s range size due =
    let there : part (bytes ++ content) (length bytes) range.len ≡ content =
    part-append_right bytes content (length bytes) 0 range.len (omega arith) ∙ part-whole content range.len (omega (arith, size)) in
    (omega (arith, size, length-append bytes content), subst (λ (found : List ℕ). IsDue sector told s range.kind range.at found) (sym there) due)

module _ (sector : ℕ) (past : List Change) (image : List ℕ) (range : Range) (at : ℕ) (content new : List ℕ) (within : at + length content ≤ length image)
    (put : new ≡ put_at image at content) where
  abbrev told : Told
  told = after past image at content new

  goes_on : (s : ℕ) (kind : Kind) (place : ℕ) (due : List ℕ) → IsDue sector (flash_of past image) s kind place due → IsDue sector told s kind place due
  goes_on s kind place due =
      due_later sector (flash_of past image) told s kind place due (later past image at content new within put) (ap length put ∙ length-put_at image at content within)

  left_entries : (entries : List Entry) (bytes : List ℕ) → AreEntries sector (flash_of past image) entries bytes → AreEntries sector told entries bytes
  left_entries entries bytes holds s entry here =
      let one = holds s entry here in
      (one.0, goes_on s _ _ _ one.1)

  entered_entries : (entries : List Entry) (bytes : List ℕ) → length entries ≡ length past → range.at ≡ at → range.len ≡ length content
      → MayPut sector image range.kind at content
      → AreEntries sector (flash_of past image) entries bytes → AreEntries sector told (entries ++ entry_of range (length bytes) ∷ []) (bytes ++ content)
  entered_entries entries bytes next place size may holds s entry here =
      let below = slice_get_within (entries ++ entry_of range (length bytes) ∷ []) s entry here in
      let long = length_push entries (entry_of range (length bytes)) in
      elim (below_or_last s (length entries) (omega (arith, below, long))) [
        | inl low ↦
            holds_longer sector (flash_of past image) told bytes content s entry (goes_on s)
            (holds s entry (sym (in_front entries (entry_of range (length bytes)) s low) ∙ here))
        | inr last ↦
            let found : Some (entry_of range (length bytes)) ≡ Some entry =
            sym (slice_get-push entries (entry_of range (length bytes)))
            ∙ ap (slice_get (entries ++ entry_of range (length bytes) ∷ [])) (sym last) ∙ here in
            let due : IsDue sector told s range.kind range.at content =
            subst (λ (n : ℕ). IsDue sector told n range.kind range.at content) (sym (last ∙ next))
            (subst (λ (a : ℕ). IsDue sector told (length past) range.kind a content) (sym place) (due_now sector past image range.kind at content new within put may)) in
            subst (λ (e : Entry). Holds sector told (bytes ++ content) s e) (same_Some _ _ found) (holds_new sector told bytes content s range size due)
      ]

abbrev pub Enters : Log → (steps : ℕ) → Range → List ℕ → Log → Type 0
Enters old steps range content new = (HasPlace old steps (length content) × IsEntered old range content new) ⊎ ((HasPlace old steps (length content) → ⊥) × IsLeft old new)

pub entries_after : (sector : ℕ) (past : List Change) (image : List ℕ) (range : Range) (at : ℕ) (content new : List ℕ) (old log : Log)
    → at + length content ≤ length image → new ≡ put_at image at content → range.at ≡ at → range.len ≡ length content
    → MayPut sector image range.kind at content → Enters old (length past) range content log
    → AreEntries sector (flash_of past image) old.entries.items old.bytes.items → AreEntries sector (after past image at content new) log.entries.items log.bytes.items
entries_after sector past image range at content new old log within put place size may (inl entered) holds =
    let grown = entered_entries sector past image range at content new within put old.entries.items old.bytes.items entered.0.next place size may holds in
    rw (entered.1.entries, entered.1.bytes) grown
entries_after sector past image range at content new old log within put place size may (inr left) holds =
    let same = left_entries sector past image range at content new within put old.entries.items old.bytes.items holds in
    rw (left.1.entries, left.1.bytes) same

-- the bytes of one change more
pub bytes_in-push : (past : List Change) (change : Change) → bytes_in (past ++ change ∷ []) ≡ bytes_in past + change.len
bytes_in-push [] change = omega arith
bytes_in-push (first ∷ past) change = let rest = bytes_in-push past change in omega (arith, rest)

-- the log has all changes, or is closed
abbrev IsOpenOrClosed : (size : ℕ) → List Change → List Entry → List ℕ → Type 0
IsOpenOrClosed size past entries bytes =
    (AreLogged size past × (length entries ≡ length past) × (length bytes ≡ bytes_in past)) ⊎ ((AreLogged size past → ⊥) × (length entries < length past))

less_or_same : (n m : ℕ) → n ≤ m → (n < m) ⊎ (n ≡ m)
less_or_same n m low = grind arith

cases_of : (size : ℕ) (past : List Change) (entries : List Entry) (bytes : List ℕ) → IsFilled size past entries bytes → IsOpenOrClosed size past entries bytes
cases_of size past entries bytes filled = elim (less_or_same (length entries) (length past) filled.few) [
  | inl less ↦ inr (λ logged. let same = (filled.all logged).0 in omega (arith, same, less), less)
  | inr same ↦ let logged = filled.only same in inl (logged, same, (filled.all logged).1)
]

of_cases : (size : ℕ) (past : List Change) (entries : List Entry) (bytes : List ℕ) → IsOpenOrClosed size past entries bytes → IsFilled size past entries bytes
of_cases size past entries bytes (inl whole) = record { all = λ _. (whole.1, whole.2); only = λ _. whole.0; few = omega (arith, whole.1) }
of_cases size past entries bytes (inr closed) =
    record { all = λ logged. absurd (closed.0 logged); only = λ same. absurd (omega (arith, same, closed.1)); few = omega (arith, closed.1) }

cases_after : (size : ℕ) (past : List Change) (change : Change) (range : Range) (content : List ℕ) (old log : Log) → old.room ≡ log_room size → change.len ≡ length content
    → Enters old (length past) range content log → IsOpenOrClosed size past old.entries.items old.bytes.items
    → IsOpenOrClosed size (past ++ change ∷ []) log.entries.items log.bytes.items
cases_after size past change range content old log room len (inl entered) (inl all) =
    let grown = ap length entered.1.entries ∙ length_push old.entries.items _ in
    let long = ap length entered.1.bytes ∙ length-append old.bytes.items content in
    let more = length_push past change in
    let bytes = bytes_in-push past change in
    inl (
      record { few = omega (arith, more, entered.0.room, entered.0.next, room); small = omega (arith, bytes, len, entered.0.bytes, all.2, room) },
      omega (arith, grown, more, all.1),
      omega (arith, long, bytes, len, all.2),
    )
cases_after size past change range content old log room len (inl entered) (inr closed) = absurd (omega (arith, entered.0.next, closed.1))
cases_after size past change range content old log room len (inr left) (inl all) =
    let more = length_push past change in
    let bytes = bytes_in-push past change in
    let same = ap length left.1.entries in
    inr (
      λ logged. left.0 (record { next = all.1; room = omega (arith, logged.few, more, all.1, room); bytes = omega (arith, logged.small, bytes, len, all.2, room) }),
      omega (arith, same, more, all.1),
    )
cases_after size past change range content old log room len (inr left) (inr closed) =
    let more = length_push past change in
    let bytes = bytes_in-push past change in
    let same = ap length left.1.entries in
    inr (
      λ logged. closed.0 (record { few = omega (arith, logged.few, more); small = omega (arith, logged.small, bytes) }),
      omega (arith, same, more, closed.1),
    )

pub filled_after : (size : ℕ) (past : List Change) (change : Change) (range : Range) (content : List ℕ) (old log : Log) → old.room ≡ log_room size → change.len ≡ length content
    → Enters old (length past) range content log → IsFilled size past old.entries.items old.bytes.items
    → IsFilled size (past ++ change ∷ []) log.entries.items log.bytes.items
filled_after size past change range content old log room len enters filled =
    of_cases size (past ++ change ∷ []) log.entries.items log.bytes.items
    (cases_after size past change range content old log room len enters (cases_of size past old.entries.items old.bytes.items filled))
