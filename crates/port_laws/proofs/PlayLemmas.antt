-- The records that are found are those of the first commands.
use Rattle.std.proofs.Common.{◌≡◌, ◌∙◌, ◌⊎◌, ℕ, zero, suc, ◌<◌, ◌≤◌, List, [], ◌∷◌, length, take, Option, Some, None, inl, inr, refl, sym, ap, arith}
use Rattle.std.proofs.lemmas.List.{length-take}
use Rattle.record_model.specs.Records.{Stored}
use Rattle.record_model.specs.RecordMap.{Command}
use Rattle.port_laws.specs.Calls.{Embedded}
use Rattle.port_laws.specs.Commands.{records_of, completed, made_with}
use Rattle.port_laws.specs.Prefixes.{Calls, records_after, completed_next, IsHistory, IsTaken, ShowsPrefix, CountsNoFault, and_then, commands_in, played, ShowsFirst}

played_then : (command : Option Command) (rest : List Command) (stored : Stored) → played (and_then command rest) stored ≡ played rest (made_with command stored)
played_then (Some command) rest stored = refl
played_then None rest stored = refl

none_in : (now : Embedded) (calls : Calls) → commands_in 0 now calls ≡ []
none_in now [] = refl
none_in now (move ∷ rest) = refl

-- the next command is that of the next call
next_is : (n : ℕ) (now : Embedded) (calls : Calls) (stored : Stored)
    → made_with (completed_next n now calls) (played (commands_in n now calls) stored) ≡ played (commands_in (suc n) now calls) stored
next_is n now [] stored = refl
next_is zero now (move ∷ rest) stored =
    sym (ap (λ (commands : List Command). played commands (made_with (completed now.port move.event) stored)) (none_in move.left rest))
    ∙ sym (played_then (completed now.port move.event) (commands_in 0 move.left rest) stored)
next_is (suc n) now (move ∷ rest) stored =
    let command = completed now.port move.event in
    ap (made_with (completed_next n move.left rest)) (played_then command (commands_in n move.left rest) stored)
    ∙ next_is n move.left rest (made_with command stored)
    ∙ sym (played_then command (commands_in (suc n) move.left rest) stored)

first_records : (now : Embedded) (calls : Calls) → records_after 0 now calls ≡ records_of now.port
first_records now [] = refl
first_records now (move ∷ rest) = refl

-- where no fault is counted, each command is made
records_are : (n : ℕ) (now : Embedded) (calls : Calls) → IsHistory now calls → CountsNoFault now calls → n ≤ length calls
    → records_after n now calls ≡ played (commands_in n now calls) (records_of now.port)
records_are zero now calls history no_fault within =
    first_records now calls ∙ sym (ap (λ (commands : List Command). played commands (records_of now.port)) (none_in now calls))
records_are (suc n) now calls history no_fault within =
    let below : n < length calls = omega (arith, within) in
    history.made n below (no_fault n below)
    ∙ ap (made_with (completed_next n now calls)) (records_are n now calls history no_fault (omega (arith, within)))
    ∙ next_is n now calls (records_of now.port)

-- the commands of the first calls are the first commands
front_then : (command : Option Command) (first all : List Command) → take (length first) all ≡ first → take (length (and_then command first)) (and_then command all) ≡ and_then command first
front_then (Some command) first all front = ap (λ (rest : List Command). command ∷ rest) front
front_then None first all front = front

are_first : (n : ℕ) (now : Embedded) (calls : Calls) → take (length (commands_in n now calls)) (commands_in (length calls) now calls) ≡ commands_in n now calls
are_first n now [] = refl
are_first zero now (move ∷ rest) = refl
are_first (suc n) now (move ∷ rest) = front_then (completed now.port move.event) (commands_in n move.left rest) (commands_in (length rest) move.left rest) (are_first n move.left rest)

few_first : (n : ℕ) (now : Embedded) (calls : Calls) → length (commands_in n now calls) ≤ length (commands_in (length calls) now calls)
few_first n now calls =
    let size = ap length (are_first n now calls) in
    let cut = length-take (length (commands_in n now calls)) (commands_in (length calls) now calls) in
    omega (arith, size, cut)

more_then : (command : Option Command) (first more : List Command) → length first ≤ length more → length (and_then command first) ≤ length (and_then command more)
more_then (Some command) first more le = omega (arith, le)
more_then None first more le = le

more_in : (n m : ℕ) (now : Embedded) (calls : Calls) → n ≤ m → length (commands_in n now calls) ≤ length (commands_in m now calls)
more_in n m now [] le = omega arith
more_in zero m now (move ∷ rest) le = omega arith
more_in (suc n) zero now (move ∷ rest) le = absurd (omega (arith, le))
more_in (suc n) (suc m) now (move ∷ rest) le = more_then (completed now.port move.event) (commands_in n move.left rest) (commands_in m move.left rest) (more_in n m move.left rest (omega (arith, le)))

shows_of : (k : ℕ) (now : Embedded) (calls : Calls) (shown : Stored) → ((n : ℕ) → IsTaken n now calls → n ≤ k)
    → shown ≡ played (commands_in k now calls) (records_of now.port) → ShowsFirst now calls shown
shows_of k now calls shown settled is = record {
  count = length (commands_in k now calls);
  within = few_first k now calls;
  settled = λ n taken. more_in n k now calls (settled n taken);
  shown_are = is ∙ sym (ap (λ (commands : List Command). played commands (records_of now.port)) (are_first k now calls));
}

pub shows_first : (now : Embedded) (calls : Calls) (shown : Stored) → IsHistory now calls → CountsNoFault now calls → ShowsPrefix now calls shown → ShowsFirst now calls shown
shows_first now calls shown history no_fault prefix = by_place prefix.shown_are
  where
    records : records_after prefix.count now calls ≡ played (commands_in prefix.count now calls) (records_of now.port)
    records = records_are prefix.count now calls history no_fault prefix.within

    by_place : (shown ≡ records_after prefix.count now calls) ⊎ (shown ≡ made_with (completed_next prefix.count now calls) (records_after prefix.count now calls)) → ShowsFirst now calls shown
    by_place (inl here) = shows_of prefix.count now calls shown prefix.settled (here ∙ records)
    by_place (inr next) =
        shows_of (suc prefix.count) now calls shown (λ n taken. let low = prefix.settled n taken in omega (arith, low))
        (next ∙ ap (made_with (completed_next prefix.count now calls)) records ∙ next_is prefix.count now calls (records_of now.port))
