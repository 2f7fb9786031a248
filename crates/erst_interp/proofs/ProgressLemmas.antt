-- How an instruction goes on, one answer after another, over any space.
use Rattle.std.proofs.Common.{◌≡◌, ℕ, ◌+◌, ◌-◌, ◌<◌, ◌≤◌, ◌%◌, ◌^◌, ◌==◌, if◌then◌else◌, Bool, true, false, nat_lt, nat_le, Result, Ok, Err, bit_and, refl, sym, subst, arith}
use Rattle.std.proofs.lemmas.Bool.Decides.{nat_tests}
use Rattle.apei_tables.specs.declared.registers.Register.{Register}
use Rattle.apei_tables.specs.Check.{checked}
use Rattle.apei_tables.specs.Fields.{field, stored}
use Rattle.apei_space.specs.declared.faults.SpaceFault.{SpaceFault}
use Rattle.apei_space.specs.Calls.{Call, Write, Copy as CopyCall}
use Rattle.erst_interp.specs.declared.configurations.Configuration.{Configuration}
use Rattle.erst_interp.specs.declared.configurations.Task.{Task}
use Rattle.erst_interp.specs.declared.demands.Demand.{Demand}
use Rattle.erst_interp.specs.declared.states.Awaited.{Awaited}
use Rattle.erst_interp.specs.declared.states.Awaited.TheVariants.{Stall, Delay, Compared, Taken, Changed, Kept, Written, Offset, Copied}
use Rattle.erst_interp.specs.declared.states.Progress.{Progress}
use Rattle.erst_interp.specs.declared.states.Progress.TheVariants.{Done, Awaits, Stopped}
use Rattle.erst_interp.specs.declared.works.FieldUse.TheVariants.{Take, Change}
use Rattle.erst_interp.specs.declared.works.Access.{Access}
use Rattle.erst_interp.specs.declared.works.Access.TheVariants.{Field, Store as StoreAccess, Compare, Copy as CopyAccess}
use Rattle.erst_interp.specs.declared.stops.RunStop.{RunStop}
use Rattle.erst_interp.specs.declared.stops.RunStop.TheVariants.{Space, Budget, Goto as GotoOutside, MoveTooLong}
use Rattle.erst_interp.specs.Configurations.{next}
use Rattle.erst_interp.specs.Instructions.{HasWork, GoTo, TakeField, ChangeField, MoveBytes}
use Rattle.erst_interp.specs.Works.{taken, changed, access_meaning}
use Rattle.erst_interp.specs.Accesses.{FieldRead, Got, Refused, Store, Whole, Beside, Unread}
use Rattle.erst_interp.specs.Steps.{blocks, AtOnce, After, Step, Computes, Goes, Stalls, Takes, Stores, Changes, Compares, Moves as MovesStep, NotRead}
use Rattle.erst_interp.specs.Steps.{NotCompared, NotStored, NotChanged, Halt, Unknown, Unregistered, Outside, IsRefused, TooLong, Unpaid, NotCopied, Executes}
use Rattle.erst_interp.specs.Steps.{GoesOn, Stops}
use Rattle.erst_interp.specs.Demands.{call_of}
use Rattle.erst_interp.specs.Continuing.{demand_of, storing, first_access, gone, located, resumed, Begins, IsUnknown, IsDone, IsGoto, IsStall, HasNoRegister, HasRegister}
use Rattle.erst_interp.specs.Awaiting.{HasValue, IsGiven, IsMade, HasNumber, IsWhole, IsBeside, IsAwaited}
use Rattle.erst_interp.proofs.WorkLemmas.{uses_register-access}

-- what is so of an instruction that has come so far: it waits, or all that it does is known
abbrev pub Continues : {W : Type 0} → (W → Call → W → Type 0) → Task → ℕ → W → Progress → ℕ → W → Type 0
Continues allows task paid start (Done d) left now = Executes allows task paid start (Ok d) left now
Continues allows task paid start (Awaits awaited) left now = IsAwaited allows task paid start awaited left now
Continues allows task paid start (Stopped stop) left now = Executes allows task paid start (Err stop) left now

is_zero : (n : ℕ) → (n == 0) ≡ true → n ≡ 0
is_zero n e = grind (arith, nat_tests)

is_some : (n : ℕ) → (n == 0) ≡ false → n ≡ 0 → ⊥
is_some n e h = grind (arith, nat_tests)

is_less : (n m : ℕ) → nat_lt n m ≡ true → n < m
is_less n m e = grind (arith, nat_tests)

is_not_less : (n m : ℕ) → nat_lt n m ≡ false → m ≤ n
is_not_less n m e = grind (arith, nat_tests)

is_most : (n m : ℕ) → nat_le n m ≡ true → n ≤ m
is_most n m e = grind (arith, nat_tests)

is_not_most : (n m : ℕ) → nat_le n m ≡ false → m < n
is_not_most n m e = grind (arith, nat_tests)

goes_on : {W : Type 0} (allows : W → Call → W → Type 0) (task : Task) (paid : ℕ) (start : W) (d : Configuration) (left : ℕ) (now : W) → left ≡ paid →
    Step allows task start d 0 now → Executes allows task paid start (Ok d) left now
goes_on allows task paid start d left now e step = let sum : left + 0 ≡ paid = omega arith in GoesOn d 0 left now step sum

stops : {W : Type 0} (allows : W → Call → W → Type 0) (task : Task) (paid : ℕ) (start : W) (stop : RunStop) (left : ℕ) (now : W) → left ≡ paid →
    Halt allows task paid start stop paid now → Executes allows task paid start (Err stop) left now
stops allows task paid start stop left now e halt = subst (λ (n : ℕ). Executes allows task paid start (Err stop) n now) (sym e) (Stops stop paid now halt)

awaits_storing : {W : Type 0} (allows : W → Call → W → Type 0) (task : Task) (paid : ℕ) (start : W) (register : Register) (value left : ℕ) (now : W) → left ≡ paid →
    HasValue allows task register start value now → checked task.entry.region ≡ Ok register → IsAwaited allows task paid start (storing task register value) left now
awaits_storing allows task paid start register value left now e value_is ok =
    elim (bit_and task.entry.flags 1 == 0) as (λ (b : Bool). (bit_and task.entry.flags 1 == 0) ≡ b →
    IsAwaited allows task paid start (if b then Written register (stored value register.offset task.entry.mask) else Kept register value) left now) [
      | true ↦ λ whole. (e, IsWhole value now value_is (is_zero _ whole), ok)
      | false ↦ λ beside. (e, value_is, is_some _ beside, ok)
    ] refl

continues_register : {W : Type 0} (allows : W → Call → W → Type 0) (task : Task) (paid : ℕ) (start : W) (access : Access) (register : Register) →
    HasWork task (access_meaning access task) → checked task.entry.region ≡ Ok register → IsAwaited allows task paid start (first_access task register access) paid start
continues_register allows task paid start (Field (Take how)) register has ok = (refl, refl, has, ok)
continues_register allows task paid start (Field (Change how)) register has ok = (refl, refl, has, ok)
continues_register allows task paid start (StoreAccess value) register has ok = awaits_storing allows task paid start register value paid start refl (IsGiven value has) ok
continues_register allows task paid start Compare register has ok =
    elim (task.at.stalling) as (λ (b : Bool). task.at.stalling ≡ b → IsAwaited allows task paid start (if b then Delay register else Compared register) paid start) [
      | true ↦ λ stalling. (refl, refl, has, ok, stalling)
      | false ↦ λ at_once. (refl, has, ok, AtOnce at_once)
    ] refl
continues_register allows task paid start CopyAccess register has ok = (refl, refl, has, ok)

continues_gone : {W : Type 0} (allows : W → Call → W → Type 0) (task : Task) (paid : ℕ) (start : W) (to : ℕ) → HasWork task (GoTo to) → Continues allows task paid start (gone task to) paid start
continues_gone allows task paid start to has =
    elim (nat_lt to task.len) as (λ (b : Bool). nat_lt to task.len ≡ b →
    Continues allows task paid start (if b then Done (record (next task.at) { place = to }) else Stopped (GotoOutside task.at.place to)) paid start) [
      | true ↦ λ within. goes_on allows task paid start (record (next task.at) { place = to }) paid start refl (Goes to has (is_less _ _ within))
      | false ↦ λ beyond. stops allows task paid start (GotoOutside task.at.place to) paid start refl (Outside to has (is_not_less _ _ beyond))
    ] refl

pub continues_begins : {W : Type 0} (allows : W → Call → W → Type 0) (task : Task) (paid : ℕ) (start : W) (progress : Progress) → Begins task progress →
    Continues allows task paid start progress paid start
continues_begins allows task paid start progress begins = elim begins as (λ progress begins. Continues allows task paid start progress paid start) [
  | IsUnknown none ↦ Stops _ paid start (Unknown none)
  | IsDone d has ↦ goes_on allows task paid start d paid start refl (Computes d has)
  | IsGoto to has ↦ continues_gone allows task paid start to has
  | IsStall micros has ↦ (refl, refl, has)
  | HasNoRegister access why has bad ↦ Stops _ paid start (Unregistered (access_meaning access task) why has (uses_register-access access task) bad)
  | HasRegister access register has ok ↦ continues_register allows task paid start access register has ok
]

-- a store's last access
abbrev Stored : {W : Type 0} → (W → Call → W → Type 0) → Task → ℕ → W → Result (Unit {0}) SpaceFault → ℕ → W → Type 0
Stored allows task paid start (Ok sent) left now = Executes allows task paid start (Ok (next task.at)) left now
Stored allows task paid start (Err fault) left now = Executes allows task paid start (Err (Space task.at.place fault)) left now

stores : {W : Type 0} (allows : W → Call → W → Type 0) (task : Task) (paid : ℕ) (start : W) (register : Register) (value left : ℕ) (mid : W) (answer : Result (Unit {0}) SpaceFault) (now : W) →
    left ≡ paid → HasValue allows task register start value mid → checked task.entry.region ≡ Ok register → Store allows register task.entry value mid answer now →
    Stored allows task paid start answer left now
stores allows task paid start register value left mid (Ok sent) now e value_is ok store =
    elim value_is as (λ value mid value_is. Store allows register task.entry value mid (Ok sent) now → Executes allows task paid start (Ok (next task.at)) left now) [
      | IsGiven value has ↦ λ store. goes_on allows task paid start _ left now e (Stores value register now has ok store)
      | IsMade change x mid has read ↦ λ store. goes_on allows task paid start _ left now e (Changes change register x mid now has ok read store)
    ] store
stores allows task paid start register value left mid (Err fault) now e value_is ok store =
    elim value_is as (λ value mid value_is. Store allows register task.entry value mid (Err fault) now → Executes allows task paid start (Err (Space task.at.place fault)) left now) [
      | IsGiven value has ↦ λ store. stops allows task paid start _ left now e (IsRefused fault now (NotStored value register fault now has ok store))
      | IsMade change x mid has read ↦ λ store. stops allows task paid start _ left now e (IsRefused fault now (NotChanged change register x fault mid now has ok read store))
    ] store

writes : {W : Type 0} (allows : W → Call → W → Type 0) (task : Task) (paid : ℕ) (start : W) (register : Register) (number left : ℕ) (now : W) (answer : Result (Unit {0}) SpaceFault) (then_now : W) →
    left ≡ paid → HasNumber allows task register start number now → checked task.entry.region ≡ Ok register →
    allows now (Write register.place register.access number answer) then_now → Stored allows task paid start answer left then_now
writes allows task paid start register number left now answer then_now e written ok h =
    elim written as (λ number now writes. allows now (Write register.place register.access number answer) then_now → Stored allows task paid start answer left then_now) [
      | IsWhole value now value_is whole ↦ λ h. stores allows task paid start register value left now answer then_now e value_is ok (Whole answer then_now whole h)
      | IsBeside value mid read now value_is keeps k ↦ λ h. stores allows task paid start register value left mid answer then_now e value_is ok (Beside read now answer then_now keeps k h)
    ] h

continues_located : {W : Type 0} (allows : W → Call → W → Type 0) (task : Task) (paid : ℕ) (start : W) (register : Register) (x left : ℕ) (now : W) → left ≡ paid → HasWork task MoveBytes →
    checked task.entry.region ≡ Ok register → FieldRead allows register task.entry.mask start (Ok x) now →
    Continues allows task paid start (located task left x).0 (located task left x).1 now
continues_located allows task paid start register x left now e has ok read =
    elim (nat_lt 65536 task.at.var2) as (λ (b : Bool). nat_lt 65536 task.at.var2 ≡ b →
    let t : Progress × ℕ = if b then (Stopped (MoveTooLong task.at.place task.at.var2), left)
    else (if nat_le (blocks task.at.var2) left then (Awaits (Copied ((task.at.source + x) % 2 ^ 64) ((task.at.target + x) % 2 ^ 64) task.at.var2), left - blocks task.at.var2)
    else (Stopped Budget, left - blocks task.at.var2)) in
    Continues allows task paid start t.0 t.1 now) [
      | true ↦ λ long. stops allows task paid start _ left now e (TooLong register x now has ok read (is_less _ _ long))
      | false ↦ λ short.
          let small : task.at.var2 ≤ 65536 = is_not_less _ _ short in
          elim (nat_le (blocks task.at.var2) left) as (λ (b : Bool). nat_le (blocks task.at.var2) left ≡ b →
          let t : Progress × ℕ = if b then (Awaits (Copied ((task.at.source + x) % 2 ^ 64) ((task.at.target + x) % 2 ^ 64) task.at.var2), left - blocks task.at.var2)
          else (Stopped Budget, left - blocks task.at.var2) in
          Continues allows task paid start t.0 t.1 now) [
            | true ↦ λ enough.
                let most : blocks task.at.var2 ≤ left = is_most _ _ enough in
                let sum : left - blocks task.at.var2 + blocks task.at.var2 ≡ paid = omega arith in
                record { register = register; x = x; work = has; region = ok; read = read; small = small; sum = sum; source_is = refl; target_is = refl; len_is = refl }
            | false ↦ λ unpaid.
                let few : left < blocks task.at.var2 = is_not_most _ _ unpaid in
                let none : left - blocks task.at.var2 ≡ 0 = omega arith in
                let less : paid < blocks task.at.var2 = omega arith in
                subst (λ (n : ℕ). Executes allows task paid start (Err Budget) n now) (sym none) (Stops _ 0 now (Unpaid register x now has ok read small less))
          ] refl
    ] refl

at_start : {W : Type 0} (allows : W → Call → W → Type 0) (call : Call) (now start then_now : W) → now ≡ start → allows now call then_now → allows start call then_now
at_start allows call now start then_now s h = subst (λ (w : _). allows w call then_now) s h

copied : {W : Type 0} (allows : W → Call → W → Type 0) (source target len source_kept target_kept len_kept : ℕ) (answer : Result (Unit {0}) SpaceFault)
    (now then_now : W) → source ≡ source_kept → target ≡ target_kept → len ≡ len_kept →
    allows now (CopyCall source target len answer) then_now → allows now (CopyCall source_kept target_kept len_kept answer) then_now
copied allows source target len source_kept target_kept len_kept answer now then_now a b c h =
    subst (λ (n : ℕ). allows now (CopyCall source_kept target_kept n answer) then_now) c
    (subst (λ (n : ℕ). allows now (CopyCall source_kept n len answer) then_now) b (subst (λ (n : ℕ). allows now (CopyCall n target len answer) then_now) a h))

-- an answer leads on
pub continues_answer : {W : Type 0} (allows : W → Call → W → Type 0) (task : Task) (paid : ℕ) (start : W) (awaited : Awaited) (left : ℕ) (now : W) (answer : Result ℕ SpaceFault) (then_now : W) →
    IsAwaited allows task paid start awaited left now → allows now (call_of (demand_of task awaited) answer) then_now →
    Continues allows task paid start (resumed task awaited left answer).0 (resumed task awaited left answer).1 then_now
continues_answer allows task paid start (Stall micros) left now (Ok n) then_now w h = goes_on allows task paid start _ left then_now w.0
    (Stalls micros then_now w.2 (at_start allows _ now start then_now w.1 h))
continues_answer allows task paid start (Stall micros) left now (Err f) then_now w h = goes_on allows task paid start _ left then_now w.0
    (Stalls micros then_now w.2 (at_start allows _ now start then_now w.1 h))
continues_answer allows task paid start (Delay register) left now (Ok n) then_now w h = (w.0, w.2, w.3, After then_now w.4 (at_start allows _ now start then_now w.1 h))
continues_answer allows task paid start (Delay register) left now (Err f) then_now w h = (w.0, w.2, w.3, After then_now w.4 (at_start allows _ now start then_now w.1 h))
continues_answer allows task paid start (Compared register) left now (Ok n) then_now w h =
    goes_on allows task paid start _ left then_now w.0 (Compares register (field n register.offset task.entry.mask) now then_now w.1 w.2 w.3 (Got n then_now h))
continues_answer allows task paid start (Compared register) left now (Err f) then_now w h =
    stops allows task paid start _ left then_now w.0 (IsRefused f then_now (NotCompared register f now then_now w.1 w.2 w.3 (Refused f then_now h)))
continues_answer allows task paid start (Taken register how) left now (Ok n) then_now w h =
    goes_on allows task paid start _ left then_now w.0 (Takes (taken how task) register (field n register.offset task.entry.mask) then_now w.2 w.3
    (Got n then_now (at_start allows _ now start then_now w.1 h)))
continues_answer allows task paid start (Taken register how) left now (Err f) then_now w h =
    stops allows task paid start _ left then_now w.0
    (IsRefused f then_now (NotRead (TakeField (taken how task)) register f then_now w.2 refl w.3
    (Refused f then_now (at_start allows _ now start then_now w.1 h))))
continues_answer allows task paid start (Changed register how) left now (Ok n) then_now w h =
    awaits_storing allows task paid start register (changed how task (field n register.offset task.entry.mask)) left then_now w.0
    (IsMade (changed how task) (field n register.offset task.entry.mask) then_now w.2 (Got n then_now (at_start allows _ now start then_now w.1 h))) w.3
continues_answer allows task paid start (Changed register how) left now (Err f) then_now w h =
    stops allows task paid start _ left then_now w.0 (IsRefused f then_now (NotRead (ChangeField (changed how task)) register f then_now w.2 refl w.3
    (Refused f then_now (at_start allows _ now start then_now w.1 h))))
continues_answer allows task paid start (Kept register value) left now (Ok n) then_now w h = (w.0, IsBeside value now n then_now w.1 w.2 h, w.3)
continues_answer allows task paid start (Kept register value) left now (Err f) then_now w h =
    stores allows task paid start register value left now (Err f) then_now w.0 w.1 w.3 (Unread f then_now w.2 h)
continues_answer allows task paid start (Written register number) left now (Ok n) then_now w h = writes allows task paid start register number left now (Ok tt) then_now w.0 w.1 w.2 h
continues_answer allows task paid start (Written register number) left now (Err f) then_now w h = writes allows task paid start register number left now (Err f) then_now w.0 w.1 w.2 h
continues_answer allows task paid start (Offset register) left now (Ok n) then_now w h =
    continues_located allows task paid start register (field n register.offset task.entry.mask) left then_now w.0 w.2 w.3 (Got n then_now (at_start allows _ now start then_now w.1 h))
continues_answer allows task paid start (Offset register) left now (Err f) then_now w h =
    stops allows task paid start _ left then_now w.0 (IsRefused f then_now (NotRead MoveBytes register f then_now w.2 refl w.3 (Refused f then_now (at_start allows _ now start then_now w.1 h))))
continues_answer allows task paid start (Copied source target len) left now (Ok n) then_now w h =
    GoesOn (next task.at) (blocks task.at.var2) left then_now
    (MovesStep w.register w.x now then_now w.work w.region w.read w.small (copied allows source target len _ _ _ (Ok tt) now then_now w.source_is w.target_is w.len_is h)) w.sum
continues_answer allows task paid start (Copied source target len) left now (Err f) then_now w h =
    let sum : left + blocks task.at.var2 ≡ paid = w.sum in
    let rest : paid - blocks task.at.var2 ≡ left = omega arith in
    let enough : blocks task.at.var2 ≤ paid = omega arith in
    subst (λ (n : ℕ). Executes allows task paid start (Err (Space task.at.place f)) n then_now) rest
    (Stops _ _ then_now (NotCopied w.register w.x f now then_now w.work w.region w.read w.small enough (copied allows source target len _ _ _ (Err f) now then_now w.source_is w.target_is w.len_is h)))

-- the same in the pieces that the loop over the accesses has
pub continues_first : {W : Type 0} (allows : W → Call → W → Type 0) (task : Task) (paid : ℕ) (start : W) (progress so : Progress) → Begins task progress →
    progress ≡ so → Continues allows task paid start so paid start
continues_first allows task paid start progress so begins is = subst (λ (p : Progress). Continues allows task paid start p paid start) is (continues_begins allows task paid start progress begins)

pub continues_on : {W : Type 0} (allows : W → Call → W → Type 0) (task : Task) (paid : ℕ) (start : W) (awaited : Awaited) (demand : Demand) (left : ℕ) (now : W)
    (answer : Result ℕ SpaceFault) (then_now : W)
    (progress so : Progress) (after : ℕ) → IsAwaited allows task paid start awaited left now → demand ≡ demand_of task awaited → allows now (call_of demand answer) then_now →
    progress ≡ (resumed task awaited left answer).0 → after ≡ (resumed task awaited left answer).1 → progress ≡ so → Continues allows task paid start so after then_now
continues_on allows task paid start awaited demand left now answer then_now progress so after waits told h progress_is after_is is =
    subst (λ (p : Progress). Continues allows task paid start p after then_now) is
    (rw progress_is (rw after_is (continues_answer allows task paid start awaited left now answer then_now waits (subst (λ (d : Demand). allows now (call_of d answer) then_now) told h))))
