-- A listing over a port is one over a device of its records.
use Rattle.std.proofs.Common.{◌≡◌, ◌∙◌, ℕ, ◌<◌, ◌≤◌, Bool, true, is_some, List, Option, Some, None, Result, Ok, Err, refl, sym, subst, arith}
use Rattle.std.specs.FinMap.{get}
use Rattle.record_model.specs.Records.{Stored}
use Rattle.record_model.specs.RecordMap.{IsNextAbove}
use Rattle.erst_client.specs.declared.errors.ClientError.{ClientError}
use Rattle.erst_listing.specs.declared.errors.ListError.{ListError}
use Rattle.erst_listing.specs.declared.errors.ListError.TheVariants.{Full}
use Rattle.erst_listing.specs.Gathering.{Ends, ComesAgain, EndsAgain, HasNoRoom, IsRefused, Gathers, NoneAsked, OneAsked, Lists}
use Rattle.erst_listing.specs.Listing.{questions}
use Rattle.erst_listing.specs.Devices.{Told, IsInOrder, IsNextBehind, NoneBehind, Tells, TellsNext, GoesRound, TellsAllOnes}
use Rattle.erst_device.specs.DeviceState.{records}
use Rattle.erst_machine.specs.MachineState.{MachineState, records_of}
use Rattle.erst_commands.specs.Runs.{CallFrom}
use Rattle.erst_port.specs.declared.windows.Addresses.{Addresses}
use Rattle.port_laws.specs.PortSpaces.{SpaceState, Goes}
use Rattle.port_laws.specs.PortClients.{port_table}
use Rattle.port_laws.specs.Machines.{machine_of}
use Rattle.port_laws.specs.Looks.{NextRound, IsAbove, IsFirst, IsNone, IsNotFound}
use Rattle.port_laws.specs.Listings.{ListsPort}
use Rattle.port_laws.proofs.ListingLemmas.{kept, not_zero, round_of}

-- the identifiers of a map, told in their order
abbrev pub told_of : Stored → Told
told_of stored = record { has = λ (id : ℕ). is_some (get stored id); place = λ (id : ℕ). id }

none_behind : (stored : Stored) (at : ℕ) → IsNextAbove at stored None → NoneBehind (told_of stored) at
none_behind stored at none other holds = by_kept (get stored other) refl holds
  where
    sides : (at < other → ⊥) → other ≤ at
    sides not = grind (arith, not)

    by_kept : (kept : Option (List ℕ × ℕ)) → get stored other ≡ kept → is_some kept ≡ true → other ≤ at
    by_kept None is some = absurd (cc some)
    by_kept (Some found) is some = sides (λ up. absurd (let e : Some found ≡ None = sym is ∙ none other up in cc e))

next_behind : (stored : Stored) (at id : ℕ) → IsNextAbove at stored (Some id) → IsNextBehind (told_of stored) at id
next_behind stored at id next = record { has = next.1; behind = next.0; least = λ other holds up. next.2 other up holds }

-- a port's answer is one of such a device
record IsTold (stored : Stored) (first last : MachineState) (told : Option ℕ) : Type 0 where
  tells : Tells (told_of stored) first.device.cursor (Ok told) last.device.cursor
  same : records_of last ≡ stored

told_by : (stored : Stored) (first last : MachineState) (told : Option ℕ) (result : Result (Option ℕ) ClientError) → records_of first ≡ stored →
    result ≡ Ok told → NextRound first last result → IsTold stored first last told
told_by stored first last told result at_first is round = (elim round as (λ (result : Result (Option ℕ) ClientError) round. result ≡ Ok told → IsTold stored first last told) [
  | IsAbove id asked least cursor ↦ λ e. let same : Some id ≡ told = cc e in subst (IsTold stored first last) same (record {
    tells = subst (λ (n : ℕ). Tells (told_of stored) first.device.cursor (Ok (Some id)) n) (sym cursor)
        (TellsNext id (next_behind stored first.device.cursor id (subst (λ (map : Stored). IsNextAbove first.device.cursor map (Some id)) at_first least)));
    same = kept first last asked ∙ at_first;
  })
  | IsFirst id asked none least cursor ↦ λ e. let same : Some id ≡ told = cc e in subst (IsTold stored first last) same (record {
    tells = subst (λ (n : ℕ). Tells (told_of stored) first.device.cursor (Ok (Some id)) n) (sym cursor)
        (GoesRound id (none_behind stored first.device.cursor (subst (λ (map : Stored). IsNextAbove first.device.cursor map None) at_first none))
        (next_behind stored 0 id (subst (λ (map : Stored). IsNextAbove 0 map (Some id)) at_first least)));
    same = kept first last asked ∙ at_first;
  })
  | IsNone asked none empty cursor ↦ λ e. let same : None ≡ told = cc e in subst (IsTold stored first last) same (record {
    tells = subst (λ (n : ℕ). Tells (told_of stored) first.device.cursor (Ok None) n) (sym cursor)
        (TellsAllOnes (none_behind stored first.device.cursor (subst (λ (map : Stored). IsNextAbove first.device.cursor map None) at_first none)));
    same = kept first last asked ∙ at_first;
  })
  | IsNotFound failed ↦ λ e. absurd (cc e)
]) is

module _ (addresses : Addresses) (steps : ℕ) where
  abbrev Asks : SpaceState → Result (Option ℕ) ClientError → SpaceState → Type 0
  Asks first answer last = questions (Goes addresses) (port_table addresses).entries steps first answer last

  was_told : (stored : Stored) (first : SpaceState) (told : Option ℕ) (last : SpaceState) → records first.port.device ≡ stored → Asks first (Ok told) last →
      IsTold stored (machine_of first) (machine_of last) told
  was_told stored first told last at_first asks =
      let run : CallFrom first (Option ℕ) = record { budget = steps; answer = Ok told; left = asks.0; last = last } in
      told_by stored (machine_of first) (machine_of last) told (Ok told) at_first refl (round_of addresses first told run asks.1 refl)

  record IsGathered (stored : Stored) (room : ℕ) (first : SpaceState) (ids : List ℕ) (ended_once : Bool) (last : SpaceState) : Type 0 where
    gathers : Gathers (Tells (told_of stored)) room first.port.device.cursor ids ended_once last.port.device.cursor
    same : records last.port.device ≡ stored

  gathered : (room : ℕ) (first : SpaceState) (ids : List ℕ) (ended_once : Bool) (last : SpaceState) → Gathers Asks room first ids ended_once last →
      IsGathered (records first.port.device) room first ids ended_once last
  gathered room first ids ended_once last NoneAsked = record { gathers = NoneAsked; same = refl }
  gathered room first ids ended_once last (OneAsked before was mid answer more ends after gathers asks on) =
      let so = gathered room first before was mid gathers in
      let told = was_told (records first.port.device) mid answer after so.same asks in
      record { gathers = OneAsked before was mid.port.device.cursor answer more ends after.port.device.cursor so.gathers told.tells on; same = told.same }

  module _ (room : ℕ) (first : SpaceState) (ids : List ℕ) (last : SpaceState) where
    -- one that ended by an answer
    by_answer : (ended_once : Bool) (mid : SpaceState) (told : Option ℕ) (result : Result (Unit {0}) ListError) → Gathers Asks room first ids ended_once mid →
        Asks mid (Ok told) last → Ends room ids ended_once (Ok told) result →
        Lists (Tells (told_of (records first.port.device))) room first.port.device.cursor result ids last.port.device.cursor
    by_answer ended_once mid told result gathers asks ends =
        let so = gathered room first ids ended_once mid gathers in
        record {
          ended_once = ended_once;
          mid = mid.port.device.cursor;
          answer = Ok told;
          gathers = so.gathers;
          asked =
              (was_told (records first.port.device) mid told last so.same asks).tells;
          ends = ends;
        }

    pub listed_all : ListsPort addresses steps room first (Ok tt) ids last → Lists (Tells (told_of (records first.port.device))) room first.port.device.cursor (Ok tt) ids last.port.device.cursor
    listed_all lists = (elim lists.ends as (λ (answer : Result (Option ℕ) ClientError) (result : Result (Unit {0}) ListError) ends. result ≡ Ok tt → Asks lists.mid answer last →
        Lists (Tells (told_of (records first.port.device))) room first.port.device.cursor result ids last.port.device.cursor) [
          | ComesAgain id has ↦ λ e asks. by_answer lists.ended_once lists.mid (Some id) (Ok tt) lists.gathers asks (ComesAgain id has)
          | EndsAgain is ↦ λ e asks. by_answer lists.ended_once lists.mid None (Ok tt) lists.gathers asks (EndsAgain is)
          | HasNoRoom id misses full ↦ λ e asks. absurd (cc e)
          | IsRefused error ↦ λ e asks. absurd (cc e)
        ]) refl lists.asked

    pub listed_full : ListsPort addresses steps room first (Err Full) ids last → Lists (Tells (told_of (records first.port.device))) room
        first.port.device.cursor (Err Full) ids last.port.device.cursor
    listed_full lists = (elim lists.ends as (λ (answer : Result (Option ℕ) ClientError) (result : Result (Unit {0}) ListError) ends. result ≡ Err Full → Asks lists.mid answer last →
        Lists (Tells (told_of (records first.port.device))) room first.port.device.cursor result ids last.port.device.cursor) [
          | ComesAgain id has ↦ λ e asks. absurd (cc e)
          | EndsAgain is ↦ λ e asks. absurd (cc e)
          | HasNoRoom id misses full ↦ λ e asks. by_answer lists.ended_once lists.mid (Some id) (Err Full) lists.gathers asks (HasNoRoom id misses full)
          | IsRefused error ↦ λ e asks. absurd (cc e)
        ]) refl lists.asked

-- the places of identifiers
pub in_order : (first : SpaceState) → IsInOrder (told_of (records first.port.device))
in_order first = record { begins = λ id has. not_zero first.port.device.store id has; apart = λ id other has also same. same }
