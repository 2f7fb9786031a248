-- What accesses of a port leave alone.
use Rattle.std.proofs.Common.{◌≡◌, ℕ, ◌%◌, ◌^◌, List, Option, Some, None, Result, inl, inr, refl, sym, ap, subst, ◌∙◌}
use Rattle.apei_tables.specs.declared.registers.Place.TheVariants.{Memory}
use Rattle.apei_tables.specs.declared.widths.Width.{Width}
use Rattle.apei_space.specs.declared.faults.SpaceFault.{SpaceFault}
use Rattle.apei_space.specs.Calls.{Call, Read, Write, Wait, Copy, ReadBytes, WriteBytes}
use Rattle.apei_space.specs.Accesses.{Reaches, Stays, Goes as then}
use Rattle.apei_space.specs.Windows.{address_of}
use Rattle.erst_device.specs.DeviceState.{DeviceState}
use Rattle.erst_port.specs.declared.errors.PortError.{PortError}
use Rattle.erst_port.specs.declared.parts.Made.{Made}
use Rattle.erst_port.specs.declared.windows.Addresses.{Addresses}
use Rattle.erst_port.specs.declared.windows.Location.{Location}
use Rattle.erst_port.specs.declared.windows.Location.TheVariants.{Action, Value, LowHalf, HighHalf, Bytes, Nowhere}
use Rattle.erst_port.specs.declared.windows.Window.{Window}
use Rattle.erst_port.specs.PortState.{PortState, IsPort}
use Rattle.erst_port.specs.Accesses.{ActionWritten, NumberWritten, bytes_stored}
use Rattle.port_laws.specs.PortSpaces.{SpaceState, place_in, WrittenAt, bytes_location, bytes_stored_at, Does, caught_up, Goes}

-- a port with another device, other bytes in its log range and another count of what is made
abbrev pub IsBeside : PortState → PortState → Type 0
IsBeside first last = last ≡ record first { device = last.device; range = last.range; made = last.made }

beside_of : (first last : PortState) (device : DeviceState) (range : List ℕ) (made : Made) → last ≡ record first { device = device; range = range; made = made } → IsBeside first last
beside_of first last device range made is = subst (IsBeside first) (sym is) refl

same_beside : (first last : PortState) → last ≡ first → IsBeside first last
same_beside first last is = beside_of first last first.device first.range first.made is

action_beside : (old : PortState) (code : ℕ) (answer : Result (Unit {0}) PortError) (new : PortState) → ActionWritten old code answer new → IsBeside old new
action_beside old code answer new (inl due) = same_beside old new due.2
action_beside old code answer new (inr taken) = beside_of old new new.device new.range old.made taken.2.others

number_beside : (location : Location) (old : PortState) (width : Width) (value : ℕ) (answer : Result (Unit {0}) PortError) (new : PortState) →
    NumberWritten location old width value answer new → IsBeside old new
number_beside Action old width value answer new wrote = action_beside old (value % 2 ^ 32) answer new wrote
number_beside Value old width value answer new wrote = beside_of old new _ _ _ wrote.1
number_beside LowHalf old width value answer new wrote = beside_of old new _ _ _ wrote.1
number_beside HighHalf old width value answer new wrote = beside_of old new _ _ _ wrote.1
number_beside (Bytes start) old width value answer new wrote = beside_of old new _ _ _ wrote.1
number_beside Nowhere old width value answer new wrote = same_beside old new wrote.1

written_beside : (place : Option (Window × ℕ)) (old : PortState) (at : ℕ) (width : Width) (value : ℕ) (answer : Result (Unit {0}) SpaceFault) (new : PortState)
    → WrittenAt place old at width value answer new → IsBeside old new
written_beside None old at width value answer new wrote = same_beside old new wrote.1
written_beside (Some place) old at width value answer new wrote = number_beside _ old width value wrote.0 new wrote.2

stored_beside : (location : Location) (old : PortState) (bytes : List ℕ) → IsBeside old (bytes_stored location old bytes).1
stored_beside Action old bytes = refl
stored_beside Value old bytes = refl
stored_beside LowHalf old bytes = refl
stored_beside HighHalf old bytes = refl
stored_beside (Bytes start) old bytes = refl
stored_beside Nowhere old bytes = refl

bytes_beside : (place : Option (Window × ℕ)) (old : PortState) (at : ℕ) (bytes : List ℕ) → IsBeside old (bytes_stored_at place old at bytes).1
bytes_beside None old at bytes = refl
bytes_beside (Some place) old at bytes = stored_beside (bytes_location place.0 _ place.1 _) old bytes

call_beside : (old : SpaceState) (call : Call) (new : SpaceState) → Does old call new → IsBeside old.port new.port
call_beside old (Read at width answer) new does = same_beside old.port new.port (ap (λ (s : SpaceState). s.port) does.1)
call_beside old (Write at width value answer) new does = written_beside (place_in old.port at) old.port (address_of at) width value answer new.port does.0
call_beside old (Wait micros) new does = same_beside old.port new.port (ap (λ (s : SpaceState). s.port) does)
call_beside old (Copy from to n answer) new does = same_beside old.port new.port (ap (λ (s : SpaceState). s.port) does.1)
call_beside old (ReadBytes at before after answer) new does = same_beside old.port new.port (ap (λ (s : SpaceState). s.port) does.2)
call_beside old (WriteBytes at bytes answer) new does =
    subst (λ (s : SpaceState). IsBeside old.port s.port) (sym does.1) (bytes_beside (place_in old.port (Memory at)) old.port at bytes)

beside_then : (first mid last : PortState) → IsBeside first mid → IsBeside mid last → IsBeside first last
beside_then first mid last one two = beside_of first last last.device last.range last.made (two ∙ ap (λ (p : PortState). record p { device = last.device; range = last.range; made = last.made }) one)

pub is_port : (addresses : Addresses) (first last : SpaceState) → IsPort first.port → Reaches (Goes addresses) first last → IsPort last.port
is_port addresses first last port Stays = port
is_port addresses first last port (then mid call end so goes) = goes.after

pub keeps_others : (addresses : Addresses) (first last : SpaceState) → IsPort first.port → Reaches (Goes addresses) first last → IsBeside first.port last.port
keeps_others addresses first last port Stays = refl
keeps_others addresses first last port (then mid call end so goes) =
    beside_then first.port mid.port end.port (keeps_others addresses first mid port so) (beside_then mid.port (caught_up mid).port end.port refl (call_beside (caught_up mid) call end goes.does))
