-- A write that is told the answers of its accesses is a write.
use Rattle.std.proofs.Common.{◌≡◌, ℕ, ◌+◌, ◌*◌, ◌<◌, ◌≤◌, List, Option, Some, None, Result, Ok, Err, refl, sym, subst, arith}
use Rattle.std.proofs.lemmas.Option.{none-some, same_Some}
use Rattle.apei_space.specs.declared.faults.SpaceFault.{SpaceFault}
use Rattle.apei_space.specs.Calls.{Call}
use Rattle.erst_entries.specs.declared.entries.Entry.{Entry}
use Rattle.erst_entries.specs.Layout.{Erst}
use Rattle.erst_interp.specs.declared.demands.Demand.{Demand}
use Rattle.erst_client.specs.declared.attaching.FoundRange.{FoundRange}
use Rattle.erst_client.specs.declared.errors.ClientError.{ClientError}
use Rattle.erst_client.specs.declared.errors.ClientError.TheVariants.{Range}
use Rattle.erst_client.specs.declared.stages.Command.TheVariants.{Write}
use Rattle.erst_client.specs.declared.stages.Part.TheVariants.{Begin}
use Rattle.erst_client.specs.declared.writing.Writing.{Writing}
use Rattle.erst_client.specs.declared.writing.Writing.TheVariants.{Record, Mark, Sequence, Refused}
use Rattle.erst_client.specs.declared.writing.WriteDemand.{WriteDemand}
use Rattle.erst_client.specs.Attaching.{client_with}
use Rattle.erst_client.specs.Positions.{demanded_at}
use Rattle.erst_client.specs.Bounds.{write_bound}
use Rattle.erst_client.specs.Commands.{ClientState, write_refusal, NotPut, NotMarked, IsPut, Writes, IsNoRecord, IsNotPut, IsAsked}
use Rattle.erst_client.specs.Writing.{begun, access_of, write_first, write_demanded, write_answered, write_result, write_left, WriteMoves, WriteStands, WriteMade}
use Rattle.erst_client.proofs.PositionLemmas.{at_first, at_moves, in_answered, at_result}
use Rattle.erst_client.proofs.BoundLemmas.{of_requesting, moves_fall, answered_falls}

begun_stands : {W : Type 0} (allows : W → Call → W → Type 0) (client : ClientState) (bytes : List ℕ) (steps : ℕ) (first : W) (why : Option ClientError) → write_refusal bytes client.range ≡ why →
    WriteStands allows client bytes steps first (begun why) first
begun_stands allows client bytes steps first None is = (is, refl)
begun_stands allows client bytes steps first (Some error) is = IsNoRecord error is

pub write_begins : {W : Type 0} (allows : W → Call → W → Type 0) (erst : Erst) (found : FoundRange) (bytes : List ℕ) (steps : ℕ) (first : W) →
    WriteStands allows (client_with erst found) bytes steps first (write_first found bytes) first
write_begins allows erst found bytes steps first = begun_stands allows (client_with erst found) bytes steps first (write_refusal bytes found.len) refl

same_write : {W : Type 0} (allows : W → Call → W → Type 0) (client : ClientState) (bytes : List ℕ) (steps : ℕ) (first : W) (old at : Writing) (now : W) → at ≡ old →
    WriteStands allows client bytes steps first old now → WriteStands allows client bytes steps first at now
same_write allows client bytes steps first old at now same so = subst (λ (w : Writing). WriteStands allows client bytes steps first w now) (sym same) so

pub write_moves : {W : Type 0} (allows : W → Call → W → Type 0) (client : ClientState) (bytes : List ℕ) (steps : ℕ) (first : W) (old at : Writing) (now : W) →
    WriteMoves client.table.entries client.timings old at → WriteStands allows client bytes steps first old now → WriteStands allows client bytes steps first at now
write_moves allows client bytes steps first (Sequence old) (Sequence at) now moves so =
    record { is_record = so.is_record; mid = so.mid; puts = so.puts; stands = at_moves allows client.table.entries Write client.timings steps so.mid old at now moves so.stands }
write_moves allows client bytes steps first Record at now moves so = same_write allows client bytes steps first Record at now moves so
write_moves allows client bytes steps first Mark at now moves so = same_write allows client bytes steps first Mark at now moves so
write_moves allows client bytes steps first (Refused error) at now moves so = same_write allows client bytes steps first (Refused error) at now moves so
write_moves allows client bytes steps first (Sequence old) Record now moves so = same_write allows client bytes steps first (Sequence old) Record now moves so
write_moves allows client bytes steps first (Sequence old) Mark now moves so = same_write allows client bytes steps first (Sequence old) Mark now moves so
write_moves allows client bytes steps first (Sequence old) (Refused error) now moves so = same_write allows client bytes steps first (Sequence old) (Refused error) now moves so

at_start : {W : Type 0} (allows : W → Call → W → Type 0) (call : Call) (now first last : W) → now ≡ first → allows now call last → allows first call last
at_start {W = W} allows call now first last is h = subst (λ (w : W). allows w call last) is h

pub write_answers : {W : Type 0} (allows : W → Call → W → Type 0) (client : ClientState) (bytes : List ℕ) (steps : ℕ) (first : W) (at : Writing) (now : W) (answer : Result ℕ SpaceFault) (last : W) →
    WriteStands allows client bytes steps first at now → WriteMade allows client bytes at now answer last → WriteStands allows client bytes steps first
    (write_answered client.table.entries steps at answer) last
write_answers allows client bytes steps first Record now (Ok number) last so made = (so.0, at_start allows _ now first last so.1 made)
write_answers allows client bytes steps first Record now (Err fault) last so made = IsNotPut (Range fault) last so.0 (NotPut fault last (at_start allows _ now first last so.1 made))
write_answers allows client bytes steps first Mark now (Ok number) last so made =
    record { is_record = so.0; mid = last; puts = IsPut now last so.1 made; stands = at_first allows client.table.entries Write client.timings steps last }
write_answers allows client bytes steps first Mark now (Err fault) last so made = IsNotPut (Range fault) last so.0 (NotMarked now fault last so.1 made)
write_answers allows client bytes steps first (Sequence at) now answer last so made =
    record {
      is_record = so.is_record;
      mid = so.mid;
      puts = so.puts;
      stands = in_answered allows client.table.entries Write client.timings steps so.mid at.stage at.state at.left at.kept now answer last so.stands made;
    }
write_answers allows client bytes steps first (Refused error) now answer last so made = absurd made

pub write_ends : {W : Type 0} (allows : W → Call → W → Type 0) (client : ClientState) (bytes : List ℕ) (steps : ℕ) (first : W) (at : Writing) (now : W) (result : Result (Unit {0}) ClientError) →
    write_result at ≡ Some result → WriteStands allows client bytes steps first at now → Writes allows client bytes steps first result (write_left steps at) now
write_ends allows client bytes steps first Record now result is so = absurd (none-some result is)
write_ends allows client bytes steps first Mark now result is so = absurd (none-some result is)
write_ends allows client bytes steps first (Sequence at) now result is so =
    IsAsked so.mid result at.kept now so.is_record so.puts (at_result allows client.table.entries Write client.timings steps so.mid at now result is so.stands)
write_ends allows client bytes steps first (Refused error) now result is so = subst (λ (r : Result (Unit {0}) ClientError). Writes allows client bytes steps first r steps now) (same_Some _ _ is) so

-- the bound
bound_begun : (entries : List Entry) (steps : ℕ) (why : Option ClientError) → write_bound entries steps (begun why) ≤ 302 + 4 * steps
bound_begun entries steps None = omega arith
bound_begun entries steps (Some error) = omega arith

pub write_starts : (found : FoundRange) (bytes : List ℕ) (entries : List Entry) (steps : ℕ) → write_bound entries steps (write_first found bytes) ≤ 302 + 4 * steps
write_starts found bytes entries steps = bound_begun entries steps (write_refusal bytes found.len)

same_bound : (entries : List Entry) (steps : ℕ) (old at : Writing) → at ≡ old → write_bound entries steps at ≤ write_bound entries steps old
same_bound entries steps old at same = subst (λ (w : Writing). write_bound entries steps w ≤ write_bound entries steps old) (sym same) (omega arith)

pub write_goes : (entries : List Entry) (timings : Option (ℕ × ℕ)) (steps : ℕ) (old at : Writing) → WriteMoves entries timings old at → write_bound entries steps at ≤ write_bound entries steps old
write_goes entries timings steps (Sequence old) (Sequence at) moves = moves_fall entries Write timings old at moves
write_goes entries timings steps Record at moves = same_bound entries steps Record at moves
write_goes entries timings steps Mark at moves = same_bound entries steps Mark at moves
write_goes entries timings steps (Refused error) at moves = same_bound entries steps (Refused error) at moves
write_goes entries timings steps (Sequence old) Record moves = same_bound entries steps (Sequence old) Record moves
write_goes entries timings steps (Sequence old) Mark moves = same_bound entries steps (Sequence old) Mark moves
write_goes entries timings steps (Sequence old) (Refused error) moves = same_bound entries steps (Sequence old) (Refused error) moves

-- what was wanted of a sequence
wanted : (told : Option Demand) (demand : WriteDemand) → access_of told ≡ Some demand → (d : Demand) × (told ≡ Some d)
wanted None demand is = absurd (none-some demand is)
wanted (Some d) demand is = (d, refl)

pub write_falls : (entries : List Entry) (found : FoundRange) (steps : ℕ) (at : Writing) (answer : Result ℕ SpaceFault) (demand : WriteDemand) → write_demanded found at ≡ Some demand →
    write_bound entries steps (write_answered entries steps at answer) < write_bound entries steps at
write_falls entries found steps Record (Ok number) demand is = omega arith
write_falls entries found steps Record (Err fault) demand is = omega arith
write_falls entries found steps Mark (Ok number) demand is = omega (arith, of_requesting entries Write Begin steps)
write_falls entries found steps Mark (Err fault) demand is = omega arith
write_falls entries found steps (Sequence at) answer demand is =
    let told = wanted (demanded_at found.timings at) demand is in
    answered_falls entries Write found.timings at.stage at.state at.left at.kept answer told.0 told.1
write_falls entries found steps (Refused error) answer demand is = absurd (none-some demand is)
