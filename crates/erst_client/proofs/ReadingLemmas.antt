-- A read that is told the answers of its accesses is a read.
use Rattle.std.proofs.Common.{◌≡◌, ◌∙◌, ℕ, ◌+◌, ◌*◌, ◌<◌, ◌≤◌, ◌++◌, List, length, take, drop, Option, Some, None, Result, Ok, Err, refl, sym, ap, subst, arith}
use Rattle.std.proofs.lemmas.Option.{none-some, same_Some}
use Rattle.base_model.specs.Bytes.{number_at}
use Rattle.apei_space.specs.declared.faults.SpaceFault.{SpaceFault}
use Rattle.apei_space.specs.Calls.{Call, ReadBytes}
use Rattle.erst_entries.specs.declared.entries.Entry.{Entry}
use Rattle.erst_interp.specs.declared.demands.Demand.{Demand}
use Rattle.erst_client.specs.declared.attaching.FoundRange.{FoundRange}
use Rattle.erst_client.specs.declared.errors.ClientError.{ClientError}
use Rattle.erst_client.specs.declared.errors.ClientError.TheVariants.{Range}
use Rattle.erst_client.specs.declared.positions.Position.{Position}
use Rattle.erst_client.specs.declared.reading.Reading.{Reading}
use Rattle.erst_client.specs.declared.reading.Reading.TheVariants.{Sequence, Length, Record, Ended}
use Rattle.erst_client.specs.declared.reading.ReadDemand.{ReadDemand}
use Rattle.erst_client.specs.declared.stages.Command.TheVariants.{Read}
use Rattle.erst_client.specs.declared.stages.Part.TheVariants.{Begin}
use Rattle.erst_client.specs.declared.stages.Stage.{Stage}
use Rattle.erst_client.specs.declared.stages.Stage.TheVariants.{Requesting, Checking, Waiting, Judging, Ending, Done}
use Rattle.erst_client.specs.Sequences.{read_requests, Sequence as IsSequence}
use Rattle.erst_client.specs.Commands.{ClientState, copy_refusal, copied, CopiesOut, IsFilled, IsNotFilled, Reads, IsNotRead, HasNoLength, IsNotCopied}
use Rattle.erst_client.specs.Positions.{demanded_at, result_at, StandsAt}
use Rattle.erst_client.specs.Bounds.{bound_of}
use Rattle.erst_client.specs.Reading.{access_of, read_first, read_demanded, measured, read_answered, read_result, read_left, sequenced, ReadMoves, read_bound, IsMeasured, ReadStands, ReadMade}
use Rattle.erst_client.proofs.Terms.{LengthRead}
use Rattle.erst_client.proofs.CommandLemmas.{read_copied}
use Rattle.erst_client.proofs.PositionLemmas.{at_first, at_moves, in_answered, at_result}
use Rattle.erst_client.proofs.BoundLemmas.{of_requesting, moves_fall, answered_falls}

pub read_begins : {W : Type 0} (allows : W → Call → W → Type 0) (client : ClientState) (id : ℕ) (out : List ℕ) (steps : ℕ) (first : W) →
    ReadStands allows client id out steps first (read_first client.table.entries id steps) out first
read_begins allows client id out steps first = (refl, at_first allows client.table.entries (Read id) client.timings steps first)

-- where the sequence stands, the read stands, also at its end
stands_sequenced : {W : Type 0} (allows : W → Call → W → Type 0) (client : ClientState) (id : ℕ) (out : List ℕ) (steps : ℕ) (first : W) (at : Position)
    (stage : Stage) (held : List ℕ) (now : W) → at.stage ≡ stage → held ≡ out →
    StandsAt allows client.table.entries (Read id) client.timings steps first at now → ReadStands allows client id out steps first (sequenced at stage) held now
stands_sequenced allows client id out steps first at (Done (Ok done)) held now is same so =
    (same, at_result allows client.table.entries (Read id) client.timings steps first at now (Ok done) (ap result_at is) so)
stands_sequenced allows client id out steps first at (Done (Err error)) held now is same so =
    subst (λ (h : List ℕ). Reads allows client id out steps first (Err error) h at.kept now) (sym same)
    (IsNotRead error at.kept now (at_result allows client.table.entries (Read id) client.timings steps first at now (Err error) (ap result_at is) so))
stands_sequenced allows client id out steps first at (Requesting part) held now is same so = (same, so)
stands_sequenced allows client id out steps first at (Checking waited) held now is same so = (same, so)
stands_sequenced allows client id out steps first at (Waiting longer) held now is same so = (same, so)
stands_sequenced allows client id out steps first at Judging held now is same so = (same, so)
stands_sequenced allows client id out steps first at (Ending outcome) held now is same so = (same, so)

same_read : {W : Type 0} (allows : W → Call → W → Type 0) (client : ClientState) (id : ℕ) (out : List ℕ) (steps : ℕ) (first : W) (old reading : Reading) (held : List ℕ) (now : W) → reading ≡ old →
    ReadStands allows client id out steps first old held now → ReadStands allows client id out steps first reading held now
same_read allows client id out steps first old reading held now same so = subst (λ (r : Reading). ReadStands allows client id out steps first r held now) (sym same) so

pub read_moves : {W : Type 0} (allows : W → Call → W → Type 0) (client : ClientState) (id : ℕ) (out : List ℕ) (steps : ℕ) (first : W) (old reading : Reading) (held : List ℕ) (now : W) →
    ReadMoves client.table.entries id client.timings old reading → ReadStands allows client id out steps first old held now → ReadStands allows client id out steps first reading held now
read_moves allows client id out steps first (Sequence old) reading held now moves so =
    same_read allows client id out steps first (sequenced moves.0 moves.0.stage) reading held now moves.1.1
    (stands_sequenced allows client id out steps first moves.0 moves.0.stage held now refl so.0 (at_moves allows client.table.entries (Read id) client.timings
    steps first old moves.0 now moves.1.0 so.1))
read_moves allows client id out steps first (Length left) reading held now moves so = same_read allows client id out steps first (Length left) reading held now moves so
read_moves allows client id out steps first (Record len left) reading held now moves so = same_read allows client id out steps first (Record len left) reading held now moves so
read_moves allows client id out steps first (Ended result left) reading held now moves so = same_read allows client id out steps first (Ended result left) reading held now moves so

-- the length was read
stands_measured : {W : Type 0} (allows : W → Call → W → Type 0) (client : ClientState) (id : ℕ) (out : List ℕ) (steps : ℕ) (first : W) (left : ℕ) (now : W)
    (field : List ℕ) (last : W) (why : Option ClientError) →
    IsSequence allows client.table.entries client.timings (read_requests id) steps first (Ok tt) left now → LengthRead allows client now field (Ok tt) last →
    copy_refusal (number_at field 0 4) client.range (length out) ≡ why → ReadStands allows client id out steps first (measured why (number_at field 0 4) left) out last
stands_measured allows client id out steps first left now field last None ran reads is = (refl, record { mid = now; field = field; ran = ran; measures = reads; len_is = refl; fits = is })
stands_measured allows client id out steps first left now field last (Some error) ran reads is = IsNotCopied left now field error last ran reads is

-- the record was copied, or not
stands_copied : {W : Type 0} (allows : W → Call → W → Type 0) (client : ClientState) (id : ℕ) (out : List ℕ) (steps : ℕ) (first : W) (len left : ℕ) (now : W)
    (whole : List ℕ) (answer : Result (Unit {0}) ClientError) (last : W) →
    IsMeasured allows client id out steps first len left now → CopiesOut allows client.address (take len out) whole now answer last →
    Reads allows client id out steps first (copied answer len) (whole ++ drop len out) left last
stands_copied allows client id out steps first len left now whole answer last so copies =
    read_copied allows client id out steps first left so.mid so.field now whole answer last len so.len_is so.ran so.measures
    (subst (λ (n : ℕ). copy_refusal n client.range (length out) ≡ None) (sym so.len_is) so.fits) copies

pub read_answers : {W : Type 0} (allows : W → Call → W → Type 0) (client : ClientState) (id : ℕ) (out : List ℕ) (steps : ℕ) (first : W) (reading : Reading)
    (held : List ℕ) (now : W) (answer : Result ℕ SpaceFault)
    (after : List ℕ) (last : W) → ReadStands allows client id out steps first reading held now → ReadMade allows client reading held now answer after last →
    ReadStands allows client id out steps first (read_answered client.table.entries client.range id (length out) reading answer) after last
read_answers allows client id out steps first (Sequence at) held now answer after last so made =
    (made.0 ∙ so.0, in_answered allows client.table.entries (Read id) client.timings steps first at.stage at.state at.left at.kept now answer last so.1 made.1)
read_answers allows client id out steps first (Length left) held now (Ok len) after last so made =
    subst (λ (a : List ℕ). ReadStands allows client id out steps first (measured (copy_refusal len client.range (length out)) len left) a last) (sym (made.0 ∙ so.0))
    (subst (λ (n : ℕ). ReadStands allows client id out steps first (measured (copy_refusal n client.range (length out)) n left) out last) (sym made.1.1.1)
    (stands_measured allows client id out steps first left now made.1.0 last (copy_refusal (number_at made.1.0 0 4) client.range (length out)) so.1 made.1.1.0 refl))
read_answers allows client id out steps first (Length left) held now (Err fault) after last so made =
    subst (λ (a : List ℕ). Reads allows client id out steps first (Err (Range fault)) a left last) (sym (made.0 ∙ so.0)) (HasNoLength left now made.1.0 fault last so.1 made.1.1)
read_answers allows client id out steps first (Record len left) held now (Ok number) after last so made =
    subst (λ (a : List ℕ). Reads allows client id out steps first (Ok len) a left last) (sym (subst (λ (h : List ℕ). after ≡ made.0 ++ drop len h) so.0 made.1.1))
    (stands_copied allows client id out steps first len left now made.0 (Ok tt) last so.1
    (IsFilled last (subst (λ (h : List ℕ). allows now (ReadBytes client.address (take len h) made.0 (Ok tt)) last) so.0 made.1.0)))
read_answers allows client id out steps first (Record len left) held now (Err fault) after last so made =
    subst (λ (a : List ℕ). Reads allows client id out steps first (Err (Range fault)) a left last) (sym (subst (λ (h : List ℕ). after ≡ made.0 ++ drop len h) so.0 made.1.1))
    (stands_copied allows client id out steps first len left now made.0 (Err (Range fault)) last so.1
    (IsNotFilled fault last (subst (λ (h : List ℕ). allows now (ReadBytes client.address (take len h) made.0 (Err fault)) last) so.0 made.1.0)))
read_answers allows client id out steps first (Ended result left) held now answer after last so made = absurd made

pub read_ends : {W : Type 0} (allows : W → Call → W → Type 0) (client : ClientState) (id : ℕ) (out : List ℕ) (steps : ℕ) (first : W) (reading : Reading)
    (held : List ℕ) (now : W) (result : Result ℕ ClientError) →
    read_result reading ≡ Some result → ReadStands allows client id out steps first reading held now → Reads allows client id out steps first result held (read_left reading) now
read_ends allows client id out steps first (Sequence at) held now result is so = absurd (none-some result is)
read_ends allows client id out steps first (Length left) held now result is so = absurd (none-some result is)
read_ends allows client id out steps first (Record len left) held now result is so = absurd (none-some result is)
read_ends allows client id out steps first (Ended found left) held now result is so = subst (λ (r : Result ℕ ClientError). Reads allows client id out steps first r held left now) (same_Some _ _ is) so

-- the bound
bound_sequenced : (entries : List Entry) (at : Position) (stage : Stage) → read_bound entries (sequenced at stage) ≤ 2 + bound_of entries at
bound_sequenced entries at (Done (Ok done)) = omega arith
bound_sequenced entries at (Done (Err error)) = omega arith
bound_sequenced entries at (Requesting part) = omega arith
bound_sequenced entries at (Checking waited) = omega arith
bound_sequenced entries at (Waiting longer) = omega arith
bound_sequenced entries at Judging = omega arith
bound_sequenced entries at (Ending outcome) = omega arith

pub read_starts : (entries : List Entry) (id steps : ℕ) → read_bound entries (read_first entries id steps) ≤ 302 + 4 * steps
read_starts entries id steps = omega (arith, of_requesting entries (Read id) Begin steps)

same_bound : (entries : List Entry) (old reading : Reading) → reading ≡ old → read_bound entries reading ≤ read_bound entries old
same_bound entries old reading same = subst (λ (r : Reading). read_bound entries r ≤ read_bound entries old) (sym same) (omega arith)

pub read_goes : (entries : List Entry) (id : ℕ) (timings : Option (ℕ × ℕ)) (old reading : Reading) → ReadMoves entries id timings old reading → read_bound entries reading ≤ read_bound entries old
read_goes entries id timings (Sequence old) reading moves =
    omega (arith, same_bound entries (sequenced moves.0 moves.0.stage) reading moves.1.1, bound_sequenced entries moves.0 moves.0.stage, moves_fall entries (Read id) timings old moves.0 moves.1.0)
read_goes entries id timings (Length left) reading moves = same_bound entries (Length left) reading moves
read_goes entries id timings (Record len left) reading moves = same_bound entries (Record len left) reading moves
read_goes entries id timings (Ended result left) reading moves = same_bound entries (Ended result left) reading moves

bound_measured : (entries : List Entry) (why : Option ClientError) (len left : ℕ) → read_bound entries (measured why len left) < 2
bound_measured entries None len left = omega arith
bound_measured entries (Some error) len left = omega arith

-- what was wanted of a sequence
wanted : (told : Option Demand) (demand : ReadDemand) → access_of told ≡ Some demand → (d : Demand) × (told ≡ Some d)
wanted None demand is = absurd (none-some demand is)
wanted (Some d) demand is = (d, refl)

pub read_falls : (entries : List Entry) (found : FoundRange) (id room : ℕ) (reading : Reading) (answer : Result ℕ SpaceFault) (demand : ReadDemand) → read_demanded found reading ≡ Some demand →
    read_bound entries (read_answered entries found.len id room reading answer) < read_bound entries reading
read_falls entries found id room (Sequence at) answer demand is =
    let told = wanted (demanded_at found.timings at) demand is in
    omega (arith, answered_falls entries (Read id) found.timings at.stage at.state at.left at.kept answer told.0 told.1)
read_falls entries found id room (Length left) (Ok len) demand is = bound_measured entries (copy_refusal len found.len room) len left
read_falls entries found id room (Length left) (Err fault) demand is = omega arith
read_falls entries found id room (Record len left) (Ok number) demand is = omega arith
read_falls entries found id room (Record len left) (Err fault) demand is = omega arith
read_falls entries found id room (Ended result left) answer demand is = absurd (none-some demand is)
