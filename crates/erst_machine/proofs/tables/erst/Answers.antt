use Rattle.std.proofs.Common.{◌≡◌, take, subst, arith, ap}
use Rattle.std.proofs.lemmas.List.{take_all}
use Rattle.erst_entries.specs.Layout.{Erst, spelling}
use Rattle.erst_entries.specs.Tables.{Finished}
use Rattle.erst_machine.specs.OwnTables.{own_erst, own_entries}
use Rattle.erst_machine.proofs.SealLemmas.{sealed_erst, count_is}
use Rattle.erst_machine.proofs.TableLemmas.{erst_is, erst_size, erst_fits}
use Rattle.erst_machine.proofs.tables.erst.Goals as goal

pub returns : goal.returns
returns c =
    let all : take c.loop-entry.entry-index own_entries ≡ own_entries = take_all c.loop-entry.entry-index own_entries (omega (arith, count_is)) in
    let checksum : c.table-2.inside.header.checksum ≡ c.finish.new.self.header.checksum = ap (λ (t : Erst). t.header.checksum) c.table-2.view_is in
    let is : c.in_ok-bytes.bytes.items ≡ spelling own_erst = sealed_erst _ c.finish.new.self c.in_ok-bytes.bytes.items all c.finish.ensures.sealed
    (subst (λ (t : Erst). Finished t c.finish.new.self) c.loop-entry.invariant.1 c.finish.ensures.finished) c.in_ok-bytes.ensures (omega (arith, c.table-2.ranges)) in
    record { bytes = is; size = erst_size _ is; table = erst_is _ is; fits = erst_fits }
