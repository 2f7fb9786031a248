-- What a session wants done.
use Rattle.std.specs.Prelude.{Option, Some, None}
use Rattle.erst_interp.specs.declared.demands.Demand.{Demand}
use Rattle.erst_client.specs.declared.reading.ReadDemand.{ReadDemand}
use Rattle.erst_client.specs.declared.reading.ReadDemand.TheVariants as reads
use Rattle.erst_client.specs.declared.writing.WriteDemand.{WriteDemand}
use Rattle.erst_client.specs.declared.writing.WriteDemand.TheVariants as writes
use Rattle.erst_session.specs.declared.demands.WorkDemand.{WorkDemand}
use Rattle.erst_session.specs.declared.demands.WorkDemand.TheVariants.{Access, PutRecord, PutMark, TakeLength, TakeRecord}

abbrev pub of_access : Option Demand → Option WorkDemand
of_access None = None
of_access (Some demand) = Some (Access demand)

abbrev pub of_write : Option WriteDemand → Option WorkDemand
of_write None = None
of_write (Some (writes.PutRecord address)) = Some (PutRecord address)
of_write (Some (writes.PutMark address)) = Some (PutMark address)
of_write (Some (writes.Access demand)) = Some (Access demand)

abbrev pub of_read : Option ReadDemand → Option WorkDemand
of_read None = None
of_read (Some (reads.TakeLength address)) = Some (TakeLength address)
of_read (Some (reads.TakeRecord address len)) = Some (TakeRecord address len)
of_read (Some (reads.Access demand)) = Some (Access demand)
