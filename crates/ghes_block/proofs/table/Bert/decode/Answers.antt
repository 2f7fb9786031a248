use Rattle.std.proofs.Common.{length, Ok, Err, sym}
use Rattle.ghes_block.proofs.TableLemmas.{found_is, only_from}
use Rattle.ghes_block.proofs.table.Bert.decode.Goals as goal

pub returns-in-Ok-clause-only : goal.returns-in-Ok-clause-only
returns-in-Ok-clause-only c = λ bert n h is.
    only_from c.args.bytes.now (Ok (record { len = c.get_u32.result; region = c.get_u64.result }, length c.in-Ok.table.now)) bert n h is
    (found_is c.args.bytes.now c.in-Ok.field-0-0 c.in-Ok.table.now (record { len = c.get_u32.result; region = c.get_u64.result }) c.in-Ok.ensures.found
    (sym c.get_u32.ensures) (sym c.get_u64.ensures)) c.in-Ok.ensures.refused

pub returns-in-Err-clause-only : goal.returns-in-Err-clause-only
returns-in-Err-clause-only c = λ bert n h is. only_from c.args.bytes.now (Err c.in-Err.error) bert n h is tt c.in-Err.ensures.refused
