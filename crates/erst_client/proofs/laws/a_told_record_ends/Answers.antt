use Rattle.erst_client.proofs.WritingLemmas.{write_starts, write_goes, write_falls}
use Rattle.erst_client.proofs.ReadingLemmas.{read_starts, read_goes, read_falls}
use Rattle.erst_client.proofs.laws.a_told_record_ends.Goals as goal

pub returns-clause-write_begins : goal.returns-clause-write_begins
returns-clause-write_begins c found bytes entries steps = write_starts found bytes entries steps

pub returns-clause-write_moves : goal.returns-clause-write_moves
returns-clause-write_moves c entries timings steps old at moves = write_goes entries timings steps old at moves

pub returns-clause-write_answered : goal.returns-clause-write_answered
returns-clause-write_answered c entries found steps at answer demand is = write_falls entries found steps at answer demand is

pub returns-clause-read_begins : goal.returns-clause-read_begins
returns-clause-read_begins c entries id steps = read_starts entries id steps

pub returns-clause-read_moves : goal.returns-clause-read_moves
returns-clause-read_moves c entries id timings old at moves = read_goes entries id timings old at moves

pub returns-clause-read_answered : goal.returns-clause-read_answered
returns-clause-read_answered c entries found id room at answer demand is = read_falls entries found id room at answer demand is
