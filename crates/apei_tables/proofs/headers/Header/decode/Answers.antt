use Rattle.apei_tables.proofs.Finding.{only}
use Rattle.apei_tables.proofs.headers.Header.decode.Goals as goal

pub returns-clause-only : goal.returns-clause-only
returns-clause-only c = only c.args.signature c.args.fixed c.args.bytes.now c.find.result c.find.ensures.found c.find.ensures.refused
