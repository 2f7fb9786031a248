use Rattle.std.proofs.Common.{length, Option, subst}
use Rattle.item_parts.specs.declared.items.Item.{Item}
use Rattle.apei_c.specs.declared.status.Status.TheVariants.{Bad}
use Rattle.apei_c.specs.Checks.{FindsPart}
use Rattle.apei_c.proofs.CheckLemmas.{no_fault}
use Rattle.apei_c.proofs.checks.tell_part.Goals as goal

pub returns-in-Some-fault-clause-found : goal.returns-in-Some-fault-clause-found
returns-in-Some-fault-clause-found c =
    subst (λ (item : Option Item). FindsPart item c.args.bytes.now c.args.index Bad c.args.part.now) c.in-Some.ensures
    (λ parts begins. absurd (no_fault c.in-Err.error (length c.args.bytes.now) c.in-Some-fault.field-0 c.in-Some-fault.ensures (c.in-Err.ensures.only parts begins)))
