use Rattle.std.proofs.Common.{ℕ, length, sym, subst, arith}
use Rattle.apei_c.specs.declared.status.Status.TheVariants.{Done}
use Rattle.apei_c.specs.declared.structs.MediumChange.{MediumChange}
use Rattle.apei_c.specs.Buffers.{told_change}
use Rattle.apei_c.specs.Devices.{TellsChange, IsTold, NoChange, NoRoom, TooLong}
use Rattle.apei_c.proofs.DueLemmas.{has_few}
use Rattle.apei_c.proofs.calls.change.Goals as goal

pub returns-in_default : goal.returns-in_default
returns-in_default c = NoChange c.in_default.ensures

pub returns-then-due : goal.returns-then-due
returns-then-due c = TooLong c.in-Some.due.kind c.in-Some.due.at c.in-Some.due.bytes.now c.in-Some.ensures (omega arith)

pub returns-then-not-hand_out : goal.returns-then-not-hand_out
returns-then-not-hand_out c =
    NoRoom c.in-Some.due.kind c.in-Some.due.at c.in-Some.due.bytes.now c.hand_out.new.bytes c.in-Some.ensures c.if-not-hand_out.ensures
    (has_few c.args.port.now c.in-Some.due.kind c.in-Some.due.at c.in-Some.due.bytes.now c.args.bytes.now c.hand_out.new.bytes c.in-Some.ensures c.if-not-hand_out.ensures)

pub returns : goal.returns
returns c =
    let due = c.in-Some.due in
    let tells = λ (number : ℕ).
    let told : MediumChange = record { offset = due.at; length = length due.bytes.now; kind = number } in
    TellsChange c.args.port.now (told_change c.args.change.now c.args.bytes.now) Done (told_change told c.hand_out.new.bytes) in
    subst tells (sym c.number_of_kind.ensures) (IsTold due.kind due.at due.bytes.now c.hand_out.new.bytes c.in-Some.ensures c.if-not-hand_out.ensures)
