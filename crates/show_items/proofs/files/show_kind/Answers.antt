use Rattle.show_findings.specs.declared.kinds.FileKind.TheVariants.{Packed, MachineCheck, Dmesg, Empty}
use Rattle.show_items.specs.Singles.{IsDmesg, IsEmpty, IsMachineCheck, IsPacked}
use Rattle.show_items.proofs.FileLemmas.{all_of_one}
use Rattle.show_items.proofs.files.show_kind.Goals as goal

pub returns-in_ok-show_packed-in-Packed-clause-shown : goal.returns-in_ok-show_packed-in-Packed-clause-shown
returns-in_ok-show_packed-in-Packed-clause-shown g c =
    all_of_one c.args.kind Packed c.args.bytes.now (g.P.Pages.written c.args.pages.now) c.args.sheet.now c.show_packed.new.sheet (IsPacked c.args.bytes.now) c.in-Packed.is
    (λ items are. are) c.in_ok-show_packed-in-Packed.ensures

pub returns-in_ok-show_machine_check-in-MachineCheck-clause-shown : goal.returns-in_ok-show_machine_check-in-MachineCheck-clause-shown
returns-in_ok-show_machine_check-in-MachineCheck-clause-shown g c =
    all_of_one c.args.kind MachineCheck c.args.bytes.now (g.P.Pages.written c.args.pages.now) c.args.sheet.now c.show_machine_check.new.sheet (IsMachineCheck c.args.bytes.now) c.in-MachineCheck.is
    (λ items are. are) c.in_ok-show_machine_check-in-MachineCheck.ensures

pub returns-in_ok-show_dmesg-in-Dmesg-clause-shown : goal.returns-in_ok-show_dmesg-in-Dmesg-clause-shown
returns-in_ok-show_dmesg-in-Dmesg-clause-shown g c =
    all_of_one c.args.kind Dmesg c.args.bytes.now (g.P.Pages.written c.args.pages.now) c.args.sheet.now c.show_dmesg.new.sheet (IsDmesg c.args.bytes.now) c.in-Dmesg.is
    (λ items are. are) c.in_ok-show_dmesg-in-Dmesg.ensures

pub returns-in_ok-show_empty-in-Empty-clause-shown : goal.returns-in_ok-show_empty-in-Empty-clause-shown
returns-in_ok-show_empty-in-Empty-clause-shown g c =
    all_of_one c.args.kind Empty c.args.bytes.now (g.P.Pages.written c.args.pages.now) c.args.sheet.now c.show_empty.new.sheet IsEmpty c.in-Empty.is
    (λ items are. are) c.in_ok-show_empty-in-Empty.ensures
