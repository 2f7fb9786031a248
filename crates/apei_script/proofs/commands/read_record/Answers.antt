use Rattle.std.proofs.Common.{Ok, Err, sym}
use Rattle.std.proofs.lemmas.List.{length-take-le}
use Rattle.apei_script.proofs.Asking.{reads}
use Rattle.apei_script.proofs.Lengths.{fits_out, within_out, read_length}
use Rattle.apei_script.proofs.commands.read_record.Goals as goal

pub slice_bounds-put_record-end : goal.slice_bounds-put_record-end
slice_bounds-put_record-end g c =
    let is = read_length _ _ _ _ _ _ (Ok c.in-Ok.len) _ _ _ c.in-Ok.ensures.reads in
    sym (length-take-le c.in-Ok.len c.read.new.out (within_out _ _ c.read.new.out c.read.auto.out is))

pub put_record-requires-clause-least : goal.put_record-requires-clause-least
put_record-requires-clause-least g c =
    let is = read_length _ _ _ _ _ _ (Ok c.in-Ok.len) _ _ _ c.in-Ok.ensures.reads in
    (fits_out _ _ c.read.new.out c.requires.room c.read.auto.out is).least

pub put_record-requires-clause-most : goal.put_record-requires-clause-most
put_record-requires-clause-most g c =
    let is = read_length _ _ _ _ _ _ (Ok c.in-Ok.len) _ _ _ c.in-Ok.ensures.reads in
    (fits_out _ _ c.read.new.out c.requires.room c.read.auto.out is).most

pub returns-in-Ok-clause-answers : goal.returns-in-Ok-clause-answers
returns-in-Ok-clause-answers g c =
    reads g.F.Flash.tells c.args.client.now c.args.steps c.args.machine.now c.args.id _ _ (Ok c.in-Ok.len) _ _ _ _ (length-take-le _ _ c.requires.room)
    c.new.ensures c.in-Ok.ensures.reads c.in-Ok.ensures.reaches c.put_record.ensures

pub returns-in-Err-clause-answers : goal.returns-in-Err-clause-answers
returns-in-Err-clause-answers g c =
    reads g.F.Flash.tells c.args.client.now c.args.steps c.args.machine.now c.args.id _ _ (Err c.in-Err.error) _ _ _ _ (length-take-le _ _ c.requires.room)
    c.new.ensures c.in-Err.ensures.reads c.in-Err.ensures.reaches
    c.refuse.ensures
