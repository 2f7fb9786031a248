use Rattle.std.proofs.Common.{Option, refl, sym, subst, inl}
use Rattle.image_survey.specs.declared.format.FormatChange.{FormatChange}
use Rattle.apei_c.specs.declared.status.Status.TheVariants.{Nothing}
use Rattle.apei_c.specs.Buffers.{told_change}
use Rattle.apei_c.specs.Formats.{TellsNext}
use Rattle.apei_c.proofs.FormatLemmas.{few_bytes}
use Rattle.apei_c.proofs.formats.tell_change.Goals as goal

pub tell_next-requires : goal.tell_next-requires
tell_next-requires c = few_bytes c.in-Some.geometry c.args.step c.in-Some-format_change.next (sym c.in-Some-format_change.ensures)

pub returns-in-Some-format_change : goal.returns-in-Some-format_change
returns-in-Some-format_change c =
    let told = λ (next : Option FormatChange). TellsNext next (told_change c.args.change.now c.args.bytes.now) c.tell_next.result (told_change c.tell_next.new.change c.tell_next.new.bytes) in
    inl (c.in-Some.geometry, c.in-Some.ensures.some, subst told c.in-Some-format_change.ensures c.tell_next.ensures)

pub returns-in-None : goal.returns-in-None
returns-in-None c =
    let same = told_change c.args.change.now c.args.bytes.now in
    let told = λ (next : Option FormatChange). TellsNext next same Nothing same in
    inl (c.in-Some.geometry, c.in-Some.ensures.some, subst told c.in-None.ensures (refl, refl))
