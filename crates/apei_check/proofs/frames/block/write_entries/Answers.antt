use Rattle.std.proofs.Common.{◌≡◌, length, sym, ◌∙◌, arith}
use Rattle.apei_check.proofs.WrittenLemmas.{wrote_nothing, wrote_next, wrote_part_of_next}
use Rattle.ghes_block.specs.Entries.{value_of}
use Rattle.apei_check.specs.Shown.{numbered_lines}
use Rattle.apei_check.specs.Frames.{entry_line}
use Rattle.apei_check.proofs.PartLemmas.{length_numbered, is_next_line}
use Rattle.apei_check.proofs.PlaceLemmas.{place_none, same_place}
use Rattle.base_model.proofs.FaultLemmas.{on_err}
use Rattle.apei_check.proofs.AnswerLemmas.{wrote_all}
use Rattle.apei_check.proofs.frames.block.write_entries.Goals as goal

pub loop-entry-init : goal.loop-entry-init
loop-entry-init g c = record {
  within = omega arith;
  place = place_none c.args.block.now.entries;
  low = omega arith;
  no_fault = cc;
  so_far = wrote_nothing _ _;
}

pub returns-in_err-write_line-clause-part : goal.returns-in_err-write_line-clause-part
returns-in_err-write_line-clause-part g c =
    let at = c.loop-entry.invariant in
    let line = is_next_line _ c.loop-entry.index c.loop-entry.at c.in-Some.next (value_of c.in-Some.entry) c.entry_line.result at.within at.place c.in-Some.ensures.found c.entry_line.ensures.text in
    on_err _ (wrote_part_of_next _ (numbered_lines entry_line c.args.block.now.entries) c.loop-entry.index _ _ _ _ line.within line.is at.so_far c.in_err-write_line.ensures.part)

pub loop-entry-preserved : goal.loop-entry-preserved
loop-entry-preserved g c =
    let at = c.loop-entry.invariant in
    let line = is_next_line _ c.loop-entry.index c.loop-entry.at c.in-Some.next (value_of c.in-Some.entry) c.entry_line.result at.within at.place c.in-Some.ensures.found c.entry_line.ensures.text in
    let few = line.few in
    let on = c.in-Some.ensures.on in
    record {
      within = omega arith;
      place = line.next_place;
      low = omega arith;
      no_fault = c.in_ok-write_line.ensures.cause.ok ∙ at.no_fault;
      so_far = wrote_next _ (numbered_lines entry_line c.args.block.now.entries) c.loop-entry.index _ _ _ _ line.within line.is at.so_far c.in_ok-write_line.ensures.all;
    }

pub returns-clause-all : goal.returns-clause-all
returns-clause-all g c =
    let entries = c.args.block.now.entries in
    let i = c.loop-entry.index in
    let at_end : i ≡ length entries = same_place entries i (length entries) c.loop-entry.invariant.within (omega arith) (sym c.loop-entry.invariant.place ∙ c.in_default.ensures.found) in
    let many = length_numbered entry_line entries in
    wrote_all _ (numbered_lines entry_line entries) i _ _ (omega arith) c.loop-entry.invariant.so_far
