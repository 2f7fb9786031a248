use Rattle.std.proofs.Common.{◌<◌, length, ◌∙◌, arith}
use Rattle.apei_check.proofs.WrittenLemmas.{wrote_nothing, wrote_next, wrote_part_of_next}
use Rattle.base_model.proofs.FaultLemmas.{on_err}
use Rattle.apei_check.proofs.AnswerLemmas.{wrote_all}
use Rattle.apei_check.proofs.text.numbered.InOrderParts.write_parts.Goals as goal

pub loop-index-init : goal.loop-index-init
loop-index-init g c = record { no_fault = cc; so_far = wrote_nothing _ _ }

pub returns-in_err-write_line-clause-part : goal.returns-in_err-write_line-clause-part
returns-in_err-write_line-clause-part g c =
    let lines = g.N.Numbered.part_lines c.args.self.now.item in
    let within : c.loop-index.index < length lines = omega arith in
    on_err _ (wrote_part_of_next _ lines c.loop-index.index _ _ _ _ within c.part_line.ensures.text c.loop-index.invariant.so_far c.in_err-write_line.ensures.part)

pub loop-index-preserved : goal.loop-index-preserved
loop-index-preserved g c =
    let lines = g.N.Numbered.part_lines c.args.self.now.item in
    let within : c.loop-index.index < length lines = omega arith in
    record {
      no_fault = c.in_ok-write_line.ensures.cause.ok ∙ c.loop-index.invariant.no_fault;
      so_far = wrote_next _ lines c.loop-index.index _ _ _ _ within c.part_line.ensures.text c.loop-index.invariant.so_far c.in_ok-write_line.ensures.all;
    }

pub returns-clause-all : goal.returns-clause-all
returns-clause-all g c = wrote_all _ (g.N.Numbered.part_lines c.args.self.now.item) c.loop-index.index _ _ (omega arith) c.loop-index.invariant.so_far
