use Rattle.std.proofs.Common.{arith, rules, ◌≡◌, ◌-◌, ℕ, [], length, drop, refl, length-drop, eqb-true}
use Rattle.std.proofs.lemmas.List.{take_all}
use Rattle.apei_show.proofs.OutputLemmas.{all_written, appends_none, fails, page_begun, part_written}
use Rattle.apei_show.proofs.output.write_page.Goals as goal

pub loop-rest-init : goal.loop-rest-init
loop-rest-init g c = ([], appends_none (g.W.Write.contents c.args.writer.now), refl)

pub loop-rest-preserved : goal.loop-rest-preserved
loop-rest-preserved g c =
    let invariant = c.loop-rest.invariant in
    let contents = g.W.Write.contents in
    let rest = c.loop-rest.rest.now in
    let taken : ℕ = c.in_ok-taken.taken in
    let left = take_all (length rest - taken) (drop taken rest) (omega (arith, length-drop {A = ℕ} taken rest)) in
    part_written (contents c.args.writer.now) (contents c.loop-rest.writer) (contents c.write_some.new.writer) c.args.page.now invariant.0 rest taken _ left
    invariant.1 c.in_ok-taken.ensures.written invariant.2

pub returns-in_err-taken-clause-begun : goal.returns-in_err-taken-clause-begun
returns-in_err-taken-clause-begun g c =
    let invariant = c.loop-rest.invariant in
    let contents = g.W.Write.contents in
    fails c.from_residual.result _
    (page_begun (contents c.args.writer.now) (contents c.loop-rest.writer) (contents c.write_some.new.writer) c.args.page.now invariant.0 c.loop-rest.rest.now
    invariant.1 c.in_err-taken.ensures.written invariant.2)

pub returns-clause-written : goal.returns-clause-written
returns-clause-written g c =
    let invariant = c.loop-rest.invariant in
    let contents = g.W.Write.contents in
    let none : length c.loop-rest.rest.now ≡ 0 = first_of (grind (arith, c.is_empty.ensures, c.loop-rest-test.ensures, c.loop-rest-test.false), search (rules, eqb-true)) in
    all_written (contents c.args.writer.now) (contents c.loop-rest.writer) c.args.page.now invariant.0 c.loop-rest.rest.now invariant.1 invariant.2 none
