use Rattle.std.proofs.Common.{◌≡◌, ◌∙◌, List, sum, ap, arith}
use Rattle.erst_entries.specs.declared.entries.Entry.{Entry}
use Rattle.erst_entries.specs.Layout.{Erst, front_spelling}
use Rattle.erst_entries.proofs.TableBytes.{sum-spelling}
use Rattle.erst_entries.proofs.Terms.{entries_spelling}
use Rattle.erst_entries.proofs.tables.ErstTable.sum.Goals as goal

pub returns-clause-value : goal.returns-clause-value
returns-clause-value c =
    let all = sum-spelling c.args.self.now in
    let entries : c.deref.result.now ≡ c.args.self.now.entries = c.deref.ensures.value ∙ ap (λ (e : Erst). e.entries) c.self.view_is in
    let tail : sum (entries_spelling c.deref.result.now) ≡ sum (entries_spelling c.args.self.now.entries) = ap (λ (es : List Entry). sum (entries_spelling es)) entries in
    let front : sum c.front.result ≡ sum (front_spelling c.args.self.now) = ap sum c.front.ensures.value in
    omega (arith, all, tail, front, c.sum_of.ensures, c.sum_of_entries.ensures)
