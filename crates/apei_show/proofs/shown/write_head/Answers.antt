use Rattle.std.proofs.Common.{rules, ◌≡◌, ◌∙◌, ℕ, true, List, [], Option, sym, eqb-true}
use Rattle.std.proofs.lemmas.Bool.{cond-true}
use Rattle.std.specs.Io.KnownBytes.{append_known}
use Rattle.show_items.specs.Beginnings.{IsBegun}
use Rattle.show_items.proofs.BeginningLemmas.{begun_same, if_failed}
use Rattle.apei_show.specs.Outputs.{head_text, heads_files, path_text}
use Rattle.apei_show.proofs.shown.write_head.Goals as goal

pub returns-clause-stopped : goal.returns-clause-stopped
returns-clause-stopped g c =
    let manner = c.args.manner in
    let before : Option (List ℕ) = g.P.Pages.written c.args.pages.now in
    let after : Option (List ℕ) = g.P.Pages.written c.write.new.self in
    let line = c.deref.result.now in
    let path : List ℕ = path_text c.args.is_first c.args.path.now in
    let has : heads_files manner.form manner.named ≡ true = first_of (search rules, search (rules, eqb-true)) in
    let items : line ≡ c.in_ok-line.line.items = search rules in
    let head : head_text manner c.args.is_first c.args.path.now ≡ path = cond-true (heads_files manner.form manner.named) path [] has in
    if_failed c.write.result (IsBegun before (append_known before line) after) _
    (begun_same before after before line (head_text manner c.args.is_first c.args.path.now) (items ∙ c.in_ok-line.ensures ∙ sym head)) c.write.ensures.stopped
