use Rattle.std.proofs.Common.{arith, rules, ◌≡◌, ◌∙◌, ◌||◌, ℕ, false, List, Option, [], ◌++◌, length, ap, sym, subst, append-nil, eqb-true}
use Rattle.show_items.specs.Dumps.{AreTables, has_any, lines_of, tables_from, tables_left, whole}
use Rattle.show_items.proofs.BeginningLemmas.{stopped_so}
use Rattle.show_items.proofs.DumpLemmas.{any_left, none_left, or_comm, tables_begun, tables_behind, tables_then}
use Rattle.show_items.proofs.SheetLemmas.{items_then}
use Rattle.show_items.specs.Judged.{StopsAll, StopsIn}
use Rattle.show_items.proofs.dumps.show_tables.Goals as goal

pub loop-dump-preserved : goal.loop-dump-preserved
loop-dump-preserved g c =
    let written = g.P.Pages.written in
    let took = c.in_ok-take_line.ensures.shown in
    let ended = took.0 in
    let takes = took.1 in
    let items = took.2.0 in
    record {
      all = λ last after more are shows.
          c.loop-dump.invariant.all last after (items ++ more)
          (subst (λ t. AreTables false t (items ++ more)) (sym takes.left) (tables_then false ended (tables_left c.take_line.new.self) items more took.2.1 are))
          (items_then items more (written c.loop-dump.pages) (written c.take_line.new.pages) after c.loop-dump.sheet c.take_line.new.sheet last took.2.2 shows);
      stopped = λ after begun.
          c.loop-dump.invariant.stopped after
          (tables_behind ended (tables_left c.take_line.new.self) (tables_left c.loop-dump.dump) (written c.loop-dump.pages) (written c.take_line.new.pages) after
          c.loop-dump.sheet c.take_line.new.sheet takes.left took.2 begun);
      any = any_left c.loop-dump.dump c.take_line.new.self ended takes ∙ c.loop-dump.invariant.any;
      sound = c.in_ok-take_line.ensures.cause ∙ c.loop-dump.invariant.sound;
    }

pub returns-clause-shown : goal.returns-clause-shown
returns-clause-shown g c =
    let dump = c.loop-dump.dump in
    let none : length dump.rest.now ≡ 0 = first_of (grind (arith, c.is_empty.ensures, c.loop-dump-test.ensures, c.loop-dump-test.false), search (rules, eqb-true)) in
    let left : tables_left dump ≡ whole dump.begin dump.table.items = ap (λ (t : List ℕ). tables_from dump.at dump.begin dump.table.items (lines_of t)) (none_left dump.rest.now none) in
    let shows = c.in_ok-end_table.ensures.shown in
    c.loop-dump.invariant.all c.end_table.new.sheet (g.P.Pages.written c.end_table.new.pages) shows.0 (subst (λ t. AreTables false t shows.0) (sym left) shows.1) shows.2

pub returns-clause-any : goal.returns-clause-any
returns-clause-any g c =
    let dump = c.loop-dump.dump in
    let none : length dump.rest.now ≡ 0 = first_of (grind (arith, c.is_empty.ensures, c.loop-dump-test.ensures, c.loop-dump-test.false), search (rules, eqb-true)) in
    let left : tables_left dump ≡ whole dump.begin dump.table.items = ap (λ (t : List ℕ). tables_from dump.at dump.begin dump.table.items (lines_of t)) (none_left dump.rest.now none) in
    c.in_ok-end_table.ensures.ended.some
    ∙ or_comm (has_any (whole dump.begin dump.table.items)) dump.has_tables
    ∙ ap (λ t. dump.has_tables || has_any t) (sym left)
    ∙ c.loop-dump.invariant.any

pub returns-in_err-take_line-clause-stopped : goal.returns-in_err-take_line-clause-stopped
returns-in_err-take_line-clause-stopped g c =
    let before : Option (List ℕ) = g.P.Pages.written c.loop-dump.pages in
    let after : Option (List ℕ) = g.P.Pages.written c.take_line.new.pages in
    let left = tables_left c.loop-dump.dump in
    stopped_so c.from_residual.result c.in_err-take_line.field-0.0 (StopsIn (λ early. AreTables early left) before after c.loop-dump.sheet) _
    c.from_residual.ensures.1 (c.loop-dump.invariant.stopped after) c.in_err-take_line.ensures.stopped

pub returns-in_err-end_table-clause-stopped : goal.returns-in_err-end_table-clause-stopped
returns-in_err-end_table-clause-stopped g c =
    let dump = c.loop-dump.dump in
    let before : Option (List ℕ) = g.P.Pages.written c.loop-dump.pages in
    let after : Option (List ℕ) = g.P.Pages.written c.end_table.new.pages in
    let none : length dump.rest.now ≡ 0 = first_of (grind (arith, c.is_empty.ensures, c.loop-dump-test.ensures, c.loop-dump-test.false), search (rules, eqb-true)) in
    let read = whole dump.begin dump.table.items in
    let left : tables_left dump ≡ read = ap (λ (t : List ℕ). tables_from dump.at dump.begin dump.table.items (lines_of t)) (none_left dump.rest.now none) in
    let all : tables_left dump ≡ read ++ [] = left ∙ sym (append-nil read) in
    stopped_so c.from_residual-in_err-end_table.result c.in_err-end_table.field-0.0 (StopsAll (AreTables false read) before after c.loop-dump.sheet) _
    c.from_residual-in_err-end_table.ensures.1
    (λ begun. c.loop-dump.invariant.stopped after (tables_begun read [] (tables_left dump) before after c.loop-dump.sheet all begun)) c.in_err-end_table.ensures.stopped
