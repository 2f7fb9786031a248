use Rattle.std.proofs.Common.{◌≡◌, ◌≢◌, ◌∙◌, ℕ, List, [], Option, Some, refl, sym, ap, take, arith}
use Rattle.show_findings.specs.declared.kinds.FileKind.TheVariants.{Records, Tables, Blocks, Blank}
use Rattle.show_findings.specs.Kinds.{kind_behind}
use Rattle.show_items.specs.Judged.{StopsOne}
use Rattle.show_items.specs.Sequences.{IsFirst, IsItemAs, is_item, kind_of_item}
use Rattle.show_items.specs.Singles.{IsBlank, IsUnknown}
use Rattle.show_items.proofs.BeginningLemmas.{stopped_so}
use Rattle.show_items.proofs.SequenceLemmas.{blank_behind, blank_first, first_of_kind, is_blank, is_unknown, len_of_unknown, none_shown, one_of_kind, one_on_pages, one_shown, unknown_first}
use Rattle.show_items.proofs.sequences.show_next.Goals as goal
use Rattle.show_items.proofs.sequences.show_next.Goals.{in-Records, in-Tables, in-Blocks}

pub returns-in-Blank-clause-shown : goal.returns-in-Blank-clause-shown
returns-in-Blank-clause-shown g c =
    let rest = c.args.rest.now in
    let blank : kind_behind rest ≡ Blank = sym c.kind_behind.ensures ∙ c.in-Blank.is in
    none_shown (is_item c.args.at (kind_behind rest)) (IsFirst c.args.at rest) (g.P.Pages.written c.args.pages.now) c.args.sheet.now
    (blank_behind c.args.at (kind_behind rest) blank c.if-at-gt0.true)

pub returns-in-Blank-2-clause-shown : goal.returns-in-Blank-2-clause-shown
returns-in-Blank-2-clause-shown g c =
    let at : ℕ = c.args.at in
    let rest = c.args.rest.now in
    let written : Option (List ℕ) = g.P.Pages.written c.args.pages.now in
    let blank : kind_behind rest ≡ Blank = sym c.kind_behind.ensures ∙ c.in-Blank.is in
    let first : at ≡ 0 = omega (arith, c.if-at-gt0.false) in
    one_shown (is_item at (kind_behind rest)) (IsFirst at rest) written written c.args.sheet.now c.show_blank.new.sheet
    (blank_first at (kind_behind rest) blank first)
    (one_on_pages (IsFirst at rest) written c.args.sheet.now c.show_blank.new.sheet
    (one_of_kind (IsBlank at rest) (IsFirst at rest) (Some []) (Some []) c.args.sheet.now c.show_blank.new.sheet
    (is_blank at (kind_behind rest) rest blank) c.in_ok-show_blank-in-Blank-2.ensures))

pub returns-in_default : goal.returns-in_default
returns-in_default g c =
    let at : ℕ = c.args.at in
    let rest = c.args.rest.now in
    let kind = kind_behind rest in
    let written : Option (List ℕ) = g.P.Pages.written c.args.pages.now in
    let record_not : kind ≢ Records = λ is. c.in_default.not-Records (c.kind_behind.ensures ∙ is) in
    let table_not : kind ≢ Tables = λ is. c.in_default.not-Tables (c.kind_behind.ensures ∙ is) in
    let block_not : kind ≢ Blocks = λ is. c.in_default.not-Blocks (c.kind_behind.ensures ∙ is) in
    let blank_not : kind ≢ Blank = λ is. c.in_default.not-Blank (c.kind_behind.ensures ∙ is) in
    record {
      shown = one_shown (is_item at kind) (IsFirst at rest) written written c.args.sheet.now c.show_unknown.new.sheet
          (unknown_first at kind blank_not)
          (one_on_pages (IsFirst at rest) written c.args.sheet.now c.show_unknown.new.sheet
          (one_of_kind (IsUnknown at rest) (IsFirst at rest) (Some []) (Some []) c.args.sheet.now c.show_unknown.new.sheet
          (is_unknown at kind rest record_not table_not block_not blank_not) c.in_ok-show_unknown-in_default.ensures));
      cause = refl;
      stopped = tt;
      exact = sym (len_of_unknown kind rest record_not table_not block_not);
      some = c.requires;
      within = omega arith;
    }

pub returns-in_err-show_item-clause-stopped : goal.returns-in_err-show_item-clause-stopped
returns-in_err-show_item-clause-stopped g c =
    let at : ℕ = c.args.at in
    let rest = c.args.rest.now in
    let item = c.match-kind_behind.item in
    let len : ℕ = c.item_len-len.result in
    let before : Option (List ℕ) = g.P.Pages.written c.args.pages.now in
    let after : Option (List ℕ) = g.P.Pages.written c.show_item.new.pages in
    let same : kind_behind rest ≡ kind_of_item item =
    elim c.match-kind_behind.branch [
      | in-Records w ↦ sym c.kind_behind.ensures ∙ w.in-Records.is ∙ ap kind_of_item (sym w.item-is)
      | in-Tables w ↦ sym c.kind_behind.ensures ∙ w.in-Tables.is ∙ ap kind_of_item (sym w.item-is)
      | in-Blocks w ↦ sym c.kind_behind.ensures ∙ w.in-Blocks.is ∙ ap kind_of_item (sym w.item-is)
    ] in
    stopped_so c.from_residual-in_err-show_item.result c.in_err-show_item.field-0.0 (StopsOne (IsItemAs (kind_of_item item) at (take len rest)) before after c.args.sheet.now) _
    c.from_residual-in_err-show_item.ensures.1
    (first_of_kind at len rest item before after c.args.sheet.now same c.item_len-len.ensures)
    c.in_err-show_item.ensures.stopped
