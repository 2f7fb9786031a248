use Rattle.std.proofs.Common.{◌≡◌, ◌∙◌, ◌*◌, ℕ, [], ap, arith}
use Rattle.apei_tables.specs.declared.headers.Header.{Header}
use Rattle.erst_entries.specs.declared.actions.Action.TheVariants.{ExecuteOperation, GetCommandStatus}
use Rattle.erst_device.specs.Actions.{log_range_at}
use Rattle.erst_shadow.specs.MoveEntries.{move_entries}
use Rattle.erst_shadow.specs.ShadowTables.{entries_behind, pieces_of}
use Rattle.erst_shadow.proofs.TableLemmas.{blank_with, put_behind, all_entries, erst_fits, IsShadow, is_shadow}
use Rattle.erst_shadow.proofs.Terms.{scratch_at}
use Rattle.erst_shadow.proofs.tables.shadow_table.Goals as goal

is : (c : goal.After-finish) → IsShadow (pieces_of c.args.reach) c.finish.new.self
is c =
    let size : 128 * c.from-size.result ≡ 128 * pieces_of c.args.reach = omega (arith, c.from-size.ensures, c.min.ensures) in
    let blank : c.blank-table.result ≡ blank_with [] = c.blank-table.ensures ∙ ap (λ (h : Header). record {
      header = h;
      header_size = 48;
      reserved = 0;
      count =
          0;
      entries = [];
    }) c.own_header.ensures in
    let one = put_behind c.blank-table.result c.append.new.table _ _ _ blank c.in_ok-append.ensures c.entries_before.ensures in
    let two = put_behind c.append.new.table c.append-2.new.table _ _ _ one c.in_ok-append-2.ensures
    (c.move_entries.ensures ∙ ap (λ (n : ℕ). move_entries ExecuteOperation scratch_at log_range_at n) size) in
    let three = put_behind c.append-2.new.table c.append-3.new.table _ _ _ two c.in_ok-append-3.ensures c.entries_between.ensures in
    let four = put_behind c.append-3.new.table c.append-4.new.table _ _ _ three c.in_ok-append-4.ensures
    (c.move_entries-2.ensures ∙ ap (λ (n : ℕ). move_entries GetCommandStatus log_range_at scratch_at n) size) in
    let five = put_behind c.append-4.new.table c.append-5.new.table _ _ _ four c.in_ok-append-5.ensures (c.entries_behind.ensures ∙ ap entries_behind size) in
    let six = put_behind c.append-5.new.table c.append-6.new.table _ _ _ five c.in_ok-append-6.ensures c.told_entries.ensures in
    is_shadow (pieces_of c.args.reach) c.append-6.new.table c.finish.new.self (six ∙ ap blank_with (all_entries (pieces_of c.args.reach)))
    c.finish.ensures.finished c.finish.ensures.sealed c.finish.ensures.byte

pub returns-clause-table : goal.returns-clause-table
returns-clause-table c = (is c).table_is

pub returns-clause-size : goal.returns-clause-size
returns-clause-size c = (is c).size

pub returns-clause-erst : goal.returns-clause-erst
returns-clause-erst c = (is c).erst

pub returns-clause-fits : goal.returns-clause-fits
returns-clause-fits c = erst_fits (pieces_of c.args.reach) (omega arith)
