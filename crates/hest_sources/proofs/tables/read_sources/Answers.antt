use Rattle.std.proofs.Common.{◌≡◌, ℕ, ◌+◌, false, List, [], ◌∷◌, ◌++◌, length, drop, Ok, Err, Result, sym, ap, ◌∙◌, arith, append_assoc, append-nil, length-append, length-drop}
use Rattle.std.specs.Prelude.{◌==◌}
use Rattle.std.proofs.lemmas.Bool.{ne_eqb, eq-eqb}
use Rattle.std.proofs.lemmas.List.{take_rest, drop-drop}
use Rattle.base_model.specs.Bytes.{AreBytes}
use Rattle.base_model.proofs.BytesLemmas.{AreBytes-each, AreBytes-drop}
use Rattle.apei_bytes.specs.Walk.{item_count, items_in}
use Rattle.apei_bytes.proofs.Walks.{count_fault, count_on, items_on, items_done}
use Rattle.hest_sources.specs.declared.sources.HestSource.{HestSource}
use Rattle.hest_sources.specs.declared.tables.HestError.{HestError}
use Rattle.hest_sources.specs.Layout.{source_at, structure_length}
use Rattle.hest_sources.specs.Walk.{structure_walk}
use Rattle.hest_sources.proofs.Walks.{gets_on, count-le}
use Rattle.hest_sources.proofs.tables.read_sources.Goals as goal

pub unreachable-requires : goal.unreachable-requires
unreachable-requires c =
    let table = c.args.table.now in
    let at = c.loop-at.at in
    let size = length-drop at table in
    let some = c.loop-at-test.true in
    let here : structure_length at (drop at table) ≡ Err c.in_default.field-0 = ap (structure_length at) (sym (take_rest table at)) ∙ sym c.length_of.ensures.value ∙ c.in_default.is in
    let left : (length (drop at table) == 0) ≡ false = ne_eqb (length (drop at table)) 0 (λ z. omega arith) in
    let fault = count_fault structure_walk (length table) (length c.loop-at.sources.items) at (drop at table) c.in_default.field-0 gets_on left (omega arith) here in
    let clash : ◌≡◌ {A = Result ℕ HestError} (Ok c.args.count) (Err c.in_default.field-0) = sym c.loop-at.invariant.left ∙ fault in
    cc

pub push_reserved-requires : goal.push_reserved-requires
push_reserved-requires c =
    let table = c.args.table.now in
    let at = c.loop-at.at in
    let len = c.in-Ok.length in
    let index = length c.loop-at.sources.items in
    let size = length-drop at table in
    let some = c.loop-at-test.true in
    let here : structure_length at (drop at table) ≡ Ok len = ap (structure_length at) (sym (take_rest table at)) ∙ sym c.length_of.ensures.value ∙ c.in-Ok.is in
    let left : (length (drop at table) == 0) ≡ false = ne_eqb (length (drop at table)) 0 (λ z. omega arith) in
    let next = sym (count_on structure_walk (length table) index at len (drop at table) gets_on left (omega arith) here) ∙ c.loop-at.invariant.left in
    let each : AreBytes table = AreBytes-each table (λ k. omega (arith, c.type_inv.table k)) in
    let less = length-drop len (drop at table) in
    let more = count-le (length table) (index + 1) (at + len) c.args.count (drop len (drop at table)) (AreBytes-drop len (drop at table) (AreBytes-drop at table each)) (omega arith) next in
    let count = c.loop-at.sources.ok.0 in
    let room = c.loop-at.invariant.room in
    omega arith

pub loop-at-preserved : goal.loop-at-preserved
loop-at-preserved c =
    let table = c.args.table.now in
    let at = c.loop-at.at in
    let len = c.in-Ok.length in
    let before = c.loop-at.sources.items in
    let rest = take_rest table at in
    let sizes = ap length rest in
    let size = length-drop at table in
    let some = c.loop-at-test.true in
    let within = c.in-Ok.ensures.within in
    let low = within.0 in
    let fits = within.1 in
    let here : structure_length at (drop at table) ≡ Ok len = ap (structure_length at) (sym rest) ∙ sym c.length_of.ensures.value ∙ c.in-Ok.is in
    let left : (length (drop at table) == 0) ≡ false = ne_eqb (length (drop at table)) 0 (λ z. omega arith) in
    let source : c.read.result ≡ source_at at (drop at table) len = c.read.ensures ∙ ap (λ (xs : List ℕ). source_at at xs len) rest in
    let pushed : c.push_reserved.new.self.items ≡ before ++ c.read.result ∷ [] = c.push_reserved.ensures.items in
    let more : length c.push_reserved.new.self.items ≡ length before + 1 = ap length pushed ∙ length-append before (c.read.result ∷ []) in
    let behind : drop (at + len) table ≡ drop len (drop at table) = sym (drop-drop len at table) in
    record {
      low = omega arith;
      within = omega arith;
      room = let room = c.loop-at.invariant.room in let same = c.push_reserved.ensures.capacity in omega arith;
      left =
          ap (λ (n : ℕ). item_count structure_walk (length table) n (at + len) (drop (at + len) table)) more
          ∙ ap (item_count structure_walk (length table) (length before + 1) (at + len)) behind
          ∙ sym (count_on structure_walk (length table) (length before) at len (drop at table) gets_on left (omega arith) here)
          ∙ c.loop-at.invariant.left;
      list =
          ap (λ (n : ℕ). c.push_reserved.new.self.items ++ items_in structure_walk (length table) n (at + len) (drop (at + len) table)) more
          ∙ ap (λ (xs : List HestSource). xs ++ items_in structure_walk (length table) (length before + 1) (at + len) (drop (at + len) table)) pushed
          ∙ append_assoc before (c.read.result ∷ []) (items_in structure_walk (length table) (length before + 1) (at + len) (drop (at + len) table))
          ∙ ap (λ (x : HestSource). before ++ (x ∷ items_in structure_walk (length table) (length before + 1) (at + len) (drop (at + len) table))) source
          ∙ ap (λ (xs : List ℕ). before ++ (source_at at (drop at table) len ∷ items_in structure_walk (length table) (length before + 1) (at + len) xs)) behind
          ∙ ap (λ (xs : List HestSource). before ++ xs) (sym (items_on structure_walk (length table) (length before) at len (drop at table) gets_on left (omega arith) here))
          ∙ c.loop-at.invariant.list;
    }

pub returns : goal.returns
returns c =
    let table = c.args.table.now in
    let at = c.loop-at.at in
    let size = length-drop at table in
    let items = c.loop-at.sources.items in
    sym (append-nil items)
    ∙ ap (λ (xs : List HestSource). items ++ xs) (sym (items_done structure_walk (length table) (length items) at (drop at table) (eq-eqb (length (drop at table)) 0 (omega arith))))
    ∙ c.loop-at.invariant.list
