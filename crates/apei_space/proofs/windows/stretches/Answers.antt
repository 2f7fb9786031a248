use Rattle.std.proofs.Common.{◌∙◌, All, get_or, rules, sym, subst, arith}
use Rattle.std.proofs.lemmas.List.{get_or_default}
use Rattle.std.proofs.lemmas.List.Elements.{All-push}
use Rattle.std.proofs.lemmas.List.Sorted.{All-permutation, IsNonDecreasingBy-from_sort_by_key}
use Rattle.apei_tables.specs.declared.registers.Place.TheVariants.{Memory}
use Rattle.apei_space.specs.declared.windows.Window.{Window}
use Rattle.apei_space.specs.Windows.{address_of}
use Rattle.apei_space.specs.Stretches.{IsStretch}
use Rattle.apei_space.proofs.StretchLemmas.{total_more, total_rest, stretches_more, stretches_all}
use Rattle.apei_space.proofs.windows.stretches.Goals as goal

pub loop-window-preserved : goal.loop-window-preserved
loop-window-preserved c =
    let inv = c.loop-window.invariant in
    let more = c.loop-window-test.true in
    let before = inv.before in
    let rest = inv.rest in
    let few = inv.few in
    let items = c.push_reserved.ensures.items in
    let length_is = c.push_reserved.ensures.len in
    let d : Window = record { place = Memory 0; len = 0 } in
    let taken = total_more c.args.windows.now c.loop-window.window-index d more in
    let left = total_rest c.args.windows.now c.loop-window.window-index d more in
    let one : IsStretch c.args.windows.now (record { window = get_or c.args.windows.now c.loop-window.window-index d; start = c.loop-window.start }) =
    record { number = c.loop-window.window-index; inside = more; window_is = get_or_default _ _ _ _ more; start_is = before } in
    record {
      are = subst (All (IsStretch c.args.windows.now)) (sym items) (All-push (IsStretch c.args.windows.now) _ _ inv.are one);
      whole = rw items (stretches_more c.args.windows.now c.loop-window.window-index c.loop-window.start d _ more ∙ inv.whole);
      before = omega (arith, before, taken);
      rest = omega (arith, rest, left);
      few = omega (arith, few, length_is);
      room = let room = inv.room in let same = c.push_reserved.ensures.capacity in omega (arith, room, same);
    }

pub returns-clause-are : goal.returns-clause-are
returns-clause-are c = All-permutation (IsStretch c.args.windows.now) _ _ c.sort_by_key.ensures.permutation c.loop-window.invariant.are

pub returns-clause-whole : goal.returns-clause-whole
returns-clause-whole c = record {
  whole = stretches_all c.args.windows.now c.loop-window.window-index c.loop-window.start _ _ c.loop-window-test.false c.loop-window.invariant.whole c.sort_by_key.ensures.permutation;
  in_order = IsNonDecreasingBy-from_sort_by_key (λ stretch. address_of stretch.window.place) _ c.in_ok-sort_by_key.ensures.sorted (λ a r q k. search rules);
}
