use Rattle.std.proofs.Common.{◌≡◌, drop, refl, sym, subst, arith, IfOk}
use Rattle.std.proofs.lemmas.Iterator.{YieldsList, items_from_collect}
use Rattle.std.proofs.lemmas.Iterator.Adapters.{YieldsList-from_skip, YieldsList-from_vec}
use Rattle.std.specs.Vec.Iter.{into_iter_items, into_iter_steps}
use Rattle.clap_words.proofs.system.behind_name.Goals as goal

pub returns : goal.returns
returns c =
    let words = c.args.words in
    let whole = YieldsList-from_vec {s = words} (into_iter_items words) refl (omega arith) in
    let behind = YieldsList-from_skip 1 (subst (λ s. YieldsList into_iter_steps (λ x. x) s (into_iter_items words)) (sym c.skip.ensures.source) whole) c.skip.ensures.count in
    subst (λ r. IfOk r (λ behind. behind.items ≡ drop 1 (into_iter_items words))) c.in_ok-collect.was (items_from_collect c.collect.result c.collect.ensures.ran behind)
