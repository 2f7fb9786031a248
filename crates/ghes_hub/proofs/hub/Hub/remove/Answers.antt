use Rattle.std.proofs.Common.{◌<◌, ◌≤◌, length, get_or, subst, ap, arith, refl}
use Rattle.std.proofs.lemmas.List.{length-set}
use Rattle.apei_notify.specs.Chains.{members_of}
use Rattle.ghes_hub.proofs.ChainLemmas.{no_longer, removes_one, removed_long, if_map}
use Rattle.ghes_hub.proofs.hub.Hub.remove.Goals as goal

pub invariant_of-self : goal.invariant_of-self
invariant_of-self g c =
    let old = c.args.self.now in
    let xs = old.chains.items in
    let here : c.args.source < length xs = (let r = c.requires.source in let one = old.one_each in omega (arith, r, one)) in
    let n = length-set xs c.args.source c.remove.new.self in
    let few = old.few in
    let one = old.one_each in
    let x = c.index_mut.result.now in
    let there : c.args.at < length (members_of x) = if_map members_of xs c.args.source x (λ members. c.args.at < length members) here c.index_mut.ensures.value c.requires.at in
    let short : length (members_of c.remove.new.self) ≤ length (members_of x) = (let l = removed_long (members_of x) c.args.at there in let e = ap length c.remove.ensures in omega (arith, l, e)) in
    let le : length (members_of c.remove.new.self) ≤ length (members_of (get_or xs c.args.source x)) =
    subst (λ y. length (members_of c.remove.new.self) ≤ length (members_of y)) c.index_mut.ensures.value short in
    let room = old.room in
    let less = no_longer members_of xs c.args.source c.remove.new.self x here le in
    record {
      one_each = omega (arith, n, one);
      few = omega (arith, n, few);
      empty = old.empty;
      room = omega (arith, room, less);
    }

pub returns : goal.returns
returns g c =
    let old = c.args.self.now in
    let xs = old.chains.items in
    let here : c.args.source < length xs = (let r = c.requires.source in let one = old.one_each in omega (arith, r, one)) in
    let removes = removes_one members_of xs c.args.source c.args.at c.index_mut.result.now c.remove.new.self here c.index_mut.ensures.value c.remove.ensures in
    record {
      sources = refl;
      removed = removes.removed;
      other_chains = removes.others;
    }
