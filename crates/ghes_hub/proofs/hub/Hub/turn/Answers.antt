use Rattle.std.proofs.Common.{◌∙◌, ◌<◌, ◌≤◌, length, get_or, subst, sym, arith, map}
use Rattle.std.proofs.lemmas.List.{length-set}
use Rattle.apei_notify.specs.Chains.{members_of}
use Rattle.ghes_hub.specs.Hubs.{last_in}
use Rattle.ghes_hub.specs.Runs.{takes}
use Rattle.ghes_hub.proofs.ChainLemmas.{no_longer, tells_one, tells_none, told_long}
use Rattle.ghes_hub.proofs.hub.Hub.turn.Goals as goal

pub invariant_of-self : goal.invariant_of-self
invariant_of-self g c =
    let old = c.args.self.now in
    let xs = old.chains.items in
    let here : c.args.source < length xs = (let r = c.requires in let one = old.one_each in omega (arith, r, one)) in
    let n = length-set xs c.args.source c.tell.new.self in
    let few = old.few in
    let one = old.one_each in
    let count = c.turn-event.ensures.count in
    let x = c.index_mut.result.now in
    let le : length (members_of c.tell.new.self) ≤ length (members_of (get_or xs c.args.source x)) =
    subst (λ y. length (members_of c.tell.new.self) ≤ length (members_of y)) c.index_mut.ensures.value
    (told_long _ (members_of x) (members_of c.tell.new.self) c.tell.ensures) in
    let room = old.room in
    let less = no_longer members_of xs c.args.source c.tell.new.self x here le in
    record {
      one_each = omega (arith, n, one, count);
      few = omega (arith, n, few);
      empty = old.empty;
      room = omega (arith, room, less);
    }

pub returns-then-is_taking-clause-turned : goal.returns-then-is_taking-clause-turned
returns-then-is_taking-clause-turned g c =
    let old = c.args.self.now in
    let xs = old.chains.items in
    let here : c.args.source < length xs = (let r = c.requires in let one = old.one_each in omega (arith, r, one)) in
    let tells = tells_one _ members_of xs c.args.source c.index_mut.result.now c.tell.new.self c.get_u32.result c.taken-block.result.now
    (last_in c.turn-event.new.self c.args.source) (takes c.turn-event.result)
    here c.index_mut.ensures.value (sym c.is_taking.ensures ∙ c.if-is_taking.true) c.taken-block.ensures c.get_u32.ensures c.tell.ensures in
    record {
      turned = c.turn-event.ensures.turned;
      others = c.turn-event.ensures.others;
      told = tells.told;
      other_chains = tells.others;
      layouts = c.turn-event.ensures.layouts;
      count = c.turn-event.ensures.count;
    }

pub returns-else-is_taking-clause-turned : goal.returns-else-is_taking-clause-turned
returns-else-is_taking-clause-turned g c =
    let tells = tells_none _ (map members_of c.args.self.now.chains.items) c.args.source (last_in c.turn-event.new.self c.args.source)
    (takes c.turn-event.result) (sym c.is_taking.ensures ∙ c.if-is_taking.false) in record {
      turned = c.turn-event.ensures.turned;
      others = c.turn-event.ensures.others;
      told = tells.told;
      other_chains = tells.others;
      layouts = c.turn-event.ensures.layouts;
      count = c.turn-event.ensures.count;
    }
