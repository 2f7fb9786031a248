use Rattle.std.proofs.Common.{Ok, Some, sym, subst}
use Rattle.std.specs.Prelude.{set}
use Rattle.std.proofs.lemmas.Bool.{iff_false}
use Rattle.erst_listing.specs.declared.listing.Listing.{Listing}
use Rattle.erst_listing.specs.Listing.{IsHeard}
use Rattle.erst_listing.proofs.HeardLemmas.{told_full, told_new}
use Rattle.erst_listing.proofs.listing.told.Goals as goal

pub returns-then-listed-ids-clause-told : goal.returns-then-listed-ids-clause-told
returns-then-listed-ids-clause-told c =
    told_full c.args.table.now.entries c.args.steps c.args.listed c.args.ended_once c.args.ids.now c.args.id c.if-listed-ids.true (iff_false c.is_listed.ensures c.if-is_listed.false)

pub returns-clause-told : goal.returns-clause-told
returns-clause-told c =
    subst (λ (at : Listing). IsHeard c.args.table.now.entries c.args.steps c.args.listed c.args.ended_once c.args.ids.now (Ok (Some c.args.id)) at
    (set c.args.ids.now c.args.listed c.args.id)) (sym c.asked.ensures.asked)
    (told_new c.args.table.now.entries c.args.steps c.args.listed c.args.ended_once c.args.ids.now c.args.id c.requires c.if-listed-ids.false (iff_false c.is_listed.ensures c.if-is_listed.false))
