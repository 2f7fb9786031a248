use Rattle.std.proofs.Common.{All, sym, subst}
use Rattle.apei_space.specs.Stretches.{IsStretch}
use Rattle.apei_space.proofs.StretchLemmas.{table_of}
use Rattle.apei_space.proofs.windows.search_many.Goals as goal

pub location_guessed-requires : goal.location_guessed-requires
location_guessed-requires c = (c.args.windows.now, table_of _ _ _ c.as_slice-stretches.ensures.value c.requires.few c.requires.apart c.requires.table)

pub returns-in-Some : goal.returns-in-Some
returns-in-Some c = c.in-Some.ensures.right c.args.windows.now (table_of _ _ _ c.as_slice-stretches.ensures.value c.requires.few c.requires.apart c.requires.table)

pub location_guessed-requires-2 : goal.location_guessed-requires-2
location_guessed-requires-2 c = (c.args.windows.now, table_of _ _ _ c.as_slice-stretches.ensures.value c.requires.few c.requires.apart c.requires.table)

pub returns-in-Some-location_guessed : goal.returns-in-Some-location_guessed
returns-in-Some-location_guessed c = c.in-Some-location_guessed.ensures.right c.args.windows.now (table_of _ _ _ c.as_slice-stretches.ensures.value c.requires.few c.requires.apart c.requires.table)

pub search_in_order-requires-clause-table : goal.search_in_order-requires-clause-table
search_in_order-requires-clause-table c = subst (All (IsStretch c.args.windows.now)) (sym c.as_slice-stretches.ensures.value) c.requires.table
