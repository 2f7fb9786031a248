use Rattle.std.proofs.Common.{◌∙◌, sym}
use Rattle.erst_entries.proofs.Listing.{entries_of-front}
use Rattle.erst_entries.proofs.programs.adjoined.Goals as goal

pub returns-then-count_of-len : goal.returns-then-count_of-len
returns-then-count_of-len c =
    entries_of-front c.args.action c.args.len c.args.rest.now (sym c.count_of.ensures.count ∙ c.if-count_of-len.true ∙ c.requires.count)
