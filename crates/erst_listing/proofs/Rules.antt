-- The constructors of the relations, for the search to take.
use Rattle.erst_listing.specs.Gathering.{IsNew, EndsOnce, ComesAgain, EndsAgain, HasNoRoom, IsRefused}
use Rattle.erst_listing.specs.Listing.{IsOver, IsAsked, IsThere, Hears, Runs}

pub ruleset answers = (IsNew, EndsOnce, ComesAgain, EndsAgain, HasNoRoom, IsRefused, IsOver, IsAsked)

pub ruleset listings = (IsThere, Hears, Runs)
