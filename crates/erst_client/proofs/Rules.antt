-- The constructors of the relations, for the search to take.
use Rattle.erst_client.specs.Commands.{NotPut, NotMarked, IsPut, IsNoRecord, IsNotPut, IsAsked, IsFilled, IsNotFilled, IsNotRead, HasNoLength, IsNotCopied, IsCopied}
use Rattle.erst_client.specs.Positions.{IsThere, GoesOn, Turns}
use Rattle.erst_client.specs.Finding.{IsThere as IsHere, IsHeard, GoesOn as GoesOnAsking}
use Rattle.erst_client.specs.Attaching.{NoTimings, HasTimings, TimingsStop}

pub ruleset commands = (NotPut, NotMarked, IsPut, IsNoRecord, IsNotPut, IsAsked, IsFilled, IsNotFilled, IsNotRead, HasNoLength, IsNotCopied, IsCopied)

pub ruleset timings = (NoTimings, HasTimings, TimingsStop)

pub ruleset positions = (IsThere, GoesOn, Turns)

pub ruleset findings = (IsHere, IsHeard, GoesOnAsking)
