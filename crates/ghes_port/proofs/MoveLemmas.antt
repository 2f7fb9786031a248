-- A source that goes on elsewhere is the one that stopped.
use Rattle.std.proofs.Common.{◌≡◌, ◌∙◌, ℕ, List, [], ◌∷◌, ◌++◌, sym, ap, subst, append_assoc}
use Rattle.std.proofs.lemmas.List.{append-nil}
use Rattle.ghes_port.specs.declared.setups.Setup.{Setup}
use Rattle.ghes_port.specs.Machine.{SourceState, submitted}
use Rattle.ghes_port.specs.Setups.{begun}
use Rattle.ghes_port.specs.Readers.{World, Leads, Stays, Then}
use Rattle.ghes_port.specs.Moves.{submitted_all, IsMoved}

all_submitted : (s : SourceState) (blocks : List (List ℕ)) → submitted_all s blocks ≡ record s { queue = s.queue ++ blocks }
all_submitted s [] = ap (λ (q : List (List ℕ)). record s { queue = q }) (sym (append-nil s.queue))
all_submitted s (block ∷ blocks) =
    all_submitted (submitted s block) blocks ∙ ap (λ (q : List (List ℕ)). record s { queue = q }) (append_assoc s.queue (block ∷ []) blocks)

is_same : (setup : Setup) (old moved : SourceState) → IsMoved setup old moved → moved ≡ old
is_same setup old moved is =
    is.1
    ∙ ap (λ (s : SourceState). record s { stage = old.stage }) (all_submitted (begun setup) old.queue)
    ∙ ap (λ (s : SourceState). record s { stage = old.stage; queue = s.queue ++ old.queue }) (sym is.0)

chained : (first between last : World) → Leads first between → Leads between last → Leads first last
chained first between last before Stays = before
chained first between last before (Then middle next later happens) = Then middle next (chained first between middle before later) happens

pub goes_on : (setup : Setup) (first between last : World) (moved : SourceState) → IsMoved setup between.source moved → Leads first between
    → Leads (record between { source = moved }) last → Leads first last
goes_on setup first between last moved is before later =
    let same : record between { source = moved } ≡ between = ap (λ (s : SourceState). record between { source = s }) (is_same setup between.source moved is) in
    chained first between last before (subst (λ (w : World). Leads w last) same later)
