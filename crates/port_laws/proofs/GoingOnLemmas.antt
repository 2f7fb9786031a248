-- Two ports that are equivalent go on alike.
use Rattle.std.proofs.Common.{◌≡◌, ◌∙◌, ◌≤◌, List, [], ◌∷◌, Result, refl, sym, ap, subst, arith}
use Rattle.erst_commands.proofs.Dialogues.{quiet_first, quiet_second}
use Rattle.erst_port.specs.declared.errors.PortError.{PortError}
use Rattle.erst_port.specs.PortState.{PortState, flash_of, IsMade}
use Rattle.erst_port.specs.Accesses.{bytes_stored}
use Rattle.port_laws.specs.Equivalence.{EquivalentPorts, FailedNothing}
use Rattle.port_laws.specs.GoingOn.{Ask, AsksNumber, AsksBytes, AsksRestart, Answers, fully_made, AnswersAll}
use Rattle.port_laws.proofs.CallLemmas.{stored_store}
use Rattle.port_laws.proofs.FaultLemmas.{by_port, by_write, by_reset}
use Rattle.port_laws.proofs.PortLemmas.{writes_alike, puts_alike, resets_alike}

abbrev Answer : Type 0
Answer = Result (Unit {0}) PortError

-- One call

answer_alike : (one other : PortState) (ask : Ask) (answer also : Answer) (one_after other_after : PortState) → EquivalentPorts one other → IsMade one → IsMade other → Answers one ask answer one_after
    → FailedNothing one one_after → Answers other ask also other_after → FailedNothing other other_after → (answer ≡ also) × EquivalentPorts one_after other_after
answer_alike one other (AsksNumber location width value) answer also one_after other_after equivalent made also_made first quiet later also_quiet =
    writes_alike one other location width value answer also one_after other_after equivalent made also_made first quiet later also_quiet
answer_alike one other (AsksBytes location bytes) answer also one_after other_after equivalent made also_made first quiet later also_quiet =
    let alike = puts_alike one other location bytes equivalent in (
      first.0 ∙ alike.0 ∙ sym later.0,
      subst (λ (p : PortState). EquivalentPorts p other_after) (sym first.1) (subst (EquivalentPorts (bytes_stored location one bytes).1) (sym later.1) alike.1),
    )
answer_alike one other AsksRestart answer also one_after other_after equivalent made also_made first quiet later also_quiet =
    resets_alike one other answer also one_after other_after equivalent made also_made first quiet later also_quiet

never_falls : (old : PortState) (ask : Ask) (answer : Answer) (new : PortState) → Answers old ask answer new → (flash_of old).faults ≤ (flash_of new).faults
never_falls old (AsksNumber location width value) answer new h = by_write location old new width value answer h
never_falls old (AsksBytes location bytes) answer new h = by_port old new _ h.1 (stored_store location old bytes)
never_falls old AsksRestart answer new h = by_reset old new answer h

made_alike : (one other : PortState) → EquivalentPorts one other → EquivalentPorts (fully_made one) (fully_made other)
made_alike one other equivalent = record { device = equivalent.device; range = equivalent.range; table = equivalent.table; addresses = equivalent.addresses }

-- All of them

never_fall : (old : PortState) (asks : List Ask) (answers : List Answer) (new : PortState) → AnswersAll old asks answers new → (flash_of old).faults ≤ (flash_of new).faults
never_fall old [] answers new h = by_port old new old h.1 refl
never_fall old (ask ∷ rest) answers new h =
    let one = never_falls old ask h.0 h.1 h.3 in
    let more = never_fall (fully_made h.1) rest h.2 new h.4 in
    omega (arith, one, more)

pub go_on_alike : (one other : PortState) (asks : List Ask) (answers also : List Answer) (one_last other_last : PortState) → EquivalentPorts one other → IsMade one → IsMade other
    → AnswersAll one asks answers one_last → FailedNothing one one_last → AnswersAll other asks also other_last → FailedNothing other other_last
    → (answers ≡ also) × EquivalentPorts one_last other_last
go_on_alike one other [] answers also one_last other_last equivalent made also_made first quiet later also_quiet = (
  first.0 ∙ sym later.0,
  subst (λ (p : PortState). EquivalentPorts p other_last) (sym first.1) (subst (EquivalentPorts one) (sym later.1) equivalent),
)
go_on_alike one other (ask ∷ rest) answers also one_last other_last equivalent made also_made first quiet later also_quiet =
    let one_step = never_falls one ask first.0 first.1 first.3 in
    let other_step = never_falls other ask later.0 later.1 later.3 in
    let one_rest = never_fall (fully_made first.1) rest first.2 one_last first.4 in
    let other_rest = never_fall (fully_made later.1) rest later.2 other_last later.4 in
    let both = answer_alike one other ask first.0 later.0 first.1 later.1 equivalent made also_made
    first.3 (quiet_first (flash_of one).faults (flash_of first.1).faults (flash_of one_last).faults one_step one_rest quiet)
    later.3 (quiet_first (flash_of other).faults (flash_of later.1).faults (flash_of other_last).faults other_step other_rest also_quiet) in
    let more = go_on_alike (fully_made first.1) (fully_made later.1) rest first.2 later.2 one_last other_last (made_alike first.1 later.1 both.1) refl refl
    first.4 (quiet_second (flash_of one).faults (flash_of first.1).faults (flash_of one_last).faults one_step one_rest quiet)
    later.4 (quiet_second (flash_of other).faults (flash_of later.1).faults (flash_of other_last).faults other_step other_rest also_quiet) in (
      first.5 ∙ ap (λ (a : Answer). a ∷ first.2) both.0 ∙ ap (λ (answers : List Answer). later.0 ∷ answers) more.0 ∙ sym later.5,
      more.1,
    )
