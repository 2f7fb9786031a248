-- A source of either kind, and the states of the machine that it stands for.
use Rattle.std.specs.Prelude.{◌≡◌, ℕ, List, length, Option}
use Rattle.apei_space.specs.RamState.{RamState}
use Rattle.ghes_ack.specs.declared.events.Side.{Side}
use Rattle.ghes_ack.specs.declared.events.Event.{Event}
use Rattle.ghes_ack.specs.declared.submission.SubmitError.{SubmitError}
use Rattle.ghes_ack.specs.Machine.{Machine}
use Rattle.ghes_ack.specs.Handovers.{StandsFor}
use Rattle.ghes_ack.specs.Submissions.{refusal_of as refusal_within}
use Rattle.ghes_hub.specs.declared.layouts.Layout.{Layout}
use Rattle.ghes_hub.specs.declared.layouts.Layout.TheVariants.{Acknowledged as WithRegister, Plain as WithStatus}
use Rattle.ghes_hub.specs.declared.source.Source.{Source}
use Rattle.ghes_hub.specs.declared.source.Source.TheVariants.{Acknowledged, Plain}
use Rattle.ghes_hub.specs.Kinds.{Kind, turned_by}
use Rattle.ghes_hub.specs.Plain.{PlainStands}

-- where its parts lie
abbrev pub layout_in : Source → Layout
layout_in (Acknowledged h) = WithRegister h.map
layout_in (Plain h) = WithStatus h.map

abbrev pub SourceStands : Source → RamState → Machine → Type 0
SourceStands (Acknowledged h) ram m = StandsFor h ram m
SourceStands (Plain h) ram m = PlainStands h ram m

abbrev pub waiting_of : Source → List (List ℕ)
waiting_of (Acknowledged h) = h.waiting
waiting_of (Plain h) = h.waiting

abbrev pub last_of : Source → List ℕ
last_of (Acknowledged h) = h.last
last_of (Plain h) = h.last

-- the first reason why a block is refused
abbrev pub refusal_of : Source → List ℕ → Option SubmitError
refusal_of (Acknowledged h) block = refusal_within h.map.len block (length h.waiting)
refusal_of (Plain h) block = refusal_within h.map.window.len block (length h.waiting)

-- a turn, from a state of the machine: the machine's event, and afterwards it stands for the machine's next state
pub record SourceTurned (kind : Kind) (side : Side) (event : Event) (after : Source) (memory : RamState) (m : Machine) : Type 0 where
  pub event_is : event ≡ (turned_by kind side m).0
  pub stands : SourceStands after memory (turned_by kind side m).1
