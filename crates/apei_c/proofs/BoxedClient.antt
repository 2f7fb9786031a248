-- The box of a session, whose memory its parts and an owner have in its place.
use mir.Syntax.{impl, tnil, dnil}
use mathlib.Core.List.{[]}
use denote.Signature.{Slot, plain}
use Rattle.std_alloc.proofs.BoxSteps.Form.{Bx}
use Rattle.std_heap.specs.contracts.Global as Heap
use Rattle.std_heap.specs.contracts.GlobalAllocator.TheImpl.{ghosts, dict}
use Rattle.std_heap.proofs.Global.TheLaws as heap
use Rattle.erst_session.specs.contracts.sessions.Session as Session
use Rattle.erst_session.proofs.sessions.Session.TheLaws as laws_of
use Rattle.apei_c.specs.contracts.boxes.BoxParts as BoxParts
use Rattle.apei_c.specs.contracts.client_owner.ClientOwner as ClientOwner

abbrev pub Boxed : Bx
Boxed = record { row = Session.the_row; laws = laws_of.the_row_laws; al = record { row = Heap.the_row; laws = heap.the_row_laws; g = ghosts; d = dict; drops = impl [] tnil dnil } }

-- what a parameter of either type holds
abbrev pub AsParts : Slot 0
AsParts = plain (λ _. BoxParts.the_row Session.the_row Heap.the_row ghosts)

abbrev pub AsOwner : Slot 0
AsOwner = plain (λ _. ClientOwner.the_row)
