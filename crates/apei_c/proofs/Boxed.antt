-- The box of a port, whose memory its parts and an owner have in its place.
use mir.Syntax.{impl, tnil, dnil}
use mathlib.Core.List.{[]}
use denote.Signature.{Slot, plain}
use Rattle.std_alloc.proofs.BoxSteps.Form.{Bx}
use Rattle.std_heap.specs.contracts.Global as Heap
use Rattle.std_heap.specs.contracts.GlobalAllocator.TheImpl.{ghosts, dict}
use Rattle.std_heap.proofs.Global.TheLaws as heap
use Rattle.erst_port.specs.contracts.port.Port as Port
use Rattle.erst_port.proofs.port.Port.TheLaws as port
use Rattle.apei_c.specs.contracts.boxes.BoxParts as BoxParts
use Rattle.apei_c.specs.contracts.owners.PortOwner as PortOwner

abbrev pub Boxed : Bx
Boxed = record { row = Port.the_row; laws = port.the_row_laws; al = record { row = Heap.the_row; laws = heap.the_row_laws; g = ghosts; d = dict; drops = impl [] tnil dnil } }

-- what a parameter of either type holds
abbrev pub AsParts : Slot 0
AsParts = plain (λ _. BoxParts.the_row Port.the_row Heap.the_row ghosts)

abbrev pub AsOwner : Slot 0
AsOwner = plain (λ _. PortOwner.the_row)
