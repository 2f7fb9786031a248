-- A handover without a read acknowledgement: its two windows in memory, what it keeps, and the states of the machine that it stands for.
use Rattle.std.specs.Prelude.{◌≡◌, ◌≢◌, length, drop}
use Rattle.base_model.specs.Bytes.{spelled}
use Rattle.apei_space.specs.RamState.{RamState}
use Rattle.ghes_ack.specs.Machine.{Machine, Cleared, IsState, waiting_in, last_taken, with_status}
use Rattle.ghes_ack.specs.Handovers.{HandoverOver, kept}
use Rattle.ghes_ack.specs.Windows.{HasAddressed, block_bytes, with_block, address_at, with_address_at}
use Rattle.ghes_hub.specs.declared.plain.map.PlainMap.{PlainMap}

abbrev pub plain_started : PlainMap → RamState → RamState
plain_started map ram = with_block map.window (with_address_at map.status map.window ram) (with_status (block_bytes map.window ram) (spelled 4 0))

abbrev pub PlainState : Type 0
PlainState = HandoverOver PlainMap

-- A state of the machine agrees with what the handover keeps (the blocks from number acknowledged on, how many of them wait, the block taken
-- last, the pieces and the situation) and with the memory. The memory has the map's two windows, they are apart, and the block's has room for a
-- block's head. A block whose status word is cleared is acknowledged
pub record PlainStands (h : PlainState) (ram : RamState) (m : Machine) : Type 0 where
  pub state : IsState h.map.window.len m
  pub windows : HasAddressed h.map.status h.map.window ram
  pub address : address_at h.map.status ram ≡ h.map.window.block
  pub window_is : m.window ≡ block_bytes h.map.window ram
  pub situation : m.situation ≡ h.situation
  pub occurs : h.situation ≢ Cleared
  pub blocks : kept h ≡ drop m.acknowledged m.blocks
  pub wait : length h.waiting ≡ waiting_in m
  pub filled : h.filled ≡ m.filled
  pub copied : h.copied ≡ m.copied
  pub last : h.last ≡ last_taken m
