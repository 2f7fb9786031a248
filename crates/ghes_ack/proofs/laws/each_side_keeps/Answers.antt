use Rattle.ghes_ack.proofs.MemoryLemmas.{ack-with_window, window-with_ack}
use Rattle.ghes_ack.proofs.laws.each_side_keeps.Goals as goal

pub returns-clause-register : goal.returns-clause-register
returns-clause-register c = ack-with_window

pub returns-clause-window : goal.returns-clause-window
returns-clause-window c = window-with_ack
