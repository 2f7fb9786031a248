-- What a handover keeps, with what its window holds, and the states of the machine that agree with it.
use Rattle.std.specs.Prelude.{◌≡◌, ℕ, List, length, drop}
use Rattle.ghes_ack.specs.Machine.{Machine, Situation, IsState, waiting_in, last_taken}
use Rattle.ghes_ack.specs.Handovers.{HandoverOver, kept}

-- what a handover keeps, with what its window of so many bytes holds
pub record Kept : Type 0 where
  pub len : ℕ
  pub situation : Situation
  -- the blocks that are not acknowledged, and how many wait
  pub held : List (List ℕ)
  pub waiting : ℕ
  pub filled : ℕ
  pub copied : ℕ
  pub last : List ℕ
  pub bytes : List ℕ

abbrev pub kept_over : {M : Type 0} → ℕ → HandoverOver M → List ℕ → Kept
kept_over len h bytes = record {
  len = len;
  situation = h.situation;
  held = kept h;
  waiting = length h.waiting;
  filled = h.filled;
  copied = h.copied;
  last = h.last;
  bytes = bytes;
}

-- a state of the machine agrees with it
pub record Agrees (k : Kept) (m : Machine) : Type 0 where
  pub state : IsState k.len m
  pub bytes_are : m.window ≡ k.bytes
  pub situation_is : m.situation ≡ k.situation
  pub blocks : k.held ≡ drop m.acknowledged m.blocks
  pub wait : k.waiting ≡ waiting_in m
  pub filled_is : k.filled ≡ m.filled
  pub copied_is : k.copied ≡ m.copied
  pub last_is : k.last ≡ last_taken m
