-- A sequence by this table is one by the machine's own table, from a machine that already holds the record in its log range.
use Rattle.std.specs.Prelude.{◌≡◌, ℕ, ◌+◌, ◌*◌, ◌≤◌, List, length, Option, Result, Err, OnOk}
use Rattle.base_model.specs.Bytes.{part, put_at}
use Rattle.erst_client.specs.declared.errors.ClientError.{ClientError}
use Rattle.erst_client.specs.declared.errors.ClientError.TheVariants.{Stopped, Late}
use Rattle.erst_client.specs.declared.requests.Request.{Request}
use Rattle.erst_client.specs.Sequences.{Sequence}
use Rattle.erst_machine.specs.Areas.{scratch_len}
use Rattle.erst_machine.specs.MachineState.{MachineState}
use Rattle.erst_machine.specs.Allowed.{Allows}
use Rattle.erst_machine.specs.OwnTables.{own_entries}
use Rattle.erst_shadow.specs.MoveRuns.{move_steps}
use Rattle.erst_shadow.specs.ShadowMoves.{holding, AgreesElsewhere}

-- the steps of the two moves come to those of the machine's own programs. A sequence that was cut short, since a program stopped or the
-- firmware was busy for too long, has made at most both moves
pub data PaysMoves (pieces budget : ℕ) : Result (Unit {0}) ClientError → (left own_budget own_left : ℕ) → Type 0 where
  PaysBoth : (result : Result (Unit {0}) ClientError) (left own_budget : ℕ) → own_budget + 2 * move_steps pieces ≡ budget → PaysMoves pieces budget result left own_budget left
  PaysPart : (error : ClientError) (left own_budget own_left : ℕ)
      → (elim error as (λ _. Type 0) [ Stopped stop ↦ Unit {0} | Late waited ↦ Unit {0} | other ↦ ⊥ ])
      → own_budget ≤ budget → budget ≤ own_budget + 2 * move_steps pieces
      → PaysMoves pieces budget (Err error) left own_budget own_left

-- the log range of a machine is that of another, and its scratch memory begins with what stands there
pub record ShowsRecord (pieces : ℕ) (last own_last : MachineState) : Type 0 where
  pub range : last.memory.range ≡ own_last.memory.range
  pub moved : part last.memory.scratch 0 (128 * pieces) ≡ part own_last.memory.range 0 (128 * pieces)
  pub small : length last.memory.range ≤ 65536

-- the same sequence by the machine's own table, from the machine with the record in its log range to one that differs from the last in
-- the two memories alone. Where it is answered with `Ok`, the record that then stands in the log range stands in the scratch memory too
pub record SequenceAsOwn (tells : Type 0) (pieces : ℕ) (timings : Option (ℕ × ℕ)) (requests : List Request) (budget : ℕ) (first : MachineState)
    (result : Result (Unit {0}) ClientError) (left : ℕ) (last : MachineState) : Type 0 where
  pub scratch : List ℕ
  pub long : length scratch ≡ scratch_len
  pub own_budget : ℕ
  pub own_left : ℕ
  pub own_last : MachineState
  pub sequence :
      Sequence (Allows tells) own_entries timings requests own_budget
      (holding (put_at first.memory.range 0 (part first.memory.scratch 0 (128 * pieces))) scratch first) result own_left own_last
  pub last_is : AgreesElsewhere last own_last
  pub paid : PaysMoves pieces budget result left own_budget own_left
  pub shown : OnOk result (ShowsRecord pieces last own_last)
