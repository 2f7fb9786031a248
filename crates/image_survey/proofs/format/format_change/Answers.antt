use Rattle.std.proofs.Common.{◌≡◌, ℕ, ◌*◌, arith}
use Rattle.image_survey.specs.Formats.{flash_sectors}
use Rattle.image_survey.proofs.ChangeLemmas.{first_for, flash_erase_at, last_for, none_for}
use Rattle.image_survey.proofs.format.format_change.Goals as goal

sectors_of : (a b c d : ℕ) → a ≡ c → b ≡ d → a * b ≡ c * d
sectors_of a b c d first second = cc

pub returns-then-step-eq0 : goal.returns-then-step-eq0
returns-then-step-eq0 c = let is = first_for c.args.geometry.now c.args.step (omega arith) in
    cc

pub returns-then-step-sectors : goal.returns-then-step-sectors
returns-then-step-sectors c =
    let sectors : c.per_slot.result * c.slots.result ≡ flash_sectors c.args.geometry.now = sectors_of _ _ _ _ c.per_slot.ensures c.slots.ensures in
    let is = flash_erase_at c.args.geometry.now c.args.step (omega arith) (omega arith) in
    cc

pub returns-in-1 : goal.returns-in-1
returns-in-1 c =
    let sectors : c.per_slot.result * c.slots.result ≡ flash_sectors c.args.geometry.now = sectors_of _ _ _ _ c.per_slot.ensures c.slots.ensures in
    let is = last_for c.args.geometry.now c.args.step 0 (omega arith) (omega arith) in
    cc

pub returns-in-2 : goal.returns-in-2
returns-in-2 c =
    let sectors : c.per_slot.result * c.slots.result ≡ flash_sectors c.args.geometry.now = sectors_of _ _ _ _ c.per_slot.ensures c.slots.ensures in
    let is = last_for c.args.geometry.now c.args.step 1 (omega arith) (omega arith) in
    cc

pub returns-in-3 : goal.returns-in-3
returns-in-3 c =
    let sectors : c.per_slot.result * c.slots.result ≡ flash_sectors c.args.geometry.now = sectors_of _ _ _ _ c.per_slot.ensures c.slots.ensures in
    let is = last_for c.args.geometry.now c.args.step 2 (omega arith) (omega arith) in
    cc

pub returns-in_default : goal.returns-in_default
returns-in_default c =
    let sectors : c.per_slot.result * c.slots.result ≡ flash_sectors c.args.geometry.now = sectors_of _ _ _ _ c.per_slot.ensures c.slots.ensures in
    let is = none_for c.args.geometry.now c.args.step (omega arith) in
    cc
