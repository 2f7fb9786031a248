use Rattle.std.proofs.Common.{◌≡◌, ◌≤◌, ℕ, ◌-◌, Bool, true, false, List, get_or, subst, Result, Ok, Err, OnErr, sym, ◌∙◌, arith}
use Rattle.std.proofs.lemmas.Bool.{both_ways}
use Rattle.record_model.specs.Records.{Entry, IsChosen, entry_at, slot_at, is_up, is_upright}
use Rattle.record_slots.specs.Slots.{numbers_of}
use Rattle.record_slots.specs.declared.found.Look.{Look}
use Rattle.record_slots.specs.Looks.{IsSeen}
use Rattle.record_slots.specs.Recovered.{KeepsRecords, StaysNearly}
use Rattle.record_slots.proofs.LookLemmas.{seen_up}
use Rattle.record_slots.proofs.SettledLemmas.{first_has, not_first, kill_crash, kill_nearly, killed_counted, failed_few, settled_kept, settled_killed, KeepsRecords-none, StaysNearly-none, kill_can}
use Rattle.record_slots.proofs.settling.settle_slot.Given as given
use Rattle.record_slots.proofs.settling.settle_slot.Goals as goal
use Rattle.record_slots.proofs.settling.settle_slot.Goals.{After-kill}

-- whether the slot is upright, by the look that was taken
looked_up : (size slots n : ℕ) (image : List ℕ) (look : Look) (looks : List Look) (up : Bool) → ((d : Look) → IsSeen (slot_at size image n) (get_or looks n d)) → look ≡ get_or looks n look
    → up ≡ is_upright (size - 64) slots (numbers_of look.head) look.tail → is_up (size - 64) slots (slot_at size image n) ≡ up
looked_up size slots n image look looks up seen is says =
    sym (seen_up (size - 64) slots (slot_at size image n) look up (subst (λ (x : Look). IsSeen (slot_at size image n) x) (sym is) (seen look)) says)

-- a slot that is killed is upright, and not the first one of its identifier's record
upright : (g : given.Over) (c : goal.After-kill g) → g.F.Flash.tells
    → is_up (c.args.geometry.now.slot_size - 64) c.args.geometry.now.slots (slot_at c.args.geometry.now.slot_size (g.F.Flash.state c.args.flash.now).told.image c.args.slot) ≡ true
upright g c tells =
    looked_up c.args.geometry.now.slot_size c.args.geometry.now.slots c.args.slot (g.F.Flash.state c.args.flash.now).told.image c.index-look.result.now c.args.found.now.looks.items true
    (c.requires.seen tells) c.index-look.ensures c.if-not-is_upright.ensures

not_chosen : (g : given.Over) (c : goal.After-kill g) → g.F.Flash.tells → (e : Entry)
    → IsChosen (entry_at c.args.geometry.now.slot_size c.args.geometry.now.slots (g.F.Flash.state c.args.flash.now).told.image) c.args.geometry.now.slots c.args.slot e → ⊥
not_chosen g c tells =
    not_first (entry_at c.args.geometry.now.slot_size c.args.geometry.now.slots (g.F.Flash.state c.args.flash.now).told.image) c.args.geometry.now.slots c.args.slot c.args.found.now.ids.items
    c.args.found.now.places.items c.requires.paired (c.requires.listed tells) (sym (c.requires.firsts c.args.slot false c.requires.slot) ∙ c.if-is_first.false)

-- the kill keeps the records, whatever is torn in it
kept : (g : given.Over) (c : goal.After-kill g) → g.F.Flash.tells
    → KeepsRecords c.args.geometry.now.slot_size c.args.geometry.now.slots (g.F.Flash.state c.args.flash.now).told (g.F.Flash.state c.kill.new.flash).told
    × StaysNearly c.args.geometry.now.slot_size c.args.geometry.now.slots (g.F.Flash.state c.args.flash.now).told (g.F.Flash.state c.kill.new.flash).told
kept g c tells =
    let size = c.args.geometry.now.slot_size in
    let slots = c.args.geometry.now.slots in
    let old = (g.F.Flash.state c.args.flash.now).told in
    let new = (g.F.Flash.state c.kill.new.flash).told in
    let large : 64 ≤ size = omega (arith, c.args.geometry.now.least_slot) in
    let up = upright g c tells in
    let other = not_chosen g c tells in
    let change = c.kill.ensures.change.told tells in
    (kill_crash size slots c.args.slot old new large c.requires.slot up other change, kill_nearly size slots c.args.slot old new large c.requires.slot up other change)

pub returns-then-not-is_upright-clause-settled : goal.returns-then-not-is_upright-clause-settled
returns-then-not-is_upright-clause-settled g c tells start had =
    settled_kept c.args.geometry.now.slot_size c.args.geometry.now.slots c.args.slot start (g.F.Flash.state c.args.flash.now) c.args.found.now
    (λ up. absurd (both_ways _ (looked_up c.args.geometry.now.slot_size c.args.geometry.now.slots c.args.slot (g.F.Flash.state c.args.flash.now).told.image
    c.index-look.result.now c.args.found.now.looks.items false
    (c.requires.seen tells) c.index-look.ensures c.if-not-is_upright.ensures) up)) had

pub returns-then-not-is_upright-clause-crash : goal.returns-then-not-is_upright-clause-crash
returns-then-not-is_upright-clause-crash g c tells = KeepsRecords-none c.args.geometry.now.slot_size c.args.geometry.now.slots (g.F.Flash.state c.args.flash.now).told

pub returns-then-not-is_upright-clause-nearly : goal.returns-then-not-is_upright-clause-nearly
returns-then-not-is_upright-clause-nearly g c tells = StaysNearly-none c.args.geometry.now.slot_size c.args.geometry.now.slots (g.F.Flash.state c.args.flash.now).told

pub returns-then-is_first-clause-settled : goal.returns-then-is_first-clause-settled
returns-then-is_first-clause-settled g c tells start had =
    settled_kept c.args.geometry.now.slot_size c.args.geometry.now.slots c.args.slot start (g.F.Flash.state c.args.flash.now) c.args.found.now
    (λ up. first_has c.args.found.now.places.items c.args.slot (sym (c.requires.firsts c.args.slot false c.requires.slot) ∙ c.if-is_first.true)) had

pub returns-then-is_first-clause-crash : goal.returns-then-is_first-clause-crash
returns-then-is_first-clause-crash g c tells = KeepsRecords-none c.args.geometry.now.slot_size c.args.geometry.now.slots (g.F.Flash.state c.args.flash.now).told

pub returns-then-is_first-clause-nearly : goal.returns-then-is_first-clause-nearly
returns-then-is_first-clause-nearly g c tells = StaysNearly-none c.args.geometry.now.slot_size c.args.geometry.now.slots (g.F.Flash.state c.args.flash.now).told

pub kill-requires-clause-erased : goal.kill-requires-clause-erased
kill-requires-clause-erased g c tells =
    let least : 512 ≤ c.args.geometry.now.slot_size = c.args.geometry.now.least_slot in
    kill_can c.args.geometry.now.slot_size c.args.geometry.now.slots c.args.slot (g.F.Flash.state c.args.flash.now).told.image
    (omega arith) c.requires.slot (g.met.F.Flash.sized c.args.flash.now tells ∙ c.requires.fits.size)
    (looked_up c.args.geometry.now.slot_size c.args.geometry.now.slots c.args.slot (g.F.Flash.state c.args.flash.now).told.image c.index-look.result.now
    c.args.found.now.looks.items true
    (c.requires.seen tells) c.index-look.ensures c.if-not-is_upright.ensures)

pub returns-in_err-kill-clause-crash : goal.returns-in_err-kill-clause-crash
returns-in_err-kill-clause-crash g c tells = (kept g (goal.at.returns-in_err-kill-clause-crash g c).After-kill tells).0

pub returns-in_err-kill-clause-nearly : goal.returns-in_err-kill-clause-nearly
returns-in_err-kill-clause-nearly g c tells = (kept g (goal.at.returns-in_err-kill-clause-nearly g c).After-kill tells).1

pub returns-in_err-kill-clause-failed : goal.returns-in_err-kill-clause-failed
returns-in_err-kill-clause-failed g c = on_err c.from_residual.result (λ tells.
    failed_few c.args.geometry.now.slot_size c.args.geometry.now.slots c.args.slot (g.F.Flash.state c.args.flash.now) (g.F.Flash.state c.kill.new.flash) c.requires.slot
    (upright g (goal.at.returns-in_err-kill-clause-failed g c).After-kill tells) (not_chosen g (goal.at.returns-in_err-kill-clause-failed g c).After-kill tells)
    c.kill.ensures.change.one.steps)
  where
    on_err : {T E P : Type 0} (result : Result T E) → P → OnErr result P
    on_err (Ok t) p = tt
    on_err (Err e) p = p

pub returns-clause-settled : goal.returns-clause-settled
returns-clause-settled g c tells start had =
    let least : 512 ≤ c.args.geometry.now.slot_size = c.args.geometry.now.least_slot in
    settled_killed c.args.geometry.now.slot_size c.args.geometry.now.slots c.args.slot start (g.F.Flash.state c.args.flash.now)
    (g.F.Flash.state c.kill.new.flash) c.args.found.now (omega arith) c.requires.slot
    (upright g (goal.at.returns-clause-settled g c).After-kill tells) (not_chosen g (goal.at.returns-clause-settled g c).After-kill tells)
    (c.in_ok-kill.ensures.change.done tells) (c.in_ok-kill.ensures.stands tells) had

pub returns-clause-counted : goal.returns-clause-counted
returns-clause-counted g c tells =
    let least : 512 ≤ c.args.geometry.now.slot_size = c.args.geometry.now.least_slot in
    killed_counted c.args.geometry.now.slot_size c.args.geometry.now.slots c.args.slot (g.F.Flash.state c.args.flash.now) (g.F.Flash.state c.kill.new.flash) (omega arith) c.requires.slot
    (upright g (goal.at.returns-clause-counted g c).After-kill tells) (not_chosen g (goal.at.returns-clause-counted g c).After-kill tells)
    (c.in_ok-kill.ensures.change.done tells) (c.in_ok-kill.ensures.stands tells) c.in_ok-kill.ensures.change.one.counted

pub returns-clause-crash : goal.returns-clause-crash
returns-clause-crash g c tells = (kept g (goal.at.returns-clause-crash g c).After-kill tells).0

pub returns-clause-nearly : goal.returns-clause-nearly
returns-clause-nearly g c tells = (kept g (goal.at.returns-clause-nearly g c).After-kill tells).1
