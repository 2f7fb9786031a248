-- How many second copies stand while a command is pending.
use Rattle.std.proofs.Common.{◌≡◌, ℕ, ◌+◌, ◌<◌, ◌≤◌, Bool, false, cond, List, take, sym, ap, subst, ◌∙◌, arith}
use Rattle.std.specs.Prelude.{nat_lt}
use Rattle.std.proofs.lemmas.Bool.{le-ltb, lt-ltb}
use Rattle.flash_model.specs.declared.geometry.Geometry.{Geometry}
use Rattle.flash_model.specs.Layouts.{layout_of}
use Rattle.base_model.specs.Flash.{FlashState}
use Rattle.record_model.specs.Records.{second_copies}
use Rattle.record_model.specs.Plan.{made_at}
use Rattle.record_model.proofs.MadeLemmas.{made_before_gate}
use Rattle.record_model.proofs.SpareLemmas.{second_copies-none, second_copies-few, second_copies-some}
use Rattle.record_store.specs.Drafts.{IsDraft, IsStage, plan_of, step_of, stage_of}
use Rattle.record_store.specs.declared.draft.Draft.{Draft}
use Rattle.record_store.specs.declared.draft.Stage.{Stage}
use Rattle.record_store.specs.declared.draft.Stage.TheVariants.{Fill, Gate}
use Rattle.record_store.proofs.Next.{number_low}
use Rattle.record_slots.specs.declared.found.Found.{Found}
use Rattle.record_store.specs.Store.{StoreView, changes_before_gate}
use Rattle.record_store.specs.Answers.{copies_in, copies_pending}
use Rattle.record_store.specs.Kept.{IsStore, IsWork, Knows, view_of, pending_of}
use Rattle.record_store.specs.declared.work.Begun.{Begun}
use Rattle.record_store.specs.declared.work.Begun.TheVariants as works
use Rattle.record_store.proofs.WorkLemmas.{fill_early, up_here, older_not_first}

not_behind : (before made : ℕ) → made ≤ before → cond {A = ℕ} (nat_lt before made) 1 0 ≡ 0
not_behind before made low = ap (λ (b : Bool). cond {A = ℕ} b 1 0) (le-ltb before made low)

is_behind : (before made : ℕ) → before < made → cond {A = ℕ} (nat_lt before made) 1 0 ≡ 1
is_behind before made high = ap (λ (b : Bool). cond {A = ℕ} b 1 0) (lt-ltb before made high)

-- each stage comes at or before the gate
at_or_before : (geometry : Geometry) (draft : Draft) (body : List ℕ) (stage : Stage) → IsDraft geometry draft body → IsStage geometry draft body stage
    → made_at (layout_of geometry) (plan_of draft body) (stage_of stage) ≤ changes_before_gate (layout_of geometry) body
at_or_before geometry draft body (Fill number step) is form =
    let early = fill_early (layout_of geometry) (plan_of draft body) number (step_of step) (number_low geometry draft body number is form.0) form.1 in
    let gate = made_before_gate (layout_of geometry) (plan_of draft body) is.plan in
    omega arith
at_or_before geometry draft body Gate is form = let gate = made_before_gate (layout_of geometry) (plan_of draft body) is.plan in omega arith

pub copies_stand : (tells : Type 0) (geometry : Geometry) (flash : FlashState) (found : Found) (buffer : List ℕ) (doubt : Bool) (work : Begun) (v : StoreView)
    → IsStore tells geometry flash found buffer doubt work → view_of geometry flash doubt (pending_of (layout_of geometry) buffer work) ≡ v → tells → v.in_doubt ≡ false
    → copies_in v ≡ copies_pending v.layout v.pending
copies_stand tells geometry flash found buffer doubt work v store is told sure =
    subst (λ (u : StoreView). copies_in u ≡ copies_pending u.layout u.pending) is
    (by_work work store.form (store.knows told (ap (λ (u : StoreView). u.in_doubt) is ∙ sure)))
  where
    by_work : (w : Begun) → IsWork geometry found buffer w → Knows geometry found buffer flash.told.image w
        → second_copies geometry.slot_size geometry.slots flash.told.image ≡ copies_pending (layout_of geometry) (pending_of (layout_of geometry) buffer w)
    by_work works.Nothing form known = second_copies-none geometry.slot_size geometry.slots flash.told.image known.only
    by_work (works.Write draft stage replaced) form known =
        second_copies-none geometry.slot_size geometry.slots flash.told.image known.slots.only
        ∙ sym (not_behind (changes_before_gate (layout_of geometry) (take draft.len buffer)) (made_at (layout_of geometry) (plan_of draft (take draft.len buffer)) (stage_of stage))
        (at_or_before geometry draft (take draft.len buffer) stage form.planned form.at))
    by_work (works.OldCopy draft place) form known =
        let up = up_here geometry.slot_size geometry.slots place.slot flash.told.image known.lost known.here in
        let some = second_copies-some geometry.slot_size geometry.slots place.slot flash.told.image up.0 up.1 (older_not_first geometry found flash.told.image draft place known) in
        let few = second_copies-few geometry.slot_size geometry.slots flash.told.image (store.spare told) in
        let one : second_copies geometry.slot_size geometry.slots flash.told.image ≡ 1 = omega arith in
        one ∙ sym (is_behind (changes_before_gate (layout_of geometry) (take draft.len buffer)) (changes_before_gate (layout_of geometry) (take draft.len buffer) + 1) (omega arith))
    by_work (works.Clear id place) form known = second_copies-none geometry.slot_size geometry.slots flash.told.image known.slots.only
