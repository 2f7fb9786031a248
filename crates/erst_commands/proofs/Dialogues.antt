-- Dialogues with a space: what a program or a client does, as the calls that it makes and how it goes on by their answers. Two of one
-- dialogue, from spaces that are equivalent, end alike.
use Rattle.std.proofs.Common.{◌≡◌, ℕ, ◌-◌, ◌^◌, ◌<◌, ◌≤◌, refl, sym, ap, subst, ◌∙◌, arith, inl, inr}
use Rattle.base_model.specs.Faults.{Rose}
use Rattle.apei_space.specs.Calls.{Call}
use Rattle.erst_commands.specs.Equivalence.{answered}
use Rattle.erst_commands.proofs.Terms.{AskAlike}

-- it ends with a result, or makes a call and goes on by the call with its answer
pub data Dialogue (A : Type 0) : Type 0 where
  Ends : A → Dialogue A
  Calls : Call → (Call → Dialogue A) → Dialogue A

-- one dialogue, and then another by its result
pub go_on : {A B : Type 0} → Dialogue A → (A → Dialogue B) → Dialogue B
go_on (Ends x) more = more x
go_on (Calls call next) more = Calls call (λ also. go_on (next also) more)

-- a dialogue was held: the space before it, its result, and the space after it
pub data Held {W A : Type 0} (allows : W → Call → W → Type 0) : Dialogue A → W → A → W → Type 0 where
  IsDone : (x : A) (old : W) → Held allows (Ends x) old x old
  Answered : (call : Call) (next : Call → Dialogue A) (old : W) (also : Call) (mid : W) (x : A) (new : W) → AskAlike call also → allows old also mid → Held allows (next (answered also)) mid x new
      → Held allows (Calls call next) old x new

-- the same, by the dialogue
abbrev pub HeldBy : {W A : Type 0} → (W → Call → W → Type 0) → Dialogue A → W → A → W → Type 0
HeldBy allows (Ends x) old y new = (y ≡ x) × (new ≡ old)
HeldBy {W} allows (Calls call next) old y new = (also : Call) × (mid : W) × AskAlike call also × allows old also mid × HeldBy allows (next (answered also)) mid y new

pub held_by : {W A : Type 0} (allows : W → Call → W → Type 0) (dialogue : Dialogue A) (old : W) (x : A) (new : W) → Held allows dialogue old x new → HeldBy allows dialogue old x new
held_by allows dialogue old x new held = elim held as (λ dialogue old x new held. HeldBy allows dialogue old x new) [
  | IsDone x old ↦ (refl, refl)
  | Answered call next old also mid x new asks allowed (rest → by) ↦ (also, mid, asks, allowed, by)
]

pub done : {W A : Type 0} {allows : W → Call → W → Type 0} (x y : A) (old : W) → y ≡ x → Held allows (Ends x) old y old
done {allows} x y old is = subst (λ z. Held allows (Ends x) old z old) (sym is) (IsDone x old)

held_then : {W A B : Type 0} (allows : W → Call → W → Type 0) (dialogue : Dialogue A) (more : A → Dialogue B) (old : W) (x : A) (mid : W) (y : B) (new : W)
    → Held allows dialogue old x mid → Held allows (more x) mid y new → Held allows (go_on dialogue more) old y new
unfolding go_on
held_then {W = W} {A = A} allows dialogue more old x mid y new first second = (by_first dialogue old x mid first) second
  where
    by_first : (dialogue : Dialogue A) (old : W) (x : A) (mid : W) → Held allows dialogue old x mid → Held allows (more x) mid y new → Held allows (go_on dialogue more) old y new
    by_first dialogue old x mid first = elim first as (λ dialogue old x mid first. Held allows (more x) mid y new → Held allows (go_on dialogue more) old y new) [
      | IsDone x old ↦ λ second. second
      | Answered call next old also between x last asks allowed (rest → by) ↦ λ second. Answered call (λ c. go_on (next c) more) old also between y new asks allowed (by second)
    ]

pub then : {W A B : Type 0} {allows : W → Call → W → Type 0} {dialogue : Dialogue A} (more : A → Dialogue B) {old : W} {x : A} {mid : W} {y : B} {new : W}
    → Held allows dialogue old x mid → Held allows (more x) mid y new → Held allows (go_on dialogue more) old y new
then more first second = held_then _ _ more _ _ _ _ _ first second

-- no fault on a way means none on its parts
pub quiet_first : (a b c : ℕ) → a ≤ b → b ≤ c → (Rose a c → ⊥) → Rose a b → ⊥
quiet_first a b c first second quiet rose =
    let level : a < c → ⊥ = λ less. quiet (inl less) in
    let below : c ≡ 2 ^ 64 - 1 → ⊥ = λ last. quiet (inr last) in
    elim rose [
      | inl less ↦ level (omega arith)
      | inr last ↦ absurd (omega arith)
    ]

pub quiet_second : (a b c : ℕ) → a ≤ b → b ≤ c → (Rose a c → ⊥) → Rose b c → ⊥
quiet_second a b c first second quiet rose = elim rose [
  | inl less ↦ quiet (inl (omega arith))
  | inr last ↦ quiet (inr last)
]

-- Two of one dialogue. `alike` relates two spaces, and one call of each keeps it where nothing fails
module _ {W : Type 0} (allows : W → Call → W → Type 0) (faults : W → ℕ) (equivalent : W → W → Type 0) (grows : (old new : W) (call : Call) → allows old call new → faults old ≤ faults new)
    (keeps : (one other : W) (call also : Call) (one_after other_after : W) → equivalent one other → AskAlike call also → allows one call one_after → (Rose (faults one) (faults one_after) → ⊥)
    → allows other also other_after → (Rose (faults other) (faults other_after) → ⊥) → (answered call ≡ answered also) × equivalent one_after other_after) where
  pub held_grows : {A : Type 0} (dialogue : Dialogue A) (old : W) (x : A) (new : W) → HeldBy allows dialogue old x new → faults old ≤ faults new
  held_grows (Ends y) old x new held = let same = ap faults held.1 in omega arith
  held_grows (Calls call next) old x new held =
      let one = grows old held.1 held.0 held.3 in
      let more = held_grows (next (answered held.0)) held.1 x new held.4 in
      omega arith

  held_alike : {A : Type 0} (dialogue : Dialogue A) (one other : W) (x y : A) (one_after other_after : W) → equivalent one other →
      HeldBy allows dialogue one x one_after → (Rose (faults one) (faults one_after) → ⊥)
      → HeldBy allows dialogue other y other_after → (Rose (faults other) (faults other_after) → ⊥) → (x ≡ y) × equivalent one_after other_after
  held_alike (Ends z) one other x y one_after other_after related first quiet second also_quiet =
      (first.0 ∙ sym second.0, subst (λ (w : W). equivalent w other_after) (sym first.1) (subst (λ (w : W). equivalent one w) (sym second.1) related))
  held_alike {A} (Calls call next) one other x y one_after other_after related first quiet second also_quiet =
      let one_step = grows one first.1 first.0 first.3 in
      let one_rest = held_grows (next (answered first.0)) first.1 x one_after first.4 in
      let other_step = grows other second.1 second.0 second.3 in
      let other_rest = held_grows (next (answered second.0)) second.1 y other_after second.4 in
      let both = keeps one other first.0 second.0 first.1 second.1 related (sym first.2 ∙ second.2)
      first.3 (quiet_first (faults one) (faults first.1) (faults one_after) one_step one_rest quiet)
      second.3 (quiet_first (faults other) (faults second.1) (faults other_after) other_step other_rest also_quiet) in
      let rest = subst (λ (c : Call). HeldBy allows (next c) second.1 y other_after) (sym both.0) second.4 in
      held_alike (next (answered first.0)) first.1 second.1 x y one_after other_after both.1
      first.4 (quiet_second (faults one) (faults first.1) (faults one_after) one_step one_rest quiet)
      rest (quiet_second (faults other) (faults second.1) (faults other_after) other_step other_rest also_quiet)

  pub ends_alike : {A : Type 0} (dialogue : Dialogue A) (one other : W) (x y : A) (one_after other_after : W) → equivalent one other →
      Held allows dialogue one x one_after → (Rose (faults one) (faults one_after) → ⊥)
      → Held allows dialogue other y other_after → (Rose (faults other) (faults other_after) → ⊥) → (x ≡ y) × equivalent one_after other_after
  ends_alike dialogue one other x y one_after other_after related first quiet second also_quiet =
      held_alike dialogue one other x y one_after other_after related (held_by allows dialogue one x one_after first) quiet (held_by allows dialogue other y other_after second) also_quiet
