-- A bridge and the reader whose turns it makes stay in step.
use Rattle.std.proofs.Common.{◌≡◌, ◌∙◌, ℕ, ◌+◌, inl, inr, Bool, true, false, List, refl, sym, ap, arith}
use Rattle.std.specs.Prelude.{nat_lt, if◌then◌else◌}
use Rattle.std.proofs.lemmas.Bool.Decides.{nat_tests}
use Rattle.base_model.specs.Bytes.{spelled}
use Rattle.ghes_ack.specs.declared.events.Side.TheVariants.{Reader}
use Rattle.ghes_ack.specs.declared.events.Event.TheVariants.{Took, Clear, Copied}
use Rattle.ghes_ack.specs.Machine.{Machine, Situation, Filling, Published, Reading, Cleared, Acknowledged, at_work, pieces, last_taken, with_status, turned, reader_turn, InSituation, IsState}
use Rattle.ghes_ack.proofs.Terms.{Turned}
use Rattle.ghes_ack.proofs.Terms.{IsReading}
use Rattle.erst_bridge.specs.declared.events.BridgeEvent.TheVariants.{Line}
use Rattle.erst_bridge.specs.Bridges.{BridgeState, Off, Awaits, Holds, Releases, HoldsNone, after_reader}
use Rattle.erst_bridge.specs.InStep.{IsInStep, IsInOrder}

-- the reader reads a block: it copies a piece, or the last one, or there is none left
abbrev pub copies_on : Machine → Turned
copies_on m = (Copied, record m { copied = m.copied + 1 })

abbrev pub takes : Machine → Turned
takes m = (Took, record m { copied = m.copied + 1; taken = m.taken + 1 })

abbrev pub gives_back : Machine → Turned
gives_back m = (Clear, record m { window = with_status m.window (spelled 4 0); situation = Cleared })

pub by_tests : (P : Turned → Type 0) (x y : Bool) (a b c : Turned) → (x ≡ true → P a) → (x ≡ false → y ≡ true → P b) → (x ≡ false → y ≡ false → P c) → P (if x then a else (if y then b else c))
by_tests P true y a b c f g h = f refl
by_tests P false true a b c f g h = g refl refl
by_tests P false false a b c f g h = h refl refl

pub reading_cases : (P : Turned → Type 0) (m : Machine)
    → (nat_lt (m.copied + 1) (pieces (at_work m)) ≡ true → P (copies_on m))
    → (nat_lt m.copied (pieces (at_work m)) ≡ true → P (takes m))
    → (nat_lt m.copied (pieces (at_work m)) ≡ false → P (gives_back m))
    → P (reader_turn m Reading)
reading_cases P m more last none =
    by_tests P (nat_lt (m.copied + 1) (pieces (at_work m))) (nat_lt m.copied (pieces (at_work m))) (copies_on m) (takes m) (gives_back m) more (λ _ is. last is) (λ _ is. none is)

-- a block of which a piece is still to be copied was not taken before; one of which none is, was
pub not_taken : (m : Machine) → IsReading m → nat_lt m.copied (pieces (at_work m)) ≡ true → m.taken ≡ m.acknowledged
not_taken m (inl before) test = let w = before.1.taken_is in omega arith
not_taken m (inr behind) test = let is = behind.0 in absurd (grind (arith, nat_tests))

more_not_taken : (m : Machine) → IsReading m → nat_lt (m.copied + 1) (pieces (at_work m)) ≡ true → m.taken ≡ m.acknowledged
more_not_taken m (inl before) test = let w = before.1.taken_is in omega arith
more_not_taken m (inr behind) test = let is = behind.0 in absurd (grind (arith, nat_tests))

is_taken : (m : Machine) → IsReading m → nat_lt m.copied (pieces (at_work m)) ≡ false → m.taken ≡ m.acknowledged + 1
is_taken m (inl before) test = let is = before.0 in absurd (grind (arith, nat_tests))
is_taken m (inr behind) test = behind.1.taken_is

-- an event that neither takes nor acknowledges leaves the bridge and these numbers
same_numbers : (id : ℕ) (bridge : BridgeState) (m new : Machine) → HoldsNone id bridge → new.taken ≡ m.taken → new.acknowledged ≡ m.acknowledged → IsInStep bridge m → IsInStep bridge new
same_numbers id Off m new none taken acknowledged step = absurd none
same_numbers id (Awaits n) m new none taken acknowledged step = taken ∙ step ∙ sym acknowledged
same_numbers id (Holds n block) m new none taken acknowledged step = absurd none
same_numbers id (Releases n) m new none taken acknowledged step = taken ∙ step ∙ ap (λ (k : ℕ). k + 1) (sym acknowledged)

stays_in : (id : ℕ) (bridge : BridgeState) (m : Machine) (s : Situation) → m.situation ≡ s → InSituation m s → HoldsNone id bridge → IsInStep bridge m
    → (block : List ℕ) → block ≡ last_taken (reader_turn m s).1 → IsInStep (after_reader (reader_turn m s).0 id block bridge) (reader_turn m s).1
stays_in id bridge m Filling e is none step block last = same_numbers id bridge m m none refl refl step
stays_in id bridge m Published e is none step block last = same_numbers id bridge m (record m { copied = 0; situation = Reading }) none refl refl step
stays_in id bridge m Reading e is none step block last =
    reading_cases (λ (t : Turned). block ≡ last_taken t.1 → IsInStep (after_reader t.0 id block bridge) t.1) m
    (λ more last. same_numbers id bridge m (copies_on m).1 none refl refl step)
    (λ some last. (ap (λ (k : ℕ). k + 1) (not_taken m is some), e, last))
    (λ all last. same_numbers id bridge m (gives_back m).1 none refl refl step)
    last
stays_in id bridge m Cleared e is none step block last = is.taken
stays_in id bridge m Acknowledged e is none step block last = same_numbers id bridge m m none refl refl step

order_in : (id : ℕ) (bridge : BridgeState) (m : Machine) (s : Situation) → InSituation m s → HoldsNone id bridge → IsInStep bridge m → IsInOrder bridge (Line (reader_turn m s).0)
order_in id Off m s is none step = absurd none
order_in id (Holds n block) m s is none step = absurd none
order_in id (Awaits n) m Filling is none step = tt
order_in id (Awaits n) m Published is none step = tt
order_in id (Awaits n) m Reading is none step =
    reading_cases (λ (t : Turned). IsInOrder (Awaits n) (Line t.0)) m (λ more. tt) (λ some. tt) (λ all. let taken = is_taken m is all in absurd (omega arith))
order_in id (Awaits n) m Cleared is none step = let taken = is.taken in absurd (omega arith)
order_in id (Awaits n) m Acknowledged is none step = tt
order_in id (Releases n) m Filling is none step = let taken = is.taken in absurd (omega arith)
order_in id (Releases n) m Published is none step = let taken = is.taken_is in absurd (omega arith)
order_in id (Releases n) m Reading is none step =
    reading_cases (λ (t : Turned). IsInOrder (Releases n) (Line t.0)) m
    (λ more. let free = more_not_taken m is more in absurd (omega arith)) (λ some. let free = not_taken m is some in absurd (omega arith)) (λ all. tt)
order_in id (Releases n) m Cleared is none step = tt
order_in id (Releases n) m Acknowledged is none step = let taken = is.taken in absurd (omega arith)

pub stays : (len id : ℕ) (bridge : BridgeState) (m : Machine) → IsState len m → IsInStep bridge m → HoldsNone id bridge → (block : List ℕ) → block ≡ last_taken (turned Reader m).1
    → IsInStep (after_reader (turned Reader m).0 id block bridge) (turned Reader m).1
stays len id bridge m is step none block last = stays_in id bridge m m.situation refl is.holds none step block last

pub order : (len id : ℕ) (bridge : BridgeState) (m : Machine) → IsState len m → IsInStep bridge m → HoldsNone id bridge → IsInOrder bridge (Line (turned Reader m).0)
order len id bridge m is step none = order_in id bridge m m.situation is.holds none step
