-- Turns of the handover machine: its blocks, and how many of them are taken.
use Rattle.std.proofs.Common.{◌≡◌, ◌∙◌, ℕ, suc, ◌+◌, ◌<◌, inl, inr, Bool, true, false, List, [], ◌∷◌, length, drop, get_or, refl, sym, ap, subst, arith}
use Rattle.std.specs.Prelude.{nat_lt, if◌then◌else◌}
use Rattle.std.proofs.Math.Seq.{drop-cons}
use Rattle.ghes_ack.specs.declared.events.Side.TheVariants.{Firmware, Reader}
use Rattle.ghes_ack.specs.Machine.{Machine, Situation, Filling, Published, Reading, Cleared, Acknowledged, pieces, last_taken, turned, firmware_turn, reader_turn, InSituation, IsState}
use Rattle.ghes_ack.proofs.Terms.{Turned}
use Rattle.ghes_ack.proofs.Terms.{IsReading}
use Rattle.ghes_ack.proofs.Terms.{offered}
use Rattle.erst_bridge.specs.Bridges.{BridgeState, Off, Awaits, Holds, Releases, HoldsNone, after_reader}
use Rattle.erst_bridge.specs.InStep.{IsInStep}
use Rattle.erst_bridge.proofs.InStepLemmas.{reading_cases, not_taken}
use Rattle.erst_bridge.specs.Prefixes.{next_id}
use Rattle.erst_bridge.proofs.Terms.{to_come}

-- a turn of the firmware leaves the blocks, and these numbers of them
pub record SameTaken (m new : Machine) : Type 0 where
  pub taken : new.taken ≡ m.taken
  pub acknowledged : new.acknowledged ≡ m.acknowledged
  pub blocks : new.blocks ≡ m.blocks

one_of_two : (m : Machine) (b : Bool) (one other : Turned) → SameTaken m one.1 → SameTaken m other.1 → SameTaken m (if b then one else other).1
one_of_two m true one other first second = first
one_of_two m false one other first second = second

offered_same : (m : Machine) (waiting : List (List ℕ)) → SameTaken m (offered m waiting).1
offered_same m [] = record { taken = refl; acknowledged = refl; blocks = refl }
offered_same m (block ∷ waiting) =
    one_of_two m (nat_lt m.filled (pieces block)) _ _ (record { taken = refl; acknowledged = refl; blocks = refl }) (record { taken = refl; acknowledged = refl; blocks = refl })

pub firmware_same : (m : Machine) (s : Situation) → SameTaken m (firmware_turn m s).1
firmware_same m Filling = offered_same m (drop m.published m.blocks)
firmware_same m Published = record { taken = refl; acknowledged = refl; blocks = refl }
firmware_same m Reading = record { taken = refl; acknowledged = refl; blocks = refl }
firmware_same m Cleared = record { taken = refl; acknowledged = refl; blocks = refl }
firmware_same m Acknowledged = record { taken = refl; acknowledged = refl; blocks = refl }

pub firmware_in_step : (bridge : BridgeState) (m : Machine) → IsInStep bridge m → IsInStep bridge (turned Firmware m).1
firmware_in_step Off m step = tt
firmware_in_step (Awaits id) m step = let same = firmware_same m m.situation in same.taken ∙ step ∙ sym same.acknowledged
firmware_in_step (Holds id block) m step = subst (λ (s : Situation). IsInStep (Holds id block) (firmware_turn m s).1) (sym step.1) step
firmware_in_step (Releases id) m step = let same = firmware_same m m.situation in same.taken ∙ step ∙ ap (λ (k : ℕ). k + 1) (sym same.acknowledged)

-- the block taken last is the same
pub last_same : (m new : Machine) → new.taken ≡ m.taken → new.blocks ≡ m.blocks → last_taken new ≡ last_taken m
last_same m new taken blocks = ap (λ (k : ℕ). get_or ([] ∷ new.blocks) k []) taken ∙ ap (λ (xs : List (List ℕ)). get_or ([] ∷ xs) m.taken []) blocks

-- the blocks to come are the same, and the identifier of the first of them
pub record SameToCome (bridge : BridgeState) (m : Machine) (next : BridgeState) (new : Machine) : Type 0 where
  pub blocks : to_come next new ≡ to_come bridge m
  pub id : next_id next ≡ next_id bridge

rest_same : (m new : Machine) → new.taken ≡ m.taken → new.blocks ≡ m.blocks → drop new.taken new.blocks ≡ drop m.taken m.blocks
rest_same m new taken blocks = ap (λ (n : ℕ). drop n new.blocks) taken ∙ ap (drop m.taken) blocks

come_same : (bridge : BridgeState) (m new : Machine) → new.taken ≡ m.taken → new.blocks ≡ m.blocks → SameToCome bridge m bridge new
come_same Off m new taken blocks = record { blocks = rest_same m new taken blocks; id = refl }
come_same (Awaits id) m new taken blocks = record { blocks = rest_same m new taken blocks; id = refl }
come_same (Holds id block) m new taken blocks = record { blocks = ap (λ (xs : List (List ℕ)). block ∷ xs) (rest_same m new taken blocks); id = refl }
come_same (Releases id) m new taken blocks = record { blocks = rest_same m new taken blocks; id = refl }

pub firmware_come : (bridge : BridgeState) (m : Machine) → SameToCome bridge m bridge (turned Firmware m).1
firmware_come bridge m = let same = firmware_same m m.situation in come_same bridge m (turned Firmware m).1 same.taken same.blocks

-- the block that is taken is the first one to come
took : (id : ℕ) (bridge : BridgeState) (m new : Machine) → HoldsNone id bridge → IsInStep bridge m → m.taken ≡ m.acknowledged → m.acknowledged < length m.blocks
    → new.taken ≡ m.taken + 1 → new.blocks ≡ m.blocks
    → (block : List ℕ) → block ≡ last_taken new → SameToCome bridge m (Holds id block) new
took id Off m new none step free there taken blocks block last = absurd none
took id (Holds n other) m new none step free there taken blocks block last = absurd none
took id (Releases n) m new none step free there taken blocks block last = absurd (omega arith)
took id (Awaits n) m new none step free there taken blocks block last =
    let in_range : m.taken < length m.blocks = omega arith in
    let more : new.taken ≡ suc m.taken = omega arith in
    let first : block ≡ get_or m.blocks m.taken [] = last ∙ ap (λ (k : ℕ). get_or ([] ∷ new.blocks) k []) more ∙ ap (λ (xs : List (List ℕ)). get_or xs m.taken []) blocks in
    record {
      blocks = ap (λ (n : ℕ). block ∷ drop n new.blocks) more
          ∙ ap (λ (xs : List (List ℕ)). block ∷ drop (suc m.taken) xs) blocks
          ∙ ap (λ (b : List ℕ). b ∷ drop (suc m.taken) m.blocks) first
          ∙ sym (drop-cons m.blocks m.taken [] in_range);
      id = sym none;
    }

acknowledged : (id : ℕ) (bridge : BridgeState) (m new : Machine) → HoldsNone id bridge → new.taken ≡ m.taken → new.blocks ≡ m.blocks → SameToCome bridge m (Awaits id) new
acknowledged id Off m new none taken blocks = absurd none
acknowledged id (Holds n other) m new none taken blocks = absurd none
acknowledged id (Releases n) m new none taken blocks = record { blocks = rest_same m new taken blocks; id = sym none }
acknowledged id (Awaits n) m new none taken blocks = record { blocks = rest_same m new taken blocks; id = sym none }

has_block : (m : Machine) → IsReading m → m.acknowledged < length m.blocks
has_block m (inl before) = before.1.there
has_block m (inr behind) = behind.1.there

come_in : (id : ℕ) (bridge : BridgeState) (m : Machine) (s : Situation) → InSituation m s → HoldsNone id bridge → IsInStep bridge m
    → (block : List ℕ) → block ≡ last_taken (reader_turn m s).1 → SameToCome bridge m (after_reader (reader_turn m s).0 id block bridge) (reader_turn m s).1
come_in id bridge m Filling is none step block last = come_same bridge m m refl refl
come_in id bridge m Published is none step block last = come_same bridge m (record m { copied = 0; situation = Reading }) refl refl
come_in id bridge m Reading is none step block last =
    reading_cases (λ (t : Turned). block ≡ last_taken t.1 → SameToCome bridge m (after_reader t.0 id block bridge) t.1) m
    (λ more last. come_same bridge m _ refl refl)
    (λ some last. took id bridge m _ none step (not_taken m is some) (has_block m is) refl refl block last)
    (λ all last. come_same bridge m _ refl refl)
    last
come_in id bridge m Cleared is none step block last = acknowledged id bridge m (record m { acknowledged = m.acknowledged + 1; situation = Acknowledged }) none refl refl
come_in id bridge m Acknowledged is none step block last = come_same bridge m m refl refl

pub reader_come : (len id : ℕ) (bridge : BridgeState) (m : Machine) → IsState len m → IsInStep bridge m → HoldsNone id bridge → (block : List ℕ) → block ≡ last_taken (turned Reader m).1
    → SameToCome bridge m (after_reader (turned Reader m).0 id block bridge) (turned Reader m).1
reader_come len id bridge m is step none block last = come_in id bridge m m.situation is.holds none step block last
