-- A block that a turn of the reader took has the bytes of a block.
use Rattle.std.proofs.Common.{◌≡◌, ℕ, suc, ◌+◌, ◌≤◌, inl, inr, nat_lt, cond, Bool, true, false, [], ◌∷◌, length, get_or, refl, sym, ap, subst, arith}
use Rattle.std.proofs.lemmas.List.Elements.{All-get_or}
use Rattle.base_model.specs.Bytes.{spelled}
use Rattle.ghes_ack.specs.declared.events.Side.TheVariants.{Reader}
use Rattle.ghes_ack.specs.declared.events.Event.{Event}
use Rattle.ghes_ack.specs.declared.events.Event.TheVariants.{Copied, Took, Clear}
use Rattle.ghes_ack.specs.Machine.{Machine, Situation, Filling, Published, Reading, Cleared, Acknowledged, turned, reader_turn, pieces, at_work, with_status, last_taken, Fits, IsState, InSituation}
use Rattle.ghes_ack.proofs.Terms.{Turned}
use Rattle.ghes_ack.proofs.StepLemmas.{turn_keeps}

reads_one : (b c : Bool) (m n o : Machine) → ◌≡◌ {A = Event} Took (cond {A = Turned} b (Copied, m) (cond {A = Turned} c (Took, n) (Clear, o))).0
    → (cond {A = Turned} b (Copied, m) (cond {A = Turned} c (Took, n) (Clear, o))).1.taken ≡ n.taken
reads_one true c m n o is = absurd cc
reads_one false true m n o is = refl
reads_one false false m n o is = absurd cc

reader_one : (m : Machine) (s : Situation) → ◌≡◌ {A = Event} Took (reader_turn m s).0 → (reader_turn m s).1.taken ≡ m.taken + 1
reader_one m Filling is = absurd cc
reader_one m Published is = absurd cc
reader_one m Reading is =
    reads_one (nat_lt (m.copied + 1) (pieces (at_work m))) (nat_lt m.copied (pieces (at_work m))) (record m { copied = m.copied + 1 }) (record m { copied = m.copied + 1; taken = m.taken + 1 })
    (record m { window = with_status m.window (spelled 4 0); situation = Cleared }) is
reader_one m Cleared is = absurd cc
reader_one m Acknowledged is = absurd cc

-- no more are taken than there are
pub few_taken : (m : Machine) (s : Situation) → InSituation m s → m.taken ≤ length m.blocks
few_taken m Filling h = omega (arith, h.taken, h.all)
few_taken m Published h = omega (arith, h.taken_is, h.there)
few_taken m Reading h = elim h [ inl x ↦ omega (arith, x.1.taken_is, x.1.there) | inr x ↦ omega (arith, x.1.taken_is, x.1.there) ]
few_taken m Cleared h = omega (arith, h.taken, h.all)
few_taken m Acknowledged h = omega (arith, h.taken, h.all)

last_fits : (len : ℕ) (m : Machine) (n : ℕ) → m.taken ≡ n + 1 → IsState len m → Fits len (last_taken m)
last_fits len m n one state =
    let few = few_taken m m.situation state.holds in
    let more : m.taken ≡ suc n = omega (arith, one) in
    let e : last_taken m ≡ get_or m.blocks n [] = ap (λ (k : ℕ). get_or ([] ∷ m.blocks) k []) more in
    subst (Fits len) (sym e) (All-get_or (Fits len) m.blocks n [] (omega (arith, few, one)) state.blocks)

pub taken_fits : (len : ℕ) (m : Machine) → IsState len m → ◌≡◌ {A = Event} Took (turned Reader m).0 → Fits len (last_taken (turned Reader m).1)
taken_fits len m state is = last_fits len (turned Reader m).1 m.taken (reader_one m m.situation is) (turn_keeps len Reader m state)
