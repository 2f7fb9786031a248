-- What happens to several sources over one memory happens to each as if it were alone.
use Rattle.std.proofs.Common.{◌≡◌, ◌∙◌, ℕ, zero, suc, ◌≤◌, inl, inr, false, Some, None, List, [], ◌∷◌, length, set, slice_get, bit_and, bit_or, refl, sym, ap, subst, arith}
use Rattle.std.proofs.lemmas.Bool.{cases_eq}
use Rattle.base_model.specs.Bytes.{spelled}
use Rattle.base_model.proofs.BytesLemmas.{length-spelled}
use Rattle.ghes_port.specs.declared.maps.SourceMap.{SourceMap}
use Rattle.ghes_port.specs.declared.maps.AckRegister.{AckRegister}
use Rattle.ghes_port.specs.Places.{index_of, octets}
use Rattle.ghes_port.specs.Memories.{with_bytes}
use Rattle.ghes_port.specs.Setups.{maps_meet}
use Rattle.ghes_port.specs.Readers.{World, Happens, Submits, Accesses, GuestLooks, GuestCopies, GuestTakes, GuestAsks, GuestAnswers, Elsewhere, SameParts, Leads, Stays, Then, Copies}
use Rattle.ghes_port.specs.Shared.{Side, Shared, world_of, side_of, IsOwn, Befalls, OneOf, NoneOf, Passes, Nothing, After, AreFirst, IsAlone}
use Rattle.ghes_port.proofs.BesideLemmas.{AreClear, IsBeside, beside_of, parts_seen, clear_inner, clear_same, access_elsewhere}
use Rattle.ghes_port.proofs.RunLemmas.{Holds, holds_last, out_of, address_out}

set_same : (xs : List Side) (i : ℕ) (x y : Side) → slice_get xs i ≡ Some y → slice_get (set xs i x) i ≡ Some x
set_same [] i x y is = absurd (let e : None ≡ Some y = is in cc)
set_same (z ∷ zs) zero x y is = refl
set_same (z ∷ zs) (suc i) x y is = set_same zs i x y is

set_other : (xs : List Side) (i j : ℕ) (x : Side) → (i ≡ j → ⊥) → slice_get (set xs j x) i ≡ slice_get xs i
set_other [] i j x differ = refl
set_other (z ∷ zs) zero zero x differ = absurd (differ refl)
set_other (z ∷ zs) zero (suc j) x differ = refl
set_other (z ∷ zs) (suc i) zero x differ = refl
set_other (z ∷ zs) (suc i) (suc j) x differ = set_other zs i j x (λ e. differ (ap suc e))

-- what one does, as another sees it
same_memory : (one : SourceMap) (old new : ℕ → ℕ) → new ≡ old → SameParts one old new
same_memory one old new is = subst (λ (m : ℕ → ℕ). SameParts one old m) (sym is) ((parts_seen one).same old)

number_else : (one other : SourceMap) (m : ℕ → ℕ) (ack : AckRegister) (value : ℕ) → IsBeside one other → other.ack ≡ Some ack
    → SameParts one m (with_bytes m (index_of ack.place) (spelled (octets ack.access) value))
number_else one other m ack value beside some =
    let at : ℕ = index_of ack.place in
    let n : ℕ = octets ack.access in
    clear_same one m at (spelled n value) (subst (λ (k : ℕ). AreClear one at k) (sym (length-spelled n value)) (beside.ack ack some))

status_else : (one other : SourceMap) (m : ℕ → ℕ) → 20 ≤ other.len → IsBeside one other → SameParts one m (with_bytes m other.block (spelled 4 0))
status_else one other m head beside =
    let n = length-spelled 4 0 in
    clear_same one m other.block (spelled 4 0) (clear_inner one other.block other.len other.block (length (spelled 4 0)) (omega (arith)) (omega (arith, head, n)) beside.block)

own_elsewhere : (one : SourceMap) (old new : World) (h : Happens old new) → IsOwn old new h → Holds old → maps_meet one old.source.map ≡ false → SameParts one old.memory new.memory
own_elsewhere one old new (Submits block good is) own holds apart = same_memory one old.memory new.memory (ap (λ (w : World). w.memory) is)
own_elsewhere one old new (Accesses value read is) own holds apart =
    subst (λ (w : World). SameParts one old.memory w.memory) (sym is) (access_elsewhere (record old.source { map = one }) old.source old.memory holds.source apart)
own_elsewhere one old new (GuestLooks begun looks is) own holds apart = same_memory one old.memory new.memory (ap (λ (w : World). w.memory) is)
own_elsewhere one old new (GuestCopies copied n copies small is) own holds apart = same_memory one old.memory new.memory (ap (λ (w : World). w.memory) is)
own_elsewhere one old new (GuestTakes copied size copies read is) own holds apart =
    let out = out_of old (Copies copied) copies tt holds in
    let place = address_out old out.0 holds in
    let at_block = status_else one old.source.map old.memory holds.source.placed.head (beside_of one old.source.map apart) in
    subst (λ (w : World). SameParts one old.memory w.memory) (sym is) (subst (λ (a : ℕ). SameParts one old.memory (with_bytes old.memory a (spelled 4 0))) (sym place) at_block)
own_elsewhere one old new (GuestAsks ack some owes is) own holds apart = same_memory one old.memory new.memory (ap (λ (w : World). w.memory) is)
own_elsewhere one old new (GuestAnswers ack read some answers is) own holds apart =
    subst (λ (w : World). SameParts one old.memory w.memory) (sym is)
    (number_else one old.source.map old.memory ack (bit_or (bit_and read ack.keep) ack.set) (beside_of one old.source.map apart) some)
own_elsewhere one old new (Elsewhere memory same is) own holds apart = absurd own

-- a source stays where it lies
same_map : (old new : World) → Happens old new → new.source.map ≡ old.source.map
same_map old new (Submits block good is) = ap (λ (w : World). w.source.map) is
same_map old new (Accesses value read is) = ap (λ (w : World). w.source.map) is
same_map old new (GuestLooks begun looks is) = ap (λ (w : World). w.source.map) is
same_map old new (GuestCopies copied n copies small is) = ap (λ (w : World). w.source.map) is
same_map old new (GuestTakes copied size copies read is) = ap (λ (w : World). w.source.map) is
same_map old new (GuestAsks ack some owes is) = ap (λ (w : World). w.source.map) is
same_map old new (GuestAnswers ack read some answers is) = ap (λ (w : World). w.source.map) is
same_map old new (Elsewhere memory same is) = ap (λ (w : World). w.source.map) is

stays_there : (first last : World) → Leads first last → last.source.map ≡ first.source.map
stays_there first last Stays = refl
stays_there first last (Then between next before happens) = same_map between next happens ∙ stays_there first between before

-- of each source
AreAlone : Shared → Shared → Type 0
AreAlone first last = (i : ℕ) (side : Side) → slice_get last.sides i ≡ Some side → IsAlone first last i side

one_more : (first between last : Shared) → AreFirst first → AreAlone first between → Befalls between last → AreAlone first last
unfolding AreAlone
one_more first between last f alone (OneOf k one next happens is_one own is) = λ i side is_side.
    let sides : List Side = set between.sides k (side_of next) in
    let there : slice_get sides i ≡ Some side = ap (λ (s : Shared). slice_get s.sides i) (sym is) ∙ is_side in
    let memory : next.memory ≡ last.memory = ap (λ (s : Shared). s.memory) (sym is) in
    let a : IsAlone first between k one = alone k one is_one in
    elim (cases_eq i k) [
      | inl same ↦
          let now : slice_get sides k ≡ Some side = subst (λ (j : ℕ). slice_get sides j ≡ Some side) same there in
          let both : Some (side_of next) ≡ Some side = sym (set_same between.sides k (side_of next) one is_one) ∙ now in
          let e : side_of next ≡ side = cc in
          let led : Leads (world_of first.memory a.before) next = Then (world_of between.memory one) next a.leads happens in
          record {
            before = a.before;
            is = subst (λ (j : ℕ). slice_get first.sides j ≡ Some a.before) (sym same) a.is;
            leads = subst (λ (m : ℕ → ℕ). Leads (world_of first.memory a.before) (world_of m side)) memory
                (subst (λ (s : Side). Leads (world_of first.memory a.before) (world_of next.memory s)) e led);
          }
      | inr differ ↦
          let b : IsAlone first between i side = alone i side (sym (set_other between.sides i k (side_of next) differ) ∙ there) in
          let map_one = stays_there (world_of first.memory a.before) (world_of between.memory one) a.leads in
          let map_side = stays_there (world_of first.memory b.before) (world_of between.memory side) b.leads in
          let apart : maps_meet side.source.map one.source.map ≡ false =
          ap (λ (m : SourceMap). maps_meet m one.source.map) map_side ∙ ap (maps_meet b.before.source.map) map_one ∙ f.apart i k b.before a.before differ b.is a.is in
          let holds = holds_last (world_of first.memory a.before) (world_of between.memory one) (f.each k a.before a.is) a.leads in
          let same = own_elsewhere side.source.map (world_of between.memory one) next happens own holds apart in
          record {
            before = b.before;
            is = b.is;
            leads = subst (λ (m : ℕ → ℕ). Leads (world_of first.memory b.before) (world_of m side)) memory
                (Then (world_of between.memory side) (world_of next.memory side) b.leads (Elsewhere next.memory same refl));
          }
    ]
one_more first between last f alone (NoneOf memory same is) = λ i side is_side.
    let there : slice_get between.sides i ≡ Some side = ap (λ (s : Shared). slice_get s.sides i) (sym is) ∙ is_side in
    let a : IsAlone first between i side = alone i side there in
    let now : memory ≡ last.memory = ap (λ (s : Shared). s.memory) (sym is) in
    record {
      before = a.before;
      is = a.is;
      leads = subst (λ (m : ℕ → ℕ). Leads (world_of first.memory a.before) (world_of m side)) now
          (Then (world_of between.memory side) (world_of memory side) a.leads (Elsewhere memory (same i side there) refl));
    }

each_alone : (first last : Shared) → AreFirst first → Passes first last → AreAlone first last
unfolding AreAlone
each_alone first last f Nothing = λ i side is. record { before = side; is = is; leads = Stays }
each_alone first last f (After between next before befalls) = one_more first between next f (each_alone first between f before) befalls

pub as_if_alone : (first last : Shared) → AreFirst first → Passes first last → (i : ℕ) (side : Side) → slice_get last.sides i ≡ Some side → IsAlone first last i side
unfolding AreAlone
as_if_alone first last f passes = each_alone first last f passes
