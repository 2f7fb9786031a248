-- Listeners that are told of blocks, and dropped.
use Rattle.std.proofs.Common.{ℕ, ◌==◌, Bool, true, false, cond, List, [], ◌∷◌, remove}
use Rattle.apei_notify.specs.Telling.{Hearing, IsToldOfAll, Told}
use Rattle.apei_notify.proofs.ToldLemmas.{zip_remove}
use Rattle.ghes_hub.specs.Hubs.{Call, Submits, Turns, Removes, left_at}

told_if : {L : Type 0} (hearing : L → Hearing) (blocks : List (List ℕ)) (here : Bool) (at : ℕ) (xa xb : List L) →
    Told hearing blocks xa xb → Told hearing blocks (cond here (remove xa at) xa) (cond here (remove xb at) xb)
told_if hearing blocks true at xa xb h = zip_remove (IsToldOfAll hearing blocks) xa xb at h
told_if hearing blocks false at xa xb h = h

pub Told-left : {L : Type 0} (hearing : L → Hearing) (blocks : List (List ℕ)) (j : ℕ) (calls : List Call) (xa xb : List L) →
    Told hearing blocks xa xb → Told hearing blocks (left_at j calls xa) (left_at j calls xb)
Told-left hearing blocks j [] xa xb h = h
Told-left hearing blocks j (Submits i block ∷ calls) xa xb h = Told-left hearing blocks j calls xa xb h
Told-left hearing blocks j (Turns i side event ∷ calls) xa xb h = Told-left hearing blocks j calls xa xb h
Told-left hearing blocks j (Removes i at ∷ calls) xa xb h = Told-left hearing blocks j calls _ _ (told_if hearing blocks (i == j) at xa xb h)
