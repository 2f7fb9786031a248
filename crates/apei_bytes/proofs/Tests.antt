-- What a result that is no error says of the tests before it.
use Rattle.std.proofs.Common.{◌≡◌, Bool, true, false, cond, Result, Ok, Err, refl}

-- the test that leads to it
pub ok_if : {A E : Type 0} (b : Bool) (x : Result A E) (e : E) (v : A) → cond b x (Err e) ≡ Ok v → (b ≡ true) × (x ≡ Ok v)
ok_if true x e v h = (refl, h)
ok_if false x e v h = absurd (cc)

-- the test that leads to an error
pub ok_unless : {A E : Type 0} (b : Bool) (x : Result A E) (e : E) (v : A) → cond b (Err e) x ≡ Ok v → (b ≡ false) × (x ≡ Ok v)
ok_unless true x e v h = absurd (cc)
ok_unless false x e v h = (refl, h)
