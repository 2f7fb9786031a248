-- What clap's rule says of a command.
use Rattle.std.proofs.Common.{◌≡◌, ◌&&◌, Bool, true, false, refl, [], ◌∷◌, inl, inr}
use Rattle.clap.specs.Words.{App, HasKind, Kinds, is_simple, is_simple_and_free, kind_of}
use Rattle.clap.specs.declared.error.Error.{Error}
use Rattle.clap.specs.declared.error.kind.ErrorKind.TheVariants as kind

both_first : (a b : Bool) → (a && b) ≡ true → a ≡ true
both_first true b both = refl
both_first false b both = absurd (cc both)

pub simple : (app : App) → is_simple_and_free app ≡ true → is_simple app ≡ true
simple app free = both_first (is_simple app) _ free

-- an error that is not that of memory has a fault
pub faulty : (kinds : Kinds) (error : Error) → HasKind kinds error → (kind_of error ≡ kind.OutOfMemory → ⊥) → kinds ≡ [] → ⊥
faulty [] error has memory none = elim has [ inl e ↦ memory e | inr among ↦ absurd among ]
faulty (k ∷ ks) error has memory none = absurd (cc none)
