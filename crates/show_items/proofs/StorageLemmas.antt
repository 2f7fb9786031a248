-- The records of a storage, by whether its header tells the size of their places.
use Rattle.std.proofs.Common.{◌≡◌, ℕ, ◌<◌, nat_lt, Bool, false, List, [], refl, sym, subst}
use Rattle.std.proofs.lemmas.Bool.{lt-ltb}
use Rattle.show_items.specs.Items.{Shown}
use Rattle.show_items.specs.Storage.{AreStored, AreStoredIf, place_size}

pub none_without_size : (bytes : List ℕ) → place_size bytes ≡ 0 → AreStoredIf false (nat_lt 0 (place_size bytes)) bytes []
none_without_size bytes none = subst (λ (n : ℕ). AreStoredIf false (nat_lt 0 n) bytes []) (sym none) refl

pub all_by_size : (early : Bool) (bytes : List ℕ) (items : List Shown) → 0 < place_size bytes → AreStored early bytes items
    → AreStoredIf early (nat_lt 0 (place_size bytes)) bytes items
all_by_size early bytes items some are = subst (λ b. AreStoredIf early b bytes items) (sym (lt-ltb 0 (place_size bytes) some)) are
