-- Chains of which one is another than before.
use Rattle.std.proofs.Common.{◌≡◌, ◌≢◌, ◌∙◌, ℕ, zero, suc, ◌<◌, ◌≤◌, Bool, true, false, cond, List, [], ◌∷◌, length, length-append, set, map, get_or, remove}
use Rattle.std.proofs.Common.{Option, Some, slice_get, IfSome, refl, sym, ap, subst, arith}
use Rattle.std.specs.List.{AllZip}
use Rattle.std.specs.Option.{option_map}
use Rattle.std.proofs.lemmas.Option.{slice_get-map, slice_get_read}
use Rattle.base_model.specs.Bytes.{number_at}
use Rattle.apei_notify.specs.Telling.{Told, Hearing, IsTold}
use Rattle.ghes_hub.specs.Chains.{in_order}
use Rattle.ghes_hub.proofs.SourceLemmas.{slice_get-same, slice_get-other}
use Rattle.apei_notify.proofs.ToldLemmas.{told_none}

-- a list of no more items in one place
pub no_longer : {C L : Type 0} (f : C → List L) (xs : List C) (i : ℕ) (y d : C) → i < length xs → length (f y) ≤ length (f (get_or xs i d)) →
    length (in_order (map f (set xs i y))) ≤ length (in_order (map f xs))
no_longer f [] i y d within le = absurd (omega (arith, within))
no_longer f (x ∷ xs) zero y d within le =
    let a = length-append (f y) (in_order (map f xs)) in
    let b = length-append (f x) (in_order (map f xs)) in
    omega (arith, a, b, le)
no_longer f (x ∷ xs) (suc i) y d within le =
    let a = length-append (f x) (in_order (map f (set xs i y))) in
    let b = length-append (f x) (in_order (map f xs)) in
    let rest = no_longer f xs i y d (omega (arith, within)) le in
    omega (arith, a, b, rest)

map_get : {C L : Type 0} (f : C → List L) (xs : List C) (i : ℕ) (x : C) → slice_get xs i ≡ Some x → slice_get (map f xs) i ≡ Some (f x)
map_get f xs i x is = slice_get-map f xs i ∙ ap (option_map f) is

same_some : {X : Type 0} (x y : X) → Some x ≡ Some y → x ≡ y
same_some x y e = cc

told_one : {L : Type 0} (hearing : L → Hearing) (severity : ℕ) (block : List ℕ) (xs ys : List L) → severity ≡ number_at block 16 4 →
    AllZip (IsTold hearing severity block) xs ys → Told hearing (block ∷ []) xs ys
told_one hearing severity block [] [] is h = tt
told_one hearing severity block [] (y ∷ ys) is h = absurd h
told_one hearing severity block (x ∷ xs) [] is h = absurd h
told_one hearing severity block (x ∷ xs) (y ∷ ys) is h =
    ((y, subst (λ (s : ℕ). IsTold hearing s block x y) is h.0, refl), told_one hearing severity block xs ys is h.1)

-- the listeners of chain i, and no others, were told of some blocks
pub record TellsAt {L : Type 0} (hearing : L → Hearing) (i : ℕ) (blocks : List (List ℕ)) (old new : List (List L)) : Type 0 where
  pub told : (members : List L) → slice_get old i ≡ Some members → (now : List L) × (slice_get new i ≡ Some now) × Told hearing blocks members now
  pub others : (j : ℕ) → j ≢ i → slice_get new j ≡ slice_get old j

-- the chain of source i was told of a block
pub tells_one : {C L : Type 0} (hearing : L → Hearing) (f : C → List L) (xs : List C) (i : ℕ) (x y : C) (severity : ℕ) (block last : List ℕ) (takes : Bool) →
    i < length xs → x ≡ get_or xs i x → takes ≡ true → block ≡ last → severity ≡ number_at block 16 4 → AllZip (IsTold hearing severity block) (f x) (f y) →
    TellsAt hearing i (cond takes (last ∷ []) []) (map f xs) (map f (set xs i y))
tells_one {C} {L} hearing f xs i x y severity block last takes within is took same of told =
    let here : slice_get (map f xs) i ≡ Some (f x) = map_get f xs i x (slice_get_read xs (length xs) i x refl within is) in
    let one : Told hearing (last ∷ []) (f x) (f y) = subst (λ (b : List ℕ). Told hearing (b ∷ []) (f x) (f y)) same (told_one hearing severity block (f x) (f y) of told) in
    let blocks : cond {A = List (List ℕ)} takes (last ∷ []) [] ≡ last ∷ [] = ap (λ (b : Bool). cond {A = List (List ℕ)} b (last ∷ []) []) took in
    record {
      told = λ members at.
          let e : f x ≡ members = same_some (f x) members (sym here ∙ at) in (
            f y,
            map_get f (set xs i y) i y (slice_get-same xs i y within),
            subst (λ (bs : List (List ℕ)). Told hearing bs members (f y)) (sym blocks) (subst (λ (ms : List L). Told hearing (last ∷ []) ms (f y)) e one),
          );
      others = λ j other. slice_get-map f (set xs i y) j ∙ ap (option_map f) (slice_get-other xs i j y other) ∙ sym (slice_get-map f xs j);
    }

-- no chain was told of any
pub tells_none : {L : Type 0} (hearing : L → Hearing) (lists : List (List L)) (i : ℕ) (last : List ℕ) (takes : Bool) → takes ≡ false →
    TellsAt hearing i (cond takes (last ∷ []) []) lists lists
tells_none {L} hearing lists i last takes none =
    let blocks : cond {A = List (List ℕ)} takes (last ∷ []) [] ≡ [] = ap (λ (b : Bool). cond {A = List (List ℕ)} b (last ∷ []) []) none in
    record {
      told = λ members at. (members, at, subst (λ (bs : List (List ℕ)). Told hearing bs members members) (sym blocks) (told_none hearing members));
      others = λ j other. refl;
    }

-- a listener of chain i, and no other, was dropped
pub record RemovesAt {L : Type 0} (i at : ℕ) (old new : List (List L)) : Type 0 where
  pub removed : (members : List L) → slice_get old i ≡ Some members → slice_get new i ≡ Some (remove members at)
  pub others : (j : ℕ) → j ≢ i → slice_get new j ≡ slice_get old j

pub removes_one : {C L : Type 0} (f : C → List L) (xs : List C) (i at : ℕ) (x y : C) → i < length xs → x ≡ get_or xs i x → f y ≡ remove (f x) at → RemovesAt i at (map f xs) (map f (set xs i y))
removes_one {C} {L} f xs i at x y within is gone =
    let here : slice_get (map f xs) i ≡ Some (f x) = map_get f xs i x (slice_get_read xs (length xs) i x refl within is) in
    record {
      removed = λ members was.
          let e : f x ≡ members = same_some (f x) members (sym here ∙ was) in
          map_get f (set xs i y) i y (slice_get-same xs i y within) ∙ ap Some (gone ∙ ap (λ (ms : List L). remove ms at) e);
      others = λ j other. slice_get-map f (set xs i y) j ∙ ap (option_map f) (slice_get-other xs i j y other) ∙ sym (slice_get-map f xs j);
    }

pub if_map : {C L : Type 0} (f : C → List L) (xs : List C) (i : ℕ) (x : C) (P : List L → Type 0) → i < length xs → x ≡ get_or xs i x → IfSome (slice_get (map f xs) i) P → P (f x)
if_map {C} {L} f xs i x P within is h =
    let here : slice_get (map f xs) i ≡ Some (f x) = map_get f xs i x (slice_get_read xs (length xs) i x refl within is) in
    subst (λ (o : Option (List L)). IfSome o P) here h

pub told_long : {L : Type 0} (R : L → L → Type 0) (xs ys : List L) → AllZip R xs ys → length ys ≤ length xs
told_long R [] [] h = omega arith
told_long R [] (y ∷ ys) h = absurd h
told_long R (x ∷ xs) [] h = absurd h
told_long R (x ∷ xs) (y ∷ ys) h = let rest = told_long R xs ys h.1 in omega (arith, rest)

pub removed_long : {L : Type 0} (xs : List L) (i : ℕ) → i < length xs → length (remove xs i) ≤ length xs
removed_long [] i within = absurd (omega (arith, within))
removed_long (x ∷ xs) zero within = omega arith
removed_long (x ∷ xs) (suc i) within = let rest = removed_long xs i (omega (arith, within)) in omega (arith, rest)
