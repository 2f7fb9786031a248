-- Walks over items that stand one after another.
use Rattle.std.proofs.Common.{◌≡◌, ℕ, zero, suc, ◌+◌, ◌<◌, ◌≤◌, inl, inr, true, false, Bool, List, [], ◌∷◌, ◌++◌, length, take, drop, Result, Ok, Err, refl}
use Rattle.std.proofs.Common.{sym, ap, subst, ◌∙◌, arith, length-append, length-drop}
use Rattle.std.proofs.lemmas.Bool.{cases_Bool, cond-true, cond-false}
use Rattle.std.proofs.lemmas.List.{nil_from_length, take-append-drop, drop_at, length-take}
use Rattle.base_model.specs.Bytes.{AreBytes}
use Rattle.base_model.proofs.BytesLemmas.{AreBytes-drop}
use Rattle.apei_bytes.specs.Walk.{Walk, items_in, item_count, AreItems}

-- a walk gets on: where nothing is left it ends, and an item has bytes, which are there
pub record GetsOn {X E : Type 0} (walk : Walk X E) : Type 0 where
  pub empty : walk.ends [] ≡ true
  pub within : (index at n : ℕ) (rest : List ℕ) → walk.size index at rest ≡ Ok n → (0 < n) × (n ≤ length rest)

-- what it reads are items of this kind, which are read again where they stand
pub record IsFaithful {X E : Type 0} (walk : Walk X E) (Is : ℕ → X → List ℕ → Type 0) (Rest : List ℕ → Type 0) : Type 0 where
  pub reads : (index at n : ℕ) (rest : List ℕ) → AreBytes rest → walk.size index at rest ≡ Ok n → Is at (walk.item at rest n) (take n rest)
  pub ends : (rest : List ℕ) → walk.ends rest ≡ true → Rest rest
  pub size_again : (index at : ℕ) (item : X) (front rest : List ℕ) → Is at item front → walk.size index at (front ++ rest) ≡ Ok (length front)
  pub item_again : (at : ℕ) (item : X) (front rest : List ℕ) → Is at item front → walk.item at (front ++ rest) (length front) ≡ item
  pub goes_on : (at : ℕ) (item : X) (front rest : List ℕ) → Is at item front → walk.ends (front ++ rest) ≡ false
  pub ends_again : (rest : List ℕ) → Rest rest → walk.ends rest ≡ true

-- at the end
pub count_done : {X E : Type 0} (walk : Walk X E) (most index at : ℕ) (rest : List ℕ) → walk.ends rest ≡ true → item_count walk most index at rest ≡ Ok index
unfolding item_count
count_done walk zero index at rest h = refl
count_done walk (suc most) index at rest h = cond-true (walk.ends rest) (Ok index) _ h

pub items_done : {X E : Type 0} (walk : Walk X E) (most index at : ℕ) (rest : List ℕ) → walk.ends rest ≡ true → items_in walk most index at rest ≡ []
unfolding items_in
items_done walk zero index at rest h = refl
items_done walk (suc most) index at rest h = cond-true (walk.ends rest) [] _ h

-- what doesn't end has bytes
some_left : {X E : Type 0} (walk : Walk X E) (rest : List ℕ) → GetsOn walk → walk.ends rest ≡ false → 0 < length rest
some_left walk [] g h = let clash : ◌≡◌ {A = Bool} true false = sym g.empty ∙ h in absurd (cc)
some_left walk (byte ∷ rest) g h = omega arith

-- by the length of the item that stands first
abbrev count_by_length : {X E : Type 0} → Walk X E → ℕ → ℕ → ℕ → List ℕ → Result ℕ E → Result ℕ E
count_by_length walk most index at rest (Ok len) = item_count walk most (index + 1) (at + len) (drop len rest)
count_by_length walk most index at rest (Err error) = Err error

abbrev items_by_length : {X E : Type 0} → Walk X E → ℕ → ℕ → ℕ → List ℕ → Result ℕ E → List X
items_by_length walk most index at rest (Ok len) = walk.item at rest len ∷ items_in walk most (index + 1) (at + len) (drop len rest)
items_by_length walk most index at rest (Err error) = []

-- at a fault
fault_now : {X E : Type 0} (walk : Walk X E) (most index at : ℕ) (rest : List ℕ) (error : E) → walk.ends rest ≡ false → walk.size index at rest ≡ Err error →
    item_count walk (suc most) index at rest ≡ Err error
unfolding item_count
fault_now walk most index at rest error h e =
    cond-false (walk.ends rest) (Ok index) _ h ∙ ap (count_by_length walk most index at rest) e

items_fault_now : {X E : Type 0} (walk : Walk X E) (most index at : ℕ) (rest : List ℕ) (error : E) → walk.ends rest ≡ false → walk.size index at rest
    ≡ Err error → items_in walk (suc most) index at rest ≡ []
unfolding items_in
items_fault_now walk most index at rest error h e =
    cond-false (walk.ends rest) [] _ h ∙ ap (items_by_length walk most index at rest) e

pub count_fault : {X E : Type 0} (walk : Walk X E) (most index at : ℕ) (rest : List ℕ) (error : E) → GetsOn walk → walk.ends rest ≡ false → length rest ≤ most → walk.size index at rest ≡ Err error
    → item_count walk most index at rest ≡ Err error
count_fault walk zero index at rest error g h k e = let some = some_left walk rest g h in absurd (omega arith)
count_fault walk (suc most) index at rest error g h k e = fault_now walk most index at rest error h e

-- at an item
on_now : {X E : Type 0} (walk : Walk X E) (most index at n : ℕ) (rest : List ℕ) → walk.ends rest ≡ false → walk.size index at rest ≡ Ok n
    → item_count walk (suc most) index at rest ≡ item_count walk most (index + 1) (at + n) (drop n rest)
unfolding item_count
on_now walk most index at n rest h e =
    cond-false (walk.ends rest) (Ok index) _ h ∙ ap (count_by_length walk most index at rest) e

items_on_now : {X E : Type 0} (walk : Walk X E) (most index at n : ℕ) (rest : List ℕ) → walk.ends rest ≡ false → walk.size index at rest ≡ Ok n
    → items_in walk (suc most) index at rest ≡ walk.item at rest n ∷ items_in walk most (index + 1) (at + n) (drop n rest)
unfolding items_in
items_on_now walk most index at n rest h e =
    cond-false (walk.ends rest) [] _ h ∙ ap (items_by_length walk most index at rest) e

-- the length of an item, or the fault
data Length {E : Type 0} (r : Result ℕ E) : Type 0 where
  of : (n : ℕ) → r ≡ Ok n → Length r
  fault : (e : E) → r ≡ Err e → Length r

length_of : {E : Type 0} (r : Result ℕ E) → Length r
length_of (Ok n) = of n refl
length_of (Err e) = fault e refl

-- more steps than there are bytes change nothing
record Enough {X E : Type 0} (walk : Walk X E) (most more index at : ℕ) (rest : List ℕ) : Type 0 where
  pub count : item_count walk most index at rest ≡ item_count walk more index at rest
  pub items : items_in walk most index at rest ≡ items_in walk more index at rest

enough_done : {X E : Type 0} (walk : Walk X E) (most more index at : ℕ) (rest : List ℕ) → walk.ends rest ≡ true → Enough walk most more index at rest
enough_done walk most more index at rest h = record {
  count = count_done walk most index at rest h ∙ sym (count_done walk more index at rest h);
  items = items_done walk most index at rest h ∙ sym (items_done walk more index at rest h);
}

enough_by : {X E : Type 0} (walk : Walk X E) (most more index at : ℕ) (rest : List ℕ) → walk.ends rest ≡ false
    → ((n : ℕ) → walk.size index at rest ≡ Ok n → Enough walk most more (index + 1) (at + n) (drop n rest))
    → Length (walk.size index at rest) → Enough walk (suc most) (suc more) index at rest
enough_by walk most more index at rest h next (of n e) = let x = next n e in record {
  count = on_now walk most index at n rest h e ∙ x.count ∙ sym (on_now walk more index at n rest h e);
  items = items_on_now walk most index at n rest h e ∙ ap (λ items. walk.item at rest n ∷ items) x.items ∙ sym (items_on_now walk more index at n rest h e);
}
enough_by walk most more index at rest h next (fault f e) = record {
  count = fault_now walk most index at rest f h e ∙ sym (fault_now walk more index at rest f h e);
  items = items_fault_now walk most index at rest f h e ∙ sym (items_fault_now walk more index at rest f h e);
}

nothing_left : {X E : Type 0} (walk : Walk X E) (rest : List ℕ) → GetsOn walk → length rest ≡ 0 → walk.ends rest ≡ true
nothing_left walk rest g h = ap walk.ends (nil_from_length rest h) ∙ g.empty

enough : {X E : Type 0} (walk : Walk X E) (most more index at : ℕ) (rest : List ℕ) → GetsOn walk → length rest ≤ most → length rest ≤ more → Enough walk most more index at rest
enough walk zero more index at rest g h k = enough_done walk zero more index at rest (nothing_left walk rest g (omega arith))
enough walk (suc most) zero index at rest g h k = enough_done walk (suc most) zero index at rest (nothing_left walk rest g (omega arith))
enough walk (suc most) (suc more) index at rest g h k = elim (cases_Bool (walk.ends rest)) [
  | inl done ↦ enough_done walk (suc most) (suc more) index at rest done
  | inr some ↦
      enough_by walk most more index at rest some
      (λ n e.
      let w = g.within index at n rest e in
      let low = w.0 in
      let less = length-drop n rest in
      enough walk most more (index + 1) (at + n) (drop n rest) g (omega arith) (omega arith))
      (length_of (walk.size index at rest))
]

pub count_on : {X E : Type 0} (walk : Walk X E) (most index at n : ℕ) (rest : List ℕ) → GetsOn walk → walk.ends rest ≡ false → length rest ≤ most → walk.size index at rest ≡ Ok n
    → item_count walk most index at rest ≡ item_count walk most (index + 1) (at + n) (drop n rest)
count_on walk zero index at n rest g h k e = let some = some_left walk rest g h in absurd (omega arith)
count_on walk (suc most) index at n rest g h k e =
    let w = g.within index at n rest e in
    let low = w.0 in
    let less = length-drop n rest in
    on_now walk most index at n rest h e ∙ (enough walk most (suc most) (index + 1) (at + n) (drop n rest) g (omega arith) (omega arith)).count

pub items_on : {X E : Type 0} (walk : Walk X E) (most index at n : ℕ) (rest : List ℕ) → GetsOn walk → walk.ends rest ≡ false → length rest ≤ most → walk.size index at rest ≡ Ok n
    → items_in walk most index at rest ≡ walk.item at rest n ∷ items_in walk most (index + 1) (at + n) (drop n rest)
items_on walk zero index at n rest g h k e = let some = some_left walk rest g h in absurd (omega arith)
items_on walk (suc most) index at n rest g h k e =
    let w = g.within index at n rest e in
    let low = w.0 in
    let less = length-drop n rest in
    items_on_now walk most index at n rest h e ∙ ap (λ items. walk.item at rest n ∷ items) (enough walk most (suc most) (index + 1) (at + n) (drop n rest) g (omega arith) (omega arith)).items

-- what was counted stands there
pub record Counts {X : Type 0} (Is : ℕ → X → List ℕ → Type 0) (Rest : List ℕ → Type 0) (index n at : ℕ) (rest : List ℕ) (items : List X) : Type 0 where
  pub count : n ≡ index + length items
  pub are_items : AreItems Is Rest at items rest

same_count : {E : Type 0} (m n : ℕ) → ◌≡◌ {A = Result ℕ E} (Ok m) (Ok n) → n ≡ m
same_count m n e = cc

no_fault : {E : Type 0} (e : E) (n : ℕ) → ◌≡◌ {A = Result ℕ E} (Err e) (Ok n) → ⊥
no_fault e n h = cc

counts_none : {X E : Type 0} (walk : Walk X E) (Is : ℕ → X → List ℕ → Type 0) (Rest : List ℕ → Type 0) (most index at n : ℕ) (rest : List ℕ) → IsFaithful walk Is Rest
    → walk.ends rest ≡ true → item_count walk most index at rest ≡ Ok n → Counts Is Rest index n at rest (items_in walk most index at rest)
counts_none walk Is Rest most index at n rest f h e =
    let same = same_count index n (sym (count_done walk most index at rest h) ∙ e) in
    subst (Counts Is Rest index n at rest) (sym (items_done walk most index at rest h)) (record { count = omega arith; are_items = f.ends rest h })

counts_by : {X E : Type 0} (walk : Walk X E) (Is : ℕ → X → List ℕ → Type 0) (Rest : List ℕ → Type 0) (most index at n : ℕ) (rest : List ℕ) → GetsOn walk → IsFaithful walk Is Rest → AreBytes rest
    → walk.ends rest ≡ false → item_count walk (suc most) index at rest ≡ Ok n
    → ((m : ℕ) → walk.size index at rest ≡ Ok m → item_count walk most (index + 1) (at + m) (drop m rest) ≡ Ok n → Counts Is Rest (index + 1) n (at + m)
    (drop m rest) (items_in walk most (index + 1) (at + m) (drop m rest)))
    → Length (walk.size index at rest) → Counts Is Rest index n at rest (items_in walk (suc most) index at rest)
counts_by walk Is Rest most index at n rest g f each h e next (of m here) =
    let within = g.within index at m rest here in
    let fits = within.1 in
    let others = next m here (sym (on_now walk most index at m rest h here) ∙ e) in
    let count = others.count in
    let size : length (take m rest) ≡ m = length-take m rest ∙ omega arith in
    subst (Counts Is Rest index n at rest) (sym (items_on_now walk most index at m rest h here))
    (record {
      count = omega arith;
      are_items = (
        take m rest,
        drop m rest,
        sym (take-append-drop m rest),
        f.reads index at m rest each here,
        subst (λ (k : ℕ). AreItems Is Rest (at + k) (items_in walk most (index + 1) (at + m) (drop m rest)) (drop m rest)) (sym size) others.are_items,
      );
    })
counts_by walk Is Rest most index at n rest g f each h e next (fault error here) =
    absurd (no_fault error n (sym (fault_now walk most index at rest error h here) ∙ e))

pub counts : {X E : Type 0} (walk : Walk X E) (Is : ℕ → X → List ℕ → Type 0) (Rest : List ℕ → Type 0) (most index at n : ℕ) (rest : List ℕ) → GetsOn walk → IsFaithful walk Is Rest
    → AreBytes rest → length rest ≤ most → item_count walk most index at rest ≡ Ok n → Counts Is Rest index n at rest (items_in walk most index at rest)
counts walk Is Rest zero index at n rest g f each k e = counts_none walk Is Rest zero index at n rest f (nothing_left walk rest g (omega arith)) e
counts walk Is Rest (suc most) index at n rest g f each k e = elim (cases_Bool (walk.ends rest)) [
  | inl done ↦ counts_none walk Is Rest (suc most) index at n rest f done e
  | inr some ↦
      counts_by walk Is Rest most index at n rest g f each some e
      (λ m here on.
      let within = g.within index at m rest here in
      let low = within.0 in
      let less = length-drop m rest in
      counts walk Is Rest most (index + 1) (at + m) n (drop m rest) g f (AreBytes-drop m rest each) (omega arith) on)
      (length_of (walk.size index at rest))
]

-- and what stands there is counted and read again
pub record CountsAgain {X E : Type 0} (walk : Walk X E) (most index at : ℕ) (rest : List ℕ) (items : List X) : Type 0 where
  pub count : item_count walk most index at rest ≡ Ok (index + length items)
  pub read : items_in walk most index at rest ≡ items

pub counts_again : {X E : Type 0} (walk : Walk X E) (Is : ℕ → X → List ℕ → Type 0) (Rest : List ℕ → Type 0) (items : List X) (most index at : ℕ)
    (bytes : List ℕ) → GetsOn walk → IsFaithful walk Is Rest
    → AreItems Is Rest at items bytes → length bytes ≤ most → CountsAgain walk most index at bytes items
counts_again {X} {E} walk Is Rest [] most index at bytes g f are k =
    let done = f.ends_again bytes are in
    record { count = count_done walk most index at bytes done ∙ ap (λ (n : ℕ). Ok n) (omega arith); read = items_done walk most index at bytes done }
counts_again {X} {E} walk Is Rest (item ∷ items) most index at bytes g f are k =
    let front = are.0 in
    let rest = are.1 in
    let split = are.2 in
    let some : walk.ends bytes ≡ false = ap walk.ends split ∙ f.goes_on at item front rest are.3 in
    let here : walk.size index at bytes ≡ Ok (length front) = ap (walk.size index at) split ∙ f.size_again index at item front rest are.3 in
    let behind : drop (length front) bytes ≡ rest = ap (drop (length front)) split ∙ drop_at front rest (length front) refl in
    let size : length bytes ≡ length front + length rest = ap length split ∙ length-append front rest in
    let others = counts_again walk Is Rest items most (index + 1) (at + length front) rest g f are.4 (omega arith) in
    record {
      count =
          count_on walk most index at (length front) bytes g some k here
          ∙ ap (item_count walk most (index + 1) (at + length front)) behind
          ∙ others.count
          ∙ ap (λ (n : ℕ). Ok n) (omega arith);
      read =
          items_on walk most index at (length front) bytes g some k here
          ∙ ap (λ (xs : List ℕ). walk.item at bytes (length front) ∷ items_in walk most (index + 1) (at + length front) xs) behind
          ∙ ap (λ (x : X). x ∷ items_in walk most (index + 1) (at + length front) rest) (ap (λ (xs : List ℕ). walk.item at xs (length front)) split ∙ f.item_again at item front rest are.3)
          ∙ ap (λ (xs : List X). item ∷ xs) others.read;
    }
