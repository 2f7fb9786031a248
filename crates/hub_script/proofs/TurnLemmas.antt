-- Where turns break off.
use Rattle.std.proofs.Common.{◌≡◌, ◌∙◌, ℕ, ◌+◌, ◌/◌, ◌%◌, ◌<◌, ◌≤◌, ◌⊎◌, inl, inr, ◌==◌, Bool, true, false, cond, List, [], ◌∷◌, ◌++◌, length, take, get_or, sym, ap, subst, arith, append_assoc}
use Rattle.std.specs.Prelude.{IsTrue, ◌||◌, ◌&&◌, nat_lt, not}
use Rattle.std.proofs.lemmas.Bool.{cases_lt}
use Rattle.std.proofs.lemmas.Bool.Decides.{nat_tests}
use Rattle.std.proofs.lemmas.List.{length-take-le, length-append, get_or-take, get_or_append_left, get_or_at}
use Rattle.script_lines.specs.Columns.{Begins, Breaks}
use Rattle.hub_script.specs.Turns.{may_stand, AreTurns}

abbrev is_source : ℕ → Bool
is_source c = (not (nat_lt c 48) && nat_lt c 58) || (not (nat_lt c 97) && nat_lt c 103)

abbrev is_side : ℕ → Bool
is_side c = c == 70 || c == 82

-- bytes that may stand where they stand
abbrev pub AreGood : List ℕ → ℕ → Type 0
AreGood text n = (i : ℕ) → i < n → IsTrue (may_stand i (get_or text i 0))

pub good_more : (text : List ℕ) (n : ℕ) → AreGood text n → IsTrue (may_stand n (get_or text n 0)) → AreGood text (n + 1)
good_more text n good here i within = elim (cases_lt i n) [
  | inl before ↦ good i before
  | inr at ↦ let e : n ≡ i = omega (arith, at, within) in subst (λ (k : ℕ). IsTrue (may_stand k (get_or text k 0))) e here
]

-- a beginning, and what stands behind it
front : (text rest : List ℕ) (k i : ℕ) → k ≤ length text → i < k → get_or (take k text ++ rest) i 0 ≡ get_or text i 0
front text rest k i within before =
    let l = length-take-le k text within in
    get_or_append_left (take k text) rest 0 i (omega (arith, l, before)) ∙ get_or-take k text i 0 before

-- where a byte may not stand no turns go on
stops : (text : List ℕ) (i k : ℕ) → may_stand i (get_or text i 0) ≡ false → i < k → k ≤ length text → Begins AreTurns (take k text) → ⊥
stops text i k other before within (rest, are) =
    let l = length-take-le k text within in
    let n = length-append (take k text) rest in
    let is : IsTrue (may_stand i (get_or (take k text ++ rest) i 0)) = are.each i (omega (arith, l, n, before)) in
    let here : may_stand i (get_or text i 0) ≡ true = ap (may_stand i) (sym (front text rest k i within before)) ∙ is in
    let e : true ≡ false = sym here ∙ other in
    cc

stand_even : (i c : ℕ) → i % 2 ≡ 0 → may_stand i c ≡ is_source c
stand_even i c even = let e : (i % 2 == 0) ≡ true = grind (arith, nat_tests) in ap (λ (b : Bool). cond b (is_source c) (is_side c)) e

stand_odd : (i c : ℕ) → i % 2 ≡ 1 → may_stand i c ≡ is_side c
stand_odd i c odd = let e : (i % 2 == 0) ≡ false = grind (arith, nat_tests) in ap (λ (b : Bool). cond b (is_source c) (is_side c)) e

-- an odd number of bytes goes on with a side
begins_odd : (text : List ℕ) (i : ℕ) → i ≤ length text → i < 4096 → i % 2 ≡ 1 → AreGood text i → Begins AreTurns (take i text)
begins_odd text i within room odd good =
    let l = length-take-le i text within in
    let n = length-append (take i text) (70 ∷ []) in (
      70 ∷ [],
      record {
        each = λ j w. elim (cases_lt j i) [
          | inl before ↦ subst (λ (c : ℕ). IsTrue (may_stand j c)) (sym (front text (70 ∷ []) i j within before)) (good j before)
          | inr at ↦
              let e : j ≡ i = omega (arith, l, n, w, at) in
              subst (λ (k : ℕ). IsTrue (may_stand k (get_or (take i text ++ 70 ∷ []) k 0))) (sym e)
              (subst (λ (c : ℕ). IsTrue (may_stand i c)) (sym (get_or_at (take i text) 70 [] 0 i l)) (stand_odd i 70 odd))
        ];
        even = ((i + 1) / 2, omega (arith, l, n, odd));
        some = omega (arith, n);
        most = omega (arith, l, n, room);
      },
    )

-- an even number of bytes goes on with a source and a side
begins_even : (text : List ℕ) (i : ℕ) → i ≤ length text → i < 4096 → i % 2 ≡ 0 → AreGood text i → Begins AreTurns (take i text)
begins_even text i within room even good =
    let l = length-take-le i text within in
    let n = length-append (take i text) (48 ∷ 70 ∷ []) in
    let m = length-append (take i text) (48 ∷ []) in
    let apart : take i text ++ 48 ∷ 70 ∷ [] ≡ (take i text ++ 48 ∷ []) ++ 70 ∷ [] = sym (append_assoc (take i text) (48 ∷ []) (70 ∷ [])) in (
      48 ∷ 70 ∷ [],
      record {
        each = λ j w. elim (cases_lt j i) [
          | inl before ↦ subst (λ (c : ℕ). IsTrue (may_stand j c)) (sym (front text (48 ∷ 70 ∷ []) i j within before)) (good j before)
          | inr at ↦ elim (cases_lt i j) [
            | inl behind ↦
                let e : j ≡ i + 1 = omega (arith, l, n, w, behind) in
                let c : get_or (take i text ++ 48 ∷ 70 ∷ []) (i + 1) 0 ≡ 70 = ap (λ (xs : List ℕ). get_or xs (i + 1) 0) apart ∙ get_or_at
                (take i text ++ 48 ∷ []) 70 [] 0 (i + 1) (omega (arith, l, m)) in
                subst (λ (k : ℕ). IsTrue (may_stand k (get_or (take i text ++ 48 ∷ 70 ∷ []) k 0))) (sym e)
                (subst (λ (x : ℕ). IsTrue (may_stand (i + 1) x)) (sym c) (stand_odd (i + 1) 70 (omega (arith, even))))
            | inr same ↦
                let e : j ≡ i = omega (arith, at, same) in
                subst (λ (k : ℕ). IsTrue (may_stand k (get_or (take i text ++ 48 ∷ 70 ∷ []) k 0))) (sym e)
                (subst (λ (x : ℕ). IsTrue (may_stand i x)) (sym (get_or_at (take i text) 48 (70 ∷ []) 0 i l)) (stand_even i 48 even))
          ]
        ];
        even = ((i + 2) / 2, omega (arith, l, n, even));
        some = omega (arith, n);
        most = omega (arith, l, n, room, even);
      },
    )

begins_good : (text : List ℕ) (i : ℕ) → i ≤ length text → i < 4096 → AreGood text i → Begins AreTurns (take i text)
begins_good text i within room good = choose (cases_lt 0 (i % 2)) where
  choose : (0 < i % 2) ⊎ (i % 2 ≤ 0) → Begins AreTurns (take i text)
  choose (inl odd) = begins_odd text i within room (omega (arith, odd)) good
  choose (inr even) = begins_even text i within room (omega (arith, even)) good

-- a byte that may not stand there
pub turns_at : (text : List ℕ) (i : ℕ) → i < length text → i < 4096 → AreGood text i → may_stand i (get_or text i 0) ≡ false → Breaks AreTurns text i
turns_at text i within room good other = record {
  outside = λ are. let is : may_stand i (get_or text i 0) ≡ true = are.each i within in let e : true ≡ false = sym is ∙ other in cc;
  within = omega (arith, within);
  begins = begins_good text i (omega (arith, within)) room good;
  longest = λ k far most. stops text i k other far most;
}

-- more than there may be
pub turns_full : (text : List ℕ) → 4096 < length text → AreGood text 4096 → Breaks AreTurns text 4096
turns_full text long good =
    let l = length-take-le 4096 text (omega (arith, long)) in
    let n = length-append (take 4096 text) [] in
    record {
      outside = λ are. let most = are.most in omega (arith, most, long);
      within = omega (arith, long);
      begins = (
        [],
        record {
          each = λ j w.
              let before : j < 4096 = omega (arith, l, n, w) in
              subst (λ (c : ℕ). IsTrue (may_stand j c)) (sym (front text [] 4096 j (omega (arith, long)) before)) (good j before);
          even = (2048, omega (arith, l, n));
          some = omega (arith, l, n);
          most = omega (arith, l, n);
        },
      );
      longest = λ k far within (rest, are).
          let most = are.most in
          let a = length-take-le k text within in
          let b = length-append (take k text) rest in
          omega (arith, most, a, b, far);
    }

-- too few
pub turns_end : (text : List ℕ) → length text ≤ 4096 → AreGood text (length text) → (AreTurns text → ⊥) → length text < 4096 → Breaks AreTurns text (length text)
turns_end text most good outside short = record {
  outside = outside;
  within = omega arith;
  begins = begins_good text (length text) (omega arith) short good;
  longest = λ k far within. absurd (omega (arith, far, within));
}
