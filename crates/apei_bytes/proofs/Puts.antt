-- Puts, one after another.
use Rattle.std.proofs.Common.{◌≡◌, ℕ, ◌+◌, ◌-◌, ◌<◌, ◌≤◌, List, [], ◌∷◌, ◌++◌, length, take, drop, map, refl, sym, ap, subst, ◌∙◌, arith, append_assoc, length-append, add-zero}
use Rattle.std.proofs.lemmas.List.{append-nil, drop-drop, take_at, drop_at, length-take, take-append-drop}
use Rattle.base_model.specs.Bytes.{part, put_at, spelled, joined, SameOutside}
use Rattle.base_model.proofs.BytesLemmas.{length-spelled, length-put_at, length-joined, part-put_at, SameOutside-put_at}
use Rattle.apei_bytes.specs.Writing.{Wrote}
use Rattle.base_model.proofs.Terms.{total}
use borrow.Rule.Slice.PartMut.{put_mid}

-- a write to a range of a slice
pub put_mid-put_at : (at n : ℕ) (old bytes : List ℕ) → n ≡ length bytes → put_mid at n old bytes ≡ put_at old at bytes
unfolding put_at
put_mid-put_at at n old bytes e =
    ap (λ (xs : List ℕ). take at old ++ (bytes ++ xs)) (drop-drop n at old ∙ ap (λ (k : ℕ). drop (at + k) old) e)
    ∙ sym (append_assoc (take at old) bytes (drop (at + length bytes) old))

-- two puts that adjoin
pub put_at-put_at : (old : List ℕ) (at : ℕ) (xs ys : List ℕ) → at + length xs + length ys ≤ length old → put_at (put_at old at xs) (at + length xs) ys ≡ put_at old at (xs ++ ys)
unfolding put_at
put_at-put_at old at xs ys h =
    let front = take at old ++ xs in
    let start : length (take at old) ≡ at = length-take at old ∙ omega arith in
    let size : length front ≡ at + length xs = length-append (take at old) xs ∙ omega arith in
    let a : take (at + length xs) (front ++ drop (at + length xs) old) ≡ front = take_at front (drop (at + length xs) old) (at + length xs) size in
    let b : drop (at + length xs + length ys) (front ++ drop (at + length xs) old) ≡ drop (at + length (xs ++ ys)) old =
    sym (drop-drop (length ys) (at + length xs) (front ++ drop (at + length xs) old))
    ∙ ap (drop (length ys)) (drop_at front (drop (at + length xs) old) (at + length xs) size)
    ∙ drop-drop (length ys) (at + length xs) old
    ∙ ap (λ (k : ℕ). drop k old) (omega (arith, length-append xs ys)) in
    ap (λ (zs : List ℕ). zs ++ ys ++ drop (at + length xs + length ys) (front ++ drop (at + length xs) old)) a
    ∙ ap (λ (zs : List ℕ). front ++ ys ++ zs) b
    ∙ ap (λ (zs : List ℕ). zs ++ drop (at + length (xs ++ ys)) old) (append_assoc (take at old) xs ys)

pub wrote_then : (old mid new : List ℕ) (at m end : ℕ) (xs ys : List ℕ) → Wrote old mid at m xs → Wrote mid new m end ys → Wrote old new at end (xs ++ ys)
wrote_then old mid new at m end xs ys a b =
    let all = length-append xs ys in
    let size : length mid ≡ length old = ap length a.put ∙ length-put_at old at xs a.fits in
    let fits : at + length xs + length ys ≤ length old = let f = b.fits in let e = a.end_is in omega arith in
    record {
      fits = omega arith;
      end_is = let e = b.end_is in let f = a.end_is in omega arith;
      put =
          b.put
          ∙ ap (λ (k : ℕ). put_at mid k ys) a.end_is
          ∙ ap (λ (zs : List ℕ). put_at zs (at + length xs) ys) a.put
          ∙ put_at-put_at old at xs ys fits;
    }

joined-push : (fields : List (List ℕ)) (field : List ℕ) → joined (fields ++ field ∷ []) ≡ joined fields ++ field
joined-push [] field = append-nil field
joined-push (x ∷ fields) field = ap (λ (xs : List ℕ). x ++ xs) (joined-push fields field) ∙ sym (append_assoc x (joined fields) field)

-- one field more
pub wrote_more : (old mid new : List ℕ) (at m end : ℕ) (fields : List (List ℕ)) (field : List ℕ)
    → Wrote old mid at m (joined fields) → Wrote mid new m end field → Wrote old new at end (joined (fields ++ field ∷ []))
wrote_more old mid new at m end fields field a b =
    subst (Wrote old new at end) (sym (joined-push fields field)) (wrote_then old mid new at m end (joined fields) field a b)

put_at-nil : (bytes : List ℕ) (at : ℕ) → put_at bytes at [] ≡ bytes
unfolding put_at
put_at-nil bytes at = ap (λ (k : ℕ). take at bytes ++ [] ++ drop k bytes) (add-zero at) ∙ ap (λ (xs : List ℕ). xs ++ drop at bytes) (append-nil (take at bytes)) ∙ take-append-drop at bytes

pub wrote_none : (old : List ℕ) (at : ℕ) → at ≤ length old → Wrote old old at at (joined [])
wrote_none old at h = record { fits = omega arith; end_is = omega arith; put = sym (put_at-nil old at) }

-- a number that was put
pub wrote_number : (old new : List ℕ) (at n x : ℕ) → at + n ≤ length old → new ≡ put_at old at (spelled n x) → Wrote old new at (at + n) (spelled n x)
wrote_number old new at n x h e =
    let size = length-spelled n x in
    record { fits = omega arith; end_is = omega arith; put = e }

pub spelled-one : (x : ℕ) → x < 256 → spelled 1 x ≡ x ∷ []
unfolding spelled
spelled-one x h = ap (λ (y : ℕ). y ∷ []) (omega arith)

-- bytes that were put by a copy
pub wrote_bytes : (old bytes written : List ℕ) (at : ℕ) → at + length bytes ≤ length old → written ≡ bytes
    → Wrote old (put_mid at (at + length bytes - at) old written) at (at + length bytes) bytes
wrote_bytes old bytes written at h e =
    let size : at + length bytes - at ≡ length bytes = omega arith in
    record {
      fits = h;
      end_is = refl;
      put = ap (put_mid at (at + length bytes - at) old) e ∙ put_mid-put_at at (at + length bytes - at) old bytes size;
    }

-- fields that were put one after another
pub record WroteFields (old new : List ℕ) (at end : ℕ) (fields : List (List ℕ)) : Type 0 where
  pub wrote : Wrote old new at end (joined fields)

pub no_field : (old : List ℕ) (at : ℕ) → at ≤ length old → WroteFields old old at at []
no_field old at h = record { wrote = wrote_none old at h }

-- and one more behind them
pub next_field : {old mid new : List ℕ} {at m end : ℕ} {fields : List (List ℕ)} {field : List ℕ}
    → WroteFields old mid at m fields → Wrote mid new m end field → WroteFields old new at end (fields ++ field ∷ [])
next_field {old} {mid} {new} {at} {m} {end} {fields} {field} a b = record { wrote = wrote_more old mid new at m end fields field a.wrote b }

infixl 5 ◌▸◌
pub ◌▸◌ : {old mid new : List ℕ} {at m end : ℕ} {fields : List (List ℕ)} {field : List ℕ}
    → WroteFields old mid at m fields → Wrote mid new m end field → WroteFields old new at end (fields ++ field ∷ [])
a ▸ b = next_field a b

-- fields and then fields
pub joined-append : (fields others : List (List ℕ)) → joined (fields ++ others) ≡ joined fields ++ joined others
joined-append [] others = refl
joined-append (x ∷ fields) others = ap (λ (xs : List ℕ). x ++ xs) (joined-append fields others) ∙ sym (append_assoc x (joined fields) (joined others))

-- what stands where bytes were put, and that the others are the same
pub wrote_there : (old new : List ℕ) (at end : ℕ) (bytes : List ℕ) → Wrote old new at end bytes → part new at (length bytes) ≡ bytes
wrote_there old new at end bytes w = ap (λ (xs : List ℕ). part xs at (length bytes)) w.put ∙ part-put_at old at bytes w.fits

pub wrote_others : (old new : List ℕ) (at end : ℕ) (bytes : List ℕ) → Wrote old new at end bytes → SameOutside at (length bytes) old new
wrote_others old new at end bytes w = subst (SameOutside at (length bytes) old) (sym w.put) (SameOutside-put_at old at bytes w.fits)

-- bytes with these fields put from a place on, one after another
abbrev pub put_fields : List ℕ → List ℕ → ℕ → List (List ℕ) → List ℕ
put_fields [] bytes at fields = bytes
put_fields (size ∷ sizes) bytes at [] = bytes
put_fields (size ∷ sizes) bytes at (field ∷ fields) = put_fields sizes (put_at bytes at field) (at + size) fields

-- are their joined bytes put at once
pub put_fields-joined : (sizes : List ℕ) (bytes : List ℕ) (at : ℕ) (fields : List (List ℕ)) → map length fields ≡ sizes → at + total sizes ≤ length bytes →
    put_fields sizes bytes at fields ≡ put_at bytes at (joined fields)
put_fields-joined [] bytes at [] same h = sym (put_at-nil bytes at)
put_fields-joined [] bytes at (field ∷ fields) same h = absurd cc
put_fields-joined (size ∷ sizes) bytes at [] same h = absurd cc
put_fields-joined (size ∷ sizes) bytes at (field ∷ fields) same h =
    let size_is : length field ≡ size = cc in
    let sizes_are : map length fields ≡ sizes = cc in
    let rest : length (joined fields) ≡ total sizes = length-joined fields ∙ ap total sizes_are in
    let room : at + size + total sizes ≤ length bytes = omega arith in
    let first : length (put_at bytes at field) ≡ length bytes = length-put_at bytes at field (omega arith) in
    put_fields-joined sizes (put_at bytes at field) (at + size) fields sizes_are (omega arith)
    ∙ ap (λ (n : ℕ). put_at (put_at bytes at field) (at + n) (joined fields)) (sym size_is)
    ∙ put_at-put_at bytes at field (joined fields) (omega arith)
