-- Digits of a block and counts of listeners that are written in pieces.
use Rattle.std.proofs.Common.{◌≡◌, ◌∙◌, ℕ, ◌+◌, ◌-◌, ◌*◌, ◌/◌, ◌%◌, ◌^◌, ◌<◌, ◌≤◌, min, List, [], ◌∷◌, ◌++◌, length, take, drop, map, Option, Some, None, refl, sym, ap, append_assoc, arith}
use Rattle.std.specs.Prelude.{codes, decimal, IfSome, slice_get, slice_index}
use Rattle.std.specs.List.{flat_map}
use Rattle.std.proofs.lemmas.List.{append-nil, map-append, take-append-drop, take_all, length-take}
use Rattle.std.proofs.Math.Seq.{take-add}
use Rattle.hex.specs.Hex.{encode_lower, encode_with, lower_digits}
use Rattle.hub_script.specs.Plays.{listed}
use Rattle.hub_script.specs.Replies.{words_of_heard, reply_line}
use Rattle.script_text.specs.Shown.{AreShown, IsPartWritten}
use Rattle.script_text.proofs.ShownLemmas.{shown_then, shown_more, shown_all, shown_part, heard-more, flat_map-append}
use Rattle.hub_script.proofs.StageLemmas.{listed_is}

encode_nil : (t : List ℕ) → encode_with t [] ≡ []
unfolding encode_with
encode_nil t = refl

encode-append : (t xs ys : List ℕ) → encode_with t (xs ++ ys) ≡ encode_with t xs ++ encode_with t ys
unfolding encode_with
encode-append t [] ys = refl
encode-append t (x ∷ xs) ys = ap (λ (zs : List ℕ). slice_index t (x / 16) ∷ slice_index t (x % 16) ∷ zs) (encode-append t xs ys)

pub no_digits : (reply words : List ℕ) → reply ≡ words → reply ≡ words ++ encode_lower []
no_digits reply words is = is ∙ sym (append-nil words) ∙ ap (λ (xs : List ℕ). words ++ xs) (sym (encode_nil lower_digits))

-- some more digits
pub more_digits : (words block : List ℕ) (at end : ℕ) → at ≤ end → words ++ encode_lower (take end block) ≡ (words ++ encode_lower (take at block)) ++ encode_lower (take (end - at) (drop at block))
more_digits words block at end within =
    let n : end ≡ at + (end - at) = omega (arith, within) in
    ap (λ (xs : List ℕ). words ++ encode_lower xs) (ap (λ (k : ℕ). take k block) n ∙ take-add at (end - at) block)
    ∙ ap (λ (xs : List ℕ). words ++ xs) (encode-append lower_digits (take at block) (take (end - at) (drop at block)))
    ∙ sym (append_assoc words (encode_lower (take at block)) (encode_lower (take (end - at) (drop at block))))

pub digits_short : (block : List ℕ) (at end n m : ℕ) → n ≡ m + 2 * length (take (end - at) (drop at block)) → m ≤ 16384 → end ≡ min (length block) (at + 64) → n ≤ 16512
digits_short block at end n m is room ends = let l = length-take (end - at) (drop at block) in omega (arith, l, is, room, ends)

-- the digits that are still to be written
pub digits_rest : (words block : List ℕ) (at : ℕ) → reply_line (words ++ encode_lower block) ≡ (words ++ encode_lower (take at block)) ++ (encode_lower (drop at block) ++ 10 ∷ [])
digits_rest words block at =
    ap (λ (xs : List ℕ). reply_line (words ++ xs)) (ap encode_lower (sym (take-append-drop at block)) ∙ encode-append lower_digits (take at block) (drop at block))
    ∙ ap reply_line (sym (append_assoc words (encode_lower (take at block)) (encode_lower (drop at block))))
    ∙ append_assoc (words ++ encode_lower (take at block)) (encode_lower (drop at block)) (10 ∷ [])

pub all_digits : (words block : List ℕ) (at : ℕ) → length block ≤ at → reply_line (words ++ encode_lower block) ≡ (words ++ encode_lower (take at block)) ++ 10 ∷ []
all_digits words block at end = ap (λ (xs : List ℕ). reply_line (words ++ encode_lower xs)) (sym (take_all at block end))

-- the counts of the first listeners, and of more
heard_front : {X : Type 0} (f : X → ℕ) (xs : List X) (k n : ℕ) → k ≤ n
    → words_of_heard (map f (take n xs)) ≡ words_of_heard (map f (take k xs)) ++ flat_map (λ (m : ℕ). codes " " ++ decimal m) (map f (take (n - k) (drop k xs)))
heard_front {X} f xs k n within =
    let g : ℕ → List ℕ = λ m. codes " " ++ decimal m in
    let more = take (n - k) (drop k xs) in
    let e : n ≡ k + (n - k) = omega (arith, within) in
    ap (λ (ys : List X). words_of_heard (map f ys)) (ap (λ (j : ℕ). take j xs) e ∙ take-add k (n - k) xs)
    ∙ ap words_of_heard (map-append f (take k xs) more)
    ∙ ap (λ (ys : List ℕ). codes "heard" ++ ys) (flat_map-append g (map f (take k xs)) (map f more))
    ∙ sym (append_assoc (codes "heard") (flat_map g (map f (take k xs))) (flat_map g (map f more)))

-- before the first listener
pub heard_start : {X : Type 0} (f : X → ℕ) (told : Type 0) (o : Option (List X)) (written reply : List ℕ) → reply ≡ codes "heard"
    → IfSome o (λ members. AreShown told written written reply (words_of_heard (map f (take 0 members))))
heard_start f told None written reply is = tt
heard_start f told (Some members) written reply is = record { shown = []; text = λ t. sym (append-nil written); words_are = is }

-- a listener that is counted is there
pub is_listed : {X : Type 0} (o : Option (List X)) (at n : ℕ) → at < n → IfSome o (λ members. n ≡ min (length members) (2 ^ 32 - 1)) → IfSome o (λ members. at < length members)
is_listed None at n within many = tt
is_listed (Some members) at n within many = omega (arith, within, many)

pub heard_step : {X : Type 0} (f : X → ℕ) (told : Type 0) (o : Option (List X)) (written middle now held reply reply_now : List ℕ) (k n count : ℕ)
    → IfSome o (λ members. AreShown told written middle held (words_of_heard (map f (take k members)))) → AreShown told middle now reply held → k < n →
    IfSome o (λ members. n ≡ min (length members) (2 ^ 32 - 1))
    → IfSome o (λ members. IfSome (slice_get members k) (λ b. count ≡ f b)) → reply_now ≡ reply ++ (codes " " ++ decimal count)
    → IfSome o (λ members. AreShown told written now reply_now (words_of_heard (map f (take (k + 1) members))))
heard_step f told None written middle now held reply reply_now k n count so shown few many at is = tt
heard_step f told (Some members) written middle now held reply reply_now k n count so shown few many at is =
    let within : k < length members = omega (arith, few, many) in
    shown_more told written now reply reply_now (words_of_heard (map f (take k members))) (words_of_heard (map f (take (k + 1) members))) (codes " " ++ decimal count)
    (shown_then told written middle now reply held (words_of_heard (map f (take k members))) so shown) is (heard-more f members k count within at)

pub heard_part : {X : Type 0} (f : X → ℕ) (told : Type 0) (o : Option (List X)) (written middle now held : List ℕ) (k n : ℕ)
    → IfSome o (λ members. AreShown told written middle held (words_of_heard (map f (take k members)))) → k ≤ n → IfSome o (λ members. n ≡ min (length members) (2 ^ 32 - 1))
    → (told → IsPartWritten held middle now) → IfSome o (λ members. told → IsPartWritten (reply_line (words_of_heard (map f (listed members)))) written now)
heard_part f told None written middle now held k n so few many part = tt
heard_part {X} f told (Some members) written middle now held k n so few many part =
    let rest = flat_map (λ (m : ℕ). codes " " ++ decimal m) (map f (take (n - k) (drop k members))) in
    shown_part told written middle now held (words_of_heard (map f (take k members))) (rest ++ 10 ∷ []) (reply_line (words_of_heard (map f (listed members)))) so
    (ap (λ (ms : List X). reply_line (words_of_heard (map f ms))) (sym (listed_is members n many)) ∙ ap reply_line (heard_front f members k n few)
    ∙ append_assoc (words_of_heard (map f (take k members))) rest (10 ∷ [])) part

-- all counts, and the end of the line
heard_line : {X : Type 0} (f : X → ℕ) (told : Type 0) (members : List X) (written middle held reply : List ℕ) (k n : ℕ)
    → AreShown told written middle held (words_of_heard (map f (take k members))) → k ≡ n → n ≡ min (length members) (2 ^ 32 - 1) → reply ≡ reply_line held
    → AreShown told written middle reply (reply_line (words_of_heard (map f (listed members))))
heard_line {X} f told members written middle held reply k n so same many is =
    shown_more told written middle held reply (words_of_heard (map f (take k members))) (reply_line (words_of_heard (map f (listed members)))) (10 ∷ []) so is
    (ap (λ (ms : List X). reply_line (words_of_heard (map f ms))) (sym (listed_is members n many) ∙ ap (λ (j : ℕ). take j members) (sym same)))

pub heard_all : {X : Type 0} (f : X → ℕ) (told : Type 0) (o : Option (List X)) (written middle now held reply lent : List ℕ) (k n : ℕ)
    → IfSome o (λ members. AreShown told written middle held (words_of_heard (map f (take k members)))) → k ≡ n →
    IfSome o (λ members. n ≡ min (length members) (2 ^ 32 - 1)) → reply ≡ reply_line held → lent ≡ reply
    → (told → now ≡ middle ++ lent) → IfSome o (λ members. told → now ≡ written ++ reply_line (words_of_heard (map f (listed members))))
heard_all f told None written middle now held reply lent k n so same many is equivalent text = tt
heard_all f told (Some members) written middle now held reply lent k n so same many is equivalent text =
    shown_all told written middle now reply (reply_line (words_of_heard (map f (listed members)))) (heard_line f told members written middle held reply k n so same many is)
    (λ t. text t ∙ ap (λ (xs : List ℕ). middle ++ xs) equivalent)

pub heard_last : {X : Type 0} (f : X → ℕ) (told : Type 0) (o : Option (List X)) (written middle now held reply lent : List ℕ) (k n : ℕ)
    → IfSome o (λ members. AreShown told written middle held (words_of_heard (map f (take k members)))) → k ≡ n →
    IfSome o (λ members. n ≡ min (length members) (2 ^ 32 - 1)) → reply ≡ reply_line held → lent ≡ reply
    → (told → (m : ℕ) × (now ≡ middle ++ take m lent)) → IfSome o (λ members. told → IsPartWritten (reply_line (words_of_heard (map f (listed members)))) written now)
heard_last f told None written middle now held reply lent k n so same many is equivalent text = tt
heard_last f told (Some members) written middle now held reply lent k n so same many is equivalent text =
    shown_part told written middle now reply (reply_line (words_of_heard (map f (listed members)))) [] (reply_line (words_of_heard (map f (listed members))))
    (heard_line f told members written middle held reply k n so same many is) (sym (append-nil (reply_line (words_of_heard (map f (listed members))))))
    (λ t. let part = text t in (part.0, part.1 ∙ ap (λ (xs : List ℕ). middle ++ take part.0 xs) equivalent))
