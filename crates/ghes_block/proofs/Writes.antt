-- A block while it is written: its beginning, one entry more, its end.
use Rattle.std.proofs.Common.{◌≡◌, ℕ, ◌+◌, ◌-◌, ◌<◌, ◌≤◌, ◌^◌, Bool, true, false, cond, List, [], ◌∷◌, ◌++◌, length, take, drop, get_or, refl, sym, ap, subst, ◌∙◌, arith, length-append, append_assoc}
use Rattle.std.specs.Prelude.{◌==◌}
use Rattle.std.proofs.lemmas.Bool.{ne_eqb, cond-false}
use Rattle.std.proofs.lemmas.List.{length-take, drop-drop, append-nil}
use Rattle.std.proofs.lemmas.List.Elements.{All-nil, All-push}
use Rattle.base_model.specs.Bytes.{part, spelled, joined, SameOutside}
use Rattle.base_model.proofs.BytesLemmas.{part-append, part-part, part-before, part-after}
use Rattle.apei_bytes.specs.Writing.{Wrote}
use Rattle.apei_bytes.proofs.Parts.{parts, parts-joined, number_of, part-take}
use Rattle.apei_bytes.proofs.Puts.{wrote_there, wrote_others, wrote_then}
use Rattle.ghes_block.specs.declared.entry.EntryHead.{EntryHead}
use Rattle.ghes_block.specs.Grammar.{EntryValue, is_stamped, entry_front, entry_bytes, entries_bytes, RawIs, IsEntry}
use Rattle.ghes_block.proofs.Terms.{block_head}
use Rattle.ghes_block.specs.Writer.{entry_length, offset_for, Writing, IsWritten}
use Rattle.ghes_block.proofs.EntryLaws.{stamp_bytes}
use Rattle.ghes_block.proofs.Blocks.{length-head, head_sizes, head_sized}

-- the head, the timestamp and the data of an entry
pub wrote_entry : (a b c d : List ℕ) (at m n end : ℕ) (head : EntryHead) (body : List ℕ) → Wrote a b at m (joined (entry_front head (length body))) →
    Wrote b c m n (stamp_bytes (is_stamped head.revision) head.stamp) → Wrote c d n end body
    → Wrote a d at end (entry_bytes (record { head = head; body = body }))
unfolding entry_bytes
wrote_entry a b c d at m n end head body x y z =
    wrote_then a c d at n end (joined (entry_front head (length body)) ++ stamp_bytes (is_stamped head.revision) head.stamp) body
    (wrote_then a b c at m n (joined (entry_front head (length body))) (stamp_bytes (is_stamped head.revision) head.stamp) x y) z

entries_bytes-push : (given : List EntryValue) (entry : EntryValue) → entries_bytes (given ++ entry ∷ []) ≡ entries_bytes given ++ entry_bytes entry
unfolding entries_bytes
entries_bytes-push [] entry = append-nil (entry_bytes entry)
entries_bytes-push (first ∷ given) entry =
    ap (λ (xs : List ℕ). entry_bytes first ++ xs) (entries_bytes-push given entry) ∙ sym (append_assoc (entry_bytes first) (entries_bytes given) (entry_bytes entry))

nothing : (bytes : List ℕ) (at : ℕ) → part bytes at 0 ≡ []
unfolding part
nothing bytes at = refl

pub begins : (before : List ℕ) → 20 ≤ length before → Writing before before [] 20
unfolding entries_bytes
begins before h = record { all = All-nil IsEntry; content_is = nothing before 20; end_is = refl; room = h; after = refl }

pub goes_on : (before a b : List ℕ) (given : List EntryValue) (end next : ℕ) (entry : EntryValue) → Writing before a given end → IsEntry entry →
    Wrote a b end next (entry_bytes entry) → Writing before b (given ++ entry ∷ []) next
goes_on before a b given end next entry w is put =
    let others = wrote_others a b end next (entry_bytes entry) put in
    let there = wrote_there a b end next (entry_bytes entry) put in
    let n = length (entries_bytes given) in
    let m = length (entry_bytes entry) in
    let size = length-append (entries_bytes given) (entry_bytes entry) in
    let pushed = entries_bytes-push given entry in
    let all : length (entries_bytes (given ++ entry ∷ [])) ≡ n + m = ap length pushed ∙ size in
    let end_is = w.end_is in
    let next_is = put.end_is in
    let fits = put.fits in
    let same = others.same_length in
    record {
      all = All-push IsEntry given entry w.all is;
      content_is =
          ap (part b 20) all
          ∙ sym (part-append b 20 n m)
          ∙ ap (λ (xs : List ℕ). xs ++ part b (20 + n) m) (part-before end m 20 n a b others (omega arith) ∙ w.content_is)
          ∙ ap (λ (k : ℕ). entries_bytes given ++ part b k m) (sym end_is)
          ∙ ap (λ (xs : List ℕ). entries_bytes given ++ xs) there
          ∙ sym pushed;
      end_is = omega arith;
      room = omega arith;
      after =
          ap (λ (k : ℕ). drop k b) next_is
          ∙ others.after
          ∙ sym (drop-drop m end a)
          ∙ ap (drop m) w.after
          ∙ drop-drop m end before
          ∙ ap (λ (k : ℕ). drop k before) (sym next_is);
    }

raw_put : (bytes raw : List ℕ) (end data_len : ℕ) → end ≡ 20 + data_len → length bytes ≡ end + length raw → part bytes end (length raw) ≡ raw → RawIs bytes raw (offset_for (length raw) end) data_len
raw_put bytes [] end data_len e size there = omega arith
raw_put bytes (byte ∷ raw) end data_len e size there =
    let some : (length (byte ∷ raw) == 0) ≡ false = ne_eqb (length (byte ∷ raw)) 0 (λ (z : length (byte ∷ raw) ≡ 0). omega arith) in
    let offset : offset_for (length (byte ∷ raw)) end ≡ end = cond-false (length (byte ∷ raw) == 0) 0 end some in
    (omega arith, size ∙ ap (λ (n : ℕ). n + length (byte ∷ raw)) (sym offset), sym there ∙ ap (λ (n : ℕ). part bytes n (length (byte ∷ raw))) (sym offset))

small_either : (b : Bool) (end : ℕ) → end < 2 ^ 32 → cond b 0 end < 2 ^ 32
small_either true end h = omega arith
small_either false end h = h

offset_small : (raw_length end : ℕ) → end < 2 ^ 32 → offset_for raw_length end < 2 ^ 32
offset_small raw_length end h = small_either (raw_length == 0) end h

front_is : (bytes : List ℕ) (n : ℕ) → take n bytes ≡ part bytes 0 n
unfolding part
front_is bytes n = refl

later : (xs ys : List ℕ) (n : ℕ) → drop (0 + 20) xs ≡ drop (0 + 20) ys → 20 ≤ n → drop n xs ≡ drop n ys
later xs ys n e h =
    let split : 0 + 20 + (n - 20) ≡ n = omega arith in
    ap (λ (k : ℕ). drop k xs) (sym split)
    ∙ sym (drop-drop (n - 20) (0 + 20) xs)
    ∙ ap (drop (n - 20)) e
    ∙ drop-drop (n - 20) (0 + 20) ys
    ∙ ap (λ (k : ℕ). drop k ys) split

-- the block is whole
pub ends : (before a b c : List ℕ) (given : List EntryValue) (end size status severity : ℕ) (raw : List ℕ) → Writing before a given end → 0 < status →
    status < 2 ^ 32 → severity < 2 ^ 32 → end + length raw < 2 ^ 32 → size ≡ end + length raw
    → Wrote a b 0 20 (joined (block_head status (offset_for (length raw) end) (length raw) (end - 20) severity)) → Wrote b c end (end + length raw) raw
    → IsWritten (record { status = status; severity = severity; entries = given; raw = raw; size = size }) end before c
ends before a b c given end size status severity raw w published small_status small_severity short size_is head put =
    let n = length (entries_bytes given) in
    let r = length raw in
    let fields = block_head status (offset_for r end) r (end - 20) severity in
    let long = length-head status (offset_for r end) r (end - 20) severity in
    let end_is = w.end_is in
    let data_is : end - 20 ≡ n = omega arith in
    let ab = subst (λ (k : ℕ). SameOutside 0 k a b) long (wrote_others a b 0 20 (joined fields) head) in
    let bc = wrote_others b c end (end + r) raw put in
    let same_ab = ab.same_length in
    let same_bc = bc.same_length in
    let fits = put.fits in
    let head_is : part c 0 20 ≡ joined fields = part-before end r 0 20 b c bc (omega arith) ∙ ap (part b 0) (sym long) ∙ wrote_there a b 0 20 (joined fields) head in
    let content_is : part c 20 n ≡ entries_bytes given = part-before end r 20 n b c bc (omega arith) ∙ part-after 0 20 20 n a b ab (omega arith) ∙ w.content_is in
    let raw_is : part c end r ≡ raw = wrote_there b c end (end + r) raw put in
    let taken : length (take size c) ≡ size = length-take size c ∙ omega arith in
    let whole : take size c ≡ joined fields ++ entries_bytes given ++ raw =
    front_is c size ∙ ap (part c 0) (omega arith)
    ∙ sym (part-append c 0 (20 + n) r)
    ∙ ap (λ (xs : List ℕ). xs ++ part c (0 + (20 + n)) r) (sym (part-append c 0 20 n))
    ∙ ap (λ (xs : List ℕ). xs ++ part c (0 + 20) n ++ part c (0 + (20 + n)) r) head_is
    ∙ ap (λ (k : ℕ). joined fields ++ part c k n ++ part c (0 + (20 + n)) r) (omega arith)
    ∙ ap (λ (xs : List ℕ). joined fields ++ xs ++ part c (0 + (20 + n)) r) content_is
    ∙ ap (λ (k : ℕ). joined fields ++ entries_bytes given ++ part c k r) (omega arith)
    ∙ ap (λ (xs : List ℕ). joined fields ++ entries_bytes given ++ xs) raw_is in
    record {
      is_block = record {
        published = published;
        status = small_status;
        severity = small_severity;
        entries = w.all;
        data_short = omega arith;
        raw = omega arith;
        size = sym taken;
        spelling = (
          offset_for r end,
          raw,
          offset_small r end (omega arith),
          whole ∙ ap (λ (k : ℕ). joined (block_head status (offset_for r end) r k severity) ++ entries_bytes given ++ raw) data_is,
          raw_put (take size c) raw end n (omega arith) (taken ∙ size_is) (part-take c size end r (omega arith) ∙ raw_is),
        );
      };
      raw_offset =
          let offset : parts head_sizes 0 (joined fields ++ []) ≡ fields = parts-joined head_sizes fields [] (head_sized status (offset_for r end) r (end - 20) severity) in
          let there : part c 4 4 ≡ spelled 4 (offset_for r end) =
          sym (part-part c 0 20 4 4 (omega arith)) ∙ ap (λ (xs : List ℕ). part xs 4 4) (head_is ∙ sym (append-nil (joined fields))) ∙ ap (λ (xss : List (List ℕ)). get_or xss 1 []) offset in
          number_of c 4 4 (offset_for r end) there (offset_small r end (omega arith));
      after =
          ap (λ (k : ℕ). drop k c) size_is
          ∙ bc.after
          ∙ sym (drop-drop r end b)
          ∙ ap (drop r) (later b a end ab.after (omega arith) ∙ w.after)
          ∙ drop-drop r end before
          ∙ ap (λ (k : ℕ). drop k before) (sym size_is);
    }

pub short_body : (head : EntryHead) (end len : ℕ) → end + entry_length head len < 2 ^ 32 → len < 2 ^ 32
short_body head end len h = omega arith
