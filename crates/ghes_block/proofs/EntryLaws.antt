-- One entry: what is read of it is spelled so, and what is spelled so is read again.
use Rattle.std.proofs.Common.{◌≡◌, ℕ, ◌+◌, ◌<◌, ◌≤◌, ◌^◌, Bool, true, false, cond, List, [], ◌∷◌, ◌++◌, length, map, get_or, refl, sym, ap, subst, ◌∙◌, arith, length-append, append_assoc}
use Rattle.std.proofs.lemmas.List.{append-nil}
use Rattle.base_model.specs.Bytes.{part, number_at, spelled, joined, AreBytes}
use Rattle.base_model.proofs.BytesLemmas.{length-spelled, spelled-number_at, number_at-lt, length-part, part-append, part-append_left, part-append_right, length-joined}
use Rattle.apei_bytes.proofs.Parts.{parts, joined-parts, parts_of, number_of, part-first, part-second}
use Rattle.ghes_block.specs.declared.entry.EntryHead.{EntryHead}
use Rattle.ghes_block.specs.Grammar.{EntryValue, is_stamped, entry_front, entry_bytes, IsEntryHead, IsEntry}
use Rattle.ghes_block.specs.Reading.{entry_size, entry_head_at, first_entry}
use Rattle.base_model.proofs.Terms.{total}

abbrev pub front_sizes : List ℕ
front_sizes = 16 ∷ 4 ∷ 2 ∷ 1 ∷ 1 ∷ 4 ∷ 16 ∷ 20 ∷ []

pub front_sized : (head : EntryHead) (len : ℕ) → IsEntryHead head → map length (entry_front head len) ≡ front_sizes
unfolding spelled
front_sized head len is = rw (is.kind, is.fru, is.fru_text) refl

pub length-front : (head : EntryHead) (len : ℕ) → IsEntryHead head → length (joined (entry_front head len)) ≡ 64
length-front head len is = length-joined (entry_front head len) ∙ ap total (front_sized head len is)

abbrev pub size_by : Bool → ℕ
size_by stamped = cond stamped 72 64

-- a timestamp and data behind 64 bytes
abbrev pub stamp_bytes : Bool → ℕ → List ℕ
stamp_bytes stamped stamp = cond stamped (spelled 8 stamp) []

abbrev stamp_at : Bool → List ℕ → ℕ
stamp_at stamped bytes = cond stamped (number_at bytes 64 8) 0

record Behind (b : Bool) (stamp : ℕ) (body content : List ℕ) : Type 0 where
  pub stamp_is : stamp_at b content ≡ stamp
  pub body_is : part content (size_by b) (length body) ≡ body

behind : (b : Bool) (front : List ℕ) (stamp : ℕ) (body more content : List ℕ) → length front ≡ 64 → stamp < 2 ^ 64 → (b ≡ false → stamp ≡ 0)
    → content ≡ (front ++ stamp_bytes b stamp ++ body) ++ more → Behind b stamp body content
behind true front stamp body more content size small none e =
    let head = front ++ spelled 8 stamp in
    let long : length head ≡ 72 = length-append front (spelled 8 stamp) ∙ omega (arith, length-spelled 8 stamp) in
    let split : content ≡ head ++ (body ++ more) = e ∙ append_assoc head body more in
    let there : part content 64 8 ≡ spelled 8 stamp =
    ap (λ (xs : List ℕ). part xs 64 8) split ∙ part-append_left head (body ++ more) 64 8 (omega arith) ∙ part-second front (spelled 8 stamp) 64 8 size (length-spelled 8 stamp) in
    record {
      stamp_is = number_of content 64 8 stamp there small;
      body_is =
          ap (λ (xs : List ℕ). part xs 72 (length body)) split
          ∙ part-append_right head (body ++ more) 72 0 (length body) (omega arith)
          ∙ part-first body more (length body) refl;
    }
behind false front stamp body more content size small none e =
    let split : content ≡ front ++ (body ++ more) =
    e ∙ ap (λ (xs : List ℕ). (xs ++ body) ++ more) (append-nil front) ∙ append_assoc front body more in
    record {
      stamp_is = sym (none refl);
      body_is =
          ap (λ (xs : List ℕ). part xs 64 (length body)) split
          ∙ part-append_right front (body ++ more) 64 0 (length body) (omega arith)
          ∙ part-first body more (length body) refl;
    }

length-stamp_bytes : (b : Bool) (stamp : ℕ) → 64 + length (stamp_bytes b stamp) ≡ size_by b
length-stamp_bytes true stamp = omega (arith, length-spelled 8 stamp)
length-stamp_bytes false stamp = refl

pub length-entry_bytes : (entry : EntryValue) → IsEntryHead entry.head → length (entry_bytes entry) ≡ size_by (is_stamped entry.head.revision) + length entry.body
unfolding entry_bytes
length-entry_bytes entry is =
    let front = length-front entry.head (length entry.body) is in
    let stamp = length-stamp_bytes (is_stamped entry.head.revision) entry.head.stamp in
    let fs = joined (entry_front entry.head (length entry.body)) in
    let ss = stamp_bytes (is_stamped entry.head.revision) entry.head.stamp in
    length-append (fs ++ ss) entry.body ∙ ap (λ (n : ℕ). n + length entry.body) (length-append fs ss) ∙ omega arith

-- an entry that stands first is read again
pub record ReadsAgain (entry : EntryValue) (content : List ℕ) : Type 0 where
  pub size_is : entry_size content ≡ length (entry_bytes entry)
  pub entry_is : first_entry content ≡ entry

pub reads_again : (entry : EntryValue) (content more : List ℕ) → IsEntry entry → content ≡ entry_bytes entry ++ more → ReadsAgain entry content
unfolding entry_bytes first_entry
reads_again entry content more is e =
    let head = entry.head in
    let body = entry.body in
    let front = joined (entry_front head (length body)) in
    let stamp = stamp_bytes (is_stamped head.revision) head.stamp in
    let size = length-front head (length body) is.head in
    let split : content ≡ front ++ (stamp ++ (body ++ more)) = e ∙ append_assoc (front ++ stamp) body more ∙ append_assoc front stamp (body ++ more) in
    let fields : parts front_sizes 0 content ≡ entry_front head (length body) =
    parts_of (entry_front head (length body)) front_sizes (stamp ++ (body ++ more)) content (front_sized head (length body) is.head) split in
    let field = λ (k : ℕ). ap (λ (xss : List (List ℕ)). get_or xss k []) fields in
    let severity = number_of content 16 4 head.severity (field 1) is.head.severity in
    let revision = number_of content 20 2 head.revision (field 2) is.head.revision in
    let validation = number_of content 22 1 head.validation (field 3) is.head.validation in
    let flags = number_of content 23 1 head.flags (field 4) is.head.flags in
    let len = number_of content 24 4 (length body) (field 5) is.short in
    let rest = behind (is_stamped head.revision) front head.stamp body more content size is.head.stamp is.head.no_stamp e in
    let stamp_is = rest.stamp_is in
    let body_is = rest.body_is in
    let stamped : is_stamped (number_at content 20 2) ≡ is_stamped head.revision = ap is_stamped revision in
    let full = length-entry_bytes entry is.head in
    record {
      size_is = ap (λ (b : Bool). size_by b + number_at content 24 4) stamped ∙ ap (λ (n : ℕ). size_by (is_stamped head.revision) + n) len ∙ sym full;
      entry_is = rw (field 0, severity, revision, validation, flags, field 6, field 7, len, stamp_is, body_is) refl;
    }

-- the timestamp's bytes, spelled again
stamp_again : (b : Bool) (content : List ℕ) → AreBytes content → size_by b ≤ length content → joined (parts front_sizes 0 content) ++ stamp_bytes b (stamp_at b content) ≡ part content 0 (size_by b)
stamp_again true content h k =
    ap (λ (xs : List ℕ). xs ++ spelled 8 (number_at content 64 8)) (joined-parts front_sizes 0 content)
    ∙ ap (λ (xs : List ℕ). part content 0 64 ++ xs) (spelled-number_at content 64 8 h k)
    ∙ part-append content 0 64 8
stamp_again false content h k = append-nil (joined (parts front_sizes 0 content)) ∙ joined-parts front_sizes 0 content

stamp_small : (b : Bool) (content : List ℕ) → AreBytes content → size_by b ≤ length content → stamp_at b content < 2 ^ 64
stamp_small true content h k = number_at-lt content 64 8 h k
stamp_small false content h k = omega arith

no_stamp_at : (b : Bool) (content : List ℕ) → b ≡ false → stamp_at b content ≡ 0
no_stamp_at true content h = absurd (cc)
no_stamp_at false content h = refl

-- what is read of an entry that is whole
pub record Reads (content : List ℕ) : Type 0 where
  pub is_entry : IsEntry (first_entry content)
  pub bytes_are : entry_bytes (first_entry content) ≡ part content 0 (entry_size content)

size_by-le : (b : Bool) (n : ℕ) → 64 ≤ size_by b + n
size_by-le true n = omega arith
size_by-le false n = omega arith

pub entry_size-le : (content : List ℕ) → 64 ≤ entry_size content
entry_size-le content = size_by-le (is_stamped (number_at content 20 2)) (number_at content 24 4)

zero_plus : (n : ℕ) → n ≡ 0 + n
zero_plus n = omega arith

pub reads : (content : List ℕ) → AreBytes content → 64 ≤ length content → entry_size content ≤ length content → Reads content
unfolding entry_bytes first_entry
reads content h long fits =
    let b = is_stamped (number_at content 20 2) in
    let n = number_at content 24 4 in
    let again = λ (at m : ℕ) (low : at + m ≤ 64). spelled-number_at content at m h (omega arith) in
    let head_fits : size_by b ≤ length content = omega arith in
    let len : length (part content (size_by b) n) ≡ n = length-part content (size_by b) n (omega arith) in
    let small : n < 2 ^ 32 = number_at-lt content 24 4 h (omega arith) in
    let a16 = again 16 4 (omega arith) in
    let a20 = again 20 2 (omega arith) in
    let a22 = again 22 1 (omega arith) in
    let a23 = again 23 1 (omega arith) in
    let a24 = again 24 4 (omega arith) in
    let front : entry_front (entry_head_at content) (length (part content (size_by b) n)) ≡ parts front_sizes 0 content = rw (len, a16, a20, a22, a23, a24) refl in
    record {
      is_entry = record {
        head = record {
          kind = length-part content 0 16 (omega arith);
          severity = number_at-lt content 16 4 h (omega arith);
          revision = number_at-lt content 20 2 h (omega arith);
          validation = number_at-lt content 22 1 h (omega arith);
          flags = number_at-lt content 23 1 h (omega arith);
          fru = length-part content 28 16 (omega arith);
          fru_text = length-part content 44 20 (omega arith);
          stamp = stamp_small b content h head_fits;
          no_stamp = no_stamp_at b content;
        };
        short = subst (λ (m : ℕ). m < 2 ^ 32) (sym len) small;
      };
      bytes_are =
          ap (λ (xss : List (List ℕ)). joined xss ++ stamp_bytes b (stamp_at b content) ++ part content (size_by b) n) front
          ∙ ap (λ (xs : List ℕ). xs ++ part content (size_by b) n) (stamp_again b content h head_fits)
          ∙ ap (λ (at : ℕ). part content 0 (size_by b) ++ part content at n) (zero_plus (size_by b))
          ∙ part-append content 0 (size_by b) n;
    }
