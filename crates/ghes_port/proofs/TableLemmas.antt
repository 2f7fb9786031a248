-- The bytes of the tables.
use Rattle.std.proofs.Common.{◌≡◌, ◌∙◌, ℕ, suc, ◌+◌, ◌%◌, ◌^◌, ◌<◌, List, [], ◌∷◌, ◌++◌, length, get_or, take, drop, map, refl, sym, ap, subst, arith}
use Rattle.std.proofs.Common.{append_assoc, append-nil, length-append, take-append-drop, drop-cons, lit<}
use Rattle.std.specs.Prelude.{sum, codes, All, replicate}
use Rattle.std.proofs.lemmas.List.{length-map, take_more, map-append}
use Rattle.ghes_ack.proofs.RoomLemmas.{All-more}
use Rattle.base_model.specs.Bytes.{part, spelled, put_at, zeros, SameOutside, joined}
use Rattle.base_model.proofs.BytesLemmas.{length-spelled}
use Rattle.apei_bytes.specs.Walk.{AreItems}
use Rattle.apei_bytes.specs.Writing.{Wrote}
use Rattle.apei_bytes.proofs.Parts.{number_of}
use Rattle.apei_bytes.proofs.Puts.{wrote_there}
use Rattle.apei_tables.specs.Layout.{spelling, IsHeader}
use Rattle.apei_tables.specs.Tables.{IsTable}
use Rattle.hest_sources.specs.declared.sources.HestSource.TheVariants.{Ghes as Generic}
use Rattle.hest_sources.specs.Layout.{IsGhes, IsSource, ghes_bytes}
use Rattle.hest_sources.specs.Tables.{IsHest}
use Rattle.ghes_block.specs.Table.{IsBert}
use Rattle.ghes_port.specs.declared.setups.Setup.{Setup}
use Rattle.ghes_port.specs.Tables.{AreStructures, IsUnsealed, stated, own_header}

-- byte 9 and what stands around it
around : (bytes : List ℕ) → 9 < length bytes → bytes ≡ take 9 bytes ++ get_or bytes 9 0 ∷ drop 10 bytes
around bytes long = sym (take-append-drop 9 bytes) ∙ ap (λ (xs : List ℕ). take 9 bytes ++ xs) (drop-cons bytes 9 0 long)

-- a table that was sealed by its byte 9: the same header with another checksum, and the same rest
long_head : (a b c d len : ℕ) (rest : List ℕ) → 9 < length (spelling (own_header (a ∷ b ∷ c ∷ d ∷ []) len 0) ++ rest)
unfolding spelling spelled
long_head a b c d len rest = omega (arith)

pub sealed_is : (a b c d len : ℕ) (rest after : List ℕ) → SameOutside 9 1 (spelling (own_header (a ∷ b ∷ c ∷ d ∷ []) len 0) ++ rest) after
    → after ≡ spelling (own_header (a ∷ b ∷ c ∷ d ∷ []) len (get_or after 9 0)) ++ rest
unfolding spelling spelled
sealed_is a b c d len rest after outside =
    let size = outside.same_length in
    let long = long_head a b c d len rest in
    around after (omega (arith, size, long))
    ∙ ap (λ (xs : List ℕ). xs ++ get_or after 9 0 ∷ drop 10 after) outside.before
    ∙ ap (λ (xs : List ℕ). take 9 (spelling (own_header (a ∷ b ∷ c ∷ d ∷ []) len 0) ++ rest) ++ get_or after 9 0 ∷ xs) outside.after

head_length : (a b c d len sum : ℕ) → length (spelling (own_header (a ∷ b ∷ c ∷ d ∷ []) len sum)) ≡ 36
unfolding spelling spelled
head_length a b c d len sum = refl

length_field : (a b c d len sum : ℕ) (rest : List ℕ) → part (spelling (own_header (a ∷ b ∷ c ∷ d ∷ []) len sum) ++ rest) 4 4 ≡ spelled 4 len
unfolding spelling spelled part
length_field a b c d len sum rest = refl

begins : (a b c d len sum : ℕ) (rest : List ℕ) → part (spelling (own_header (a ∷ b ∷ c ∷ d ∷ []) len sum) ++ rest) 0 36 ≡ spelling (own_header (a ∷ b ∷ c ∷ d ∷ []) len sum)
unfolding spelling spelled part
begins a b c d len sum rest = refl

-- such a table
pub record Sealed (signature : List ℕ) (len : ℕ) (rest after : List ℕ) : Type 0 where
  pub header : IsHeader (own_header signature len (get_or after 9 0))
  pub table : IsTable (own_header signature len (get_or after 9 0)) after
  pub is : after ≡ spelling (own_header signature len (get_or after 9 0)) ++ rest

pub sealed : (a b c d len : ℕ) (rest after : List ℕ) → len ≡ 36 + length rest → len < 2 ^ 32 → SameOutside 9 1 (spelling (own_header (a ∷ b ∷ c ∷ d ∷ []) len 0) ++ rest) after
    → sum after % 256 ≡ 0 → get_or after 9 0 < 256 → Sealed (a ∷ b ∷ c ∷ d ∷ []) len rest after
sealed a b c d len rest after size small outside sums fits =
    let check : ℕ = get_or after 9 0 in
    let is = sealed_is a b c d len rest after outside in
    let whole : length after ≡ len = ap length is ∙ length-append (spelling (own_header (a ∷ b ∷ c ∷ d ∷ []) len check)) rest ∙ ap (λ (n : ℕ). n + length rest) (head_length a b c d len check)
    ∙ sym size in
    let field : part after 4 4 ≡ spelled 4 len = ap (λ (xs : List ℕ). part xs 4 4) is ∙ length_field a b c d len check rest in
    record {
      header = record {
        signature = refl;
        size = small;
        revision = lit< tt;
        checksum = fits;
        oem_id = refl;
        oem_table_id = refl;
        oem_revision = lit< tt;
        creator_id = refl;
        creator_revision = lit< tt;
      };
      table = record {
        sealed = record { size = omega (arith, whole, size); length_field = number_of after 4 4 len field (omega (arith, small)) ∙ sym whole; sum = sums };
        begins = ap (λ (xs : List ℕ). part xs 0 36) is ∙ begins a b c d len check rest;
      };
      is = is;
    }

-- the head of the sources' table, before it is sealed
pub head_is : (len count : ℕ) → put_at (put_at (replicate 40 0) 0 (spelling (own_header (codes "HEST") len 0))) 36 (spelled 4 count) ≡ spelling (own_header (codes "HEST") len 0) ++ spelled 4 count
unfolding put_at spelling spelled
head_is len count = refl

-- the bytes that a structure takes
pub front_is : (old new bytes : List ℕ) (end : ℕ) → Wrote old new 0 end bytes → take end new ≡ bytes
unfolding part
front_is old new bytes end wrote = ap (λ (k : ℕ). take k new) wrote.end_is ∙ ap (λ (k : ℕ). take k new) (omega (arith)) ∙ wrote_there old new 0 end bytes wrote

-- one structure more
pub structures_more : (sources : List (List ℕ)) (one : List ℕ) → joined (sources ++ one ∷ []) ≡ joined sources ++ one
structures_more [] one = append-nil one
structures_more (x ∷ xs) one = ap (λ (ys : List ℕ). x ++ ys) (structures_more xs one) ∙ sym (append_assoc x (joined xs) one)

pub structures_next : (setups : List Setup) (n : ℕ) (d : Setup) (bytes new : List ℕ) → n < length setups → bytes ≡ joined (map (λ s. ghes_bytes s.source) (take n setups))
    → new ≡ bytes ++ ghes_bytes (get_or setups n d).source → new ≡ joined (map (λ s. ghes_bytes s.source) (take (n + 1) setups))
structures_next setups n d bytes new within so_far is =
    let f : Setup → List ℕ = λ s. ghes_bytes s.source in
    let one : Setup = get_or setups n d in
    is
    ∙ ap (λ (xs : List ℕ). xs ++ f one) so_far
    ∙ sym (structures_more (map f (take n setups)) (f one))
    ∙ ap joined (sym (map-append f (take n setups) (one ∷ [])))
    ∙ ap (λ (xs : List Setup). joined (map f xs)) (sym (take_more setups n d within))

pub fit_next : (setups : List Setup) (n : ℕ) (d : Setup) → n < length setups → AreStructures (take n setups) → IsGhes (get_or setups n d).source → AreStructures (take (n + 1) setups)
fit_next setups n d within all one =
    subst (λ (xs : List Setup). All (λ s. IsGhes s.source) xs) (sym (take_more setups n d within)) (All-more (λ (s : Setup). IsGhes s.source) (take n setups) (get_or setups n d) all one)

-- structures one after another are items of the table
pub items_are : (at : ℕ) (setups : List Setup) → AreStructures setups
    → AreItems IsSource (λ rest. rest ≡ []) at (stated setups) (joined (map (λ s. ghes_bytes s.source) setups))
items_are at [] each = refl
items_are at (s ∷ rest) each = (
  ghes_bytes s.source,
  joined (map (λ (t : Setup). ghes_bytes t.source) rest),
  refl,
  (each 0 s (omega (arith)), refl),
  items_are (at + length (ghes_bytes s.source)) rest (λ k d within. each (suc k) d (omega (arith, within))),
)

count_field : (len check count : ℕ) (bytes : List ℕ) → part (spelling (own_header (codes "HEST") len check) ++ (spelled 4 count ++ bytes)) 36 4 ≡ spelled 4 count
unfolding spelling spelled part
count_field len check count bytes = refl

after_head : (len check count : ℕ) (bytes : List ℕ) → drop 40 (spelling (own_header (codes "HEST") len check) ++ (spelled 4 count ++ bytes)) ≡ bytes
unfolding spelling spelled
after_head len check count bytes = refl

-- the table
pub hest_is : (setups : List Setup) (len count : ℕ) (bytes after : List ℕ) → bytes ≡ joined (map (λ s. ghes_bytes s.source) setups) → AreStructures setups → len ≡ 40 + length bytes → len < 2 ^ 32
    → count ≡ length setups → count < 2 ^ 32 → SameOutside 9 1 ((spelling (own_header (codes "HEST") len 0) ++ spelled 4 count) ++ bytes) after → sum after % 256 ≡ 0 → get_or after 9 0 < 256
    → IsHest (stated setups) after
hest_is setups len count bytes after is fit size small all few outside sums fits =
    let rest : List ℕ = spelled 4 count ++ bytes in
    let check : ℕ = get_or after 9 0 in
    let head : List ℕ = spelling (own_header (codes "HEST") len check) in
    let rest_size : length rest ≡ 4 + length bytes = length-append (spelled 4 count) bytes ∙ ap (λ (n : ℕ). n + length bytes) (length-spelled 4 count) in
    let s : Sealed (codes "HEST") len rest after =
    sealed 72 69 83 84 len rest after (omega (arith, size, rest_size)) small
    (subst (λ (xs : List ℕ). SameOutside 9 1 xs after) (append_assoc (spelling (own_header (codes "HEST") len 0)) (spelled 4 count) bytes) outside) sums fits in
    let whole : after ≡ head ++ (spelled 4 count ++ bytes) = s.is in
    let counted : part after 36 4 ≡ spelled 4 count = ap (λ (xs : List ℕ). part xs 36 4) whole ∙ count_field len check count bytes in
    let rest_is : drop 40 after ≡ joined (map (λ (t : Setup). ghes_bytes t.source) setups) = ap (drop 40) whole ∙ after_head len check count bytes ∙ is in
    let long = ap length s.is ∙ length-append head rest in
    let head_size = head_length 72 69 83 84 len check in
    record {
      is_table = (own_header (codes "HEST") len check, s.header, s.table, refl);
      fixed = omega (arith, long, head_size, rest_size);
      count = number_of after 36 4 count counted (omega (arith, few)) ∙ all ∙ sym (length-map setups (λ (t : Setup). Generic t.source));
      sources_are = subst (λ (xs : List ℕ). AreItems IsSource (λ (r : List ℕ). r ≡ []) 40 (stated setups) xs) (sym rest_is) (items_are 40 setups fit);
    }

-- the boot error region's table
pub bert_before : (len region : ℕ) → put_at (put_at (put_at (zeros 48) 0 (spelling (own_header (codes "BERT") 48 0))) 36 (spelled 4 len)) 40 (spelled 8 region)
    ≡ spelling (own_header (codes "BERT") 48 0) ++ (spelled 4 len ++ spelled 8 region)
unfolding put_at spelling spelled
bert_before len region = refl

len_field : (check len region : ℕ) → part (spelling (own_header (codes "BERT") 48 check) ++ (spelled 4 len ++ spelled 8 region)) 36 4 ≡ spelled 4 len
unfolding spelling spelled part
len_field check len region = refl

region_field : (check len region : ℕ) → part (spelling (own_header (codes "BERT") 48 check) ++ (spelled 4 len ++ spelled 8 region)) 40 8 ≡ spelled 8 region
unfolding spelling spelled part
region_field check len region = refl

pub bert_is : (len region : ℕ) (after : List ℕ) → len < 2 ^ 32 → region < 2 ^ 64 → SameOutside 9 1 (spelling (own_header (codes "BERT") 48 0) ++ (spelled 4 len ++ spelled 8 region)) after
    → sum after % 256 ≡ 0 → get_or after 9 0 < 256 → IsBert (record { len = len; region = region }) after
bert_is len region after small few outside sums fits =
    let rest : List ℕ = spelled 4 len ++ spelled 8 region in
    let check : ℕ = get_or after 9 0 in
    let rest_size : length rest ≡ 12 = length-append (spelled 4 len) (spelled 8 region) ∙ ap (λ (n : ℕ). n + length (spelled 8 region)) (length-spelled 4 len)
    ∙ ap (λ (n : ℕ). 4 + n) (length-spelled 8 region) in
    let s : Sealed (codes "BERT") 48 rest after = sealed 66 69 82 84 48 rest after (omega (arith, rest_size)) (lit< tt) outside sums fits in
    let long = ap length s.is ∙ length-append (spelling (own_header (codes "BERT") 48 check)) rest in
    let head_size = head_length 66 69 82 84 48 check in
    record {
      is_table = (own_header (codes "BERT") 48 check, s.header, s.table, refl);
      fixed = omega (arith, long, head_size, rest_size);
      len = number_of after 36 4 len (ap (λ (xs : List ℕ). part xs 36 4) s.is ∙ len_field check len region) (omega (arith, small));
      region = number_of after 40 8 region (ap (λ (xs : List ℕ). part xs 40 8) s.is ∙ region_field check len region) (omega (arith, few));
    }

pub unsealed_size : (setups : List Setup) (table : List ℕ) → IsUnsealed setups table → length table ≡ 40 + length (joined (map (λ s. ghes_bytes s.source) setups))
unsealed_size setups table is =
    let bytes : List ℕ = joined (map (λ (s : Setup). ghes_bytes s.source) setups) in
    let head : List ℕ = spelling (own_header (codes "HEST") (length table) 0) in
    let one = length-append (head ++ spelled 4 (length setups)) bytes in
    let two = length-append head (spelled 4 (length setups)) in
    let three = head_length 72 69 83 84 (length table) 0 in
    let four = length-spelled 4 (length setups) in
    let all = ap length is in
    omega (arith, one, two, three, four, all)

pub unsealed : (setups : List Setup) (table head bytes : List ℕ) (n : ℕ) → table ≡ head ++ bytes → head ≡ spelling (own_header (codes "HEST") (40 + n) 0) ++ spelled 4 (length setups)
    → bytes ≡ joined (map (λ s. ghes_bytes s.source) setups) → n ≡ length bytes → length head ≡ 40 → IsUnsealed setups table
unsealed setups table head bytes n is head_is bytes_is few size =
    let all : length table ≡ length head + length bytes = ap length is ∙ length-append head bytes in
    let whole : 40 + n ≡ length table = omega (arith, all, few, size) in
    is
    ∙ ap (λ (xs : List ℕ). xs ++ bytes) (head_is ∙ ap (λ (k : ℕ). spelling (own_header (codes "HEST") k 0) ++ spelled 4 (length setups)) whole)
    ∙ ap (λ (xs : List ℕ). (spelling (own_header (codes "HEST") (length table) 0) ++ spelled 4 (length setups)) ++ xs) bytes_is
