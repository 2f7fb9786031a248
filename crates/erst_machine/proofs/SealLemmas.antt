-- Tables that are sealed by their checksum.
use Rattle.std.proofs.Common.{◌≡◌, ℕ, ◌+◌, ◌*◌, ◌<◌, ◌%◌, List, ◌∷◌, ◌++◌, length, take, drop, get_or, refl, sym, ap, subst, ◌∙◌, arith, take-append-drop, drop-cons, lit<}
use Rattle.std.specs.Prelude.{sum, codes}
use Rattle.std.proofs.lemmas.List.Sums.{sum_by-append, sum_by-cons}
use Rattle.base_model.specs.Bytes.{SameOutside, spelled, put_at}
use Rattle.apei_tables.specs.declared.headers.Header.{Header}
use Rattle.apei_tables.specs.Layout.{spelling as header_spelling}
use Rattle.apei_tables.specs.Tables.{IsSealed}
use Rattle.erst_entries.specs.declared.entries.Entry.{Entry}
use Rattle.erst_entries.specs.Layout.{Erst, entry_spelling, front_spelling, spelling}
use Rattle.erst_entries.specs.Tables.{Finished}
use Rattle.hest_sources.specs.Layout.{ghes_bytes}
use Rattle.erst_machine.specs.Memories.{zeros}
use Rattle.erst_machine.specs.OwnTables.{own_header, own_entries, own_size, own_erst, own_source, own_hest, own_bert_bytes}
use Rattle.erst_machine.proofs.Words.{own_count}

sum-byte : (front rest : List ℕ) (x : ℕ) → sum (front ++ x ∷ rest) ≡ sum front + (x + sum rest)
sum-byte front rest x = sum_by-append (λ (n : ℕ). n) front (x ∷ rest) ∙ ap (λ (n : ℕ). sum front + n) (sum_by-cons (λ (n : ℕ). n) x rest)

-- two lists of bytes that add to 0 and differ in one byte at most are the same
same_byte : (front rest : List ℕ) (x y : ℕ) → x < 256 → y < 256 → sum (front ++ x ∷ rest) % 256 ≡ 0 → sum (front ++ y ∷ rest) % 256 ≡ 0 → x ≡ y
same_byte front rest x y x_fits y_fits x_sums y_sums =
    let a : (sum front + (x + sum rest)) % 256 ≡ 0 = sym (ap (λ (n : ℕ). n % 256) (sum-byte front rest x)) ∙ x_sums in
    let b : (sum front + (y + sum rest)) % 256 ≡ 0 = sym (ap (λ (n : ℕ). n % 256) (sum-byte front rest y)) ∙ y_sums in
    omega arith

-- byte 9 and what stands around it
around : (bytes : List ℕ) → 9 < length bytes → bytes ≡ take 9 bytes ++ get_or bytes 9 0 ∷ drop 10 bytes
around bytes long = sym (take-append-drop 9 bytes) ∙ ap (λ (xs : List ℕ). take 9 bytes ++ xs) (drop-cons bytes 9 0 long)

-- a table that was sealed by its byte 9, where this byte is known to seal it
pub sealed_is : (before after front rest : List ℕ) (y : ℕ) → SameOutside 9 1 before after → take 9 before ≡ front → drop 10 before ≡ rest → 9 < length before → sum after % 256 ≡ 0 →
    get_or after 9 0 < 256 → y < 256 → sum (front ++ y ∷ rest) % 256 ≡ 0 → after ≡ front ++ y ∷ rest
sealed_is before after front rest y outside begins ends long sums x_fits y_fits wanted =
    let size : length after ≡ length before = outside.same_length in
    let split : after ≡ front ++ get_or after 9 0 ∷ rest = around after (omega arith)
    ∙ ap (λ (xs : List ℕ). xs ++ get_or after 9 0 ∷ drop 10 after) (outside.before ∙ begins)
    ∙ ap (λ (xs : List ℕ). front ++ get_or after 9 0 ∷ xs) (outside.after ∙ ends) in
    split ∙ ap (λ (x : ℕ). front ++ x ∷ rest)
    (same_byte front rest (get_or after 9 0) y x_fits y_fits (sym (ap (λ (xs : List ℕ). sum xs % 256) split) ∙ sums) wanted)

-- the Boot Error Record Table
bert_before : List ℕ
bert_before = put_at (put_at (put_at (zeros 48) 0 (header_spelling (own_header (codes "BERT") 48 0))) 36 (spelled 4 16384)) 40 (spelled 8 0x400000)

bert_front : take 9 bert_before ≡ take 9 own_bert_bytes
unfolding bert_before own_bert_bytes put_at header_spelling spelled
bert_front = refl

bert_rest : drop 10 bert_before ≡ drop 10 own_bert_bytes
unfolding bert_before own_bert_bytes put_at header_spelling spelled
bert_rest = refl

bert_long : 9 < length bert_before
unfolding bert_before put_at header_spelling spelled
bert_long = lit< tt

bert_is : own_bert_bytes ≡ take 9 own_bert_bytes ++ 0x18 ∷ drop 10 own_bert_bytes
unfolding own_bert_bytes header_spelling spelled
bert_is = refl

bert_sum : sum (take 9 own_bert_bytes ++ 0x18 ∷ drop 10 own_bert_bytes) % 256 ≡ 0
unfolding own_bert_bytes header_spelling spelled
bert_sum = refl

pub sealed_bert : (after : List ℕ) → SameOutside 9 1 (put_at (put_at (put_at (zeros 48) 0 (header_spelling (own_header (codes "BERT") 48 0))) 36 (spelled 4 16384)) 40 (spelled 8 0x400000)) after →
    sum after % 256 ≡ 0 → get_or after 9 0 < 256 → after ≡ own_bert_bytes
unfolding bert_before
sealed_bert after outside sums fits =
    sealed_is bert_before after _ _ 0x18 outside bert_front bert_rest bert_long sums fits (lit< tt) bert_sum ∙ sym bert_is

-- the Hardware Error Source Table
hest_before : List ℕ
hest_before = put_at (put_at (put_at (zeros 132) 0 (header_spelling (own_header (codes "HEST") 132 0))) 36 (spelled 4 1)) 40 (put_at (zeros 92) 0 (ghes_bytes own_source))

hest_front : take 9 hest_before ≡ take 9 own_hest
unfolding hest_before own_hest put_at header_spelling spelled ghes_bytes
hest_front = refl

hest_rest : drop 10 hest_before ≡ drop 10 own_hest
unfolding hest_before own_hest put_at header_spelling spelled ghes_bytes
hest_rest = refl

hest_long : 9 < length hest_before
unfolding hest_before put_at header_spelling spelled ghes_bytes
hest_long = lit< tt

hest_is : own_hest ≡ take 9 own_hest ++ 0x1E ∷ drop 10 own_hest
unfolding own_hest header_spelling spelled ghes_bytes
hest_is = refl

hest_sum : sum (take 9 own_hest ++ 0x1E ∷ drop 10 own_hest) % 256 ≡ 0
unfolding own_hest header_spelling spelled ghes_bytes
hest_sum = refl

pub sealed_hest : (after : List ℕ) →
    SameOutside 9 1 (put_at (put_at (put_at (zeros 132) 0 (header_spelling (own_header (codes "HEST") 132 0))) 36 (spelled 4 1)) 40 (put_at (zeros 92) 0 (ghes_bytes own_source))) after →
    sum after % 256 ≡ 0 → get_or after 9 0 < 256 → after ≡ own_hest
unfolding hest_before
sealed_hest after outside sums fits =
    sealed_is hest_before after _ _ 0x1E outside hest_front hest_rest hest_long sums fits (lit< tt) hest_sum ∙ sym hest_is

-- the Error Record Serialization Table, with any checksum
erst_with : ℕ → Erst
erst_with checksum = record own_erst { header = own_header (codes "ERST") own_size checksum }

erst_front : List ℕ
erst_front = take 9 (spelling own_erst)

erst_rest : List ℕ
erst_rest = drop 10 (spelling own_erst)

erst_around : (checksum : ℕ) → spelling (erst_with checksum) ≡ erst_front ++ checksum ∷ erst_rest
unfolding erst_with erst_front erst_rest spelling front_spelling header_spelling entry_spelling spelled own_entries
erst_around checksum = refl

erst_sum : sum (erst_front ++ 0x83 ∷ erst_rest) % 256 ≡ 0
unfolding erst_front erst_rest spelling front_spelling header_spelling entry_spelling spelled own_entries
erst_sum = refl

pub count_is : length own_entries ≡ own_count
unfolding own_entries
count_is = refl

-- a table before its end is set
abbrev pub blank_erst : List Entry → Erst
blank_erst entries = record { header = own_header (codes "ERST") 0 0; header_size = 48; reserved = 0; count = 0; entries = entries }

finished_is : (new : Erst) → Finished (blank_erst own_entries) new → new ≡ erst_with new.header.checksum
unfolding erst_with
finished_is new finished =
    let sum : ℕ = new.header.checksum in
    let made : Header → ℕ → Erst = λ header count. record { header = header; header_size = 48; reserved = 0; count = count; entries = own_entries } in
    let size : new.header.length ≡ own_size = finished.size ∙ ap (λ (n : ℕ). 48 + 32 * n) count_is in
    finished.others ∙ ap (λ (h : Header). made h new.count) finished.header
    ∙ ap (λ (n : ℕ). made (own_header (codes "ERST") n sum) new.count) size ∙ ap (λ (n : ℕ). made (own_header (codes "ERST") own_size sum) n) (finished.counted ∙ count_is)

pub sealed_erst : (entries : List Entry) (new : Erst) (bytes : List ℕ) → entries ≡ own_entries → IsSealed (spelling new) → Finished (blank_erst entries) new →
    bytes ≡ spelling new → new.header.checksum < 256 →
    bytes ≡ spelling own_erst
unfolding erst_with
sealed_erst entries new bytes all sealed finished spelled_is fits =
    let c : ℕ = new.header.checksum in
    let is : spelling new ≡ erst_front ++ c ∷ erst_rest =
    ap spelling (finished_is new (subst (λ (es : List Entry). Finished (blank_erst es) new) all finished)) ∙ erst_around c in
    let same : c ≡ 0x83 = same_byte erst_front erst_rest c 0x83 fits (lit< tt) (sym (ap (λ (xs : List ℕ). sum xs % 256) is) ∙ sealed.sum) erst_sum in
    spelled_is ∙ is ∙ ap (λ (x : ℕ). erst_front ++ x ∷ erst_rest) same ∙ sym (erst_around 0x83)
