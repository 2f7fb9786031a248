-- Bytes have one list of lines.
use Rattle.std.proofs.Common.{◌≡◌, ℕ, ◌-◌, ◌^◌, ◌≤◌, ◌⊎◌, inl, inr, List, [], ◌∷◌, ◌++◌, length, take, drop, Option, Some, None, Result, Ok, Err, sym, ap, ◌∙◌, arith}
use Rattle.std.proofs.lemmas.List.{take-append-drop, length-take, length-take-le}
use Rattle.cper_frame.specs.Grammar.{RecordValue, IsRecord}
use Rattle.cper_frame.specs.Reading.{checked as checked_record}
use Rattle.cper_frame.proofs.Complete.{found_again as record_found_again}
use Rattle.cper_frame.proofs.Whole.{only_found as only_record_found, never_refused as record_never_refused}
use Rattle.ghes_block.specs.Grammar.{IsBlock}
use Rattle.ghes_block.specs.Reading.{checked as checked_block}
use Rattle.ghes_block.proofs.Blocks.{found_again as block_found_again}
use Rattle.ghes_block.proofs.Whole.{only_found as only_block_found, never_refused as block_never_refused}
use Rattle.hest_sources.proofs.Hests.{same_table as same_hest, not_refused as hest_not_refused}
use Rattle.ghes_block.specs.declared.table.Bert.{Bert}
use Rattle.ghes_block.specs.Table.{IsBert}
use Rattle.ghes_block.proofs.Terms.{signature as bert_signature}
use Rattle.ghes_block.proofs.TableLemmas.{only_from}
use Rattle.apei_tables.specs.Tables.{refusal as table_refusal}
use Rattle.apei_tables.proofs.Finding.{none_refused, size-front}
use Rattle.erst_entries.specs.Layout.{Erst, FitsErst}
use Rattle.erst_entries.specs.Tables.{IsErst}
use Rattle.erst_entries.proofs.Finding.{same_erst, not_refused as erst_not_refused}
use Rattle.apei_check.specs.Shown.{lines_shown}
use Rattle.apei_check.specs.Items.{ItemShown, ItemRefused}
use Rattle.apei_check.specs.Tables.{AreErstLines, AreHestLines, AreBertLines}
use Rattle.apei_check.specs.Frames.{AreRecordLines, AreBlockLines}
use Rattle.apei_check.specs.declared.text.show.Show.{Show}

-- bytes that begin with one item at most, and are not refused then, have one list of lines
module _ {X E : Type 0} (Is : X → List ℕ → Type 0) (head : X → ℕ → ℕ → List ℕ) (parts : X → List (List ℕ)) (Refuses : List ℕ → E → Type 0) (front : List ℕ)
    (words : E → List ℕ) (show : Show) (bytes : List ℕ)
    (same : (a b : X) (n m : ℕ) → n ≤ length bytes → m ≤ length bytes → Is a (take n bytes) → Is b (take m bytes) → (a ≡ b) × (n ≡ m))
    (never : (a : X) (n : ℕ) (why : E) → n ≤ length bytes → Is a (take n bytes) → Refuses bytes why → ⊥)
    (one : (why other : E) → Refuses bytes why → Refuses bytes other → why ≡ other) where
  lines_of : X → ℕ → List (List ℕ)
  lines_of item size = lines_shown show (head item size (length bytes - size)) (parts item)

  one_shown : (lines others : List (List ℕ)) → ItemShown Is head parts show bytes lines → ItemShown Is head parts show bytes others → lines ≡ others
  unfolding lines_of
  one_shown lines others a b =
      let both = same a.item b.item a.size b.size a.within b.within a.is b.is in
      a.shown ∙ ap (λ (x : X). lines_of x a.size) both.0 ∙ ap (λ (n : ℕ). lines_of b.item n) both.1 ∙ sym b.shown

  pub one_list : (lines others : List (List ℕ)) → ItemShown Is head parts show bytes lines ⊎ ItemRefused Refuses front words bytes lines
      → ItemShown Is head parts show bytes others ⊎ ItemRefused Refuses front words bytes others → lines ≡ others
  one_list lines others (inl a) (inl b) = one_shown lines others a b
  one_list lines others (inl a) (inr b) = absurd (never a.item a.size b.why a.within a.is b.first)
  one_list lines others (inr a) (inl b) = absurd (never b.item b.size a.why b.within b.is a.first)
  one_list lines others (inr a) (inr b) = a.shown ∙ ap (λ (why : E). (front ++ words why) ∷ []) (one a.why b.why a.first b.first) ∙ sym b.shown

or_else : {X : Type 0} → X → Option X → X
or_else a (Some x) = x
or_else a None = a

same_some : {X : Type 0} (r : Option X) (a b : X) → r ≡ Some a → r ≡ Some b → a ≡ b
unfolding or_else
same_some r a b e f = ap (or_else a) (sym e ∙ f)

not_both : {X : Type 0} (r : Option X) (x : X) → r ≡ None → r ≡ Some x → ⊥
not_both r x none some = let e : Some x ≡ None = sym some ∙ none in absurd (cc e)

same_err : {T E : Type 0} (r : Result T E) (a b : E) → r ≡ Err a → r ≡ Err b → a ≡ b
same_err {T} {E} r a b e f = let both : ◌≡◌ {A = Result T E} (Err a) (Err b) = sym e ∙ f in cc

same_table : (bytes : List ℕ) (a b : Erst) (n m : ℕ) → n ≤ length bytes → m ≤ length bytes → IsErst a (take n bytes) × FitsErst a → IsErst b (take m bytes) × FitsErst b → (a ≡ b) × (n ≡ m)
same_table bytes a b n m within within_too is is_too =
    let size : n ≡ m =
    sym (length-take-le n bytes within)
    ∙ sym (size-front bytes (take n bytes) (drop n bytes) (sym (take-append-drop n bytes)) is.0.sealed)
    ∙ size-front bytes (take m bytes) (drop m bytes) (sym (take-append-drop m bytes)) is_too.0.sealed
    ∙ length-take-le m bytes within_too in
    (same_erst a b is.1 is_too.1 (sym is.0.spelled ∙ ap (λ (k : ℕ). take k bytes) size ∙ is_too.0.spelled), size)

pub one_erst : (show : Show) (bytes : List ℕ) (lines others : List (List ℕ)) → AreErstLines show bytes lines → AreErstLines show bytes others → lines ≡ others
one_erst show bytes =
    one_list _ _ _ _ _ _ show bytes (same_table bytes)
    (λ erst n why within is first. not_both _ why (erst_not_refused erst bytes (take n bytes) (drop n bytes) (sym (take-append-drop n bytes)) is.1 is.0) first)
    (λ why other a b. same_some _ why other a b)

pub one_hest : (show : Show) (bytes : List ℕ) (lines others : List (List ℕ)) → AreHestLines show bytes lines → AreHestLines show bytes others → lines ≡ others
one_hest show bytes =
    one_list _ _ _ _ _ _ show bytes (same_hest bytes)
    (λ sources n why within is first. not_both _ why (hest_not_refused bytes sources n within is) first)
    (λ why other a b. same_some _ why other a b)

bert_taken : (bytes : List ℕ) (bert : Bert) (n : ℕ) → IsBert bert (take n bytes) → table_refusal bert_signature 48 bytes ≡ None
bert_taken bytes bert n is =
    none_refused bert_signature 48 bytes is.is_table.0 (take n bytes) (drop n bytes) (sym (take-append-drop n bytes)) is.is_table.1 is.is_table.2 is.is_table.3 is.fixed

pub one_bert : (show : Show) (bytes : List ℕ) (lines others : List (List ℕ)) → AreBertLines show bytes lines → AreBertLines show bytes others → lines ≡ others
one_bert show bytes =
    one_list _ _ _ _ _ _ show bytes
    (λ a b n m within within_too is is_too. only_from bytes (Ok (a, n)) b m within_too is_too (within, is) (bert_taken bytes a n is))
    (λ bert n why within is first. not_both _ why (bert_taken bytes bert n is) first)
    (λ why other a b. same_some _ why other a b)

-- a check that finds again each item that the bytes begin with finds the one that there is
module _ {V E : Type 0} (Is : V → List ℕ → Type 0) (checked : List ℕ → Result ℕ E) (value_of : ℕ → V) (bytes : List ℕ)
    (again : (value : V) (n : ℕ) → Is value (take n bytes) → checked (take n bytes ++ drop n bytes) ≡ Ok (length (take n bytes)))
    (only : (len : ℕ) (value : V) (n : ℕ) → checked bytes ≡ Ok len → n ≤ length bytes → Is value (take n bytes) → (value_of len ≡ value) × (len ≡ n)) where
  found_at : (value : V) (n : ℕ) → n ≤ length bytes → Is value (take n bytes) → checked bytes ≡ Ok n
  found_at value n within is =
      let size : length (take n bytes) ≡ n = length-take n bytes ∙ omega arith in
      ap checked (sym (take-append-drop n bytes)) ∙ again value n is ∙ ap (λ (m : ℕ). Ok m) size

  one_found : (a b : V) (n m : ℕ) → n ≤ length bytes → m ≤ length bytes → Is a (take n bytes) → Is b (take m bytes) → (a ≡ b) × (n ≡ m)
  one_found a b n m within within_too is is_too =
      let found = found_at a n within is in
      let first = only n a n found within is in
      let second = only n b m found within_too is_too in
      (sym first.0 ∙ second.0, second.1)

record_again : (bytes : List ℕ) (value : RecordValue) (n : ℕ) → IsRecord value (take n bytes) → checked_record (2 ^ 32 - 1) (take n bytes ++ drop n bytes) ≡ Ok (length (take n bytes))
record_again bytes value n is =
    let short = is.short in
    record_found_again (2 ^ 32 - 1) value (take n bytes) (drop n bytes) is (omega arith)

pub one_framed_record : (show : Show) (bytes : List ℕ) (lines others : List (List ℕ)) → AreRecordLines show bytes lines → AreRecordLines show bytes others → lines ≡ others
one_framed_record show bytes =
    one_list _ _ _ _ _ _ show bytes (one_found IsRecord (checked_record (2 ^ 32 - 1)) _ bytes (record_again bytes) (only_record_found bytes))
    (λ value n error within is refused. record_never_refused bytes error value n refused within is)
    (λ error other a b. same_err _ error other a b)

pub one_status_block : (show : Show) (bytes : List ℕ) (lines others : List (List ℕ)) → AreBlockLines show bytes lines → AreBlockLines show bytes others → lines ≡ others
one_status_block show bytes =
    one_list _ _ _ _ _ _ show bytes (one_found IsBlock checked_block _ bytes (λ value n is. block_found_again value (take n bytes) (drop n bytes) is) (only_block_found bytes))
    (λ value n error within is refused. block_never_refused bytes error value n refused within is)
    (λ error other a b. same_err _ error other a b)
