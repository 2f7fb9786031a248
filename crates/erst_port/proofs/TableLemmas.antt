-- The table of a port is one, and its address says each of its bytes.
use Rattle.std.proofs.Common.{◌≡◌, ◌∙◌, ℕ, ◌+◌, ◌-◌, ◌*◌, ◌%◌, ◌<◌, ◌≤◌, ◌^◌, List, ◌∷◌, ◌++◌, length, take, drop, get_or, refl, sym, ap, subst, arith, lit<, inl, append_assoc}
use Rattle.std.specs.Prelude.{codes, sum}
use Rattle.std.proofs.lemmas.List.Sums.{sum_by-append, sum_by-cons}
use Rattle.std.proofs.lemmas.List.{append-nil, take_all, length-take-le, length-append}
use Rattle.base_model.specs.Bytes.{part, number_at, spelled, put_at, SameOutside}
use Rattle.base_model.proofs.BytesLemmas.{length-put_at}
use Rattle.apei_bytes.specs.Writing.{Wrote}
use Rattle.apei_bytes.proofs.Puts.{wrote_then}
use Rattle.apei_tables.specs.GasLayout.{IsGas}
use Rattle.apei_tables.specs.declared.headers.Header.{Header}
use Rattle.apei_tables.specs.Layout.{spelling as header_spelling}
use Rattle.apei_tables.specs.Tables.{IsSealed}
use Rattle.erst_entries.specs.declared.actions.Action.{Action}
use Rattle.erst_entries.specs.declared.actions.Action.TheVariants.{BeginWriteOperation, BeginReadOperation, BeginClearOperation, EndOperation, SetRecordOffset}
use Rattle.erst_entries.specs.declared.actions.Action.TheVariants.{ExecuteOperation, CheckBusyStatus, GetCommandStatus, GetRecordIdentifier}
use Rattle.erst_entries.specs.declared.actions.Action.TheVariants.{SetRecordIdentifier, GetRecordCount, BeginDummyWriteOperation, GetErrorLogAddressRange}
use Rattle.erst_entries.specs.declared.actions.Action.TheVariants.{GetErrorLogAddressRangeLength, GetErrorLogAddressRangeAttributes, GetExecuteOperationTimings}
use Rattle.erst_entries.specs.declared.entries.Entry.{Entry}
use Rattle.erst_entries.specs.Actions.{code_of}
use Rattle.erst_entries.specs.Layout.{IsEntry, AreEntries, entry_spelling, front_spelling, spelling}
use Rattle.erst_entries.specs.Tables.{IsErst}
use Rattle.erst_entries.proofs.TableBytes.{upto-next, length-entries_spelling}
use Rattle.erst_machine.specs.OwnTables.{own_header}
use Rattle.erst_machine.proofs.TableLemmas.{entry_fits, code_fits}
use Rattle.erst_machine.proofs.SealLemmas.{sealed_is}
use Rattle.erst_entries.proofs.EntryBytes.{put_at-all}
use Rattle.erst_port.specs.PortTables.{action_at, value_at, carries_out, gives, asks_for_one, takes, port_entries, port_count, port_size, table_with, port_checksum, port_erst}
use Rattle.erst_entries.proofs.Terms.{entries_spelling}

-- Each entry fits its fields

module _ (registers : ℕ) (below : registers + 8 < 2 ^ 64) where
  action_fits : IsGas (action_at registers)
  action_fits = record { space = lit< tt; width = lit< tt; offset = lit< tt; access = lit< tt; address = omega (arith, below) }

  value_fits : IsGas (value_at registers)
  value_fits = record { space = lit< tt; width = lit< tt; offset = lit< tt; access = lit< tt; address = below }

  carried : (action : Action) → IsEntry (carries_out registers action)
  carried action = let small : code_of action < 256 = code_fits action in entry_fits action 3 (action_at registers) _ _ (lit< tt) action_fits (omega (arith, small)) (lit< tt)

  given : (action : Action) → IsEntry (gives registers action)
  given action = entry_fits action 2 (value_at registers) _ _ (lit< tt) value_fits (lit< tt) (lit< tt)

  asked : (action : Action) → IsEntry (asks_for_one registers action)
  asked action = entry_fits action 1 (value_at registers) _ _ (lit< tt) value_fits (lit< tt) (lit< tt)

  taken : (action : Action) (mask : ℕ) → mask < 2 ^ 64 → IsEntry (takes registers action mask)
  taken action mask fits = entry_fits action 0 (value_at registers) 0 mask (lit< tt) value_fits (lit< tt) fits

  all_fit : AreEntries (port_entries registers)
  unfolding port_entries
  all_fit = (
    carried BeginWriteOperation,
    (
      carried BeginReadOperation,
      (
        carried BeginClearOperation,
        (
          carried EndOperation,
          (
            given SetRecordOffset,
            (
              carried SetRecordOffset,
              (
                carried ExecuteOperation,
                (
                  carried CheckBusyStatus,
                  (
                    asked CheckBusyStatus,
                    (
                      carried GetCommandStatus,
                      (
                        taken GetCommandStatus _ (lit< tt),
                        (
                          carried GetRecordIdentifier,
                          (
                            taken GetRecordIdentifier _ (lit< tt),
                            (
                              given SetRecordIdentifier,
                              (
                                carried SetRecordIdentifier,
                                (
                                  carried GetRecordCount,
                                  (
                                    taken GetRecordCount _ (lit< tt),
                                    (
                                      carried BeginDummyWriteOperation,
                                      (
                                        carried GetErrorLogAddressRange,
                                        (
                                          taken GetErrorLogAddressRange _ (lit< tt),
                                          (
                                            carried GetErrorLogAddressRangeLength,
                                            (
                                              taken GetErrorLogAddressRangeLength _ (lit< tt),
                                              (
                                                carried GetErrorLogAddressRangeAttributes,
                                                (
                                                  taken GetErrorLogAddressRangeAttributes _ (lit< tt),
                                                  (carried GetExecuteOperationTimings, (taken GetExecuteOperationTimings _ (lit< tt), tt)),
                                                ),
                                              ),
                                            ),
                                          ),
                                        ),
                                      ),
                                    ),
                                  ),
                                ),
                              ),
                            ),
                          ),
                        ),
                      ),
                    ),
                  ),
                ),
              ),
            ),
          ),
        ),
      ),
    ),
  )

pub entry_count : (registers : ℕ) → length (port_entries registers) ≡ port_count
unfolding port_entries
entry_count registers = refl

-- The checksum is one of the bytes

unfoldable bytes_before : ℕ → List ℕ
bytes_before registers = take 9 (spelling (table_with registers 0))

unfoldable bytes_behind : ℕ → List ℕ
bytes_behind registers = drop 10 (spelling (table_with registers 0))

split : (registers checksum : ℕ) → spelling (table_with registers checksum) ≡ bytes_before registers ++ checksum ∷ bytes_behind registers
unfolding bytes_before bytes_behind spelling front_spelling header_spelling entry_spelling spelled port_entries
split registers checksum = refl

sum_around : (registers checksum : ℕ) → sum (bytes_before registers ++ checksum ∷ bytes_behind registers) ≡ sum (bytes_before registers) + (checksum + sum (bytes_behind registers))
sum_around registers checksum =
    sum_by-append (λ (n : ℕ). n) (bytes_before registers) (checksum ∷ bytes_behind registers)
    ∙ ap (λ (n : ℕ). sum (bytes_before registers) + n) (sum_by-cons (λ (n : ℕ). n) checksum (bytes_behind registers))

sum_split : (registers checksum : ℕ) → sum (spelling (table_with registers checksum)) ≡ sum (bytes_before registers) + (checksum + sum (bytes_behind registers))
sum_split registers checksum = ap (λ (bytes : List ℕ). sum bytes) (split registers checksum) ∙ sum_around registers checksum

sum_is : (registers : ℕ) → sum (bytes_before registers ++ port_checksum registers ∷ bytes_behind registers) % 256 ≡ 0
unfolding port_checksum
sum_is registers =
    let blank : sum (spelling (table_with registers 0)) ≡ sum (bytes_before registers) + (0 + sum (bytes_behind registers)) = sum_split registers 0 in
    ap (λ (n : ℕ). n % 256) (sum_around registers ((256 - sum (spelling (table_with registers 0)) % 256) % 256))
    ∙ of_sums (sum (bytes_before registers)) (sum (bytes_behind registers)) (sum (spelling (table_with registers 0))) blank
  where
    of_sums : (before behind all : ℕ) → all ≡ before + (0 + behind) → (before + ((256 - all % 256) % 256 + behind)) % 256 ≡ 0
    of_sums before behind all is = omega arith

length_there : (registers checksum : ℕ) → number_at (spelling (table_with registers checksum)) 4 4 ≡ port_size
unfolding number_at part spelling front_spelling header_spelling entry_spelling spelled port_entries
length_there registers checksum = refl

checksum_byte : (registers : ℕ) → port_checksum registers < 256
unfolding port_checksum
checksum_byte registers = omega arith

-- The table

pub table_size : (registers checksum : ℕ) → length (spelling (table_with registers checksum)) ≡ port_size
unfolding spelling front_spelling header_spelling entry_spelling spelled port_entries
table_size registers checksum = refl

table_is : (registers checksum : ℕ) → IsSealed (spelling (table_with registers checksum)) → IsErst (table_with registers checksum) (spelling (table_with registers checksum))
table_is registers checksum sealed = record { sealed = sealed; spelled = refl; named = refl; size = inl refl; counted = entry_count registers }

-- How it is made

-- the header that all tables share
header_put : (old new : List ℕ) (header : Header) → length old ≡ port_size → header ≡ own_header (codes "ERST") port_size 0 → new ≡ put_at old 0 (header_spelling header)
    → Wrote old new 0 36 (header_spelling (own_header (codes "ERST") port_size 0))
header_put old new header size is put =
    let long : length (header_spelling (own_header (codes "ERST") port_size 0)) ≡ 36 = unfold header_spelling spelled in refl in
    record { fits = omega arith; end_is = omega arith; put = put ∙ ap (λ (h : Header). put_at old 0 (header_spelling h)) is }

-- and the numbers behind it
pub front_put : (registers : ℕ) (old first second third fourth : List ℕ) (reserved count end : ℕ) (header : Header) → length old ≡ port_size → header ≡ own_header (codes "ERST") port_size 0
    → first ≡ put_at old 0 (header_spelling header) → Wrote first second 36 reserved (spelled 4 48) → Wrote second third reserved count (spelled 4 0) → Wrote third fourth count end (spelled 4 26)
    → Wrote old fourth 0 end (front_spelling (table_with registers 0))
unfolding front_spelling
front_put registers old first second third fourth reserved count end header size is put next then_next last =
    wrote_then old third fourth 0 count end _ (spelled 4 26)
    (wrote_then old second third 0 reserved count _ (spelled 4 0)
    (wrote_then old first second 0 36 reserved (header_spelling (own_header (codes "ERST") port_size 0)) (spelled 4 48) (header_put old first header size is put) next) then_next)
    last

pub no_entry : (registers : ℕ) (old new : List ℕ) (end : ℕ) → Wrote old new 0 end (front_spelling (table_with registers 0))
    → Wrote old new 0 end (front_spelling (table_with registers 0) ++ entries_spelling (take 0 (port_entries registers)))
no_entry registers old new end wrote = subst (Wrote old new 0 end) (sym (append-nil (front_spelling (table_with registers 0)))) wrote

-- one entry more
pub next_entry : (registers : ℕ) (old mid new : List ℕ) (at end n : ℕ) (items : List Entry) (d : Entry) (bytes : List ℕ) → items ≡ port_entries registers →
    n < port_count → bytes ≡ entry_spelling (get_or items n d)
    → Wrote old mid 0 at (front_spelling (table_with registers 0) ++ entries_spelling (take n (port_entries registers))) → Wrote mid new at end bytes
    → Wrote old new 0 end (front_spelling (table_with registers 0) ++ entries_spelling (take (n + 1) (port_entries registers)))
next_entry registers old mid new at end n items d bytes all within here wrote next =
    let entries = port_entries registers in
    let front : List ℕ = front_spelling (table_with registers 0) in
    let spelled_here : bytes ≡ entry_spelling (get_or entries n d) = here ∙ ap (λ (es : List Entry). entry_spelling (get_or es n d)) all in
    let more : entries_spelling (take (n + 1) entries) ≡ entries_spelling (take n entries) ++ bytes =
    upto-next entries n d (omega (arith, entry_count registers)) ∙ ap (λ (xs : List ℕ). entries_spelling (take n entries) ++ xs) (sym spelled_here) in
    subst (Wrote old new 0 end) (append_assoc front (entries_spelling (take n entries)) bytes ∙ ap (λ (xs : List ℕ). front ++ xs) (sym more))
    (wrote_then old mid new 0 at end (front ++ entries_spelling (take n entries)) bytes wrote next)

-- there is room for it
pub has_room : (registers : ℕ) (old mid : List ℕ) (at n : ℕ) → length old ≡ port_size → n < port_count
    → Wrote old mid 0 at (front_spelling (table_with registers 0) ++ entries_spelling (take n (port_entries registers))) → at + 32 ≤ length mid
has_room registers old mid at n size within wrote =
    let entries = port_entries registers in
    let front : List ℕ = front_spelling (table_with registers 0) in
    let all = length-append front (entries_spelling (take n entries)) in
    let before : length front ≡ 48 = unfold front_spelling header_spelling spelled in refl in
    let each : length (entries_spelling (take n entries)) ≡ 32 * length (take n entries) = length-entries_spelling (take n entries) in
    let few : length (take n entries) ≡ n = length-take-le n entries (omega (arith, entry_count registers)) in
    let same : length mid ≡ length old = ap (λ (xs : List ℕ). length xs) wrote.put ∙ length-put_at old 0 (front ++ entries_spelling (take n entries)) wrote.fits in
    omega (arith, wrote.end_is)

-- the bytes that were written, once they are sealed
pub table_sealed : (registers : ℕ) (old before after : List ℕ) (end n : ℕ) → length old ≡ port_size → port_count ≤ n
    → Wrote old before 0 end (front_spelling (table_with registers 0) ++ entries_spelling (take n (port_entries registers)))
    → SameOutside 9 1 before after → sum after % 256 ≡ 0 → get_or after 9 0 < 256 → after ≡ spelling (port_erst registers)
unfolding spelling
table_sealed registers old before after end n size all wrote outside sums byte =
    let entries = port_entries registers in
    let whole : take n entries ≡ entries = take_all n entries (omega (arith, entry_count registers)) in
    let long : length (spelling (table_with registers 0)) ≡ port_size = table_size registers 0 in
    let is : before ≡ spelling (table_with registers 0) =
    wrote.put ∙ ap (λ (es : List Entry). put_at old 0 (front_spelling (table_with registers 0) ++ entries_spelling es)) whole
    ∙ put_at-all old (spelling (table_with registers 0)) (long ∙ sym size) in
    let some : 9 < length before = let same : length before ≡ length (spelling (table_with registers 0)) = ap (λ (xs : List ℕ). length xs) is in omega arith in
    sealed_is before after (bytes_before registers) (bytes_behind registers) (port_checksum registers) outside
    (ap (take 9) is ∙ first registers) (ap (drop 10) is ∙ rest registers) some sums byte (checksum_byte registers) (sum_is registers)
    ∙ sym (split registers (port_checksum registers))
  where
    first : (registers : ℕ) → take 9 (spelling (table_with registers 0)) ≡ bytes_before registers
    first registers = unfold bytes_before in refl

    rest : (registers : ℕ) → drop 10 (spelling (table_with registers 0)) ≡ bytes_behind registers
    rest registers = unfold bytes_behind in refl

-- and they are the table
pub is_erst : (registers : ℕ) (bytes : List ℕ) → bytes ≡ spelling (port_erst registers) → IsErst (port_erst registers) bytes
is_erst registers bytes is =
    let sealed : IsSealed (spelling (port_erst registers)) = record {
      size = let long = table_size registers (port_checksum registers) in omega arith;
      length_field = length_there registers (port_checksum registers) ∙ sym (table_size registers (port_checksum registers));
      sum = ap (λ (n : ℕ). n % 256) (ap (λ (xs : List ℕ). sum xs) (split registers (port_checksum registers))) ∙ sum_is registers;
    } in
    subst (IsErst (port_erst registers)) (sym is) (table_is registers (port_checksum registers) sealed)
