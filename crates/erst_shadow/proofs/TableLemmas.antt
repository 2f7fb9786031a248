-- The table is one, and the number of its pieces says each of its bytes.
use Rattle.std.proofs.Common.{◌≡◌, ◌∙◌, ℕ, ◌+◌, ◌-◌, ◌*◌, ◌%◌, ◌<◌, ◌≤◌, ◌^◌, List, [], ◌∷◌, ◌++◌, length, take, drop, refl, sym, ap, subst, arith, lit<, inl}
use Rattle.std.specs.Prelude.{codes, sum}
use Rattle.std.proofs.lemmas.List.Sums.{sum_by-append, sum_by-cons}
use Rattle.base_model.specs.Bytes.{spelled}
use Rattle.apei_tables.specs.GasLayout.{IsGas}
use Rattle.apei_tables.specs.declared.headers.Header.{Header}
use Rattle.apei_tables.specs.Layout.{spelling as header_spelling}
use Rattle.apei_tables.specs.Tables.{IsSealed}
use Rattle.erst_entries.specs.declared.actions.Action.{Action}
use Rattle.erst_entries.specs.declared.actions.Action.TheVariants.{BeginWriteOperation, BeginReadOperation, BeginClearOperation, EndOperation, SetRecordOffset}
use Rattle.erst_entries.specs.declared.actions.Action.TheVariants.{ExecuteOperation, CheckBusyStatus, GetCommandStatus, GetRecordIdentifier}
use Rattle.erst_entries.specs.declared.actions.Action.TheVariants.{SetRecordIdentifier, GetRecordCount, BeginDummyWriteOperation, GetErrorLogAddressRange}
use Rattle.erst_entries.specs.declared.actions.Action.TheVariants.{GetErrorLogAddressRangeLength, GetErrorLogAddressRangeAttributes}
use Rattle.erst_entries.specs.declared.entries.Entry.{Entry}
use Rattle.erst_entries.specs.Layout.{Erst, IsEntry, AreEntries, entry_spelling, front_spelling, spelling, FitsErst}
use Rattle.erst_entries.specs.Tables.{IsErst, Finished}
use Rattle.erst_device.specs.Actions.{log_range_at}
use Rattle.erst_machine.specs.OwnTables.{own_header, tell, told_actions, register_of}
use Rattle.erst_machine.proofs.TableLemmas.{entry_fits, act_fits, give_fits, is_one_fits, answer_fits, tell_fits}
use Rattle.erst_shadow.specs.MoveEntries.{MoveRegister, Offset, Source, Target, Length, address_of, put_number, use_register, move_entries}
use Rattle.erst_shadow.specs.ShadowTables.{entries_before, entries_between, entries_behind, shadow_entries, shadow_count, table_with, shadow_checksum, shadow_erst}
use Rattle.erst_shadow.proofs.Terms.{scratch_at}

-- Entries fit their fields

none_gas : IsGas (register_of 0 0 0)
none_gas = record { space = lit< tt; width = lit< tt; offset = lit< tt; access = lit< tt; address = lit< tt }

move_gas : (r : MoveRegister) → IsGas (register_of 64 4 (address_of r))
move_gas Offset = record { space = lit< tt; width = lit< tt; offset = lit< tt; access = lit< tt; address = lit< tt }
move_gas Source = record { space = lit< tt; width = lit< tt; offset = lit< tt; access = lit< tt; address = lit< tt }
move_gas Target = record { space = lit< tt; width = lit< tt; offset = lit< tt; access = lit< tt; address = lit< tt }
move_gas Length = record { space = lit< tt; width = lit< tt; offset = lit< tt; access = lit< tt; address = lit< tt }

number_fits : (action : Action) (r : MoveRegister) (value : ℕ) → value < 2 ^ 64 → IsEntry (put_number action r value)
number_fits action r value fits = entry_fits action 3 (register_of 64 4 (address_of r)) value _ (lit< tt) (move_gas r) fits (lit< tt)

register_fits : (action : Action) (code : ℕ) (r : MoveRegister) → code < 256 → IsEntry (use_register action code r)
register_fits action code r fits = entry_fits action code (register_of 64 4 (address_of r)) 0 _ fits (move_gas r) (lit< tt) (lit< tt)

AreEntries-append : (xs ys : List Entry) → AreEntries xs → AreEntries ys → AreEntries (xs ++ ys)
AreEntries-append [] ys front rest = rest
AreEntries-append (x ∷ xs) ys front rest = (front.0, AreEntries-append xs ys front.1 rest)

move_fits : (action : Action) (from target size : ℕ) → from < 2 ^ 64 → target < 2 ^ 64 → size < 2 ^ 64 → AreEntries (move_entries action from target size)
unfolding move_entries
move_fits action from target size from_fits target_fits size_fits = (
  number_fits action Source from from_fits,
  (
    number_fits action Target target target_fits,
    (
      number_fits action Length 128 (lit< tt),
      (
        number_fits action Offset 0 (lit< tt),
        (
          register_fits action 0x10 Source (lit< tt),
          (
            register_fits action 0x11 Target (lit< tt),
            (
              register_fits action 0x06 Length (lit< tt),
              (
                register_fits action 0x12 Offset (lit< tt),
                (
                  register_fits action 0x05 Offset (lit< tt),
                  (
                    entry_fits action 0x08 (register_of 0 0 0) 0 0 (lit< tt) none_gas (lit< tt) (lit< tt),
                    (
                      register_fits action 0x07 Offset (lit< tt),
                      (
                        entry_fits action 0x0E (register_of 64 4 (address_of Offset)) size _ (lit< tt) (move_gas Offset) size_fits
                            (lit< tt),
                        (entry_fits action 0x0F (register_of 0 0 0) 7 0 (lit< tt) none_gas (lit< tt) (lit< tt), tt),
                      ),
                    ),
                  ),
                ),
              ),
            ),
          ),
        ),
      ),
    ),
  ),
)

before_fit : AreEntries entries_before
before_fit =
    (act_fits BeginWriteOperation, (act_fits BeginReadOperation, (act_fits BeginClearOperation, (act_fits EndOperation, (give_fits SetRecordOffset, (act_fits SetRecordOffset, tt))))))

between_fit : AreEntries entries_between
between_fit = (act_fits ExecuteOperation, (act_fits CheckBusyStatus, (is_one_fits CheckBusyStatus, tt)))

behind_fit : (size : ℕ) → size < 2 ^ 64 → AreEntries (entries_behind size)
behind_fit size fits = (
  act_fits GetCommandStatus,
  (
    answer_fits GetCommandStatus 0xFF (lit< tt),
    (
      act_fits GetRecordIdentifier,
      (
        answer_fits GetRecordIdentifier _ (lit< tt),
        (
          give_fits SetRecordIdentifier,
          (
            act_fits SetRecordIdentifier,
            (
              act_fits GetRecordCount,
              (
                answer_fits GetRecordCount _ (lit< tt),
                (
                  act_fits BeginDummyWriteOperation,
                  (
                    number_fits GetErrorLogAddressRange Source scratch_at (lit< tt),
                    (
                      register_fits GetErrorLogAddressRange 0x0 Source (lit< tt),
                      (
                        number_fits GetErrorLogAddressRangeLength Length size fits,
                        (
                          register_fits GetErrorLogAddressRangeLength 0x0 Length (lit< tt),
                          (
                            number_fits GetErrorLogAddressRangeAttributes Offset 0 (lit< tt),
                            (register_fits GetErrorLogAddressRangeAttributes 0x0 Offset (lit< tt), tt),
                          ),
                        ),
                      ),
                    ),
                  ),
                ),
              ),
            ),
          ),
        ),
      ),
    ),
  ),
)

entries_fit : (pieces : ℕ) → pieces ≤ 31 → AreEntries (shadow_entries pieces)
unfolding shadow_entries
entries_fit pieces few =
    let size : 128 * pieces < 2 ^ 64 = omega arith in
    AreEntries-append entries_before _ before_fit
    (AreEntries-append (move_entries ExecuteOperation scratch_at log_range_at (128 * pieces)) _ (move_fits ExecuteOperation scratch_at log_range_at (128 * pieces) (lit< tt) (lit< tt) size)
    (AreEntries-append entries_between _ between_fit
    (AreEntries-append (move_entries GetCommandStatus log_range_at scratch_at (128 * pieces)) _ (move_fits GetCommandStatus log_range_at scratch_at (128 * pieces) (lit< tt) (lit< tt) size)
    (AreEntries-append (entries_behind (128 * pieces)) (tell told_actions) (behind_fit (128 * pieces) size) (tell_fits told_actions)))))

count_is : (pieces : ℕ) → length (shadow_entries pieces) ≡ shadow_count
unfolding shadow_entries move_entries
count_is pieces = refl

-- The checksum

unfoldable table_front : ℕ → List ℕ
table_front pieces = take 9 (spelling (table_with pieces 0))

unfoldable table_rest : ℕ → List ℕ
table_rest pieces = drop 10 (spelling (table_with pieces 0))

around : (pieces checksum : ℕ) → spelling (table_with pieces checksum) ≡ table_front pieces ++ checksum ∷ table_rest pieces
unfolding table_front table_rest spelling front_spelling header_spelling entry_spelling spelled shadow_entries move_entries
around pieces checksum = refl

sum-byte : (front rest : List ℕ) (x : ℕ) → sum (front ++ x ∷ rest) ≡ sum front + (x + sum rest)
sum-byte front rest x = sum_by-append (λ (n : ℕ). n) front (x ∷ rest) ∙ ap (λ (n : ℕ). sum front + n) (sum_by-cons (λ (n : ℕ). n) x rest)

sum_around : (pieces checksum : ℕ) → sum (spelling (table_with pieces checksum)) ≡ sum (table_front pieces) + (checksum + sum (table_rest pieces))
sum_around pieces checksum = ap (λ (xs : List ℕ). sum xs) (around pieces checksum) ∙ sum-byte (table_front pieces) (table_rest pieces) checksum

checksum_is : (pieces checksum : ℕ) → checksum < 256 → sum (spelling (table_with pieces checksum)) % 256 ≡ 0 → checksum ≡ shadow_checksum pieces
unfolding shadow_checksum
checksum_is pieces checksum byte sealed =
    let blank : sum (spelling (table_with pieces 0)) ≡ sum (table_front pieces) + (0 + sum (table_rest pieces)) = sum_around pieces 0 in
    let all : (sum (table_front pieces) + (checksum + sum (table_rest pieces))) % 256 ≡ 0 = sym (ap (λ (n : ℕ). n % 256) (sum_around pieces checksum)) ∙ sealed in
    by_number (sum (table_front pieces)) (sum (table_rest pieces)) all ∙ ap (λ (n : ℕ). (256 - n % 256) % 256) (sym blank)
  where
    by_number : (front rest : ℕ) → (front + (checksum + rest)) % 256 ≡ 0 → checksum ≡ (256 - (front + (0 + rest)) % 256) % 256
    by_number front rest all = omega (arith, byte)

checksum_low : (pieces : ℕ) → shadow_checksum pieces < 256
unfolding shadow_checksum
checksum_low pieces = omega arith

-- The table

pub erst_fits : (pieces : ℕ) → pieces ≤ 31 → FitsErst (shadow_erst pieces)
erst_fits pieces few = record {
  header = record {
    signature = refl;
    size = lit< tt;
    revision = lit< tt;
    checksum = checksum_low pieces;
    oem_id = refl;
    oem_table_id = refl;
    oem_revision = lit< tt;
    creator_id = refl;
    creator_revision = lit< tt;
  };
  header_size = lit< tt;
  reserved = lit< tt;
  count = lit< tt;
  entries = entries_fit pieces few;
}

pub erst_size : (pieces checksum : ℕ) → length (spelling (table_with pieces checksum)) ≡ 48 + 32 * shadow_count
unfolding spelling front_spelling header_spelling entry_spelling spelled shadow_entries move_entries
erst_size pieces checksum = refl

pub erst_is : (pieces checksum : ℕ) → IsSealed (spelling (table_with pieces checksum)) → IsErst (table_with pieces checksum) (spelling (table_with pieces checksum))
erst_is pieces checksum sealed = record { sealed = sealed; spelled = refl; named = refl; size = inl refl; counted = count_is pieces }

-- How it was made

-- a table before its end is set
abbrev pub blank_with : List Entry → Erst
blank_with entries = record { header = own_header (codes "ERST") 0 0; header_size = 48; reserved = 0; count = 0; entries = entries }

-- entries were put behind others
pub put_behind : (before after : Erst) (there more others : List Entry) → before ≡ blank_with there → after ≡ record before { entries = before.entries ++ more }
    → more ≡ others → after ≡ blank_with (there ++ others)
put_behind before after there more others is put same = put ∙ ap (λ (t : Erst). record t { entries = t.entries ++ more }) is ∙ ap (λ (es : List Entry). blank_with (there ++ es)) same

-- the lists together
pub all_entries : (pieces : ℕ)
    → ((((([] ++ entries_before) ++ move_entries ExecuteOperation scratch_at log_range_at (128 * pieces)) ++ entries_between) ++ move_entries GetCommandStatus
    log_range_at scratch_at (128 * pieces)) ++ entries_behind (128 * pieces)) ++ tell told_actions
    ≡ shadow_entries pieces
unfolding move_entries shadow_entries
all_entries pieces = refl

finished_is : (pieces : ℕ) (before after : Erst) → before ≡ blank_with (shadow_entries pieces) → Finished before after → after ≡ table_with pieces after.header.checksum
finished_is pieces before after is finished =
    let size : after.header.length ≡ 48 + 32 * shadow_count = finished.size ∙ ap (λ (t : Erst). 48 + 32 * length t.entries) is ∙ ap (λ (n : ℕ). 48 + 32 * n) (count_is pieces) in
    let count : after.count ≡ shadow_count = finished.counted ∙ ap (λ (t : Erst). length t.entries) is ∙ count_is pieces in
    let header : after.header ≡ own_header (codes "ERST") (48 + 32 * shadow_count) after.header.checksum =
    finished.header ∙ ap (λ (t : Erst). record t.header { length = after.header.length; checksum = after.header.checksum }) is
    ∙ ap (λ (n : ℕ). own_header (codes "ERST") n after.header.checksum) size in
    finished.others ∙ ap (λ (t : Erst). record t { header = after.header; count = after.count }) is
    ∙ ap (λ (h : Header). record { header = h; header_size = 48; reserved = 0; count = after.count; entries = shadow_entries pieces }) header
    ∙ ap (λ (n : ℕ). record { header = own_header (codes "ERST") (48 + 32 * shadow_count) after.header.checksum; header_size = 48; reserved = 0; count = n; entries = shadow_entries pieces }) count

-- what was put together, sealed
pub record IsShadow (pieces : ℕ) (table : Erst) : Type 0 where
  pub table_is : table ≡ shadow_erst pieces
  pub size : length (spelling table) ≡ 48 + 32 * shadow_count
  pub erst : IsErst table (spelling table)

pub is_shadow : (pieces : ℕ) (before after : Erst) → before ≡ blank_with (shadow_entries pieces) → Finished before after → IsSealed (spelling after) →
    after.header.checksum < 256 → IsShadow pieces after
is_shadow pieces before after is finished sealed byte =
    let checksum = after.header.checksum in
    let made : after ≡ table_with pieces checksum = finished_is pieces before after is finished in
    let seals : IsSealed (spelling (table_with pieces checksum)) = subst (λ (t : Erst). IsSealed (spelling t)) made sealed in
    let same : checksum ≡ shadow_checksum pieces = checksum_is pieces checksum byte seals.sum in
    record {
      table_is = made ∙ ap (table_with pieces) same;
      size = ap (λ (t : Erst). length (spelling t)) made ∙ erst_size pieces checksum;
      erst = subst (λ (t : Erst). IsErst t (spelling t)) (sym made) (erst_is pieces checksum seals);
    }
