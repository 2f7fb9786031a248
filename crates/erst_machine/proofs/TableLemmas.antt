-- The machine's own tables are tables.
use Rattle.std.proofs.Common.{◌≡◌, ℕ, ◌<◌, ◌≤◌, ◌^◌, List, [], ◌∷◌, ◌++◌, length, drop, refl, sym, subst, arith, lit<, lit≤, inl}
use Rattle.std.specs.Prelude.{codes}
use Rattle.base_model.specs.Bytes.{part, number_at, spelled}
use Rattle.apei_tables.specs.declared.structure.Gas.{Gas}
use Rattle.apei_tables.specs.GasLayout.{IsGas}
use Rattle.apei_tables.specs.Layout.{spelling as header_spelling, IsHeader}
use Rattle.apei_tables.specs.Tables.{IsSealed, IsTable}
use Rattle.erst_entries.specs.declared.actions.Action.{Action}
use Rattle.erst_entries.specs.declared.actions.Action.TheVariants.{BeginWriteOperation, BeginReadOperation, BeginClearOperation, EndOperation, SetRecordOffset}
use Rattle.erst_entries.specs.declared.actions.Action.TheVariants.{ExecuteOperation, CheckBusyStatus, GetCommandStatus, GetRecordIdentifier}
use Rattle.erst_entries.specs.declared.actions.Action.TheVariants.{SetRecordIdentifier, GetRecordCount, BeginDummyWriteOperation, GetErrorLogAddressRange}
use Rattle.erst_entries.specs.declared.actions.Action.TheVariants.{GetErrorLogAddressRangeLength, GetErrorLogAddressRangeAttributes}
use Rattle.erst_entries.specs.Actions.{code_of, plain_entry}
use Rattle.erst_entries.specs.Layout.{IsEntry, AreEntries, entry_spelling, front_spelling, spelling, FitsErst}
use Rattle.erst_entries.specs.Tables.{IsErst}
use Rattle.hest_sources.specs.declared.sources.HestSource.TheVariants.{Ghes as Generic}
use Rattle.hest_sources.specs.Layout.{ghes_bytes, IsGhes}
use Rattle.hest_sources.specs.Tables.{IsHest}
use Rattle.ghes_block.specs.Table.{IsBert}
use Rattle.erst_machine.specs.OwnTables.{own_header, value_register, act, give, is_one, answer, tell, told_actions, own_entries, own_size, own_erst, own_source, own_hest, own_bert, own_bert_bytes}
use Rattle.erst_machine.proofs.SealLemmas.{count_is}
use Rattle.erst_machine.proofs.Words.{action_register}

-- entries fit their fields
pub code_fits : (action : Action) → code_of action < 256
code_fits BeginWriteOperation = lit< tt
code_fits action = lit< tt

pub action_gas : IsGas action_register
action_gas = record { space = lit< tt; width = lit< tt; offset = lit< tt; access = lit< tt; address = lit< tt }

pub value_gas : IsGas value_register
value_gas = record { space = lit< tt; width = lit< tt; offset = lit< tt; access = lit< tt; address = lit< tt }

pub entry_fits : (action : Action) (code : ℕ) (region : Gas) (value mask : ℕ) → code < 256 → IsGas region → value < 2 ^ 64 → mask < 2 ^ 64 → IsEntry (plain_entry action code region value mask)
entry_fits action code region value mask code_is region_is value_is mask_is = record {
  action = code_fits action;
  code = code_is;
  flags = lit< tt;
  spare = lit< tt;
  region = region_is;
  value = value_is;
  mask = mask_is;
}

pub act_fits : (action : Action) → IsEntry (act action)
act_fits action = let small : code_of action < 256 = code_fits action in entry_fits action 3 action_register _ _ (lit< tt) action_gas (omega arith) (lit< tt)

pub give_fits : (action : Action) → IsEntry (give action)
give_fits action = entry_fits action 2 value_register _ _ (lit< tt) value_gas (lit< tt) (lit< tt)

pub is_one_fits : (action : Action) → IsEntry (is_one action)
is_one_fits action = entry_fits action 1 value_register _ _ (lit< tt) value_gas (lit< tt) (lit< tt)

pub answer_fits : (action : Action) (mask : ℕ) → mask < 2 ^ 64 → IsEntry (answer action mask)
answer_fits action mask fits = entry_fits action 0 value_register 0 mask (lit< tt) value_gas (lit< tt) fits

-- and those of actions that tell a number
pub tell_fits : (actions : List Action) → AreEntries (tell actions)
tell_fits [] = tt
tell_fits (action ∷ rest) = (act_fits action, (answer_fits action _ (lit< tt), tell_fits rest))

entries_fit : AreEntries own_entries
unfolding own_entries
entries_fit = (
  act_fits BeginWriteOperation,
  (
    act_fits BeginReadOperation,
    (
      act_fits BeginClearOperation,
      (
        act_fits EndOperation,
        (
          give_fits SetRecordOffset,
          (
            act_fits SetRecordOffset,
            (
              act_fits ExecuteOperation,
              (
                act_fits CheckBusyStatus,
                (
                  is_one_fits CheckBusyStatus,
                  (
                    act_fits GetCommandStatus,
                    (
                      answer_fits GetCommandStatus _ (lit< tt),
                      (
                        act_fits GetRecordIdentifier,
                        (
                          answer_fits GetRecordIdentifier _ (lit< tt),
                          (
                            give_fits SetRecordIdentifier,
                            (
                              act_fits SetRecordIdentifier,
                              (
                                act_fits GetRecordCount,
                                (
                                  answer_fits GetRecordCount _ (lit< tt),
                                  (
                                    act_fits BeginDummyWriteOperation,
                                    tell_fits (GetErrorLogAddressRange ∷ GetErrorLogAddressRangeLength ∷ GetErrorLogAddressRangeAttributes ∷
                                        told_actions),
                                  ),
                                ),
                              ),
                            ),
                          ),
                        ),
                      ),
                    ),
                  ),
                ),
              ),
            ),
          ),
        ),
      ),
    ),
  ),
)

header_fits : (signature : List ℕ) (size checksum : ℕ) → length signature ≡ 4 → size < 2 ^ 32 → checksum < 256 → IsHeader (own_header signature size checksum)
header_fits signature size checksum four small byte = record {
  signature = four;
  size = small;
  revision = lit< tt;
  checksum = byte;
  oem_id = refl;
  oem_table_id = refl;
  oem_revision = lit< tt;
  creator_id = refl;
  creator_revision = lit< tt;
}

pub erst_fits : FitsErst own_erst
erst_fits = record { header = header_fits (codes "ERST") own_size 0x83 refl (lit< tt) (lit< tt); header_size = lit< tt; reserved = lit< tt; count = lit< tt; entries = entries_fit }

own_erst_size : length (spelling own_erst) ≡ own_size
unfolding spelling front_spelling header_spelling entry_spelling spelled own_entries
own_erst_size = refl

pub erst_size : (bytes : List ℕ) → bytes ≡ spelling own_erst → length bytes ≡ own_size
erst_size bytes is = subst (λ (xs : List ℕ). length xs ≡ own_size) (sym is) own_erst_size

erst_sealed : IsSealed (spelling own_erst)
unfolding spelling front_spelling header_spelling entry_spelling spelled own_entries number_at part
erst_sealed = record { size = lit≤ tt; length_field = refl; sum = refl }

pub erst_is : (bytes : List ℕ) → bytes ≡ spelling own_erst → IsErst own_erst bytes
erst_is bytes is = subst (λ (xs : List ℕ). IsErst own_erst xs) (sym is) (record { sealed = erst_sealed; spelled = refl; named = refl; size = inl refl; counted = count_is })

own_hest_size : length own_hest ≡ 132
unfolding own_hest header_spelling spelled ghes_bytes
own_hest_size = refl

pub hest_size : (bytes : List ℕ) → bytes ≡ own_hest → length bytes ≡ 132
hest_size bytes is = subst (λ (xs : List ℕ). length xs ≡ 132) (sym is) own_hest_size

hest_table : IsTable (own_header (codes "HEST") 132 0x1E) own_hest
unfolding own_hest header_spelling spelled ghes_bytes number_at part
hest_table = record { sealed = record { size = lit≤ tt; length_field = refl; sum = refl }; begins = refl }

hest_count : number_at own_hest 36 4 ≡ 1
unfolding own_hest header_spelling spelled ghes_bytes number_at part
hest_count = refl

hest_rest : drop 40 own_hest ≡ ghes_bytes own_source ++ []
unfolding own_hest header_spelling spelled ghes_bytes
hest_rest = refl

hest_long : 40 ≤ length own_hest
hest_long = subst (λ (n : ℕ). 40 ≤ n) (sym own_hest_size) (lit≤ tt)

source_fits : IsGhes own_source
source_fits = record {
  id = lit< tt;
  related = lit< tt;
  flags = lit< tt;
  enabled = lit< tt;
  records = lit< tt;
  sections = lit< tt;
  raw = lit< tt;
  status = record { space = lit< tt; width = lit< tt; offset = lit< tt; access = lit< tt; address = lit< tt };
  notify = refl;
  block_len = lit< tt;
  ack = (record { space = lit< tt; width = lit< tt; offset = lit< tt; access = lit< tt; address = lit< tt }, lit< tt, lit< tt);
}

own_hest_is : IsHest (Generic own_source ∷ []) own_hest
own_hest_is = record {
  is_table = (own_header (codes "HEST") 132 0x1E, header_fits (codes "HEST") 132 0x1E refl (lit< tt) (lit< tt), hest_table, refl);
  fixed = hest_long;
  count = hest_count;
  sources_are = (ghes_bytes own_source, [], hest_rest, (source_fits, refl), refl);
}

pub hest_is : (bytes : List ℕ) → bytes ≡ own_hest → IsHest (Generic own_source ∷ []) bytes
hest_is bytes is = subst (λ (xs : List ℕ). IsHest (Generic own_source ∷ []) xs) (sym is) own_hest_is

own_bert_size : length own_bert_bytes ≡ 48
unfolding own_bert_bytes header_spelling spelled
own_bert_size = refl

pub bert_size : (bytes : List ℕ) → bytes ≡ own_bert_bytes → length bytes ≡ 48
bert_size bytes is = subst (λ (xs : List ℕ). length xs ≡ 48) (sym is) own_bert_size

own_bert_is : IsBert own_bert own_bert_bytes
unfolding own_bert_bytes header_spelling spelled number_at part
own_bert_is = record {
  is_table = (
    own_header (codes "BERT") 48 0x18,
    header_fits (codes "BERT") 48 0x18 refl (lit< tt) (lit< tt),
    record { sealed = record { size = lit≤ tt; length_field = refl; sum = refl }; begins = refl },
    refl,
  );
  fixed = lit≤ tt;
  len = refl;
  region = refl;
}

pub bert_is : (bytes : List ℕ) → bytes ≡ own_bert_bytes → IsBert own_bert bytes
bert_is bytes is = subst (λ (xs : List ℕ). IsBert own_bert xs) (sym is) own_bert_is
