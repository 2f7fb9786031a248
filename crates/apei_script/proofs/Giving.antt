-- What a line that gives a table comes to.
use Rattle.std.proofs.Common.{◌≡◌, ℕ, List, ◌++◌, length, take, drop, Option, Some, None, Ok, Err, sym, subst}
use Rattle.std.proofs.lemmas.List.{take-append-drop}
use Rattle.hex.specs.Hex.{decode_of}
use Rattle.apei_space.specs.Accesses.{Reaches}
use Rattle.erst_entries.specs.declared.tables.ErstError.{ErstError}
use Rattle.erst_entries.specs.declared.tables.ErstError.TheVariants.{Table, HeaderSize, Count, Memory}
use Rattle.erst_entries.specs.Layout.{Erst, FitsErst}
use Rattle.erst_entries.specs.Tables.{IsErst, IsRefusal, refusal}
use Rattle.erst_client.specs.declared.errors.AttachError.{AttachError}
use Rattle.erst_client.specs.Attaching.{Attaches}
use Rattle.erst_client.specs.Commands.{ClientState}
use Rattle.erst_machine.specs.MachineState.{MachineState}
use Rattle.erst_machine.specs.Allowed.{Allows}
use Rattle.apei_script.specs.ClientWords.{words_of_attach}
use Rattle.script_text.specs.TableWords.{ErstHasWords}
use Rattle.script_text.specs.ScriptGrammar.{table}
use Rattle.apei_script.specs.Words.{refused, words_of_table}
use Rattle.apei_script.specs.Plays.{BringsTable, Given}
use Rattle.apei_script.specs.Tables.{ATTACH_STEPS, BeginsWith, GivesTable, IsNotAttached, IsAttached}

-- the reason of a refusal that is not want of memory
pub refused_for : (bytes : List ℕ) (why : ErstError) → ErstHasWords why → IsRefusal bytes why → refusal bytes ≡ Some why
refused_for bytes (Table error) has is = is
refused_for bytes (HeaderSize found) has is = is
refused_for bytes (Count found size) has is = is
refused_for bytes Memory has is = absurd has

-- memory is wanting only where a table stands first
pub wants_memory : (hex bytes : List ℕ) (why : ErstError) → decode_of hex ≡ Ok bytes → why ≡ Memory → IsRefusal bytes why → BringsTable (table hex)
wants_memory hex bytes why decoded is refuses = Given hex bytes decoded (subst (IsRefusal bytes) is refuses)

-- a table that was read stands first, and no other one does
pub begins_with : (erst : Erst) (bytes : List ℕ) (size : ℕ) → IsErst erst (take size bytes) → FitsErst erst → refusal bytes ≡ None
    → ((other : Erst) (table rest : List ℕ) → bytes ≡ table ++ rest → FitsErst other → IsErst other table → (erst ≡ other) × (size ≡ length table)) → BeginsWith erst bytes
begins_with erst bytes size is fits sound only = record {
  table_bytes = take size bytes;
  behind = drop size bytes;
  split = sym (take-append-drop size bytes);
  fits = fits;
  is = is;
  sound = sound;
  only = λ other table rest split fits_too is_too. sym (only other table rest split fits_too is_too).0;
}

module _ (tells : Type 0) (old : MachineState) (other : Option ClientState) (bytes : List ℕ) where
  pub not_attached : (erst : Erst) (why : AttachError) (budget left : ℕ) (new : MachineState) → BeginsWith erst bytes → budget ≡ ATTACH_STEPS
      → Attaches (Allows tells) erst budget old (Err why) left new → Reaches (Allows tells) old new → GivesTable tells old other bytes (refused (words_of_attach why)) new other
  not_attached erst why budget left new begins given attaches reaches =
      IsNotAttached erst why left new begins (subst (λ (n : ℕ). Attaches (Allows tells) erst n old (Err why) left new) given attaches) reaches

  pub attached : (erst : Erst) (client : ClientState) (budget left : ℕ) (new : MachineState) (entries : ℕ) → BeginsWith erst bytes → budget ≡ ATTACH_STEPS
      → Attaches (Allows tells) erst budget old (Ok client) left new → Reaches (Allows tells) old new → entries ≡ length erst.entries
      → GivesTable tells old other bytes (words_of_table entries) new (Some client)
  attached erst client budget left new entries begins given attaches reaches many =
      subst (λ (n : ℕ). GivesTable tells old other bytes (words_of_table n) new (Some client)) (sym many)
      (IsAttached erst client left new begins (subst (λ (n : ℕ). Attaches (Allows tells) erst n old (Ok client) left new) given attaches) reaches)
