-- A line that gives a table. `tells` says whether the flash tells its content.
use Rattle.std.specs.Prelude.{◌≡◌, ℕ, List, ◌++◌, codes, length, Option, Some, None, Ok, Err}
use Rattle.apei_space.specs.Accesses.{Reaches}
use Rattle.erst_entries.specs.declared.tables.ErstError.{ErstError}
use Rattle.erst_entries.specs.Layout.{Erst, FitsErst}
use Rattle.erst_entries.specs.Tables.{IsErst, refusal}
use Rattle.erst_client.specs.declared.errors.AttachError.{AttachError}
use Rattle.erst_client.specs.Attaching.{Attaches}
use Rattle.erst_client.specs.Commands.{ClientState}
use Rattle.erst_machine.specs.MachineState.{MachineState}
use Rattle.erst_machine.specs.Allowed.{Allows}
use Rattle.apei_script.specs.ClientWords.{words_of_attach}
use Rattle.script_text.specs.TableWords.{words_of_erst}
use Rattle.apei_script.specs.Words.{refused, words_of_table}

-- the steps that attaching to a table is given
abbrev pub ATTACH_STEPS : ℕ
ATTACH_STEPS = 64

-- some bytes begin with a table, and with no other one
pub record BeginsWith (erst : Erst) (bytes : List ℕ) : Type 0 where
  pub table_bytes : List ℕ
  pub behind : List ℕ
  pub split : bytes ≡ table_bytes ++ behind
  pub fits : FitsErst erst
  pub is : IsErst erst table_bytes
  pub sound : refusal bytes ≡ None
  pub only : (other : Erst) (table rest : List ℕ) → bytes ≡ table ++ rest → FitsErst other → IsErst other table → other ≡ erst

-- the machine before, the client that a line gave before, the bytes of this line, the words of its reply, and machine and client
-- afterwards. Bytes that begin with no table are refused, and where no client attaches to it, the client stays
pub data GivesTable (tells : Type 0) (old : MachineState) (other : Option ClientState) (bytes : List ℕ) : List ℕ → MachineState → Option ClientState → Type 0 where
  IsNoTable : (why : ErstError) → refusal bytes ≡ Some why → GivesTable tells old other bytes (refused (codes "table " ++ words_of_erst why)) old other
  IsNotAttached : (erst : Erst) (why : AttachError) (left : ℕ) (new : MachineState) → BeginsWith erst bytes
      → Attaches (Allows tells) erst ATTACH_STEPS old (Err why) left new → Reaches (Allows tells) old new
      → GivesTable tells old other bytes (refused (words_of_attach why)) new other
  IsAttached : (erst : Erst) (client : ClientState) (left : ℕ) (new : MachineState) → BeginsWith erst bytes
      → Attaches (Allows tells) erst ATTACH_STEPS old (Ok client) left new → Reaches (Allows tells) old new
      → GivesTable tells old other bytes (words_of_table (length erst.entries)) new (Some client)
