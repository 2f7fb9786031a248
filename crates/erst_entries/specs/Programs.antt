-- The program of an action.
use Rattle.std.specs.Prelude.{ℕ, ◌==◌, List, filter}
use Rattle.erst_entries.specs.declared.entries.Entry.{Entry}

-- those entries that have the action, in their order
unfoldable pub entries_of : ℕ → List Entry → List Entry
entries_of action entries = filter (λ entry. entry.action == action) entries

-- an action, and its entries
pub record Listed : Type 0 where
  pub action : ℕ
  pub entries : List Entry

abbrev pub program_of : ℕ → List Entry → Listed
program_of action entries = record { action = action; entries = entries_of action entries }
