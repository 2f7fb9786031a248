-- What a line asks of the client in use, and replies to it.
use Rattle.std.proofs.Common.{◌≡◌, ℕ, List, length, Option, Result, Ok, subst}
use Rattle.hex.specs.Hex.{decode_of}
use Rattle.apei_space.specs.Accesses.{Reaches}
use Rattle.erst_entries.specs.Programs.{Listed, program_of}
use Rattle.erst_interp.specs.declared.stops.RunStop.{RunStop}
use Rattle.erst_interp.specs.Runs.{Run}
use Rattle.erst_client.specs.declared.errors.ClientError.{ClientError}
use Rattle.erst_client.specs.Commands.{ClientState, Writes, Reads, Counts, Names}
use Rattle.erst_client.specs.Sequences.{Sequence, clear_requests, dummy_requests}
use Rattle.erst_machine.specs.MachineState.{MachineState}
use Rattle.erst_machine.specs.Allowed.{Allows}
use Rattle.script_text.specs.ScriptGrammar.{write, read, clear, count, next, dummy, action}
use Rattle.apei_script.specs.Players.{asker_of}
use Rattle.apei_script.specs.Replies.{IsMade}
use Rattle.apei_script.specs.Words.{words_of_write, words_of_read, words_of_clear, words_of_count, words_of_next, words_of_dummy, words_of_action}
use Rattle.apei_script.specs.Asked.{READ_BUFFER, WritesRecord, ReadsRecord, ClearsRecord, CountsRecords, FindsNext, WritesDummy, RunsAction, Answers, ReadAsked, Asked}
use Rattle.apei_script.proofs.Lengths.{read_within}

module _ (tells : Type 0) (client : ClientState) (steps : ℕ) (old : MachineState) where
  -- the machine was asked by a command
  pub asked_to_write : (hex bytes : List ℕ) (result : Result (Unit {0}) ClientError) (budget left : ℕ) (new : MachineState) → decode_of hex ≡ Ok bytes → budget ≡ steps
      → Writes (Allows tells) client bytes budget old result left new → Reaches (Allows tells) old new →
      (Asked tells (asker_of client steps) old (write hex) (words_of_write bytes result) new × Reaches (Allows tells) old new)
  asked_to_write hex bytes result budget left new decoded given asks reaches =
      (WritesRecord hex bytes result left new decoded (subst (λ (n : ℕ). Writes (Allows tells) client bytes n old result left new) given asks), reaches)

  pub asked_to_read : (id : ℕ) (out after : List ℕ) (result : Result ℕ ClientError) (budget left : ℕ) (new : MachineState) → length out ≡ READ_BUFFER → budget ≡ steps
      → Reads (Allows tells) client id out budget old result after left new → Reaches (Allows tells) old new →
      (Asked tells (asker_of client steps) old (read id) (words_of_read after result) new × Reaches (Allows tells) old new)
  asked_to_read id out after result budget left new size given asks reaches =
      (ReadsRecord id out after result left new size (subst (λ (n : ℕ). Reads (Allows tells) client id out n old result after left new) given asks), reaches)

  -- and what a read answers
  pub read_asked : (id : ℕ) (out shown : List ℕ) (result : Result ℕ ClientError) (budget left : ℕ) (new : MachineState) → length out ≡ READ_BUFFER → length shown ≡ length out → budget ≡ steps
      → Reads (Allows tells) client id out budget old result shown left new → Reaches (Allows tells) old new → ReadAsked tells (asker_of client steps) old id result new
  read_asked id out shown result budget left new room same given asks reaches = record {
    out = out;
    shown = shown;
    left = left;
    room = room;
    reads = subst (λ (n : ℕ). Reads (Allows tells) client id out n old result shown left new) given asks;
    reaches = reaches;
    within = read_within (Allows tells) client id out budget old result shown left new asks same;
  }

  pub asked_to_clear : (id : ℕ) (result : Result (Unit {0}) ClientError) (budget left : ℕ) (new : MachineState) → budget ≡ steps
      → Sequence (Allows tells) client.table.entries client.timings (clear_requests id) budget old result left new → Reaches (Allows tells) old new
      → (Asked tells (asker_of client steps) old (clear id) (words_of_clear id result) new × Reaches (Allows tells) old new)
  asked_to_clear id result budget left new given asks reaches = (
    ClearsRecord id result left new (subst (λ (n : ℕ). Sequence (Allows tells) client.table.entries client.timings (clear_requests id) n old result left new)
        given asks),
    reaches,
  )

  pub asked_to_count : (result : Result ℕ ClientError) (budget left : ℕ) (new : MachineState) → budget ≡ steps
      → Counts (Allows tells) client.table.entries budget old result left new → Reaches (Allows tells) old new →
      (Asked tells (asker_of client steps) old count (words_of_count result) new × Reaches (Allows tells) old new)
  asked_to_count result budget left new given asks reaches = (CountsRecords result left new (subst (λ (n : ℕ). Counts (Allows tells) client.table.entries n old result left new) given asks), reaches)

  pub asked_for_next : (result : Result (Option ℕ) ClientError) (budget left : ℕ) (new : MachineState) → budget ≡ steps
      → Names (Allows tells) client.table.entries budget old result left new → Reaches (Allows tells) old new →
      (Asked tells (asker_of client steps) old next (words_of_next result) new × Reaches (Allows tells) old new)
  asked_for_next result budget left new given asks reaches = (FindsNext result left new (subst (λ (n : ℕ). Names (Allows tells) client.table.entries n old result left new) given asks), reaches)

  -- and its reply made
  pub writes : (hex bytes : List ℕ) (result : Result (Unit {0}) ClientError) (budget left : ℕ) (new : MachineState) (reply : List ℕ) → decode_of hex ≡ Ok bytes → budget ≡ steps
      → Writes (Allows tells) client bytes budget old result left new → Reaches (Allows tells) old new → IsMade reply (words_of_write bytes result) →
      Answers tells (asker_of client steps) old (write hex) new reply
  writes hex bytes result budget left new reply decoded given asks reaches made = record {
    words = words_of_write bytes result;
    commanded = asked_to_write hex bytes result budget left new decoded given asks reaches;
    made = made;
  }

  pub reads : (id : ℕ) (out after : List ℕ) (result : Result ℕ ClientError) (budget left : ℕ) (new : MachineState) (reply : List ℕ) → length out ≡ READ_BUFFER → budget ≡ steps
      → Reads (Allows tells) client id out budget old result after left new → Reaches (Allows tells) old new → IsMade reply (words_of_read after result) →
      Answers tells (asker_of client steps) old (read id) new reply
  reads id out after result budget left new reply size given asks reaches made = record {
    words = words_of_read after result;
    commanded = asked_to_read id out after result budget left new size given asks reaches;
    made = made;
  }

  pub clears : (id : ℕ) (result : Result (Unit {0}) ClientError) (budget left : ℕ) (new : MachineState) (reply : List ℕ) → budget ≡ steps
      → Sequence (Allows tells) client.table.entries client.timings (clear_requests id) budget old result left new → Reaches (Allows tells) old new
      → IsMade reply (words_of_clear id result) → Answers tells (asker_of client steps) old (clear id) new reply
  clears id result budget left new reply given asks reaches made = record {
    words = words_of_clear id result;
    commanded = asked_to_clear id result budget left new given asks reaches;
    made = made;
  }

  pub counts : (result : Result ℕ ClientError) (budget left : ℕ) (new : MachineState) (reply : List ℕ) → budget ≡ steps
      → Counts (Allows tells) client.table.entries budget old result left new → Reaches (Allows tells) old new → IsMade reply (words_of_count result) →
      Answers tells (asker_of client steps) old count new reply
  counts result budget left new reply given asks reaches made = record {
    words = words_of_count result;
    commanded = asked_to_count result budget left new given asks reaches;
    made = made;
  }

  pub names : (result : Result (Option ℕ) ClientError) (budget left : ℕ) (new : MachineState) (reply : List ℕ) → budget ≡ steps
      → Names (Allows tells) client.table.entries budget old result left new → Reaches (Allows tells) old new → IsMade reply (words_of_next result) →
      Answers tells (asker_of client steps) old next new reply
  names result budget left new reply given asks reaches made = record {
    words = words_of_next result;
    commanded = asked_for_next result budget left new given asks reaches;
    made = made;
  }

  pub goes_through : (result : Result (Unit {0}) ClientError) (budget left : ℕ) (new : MachineState) (reply : List ℕ) → budget ≡ steps
      → Sequence (Allows tells) client.table.entries client.timings dummy_requests budget old result left new → Reaches (Allows tells) old new
      → IsMade reply (words_of_dummy result) → Answers tells (asker_of client steps) old dummy new reply
  goes_through result budget left new reply given asks reaches made = record {
    words = words_of_dummy result;
    commanded = (WritesDummy result left new (subst (λ (n : ℕ). Sequence (Allows tells) client.table.entries client.timings dummy_requests n old result left new) given asks), reaches);
    made = made;
  }

  pub runs : (code value : ℕ) (program : Listed) (answer : Result ℕ RunStop) (budget left : ℕ) (new : MachineState) (reply : List ℕ) → budget ≡ steps → program ≡ program_of code client.table.entries
      → Run (Allows tells) program value budget old answer left new → Reaches (Allows tells) old new → IsMade reply (words_of_action answer) →
      Answers tells (asker_of client steps) old (action code value) new reply
  runs code value program answer budget left new reply given found asks reaches made = record {
    words = words_of_action answer;
    commanded = (
      RunsAction code value answer left new
          (subst (λ (n : ℕ). Run (Allows tells) (program_of code client.table.entries) value n old answer left new) given
          (subst (λ (p : Listed). Run (Allows tells) p value budget old answer left new) found asks)),
      reaches,
    );
    made = made;
  }
