-- Commands of the client in use, played as their lines are.
use Rattle.std.specs.Prelude.{unwrap_or}
use Rattle.std.proofs.Common.{◌≡◌, ◌∙◌, ℕ, List, [], ◌∷◌, Option, Some, None, Result, Ok, ap, sym, subst}
use Rattle.hex.specs.Hex.{decode_of, encode_lower, IsBytes}
use Rattle.hex.proofs.HexLemmas.{decode_of-encode_lower}
use Rattle.erst_client.specs.declared.errors.ClientError.{ClientError}
use Rattle.erst_client.specs.Commands.{ClientState, Writes, Counts, Names}
use Rattle.erst_client.specs.Sequences.{Sequence, clear_requests}
use Rattle.erst_bridge.specs.Bridges.{BridgeState}
use Rattle.erst_machine.specs.MachineState.{MachineState, IsMachine}
use Rattle.erst_machine.specs.Allowed.{Allows}
use Rattle.script_text.specs.ScriptGrammar.{Line, IsValid, read}
use Rattle.apei_script.specs.Players.{asker_of}
use Rattle.apei_script.specs.Words.{said_at, words_of_read}
use Rattle.apei_script.specs.Asked.{ReadsRecord, ReadAsked, Asked}
use Rattle.apei_script.specs.Plays.{ByClient, changes_in}
use Rattle.apei_script.specs.Sessions.{CommandPlayed, ReadPlayed}
use Rattle.apei_script.proofs.LawLemmas.{own_programs}
use Rattle.apei_script.proofs.PlayedLemmas.{line_played}
use Rattle.apei_script.proofs.SessionLines.{player, in_use}
use Rattle.apei_space.specs.Accesses.{Reaches}
use Rattle.erst_client.specs.Timings.{enough_steps}

-- the bytes of a record's digits
pub are_decoded : (bytes : List ℕ) → IsBytes bytes → decode_of (encode_lower bytes) ≡ Ok bytes
are_decoded bytes are = decode_of-encode_lower bytes are

module _ (tells : Type 0) (old : MachineState) (own : ClientState) (steps : Option ℕ) (state : BridgeState) (machine : IsMachine old) where
  -- by the client of a table that a line gave
  pub played_by_other : (client : ClientState) (other new_other : Option ClientState) (line : Line) (words : List ℕ) (new : MachineState) → other ≡ Some client → new_other ≡ Some client → IsValid line
      → (Asked tells (asker_of client (unwrap_or steps (enough_steps (in_use own other).timings))) old line words new × Reaches (Allows tells) old new)
      → CommandPlayed tells (player old own other steps state) line (player new own new_other steps state) words
  played_by_other client other new_other line words new was is valid commanded =
      subst (λ (o : Option ClientState). CommandPlayed tells (player old own o steps state) line (player new own new_other steps state) words) (sym was)
      (subst (λ (o : Option ClientState). CommandPlayed tells (player old own (Some client) steps state) line (player new own o steps state) words) (sym is)
      (λ counts. line_played tells (own_programs tells) counts (player old own (Some client) steps state) line (said_at (changes_in new) (words ∷ [])) [] []
      (player new own (Some client) steps state) machine valid
      (ByClient line words new (subst (λ (o : Option ClientState). (Asked tells (asker_of client (unwrap_or steps (enough_steps (in_use own o).timings))) old
      line words new × Reaches (Allows tells) old new)) was commanded))))

  -- by the client that was attached first
  pub played_by_own : (new_own : ClientState) (other new_other : Option ClientState) (line : Line) (words : List ℕ) (new : MachineState) → other ≡ None →
      new_other ≡ None → new_own ≡ own → IsValid line
      → (Asked tells (asker_of own (unwrap_or steps (enough_steps (in_use own other).timings))) old line words new × Reaches (Allows tells) old new)
      → CommandPlayed tells (player old own other steps state) line (player new new_own new_other steps state) words
  played_by_own new_own other new_other line words new was is same valid commanded =
      subst (λ (o : Option ClientState). CommandPlayed tells (player old own o steps state) line (player new new_own new_other steps state) words) (sym was)
      (subst (λ (o : Option ClientState). CommandPlayed tells (player old own None steps state) line (player new new_own o steps state) words) (sym is)
      (subst (λ (client : ClientState). CommandPlayed tells (player old own None steps state) line (player new client None steps state) words) (sym same)
      (λ counts. line_played tells (own_programs tells) counts (player old own None steps state) line (said_at (changes_in new) (words ∷ [])) [] [] (player new own None steps state) machine valid
      (ByClient line words new (subst (λ (o : Option ClientState). (Asked tells (asker_of own (unwrap_or steps (enough_steps (in_use own o).timings))) old line
      words new × Reaches (Allows tells) old new)) was commanded)))))

  -- a read by the client in use
  pub read_played : (new_own : ClientState) (other new_other : Option ClientState) (id : ℕ) (result : Result ℕ ClientError) (new : MachineState) → new_other ≡ other → new_own ≡ own → IsValid (read id)
      → ReadAsked tells (asker_of (in_use own other) (unwrap_or steps (enough_steps (in_use own other).timings))) old id result new
      → ReadPlayed tells (player old own other steps state) id result (player new new_own new_other steps state)
  read_played new_own other new_other id result new is same valid asked =
      let words = words_of_read asked.shown result in
      let commanded : (Asked tells (asker_of (in_use own other) (unwrap_or steps (enough_steps (in_use own other).timings))) old (read id) words new × Reaches (Allows tells) old new) =
      (ReadsRecord id asked.out asked.shown result asked.left new asked.room asked.reads, asked.reaches) in
      record {
        asked = asked;
        played =
            subst (λ (o : Option ClientState). CommandPlayed tells (player old own other steps state) (read id) (player new new_own o steps state) words) (sym is)
            (subst (λ (client : ClientState). CommandPlayed tells (player old own other steps state) (read id) (player new client other steps state) words) (sym same)
            (λ counts. line_played tells (own_programs tells) counts (player old own other steps state) (read id) (said_at (changes_in new) (words ∷ [])) [] []
            (player new own other steps state) machine valid
            (ByClient (read id) words new commanded)));
      }

-- one asker is another
pub same_asker : (client used : ClientState) (budget steps : ℕ) → used ≡ client → budget ≡ steps → asker_of client budget ≡ asker_of used steps
same_asker client used budget steps is given = ap (λ (c : ClientState). asker_of c budget) (sym is) ∙ ap (asker_of used) given

-- what a client answered with some steps, the client in use answered with those of a line
module _ (tells : Type 0) (old : MachineState) (client used : ClientState) (budget steps : ℕ) (is : used ≡ client) (given : budget ≡ steps) where
  as_in_use : (P : ClientState → ℕ → Type 0) → P client budget → P used steps
  as_in_use P asks = subst (λ (c : ClientState). P c steps) (sym is) (subst (P client) given asks)

  pub answers_write : (bytes : List ℕ) (result : Result (Unit {0}) ClientError) (left : ℕ) (new : MachineState) → Writes (Allows tells) client bytes budget old result left new
      → (spare : ℕ) × Writes (Allows tells) used bytes steps old result spare new
  answers_write bytes result left new asks = (left, as_in_use (λ (c : ClientState) (n : ℕ). Writes (Allows tells) c bytes n old result left new) asks)

  pub answers_clear : (id : ℕ) (result : Result (Unit {0}) ClientError) (left : ℕ) (new : MachineState) → Sequence (Allows tells) client.table.entries
      client.timings (clear_requests id) budget old result left new
      → (spare : ℕ) × Sequence (Allows tells) used.table.entries used.timings (clear_requests id) steps old result spare new
  answers_clear id result left new asks = (left, as_in_use (λ (c : ClientState) (n : ℕ). Sequence (Allows tells) c.table.entries c.timings (clear_requests id) n old result left new) asks)

  pub answers_count : (result : Result ℕ ClientError) (left : ℕ) (new : MachineState) → Counts (Allows tells) client.table.entries budget old result left new
      → (spare : ℕ) × Counts (Allows tells) used.table.entries steps old result spare new
  answers_count result left new asks = (left, as_in_use (λ (c : ClientState) (n : ℕ). Counts (Allows tells) c.table.entries n old result left new) asks)

  pub answers_next : (result : Result (Option ℕ) ClientError) (left : ℕ) (new : MachineState) → Names (Allows tells) client.table.entries budget old result left new
      → (spare : ℕ) × Names (Allows tells) used.table.entries steps old result spare new
  answers_next result left new asks = (left, as_in_use (λ (c : ClientState) (n : ℕ). Names (Allows tells) c.table.entries n old result left new) asks)
