-- What is seen of a session.
use Rattle.std.specs.Prelude.{◌≡◌, ℕ, List, [], ◌++◌, Option, Result}
use Rattle.erst_client.specs.declared.errors.ClientError.{ClientError}
use Rattle.erst_client.specs.Commands.{Writes, Counts, Names}
use Rattle.erst_client.specs.Sequences.{Sequence, clear_requests}
use Rattle.erst_machine.specs.Allowed.{Allows}
use Rattle.script_lines.specs.Streams.{Stream}
use Rattle.script_text.specs.ScriptGrammar.{Line, read, bert}
use Rattle.apei_script.specs.declared.session.Session.{Session}
use Rattle.apei_script.specs.Players.{PlayerState, client_of, budget_of, asker_of}
use Rattle.apei_script.specs.Replies.{IsMade}
use Rattle.erst_machine.specs.MachineState.{MachineState}
use Rattle.apei_script.specs.Asked.{ReadAsked}
use Rattle.apei_script.specs.Words.{Reply, said_at, reply_at, words_of_read, text_of_replies}
use Rattle.apei_script.specs.Happened.{Happened}
use Rattle.apei_script.specs.Plays.{one_reply, Plays, LinePlayed, LeftIn, PartlyWritten, changes_in}

abbrev pub state_of : {F : Type 0} → Session F → PlayerState
state_of session = record { machine = session.machine; own = session.own; other = session.other; steps = session.steps; bridge = session.bridge }

-- a line of one reply was played, whatever the listeners have heard, and these are the words of its reply
abbrev pub CommandPlayed : Type 0 → PlayerState → Line → PlayerState → (words : List ℕ) → Type 0
CommandPlayed tells old line new words = (counts : List ℕ) → LinePlayed tells counts old (one_reply line words new)

-- the client in use answered a command with exactly this, when it had the steps of a line
abbrev pub AnswersWrite : Type 0 → PlayerState → List ℕ → Result (Unit {0}) ClientError → PlayerState → Type 0
AnswersWrite tells old bytes result new = (left : ℕ) × Writes (Allows tells) (client_of old) bytes (budget_of old) old.machine result left new.machine

abbrev pub AnswersClear : Type 0 → PlayerState → ℕ → Result (Unit {0}) ClientError → PlayerState → Type 0
AnswersClear tells old id result new =
    (left : ℕ) × Sequence (Allows tells) (client_of old).table.entries (client_of old).timings (clear_requests id) (budget_of old) old.machine result left new.machine

abbrev pub AnswersCount : Type 0 → PlayerState → Result ℕ ClientError → PlayerState → Type 0
AnswersCount tells old result new = (left : ℕ) × Counts (Allows tells) (client_of old).table.entries (budget_of old) old.machine result left new.machine

abbrev pub AnswersNext : Type 0 → PlayerState → Result (Option ℕ) ClientError → PlayerState → Type 0
AnswersNext tells old result new = (left : ℕ) × Names (Allows tells) (client_of old).table.entries (budget_of old) old.machine result left new.machine

-- and a read: its line was played too, and its reply shows what its buffer held
pub record ReadPlayed (tells : Type 0) (old : PlayerState) (id : ℕ) (result : Result ℕ ClientError) (new : PlayerState) : Type 0 where
  pub asked : ReadAsked tells (asker_of (client_of old) (budget_of old)) old.machine id result new.machine
  pub played : CommandPlayed tells old (read id) new (words_of_read asked.shown result)

-- a line of one reply was played, and its reply made
pub record LineAnswered (tells : Type 0) (old : PlayerState) (line : Line) (new : PlayerState) (reply : List ℕ) : Type 0 where
  pub words : List ℕ
  pub played : CommandPlayed tells old line new words
  pub text : reply ≡ reply_at (changes_in new.machine) words

-- a line of one reply was carried out, whatever the listeners have heard, and its reply made but for the step behind it
pub record MakesReply (tells : Type 0) (old : PlayerState) (line : Line) (new : PlayerState) (reply : List ℕ) : Type 0 where
  pub words : List ℕ
  pub plays : (counts : List ℕ) → Plays tells counts old (one_reply line words new)
  pub made : IsMade reply words

-- the clients and their steps are as they were
pub record SameClients {F : Type 0} (old new : Session F) : Type 0 where
  pub own : new.own ≡ old.own
  pub other : new.other ≡ old.other
  pub steps : new.steps ≡ old.steps

-- the blocks of the boot error region were shown, and how many they are: all of it was written, or a part of one of the replies
pub record Lists (tells : Type 0) (sink : Stream) (machine : MachineState) : Type 0 where
  pub words : List (List ℕ)
  pub happened : Happened tells machine bert words [] machine
  pub text : sink.tells → sink.after ≡ sink.before ++ text_of_replies (said_at (changes_in machine) words)

pub record ListsUnwritten (tells : Type 0) (sink : Stream) (machine : MachineState) : Type 0 where
  pub words : List (List ℕ)
  pub before : List Reply
  pub last : Reply
  pub left : LeftIn bert bert (said_at (changes_in machine) words) before last
  pub happened : Happened tells machine bert words [] machine
  pub text : sink.tells → PartlyWritten before last sink.before sink.after
