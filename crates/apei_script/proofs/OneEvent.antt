-- Lines that ask for one thing that happens to the machine.
use Rattle.std.proofs.Common.{◌≡◌, ℕ, Bool, true, false, List, [], length, replicate, Option, Some, None, Result, Ok, Err, refl, sym, ap, ◌∙◌}
use Rattle.hex.specs.Hex.{decode_of}
use Rattle.hex.specs.declared.error.FromHexError.{FromHexError}
use Rattle.apei_space.specs.declared.faults.SpaceFault.{SpaceFault}
use Rattle.apei_space.specs.Calls.{ReadBytes}
use Rattle.ghes_ack.specs.declared.submission.SubmitError.{SubmitError}
use Rattle.erst_machine.specs.declared.errors.FatalError.{FatalError}
use Rattle.erst_machine.specs.Events.{Event, Accessed, Submitted, Laid}
use Rattle.erst_commands.specs.Equivalence.{bytes_shown, asked_event, answered_event}
use Rattle.erst_bridge.specs.Bridges.{BridgeState, Off}
use Rattle.script_text.specs.ScriptGrammar.{Line, error, peek, fatal, turns, heard}
use Rattle.apei_script.specs.Players.{PlayerState}
use Rattle.apei_script.specs.Words.{words_of_heard, words_of_submission, words_of_peek, words_of_laid}
use Rattle.apei_script.specs.Happened.{AsksFor}
use Rattle.apei_script.specs.Plays.{names_command}

-- it leaves the flash alone, and what the bridge knows of the handover
abbrev pub IsQuiet : Event → Type 0
IsQuiet (Accessed (ReadBytes at before after answer)) = Unit {0}
IsQuiet (Submitted block result) = Unit {0}
IsQuiet (Laid block result) = Unit {0}
IsQuiet event = ⊥

-- the words of a line that only tells something of the listeners
abbrev pub words_told : List ℕ → PlayerState → Line → Option (List ℕ)
words_told counts old heard = Some (words_of_heard counts)
words_told counts old line = None

-- turns are made without the bridge where it is off
abbrev pub NeedsNoBridge : BridgeState → Line → Type 0
NeedsNoBridge state line = elim line as (λ line. Type 0) [ turns letters ↦ state ≡ Off | other ↦ Unit {0} ]

-- a line asks for it alone
abbrev pub asks_once : Line → Bool
asks_once (error hex) = true
asks_once (peek at len) = true
asks_once (fatal hex) = true
asks_once line = false

-- the same is asked, and to the same answer the words are the same
pub record IsAskedAlike (event also : Event) (words others : List ℕ) : Type 0 where
  pub question : asked_event event ≡ asked_event also
  pub words_are : answered_event event ≡ answered_event also → words ≡ others

-- so it is with whatever else the line asks for
abbrev pub IsAlwaysAlike : Line → Event → List ℕ → Type 0
IsAlwaysAlike line event words = (also : Event) (others : List ℕ) → AsksFor line also others → IsAskedAlike event also words others

-- what is so of each
pub record OneEvent (line : Line) (event : Event) (words : List ℕ) : Type 0 where
  pub quiet : IsQuiet event
  pub alone : asks_once line ≡ true
  pub untold : (counts : List ℕ) (old : PlayerState) → words_told counts old line ≡ None
  pub unnamed : names_command line ≡ false
  pub equivalent : IsAlwaysAlike line event words

pub same_bytes : (hex bytes others : List ℕ) → decode_of hex ≡ Ok bytes → decode_of hex ≡ Ok others → bytes ≡ others
same_bytes hex bytes others first second = let both : ◌≡◌ {A = Result (List ℕ) FromHexError} (Ok bytes) (Ok others) = sym first ∙ second in cc both

-- of the same digits the same bytes are handed over, and the same answer has the same words
handed_alike : {E : Type 0} (event : List ℕ → Event) (says : Result ℕ E → List ℕ) (hex block other words others : List ℕ) (result found : Result ℕ E) →
    (decode_of hex ≡ Ok block) × (words ≡ says result)
    → (decode_of hex ≡ Ok other) × (others ≡ says found) → (event block ≡ event other) × (result ≡ found → words ≡ others)
handed_alike event says hex block other words others result found asks asks_too = (ap event (same_bytes hex block other asks.0 asks_too.0), λ same. asks.1 ∙ ap says same ∙ sym asks_too.1)

given_alike : (hex block : List ℕ) (result : Result ℕ SubmitError) (words : List ℕ) → AsksFor (error hex) (Submitted block result) words → IsAlwaysAlike (error hex) (Submitted block result) words
given_alike hex block result words asks (Submitted other found) others asks_too =
    let both = handed_alike (λ (bs : List ℕ). Submitted bs (Ok 0)) words_of_submission hex block other words others result found asks asks_too in
    record { question = both.0; words_are = λ e. both.1 (cc e) }
given_alike hex block result words asks also others asks_too = absurd asks_too

laid_alike : (hex block : List ℕ) (result : Result ℕ FatalError) (words : List ℕ) → AsksFor (fatal hex) (Laid block result) words → IsAlwaysAlike (fatal hex) (Laid block result) words
laid_alike hex block result words asks (Laid other found) others asks_too =
    let both = handed_alike (λ (bs : List ℕ). Laid bs (Ok 0)) words_of_laid hex block other words others result found asks asks_too in
    record { question = both.0; words_are = λ e. both.1 (cc e) }
laid_alike hex block result words asks also others asks_too = absurd asks_too

same_peek_words : (answer also : Result (Unit {0}) SpaceFault) (after afterwards : List ℕ) → answer ≡ also → bytes_shown answer after ≡ bytes_shown also
    afterwards → words_of_peek after answer ≡ words_of_peek afterwards also
same_peek_words (Ok done) (Ok well) after afterwards same bytes = ap (λ (bs : List ℕ). words_of_peek bs (Ok done)) bytes
same_peek_words (Ok done) (Err why) after afterwards same bytes = absurd (cc)
same_peek_words (Err fault) (Ok well) after afterwards same bytes = absurd (cc)
same_peek_words (Err fault) (Err why) after afterwards same bytes = ap (words_of_peek after) same

peeked_alike : (at len from : ℕ) (before after : List ℕ) (answer : Result (Unit {0}) SpaceFault) (words : List ℕ) → AsksFor (peek at len) (Accessed (ReadBytes from before after answer)) words
    → IsAlwaysAlike (peek at len) (Accessed (ReadBytes from before after answer)) words
peeked_alike at len from before after answer words asks (Accessed (ReadBytes place room shown found)) others asks_too = record {
  question = ap (λ (n : ℕ). Accessed (ReadBytes n (replicate (length before) 0) [] (Ok tt))) (asks.0 ∙ sym asks_too.0)
      ∙ ap (λ (n : ℕ). Accessed (ReadBytes place (replicate n 0) [] (Ok tt))) (asks.1 ∙ sym asks_too.1);
  words_are = λ e.
      let same : answer ≡ found = cc e in
      let bytes : bytes_shown answer after ≡ bytes_shown found shown = cc e in
      asks.2 ∙ same_peek_words answer found after shown same bytes ∙ sym asks_too.2;
}
peeked_alike at len from before after answer words asks also others asks_too = absurd asks_too

pub once : (line : Line) (event : Event) (words : List ℕ) → AsksFor line event words → OneEvent line event words
once (error hex) (Submitted block result) words asks = record { quiet = tt; alone = refl; untold = λ counts old. refl; unnamed = refl; equivalent = given_alike hex block result words asks }
once (peek at len) (Accessed (ReadBytes from before after answer)) words asks =
    record { quiet = tt; alone = refl; untold = λ counts old. refl; unnamed = refl; equivalent = peeked_alike at len from before after answer words asks }
once (fatal hex) (Laid block result) words asks = record { quiet = tt; alone = refl; untold = λ counts old. refl; unnamed = refl; equivalent = laid_alike hex block result words asks }
once line event words asks = absurd asks
