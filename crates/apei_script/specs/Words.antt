-- The words of replies.
use Rattle.std.specs.Prelude.{ℕ, List, [], ◌∷◌, ◌++◌, length, map, take, codes, decimal, Option, Some, None, Result, Ok, Err}
use Rattle.std.specs.List.{flat_map}
use Rattle.hex.specs.Hex.{encode_lower}
use Rattle.base_model.specs.Bytes.{number_at}
use Rattle.apei_space.specs.declared.faults.SpaceFault.{SpaceFault}
use Rattle.erst_interp.specs.declared.stops.RunStop.{RunStop}
use Rattle.erst_client.specs.declared.errors.ClientError.{ClientError}
use Rattle.ghes_ack.specs.declared.submission.SubmitError.{SubmitError}
use Rattle.ghes_ack.specs.declared.submission.SubmitError.TheVariants.{Long as too_long, Malformed as malformed, Trailing as trailing}
use Rattle.erst_machine.specs.declared.errors.FatalError.{FatalError}
use Rattle.erst_machine.specs.declared.errors.FatalError.TheVariants.{Long, Malformed, Trailing, Region}
use Rattle.apei_script.specs.ClientWords.{words_of_client}
pub use Rattle.script_text.specs.ReplyWords.{refused, word_of, words_of_turns, words_of_heard}
use Rattle.apei_script.specs.RunWords.{words_of_fault, words_of_stop}
use Rattle.script_text.specs.SubmitWords.{words_of_submit}
use Rattle.erst_commands.specs.Writes.{id_of}

-- a write shows the identifier and the length of the bytes of its line
abbrev pub words_of_write : List ℕ → Result (Unit {0}) ClientError → List ℕ
words_of_write bytes (Ok done) = codes "wrote " ++ decimal (id_of bytes) ++ codes " " ++ decimal (length bytes)
words_of_write bytes (Err error) = refused (words_of_client error)

-- a read shows as many bytes of its buffer as it answers
abbrev pub words_of_read : List ℕ → Result ℕ ClientError → List ℕ
words_of_read out (Ok size) =
    let bytes = take size out in codes "record " ++ decimal (id_of bytes) ++ codes " " ++ decimal (length bytes) ++ codes " " ++ encode_lower bytes
words_of_read out (Err error) = refused (words_of_client error)

abbrev pub words_of_clear : ℕ → Result (Unit {0}) ClientError → List ℕ
words_of_clear id (Ok done) = codes "cleared " ++ decimal id
words_of_clear id (Err error) = refused (words_of_client error)

abbrev pub words_of_count : Result ℕ ClientError → List ℕ
words_of_count (Ok n) = codes "count " ++ decimal n
words_of_count (Err error) = refused (words_of_client error)

abbrev pub words_of_next : Result (Option ℕ) ClientError → List ℕ
words_of_next (Ok (Some id)) = codes "next " ++ decimal id
words_of_next (Ok None) = codes "next end"
words_of_next (Err error) = refused (words_of_client error)

abbrev pub words_of_dummy : Result (Unit {0}) ClientError → List ℕ
words_of_dummy (Ok done) = codes "dummy ok"
words_of_dummy (Err error) = refused (words_of_client error)

abbrev pub words_of_action : Result ℕ RunStop → List ℕ
words_of_action (Ok n) = codes "result " ++ decimal n
words_of_action (Err stop) = refused (codes "stopped " ++ words_of_stop stop)

-- a table of so many entries
abbrev pub words_of_table : ℕ → List ℕ
words_of_table entries = codes "table " ++ decimal entries

abbrev pub words_of_submission : Result ℕ SubmitError → List ℕ
words_of_submission (Ok n) = codes "queued " ++ decimal n
words_of_submission (Err error) = refused (words_of_submit error)

-- an error status block: its severity (ACPI 6.4, table 18.11), its length and its bytes
abbrev pub words_of_block : List ℕ → List ℕ
words_of_block block = codes "block " ++ decimal (number_at block 16 4) ++ codes " " ++ decimal (length block) ++ codes " " ++ encode_lower block

abbrev pub words_of_peek : List ℕ → Result (Unit {0}) SpaceFault → List ℕ
words_of_peek bytes (Ok done) = codes "bytes " ++ encode_lower bytes
words_of_peek bytes (Err fault) = refused (words_of_fault fault)

-- why a fatal block is not laid: as one that is not handed over, or for want of room in the region
abbrev pub words_of_fatal : FatalError → List ℕ
words_of_fatal (Long len) = words_of_submit (too_long len)
words_of_fatal (Malformed why) = words_of_submit (malformed why)
words_of_fatal (Trailing bytes) = words_of_submit (trailing bytes)
words_of_fatal (Region need) = codes "region " ++ decimal need

-- a fatal block's place in the boot error region
abbrev pub words_of_laid : Result ℕ FatalError → List ℕ
words_of_laid (Ok at) = codes "laid " ++ decimal at
words_of_laid (Err error) = refused (words_of_fatal error)

-- a reply: its words, and how many flash changes were made when it was given
pub record Reply : Type 0 where
  pub words : List ℕ
  pub step : ℕ

abbrev pub at_step : ℕ → List ℕ → Reply
at_step step words = record { words = words; step = step }

-- replies that were given at one step
abbrev pub said_at : ℕ → List (List ℕ) → List Reply
said_at step words = map (at_step step) words

-- the line of a reply has its words and its step
abbrev pub reply_at : ℕ → List ℕ → List ℕ
reply_at step words = words ++ (codes " @" ++ decimal step ++ 10 ∷ [])

-- replies one after another
abbrev pub text_of_replies : List Reply → List ℕ
text_of_replies said = flat_map (λ (reply : Reply). reply_at reply.step reply.words) said
