-- The command that clap reads: its flags, the path that stands by itself, and its options.
use Rattle.std.specs.Prelude.{[], ◌∷◌, Some, codes, fold}
use Rattle.clap.specs.Words.{App, Rule, Text, new_rule, with_rule}
use Rattle.clap.specs.declared.builder.action.ArgAction.TheVariants.{SetTrue}
use Rattle.clap_words.specs.Commands.{bare, with_option}

-- a flag has no value
abbrev pub flag_rule : Text → Rule
flag_rule name = record (new_rule name) { long = Some name; action = Some SetTrue }

-- the path of the image, where it stands by itself
abbrev pub file_rule : Rule
file_rule = new_rule (codes "file")

-- the flags and the path
abbrev pub the_flags : App
the_flags = with_rule (with_rule (with_rule (bare (codes "apei-look")) (flag_rule (codes "json"))) (flag_rule (codes "guess"))) file_rule

-- the command: these and the options
unfoldable pub the_command : App
the_command = fold with_option the_flags (codes "image" ∷ codes "sector" ∷ codes "per-slot" ∷ codes "slots" ∷ codes "record" ∷ [])
