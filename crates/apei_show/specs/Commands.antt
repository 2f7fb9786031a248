-- The command that clap reads: its flags, its options, and the files that stand by themselves.
use Rattle.std.specs.Prelude.{[], ◌∷◌, Some, codes, fold}
use Rattle.clap.specs.Words.{App, Rule, Text, new_rule, with_rule}
use Rattle.clap.specs.declared.builder.action.ArgAction.TheVariants.{Append, SetTrue}
use Rattle.clap_words.specs.Commands.{bare, with_option}

-- a flag has no value
abbrev pub flag_rule : Text → Rule
flag_rule name = record (new_rule name) { long = Some name; action = Some SetTrue }

-- the paths of the files, as many as there are
abbrev pub files_rule : Rule
files_rule = record (new_rule (codes "files")) { action = Some Append }

abbrev pub with_flag : App → Text → App
with_flag app name = with_rule app (flag_rule name)

abbrev pub the_flags : App
the_flags = fold with_flag (bare (codes "apei-show")) (codes "json" ∷ codes "brief" ∷ codes "bytes" ∷ codes "strict" ∷ [])

-- the command: the flags, the options, the paths
unfoldable pub the_command : App
the_command = with_rule (with_option (with_option the_flags (codes "color")) (codes "smbios")) files_rule
