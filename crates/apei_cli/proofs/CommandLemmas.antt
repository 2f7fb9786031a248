-- The command is one of those that clap's rule speaks of.
use Rattle.std.proofs.Common.{◌≡◌, true, refl, List, []}
use Rattle.std.specs.List.{list_all}
use Rattle.clap.specs.Words.{Text, built, fault_of, is_simple, is_simple_and_free, takes}
use Rattle.clap.specs.Takes.{default_passes}
use Rattle.apei_cli.proofs.TakesLemmas.{taken}
use Rattle.apei_cli.specs.CommandWords.{the_command}

simple : is_simple the_command ≡ true
unfolding the_command
simple = refl

pub simple_and_free : is_simple_and_free the_command ≡ true
unfolding the_command
simple_and_free = refl

leaf : (built the_command).subs ≡ []
unfolding the_command
leaf = refl

no_defaults : list_all default_passes (built the_command).top.rules ≡ true
unfolding the_command
no_defaults = refl

free : list_all (λ r. r.is_free) (built the_command).top.rules ≡ true
unfolding the_command
free = refl

-- it takes the words in which clap finds no fault
pub takes_words : (words : List Text) → fault_of the_command words ≡ [] → takes the_command words ≡ true
takes_words words none = taken the_command words simple leaf no_defaults free none
