-- The command is one of those that clap's rule speaks of.
use Rattle.std.proofs.Common.{◌≡◌, true, refl}
use Rattle.clap.specs.Words.{is_simple_and_free}
use Rattle.apei_look.specs.Commands.{the_command}

pub simple_and_free : is_simple_and_free the_command ≡ true
unfolding the_command
simple_and_free = refl
