use Rattle.std.proofs.Common.{◌∙◌}
use Rattle.clap.specs.Words.{app_of, fault_of}
use Rattle.clap_words.proofs.FaultLemmas.{simple, faulty}
use Rattle.std.specs.Prelude.{map, string_bytes}
use Rattle.clap_words.proofs.matches.matches_in.Goals as goal

pub returns-in-Ok-clause-taken : goal.returns-in-Ok-clause-taken
returns-in-Ok-clause-taken c = c.in-Ok.ensures.kinds c.requires

pub returns-in-Ok-clause-read : goal.returns-in-Ok-clause-read
returns-in-Ok-clause-read c = (c.in-Ok.ensures.matches (simple (app_of c.args.command) c.requires)).0

pub returns : goal.returns
returns c = record {
  taken = tt;
  read = tt;
  faulty = λ _. faulty (fault_of (app_of c.args.command) (map string_bytes c.args.words.now)) c.in-Err.error (c.in-Err.ensures.kinds c.requires)
      (λ memory. c.in_default.not-OutOfMemory (c.kind.ensures ∙ memory));
  refused = λ _ takes. c.in_default.not-OutOfMemory (c.kind.ensures ∙ c.in-Err.ensures.passes takes);
}
