use Rattle.std.proofs.Common.{◌∙◌, ℕ, Result, ap}
use Rattle.std.specs.Result.{result_unwrap_or}
use Rattle.apei_space.specs.declared.faults.SpaceFault.{SpaceFault}
use Rattle.ghes_ack.proofs.WindowLemmas.{status_is}
use Rattle.ghes_ack.proofs.window.BlockWindow.status_word.Goals as goal

pub returns : goal.returns
returns c =
    c.unwrap_or.ensures
    ∙ ap (λ (r : Result ℕ SpaceFault). result_unwrap_or r 0) (c.look.ensures.value ∙ status_is c.args.self.now c.args.ram.now c.requires)
