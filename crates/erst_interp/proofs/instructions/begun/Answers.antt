use Rattle.std.proofs.Common.{sym}
use Rattle.erst_interp.specs.Instructions.{HasWork}
use Rattle.erst_interp.specs.Works.{access_meaning}
use Rattle.erst_interp.specs.Continuing.{HasNoRegister}
use Rattle.erst_interp.proofs.instructions.begun.Goals as goal

pub returns-in-Err-clause-begins : goal.returns-in-Err-clause-begins
returns-in-Err-clause-begins c =
    let has : HasWork c.args.task.now (access_meaning c.in-OnRegister.access c.args.task.now) = record {
      instruction = c.in-Some.instruction;
      code =
          sym c.in-Some.ensures;
      work_is = sym c.in-OnRegister.ensures;
    } in
    HasNoRegister c.in-OnRegister.access c.in-Err.why has (sym c.in-Err.ensures.exact)
