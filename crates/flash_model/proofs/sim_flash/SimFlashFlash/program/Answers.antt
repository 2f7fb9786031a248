use Rattle.flash_model.proofs.Changes.{AsksChange-follows, image-follows}
use Rattle.flash_model.proofs.sim_flash.SimFlashFlash.program.Goals as goal

pub returns-clause-bytes : goal.returns-clause-bytes
returns-clause-bytes c =
    image-follows c.args.at c.args.bytes.now c.args.self.now c.change.new.self c.change.result c.change.ensures.after c.change.ensures.fails

pub returns-clause-change : goal.returns-clause-change
returns-clause-change c =
    AsksChange-follows c.args.at c.args.bytes.now c.args.self.now c.change.new.self c.change.result
    c.requires.within c.change.ensures.counted c.change.ensures.faults c.change.ensures.after c.change.ensures.fails
