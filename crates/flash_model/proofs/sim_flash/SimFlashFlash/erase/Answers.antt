use Rattle.std.proofs.Common.{ℕ, ◌+◌, ◌*◌, ◌≤◌, length, replicate, refl, ap, subst}
use Rattle.std.proofs.Math.Nat.{mul-mod_left}
use Rattle.std.proofs.lemmas.List.{length-replicate}
use Rattle.base_model.specs.Flash.{AsksChange}
use Rattle.flash_model.specs.Simulation.{Simulation, state_of}
use Rattle.flash_model.proofs.Changes.{AsksChange-follows, image-follows}
use Rattle.flash_model.proofs.sim_flash.SimFlashFlash.erase.Goals as goal

pub change-requires-clause-whole : goal.change-requires-clause-whole
change-requires-clause-whole c =
    let sector = ap (λ (flash : Simulation). flash.sector_size) c.self.view_is in
    rw (← sector) (mul-mod_left c.args.sector c.self.inside.sector, refl)

pub returns-clause-bytes : goal.returns-clause-bytes
returns-clause-bytes c =
    let sector = ap (λ (flash : Simulation). flash.sector_size) c.self.view_is in
    rw (← sector)
    (image-follows (c.args.sector * c.self.inside.sector) (replicate c.self.inside.sector 0xFF) c.args.self.now c.change.new.self c.change.result
    c.change.ensures.after c.change.ensures.fails)

pub returns-clause-change : goal.returns-clause-change
returns-clause-change c =
    let sector = ap (λ (flash : Simulation). flash.sector_size) c.self.view_is in
    let size = length-replicate c.self.inside.sector 0xFF in
    let at = c.args.sector * c.self.inside.sector in
    let fits = rw (← sector) at c.requires in
    let within : at + length (replicate c.self.inside.sector 0xFF) ≤ length c.args.self.now.told.image = rw size fits in
    subst (λ (n : ℕ). AsksChange (Unit {0}) (c.args.sector * n) n (state_of c.args.self.now) (state_of c.change.new.self) c.change.result) sector
    (subst (λ (n : ℕ). AsksChange (Unit {0}) at n (state_of c.args.self.now) (state_of c.change.new.self) c.change.result) size
    (AsksChange-follows at (replicate c.self.inside.sector 0xFF) c.args.self.now c.change.new.self c.change.result
    within c.change.ensures.counted c.change.ensures.faults c.change.ensures.after c.change.ensures.fails))
