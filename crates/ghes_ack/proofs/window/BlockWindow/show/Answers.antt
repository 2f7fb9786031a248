use Rattle.std.proofs.Common.{◌≡◌, ◌∙◌, ℕ, ap}
use Rattle.base_model.specs.Bytes.{spelled}
use Rattle.base_model.proofs.BytesLemmas.{length-spelled}
use Rattle.apei_tables.specs.declared.registers.Place.TheVariants.{Memory}
use Rattle.apei_space.specs.RamState.{located, stored}
use Rattle.ghes_ack.proofs.WindowLemmas.{status_write_is}
use Rattle.ghes_ack.proofs.window.BlockWindow.show.Goals as goal

pub returns : goal.returns
returns c =
    let e : c.from.result ≡ c.args.word = c.from.ensures in
    c.write.ensures.1 ∙ ap (λ (x : ℕ). stored (located c.args.ram.now.windows (Memory c.args.self.now.block) 4) c.args.ram.now (spelled 4 x)) e
    ∙ status_write_is c.args.self.now c.args.ram.now (spelled 4 c.args.word) c.requires (length-spelled 4 c.args.word)
