use Rattle.std.proofs.Common.{◌≡◌, ◌∙◌, ℕ, ◌+◌, refl, subst, sym, ap}
use Rattle.apei_script.specs.Sessions.{state_of}
use Rattle.apei_cli.specs.Commands.{command_of}
use Rattle.apei_cli.proofs.GenerateLemmas.{number_behind}
use Rattle.apei_cli.proofs.GenerateLemmas.{SoFar, SoFar-start, SoFar-next}
use Rattle.std.specs.Prelude.{◌^◌, ◌/◌}
use Rattle.apei_cli.proofs.generate.generator.play_commands.Goals as goal

pub loop-init : goal.loop-init
loop-init g c = record {
  so_far = SoFar-start g.F.Flash.tells (state_of c.args.player.now.session) c.args.seed c.new-tally.result c.new-tally.ensures;
  listeners = refl;
}

pub loop-preserved : goal.loop-preserved
loop-preserved g c =
    let number : c.number_behind-number.result ≡ number_behind c.loop.number = c.number_behind-number.ensures in
    record {
      so_far =
          subst (λ (x : ℕ). SoFar g.F.Flash.tells (state_of c.args.player.now.session) c.args.seed (c.loop.counter + 1) (state_of c.play-refused.new.player.session) x c.count.new.self) (sym number)
          (SoFar-next g.F.Flash.tells (state_of c.args.player.now.session) c.args.seed c.loop.counter (state_of c.loop.player.session)
          (state_of c.play-refused.new.player.session) c.loop.number c.loop.tally
          c.count.new.self c.of-command.result c.play-refused.result c.loop.invariant.so_far
          (c.of-command.ensures ∙ ap (λ (x : ℕ). command_of (x / 2 ^ 33)) number) c.play-refused.ensures.played c.stands.ensures.counted c.count.ensures);
      listeners = c.play-refused.ensures.listeners ∙ c.loop.invariant.listeners;
    }
