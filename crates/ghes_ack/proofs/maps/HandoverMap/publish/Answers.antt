use Rattle.std.proofs.Common.{◌≡◌, ◌∙◌, ℕ, ◌-◌, ◌^◌, bit_and, refl, ap, subst}
use Rattle.std.specs.Result.{result_unwrap_or}
use Rattle.apei_tables.specs.declared.registers.Place.TheVariants.{Memory}
use Rattle.apei_tables.specs.declared.widths.Width.TheVariants.{B32}
use Rattle.apei_space.specs.Calls.{Write}
use Rattle.ghes_ack.specs.Maps.{with_clear}
use Rattle.ghes_ack.proofs.maps.HandoverMap.publish.Goals as goal

pub returns : goal.returns
returns g c =
    let value : bit_and c.unwrap_or-value.result (2 ^ 64 - 1 - c.ack_mask.result) ≡ with_clear c.args.self.now (result_unwrap_or c.read.result 0) =
    ap (λ (v : ℕ). bit_and v (2 ^ 64 - 1 - c.ack_mask.result)) c.unwrap_or-value.ensures ∙ ap (λ (m : ℕ). bit_and (result_unwrap_or c.read.result 0) (2 ^ 64 - 1 - m)) c.ack_mask.ensures in
    let word = c.from.ensures ∙ c.get_u32-word.ensures in
    record {
      read = c.read.result;
      cleared = c.write.result;
      shown = c.write-2.result;
      looked = g.S.Space.state c.read.new.self;
      clear = g.S.Space.state c.write.new.self;
      small = c.read.ensures.small;
      order = (
        c.read.ensures.allowed,
        (
          subst (λ (v : ℕ). g.S.Space.allows (g.S.Space.state c.read.new.self) (Write c.args.self.now.ack.place c.args.self.now.ack.access v c.write.result)
              (g.S.Space.state c.write.new.self)) value c.write.ensures,
          (
            subst (λ (v : ℕ). g.S.Space.allows (g.S.Space.state c.write.new.self) (Write (Memory c.args.self.now.block) B32 v c.write-2.result)
                (g.S.Space.state c.write-2.new.self)) word c.write-2.ensures,
            refl,
          ),
        ),
      );
    }
