use Rattle.std.proofs.Common.{◌≡◌, ◌∙◌, ℕ, ◌+◌, length, Vec, Option, Some, sym, ap, arith}
use Rattle.std.specs.declared.alloc.Global.{Global}
use Rattle.std.specs.Vec.{with_items}
use Rattle.ghes_hub.proofs.PlainBlocks.{clears_at, copies_at, takes_at}
use Rattle.ghes_ack.proofs.SideLemmas.{begins_at}
use Rattle.ghes_hub.proofs.plain.reader.copy_or_clear.Goals as goal
use Rattle.ghes_hub.proofs.plain.reader.copy_or_clear.Goals.{After-copy_piece}

long : (c : After-copy_piece) → length c.in-Some.bytes.items ≡ c.in-Some.bytes.len
long c = ap length (sym c.deref_mut.ensures.value) ∙ c.deref_mut.ensures.len

pub returns-in_default-clause-makes : goal.returns-in_default-clause-makes
returns-in_default-clause-makes c = clears_at c.args.blocks.now c.take.new.self c.args.ram.now c.release-look.new.ram (sym c.in_default.ensures.value)
    c.take.ensures.after c.requires.sound.under_way c.release-look.ensures

pub returns-then-blocks-len-clause-makes : goal.returns-then-blocks-len-clause-makes
returns-then-blocks-len-clause-makes c =
    let copied = (goal.at.returns-then-blocks-len-clause-makes c).After-copy_piece in
    copies_at c.args.blocks.now c.in-Some.bytes c.deref_mut.result.now c.copy_piece.new.bytes c.args.ram.now (sym c.in-Some.ensures.value) c.deref_mut.ensures.value
    (omega (arith, long copied, c.len.ensures, c.if-blocks-len.true)) c.copy_piece.ensures (c.copy_piece.auto.bytes ∙ c.deref_mut.ensures.len)

pub returns-clause-makes : goal.returns-clause-makes
returns-clause-makes c =
    let copied = (goal.at.returns-clause-makes c).After-copy_piece in
    let some : c.args.blocks.now.at_work ≡ Some c.in-Some.bytes = sym c.in-Some.ensures.value in
    takes_at c.args.blocks.now c.take-2.new.self c.in-Some.bytes c.deref_mut.result.now c.copy_piece.new.bytes c.args.ram.now some c.deref_mut.ensures.value
    (begins_at c.args.blocks.now c.in-Some.bytes some c.requires.sound.under_way) (omega (arith, long copied, c.len.ensures, c.if-blocks-len.false))
    c.copy_piece.ensures (c.copy_piece.auto.bytes ∙ c.deref_mut.ensures.len)
    (c.take-2.ensures.last ∙ ap (λ (o : Option (Vec ℕ Global)). record c.args.blocks.now {
      at_work = o;
      copied = c.args.blocks.now.copied + 1;
      last =
          with_items c.in-Some.bytes c.copy_piece.new.bytes;
      spare = c.take-2.new.self.spare;
    }) c.take.ensures.after)
