use Rattle.std.proofs.Common.{ℕ, Some, sym, ap, ◌∙◌, arith}
use Rattle.hest_sources.specs.declared.sources.Ack.{Ack}
use Rattle.hest_sources.specs.declared.sources.Ghes.{Ghes}
use Rattle.hest_sources.specs.declared.sources.HestSource.TheVariants.{Ghes as Generic, Other}
use Rattle.hest_sources.specs.Layout.{front_at}
use Rattle.hest_sources.proofs.Lengths.{measured, read_nine, read_ten, read_other, nine_size, ten_size}
use Rattle.hest_sources.proofs.sources.HestSource.read.Goals as goal

pub get_u16-kind-requires : goal.get_u16-kind-requires
get_u16-kind-requires c = let head = (measured c.args.at c.args.len c.args.bytes.now c.requires).head in omega arith

pub read-requires : goal.read-requires
read-requires c = ten_size c.args.at c.args.len c.args.bytes.now c.requires (sym c.get_u16-kind.ensures ∙ c.if-kind-eq10.true)

pub read-requires-then-kind-eq10 : goal.read-requires-then-kind-eq10
read-requires-then-kind-eq10 c = let size = ten_size c.args.at c.args.len c.args.bytes.now c.requires (sym c.get_u16-kind.ensures ∙ c.if-kind-eq10.true) in omega arith

pub read-requires-then-kind-eq9 : goal.read-requires-then-kind-eq9
read-requires-then-kind-eq9 c = nine_size c.args.at c.args.len c.args.bytes.now c.requires (sym c.get_u16-kind.ensures ∙ c.if-kind-eq9.true)

pub returns-then-kind-eq10 : goal.returns-then-kind-eq10
returns-then-kind-eq10 c =
    ap (λ (g : Ghes). Generic g) (c.read-then-kind-eq10.ensures ∙ ap (λ (a : Ack). front_at c.args.bytes.now (Some a)) c.read.ensures)
    ∙ sym (read_ten c.args.at c.args.len c.args.bytes.now (sym c.get_u16-kind.ensures ∙ c.if-kind-eq10.true))

pub returns-then-kind-eq9 : goal.returns-then-kind-eq9
returns-then-kind-eq9 c =
    ap (λ (g : Ghes). Generic g) c.read-then-kind-eq9.ensures ∙ sym (read_nine c.args.at c.args.len c.args.bytes.now (sym c.get_u16-kind.ensures ∙ c.if-kind-eq9.true))

pub returns : goal.returns
returns c =
    ap (λ (k : ℕ). Other k c.args.at c.args.len) c.get_u16-kind.ensures
    ∙ sym (read_other c.args.at c.args.len c.args.bytes.now (λ e. c.if-kind-eq9.false (c.get_u16-kind.ensures ∙ e)) (λ e. c.if-kind-eq10.false (c.get_u16-kind.ensures ∙ e)))
