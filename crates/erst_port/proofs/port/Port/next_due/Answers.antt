use Rattle.std.proofs.Common.{◌-◌, ◌+◌, ◌<◌, ℕ, length, take, drop, sym, subst}
use Rattle.erst_port.specs.Parts.{IsPart, size_at}
use Rattle.erst_port.specs.PortState.{PortState, flash_of}
use Rattle.erst_port.proofs.PartLemmas.{begun_below, is_part}
use Rattle.erst_port.proofs.port.Port.next_due.Goals as goal

pub returns : goal.returns
returns c =
    let whole = c.in_ok-whole.whole in
    let due = c.in_ok-whole.ensures.due in
    let now = c.args.self.now in
    let inside = c.self.inside in
    let n = c.part_size.result in
    let size = c.part_size.ensures in
    let is_begun : 0 < now.made.bytes → now.made.bytes < size_at (flash_of now).told now.made.changes =
    subst (λ (p : PortState). 0 < p.made.bytes → p.made.bytes < size_at (flash_of p).told p.made.changes) c.self.view_is (λ more. (c.self.invariant.begun more).1) in
    let below : 0 < inside.made.bytes → inside.made.bytes < length whole.bytes.now =
    subst (λ (p : PortState). 0 < p.made.bytes → p.made.bytes < length whole.bytes.now) (sym c.self.view_is)
    (begun_below (flash_of now).sector_size (flash_of now).told now.made whole.kind whole.at whole.bytes.now due is_begun) in (
      whole.at,
      whole.bytes.now,
      due,
      subst
          (λ (p : PortState). IsPart (p.origin + whole.at) whole.bytes.now p.made.bytes whole.kind (inside.origin + whole.at + inside.made.bytes)
          (take (inside.made.bytes + n - inside.made.bytes) (drop inside.made.bytes whole.bytes.now))) c.self.view_is
          (is_part (inside.origin + whole.at) whole.bytes.now inside.made.bytes n whole.kind size.value size.within size.page size.some below due.may.few),
    )
