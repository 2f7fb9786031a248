use Rattle.std.proofs.Common.{◌≡◌, ℕ, List, [], None, sym, ap, subst, arith}
use Rattle.std.specs.Prelude.{vec_capacity}
use Rattle.cper_frame.specs.Stream.{IsReader, frame_of}
use Rattle.cper_frame.proofs.Streams.{nothing}
use Rattle.cper_frame.proofs.Readers.{emptied}
use Rattle.cper_frame.proofs.Terms.{frame_by}
use Rattle.cper_frame.proofs.reader.FrameReader.advance.Goals as goal

pub invariant_of-self : goal.invariant_of-self
invariant_of-self c =
    subst (λ (xs : List ℕ). IsReader c.self.inside.limit xs (vec_capacity c.clear.new.self) 128) (sym c.clear.ensures.items)
    (emptied c.self.inside.limit c.self.inside.held.items (vec_capacity c.self.inside.held) (vec_capacity c.clear.new.self) c.self.inside.missing c.self.invariant
    (let same = c.clear.ensures.capacity in omega arith))

pub returns-then-is_whole-clause-none : goal.returns-then-is_whole-clause-none
returns-then-is_whole-clause-none c =
    subst (λ (xs : List ℕ). frame_of (record { limit = c.self.inside.limit; held = xs; failed = c.self.inside.failed }) ≡ None) (sym c.clear.ensures.items)
    (ap (frame_by []) (nothing c.self.inside.limit))
