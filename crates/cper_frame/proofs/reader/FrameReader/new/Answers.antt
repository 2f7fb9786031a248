use Rattle.std.proofs.Common.{◌≡◌, ℕ, List, [], None, ◌<◌, ◌^◌, sym, ap, subst, arith}
use Rattle.std.specs.Prelude.{vec_capacity}
use Rattle.cper_frame.specs.Stream.{IsReader, frame_of}
use Rattle.cper_frame.proofs.Streams.{nothing}
use Rattle.cper_frame.proofs.Readers.{empty}
use Rattle.cper_frame.proofs.Terms.{frame_by}
use Rattle.cper_frame.proofs.reader.FrameReader.new.Goals as goal

pub invariant_of-result : goal.invariant_of-result
invariant_of-result c =
    let short : c.args.limit < 2 ^ 32 = omega arith in
    subst (λ (xs : List ℕ). IsReader c.args.limit xs (vec_capacity c.in_ok-held.held) 128) (sym c.in_ok-held.ensures.items)
    (empty c.args.limit (vec_capacity c.in_ok-held.held) c.requires short c.in_ok-held.ensures.exact)

pub returns-clause-none : goal.returns-clause-none
returns-clause-none c =
    subst (λ (xs : List ℕ). frame_of (record { limit = c.args.limit; held = xs; failed = None }) ≡ None) (sym c.in_ok-held.ensures.items) (ap (frame_by []) (nothing c.args.limit))
