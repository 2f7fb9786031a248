use Rattle.std.proofs.Common.{◌≡◌, ℕ, List, ◌^◌, ◌-◌, length, Ok, true, sym, ap, ◌∙◌}
use Rattle.std.specs.Prelude.{is_ok}
use Rattle.cper_frame.specs.Reading.{checked}
use Rattle.cper_frame.specs.Stream.{Reader}
use Rattle.cper_frame.proofs.Readers.{whole_of, whole_for_all}
use Rattle.cper_frame.proofs.reader.FrameReader.frame.Goals as goal

pub whole-requires : goal.whole-requires
whole-requires c =
    let ok : is_ok (checked c.self.inside.limit c.self.inside.held.items) ≡ true = ap (λ (r : Reader). is_ok (checked r.limit r.held)) c.self.view_is ∙ sym c.is_whole.ensures ∙ c.if-is_whole.true in
    let here = whole_of c.self.inside.limit c.self.inside.missing c.self.inside.held.items c.self.invariant.state ok in
    ap (checked (2 ^ 32 - 1)) c.as_slice.ensures.value
    ∙ whole_for_all c.self.inside.limit (length c.self.inside.held.items) c.self.inside.held.items c.self.invariant.short here
    ∙ ap (λ (xs : List ℕ). Ok (length xs)) (sym c.as_slice.ensures.value)
