use Rattle.std.proofs.Common.{◌≡◌, ℕ, ◌-◌, List, ◌++◌, length, take, Result, Ok, Err, Option, None, sym, ap, subst, ◌∙◌, arith}
use Rattle.std.specs.Prelude.{vec_capacity}
use Rattle.std.proofs.lemmas.List.{length-take}
use Rattle.cper_frame.specs.declared.error.FrameError.{FrameError}
use Rattle.cper_frame.specs.declared.error.FrameError.TheVariants.{Need}
use Rattle.cper_frame.specs.Reading.{checked}
use Rattle.cper_frame.specs.Stream.{IsReader, Reader, fill_result}
use Rattle.cper_frame.proofs.Readers.{ord_min-min, grown, grown_whole, grown_needs, emptied, filled_less}
use Rattle.cper_frame.proofs.reader.FrameReader.fill.Goals as goal

pub add-requires : goal.add-requires
add-requires c =
    let count_is = c.min-count.ensures ∙ ord_min-min c.self.inside.missing (length c.args.piece.now) in
    let size = length-take c.min-count.result c.args.piece.now in
    let within = c.self.invariant.within in
    let room = c.self.invariant.room in
    omega arith

pub invariant_of-self : goal.invariant_of-self
invariant_of-self c =
    let count_is = c.min-count.ensures ∙ ord_min-min c.self.inside.missing (length c.args.piece.now) in
    let less = c.if-self-gt0.true in
    let size : length (take c.min-count.result c.args.piece.now) ≡ c.min-count.result = length-take c.min-count.result c.args.piece.now ∙ omega arith in
    subst (λ (xs : List ℕ). IsReader c.self.inside.limit xs (vec_capacity c.add.new.held) (c.self.inside.missing - c.min-count.result)) (sym c.add.ensures.items)
    (grown c.self.inside.limit c.self.inside.held.items (take c.min-count.result c.args.piece.now) (vec_capacity c.self.inside.held)
    (vec_capacity c.add.new.held) c.self.inside.missing c.min-count.result
    c.self.invariant size (omega arith) c.add.ensures.room)

sound : (c : goal.Then-self-gt0) → c.self.inside.failed ≡ None
sound c = ap (λ (r : Reader). r.failed) c.self.view_is ∙ c.requires

-- what the piece does where something is missing still
less : (c : goal.Then-self-gt0) → fill_result c.args.self.now c.args.piece.now ≡ (record { limit = c.self.inside.limit; held = c.add.new.held.items; failed = None }, Ok c.min-count.result)
less c =
    let count_is = c.min-count.ensures ∙ ord_min-min c.self.inside.missing (length c.args.piece.now) in
    let less = c.if-self-gt0.true in
    ap (λ (r : Reader). fill_result r c.args.piece.now)
    (sym c.self.view_is ∙ ap (λ (f : Option FrameError). record { limit = c.self.inside.limit; held = c.self.inside.held.items; failed = f }) (sound c))
    ∙ filled_less c.self.inside.limit c.self.inside.held.items c.args.piece.now (vec_capacity c.self.inside.held) c.self.inside.missing c.min-count.result c.self.invariant count_is (omega arith)
    ∙ ap (λ (xs : List ℕ). (record { limit = c.self.inside.limit; held = xs; failed = None }, Ok c.min-count.result)) (sym c.add.ensures.items)

pub returns-then-self-gt0-clause-reader : goal.returns-then-self-gt0-clause-reader
returns-then-self-gt0-clause-reader c =
    ap (λ (f : Option FrameError). record { limit = c.self.inside.limit; held = c.add.new.held.items; failed = f }) (sound c)
    ∙ sym (ap (λ (x : Reader × Result ℕ FrameError). x.0) (less c))

pub returns-then-self-gt0-clause-answer : goal.returns-then-self-gt0-clause-answer
returns-then-self-gt0-clause-answer c = sym (ap (λ (x : Reader × Result ℕ FrameError). x.1) (less c))

pub invariant_of-self-in-Ok : goal.invariant_of-self-in-Ok
invariant_of-self-in-Ok c =
    let count_is = c.min-count.ensures ∙ ord_min-min c.self.inside.missing (length c.args.piece.now) in
    let some = c.if-count-eq0.false in
    let all = c.if-self-gt0.false in
    let size : length (take c.min-count.result c.args.piece.now) ≡ c.min-count.result = length-take c.min-count.result c.args.piece.now ∙ omega arith in
    let ok : checked c.self.inside.limit (c.self.inside.held.items ++ take c.min-count.result c.args.piece.now) ≡ Ok c.in-Ok.field-0 =
    ap (checked c.self.inside.limit) (sym (c.as_slice.ensures.value ∙ c.add.ensures.items)) ∙ sym c.checked_length.ensures ∙ c.in-Ok.is in
    subst (λ (xs : List ℕ). IsReader c.self.inside.limit xs (vec_capacity c.add.new.held) (c.self.inside.missing - c.min-count.result)) (sym c.add.ensures.items)
    (grown_whole c.self.inside.limit c.self.inside.held.items (take c.min-count.result c.args.piece.now) (vec_capacity c.self.inside.held)
    (vec_capacity c.add.new.held) c.self.inside.missing c.min-count.result c.in-Ok.field-0
    c.self.invariant size (omega arith) (omega arith) (omega arith) c.add.ensures.room ok)

pub invariant_of-self-in-Err-Need : goal.invariant_of-self-in-Err-Need
invariant_of-self-in-Err-Need c =
    let need : checked c.self.inside.limit (c.self.inside.held.items ++ take c.min-count.result c.args.piece.now) ≡ Err (Need c.in-Err-Need.more) =
    ap (checked c.self.inside.limit) (sym (c.as_slice.ensures.value ∙ c.add.ensures.items)) ∙ sym c.checked_length.ensures ∙ c.in-Err-Need.is
    ∙ ap (λ (e : FrameError). Err e) c.in-Err-Need.field-0-is in
    subst (λ (xs : List ℕ). IsReader c.self.inside.limit xs (vec_capacity c.add.new.held) c.in-Err-Need.more) (sym c.add.ensures.items)
    (grown_needs c.self.inside.limit c.self.inside.held.items (take c.min-count.result c.args.piece.now) (vec_capacity c.self.inside.held)
    (vec_capacity c.add.new.held) c.self.inside.missing c.in-Err-Need.more
    c.self.invariant c.add.ensures.room need)

pub invariant_of-self-in-Err : goal.invariant_of-self-in-Err
invariant_of-self-in-Err c =
    subst (λ (xs : List ℕ). IsReader c.self.inside.limit xs (vec_capacity c.clear.new.self) 128) (sym c.clear.ensures.items)
    (emptied c.self.inside.limit c.self.inside.held.items (vec_capacity c.self.inside.held) (vec_capacity c.clear.new.self) c.self.inside.missing c.self.invariant
    (let same = c.clear.ensures.capacity in let room = c.add.ensures.room in omega arith))
