use Rattle.std.proofs.Common.{◌≡◌, ℕ, ◌+◌, ◌-◌, ◌≤◌, List, [], ◌++◌, length, take, drop, refl, sym, ap, ◌∙◌, arith, length-drop}
use Rattle.std.proofs.lemmas.List.{length-take-le, drop-take, drop-drop, with_items_is}
use Rattle.std.proofs.lemmas.Result.{err_from_is_err_and}
use Rattle.std.proofs.Math.Seq.{take-add}
use Rattle.script_lines.specs.Lines.{Reading}
use Rattle.script_lines.proofs.lines.LineReader.fill.Goals as goal

-- n bytes stand behind the k bytes from a place on, which are as they were
behind : (start k n width : ℕ) (old new pending : List ℕ) → width ≡ k + n → take (start + k) new ≡ take (start + k) old → take k (drop start old) ≡ pending
    → take width (drop start new) ≡ pending ++ take n (drop (start + k) new)
behind start k n width old new pending e same is =
    ap (λ (w : ℕ). take w (drop start new)) e
    ∙ take-add k n (drop start new)
    ∙ ap (λ (bs : List ℕ). bs ++ take n (drop k (drop start new))) (sym (drop-take start k new) ∙ ap (drop start) same ∙ drop-take start k old ∙ is)
    ∙ ap (λ (bs : List ℕ). pending ++ take n bs) (drop-drop k start new)

pub returns-in_err-count-clause-none : goal.returns-in_err-count-clause-none
returns-in_err-count-clause-none g c =
    let p = err_from_is_err_and c.from_residual.result c.from_residual.ensures.1 in
    let start = c.make_room-start.result in
    let k = c.self.inside.end - c.self.inside.start in
    rw p.1 (record {
      bytes = [];
      count = refl;
      pending =
          ap (λ (bs : List ℕ). take (start + k - start) (drop start bs)) (with_items_is c.make_room-start.new.buffer c.read_behind.new.buffer (omega arith))
          ∙ behind start k 0 (start + k - start) c.deref_mut.result.now c.read_behind.new.buffer _ (omega arith) c.read_behind.ensures.kept
          (ap (λ (bs : List ℕ). take k (drop start bs)) c.deref_mut.ensures.value ∙ c.make_room-start.ensures.same ∙ ap (λ (r : Reading). r.pending) c.self.view_is);
      given = λ t. sym (c.in_err-count.ensures.given t);
    })

pub returns-clause-more : goal.returns-clause-more
returns-clause-more g c =
    let start = c.make_room-start.result in
    let k = c.self.inside.end - c.self.inside.start in
    let n = c.in_ok-count.count in
    let fits : start + k + n ≤ length c.read_behind.new.buffer = c.in_ok-count.ensures.fits in
    record {
      bytes = take n (drop (start + k) c.read_behind.new.buffer);
      count = length-take-le n (drop (start + k) c.read_behind.new.buffer) (omega (arith, length-drop (start + k) c.read_behind.new.buffer));
      pending =
          ap (λ (bs : List ℕ). take (start + k + n - start) (drop start bs)) (with_items_is c.make_room-start.new.buffer c.read_behind.new.buffer (omega arith))
          ∙ behind start k n (start + k + n - start) c.deref_mut.result.now c.read_behind.new.buffer _ (omega arith) c.read_behind.ensures.kept
          (ap (λ (bs : List ℕ). take k (drop start bs)) c.deref_mut.ensures.value ∙ c.make_room-start.ensures.same ∙ ap (λ (r : Reading). r.pending) c.self.view_is);
      given = λ t. c.in_ok-count.ensures.given t;
    }
