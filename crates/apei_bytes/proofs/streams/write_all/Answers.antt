use Rattle.std.proofs.Common.{◌≡◌, ℕ, ◌+◌, ◌-◌, List, ◌++◌, length, take, drop, sym, ap, ◌∙◌, append_assoc}
use Rattle.std.proofs.lemmas.List.{drop-drop, take_rest}
use Rattle.std.proofs.Math.Seq.{take-add}
use Rattle.apei_bytes.proofs.streams.write_all.Goals as goal

-- the first n bytes of a rest were taken too
further : (bytes rest old mid new : List ℕ) (m n : ℕ) → rest ≡ drop m bytes → mid ≡ old ++ take m bytes → new ≡ mid ++ take n rest
    → new ≡ old ++ take (m + n) bytes
further bytes rest old mid new m n is_rest so_far more =
    more
    ∙ ap (λ (xs : List ℕ). xs ++ take n rest) so_far
    ∙ append_assoc old (take m bytes) (take n rest)
    ∙ ap (λ (xs : List ℕ). old ++ (take m bytes ++ take n xs)) is_rest
    ∙ ap (λ (xs : List ℕ). old ++ xs) (sym (take-add m n bytes))

pub loop-rest-preserved : goal.loop-rest-preserved
loop-rest-preserved g c =
    let before = c.loop-rest.invariant.so_far in
    let m = before.0 in
    let n = c.in-Ok.n in
    let next : take (length c.loop-rest.rest.now - n) (drop n c.loop-rest.rest.now) ≡ drop (m + n) c.args.bytes.now =
    take_rest c.loop-rest.rest.now n ∙ ap (drop n) before.1 ∙ drop-drop n m c.args.bytes.now in
    record {
      no_fault = c.in-Ok.ensures.cause.ok ∙ c.loop-rest.invariant.no_fault;
      so_far = (m + n, next, λ t. further _ _ _ _ _ m n before.1 (before.2 t) (c.in-Ok.ensures.bytes t));
    }
