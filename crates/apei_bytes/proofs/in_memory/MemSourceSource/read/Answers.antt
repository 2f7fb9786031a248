use Rattle.std.proofs.Common.{◌≡◌, ℕ, ◌+◌, ◌-◌, List, ◌++◌, length, take, drop, sym, ap, ◌∙◌, arith}
use Rattle.std.proofs.lemmas.List.{take-append-drop, drop-drop, take_at, length-take}
use Rattle.apei_bytes.specs.Streams.{BytesToRead}
use Rattle.apei_bytes.proofs.in_memory.MemSourceSource.read.Goals as goal

-- n bytes of a list from a place on were put at the start of a buffer, and the others are left
put : (start n : ℕ) (items copied buffer rest : List ℕ) → rest ≡ drop start items → copied ≡ take (start + n - start) (drop start items) → length copied ≡ n
    → rest ≡ take n (copied ++ drop n buffer) ++ drop (start + n) items
put start n items copied buffer rest is_rest is_copied size =
    let width : start + n - start ≡ n = omega arith in
    is_rest
    ∙ sym (take-append-drop n (drop start items))
    ∙ ap (λ (xs : List ℕ). xs ++ drop n (drop start items)) (sym (is_copied ∙ ap (λ (k : ℕ). take k (drop start items)) width) ∙ sym (take_at copied (drop n buffer) n size))
    ∙ ap (λ (xs : List ℕ). take n (copied ++ drop n buffer) ++ xs) (drop-drop n start items)

pub returns-clause-bytes : goal.returns-clause-bytes
returns-clause-bytes c =
    put c.self.inside.taken c.min-count.result c.self.inside.bytes.items c.copy_from_slice.new.self c.args.buf.now c.args.self.now.rest
    (ap (λ (s : BytesToRead). s.rest) (sym c.self.view_is))
    (c.copy_from_slice.ensures.after ∙ ap (λ (xs : List ℕ). take (c.self.inside.taken + c.min-count.result - c.self.inside.taken) (drop c.self.inside.taken xs)) c.deref-2.ensures.value)
    (omega (arith, c.copy_from_slice.ensures.len, length-take c.min-count.result c.args.buf.now))
