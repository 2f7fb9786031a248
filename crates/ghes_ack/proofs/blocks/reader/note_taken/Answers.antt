use Rattle.std.proofs.Common.{◌≡◌, ◌∙◌, ℕ, ◌-◌, ◌+◌, ◌<◌, ◌≤◌, List, [], ◌∷◌, ◌++◌, length, take, drop, replicate, slice_set, sym, ap, arith, append_assoc}
use Rattle.std.proofs.lemmas.List.{replicate_more, set_at, length-replicate, length-take}
use Rattle.ghes_ack.specs.declared.events.Event.{Event}
use Rattle.ghes_ack.specs.declared.events.Event.TheVariants.{Copied, Took}
use Rattle.ghes_ack.proofs.blocks.reader.note_taken.Goals as goal

taken : (events filled rest : List Event) (n : ℕ) → 0 < n → n ≤ length events → filled ≡ replicate (length (take n events)) Copied →
    slice_set (filled ++ rest) (n - 1) Took ≡ replicate (n - 1) Copied ++ Took ∷ rest
taken events filled rest n some few is =
    let l = length-take n events in
    let e : length (take n events) ≡ n - 1 + 1 = omega (arith, l, few, some) in
    ap (λ (xs : List Event). slice_set (xs ++ rest) (n - 1) Took) (is ∙ ap (λ (k : ℕ). replicate k Copied) e ∙ sym (replicate_more (n - 1) Copied))
    ∙ ap (λ (xs : List Event). slice_set xs (n - 1) Took) (append_assoc (replicate (n - 1) Copied) (Copied ∷ []) rest)
    ∙ set_at (replicate (n - 1) Copied) Copied rest Took (n - 1) (length-replicate (n - 1) Copied)

pub returns : goal.returns
returns c = taken c.args.events.now c.fill.new.self (drop c.args.count c.args.events.now) c.args.count c.requires.some c.requires.few (c.fill.ensures.after (λ y same. same))
