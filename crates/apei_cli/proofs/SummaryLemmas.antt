-- A text that was written, or a beginning of it.
use Rattle.std.proofs.Common.{◌≡◌, ◌∙◌, ℕ, List, ◌++◌, take, drop, Result, Ok, Err, sym, ap}
use Rattle.std.specs.Prelude.{OnOk, OnErr}
use Rattle.std.proofs.lemmas.List.{take-append-drop}
use Rattle.apei_cli.specs.Summaries.{WritesText}

pub written : {E : Type 0} (text before now : List ℕ) (result : Result (Unit {0}) E) (tells : Type 0) → tells → (piece : List ℕ) → piece ≡ text
    → OnOk result (tells → now ≡ before ++ piece) → OnErr result (tells → (n : ℕ) × (now ≡ before ++ take n piece)) → WritesText text before now result
written text before now (Ok done) tells told piece is all part = all told ∙ ap (λ (xs : List ℕ). before ++ xs) is
written text before now (Err error) tells told piece is all part =
    let some = part told in (
      take some.0 text,
      drop some.0 text,
      sym (take-append-drop some.0 text),
      some.1 ∙ ap (λ (xs : List ℕ). before ++ take some.0 xs) is,
    )
