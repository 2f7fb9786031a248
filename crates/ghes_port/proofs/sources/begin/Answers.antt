use Rattle.std.proofs.Common.{◌≡◌, ◌∙◌, ℕ, ◌+◌, ◌<◌, List, ◌∷◌, get_or, length, drop, vec_len, sym, ap, arith}
use Rattle.std.proofs.lemmas.List.{drop_more}
use Rattle.ghes_port.specs.declared.setups.Setup.{Setup}
use Rattle.ghes_port.specs.Machine.{SourceState}
use Rattle.ghes_port.specs.Setups.{setups_fault}
use Rattle.ghes_port.proofs.SetupLemmas.{refused_next}
use Rattle.ghes_port.proofs.sources.begin.Goals as goal

pub returns-in-Err-clause-refused : goal.returns-in-Err-clause-refused
returns-in-Err-clause-refused c =
    let setups = c.args.setups.now in
    let list = c.loop-setup.list in
    let n = vec_len list in
    let s = c.in-Some.setup.now in
    let at = c.len.ensures in
    let there = c.in-Some.ensures.lookup.3.0 in
    let within : n < length setups = omega (arith, at, there) in
    let is : s ≡ get_or setups n s = c.in-Some.ensures.lookup.1 ∙ ap (λ (k : ℕ). get_or setups k s) at in
    let rest = drop (n + 1) setups in
    let rest_is : drop n setups ≡ s ∷ rest = drop_more setups n s within ∙ ap (λ (x : Setup). x ∷ rest) (sym is) in
    let earlier = c.deref.result.now in
    let all : setups_fault earlier (length earlier) (s ∷ rest) ≡ setups_fault list.items n (drop n setups) =
    ap (λ (k : ℕ). setups_fault earlier k (s ∷ rest)) c.deref.ensures.len
    ∙ ap (λ (e : List SourceState). setups_fault e n (s ∷ rest)) c.deref.ensures.value
    ∙ ap (setups_fault list.items n) (sym rest_is) in
    refused_next setups earlier s rest c.in-Err.error (all ∙ c.loop-setup.invariant.later) c.in-Err.ensures.refused
