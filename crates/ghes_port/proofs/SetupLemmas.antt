-- Sources one after another.
use Rattle.std.proofs.Common.{◌≡◌, ◌∙◌, inl, inr, ℕ, ◌+◌, Option, List, [], ◌∷◌, ◌++◌, length, sym, ap}
use Rattle.ghes_port.specs.declared.setups.Setup.{Setup}
use Rattle.ghes_port.specs.declared.errors.OpenError.{OpenError}
use Rattle.ghes_port.specs.Machine.{SourceState}
use Rattle.ghes_port.specs.Setups.{first, earlier_fault, setups_fault, begun, map_of}
use Rattle.ghes_port.specs.Several.{RefusesAfter, RefusesAll}

-- why the next source is not begun is the first reason of all
pub refused_next : (setups : List Setup) (earlier : List SourceState) (s : Setup) (rest : List Setup) (error : OpenError)
    → setups_fault earlier (length earlier) (s ∷ rest) ≡ setups_fault [] 0 setups → RefusesAfter earlier s error → RefusesAll setups error
refused_next setups earlier s rest error all (inl own) =
    let i : ℕ = length earlier in
    let later : Option OpenError = first (earlier_fault i earlier s.source.id (map_of s)) (setups_fault (earlier ++ begun s ∷ []) (i + 1) rest) in
    inl (sym all ∙ ap (λ (o : Option OpenError). first o later) own)
refused_next setups earlier s rest error all (inr (inl beside)) =
    let i : ℕ = length earlier in
    let last : Option OpenError = setups_fault (earlier ++ begun s ∷ []) (i + 1) rest in
    inl (sym all ∙ ap (λ (o : Option OpenError). first o (first (earlier_fault i earlier s.source.id (map_of s)) last)) beside.0 ∙ ap (λ (o : Option OpenError). first o last) beside.1)
refused_next setups earlier s rest error all (inr (inr memory)) = inr memory
