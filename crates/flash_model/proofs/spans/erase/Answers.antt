use Rattle.std.proofs.Common.{◌≡◌, ℕ, ◌+◌, ◌*◌, ◌/◌, ◌%◌, ◌≤◌, List, length, get_or, replicate, refl, sym, ap, subst, ◌∙◌, arith, inl, inr}
use Rattle.std.proofs.lemmas.Nat.{div-add-mod'}
use Rattle.std.proofs.lemmas.Bool.{cases_eq}
use Rattle.base_model.specs.Bytes.{put_at}
use Rattle.flash_model.specs.declared.spans.Span.{Span}
use Rattle.flash_model.specs.Spans.{AreErasedBut, IsErasedBut}
use Rattle.flash_model.proofs.SpanLemmas.{no_bytes, fills_sector, erases, erases_behind, known_of_none}
use Rattle.flash_model.proofs.spans.erase.Goals as goal

-- a place where a sector begins
begins_at : (at sector : ℕ) → at % sector ≡ 0 → at / sector * sector ≡ at
begins_at at sector begins = let whole = div-add-mod' at sector in omega (arith, whole, begins)

-- the fill of a sector that is not known
unknown : (spans : List Span) (sector at : ℕ) (old new : List ℕ) → at % sector ≡ 0 → at + sector ≤ length old → new ≡ put_at old at (replicate sector 0xFF) → length spans ≤ at / sector
    → AreErasedBut spans sector old → AreErasedBut spans sector new
unknown spans sector at old new begins within put behind known =
    let is = begins_at at sector begins in
    erases_behind spans sector (at / sector) old new (omega (arith, is, within)) (put ∙ ap (λ (k : ℕ). put_at old k (replicate sector 0xFF)) (sym is)) behind known

pub returns-then-sector-eq0-clause-known : goal.returns-then-sector-eq0-clause-known
returns-then-sector-eq0-clause-known c =
    elim (cases_eq c.args.sector 0) [
      | inl none ↦
          subst (λ (k : ℕ). AreErasedBut c.args.spans.now k c.fill_range.new.image) (sym none)
          (known_of_none c.args.spans.now c.args.image.now c.fill_range.new.image (subst (λ (k : ℕ). AreErasedBut c.args.spans.now k c.args.image.now) none c.requires.known))
      | inr some ↦
          elim c.then-sector-eq0.branch [
            | goal.then-sector-eq0-via-then-sector-eq0 w ↦ absurd (some w.if-sector-eq0.true)
            | goal.then-sector-eq0-via-else-sector-eq0+then-at-sector w ↦
                unknown c.args.spans.now c.args.sector c.args.at c.args.image.now c.fill_range.new.image c.requires.begins c.requires.within c.fill_range.ensures w.if-at-sector.true c.requires.known
          ]
    ]

pub returns-clause-bytes : goal.returns-clause-bytes
returns-clause-bytes c =
    let number = c.args.at / c.args.sector in
    let span = get_or c.args.spans.now number no_bytes in
    let is = begins_at c.args.at c.args.sector c.requires.begins in
    fills_sector span c.args.sector c.args.at c.args.image.now c.fill_range-2.new.image
    (subst (λ (k : ℕ). IsErasedBut span c.args.sector c.args.image.now k) is (c.requires.known number c.if-at-sector.false)) c.requires.within
    (c.fill_range-2.ensures ∙ ap (λ (n : ℕ). put_at c.args.image.now (c.args.at + span.from) (replicate n 0xFF)) c.saturating_sub.ensures)

pub returns-clause-known : goal.returns-clause-known
returns-clause-known c =
    let number = c.args.at / c.args.sector in
    let is = begins_at c.args.at c.args.sector c.requires.begins in
    let bytes = returns-clause-bytes c in
    erases c.args.spans.now (record { from = c.args.sector; to = 0 }) c.args.sector number c.args.image.now c.fill_range-2.new.image
    (omega (arith, is, c.requires.within)) (bytes ∙ ap (λ (k : ℕ). put_at c.args.image.now k (replicate c.args.sector 0xFF)) (sym is)) refl refl c.if-at-sector.false c.requires.known
