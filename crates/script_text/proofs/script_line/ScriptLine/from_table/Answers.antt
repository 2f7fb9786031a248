use Rattle.std.proofs.Common.{ℕ, subst, sym, ap, ◌∙◌, ◌≡◌, ◌⊎◌, true}
use Rattle.std.specs.Prelude.{max, codes}
use Rattle.std.proofs.lemmas.Bool.Decides.{Decides-eqb}
use Rattle.std.proofs.lemmas.Slice.Eq.{slice_eq-Decides}
use Rattle.script_lines.specs.Parts.{IsPairs}
use Rattle.script_lines.specs.Columns.{Breaks}
use Rattle.script_lines.specs.Keywords.{common_length}
use Rattle.script_lines.proofs.CommonLemmas.{word_breaks, either_breaks}
use Rattle.script_text.proofs.script_line.ScriptLine.from_table.Goals as goal

pub returns : goal.returns
returns c =
    let own = slice_eq-Decides Decides-eqb c.args.rest.now c.as_slice.result.now c.eq.result c.eq.ensures in
    let shadow = slice_eq-Decides Decides-eqb c.args.rest.now c.as_slice-2.result.now c.eq-2.result c.eq-2.ensures in
    subst (λ (k : ℕ). Breaks (λ text. IsPairs text ⊎ ((text ≡ codes "own") ⊎ (text ≡ codes "shadow"))) c.args.rest.now k)
    (ap (max c.in-Err.reach) (ap (λ (k : ℕ). max k (common_length (codes "shadow") c.args.rest.now)) (sym c.common_len.ensures) ∙ ap (max c.common_len.result)
    (sym c.common_len-2.ensures) ∙ sym c.max.ensures) ∙ sym c.max-2.ensures)
    (either_breaks IsPairs (λ t. (t ≡ codes "own") ⊎ (t ≡ codes "shadow")) c.args.rest.now c.in-Err.reach (max (common_length (codes "own") c.args.rest.now)
    (common_length (codes "shadow") c.args.rest.now)) c.in-Err.ensures
    (either_breaks (λ t. t ≡ codes "own") (λ t. t ≡ codes "shadow") c.args.rest.now (common_length (codes "own") c.args.rest.now) (common_length (codes "shadow") c.args.rest.now)
    (word_breaks (codes "own") c.args.rest.now (λ e. let yes : c.eq.result ≡ true = own.1 (e ∙ sym c.as_slice.ensures) in let no = c.if-eq.false in cc))
    (word_breaks (codes "shadow") c.args.rest.now (λ e. let yes : c.eq-2.result ≡ true = shadow.1 (e ∙ sym c.as_slice-2.ensures) in let no = c.if-eq-2.false in cc))))
