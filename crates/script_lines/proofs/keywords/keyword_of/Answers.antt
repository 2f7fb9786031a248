use Rattle.std.proofs.Common.{arith, ℕ, List, refl, sym, ap, ◌∙◌, ◌≡◌, ◌<◌, subst, length, inl, inr}
use Rattle.std.proofs.lemmas.List.{take_all}
use Rattle.std.proofs.lemmas.Option.{slice_get_read}
use Rattle.script_lines.specs.Keywords.{common_length, HasNoKeyword}
use Rattle.script_lines.proofs.CommonLemmas.{whole_front, common_length-short}
use Rattle.script_lines.proofs.KeywordLemmas.{passed_none, passed_more}
use Rattle.script_lines.proofs.keywords.keyword_of.Goals.{then-common-reach, else-common-reach}
use Rattle.script_lines.proofs.keywords.keyword_of.Goals as goal

pub returns-then-common-bytes : goal.returns-then-common-bytes
returns-then-common-bytes g c = record {
  begins = whole_front _ c.args.text.now (ap (λ (w : List ℕ). common_length w c.args.text.now) (sym c.bytes-bytes.ensures) ∙ sym c.common_len-common.ensures
      ∙ c.if-common-bytes.true ∙ ap length c.bytes-bytes.ensures);
  place = c.loop-keyword.keyword-index;
  is = slice_get_read c.args.keywords.now (length c.args.keywords.now) c.loop-keyword.keyword-index c.keyword-item.result refl c.loop-keyword-test.true c.keyword-item.is;
  reach = c.loop-keyword.reach;
  none_before = c.loop-keyword.invariant;
}

pub loop-keyword-init : goal.loop-keyword-init
loop-keyword-init g c = passed_none g.K.Keyword.codes c.args.text.now

pub loop-keyword-preserved : goal.loop-keyword-preserved
loop-keyword-preserved g c =
    let codes = g.K.Keyword.codes in
    let word = c.keyword-item.result in
    let met : c.common_len-common.result ≡ common_length (codes word) c.args.text.now = c.common_len-common.ensures ∙ ap (λ (w : List ℕ). common_length w c.args.text.now) c.bytes-bytes.ensures in
    let not_whole = c.if-common-bytes.false in
    let size : length c.bytes-bytes.result.now ≡ length (codes word) = ap length c.bytes-bytes.ensures in
    let shorter : common_length (codes word) c.args.text.now < length (codes word) = common_length-short (codes word) c.args.text.now (λ e. not_whole (met ∙ e ∙ sym size)) in
    passed_more codes c.args.text.now c.loop-keyword.reach c.if-common-reach.reach c.loop-keyword.keyword-index word word c.args.keywords.now
    c.loop-keyword-test.true c.keyword-item.is c.loop-keyword.invariant shorter
    (elim c.if-common-reach.branch [
      | then-common-reach w ↦ inr (w.reach-is ∙ met, let h = w.if-common-reach.true in omega arith)
      | else-common-reach w ↦ inl (w.reach-is, let h = w.if-common-reach.false in omega arith)
    ])

pub returns : goal.returns
returns g c = subst (HasNoKeyword g.K.Keyword.codes c.args.text.now c.loop-keyword.reach) (take_all c.loop-keyword.keyword-index c.args.keywords.now c.loop-keyword-test.false) c.loop-keyword.invariant
