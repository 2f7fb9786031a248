use Rattle.std.proofs.Common.{◌≡◌, ◌∙◌, ℕ, List, ◌++◌, take, Result, MatchResult, codes, string_bytes, refl, sym, ap, subst, append_assoc}
use Rattle.cper_frame.specs.declared.error.FrameError.{FrameError}
use Rattle.cper_frame.specs.declared.heads.RecordHead.{RecordHead}
use Rattle.apei_look.specs.Frames.{IsRecordText, head_text, sections_text}
use Rattle.apei_look.specs.Times.{IsTimeOf}
use Rattle.apei_look.proofs.records.add_frame.Goals as goal

pub returns-in_ok-add_sections-in-Ok : goal.returns-in_ok-add_sections-in-Ok
returns-in_ok-add_sections-in-Ok c =
    let old : List ℕ = string_bytes c.args.out.now in
    let time = c.time_of.result in
    let frame = c.in-Ok.frame in
    let sections : List ℕ = sections_text 0 frame.sections in
    let said : List ℕ = head_text frame.head time ++ sections in
    let IsSaid : Result ℕ FrameError → Type 0 =
    λ r. MatchResult r (λ n. IsRecordText (take n c.args.bytes.now) said) (λ _. said ≡ codes "  no error record\n") in
    record {
      more = said;
      of_kind = subst IsSaid (sym c.in-Ok.ensures.exact) (record {
        frame = frame;
        time = time;
        of_bytes = c.in-Ok.ensures.found.1;
        of_head = subst (λ (head : RecordHead). IsTimeOf head time) c.head-head.ensures c.time_of.ensures;
        is = refl;
      });
      is = c.in_ok-add_sections-in-Ok.ensures
          ∙ ap (λ (text : List ℕ). text ++ sections) (c.in_ok-add_head-in-Ok.ensures ∙ ap (λ (head : RecordHead). old ++ head_text head time) c.head-head.ensures)
          ∙ append_assoc old (head_text frame.head time) sections;
    }
