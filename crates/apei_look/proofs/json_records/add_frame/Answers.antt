use Rattle.std.proofs.Common.{◌≡◌, ◌∙◌, ℕ, List, ◌++◌, take, Result, MatchResult, codes, string_bytes, refl, sym, ap, subst}
use Rattle.cper_frame.specs.declared.error.FrameError.{FrameError}
use Rattle.cper_frame.specs.declared.heads.RecordHead.{RecordHead}
use Rattle.apei_look.specs.RecordObjects.{IsRecordObject, frame_json}
use Rattle.apei_look.specs.Times.{IsTimeOf}
use Rattle.apei_look.proofs.json_records.add_frame.Goals as goal

pub returns-in_ok-add_decoded-in-Ok : goal.returns-in_ok-add_decoded-in-Ok
returns-in_ok-add_decoded-in-Ok c =
    let old : List ℕ = string_bytes c.args.out.now in
    let time = c.time_of.result in
    let frame = c.in-Ok.frame in
    let said : List ℕ = frame_json frame.head time frame.sections in
    let IsSaid : Result ℕ FrameError → Type 0 =
    λ r. MatchResult r (λ n. IsRecordObject (take n c.args.bytes.now) said) (λ _. said ≡ codes "null") in
    record {
      more = said;
      of_kind = subst IsSaid (sym c.in-Ok.ensures.exact) (record {
        frame = frame;
        time = time;
        of_bytes = c.in-Ok.ensures.found.1;
        of_head = subst (λ (head : RecordHead). IsTimeOf head time) c.head-head.ensures c.time_of.ensures;
        is = refl;
      });
      is = c.in_ok-add_decoded-in-Ok.ensures ∙ ap (λ (head : RecordHead). old ++ frame_json head time frame.sections) c.head-head.ensures;
    }
