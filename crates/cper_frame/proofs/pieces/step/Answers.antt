use Rattle.std.proofs.Common.{ℕ, List, [], ◌∷◌, ◌++◌, sym, ap, ◌∙◌}
use Rattle.std.proofs.lemmas.List.{map_push}
use Rattle.cper_frame.specs.Pieces.{contents}
use Rattle.cper_frame.proofs.Readers.{cases}
use Rattle.cper_frame.proofs.Cuts.{none_step, some_step}
use Rattle.cper_frame.proofs.pieces.step.Goals as goal

pub returns-in-None : goal.returns-in-None
returns-in-None c =
    none_step c.args.reader.now c.feed.new.self c.args.rest.now c.in-Ok.fed (contents c.args.records.now.items) c.requires.waits c.requires.some
    c.feed.ensures.reader (sym c.in-Ok.is ∙ c.feed.ensures.answer) (sym c.frame.ensures.found ∙ c.in-None.is) (cases _)

pub returns-in_ok-push-in-Some : goal.returns-in_ok-push-in-Some
returns-in_ok-push-in-Some c =
    some_step c.args.reader.now c.feed.new.self c.advance.new.self c.args.rest.now c.in-Ok.fed (contents c.args.records.now.items) (contents c.push.new.self.items) c.in-Some.field-0 c.requires.waits
    c.feed.ensures.reader (sym c.in-Ok.is ∙ c.feed.ensures.answer) (sym c.in-Some.is ∙ c.frame.ensures.found) c.in-Some.ensures.record c.advance.ensures.reader
    (ap contents c.in_ok-push-in-Some.ensures.items
    ∙ map_push (λ v. v.items) c.args.records.now.items c.in_ok-record-in-Some.record
    ∙ ap (λ (xs : List ℕ). contents c.args.records.now.items ++ xs ∷ []) (c.in_ok-record-in-Some.ensures.items ∙ c.bytes.ensures))
    c.in-Ok.ensures.within (cases _)
