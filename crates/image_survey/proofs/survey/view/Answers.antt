use Rattle.record_model.specs.Records.{slot_at}
use Rattle.image_survey.proofs.KindLemmas.{kind_from}
use Rattle.image_survey.proofs.survey.view.Goals as goal

pub returns : goal.returns
returns c =
    record {
      kind = kind_from c.args.geometry.now.slot_size c.args.geometry.now.slots c.args.slot c.args.image.now _ c.kind_of-kind.result _ c.is_upright.result c.is_taken.result c.is_erased.result
          (c.requires.seen c.args.slot _ c.requires.slot) c.kind_of-kind.ensures (c.requires.marked c.args.slot _ c.requires.slot) c.is_upright.ensures
          (c.is_taken.ensures (slot_at c.args.geometry.now.slot_size c.args.image.now) c.requires.seen c.requires.marked) c.is_erased.ensures;
      seen = c.requires.seen c.args.slot _ c.requires.slot;
    }
