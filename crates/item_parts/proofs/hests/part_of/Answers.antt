use Rattle.std.proofs.Common.{◌≡◌, [], get_or, None, sym, ap, ◌∙◌, arith, Some}
use Rattle.std.specs.Prelude.{slice_get}
use Rattle.std.proofs.lemmas.Option.{slice_get_past}
use Rattle.hest_sources.specs.declared.sources.HestSource.{HestSource}
use Rattle.hest_sources.specs.declared.sources.HestSource.TheVariants.{Ghes}
use Rattle.item_parts.specs.declared.parts.Part.{Part}
use Rattle.item_parts.specs.Parts.{source_part, source_parts}
use Rattle.item_parts.proofs.PartLemmas.{length-source_parts, source_place, source_place_first, source_read, source_place_read}
use Rattle.item_parts.proofs.hests.part_of.Goals as goal

-- what is read where there is none
abbrev blank : HestSource
blank = Ghes (record {
  id = 0;
  related = 0;
  flags = 0;
  enabled = 0;
  records = 0;
  sections = 0;
  raw = 0;
  status =
      record { space = 0; width = 0; offset = 0; access = 0; address = 0 };
  notify = [];
  block_len = 0;
  ack = None;
})

pub loop-place-init : goal.loop-place-init
loop-place-init c = record { at_is = source_place_first 40 c.args.sources.now; small = omega arith; low = omega arith }

pub returns-then-place-index : goal.returns-then-place-index
returns-then-place-index c =
    let sources = c.args.sources.now in
    let place = c.loop-place.place in
    let made : Part = record { at = c.loop-place.at; len = c.size_of_source-size.result; body = 0; body_len = 0; kind = c.type_of_source.result } in
    let same : made ≡ source_part (source_place 40 sources place) (get_or sources place blank) =
    λ i. record { at = c.loop-place.invariant.at_is i; len = c.size_of_source-size.ensures.size i; body = 0; body_len = 0; kind = c.type_of_source.ensures i } in
    ap (λ (part : Part). Some part) same
    ∙ sym (source_read 40 sources place blank (omega arith))
    ∙ ap (slice_get (source_parts 40 sources)) c.if-place-index.true

pub loop-place-preserved : goal.loop-place-preserved
loop-place-preserved c =
    let small = c.loop-place.invariant.small in
    let low = c.loop-place.invariant.low in
    let other = c.if-place-index.false in
    let size = c.size_of_source-size.ensures.size in
    let size_small = c.size_of_source-size.ensures.small in
    let at_is = c.loop-place.invariant.at_is in
    let next = source_place_read 40 c.args.sources.now c.loop-place.place blank (omega arith) in
    record { at_is = omega arith; small = omega arith; low = omega arith }

pub returns : goal.returns
returns c =
    let sources = c.args.sources.now in
    let many = length-source_parts 40 sources in
    sym (slice_get_past (source_parts 40 sources) c.args.index (omega arith))
