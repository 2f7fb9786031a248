use Rattle.std.proofs.Common.{◌∙◌, ◌∷◌, Ok, Err, refl, ap}
use Rattle.erst_entries.specs.declared.actions.Action.TheVariants.{GetErrorLogAddressRange, GetErrorLogAddressRangeLength, GetErrorLogAddressRangeAttributes}
use Rattle.erst_client.specs.declared.requests.Request.{Request}
use Rattle.erst_client.specs.Requests.{Answered, StopsLater, StopsHere}
use Rattle.erst_client.specs.Attaching.{client_result}
use Rattle.erst_client.proofs.AttachLemmas.{timings_asked, found_attached}
use Rattle.erst_client.proofs.attaching.find.Goals as goal

abbrev address : Request
address = record { action = GetErrorLogAddressRange; given = 0 }

abbrev size : Request
size = record { action = GetErrorLogAddressRangeLength; given = 0 }

abbrev attributes : Request
attributes = record { action = GetErrorLogAddressRangeAttributes; given = 0 }

pub returns-in-Err : goal.returns-in-Err
returns-in-Err g c =
    record { answers = Err c.in-Err.stop; asks = StopsHere address _ _ _ c.in-Err.stop _ _ c.in-Err.ensures; result_is = refl }

pub returns-in-Err-ask : goal.returns-in-Err-ask
returns-in-Err-ask g c = record {
  answers = Err c.in-Err-ask.stop;
  asks = StopsLater address _ _ _ c.in-Ok.address c.ask.new.budget (g.S.Space.state c.ask.new.space) c.in-Err-ask.stop _ _ c.in-Ok.ensures
      (StopsHere size _ _ _ c.in-Err-ask.stop _ _ c.in-Err-ask.ensures);
  result_is = refl;
}

pub returns-in-Err-ask-2 : goal.returns-in-Err-ask-2
returns-in-Err-ask-2 g c = record {
  answers = Err c.in-Err-ask-2.stop;
  asks = StopsLater address _ _ _ c.in-Ok.address c.ask.new.budget (g.S.Space.state c.ask.new.space) c.in-Err-ask-2.stop _ _ c.in-Ok.ensures
      (StopsLater size _ _ _ c.in-Ok-ask.len c.ask-2.new.budget (g.S.Space.state c.ask-2.new.space) c.in-Err-ask-2.stop _ _ c.in-Ok-ask.ensures
      (StopsHere attributes _ _ _ c.in-Err-ask-2.stop _ _ c.in-Err-ask-2.ensures));
  result_is = refl;
}

pub returns-in-Ok-ask_timings : goal.returns-in-Ok-ask_timings
returns-in-Ok-ask_timings g c =
    let entries = c.args.table.now.entries in
    let asked = timings_asked g.S.Space.allows entries c.ask-3.new.budget (g.S.Space.state c.ask-3.new.space) (Ok c.in-Ok-ask_timings.timings)
    c.ask_timings.new.budget (g.S.Space.state c.ask_timings.new.space) c.in-Ok-ask_timings.ensures in
    record {
      answers = Ok (c.in-Ok.address ∷ c.in-Ok-ask.len ∷ c.in-Ok-ask-2.attributes ∷ asked.0);
      asks = Answered address _ _ _ c.in-Ok.address c.ask.new.budget (g.S.Space.state c.ask.new.space) _ _ _ c.in-Ok.ensures
          (Answered size _ _ _ c.in-Ok-ask.len c.ask-2.new.budget (g.S.Space.state c.ask-2.new.space) _ _ _ c.in-Ok-ask.ensures
          (Answered attributes _ _ _ c.in-Ok-ask-2.attributes c.ask-3.new.budget (g.S.Space.state c.ask-3.new.space) _ _ _ c.in-Ok-ask-2.ensures asked.1.0));
      result_is = ap (client_result c.args.table.now) c.admit.ensures ∙ found_attached c.args.table.now c.in-Ok.address c.in-Ok-ask.len c.in-Ok-ask-2.attributes
          c.in-Ok-ask_timings.timings asked.0 asked.1.1;
    }

pub returns-in-Err-ask_timings : goal.returns-in-Err-ask_timings
returns-in-Err-ask_timings g c =
    let entries = c.args.table.now.entries in
    let asked = timings_asked g.S.Space.allows entries c.ask-3.new.budget (g.S.Space.state c.ask-3.new.space) (Err c.in-Err-ask_timings.stop)
    c.ask_timings.new.budget (g.S.Space.state c.ask_timings.new.space) c.in-Err-ask_timings.ensures in
    record {
      answers = Err c.in-Err-ask_timings.stop;
      asks = StopsLater address _ _ _ c.in-Ok.address c.ask.new.budget (g.S.Space.state c.ask.new.space) c.in-Err-ask_timings.stop _ _ c.in-Ok.ensures
          (StopsLater size _ _ _ c.in-Ok-ask.len c.ask-2.new.budget (g.S.Space.state c.ask-2.new.space) c.in-Err-ask_timings.stop _ _ c.in-Ok-ask.ensures
          (StopsLater attributes _ _ _ c.in-Ok-ask-2.attributes c.ask-3.new.budget (g.S.Space.state c.ask-3.new.space) c.in-Err-ask_timings.stop _ _ c.in-Ok-ask-2.ensures asked));
      result_is = refl;
    }
