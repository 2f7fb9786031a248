use Rattle.std.proofs.Common.{refl, string_bytes}
use Rattle.apei_look.proofs.LookLemmas.{look_given}
use Rattle.apei_look.proofs.looking.look.Goals as goal

pub returns-in-Ok-look_at_path-clause-ends : goal.returns-in-Ok-look_at_path-clause-ends
returns-in-Ok-look_at_path-clause-ends g c =
    look_given (g.H.Host.entry c.args.host.now (string_bytes c.args.options.now.image)) c.args.options.now c.in-Ok.given _ _ c.in-Ok-look_at_path.status _ refl
    (record { sector = c.in-Ok.ensures.sector; per_slot = c.in-Ok.ensures.per_slot; slots = c.in-Ok.ensures.slots })
    c.in-Ok-look_at_path.ensures.ends

pub returns-in-Err-clause-ends : goal.returns-in-Err-clause-ends
returns-in-Err-clause-ends g c =
    look_given (g.H.Host.entry c.args.host.now (string_bytes c.args.options.now.image)) c.args.options.now c.in-Ok.given _ _ c.in-Err.status _ refl
    (record { sector = c.in-Ok.ensures.sector; per_slot = c.in-Ok.ensures.per_slot; slots = c.in-Ok.ensures.slots })
    c.in-Err.ensures.ends
