use Rattle.std.proofs.Common.{[], sym, ◌∙◌}
use Rattle.std.proofs.lemmas.List.{append-nil}
use Rattle.erst_machine.specs.OwnTables.{own_erst}
use Rattle.apei_script.proofs.LawLemmas.{attaching_finds_its_client}
use Rattle.apei_script.proofs.Owning.{never_fails, is_own}
use Rattle.apei_script.proofs.own.own_client.Goals as goal

pub unreachable-requires : goal.unreachable-requires
unreachable-requires g c =
    let given = c.in-Ok.ensures.only own_erst c.in_ok-bytes.bytes.items [] (c.deref.ensures.value ∙ sym (append-nil c.in_ok-bytes.bytes.items))
    c.in_ok-bytes.ensures.fits c.in_ok-bytes.ensures.table in
    never_fails g.F.Flash.tells (attaching_finds_its_client g.F.Flash.tells) _ _ _ _ _ _ given.0 c.new-budget.ensures c.in-Err.ensures.attaches

pub returns-clause-client : goal.returns-clause-client
returns-clause-client g c =
    let given = c.in-Ok.ensures.only own_erst c.in_ok-bytes.bytes.items [] (c.deref.ensures.value ∙ sym (append-nil c.in_ok-bytes.bytes.items))
    c.in_ok-bytes.ensures.fits c.in_ok-bytes.ensures.table in
    (is_own g.F.Flash.tells (attaching_finds_its_client g.F.Flash.tells) _ _ _ _ _ _ given.0 c.new-budget.ensures c.in-Ok-attach.ensures.attaches).0

pub returns-clause-machine : goal.returns-clause-machine
returns-clause-machine g c =
    let given = c.in-Ok.ensures.only own_erst c.in_ok-bytes.bytes.items [] (c.deref.ensures.value ∙ sym (append-nil c.in_ok-bytes.bytes.items))
    c.in_ok-bytes.ensures.fits c.in_ok-bytes.ensures.table in
    (is_own g.F.Flash.tells (attaching_finds_its_client g.F.Flash.tells) _ _ _ _ _ _ given.0 c.new-budget.ensures c.in-Ok-attach.ensures.attaches).1
