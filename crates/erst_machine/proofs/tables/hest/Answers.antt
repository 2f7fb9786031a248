use Rattle.std.proofs.Common.{◌∙◌, arith}
use Rattle.std.proofs.lemmas.List.{with_items_is}
use Rattle.erst_machine.proofs.TableLemmas.{hest_is, hest_size}
use Rattle.erst_machine.proofs.tables.hest.Goals as goal

pub returns : goal.returns
returns c =
    let is = with_items_is c.in_ok-bytes.bytes c.put_hest.new.out (omega arith) ∙ c.put_hest.ensures in
    record { bytes = is; size = hest_size _ is; table = hest_is _ is }
