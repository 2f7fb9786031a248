use Rattle.std.proofs.Common.{◌∙◌, arith}
use Rattle.std.proofs.lemmas.List.{with_items_is}
use Rattle.erst_machine.proofs.TableLemmas.{bert_is, bert_size}
use Rattle.erst_machine.proofs.tables.bert.Goals as goal

pub returns : goal.returns
returns c =
    let is = with_items_is c.in_ok-bytes.bytes c.put_bert.new.out (omega arith) ∙ c.put_bert.ensures in
    record { bytes = is; size = bert_size _ is; table = bert_is _ is }
