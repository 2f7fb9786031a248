-- What is true of lines that were played, and of lines that are read.
use Rattle.script_lines.specs.Reads.{AreReadInOrder}
use Rattle.script_lines.proofs.OrderLemmas.{reads_none, reads_next, stands, reads_all, stands_long, reads_taken, goes_on}
use Rattle.apei_script.proofs.LawLemmas.{own_programs}
use Rattle.script_laws.proofs.HistoryLemmas.{history_happens, history_ends_later, history_shows}
use Rattle.script_laws.proofs.KeptCauses.{all_causes}
use Rattle.script_laws.proofs.OrderLemmas.{history_order}
use Rattle.script_laws.proofs.GivenBack.{history_gives_back}
use Rattle.script_laws.proofs.KeptLines.{all_kept, all_in_any}
use Rattle.apei_cli.proofs.LineLaws.{HaveLaws}

pub have_laws : (tells : Type 0) → HaveLaws tells
have_laws tells = record {
  one_list = history_happens tells;
  ends = λ told. history_ends_later tells told;
  crash = λ told. history_shows tells told;
  kept = λ told. all_kept tells (own_programs tells) told;
  in_any = λ told. all_in_any tells (own_programs tells) told;
  in_step = history_order tells;
  given_back = history_gives_back tells;
  causes = all_causes tells (own_programs tells);
}

pub are_read_in_order : (tells : Type 0) → AreReadInOrder tells
are_read_in_order tells =
    record { start = reads_none tells; next = reads_next tells; stands = stands tells; at_end = reads_all tells; too_long = stands_long tells; failed = reads_taken tells; ends = goes_on tells }
