-- The status of a script that ended.
use Rattle.std.proofs.Common.{◌≡◌, ℕ, List, refl, sym, ap, subst, ◌∙◌}
use Rattle.erst_machine.specs.MachineState.{MachineState}
use Rattle.script_text.specs.ScriptGrammar.{IsLine}
use Rattle.script_lines.specs.Causes.{HasCauseOf, OfSource, OfSink}
use Rattle.script_lines.specs.Ends.{fault_of as end_fault}
use Rattle.script_lines.specs.Lines.{Line}
use Rattle.script_lines.specs.Played.{EndsBehind}
use Rattle.script_lines.specs.declared.ending.ScriptEnd.{ScriptEnd}
use Rattle.script_lines.specs.declared.ending.ScriptEnd.TheVariants as ending
use Rattle.apei_cli.specs.Runs.{ComesBeforeBoot}
use Rattle.apei_cli.specs.Statuses.{EndsBy, LeavesLast, fault_of, status_of}
use Rattle.apei_cli.proofs.Terms.{GivesTable}
use Rattle.apei_cli.specs.declared.status.Status.{Status}
use Rattle.apei_cli.specs.declared.status.Status.TheVariants.{FlashFault}

-- what its status tells: the same fault, the same of the lines, none that comes before the machine is booted, and none of the flash
pub record HasStatus (tells : Type 0) (end : ScriptEnd) : Type 0 where
  pub fault : end_fault end ≡ fault_of (status_of end)
  pub later : ComesBeforeBoot (status_of end) → ⊥
  pub no_flash : status_of end ≡ FlashFault → ⊥
  pub leaves : (machine : MachineState) → LeavesLast tells machine machine (status_of end)
  pub ends : (script rest : List ℕ) (lines : List Line) (last final : MachineState) → EndsBehind IsLine GivesTable script rest lines end → EndsBy tells script rest lines last final (status_of end)

pub has_status : (tells : Type 0) (end : ScriptEnd) → HasStatus tells end
has_status tells ending.Done = record { fault = refl; later = λ first. first; no_flash = λ e. cc e; leaves = λ machine. refl; ends = λ script rest lines last final ends. (ending.Done, refl, ends) }
has_status tells (ending.BadLine line column) = record {
  fault = refl;
  later = λ first. first;
  no_flash = λ e. cc e;
  leaves = λ machine. refl;
  ends =
      λ script rest lines last final ends. (ending.BadLine line column, refl, ends);
}
has_status tells ending.SourceFault = record {
  fault = refl;
  later = λ first. first;
  no_flash = λ e. cc e;
  leaves = λ machine. refl;
  ends =
      λ script rest lines last final ends. (ending.SourceFault, refl, ends);
}
has_status tells ending.SinkFault = record {
  fault = refl;
  later = λ first. first;
  no_flash = λ e. cc e;
  leaves = λ machine. refl;
  ends =
      λ script rest lines last final ends. (ending.SinkFault, refl, ends);
}
has_status tells (ending.TooLong line) = record {
  fault = refl;
  later = λ first. first;
  no_flash = λ e. cc e;
  leaves = λ machine. refl;
  ends =
      λ script rest lines last final ends. (ending.TooLong line, refl, ends);
}
has_status tells ending.Memory = record {
  fault = refl;
  later = λ first. first;
  no_flash = λ e. cc e;
  leaves = λ machine. refl;
  ends =
      λ script rest lines last final ends. (ending.Memory, refl, ends);
}

pub never_first : (end : ScriptEnd) → ComesBeforeBoot (status_of end) → ⊥
never_first end = (has_status (Unit {0}) end).later

module _ (end : ScriptEnd) (status : Status) (is : status ≡ status_of end) where
  same_fault : end_fault end ≡ fault_of status
  same_fault = (has_status (Unit {0}) end).fault ∙ ap fault_of (sym is)

  pub source_cause : (before after : ℕ) → HasCauseOf OfSource before after (end_fault end) → HasCauseOf OfSource before after (fault_of status)
  source_cause before after cause = subst (HasCauseOf OfSource before after) same_fault cause

  pub sink_cause : (before after : ℕ) → HasCauseOf OfSink before after (end_fault end) → HasCauseOf OfSink before after (fault_of status)
  sink_cause before after cause = subst (HasCauseOf OfSink before after) same_fault cause
