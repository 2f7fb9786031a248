-- The words of what a machine, or a client of it, refuses.
use Rattle.std.specs.Prelude.{ℕ, List}
use Rattle.apei_script.specs.RunWords.{words_of_fault, words_of_stop}
use Rattle.apei_script.specs.ClientWords.{words_of_attach, words_of_client}
use Rattle.apei_script.specs.declared.machine_refusal.MachineRefusal.{MachineRefusal}
use Rattle.apei_script.specs.declared.machine_refusal.MachineRefusal.TheVariants.{Client, Attach, Program, Space}

abbrev pub words_of_refusal : MachineRefusal → List ℕ
words_of_refusal (Client why) = words_of_client why
words_of_refusal (Attach why) = words_of_attach why
words_of_refusal (Program why) = words_of_stop why
words_of_refusal (Space why) = words_of_fault why
