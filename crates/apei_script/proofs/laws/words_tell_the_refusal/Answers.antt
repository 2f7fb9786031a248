use Rattle.apei_script.proofs.RefusalLemmas.{told}
use Rattle.apei_script.proofs.laws.words_tell_the_refusal.Goals as goal

pub returns : goal.returns
returns c = record {
  hardware = λ error. (told error).hardware;
  stopped = λ stop error. (told error).stopped stop;
  late = λ time error. (told error).late time;
}
