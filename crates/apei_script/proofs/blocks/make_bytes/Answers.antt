use Rattle.std.proofs.Common.{◌≡◌, length, take, Ok, Err, refl, arith}
use Rattle.std.proofs.lemmas.List.{length-take-le}
use Rattle.apei_space.specs.Calls.{ReadBytes}
use Rattle.erst_machine.specs.Events.{Accessed}
use Rattle.script_text.specs.ScriptGrammar.{peek}
use Rattle.apei_script.specs.Words.{words_of_peek}
use Rattle.apei_script.specs.Happened.{Once}
use Rattle.apei_script.proofs.Made.{made_digits}
use Rattle.apei_script.proofs.blocks.make_bytes.Goals as goal

pub returns-in-Ok-clause-made : goal.returns-in-Ok-clause-made
returns-in-Ok-clause-made g c =
    let size : length (take c.args.len c.args.bytes.now) ≡ c.args.len = length-take-le _ _ (omega arith) in
    let same : length c.read_bytes.new.out ≡ length (take c.args.len c.args.bytes.now) = c.read_bytes.auto.out in (
      words_of_peek c.read_bytes.new.out (Ok tt),
      Once (peek c.args.at c.args.len) (Accessed (ReadBytes c.args.at (take c.args.len c.args.bytes.now) c.read_bytes.new.out (Ok tt)))
          (words_of_peek c.read_bytes.new.out (Ok tt)) _ (refl, size, refl) c.in-Ok.ensures,
      made_digits _ _ _ _ _ (omega arith) c.begin.ensures c.add_hex.ensures.text c.add_hex.ensures.longer (omega arith),
    )

pub returns-in-Err-clause-made : goal.returns-in-Err-clause-made
returns-in-Err-clause-made g c = (
  words_of_peek c.read_bytes.new.out (Err c.in-Err.fault),
  Once (peek c.args.at c.args.len) (Accessed (ReadBytes c.args.at (take c.args.len c.args.bytes.now) c.read_bytes.new.out (Err c.in-Err.fault)))
      (words_of_peek c.read_bytes.new.out (Err c.in-Err.fault)) _
      (refl, length-take-le _ _ (omega arith), refl) c.in-Err.ensures,
  c.refuse.ensures,
)
