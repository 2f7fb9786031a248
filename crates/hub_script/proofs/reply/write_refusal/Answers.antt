use Rattle.std.proofs.lemmas.Result.{on_ok_weaker, on_err_weaker}
use Rattle.hub_script.specs.RefusalWords.{words_of_refusal}
use Rattle.hub_script.specs.Replies.{refused}
use Rattle.hub_script.proofs.PlayLemmas.{lent_text, lent_part}
use Rattle.hub_script.proofs.reply.write_refusal.Goals as goal

pub returns-clause-all : goal.returns-clause-all
returns-clause-all g c = on_ok_weaker c.write_all.result (λ h. lent_text _ _ _ _ (refused (words_of_refusal c.args.why.now)) c.text.ensures c.refuse.ensures h) c.write_all.ensures.all

pub returns-clause-part : goal.returns-clause-part
returns-clause-part g c = on_err_weaker c.write_all.result (λ h. lent_part _ _ _ _ (refused (words_of_refusal c.args.why.now)) c.text.ensures c.refuse.ensures h) c.write_all.ensures.part
