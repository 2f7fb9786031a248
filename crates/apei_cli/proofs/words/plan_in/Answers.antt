use Rattle.std.proofs.Common.{◌≡◌, ◌∙◌, Some, true, refl, sym, subst}
use Rattle.std.specs.List.{AllPass}
use Rattle.clap.specs.Words.{found_of, rows_of}
use Rattle.apei_cli.specs.CommandWords.{settings}
use Rattle.apei_cli.proofs.Terms.{is_own}
use Rattle.apei_cli.specs.declared.job.Job.{Job}
use Rattle.apei_cli.proofs.words.plan_in.Goals as goal

pub returns-then-not-are_own-clause-bad_words : goal.returns-then-not-are_own-clause-bad_words
returns-then-not-are_own-clause-bad_words c _ = (
  refl,
  λ plan is.
      let same : Some plan.job ≡ Some c.in_ok-job.job = sym is.job ∙ c.in_ok-job.ensures in
      let job : plan.job ≡ c.in_ok-job.job = cc in
      let own : c.are_own.result ≡ true = c.are_own.ensures.1 (subst (λ (j : Job). AllPass (is_own (rows_of (found_of c.args.matches.now)) j) settings) job is.own) in
      absurd (cc),
)

pub returns-clause-plan : goal.returns-clause-plan
returns-clause-plan c = record {
  job = c.in_ok-job.ensures;
  own = c.are_own.ensures.0 (cc);
  image = c.in_ok-image.ensures.image;
  sector = c.in_ok-number_or.ensures;
  per_slot = c.in_ok-number_or-2.ensures;
  slots = c.in_ok-number_or-3.ensures;
  steps = c.in_ok-number_of.ensures;
  cut = c.in_ok-number_of-2.ensures;
  fail = c.in_ok-number_of-3.ensures;
  fail_read = c.in_ok-number_of-4.ensures;
  torn = c.in_ok-number_or-4.ensures;
  count = c.in_ok-count.ensures;
  seed = c.in_ok-number_or-5.ensures;
  show = c.in_ok-show.ensures;
}
