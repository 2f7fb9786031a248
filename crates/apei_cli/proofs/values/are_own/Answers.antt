use Rattle.std.proofs.Common.{◌≡◌, rules, sym, ap, ◌∙◌, refl}
use Rattle.std.proofs.lemmas.Iterator.{YieldsList-from_slice}
use Rattle.std.proofs.lemmas.Iterator.Search.{all_from_yields_List}
use Rattle.std.proofs.lemmas.List.Sums.{AllPass-from_list_all, list_all-from_AllPass}
use Rattle.std.specs.List.{list_all}
use Rattle.clap.specs.Words.{found_of, rows_of}
use Rattle.apei_cli.specs.CommandWords.{settings}
use Rattle.apei_cli.proofs.Terms.{is_own}
use Rattle.apei_cli.proofs.values.are_own.Goals as goal

pub returns : goal.returns
returns c = (
  λ yes. AllPass-from_list_all (is_own (rows_of (found_of c.args.matches.now)) c.args.job) settings (sym all ∙ yes),
  λ own. all ∙ list_all-from_AllPass (is_own (rows_of (found_of c.args.matches.now)) c.args.job) settings own,
)
  where
    all : c.all.result ≡ list_all (is_own (rows_of (found_of c.args.matches.now)) c.args.job) settings
    all =
        all_from_yields_List (is_own (rows_of (found_of c.args.matches.now)) c.args.job) _ _ c.all.result c.all.ensures.ran
        (YieldsList-from_slice c.iter.result.rest.now refl) (λ x b q k. search rules)
        ∙ ap (list_all (is_own (rows_of (found_of c.args.matches.now)) c.args.job)) c.iter.ensures.rest
