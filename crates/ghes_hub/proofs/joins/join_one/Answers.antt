use Rattle.std.proofs.Common.{◌∙◌, sym}
use Rattle.ghes_hub.proofs.JoinLemmas.{join_before, join_behind}
use Rattle.ghes_hub.proofs.joins.join_one.Goals as goal

pub returns-then-follows-clause-may : goal.returns-then-follows-clause-may
returns-then-follows-clause-may c = λ rest may. join_before c.args.window rest c.args.grown.now (sym c.follows.ensures ∙ c.if-follows.true) may

pub returns-then-follows-2-clause-may : goal.returns-then-follows-2-clause-may
returns-then-follows-2-clause-may c = λ rest may. join_behind c.args.window rest c.args.grown.now (sym c.follows-2.ensures ∙ c.if-follows-2.true) may
