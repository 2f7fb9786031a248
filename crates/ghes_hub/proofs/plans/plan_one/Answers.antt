use Rattle.std.proofs.Common.{◌∙◌, List, ◌++◌, sym, ap}
use Rattle.apei_space.specs.declared.windows.Window.{Window}
use Rattle.ghes_hub.specs.Layouts.{layout_windows}
use Rattle.ghes_hub.specs.Refusals.{all_windows}
use Rattle.ghes_hub.proofs.PlanLemmas.{windows_push}
use Rattle.ghes_hub.proofs.plans.plan_one.Goals as goal

pub returns-in_ok-layout-in-Ghes-clause-windows : goal.returns-in_ok-layout-in-Ghes-clause-windows
returns-in_ok-layout-in-Ghes-clause-windows c =
    λ was. c.in_ok-layout-in-Ghes.ensures.laid.3
    ∙ ap (λ (ws : List Window). ws ++ layout_windows c.in_ok-layout-in-Ghes.layout) was
    ∙ sym (windows_push c.args.layouts.now.items c.in_ok-layout-in-Ghes.layout)
    ∙ ap all_windows (sym c.push_reserved.ensures.items)
