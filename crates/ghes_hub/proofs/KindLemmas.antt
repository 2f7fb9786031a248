-- A plain handover makes the turns of one with an acknowledgement, with one more after each clearing.
use Rattle.std.proofs.Common.{◌≡◌, ◌∙◌, ℕ, List, [], ◌∷◌, ◌++◌, refl, ap, subst}
use Rattle.ghes_ack.specs.declared.events.Side.{Side}
use Rattle.ghes_ack.specs.declared.events.Side.TheVariants.{Reader}
use Rattle.ghes_ack.specs.declared.events.Event.{Event}
use Rattle.ghes_ack.specs.declared.events.Event.TheVariants.{Took, Ack}
use Rattle.ghes_ack.specs.Machine.{Machine, Situation, Filling, Published, Reading, Cleared, Acknowledged, turned, reader_turn, IsState}
use Rattle.ghes_ack.proofs.Terms.{Turned}
use Rattle.ghes_ack.specs.Schedules.{Step, Submit, Turn, Watched, watched, after, run, AreFitting, submissions}
use Rattle.ghes_ack.proofs.StepLemmas.{turn_keeps}
use Rattle.ghes_ack.proofs.ScheduleLemmas.{watched_machine}
use Rattle.ghes_hub.specs.Kinds.{Kind, ByRegister, ByStatus, turned_by}
use Rattle.ghes_hub.proofs.Terms.{settled}
use Rattle.ghes_hub.specs.Runs.{after_by, run_by}

-- the turn of the reader that a clearing stands for beside its own
extra : Situation → List Step
extra Filling = []
extra Published = []
extra Reading = []
extra Cleared = Turn Reader ∷ []
extra Acknowledged = []

-- the steps of a plain handover as those of one with an acknowledgement
pub spread : Watched → List Step → List Step
spread w [] = []
spread w (Submit block ∷ steps) = Submit block ∷ spread (after_by ByStatus w (Submit block)) steps
spread w (Turn side ∷ steps) = Turn side ∷ (extra (turned side w.machine).1.situation ++ spread (after_by ByStatus w (Turn side)) steps)

-- what the observer sees is kept by an acknowledgement
watched_ack : (w : Watched) (event : Event) (m k : Machine) → watched (watched w event m) Ack k ≡ watched w event k
watched_ack w Took m k = refl
watched_ack w _ m k = refl

spread_turn : (w : Watched) (event : Event) (m : Machine) (s : Situation) → m.situation ≡ s → run (watched w event m) (extra s) ≡ watched w event (settled m s)
unfolding extra
spread_turn w event m Filling e = refl
spread_turn w event m Published e = refl
spread_turn w event m Reading e = refl
spread_turn w event m Acknowledged e = refl
spread_turn w event m Cleared e =
    let is : turned Reader (watched w event m).machine ≡ (Ack, settled m Cleared) =
    ap (turned Reader) (watched_machine w event m) ∙ ap (reader_turn m) e in
    ap (λ (t : Turned). watched (watched w event m) t.0 t.1) is ∙ watched_ack w event m (settled m Cleared)

run-append : (w : Watched) (xs ys : List Step) → run w (xs ++ ys) ≡ run (run w xs) ys
run-append w [] ys = refl
run-append w (x ∷ xs) ys = run-append (after w x) xs ys

pub spread_run : (w : Watched) (steps : List Step) → run w (spread w steps) ≡ run_by ByStatus w steps
unfolding spread
spread_run w [] = refl
spread_run w (Submit block ∷ steps) = spread_run (after_by ByStatus w (Submit block)) steps
spread_run w (Turn side ∷ steps) =
    let m = (turned side w.machine).1 in
    let e = (turned side w.machine).0 in
    run-append (watched w e m) (extra m.situation) (spread (after_by ByStatus w (Turn side)) steps)
    ∙ ap (λ (v : Watched). run v (spread (after_by ByStatus w (Turn side)) steps)) (spread_turn w e m m.situation refl)
    ∙ spread_run (after_by ByStatus w (Turn side)) steps

submissions_extra : (s : Situation) (steps : List Step) → submissions (extra s ++ steps) ≡ submissions steps
unfolding extra
submissions_extra Filling steps = refl
submissions_extra Published steps = refl
submissions_extra Reading steps = refl
submissions_extra Cleared steps = refl
submissions_extra Acknowledged steps = refl

pub spread_submissions : (w : Watched) (steps : List Step) → submissions (spread w steps) ≡ submissions steps
unfolding spread
spread_submissions w [] = refl
spread_submissions w (Submit block ∷ steps) = ap (λ (xs : List (List ℕ)). block ∷ xs) (spread_submissions (after_by ByStatus w (Submit block)) steps)
spread_submissions w (Turn side ∷ steps) =
    submissions_extra (turned side w.machine).1.situation (spread (after_by ByStatus w (Turn side)) steps)
    ∙ spread_submissions (after_by ByStatus w (Turn side)) steps

fitting_extra : (len : ℕ) (s : Situation) (steps : List Step) → AreFitting len steps → AreFitting len (extra s ++ steps)
unfolding extra
fitting_extra len Filling steps good = good
fitting_extra len Published steps good = good
fitting_extra len Reading steps good = good
fitting_extra len Cleared steps good = good
fitting_extra len Acknowledged steps good = good

pub spread_fitting : (len : ℕ) (w : Watched) (steps : List Step) → AreFitting len steps → AreFitting len (spread w steps)
unfolding spread
spread_fitting len w [] good = tt
spread_fitting len w (Submit block ∷ steps) good = (good.0, spread_fitting len (after_by ByStatus w (Submit block)) steps good.1)
spread_fitting len w (Turn side ∷ steps) good =
    fitting_extra len (turned side w.machine).1.situation (spread (after_by ByStatus w (Turn side)) steps)
    (spread_fitting len (after_by ByStatus w (Turn side)) steps good)

-- a settled machine is a state in one of the four situations
settled_keeps : (len : ℕ) (m : Machine) (s : Situation) → m.situation ≡ s → IsState len m → IsState len (settled m s)
settled_keeps len m Filling e st = st
settled_keeps len m Published e st = st
settled_keeps len m Reading e st = st
settled_keeps len m Acknowledged e st = st
settled_keeps len m Cleared e st =
    let is : (turned Reader m).1 ≡ settled m Cleared = ap (λ (s : Situation). (reader_turn m s).1) e in
    subst (IsState len) is (turn_keeps len Reader m st)

pub turned_keeps : (kind : Kind) (len : ℕ) (side : Side) (m : Machine) → IsState len m → IsState len (turned_by kind side m).1
turned_keeps ByRegister len side m st = turn_keeps len side m st
turned_keeps ByStatus len side m st = let t = (turned side m).1 in settled_keeps len t t.situation refl (turn_keeps len side m st)
