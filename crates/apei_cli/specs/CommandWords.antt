-- The command that clap reads: its job, and its options.
use Rattle.std.specs.Prelude.{Bool, true, false, List, [], ◌∷◌, Option, Some, None, codes, fold, if◌then◌else◌}
use Rattle.std.specs.Str.{bytes_eq}
use Rattle.clap.specs.Words.{App, Text, new_rule, with_rule}
use Rattle.clap_words.specs.Commands.{bare, with_option}
use Rattle.apei_cli.specs.declared.job.Job.{Job}
use Rattle.apei_cli.specs.declared.job.Job.TheVariants.{Play, Sim, Check, Gen, Hub}
use Rattle.apei_cli.specs.declared.setting.Setting.{Setting}
use Rattle.apei_cli.specs.declared.setting.Setting.TheVariants.{Image, Sector, PerSlot, Slots, Steps, Cut, Fail, FailRead, Torn, Count, Seed, Show}

-- the job of a name
abbrev pub job_of : Text → Option Job
job_of name =
    if bytes_eq name (codes "play") then Some Play
    else if bytes_eq name (codes "sim") then Some Sim
    else if bytes_eq name (codes "check") then Some Check
    else if bytes_eq name (codes "gen") then Some Gen
    else if bytes_eq name (codes "hub") then Some Hub
    else None

abbrev pub settings : List Setting
settings = Image ∷ Sector ∷ PerSlot ∷ Slots ∷ Steps ∷ Cut ∷ Fail ∷ FailRead ∷ Torn ∷ Count ∷ Seed ∷ Show ∷ []

abbrev pub name_of : Setting → Text
name_of Image = codes "image"
name_of Sector = codes "sector"
name_of PerSlot = codes "per-slot"
name_of Slots = codes "slots"
name_of Steps = codes "steps"
name_of Cut = codes "cut"
name_of Fail = codes "fail"
name_of FailRead = codes "fail-read"
name_of Torn = codes "torn"
name_of Count = codes "count"
name_of Seed = codes "seed"
name_of Show = codes "show"

abbrev pub plays : Job → Bool
plays Check = false
plays Hub = false
plays _ = true

abbrev pub is : Job → Job → Bool
is Play Play = true
is Sim Sim = true
is Check Check = true
is Gen Gen = true
is Hub Hub = true
is _ _ = false

-- which jobs an option may be given with: those that say how a simulated flash fails, only with `sim`
abbrev pub belongs : Setting → Job → Bool
belongs Image = is Play
belongs Sector = plays
belongs PerSlot = plays
belongs Slots = plays
belongs Steps = plays
belongs Count = is Gen
belongs Seed = is Gen
belongs Show = is Check
belongs _ = is Sim

-- the command: one positional, the job, which has to be there, and the options
unfoldable pub the_command : App
the_command =
    fold (λ (app : App) (setting : Setting). with_option app (name_of setting))
    (with_rule (bare (codes "apei")) (record (new_rule (codes "job")) { required = true })) settings
