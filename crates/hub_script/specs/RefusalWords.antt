-- The words of refusals.
use Rattle.std.specs.Prelude.{ℕ, List, [], ◌++◌, codes, decimal}
use Rattle.ghes_hub.specs.declared.errors.HubError.{HubError}
use Rattle.ghes_hub.specs.declared.errors.HubError.TheVariants.{NoSource, Many, BlockLen, Status, Ack, Clash, Memory}
use Rattle.script_text.specs.SubmitWords.{words_of_submit}
use Rattle.script_text.specs.TableWords.{words_of_hest, HestHasWords}
use Rattle.hub_script.specs.declared.refusals.HubRefusal.{HubRefusal}
use Rattle.hub_script.specs.declared.refusals.HubRefusal.TheVariants.{Open, Table, Hub, NoHub, Nobody, Submit}

abbrev pub words_of_hub : HubError → List ℕ
words_of_hub NoSource = codes "no-source"
words_of_hub (Many found) = codes "many " ++ decimal found
words_of_hub (BlockLen i len) = codes "block-len " ++ decimal i ++ codes " " ++ decimal len
words_of_hub (Status i) = codes "status " ++ decimal i
words_of_hub (Ack i) = codes "ack " ++ decimal i
words_of_hub (Clash i) = codes "clash " ++ decimal i
words_of_hub Memory = []

-- want of memory has no words
abbrev pub HubHasWords : HubError → Type 0
HubHasWords Memory = ⊥
HubHasWords _ = Unit {0}

abbrev pub words_of_refusal : HubRefusal → List ℕ
words_of_refusal Open = codes "open"
words_of_refusal (Table why) = codes "hest " ++ words_of_hest why
words_of_refusal (Hub why) = codes "hub " ++ words_of_hub why
words_of_refusal NoHub = codes "no-hub"
words_of_refusal Nobody = codes "none"
words_of_refusal (Submit why) = words_of_submit why

abbrev pub HasWords : HubRefusal → Type 0
HasWords (Table why) = HestHasWords why
HasWords (Hub why) = HubHasWords why
HasWords _ = Unit {0}
