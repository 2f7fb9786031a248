-- An action of a port.
use Rattle.std.proofs.Common.{◌≡◌, ◌≢◌, ℕ, ◌-◌, ◌^◌, ◌≤◌, true, min, List, length, Option, Some, sym, ap, subst, ◌∙◌, arith}
use Rattle.std.proofs.lemmas.List.{length-take}
use Rattle.base_model.specs.Flash.{Change, FlashState, IsLater}
use Rattle.erst_entries.specs.Actions.{action_of, code_of}
use Rattle.erst_entries.specs.declared.actions.Action.TheVariants.{GetRecordIdentifier, GetErrorLogAddressRange}
use Rattle.erst_device.specs.DeviceState.{DeviceState, KnowsCopies}
use Rattle.erst_device.specs.Actions.{Acts, gives_up}
use Rattle.erst_device.specs.Effects.{Effect}
use Rattle.erst_port.specs.Accesses.{Tells, Address, Round, Number, Acted}
use Rattle.erst_port.proofs.LookLemmas.{Looked, looked, IsBehind, behind, IsSecond, second, effect_round, effect_told, round_first, round_second}

-- the changes of a flash that goes on are no fewer
pub steps_grow : (old new : FlashState) → length old.told.past ≡ old.steps → length new.told.past ≡ new.steps → IsLater old.told new.told → old.steps ≤ new.steps
steps_grow old new before after later =
    let front : min (length old.told.past) (length new.told.past) ≡ length old.told.past =
    sym (length-take (length old.told.past) new.told.past) ∙ ap (λ (past : List Change). length past) later.past in
    omega arith

module _ (old : DeviceState) (range : List ℕ) (address code : ℕ) (left : DeviceState) (after : List ℕ)
    (acts : Acts (Unit {0}) old range (action_of code) left after) (effect : Effect (Unit {0}) old range (action_of code) left)
    (copies : gives_up (action_of code) ≡ true → KnowsCopies old.store) where
  pub acted_address : (new : DeviceState) → code ≡ code_of GetErrorLogAddressRange → new ≡ record left { value = address } → Acted old range address code new after
  acted_address new is new_is =
      let told : Tells address code left after (record left { value = address }) = Address is in
      let whole = effect_told old range (action_of code) left address (ap action_of is) effect in
      record {
        left = left;
        acts = acts;
        told = subst (Tells address code left after) (sym new_is) told;
        effect = subst (Effect (Unit {0}) old range (action_of code)) (sym new_is) whole;
        copies = copies;
        round = λ other quiet. absurd (omega arith);
      }

  pub acted_other : code ≢ code_of GetErrorLogAddressRange → code ≢ code_of GetRecordIdentifier → Acted old range address code left after
  acted_other tells looks = record {
    left = left;
    acts = acts;
    told = Number tells (λ is. absurd (looks is));
    effect = effect;
    copies = copies;
    round = λ is quiet. absurd (looks is);
  }

  pub acted_number : code ≡ code_of GetRecordIdentifier → left.value ≢ 2 ^ 64 - 1 → Acted old range address code left after
  acted_number is other =
      let action : action_of code ≡ Some GetRecordIdentifier = ap action_of is in
      let looks : Looked old range left after = looked old range (action_of code) left after action acts in
      record {
        left = left;
        acts = acts;
        told = Number (λ tells. absurd (omega arith)) (λ same. other);
        effect = effect;
        copies = copies;
        round = λ same quiet. round_first old range (action_of code) left after action looks effect other quiet;
      }

  pub acted_round : (new : DeviceState) (last : List ℕ) → code ≡ code_of GetRecordIdentifier → left.value ≡ 2 ^ 64 - 1 →
      Acts (Unit {0}) left after (action_of code) new last → Acted old range address code new last
  acted_round new last is all again =
      let action : action_of code ≡ Some GetRecordIdentifier = ap action_of is in
      let looks : Looked old range left after = looked old range (action_of code) left after action acts in
      let ends : IsBehind old left = behind old range left after looks all in
      let repeats : Looked left after new last = looked left after (action_of code) new last action again in
      let next : IsSecond left new = second left after new last repeats ends.ready ends.cursor in
      let once : Acts (Unit {0}) left after (Some GetRecordIdentifier) new after =
      subst (λ (r : List ℕ). Acts (Unit {0}) left after (Some GetRecordIdentifier) new r) repeats.range_is
      (subst (λ (a : Option _). Acts (Unit {0}) left after a new last) action again) in
      let all_of : Acted old range address code new after = record {
        left = left;
        acts = acts;
        told = Round new is all once;
        effect = effect_round old range (action_of code) left new action effect next;
        copies = copies;
        round = λ same quiet. round_second old range (action_of code) left new action effect ends next quiet;
      } in
      subst (Acted old range address code new) (sym repeats.range_is) all_of
