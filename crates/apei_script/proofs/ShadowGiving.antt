-- What attaching to the machine's second table answers.
use Rattle.std.proofs.Common.{◌≡◌, ℕ, Result, Ok, Err, subst, arith}
use Rattle.apei_space.specs.Accesses.{Reaches}
use Rattle.erst_entries.specs.Layout.{Erst}
use Rattle.erst_client.specs.declared.errors.AttachError.{AttachError}
use Rattle.erst_client.specs.Attaching.{Attaches}
use Rattle.erst_client.specs.Commands.{ClientState}
use Rattle.erst_machine.specs.MachineState.{MachineState, IsMachine}
use Rattle.erst_machine.specs.Allowed.{Allows}
use Rattle.erst_shadow.specs.ShadowTables.{shadow_erst}
use Rattle.erst_shadow.specs.ShadowCommands.{pieces_in, shadow_client, AttachesShadow}
use Rattle.erst_shadow.specs.ShadowTheorems.{AttachingFindsShadowClient}
use Rattle.apei_script.specs.Tables.{ATTACH_STEPS}

-- a client was attached to the machine's second table
pub record GivesShadow (tells : Type 0) (old new : MachineState) : Type 0 where
  pub left : ℕ
  pub attaches : Attaches (Allows tells) (shadow_erst (pieces_in old)) ATTACH_STEPS old (Ok (shadow_client old)) left new
  pub attached : AttachesShadow ATTACH_STEPS old (Ok (shadow_client old)) left new
  pub reaches : Reaches (Allows tells) old new

-- the client, and what attaching it left
pub record IsShadowGiven (tells : Type 0) (old new : MachineState) (client : ClientState) : Type 0 where
  pub client_is : client ≡ shadow_client old
  pub gives : GivesShadow tells old new

module _ (tells : Type 0) (law : (first : MachineState) → IsMachine first → AttachingFindsShadowClient tells first) where
  attaches_it : (erst : Erst) (budget : ℕ) (first : MachineState) (result : Result ClientState AttachError) (left : ℕ) (last : MachineState) → IsMachine first → erst ≡ shadow_erst (pieces_in first)
      → budget ≡ ATTACH_STEPS → Attaches (Allows tells) erst budget first result left last
      → Attaches (Allows tells) (shadow_erst (pieces_in first)) ATTACH_STEPS first result left last × AttachesShadow ATTACH_STEPS first result left last
  attaches_it erst budget first result left last machine is given attaches =
      let attaches_so = subst (λ (e : Erst). Attaches (Allows tells) e ATTACH_STEPS first result left last) is
      (subst (λ (n : ℕ). Attaches (Allows tells) erst n first result left last) given attaches) in
      (attaches_so, law first machine (record { budget = ATTACH_STEPS; answer = result; left = left; last = last }) (omega arith) attaches_so)

  pub is_given : (erst : Erst) (budget : ℕ) (first : MachineState) (client : ClientState) (left : ℕ) (last : MachineState) → IsMachine first →
      erst ≡ shadow_erst (pieces_in first) → budget ≡ ATTACH_STEPS
      → Attaches (Allows tells) erst budget first (Ok client) left last → Reaches (Allows tells) first last → IsShadowGiven tells first last client
  is_given erst budget first client left last machine is given attaches reaches =
      let both = attaches_it erst budget first (Ok client) left last machine is given attaches in
      let same = both.1.result_is in
      let client_is : client ≡ shadow_client first = cc same in
      record {
        client_is = client_is;
        gives = record {
          left = left;
          attaches = subst (λ (c : ClientState). Attaches (Allows tells) (shadow_erst (pieces_in first)) ATTACH_STEPS first (Ok c) left last) client_is both.0;
          attached = subst (λ (c : ClientState). AttachesShadow ATTACH_STEPS first (Ok c) left last) client_is both.1;
          reaches = reaches;
        };
      }

  pub never_fails : (erst : Erst) (budget : ℕ) (first : MachineState) (why : AttachError) (left : ℕ) (last : MachineState) → IsMachine first →
      erst ≡ shadow_erst (pieces_in first) → budget ≡ ATTACH_STEPS
      → Attaches (Allows tells) erst budget first (Err why) left last → ⊥
  never_fails erst budget first why left last machine is given attaches = let never = (attaches_it erst budget first (Err why) left last machine is given attaches).1.result_is in cc never
