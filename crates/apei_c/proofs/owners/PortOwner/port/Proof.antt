-- The owner lends the port that it owns, and ends with what is left in its place.
use mathlib.Core.Path.{◌≡◌, refl}
use Prim.Native.Nat.{ℕ}
use mathlib.Core.List.{List, [], ◌∷◌}
use Rattle.std.proofs.Common.{Option, Some}
use Rattle.std.specs.Prelude.{IsSome}
use seplogic.Ra.Ura.{Ura}
use base.Fraction.{full_share}
use mir.Syntax.{named}
use mir.Val.{Val, vptr}
use base.Logic.{ent, sep, id⊢}
use base.Fml.{GName, Fml, ftrue, fsep, flft}
use contract.Monad.{fact}
use contract.Running.{tables}
use types.Logic.{Logic, sem}
use types.Kit.{‵, raw, ◌⊛◌, some, later, at_ret, ◌$◌, ◌∵◌, !, qed, move, keep, use1, split, join, pick, await, rewrite, fsplit, fsplit3, fjoin, fpack, suffices, frame, group, done}
use types.Part.{whole, sub, look_in}
use types.Run.{stop, fld, load, of_opd, first, blocks, exec, returns, enter, addr}
use types.ByLocal.{alloc_all, pass_all, free_all, look_at, get, through, sets, sets_last, env}
use denote.Exit.{no}
use denote.Memory.{part_at, mem, cell_at, part_of}
use denote.RawPtr.{block_ptr}
use denote.Ref.{MutRef, mut_vals, mut_Tells}
use denote.Signature.{plain, mut_ref_to}
use denote.Steps.{nothing, heard, opens}
use denote.Follow.{follows, Part, lends_Part}
use denote.Triple.Walked.{says, Stays, stay_dropped, walk_of, ends_at, Goes-spent_ref}
use Rattle.core.proofs.alloc.Calls.{token}
use mir.Raw.{raw as bare}
use Rattle.std.proofs.raw_atomic.Walks.{proved}
use Rattle.std_alloc.proofs.VecSteps.Shapes.{after}
use Rattle.std_alloc.proofs.BoxSteps.Form.{D, R, B, τ, word, handle}
use Rattle.std_alloc.proofs.BoxSteps.Steps.{box_out, box_in}
use Rattle.erst_port.specs.PortState.{PortState}
use Rattle.erst_port.specs.contracts.port.Port as Port
use Rattle.apei_c.specs.declared.owners.PortOwner.{PortOwner}
use Rattle.apei_c.specs.Lending.{with_port}
use Rattle.apei_c.proofs.Held.{held}
use Rattle.apei_c.proofs.Boxed.{Boxed}
use Rattle.apei_c.specs.contracts.owners.PortOwner.{the_row as Owner}
use Rattle.apei_c.specs.contracts.owners.PortOwner.port as Lent
use Rattle.apei_c.proofs.owners.PortOwner.port.Statement.{statement}
use Rattle.apei_c.proofs.owners.PortOwner.port.Code as code

abbrev stays : Stays (Lent.ended).signature.params (Lent.ended).kept
stays = (stay_dropped (mut_ref_to (0 ∷ []) tt (plain (λ _. Owner))) no, tt)

module _ {M : Type 1} {𝓤 : Ura M} (𝓛 : Logic 𝓤) (rb ro : ℕ) (owner : PortOwner) (b o : ℕ) (hv : Val) where
  -- all of the owner but its port
  abbrev Rest : Fml
  Rest = fsep (fsep (token (Boxed).al owner.alloc (bare (τ Boxed)) (block_ptr b o)) (handle Boxed owner.alloc hv)) (cell_at full_share (Owner).mir (word Boxed hv b o ∷ []) rb ro)

  back : owner.at ≡ block_ptr b o → (port : PortState) → ent 𝓤 (sep 𝓤 (sem 𝓛 ((mem Port.the_row).own_at port b o)) (sem 𝓛 Rest)) (sem 𝓛 ((mem Owner).own_at (with_port owner port) rb ro))
  unfolding part_of
  back at_b port =
      let boxed : D Boxed = record { ptr = owner.at; alloc = owner.alloc; value = port } in
      qed 𝓛 (‵ (part_at (R Boxed) full_share port b o) ∷ ‵ Rest ∷ []) ∵ move ! (1 ∷ []) $ fsplit ! $ fsplit ! $ move ! (3 ∷ []) $
      box_in Boxed ! boxed b o port at_b refl $ use1 𝓛 (‵ ((Owner).own_val (with_port owner port) (word Boxed hv b o ∷ []))) (id⊢ 𝓤 _) $ move ! (1 ∷ 0 ∷ []) $ fjoin ! $
      fpack ! (List Val) (λ us. fsep (cell_at full_share (Owner).mir us rb ro) ((Owner).own_val (with_port owner port) us)) (word Boxed hv b o ∷ []) $ done !

pub port_spec : {M : Type 1} → statement M
port_spec 𝓤 𝓛 𝓜 𝓡 wired =
    let c = Lent.clauses 𝓛 𝓜.mem 𝓡.returns in let W = walk_of 𝓛 Lent.ended stays c in let 𝓣 = tables 𝓤 𝓛.H 𝓜 𝓡 𝓡.env in
    proved 𝓛 Lent.ended stays c 𝓜 𝓡 (Goes-spent_ref 𝓛 1 (0 ∷ []) tt (plain (λ _. Owner)), tt)
    Lent.Key.name code.function (code.unfolded 𝓤 𝓛.H 𝓜 𝓡 wired)
    (λ κs. (mut_vals, tt)) (λ κs. (mut_Tells (named 0) κs.0 Owner, tt)) (λ κs qs bounds a _ are.
    let κ = κs.0 in let q = qs.0 in let γ = a.0.ghost_name in let rb = a.0.ref_ptr.0 in let ro = a.0.ref_ptr.1 in
    let owner = a.0.now in let vs = mut_vals a.0 in
    let y : W.Ghost = ((κs, qs, bounds, a, (vs, tt)), tt) in
    qed 𝓛 (((‵ (flft κ q) ⊛ ‵ ftrue) ⊛ ‵ ((MutRef (named 0) κ Owner).own_val a.0 vs) ⊛ ‵ ftrue) ∷ raw (fact 𝓤 (IsSome owner.port)) ∷ []) ∵
    move ! (1 ∷ []) $ heard ! (IsSome owner.port) (λ has_one.
    let port : PortState = (held owner.port has_one).0 in
    let port_is : owner.port ≡ Some port = (held owner.port has_one).1 in
    let whole_box : D Boxed = record { ptr = owner.at; alloc = owner.alloc; value = port } in
    split ! $ split ! $ move ! (2 ∷ []) $ split ! $ keep ! (0 ∷ 2 ∷ []) $
    enter ! _ _ _ _ _ $ alloc_all ! (λ l. pass_all ! refl ((tt, tt), tt) $
    fsplit3 ! $ move ! (1 ∷ 2 ∷ 3 ∷ []) $ opens ! tt Owner rb ro (λ us. move ! (1 ∷ []) $
    rewrite ! 0 (λ (it : Option PortState). ‵ ((Owner).own_val (record { at = owner.at; alloc = owner.alloc; port = it }) us)) port_is refl $
    use1 𝓛 (‵ ((B Boxed).own_val whole_box us)) (id⊢ 𝓤 _) $
    box_out Boxed ! whole_box us (λ b o hv at_b words handle_typed.
    move ! (1 ∷ 2 ∷ []) $ fjoin ! $ move ! (1 ∷ []) $ rewrite ! 2 (λ (ws : List Val). ‵ (cell_at full_share (Owner).mir ws rb ro)) words refl $
    -- [the port; the right to free it with the allocator; the owner's cell; the open borrow, in three entries]
    first ! $ blocks ! $
    sets ! (of_opd ! (load ! (through ! refl (fld ! refl (stop !))) (look_in ! 2 (sub ! 0 refl (whole !))))) refl (tt, tt) $
    sets ! (of_opd ! (get ! refl)) refl (tt, tt) $
    sets_last ! (addr ! (through ! refl (stop !))) refl (tt, tt) $
    exec ! 𝓣.C 𝓣.Λ (env code.Mir.locals l) (after 1 (code.function).body) (at_ret _ (W.post y)) $
    sets ! (of_opd ! (get ! refl)) refl (tt, tt) $
    move ! (1 ∷ 2 ∷ []) $ fjoin ! $ move ! (2 ∷ 3 ∷ 4 ∷ 1 ∷ 0 ∷ []) $ group ! 5 $
    use1 𝓛 (later (some (λ (γ' : GName). raw (Part 𝓛 Owner Port.the_row (with_port owner) (named 0) κ q rb ro b o γ (sem 𝓛 (Rest 𝓛 rb ro owner b o hv)) (back 𝓛 rb ro owner b o hv at_b) port γ'))))
    (lends_Part 𝓛 Owner Port.the_row (with_port owner) (named 0) κ q rb ro b o γ (sem 𝓛 (Rest 𝓛 rb ro owner b o hv)) (back 𝓛 rb ro owner b o hv at_b)
    ((Owner).coded.code owner) ((Owner).coded.code owner) port) $ await ! tt $ pick ! (λ γ'.
    returns ! (look_at ! 0 refl) $ free_all ! refl $ keep ! (0 ∷ []) $
    use1 𝓛 (‵ ((MutRef (named 0) κ Port.the_row).own_val (record { ref_ptr = (b, o); ghost_name = γ'; now = port }) (vptr b o ∷ [])) ⊛ ‵ (flft κ q) ⊛ ‵
    (follows Owner Port.the_row γ γ' (with_port owner))) (id⊢ 𝓤 _) $ split ! $ move ! (1 ∷ []) $ split ! $ move ! (2 ∷ []) $
    suffices ! _ (ends_at 𝓛 Lent.ended stays c y (vptr b o) (record { ref_ptr = (b, o); ghost_name = γ'; now = port }) (tt, tt) (tt, tt)) $
    nothing ! $ nothing ! $ fjoin ! $ join ! $ nothing ! $ move ! (2 ∷ 0 ∷ []) $ join ! $ join ! $ frame ! $ says ! port_is $ done !))))))
