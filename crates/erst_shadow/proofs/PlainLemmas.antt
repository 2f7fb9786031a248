-- Plain memory has what a move needs.
use Rattle.std.proofs.Common.{◌≡◌, ◌∙◌, ℕ, zero, suc, ◌+◌, ◌-◌, ◌*◌, ◌^◌, ◌<◌, ◌≤◌, inl, inr, Bool, cond, eqb, List, [], ◌++◌, length, Some, Option, Result, Ok}
use Rattle.std.proofs.Common.{Err, refl, sym, ap, subst, arith, le-leb}
use Rattle.std.specs.Prelude.{slice_get, unwrap_or}
use Rattle.std.proofs.lemmas.Bool.{ne_eqb}
use Rattle.std.proofs.lemmas.Option.{none-some}
use Rattle.base_model.specs.Bytes.{part, number_at, little, spelled, put_at}
use Rattle.base_model.proofs.BytesLemmas.{length-spelled, little-spelled, length-part, part-append, part-before, part-after, part-put_at, length-put_at, SameOutside-put_at}
use Rattle.apei_tables.specs.declared.registers.Place.TheVariants.{Memory}
use Rattle.apei_space.specs.declared.faults.SpaceFault.{SpaceFault}
use Rattle.apei_space.specs.declared.windows.Window.{Window}
use Rattle.apei_space.specs.Windows.{location, AreApart as WindowsApart}
use Rattle.apei_space.specs.RamState.{RamState, Allows, located, found, refused, number_in, answer_of, stored, copied}
use Rattle.apei_space.proofs.Locations.{location_fits}
use Rattle.apei_space.proofs.Placed.{location_further}
use Rattle.erst_interp.specs.declared.stops.RunStop.{RunStop}
use Rattle.erst_entries.specs.declared.actions.Action.{Action}
use Rattle.erst_entries.specs.declared.entries.Entry.{Entry}
use Rattle.erst_interp.specs.declared.configurations.Configuration.{Configuration}
use Rattle.erst_interp.specs.Runs.{Run}
use Rattle.erst_shadow.specs.MoveEntries.{MoveRegister, Offset, Source, Target, Length, address_of, move_entries}
use Rattle.erst_shadow.specs.MoveRuns.{move_then, move_steps}
use Rattle.erst_shadow.specs.PlainMoves.{ShareNone, Places, HoldsMove, HasCopied, MoveRun, CopiesOrStops, Copies, RunsShort}
use Rattle.erst_shadow.proofs.RunLemmas.{moves_first}
use Rattle.apei_space.proofs.Terms.{within}
use Rattle.erst_shadow.proofs.Terms.{standing, WalkFrom, Begun, Then, Finishes, Exhausted, Halts, MovesOn, StopsWithin}
use Rattle.erst_shadow.proofs.Serving.{ServesMove, after_rounds}

-- Parts of bytes in which others are put

pub part-beside : (bytes others : List ℕ) (at place n : ℕ) → at + length others ≤ length bytes → ShareNone place n at (length others) → part (put_at bytes at others) place n ≡ part bytes place n
part-beside bytes others at place n fits (inl before) = part-before at (length others) place n bytes (put_at bytes at others) (SameOutside-put_at bytes at others fits) before
part-beside bytes others at place n fits (inr behind) = part-after at (length others) place n bytes (put_at bytes at others) (SameOutside-put_at bytes at others fits) behind

pub number-put : (bytes : List ℕ) (at n : ℕ) → at + 8 ≤ length bytes → n < 2 ^ 64 → number_at (put_at bytes at (spelled 8 n)) at 8 ≡ n
unfolding number_at
number-put bytes at n fits small =
    let long = length-spelled 8 n in
    ap (λ (k : ℕ). little (part (put_at bytes at (spelled 8 n)) at k)) (sym long) ∙ ap little (part-put_at bytes at (spelled 8 n) (omega (arith, long, fits))) ∙ little-spelled 8 n small

pub number-beside : (bytes others : List ℕ) (at place : ℕ) → at + length others ≤ length bytes → ShareNone place 8 at (length others) →
    number_at (put_at bytes at others) place 8 ≡ number_at bytes place 8
unfolding number_at
number-beside bytes others at place fits apart = ap little (part-beside bytes others at place 8 fits apart)

-- Where an access stands

not_none : (n : ℕ) (found : Result ℕ ℕ) → 0 < n → cond {A = Result ℕ ℕ} (eqb n 0) (Ok 0) found ≡ found
not_none n found some = ap (λ (b : Bool). cond {A = Result ℕ ℕ} b (Ok 0) found) (ne_eqb n 0 (λ e. absurd (omega (arith, e, some))))

within_fits : (index room place n : ℕ) → n ≤ room → within (Some (index, room)) place n ≡ Ok index
within_fits index room place n fits = ap (λ (b : Bool). cond {A = Result ℕ ℕ} b (Ok index) (Err (place + room))) (le-leb n room fits)

located_at : (windows : List Window) (place index room k n : ℕ) → WindowsApart windows → location windows 0 (Memory place) ≡ Some (index, room) → 0 < n →
    k + n ≤ room → located windows (Memory (place + k)) n ≡ Ok (index + k)
located_at windows place index room k n apart is some fits =
    let there : location windows 0 (Memory (place + k)) ≡ Some (index + k, room - k) = location_further windows 0 (Memory place) index room k apart is (omega arith) in
    ap refused (not_none n (within (location windows 0 (Memory (place + k))) (place + k) n) some ∙ ap (λ (o : Option (ℕ × ℕ)). within o (place + k) n) there
    ∙ within_fits (index + k) (room - k) (place + k) n (omega arith))

-- how far a register stands from the first
abbrev pub place_in : MoveRegister → ℕ
place_in Offset = 0
place_in Source = 8
place_in Target = 16
place_in Length = 24

-- two registers have none of their bytes in common
pub registers_differ : (first : ℕ) (r other : MoveRegister) → (address_of r ≡ address_of other → ⊥) → ShareNone (first + place_in other) 8 (first + place_in r) 8
registers_differ first Offset Offset not = absurd (not refl)
registers_differ first Source Source not = absurd (not refl)
registers_differ first Target Target not = absurd (not refl)
registers_differ first Length Length not = absurd (not refl)
registers_differ first Offset Source not = inr (omega arith)
registers_differ first Offset Target not = inr (omega arith)
registers_differ first Offset Length not = inr (omega arith)
registers_differ first Source Offset not = inl (omega arith)
registers_differ first Source Target not = inr (omega arith)
registers_differ first Source Length not = inr (omega arith)
registers_differ first Target Offset not = inl (omega arith)
registers_differ first Target Source not = inl (omega arith)
registers_differ first Target Length not = inr (omega arith)
registers_differ first Length Offset not = inl (omega arith)
registers_differ first Length Source not = inl (omega arith)
registers_differ first Length Target not = inl (omega arith)

module _ (first : RamState) (from target count source sink registers : ℕ)
    (room : HoldsMove first (record { from = from; target = target; count = count }) (record { source = source; sink = sink; registers = registers })) where
  abbrev places : Places
  places = record { source = source; sink = sink; registers = registers }

  -- the memories that a move comes by
  abbrev Fits : RamState → Type 0
  Fits w = (w.windows ≡ first.windows) × (length w.bytes ≡ length first.bytes) × (w.waited ≡ first.waited)

  abbrev value : MoveRegister → RamState → ℕ
  value r w = number_at w.bytes (registers + place_in r) 8

  abbrev put : MoveRegister → ℕ → RamState → RamState
  put r n w = record w { bytes = put_at w.bytes (registers + place_in r) (spelled 8 n) }

  abbrev piece : ℕ → RamState → RamState
  piece i w = record w { bytes = put_at w.bytes (sink + 128 * i) (part w.bytes (source + 128 * i) 128) }

  register_place : (r : MoveRegister) → address_of r ≡ 0x1F80 + place_in r
  register_place Offset = refl
  register_place Source = refl
  register_place Target = refl
  register_place Length = refl

  register_low : (r : MoveRegister) → place_in r + 8 ≤ 32
  register_low Offset = omega arith
  register_low Source = omega arith
  register_low Target = omega arith
  register_low Length = omega arith

  -- all lie within the bytes
  source_within : source + 128 * count ≤ length first.bytes
  source_within =
      let fits = location_fits first.windows 0 (Memory from) (source, room.source_room) room.fills.apart room.source_is in
      let inside = fits.within in
      omega (arith, inside, room.source_fits, room.fills.as_long)

  sink_within : sink + 128 * count ≤ length first.bytes
  sink_within =
      let fits = location_fits first.windows 0 (Memory target) (sink, room.sink_room) room.fills.apart room.sink_is in
      let inside = fits.within in
      omega (arith, inside, room.sink_fits, room.fills.as_long)

  registers_within : registers + 32 ≤ length first.bytes
  registers_within =
      let fits = location_fits first.windows 0 (Memory 0x1F80) (registers, room.register_room) room.fills.apart room.registers_are in
      let inside = fits.within in
      omega (arith, inside, room.registers_fit, room.fills.as_long)

  register_found : (w : RamState) (r : MoveRegister) → Fits w → located w.windows (Memory (address_of r)) 8 ≡ Ok (registers + place_in r)
  register_found w r fits =
      ap (λ (windows : List Window). located windows (Memory (address_of r)) 8) fits.0 ∙ ap (λ (n : ℕ). located first.windows (Memory n) 8) (register_place r)
      ∙ located_at first.windows 0x1F80 registers room.register_room (place_in r) 8 room.fills.apart room.registers_are (omega arith) (omega (arith, register_low r, room.registers_fit))

  source_found : (w : RamState) (i : ℕ) → Fits w → i < count → located w.windows (Memory (from + 128 * i)) 128 ≡ Ok (source + 128 * i)
  source_found w i fits less =
      ap (λ (windows : List Window). located windows (Memory (from + 128 * i)) 128) fits.0
      ∙ located_at first.windows from source room.source_room (128 * i) 128 room.fills.apart room.source_is (omega arith) (omega (arith, room.source_fits))

  sink_found : (w : RamState) (i : ℕ) → Fits w → i < count → located w.windows (Memory (target + 128 * i)) 128 ≡ Ok (sink + 128 * i)
  sink_found w i fits less =
      ap (λ (windows : List Window). located windows (Memory (target + 128 * i)) 128) fits.0
      ∙ located_at first.windows target sink room.sink_room (128 * i) 128 room.fills.apart room.sink_is (omega arith) (omega (arith, room.sink_fits))

  put_long : (w : RamState) (r : MoveRegister) (n : ℕ) → Fits w → registers + place_in r + length (spelled 8 n) ≤ length w.bytes
  put_long w r n fits = let long = fits.1 in omega (arith, length-spelled 8 n, register_low r, registers_within, long)

  piece_long : (w : RamState) (i : ℕ) → Fits w → i < count → length (part w.bytes (source + 128 * i) 128) ≡ 128
  piece_long w i fits less = let long = fits.1 in length-part w.bytes (source + 128 * i) 128 (omega (arith, source_within, long))

  piece_within : (w : RamState) (i : ℕ) → Fits w → i < count → sink + 128 * i + length (part w.bytes (source + 128 * i) 128) ≤ length w.bytes
  piece_within w i fits less = let long = fits.1 in omega (arith, piece_long w i fits less, sink_within, long)

  pub ram_space : ServesMove Allows Fits from target count
  ram_space = record {
    value = value;
    put = put;
    copied = piece;
    reads = λ w v r answer fits h.
        (h.0 ∙ ap (λ (place : Result ℕ SpaceFault). number_in place w.bytes 8) (register_found w r fits), h.1);
    writes = λ w v r n answer fits h. (
      h.0 ∙ ap answer_of (register_found w r fits),
      h.1 ∙ ap (λ (place : Result ℕ SpaceFault). stored place w (spelled 8 n)) (register_found w r fits),
    );
    copies = λ w v i answer fits less h.
        let outcome = ap (λ (place : Result ℕ SpaceFault). copied place (located w.windows (Memory (target + 128 * i)) 128) 128 w) (source_found w i fits less)
        ∙ ap (λ (place : Result ℕ SpaceFault). copied (Ok (source + 128 * i)) place 128 w) (sink_found w i fits less) in
        (h.0 ∙ ap (λ (o : Result (Unit {0}) SpaceFault × RamState). o.0) outcome, h.1 ∙ ap (λ (o : Result (Unit {0}) SpaceFault × RamState). o.1) outcome);
    put_fits = λ w r n fits. (fits.0, length-put_at w.bytes (registers + place_in r) (spelled 8 n) (put_long w r n fits) ∙ fits.1, fits.2);
    copied_fits = λ w i fits less. (fits.0, length-put_at w.bytes (sink + 128 * i) (part w.bytes (source + 128 * i) 128) (piece_within w i fits less) ∙ fits.1, fits.2);
    value_put = λ w r n fits small. let long = fits.1 in number-put w.bytes (registers + place_in r) n (omega (arith, register_low r, registers_within, long)) small;
    value_beside = λ w r other n fits not.
        number-beside w.bytes (spelled 8 n) (registers + place_in r) (registers + place_in other) (put_long w r n fits)
        (subst (λ (k : ℕ). ShareNone (registers + place_in other) 8 (registers + place_in r) k) (sym (length-spelled 8 n)) (registers_differ registers r other not));
    value_behind = λ w r i fits less.
        number-beside w.bytes (part w.bytes (source + 128 * i) 128) (sink + 128 * i) (registers + place_in r) (piece_within w i fits less)
        (subst (λ (k : ℕ). ShareNone (registers + place_in r) 8 (sink + 128 * i) k) (sym (piece_long w i fits less)) (apart_from i r less room.sink_apart));
  }
    where
      apart_from : (i : ℕ) (r : MoveRegister) → i < count → ShareNone sink (128 * count) registers 32 → ShareNone (registers + place_in r) 8 (sink + 128 * i) 128
      apart_from i r less (inl before) = inr (omega (arith, register_low r))
      apart_from i r less (inr behind) = inl (omega (arith, register_low r))

  -- What was copied

  put_copied : (size : ℕ) (w : RamState) (r : MoveRegister) (n : ℕ) → size ≤ 128 * count → HasCopied first w size places → HasCopied first (put r n w) size places
  put_copied size w r n less is =
      let fits : Fits w = (is.windows, is.as_long, is.waited) in
      let long = put_long w r n fits in
      record {
        windows = is.windows;
        waited = is.waited;
        as_long = length-put_at w.bytes (registers + place_in r) (spelled 8 n) long ∙ is.as_long;
        copied = part-beside w.bytes (spelled 8 n) (registers + place_in r) sink size long (of_sink room.sink_apart) ∙ is.copied;
        others = λ at m apart beside. part-beside w.bytes (spelled 8 n) (registers + place_in r) at m long (of_register at m beside) ∙ is.others at m apart beside;
      }
    where
      of_sink : ShareNone sink (128 * count) registers 32 → ShareNone sink size (registers + place_in r) (length (spelled 8 n))
      of_sink (inl before) = inl (omega (arith, less))
      of_sink (inr behind) = inr (omega (arith, length-spelled 8 n, register_low r))

      of_register : (at m : ℕ) → ShareNone at m registers 32 → ShareNone at m (registers + place_in r) (length (spelled 8 n))
      of_register at m (inl before) = inl (omega arith)
      of_register at m (inr behind) = inr (omega (arith, length-spelled 8 n, register_low r))

  piece_copied : (i : ℕ) (w : RamState) → i < count → HasCopied first w (128 * i) places → HasCopied first (piece i w) (128 * suc i) places
  piece_copied i w less is =
      let fits : Fits w = (is.windows, is.as_long, is.waited) in
      let size = piece_long w i fits less in
      let long = piece_within w i fits less in
      let others = part w.bytes (source + 128 * i) 128 in
      let next : 128 * i + 128 ≡ 128 * suc i = omega arith in
      let front : part (put_at w.bytes (sink + 128 * i) others) sink (128 * i) ≡ part first.bytes source (128 * i) = part-beside w.bytes others (sink + 128 * i)
      sink (128 * i) long (inl (omega arith)) ∙ is.copied in
      let back : part (put_at w.bytes (sink + 128 * i) others) (sink + 128 * i) 128 ≡ part first.bytes (source + 128 * i) 128 =
      ap (λ (k : ℕ). part (put_at w.bytes (sink + 128 * i) others) (sink + 128 * i) k) (sym size) ∙ part-put_at w.bytes (sink + 128 * i) others long
      ∙ is.others (source + 128 * i) 128 (of_source room.apart) (of_registers room.source_apart) in
      record {
        windows = is.windows;
        waited = is.waited;
        as_long = length-put_at w.bytes (sink + 128 * i) others long ∙ is.as_long;
        copied = ap (λ (k : ℕ). part (put_at w.bytes (sink + 128 * i) others) sink k) (sym next) ∙ sym (part-append (put_at w.bytes (sink + 128 * i) others) sink (128 * i) 128)
            ∙ ap (λ (xs : List ℕ). xs ++ part (put_at w.bytes (sink + 128 * i) others) (sink + 128 * i) 128) front ∙ ap (λ (xs : List ℕ). part first.bytes source (128 * i) ++ xs) back
            ∙ part-append first.bytes source (128 * i) 128 ∙ ap (λ (k : ℕ). part first.bytes source k) next;
        others = λ at m apart beside. part-beside w.bytes others (sink + 128 * i) at m long (of_other at m apart size) ∙ is.others at m (fewer at m apart) beside;
      }
    where
      of_source : ShareNone source (128 * count) sink (128 * count) → ShareNone (source + 128 * i) 128 sink (128 * i)
      of_source (inl before) = inl (omega arith)
      of_source (inr behind) = inr (omega arith)

      of_registers : ShareNone source (128 * count) registers 32 → ShareNone (source + 128 * i) 128 registers 32
      of_registers (inl before) = inl (omega arith)
      of_registers (inr behind) = inr (omega arith)

      of_other : (at m : ℕ) → ShareNone at m sink (128 * suc i) → length (part w.bytes (source + 128 * i) 128) ≡ 128 → ShareNone at m (sink + 128 * i) (length (part w.bytes (source + 128 * i) 128))
      of_other at m (inl before) size = inl (omega arith)
      of_other at m (inr behind) size = inr (omega (arith, size))

      fewer : (at m : ℕ) → ShareNone at m sink (128 * suc i) → ShareNone at m sink (128 * i)
      fewer at m (inl before) = inl before
      fewer at m (inr behind) = inr (omega arith)

  none_copied : HasCopied first first 0 places
  unfolding part
  none_copied = record { windows = refl; waited = refl; as_long = refl; copied = refl; others = λ at m apart beside. refl }

  rounds_copied : (i : ℕ) → i ≤ count → HasCopied first (after_rounds ram_space i first) (128 * i) places
  unfolding ram_space
  rounds_copied zero less =
      put_copied 0 _ Offset 0 (omega arith) (put_copied 0 _ Length 128 (omega arith) (put_copied 0 _ Target target (omega arith) (put_copied 0 first Source from (omega arith) none_copied)))
  rounds_copied (suc i) less = put_copied (128 * suc i) _ Offset (128 * suc i) (omega arith) (piece_copied i (after_rounds ram_space i first) (omega arith) (rounds_copied i (omega arith)))

  -- A move alone

  module _ (action : Action) (given budget : ℕ) where
    record Ends (before left : ℕ) (c : Configuration) (w : RamState) : Type 0 where
      c_is : c ≡ standing 13 (128 * count) 128 from target
      left_is : left ≡ before
      w_is : w ≡ after_rounds ram_space count first

    ends : (before left : ℕ) (c : Configuration) (w : RamState) → WalkFrom Allows (move_then action from target count []) given
        (standing 13 (128 * count) 128 from target) before (after_rounds ram_space count first) left c w → Ends before left c w
    unfolding move_entries
    ends before left c w Begun = record { c_is = refl; left_is = refl; w_is = refl }
    ends before left c w (Then l b mid entry d more after new walk here step sum) =
        let inner = ends before l b mid walk in
        absurd (none-some entry (subst (λ (x : Configuration). slice_get (move_then action from target count []).entries x.place ≡ Some entry) inner.c_is here))

    all_long : length (move_then action from target count []).entries ≡ 13
    unfolding move_entries
    all_long = refl

    none_here : (entry : Entry) → slice_get (move_then action from target count []).entries 13 ≡ Some entry → ⊥
    unfolding move_entries
    none_here entry here = none-some entry here

    abbrev as_run : Result ℕ RunStop → ℕ → RamState → MoveRun
    as_run answer left last = record {
      action = action;
      move = record { from = from; target = target; count = count };
      given = given;
      budget = budget;
      first = first;
      answer = answer;
      left = left;
      last = last;
    }

    pub move_copies : (answer : Result ℕ RunStop) (left : ℕ) (last : RamState) → Run Allows (move_then action from target count []) given budget first answer left last
        → CopiesOrStops (as_run answer left last) places
    move_copies answer left last run =
        elim (moves_first Allows Fits from target count ram_space room.below action [] given budget first (refl, refl, refl) answer left last run) as
        (λ answer left last ran. CopiesOrStops (as_run answer left last) places) [
          | StopsWithin last short fits ↦ RunsShort refl refl short
          | MovesOn before answer left last spent behind ↦ elim behind as (λ answer left last behind. CopiesOrStops (as_run answer left last) places) [
            | Finishes left c last walk over ↦
                let is = ends before left c last walk in
                let answered : ℕ → Result ℕ RunStop = λ n. Ok n in
                Copies (ap answered (ap (λ (x : Configuration). unwrap_or x.result given) is.c_is))
                (subst (λ (w : RamState). HasCopied first w (128 * count) places) (sym is.w_is) (rounds_copied count (omega arith))) (ap (λ (n : ℕ). n + move_steps count) is.left_is ∙ spent)
            | Exhausted c last walk more ↦
                let is = ends before 0 c last walk in
                absurd (omega (arith, more, all_long, ap (λ (x : Configuration). x.place) is.c_is))
            | Halts paid c mid entry stop left last walk here halt ↦
                let is = ends before (paid + 1) c mid walk in
                absurd (none_here entry (subst (λ (x : Configuration). slice_get (move_then action from target count []).entries x.place ≡ Some entry) is.c_is here))
          ]
        ]
