-- A client that is told the answers of its accesses attaches.
use Rattle.std.proofs.Common.{◌≡◌, ℕ, ◌*◌, ◌<◌, ◌≤◌, ◌==◌, ◌++◌, if◌then◌else◌, Bool, true, false, List, [], ◌∷◌, length, Option, Some, None, Result, Ok, Err, refl, sym, subst, arith}
use Rattle.std.proofs.lemmas.Bool.{eqb-true, eqb-false}
use Rattle.std.proofs.lemmas.Option.{none-some, same_Some}
use Rattle.apei_space.specs.declared.faults.SpaceFault.{SpaceFault}
use Rattle.apei_space.specs.Calls.{Call}
use Rattle.erst_entries.specs.declared.actions.Action.{Action}
use Rattle.erst_entries.specs.declared.actions.Action.TheVariants.{GetErrorLogAddressRange, GetErrorLogAddressRangeLength, GetErrorLogAddressRangeAttributes, GetExecuteOperationTimings}
use Rattle.erst_entries.specs.declared.entries.Entry.{Entry}
use Rattle.erst_entries.specs.Actions.{code_of}
use Rattle.erst_entries.specs.Layout.{Erst}
use Rattle.erst_entries.specs.Programs.{entries_of, program_of}
use Rattle.erst_interp.specs.declared.demands.Demand.{Demand}
use Rattle.erst_interp.specs.declared.states.RunState.{RunState}
use Rattle.erst_interp.specs.declared.states.RunState.TheVariants.{Ready, Awaiting, Ended as RunEnded}
use Rattle.erst_interp.specs.declared.stops.RunStop.{RunStop}
use Rattle.erst_interp.specs.Told.{first_state, ended, bound}
use Rattle.erst_interp.proofs.BoundLemmas.{bound_first, bound_comes}
use Rattle.erst_client.specs.declared.asking.Asking.{Asking}
use Rattle.erst_client.specs.declared.attaching.FoundRange.{FoundRange}
use Rattle.erst_client.specs.declared.errors.AttachError.{AttachError}
use Rattle.erst_client.specs.declared.finding.Finding.{Finding}
use Rattle.erst_client.specs.declared.finding.Finding.TheVariants.{Address, Length, Attributes, Timings, Ended}
use Rattle.erst_client.specs.declared.requests.Request.{Request}
use Rattle.erst_client.specs.Timings.{timings_of}
use Rattle.erst_client.specs.Requests.{Asks, NoneLeft, Answered, StopsLater, StopsHere}
use Rattle.erst_client.specs.Attaching.{Attaches, client_result, found_result, AsksTimings, NoTimings, HasTimings, TimingsStop}
use Rattle.erst_client.specs.Asking.{asking_first, asking_answered, AskingMoves, AskingMade}
use Rattle.erst_client.specs.Finding.{finding_first, asking_in, with_asking, finding_demanded, finding_answered, attributed, heard_in, finding_result}
use Rattle.erst_client.specs.Finding.{finding_left, FindingMoves, IsThere, IsHeard, GoesOn, IsAsking, plain, FindingStands, FindingMade, finding_bound}
use Rattle.erst_client.proofs.Terms.{timing_requests}
use Rattle.erst_client.proofs.AttachLemmas.{timings_asked, found_attached}
use Rattle.erst_client.proofs.AskingLemmas.{asking_begins, asking_moves, asking_answers, asking_performs}
use Rattle.erst_client.proofs.BoundLemmas.{run_lowers}

-- each answer brings it to a later program
abbrev pub finding_rank : Finding → ℕ
finding_rank (Address asking) = 4
finding_rank (Length address asking) = 3
finding_rank (Attributes address len asking) = 2
finding_rank (Timings address len attributes asking) = 1
finding_rank (Ended result left) = 0

rank_attributed : (entries : List Entry) (address len attributes left : ℕ) → finding_rank (attributed entries address len attributes left) < 2
rank_attributed entries address len attributes left =
    elim (length (entries_of (code_of GetExecuteOperationTimings) entries) == 0) as (λ (b : Bool).
    finding_rank (if b then Ended (found_result address len attributes None) left else Timings address len attributes (asking_first entries GetExecuteOperationTimings left)) < 2) [
      | true ↦ omega arith
      | false ↦ omega arith
    ]

pub rank_heard : (entries : List Entry) (at : Finding) (old : Asking) (answer : Result ℕ RunStop) (left : ℕ) → asking_in at ≡ Some old →
    finding_rank (heard_in entries at answer left) < finding_rank at
rank_heard entries (Address asking) old (Ok number) left is = omega arith
rank_heard entries (Length address asking) old (Ok number) left is = omega arith
rank_heard entries (Attributes address len asking) old (Ok number) left is = rank_attributed entries address len number left
rank_heard entries (Timings address len attributes asking) old (Ok number) left is = omega arith
rank_heard entries (Address asking) old (Err stop) left is = omega arith
rank_heard entries (Length address asking) old (Err stop) left is = omega arith
rank_heard entries (Attributes address len asking) old (Err stop) left is = omega arith
rank_heard entries (Timings address len attributes asking) old (Err stop) left is = omega arith
rank_heard entries (Ended result before) old answer left is = absurd (none-some old is)

-- requests behind others
asks_then : {W : Type 0} (allows : W → Call → W → Type 0) (entries : List Entry) (asked : List Request) (budget : ℕ) (first : W) (told : List ℕ) (left : ℕ)
    (mid : W) (rest : List Request) (more : List ℕ) (after : ℕ) (last : W) →
    Asks allows entries asked budget first (Ok told) left mid → Asks allows entries rest left mid (Ok more) after last → Asks allows entries (asked ++ rest) budget first (Ok (told ++ more)) after last
asks_then allows entries asked budget first told left mid rest more after last (NoneLeft b old) next = next
asks_then allows entries asked budget first told left mid rest more after last (Answered request later b old answer spare between answers end final run asks) next =
    Answered request (later ++ rest) b old answer spare between (answers ++ more) after last run (asks_then allows entries later spare between answers left mid rest more after last asks next)

asks_stop : {W : Type 0} (allows : W → Call → W → Type 0) (entries : List Entry) (asked : List Request) (budget : ℕ) (first : W) (told : List ℕ) (left : ℕ)
    (mid : W) (rest : List Request) (stop : RunStop) (after : ℕ) (last : W) →
    Asks allows entries asked budget first (Ok told) left mid → Asks allows entries rest left mid (Err stop) after last → Asks allows entries (asked ++ rest) budget first (Err stop) after last
asks_stop allows entries asked budget first told left mid rest stop after last (NoneLeft b old) next = next
asks_stop allows entries asked budget first told left mid rest stop after last (Answered request later b old answer spare between answers end final run asks) next =
    StopsLater request (later ++ rest) b old answer spare between stop after last run (asks_stop allows entries later spare between answers left mid rest stop after last asks next)

-- the program of a request has answered
asks_one : {W : Type 0} (allows : W → Call → W → Type 0) (entries : List Entry) (steps : ℕ) (first : W) (asked : List Request) (told : List ℕ) (action : Action)
    (asking : Asking) (now : W) (number : ℕ) →
    IsAsking allows entries steps first asked told action asking now → ended asking.state ≡ Some (Ok number) →
    Asks allows entries (asked ++ (plain action ∷ [])) steps first (Ok (told ++ (number ∷ []))) asking.left now
asks_one allows entries steps first asked told action asking now number so is =
    asks_then allows entries asked steps first told so.before so.mid (plain action ∷ []) (number ∷ []) asking.left now so.asks
    (Answered (plain action) [] so.before so.mid number asking.left now [] asking.left now (asking_performs allows entries action so.before so.mid asking now
    (Ok number) is so.stands) (NoneLeft asking.left now))

-- or stopped
asks_none : {W : Type 0} (allows : W → Call → W → Type 0) (entries : List Entry) (steps : ℕ) (first : W) (asked : List Request) (told : List ℕ)
    (action : Action) (asking : Asking) (now : W) (rest : List Request) (stop : RunStop) →
    IsAsking allows entries steps first asked told action asking now → ended asking.state ≡ Some (Err stop) →
    Asks allows entries (asked ++ (plain action ∷ rest)) steps first (Err stop) asking.left now
asks_none allows entries steps first asked told action asking now rest stop so is =
    asks_stop allows entries asked steps first told so.before so.mid (plain action ∷ rest) stop asking.left now so.asks
    (StopsHere (plain action) rest so.before so.mid stop asking.left now (asking_performs allows entries action so.before so.mid asking now (Err stop) is so.stands))

-- the next request begins
next_asked : {W : Type 0} (allows : W → Call → W → Type 0) (entries : List Entry) (steps : ℕ) (first : W) (asked : List Request) (told : List ℕ) (action : Action) (left : ℕ) (now : W) →
    Asks allows entries asked steps first (Ok told) left now → IsAsking allows entries steps first asked told action
    (record { action = action; state = first_state (program_of (code_of action) entries); left = left }) now
next_asked allows entries steps first asked told action left now asks = record { before = left; mid = now; asks = asks; stands = asking_begins allows entries action left now }

abbrev count : List Entry → ℕ
count entries = length (entries_of (code_of GetExecuteOperationTimings) entries)

abbrev three : List Request
three = plain GetErrorLogAddressRange ∷ plain GetErrorLogAddressRangeLength ∷ plain GetErrorLogAddressRangeAttributes ∷ []

-- all was asked
all_asked : {W : Type 0} (allows : W → Call → W → Type 0) (erst : Erst) (steps : ℕ) (first : W) (address len attributes before : ℕ) (mid : W) (timings : Option (ℕ × ℕ)) (left : ℕ) (now : W) →
    Asks allows erst.entries three steps first (Ok (address ∷ len ∷ attributes ∷ [])) before mid → AsksTimings allows erst.entries before mid (Ok timings) left now →
    Attaches allows erst steps first (client_result erst (found_result address len attributes timings)) left now
all_asked allows erst steps first address len attributes before mid timings left now asks timed =
    let asked = timings_asked allows erst.entries before mid (Ok timings) left now timed in
    record {
      answers = Ok (address ∷ len ∷ attributes ∷ asked.0);
      asks = asks_then allows erst.entries three steps first (address ∷ len ∷ attributes ∷ []) before mid (timing_requests (count erst.entries)) asked.0 left now asks asked.1.0;
      result_is = found_attached erst address len attributes timings asked.0 asked.1.1;
    }

stands_attributed : {W : Type 0} (allows : W → Call → W → Type 0) (erst : Erst) (steps : ℕ) (first : W) (address len attributes left : ℕ) (now : W) →
    Asks allows erst.entries three steps first (Ok (address ∷ len ∷ attributes ∷ [])) left now → FindingStands allows erst steps first (attributed erst.entries address len attributes left) now
stands_attributed allows erst steps first address len attributes left now asks =
    elim (count erst.entries == 0) as (λ (b : Bool). (count erst.entries == 0) ≡ b →
    FindingStands allows erst steps first (if b then Ended (found_result address len attributes None) left else Timings address len attributes
    (asking_first erst.entries GetExecuteOperationTimings left)) now) [
      | true ↦ λ none. all_asked allows erst steps first address len attributes left now None left now asks (NoTimings (eqb-true _ _ none))
      | false ↦ λ some. (eqb-false _ _ some, next_asked allows erst.entries steps first three (address ∷ len ∷ attributes ∷ []) GetExecuteOperationTimings left now asks)
    ] refl

-- where the answer of its program leads
stands_heard : {W : Type 0} (allows : W → Call → W → Type 0) (erst : Erst) (steps : ℕ) (first : W) (at : Finding) (asking : Asking) (now : W) (answer : Result ℕ RunStop) →
    FindingStands allows erst steps first (with_asking at asking) now → ended asking.state ≡ Some answer → asking_in (with_asking at asking) ≡ Some asking →
    FindingStands allows erst steps first (heard_in erst.entries at answer asking.left) now
stands_heard allows erst steps first (Address old) asking now (Ok number) so is in_it =
    next_asked allows erst.entries steps first (plain GetErrorLogAddressRange ∷ []) (number ∷ []) GetErrorLogAddressRangeLength asking.left now
    (asks_one allows erst.entries steps first [] [] GetErrorLogAddressRange asking now number so is)
stands_heard allows erst steps first (Length address old) asking now (Ok number) so is in_it =
    next_asked allows erst.entries steps first (plain GetErrorLogAddressRange ∷ plain GetErrorLogAddressRangeLength ∷ []) (address ∷ number ∷ []) GetErrorLogAddressRangeAttributes asking.left now
    (asks_one allows erst.entries steps first (plain GetErrorLogAddressRange ∷ []) (address ∷ []) GetErrorLogAddressRangeLength asking now number so is)
stands_heard allows erst steps first (Attributes address len old) asking now (Ok number) so is in_it =
    stands_attributed allows erst steps first address len number asking.left now
    (asks_one allows erst.entries steps first (plain GetErrorLogAddressRange ∷ plain GetErrorLogAddressRangeLength ∷ []) (address ∷ len ∷ []) GetErrorLogAddressRangeAttributes asking now number so is)
stands_heard allows erst steps first (Timings address len attributes old) asking now (Ok number) so is in_it =
    all_asked allows erst steps first address len attributes so.1.before so.1.mid (timings_of (Some number)) asking.left now so.1.asks
    (HasTimings number asking.left now so.0 (asking_performs allows erst.entries GetExecuteOperationTimings so.1.before so.1.mid asking now (Ok number) is so.1.stands))
stands_heard allows erst steps first (Address old) asking now (Err stop) so is in_it =
    record {
      answers = Err stop;
      asks = asks_none allows erst.entries steps first [] [] GetErrorLogAddressRange asking now
          (plain GetErrorLogAddressRangeLength ∷ plain GetErrorLogAddressRangeAttributes ∷ timing_requests (count erst.entries)) stop so is;
      result_is = refl;
    }
stands_heard allows erst steps first (Length address old) asking now (Err stop) so is in_it =
    record {
      answers = Err stop;
      asks = asks_none allows erst.entries steps first (plain GetErrorLogAddressRange ∷ []) (address ∷ []) GetErrorLogAddressRangeLength asking now
          (plain GetErrorLogAddressRangeAttributes ∷ timing_requests (count erst.entries)) stop so is;
      result_is = refl;
    }
stands_heard allows erst steps first (Attributes address len old) asking now (Err stop) so is in_it =
    record {
      answers = Err stop;
      asks = asks_none allows erst.entries steps first (plain GetErrorLogAddressRange ∷ plain GetErrorLogAddressRangeLength ∷ []) (address ∷ len ∷ []) GetErrorLogAddressRangeAttributes asking now
          (timing_requests (count erst.entries)) stop so is;
      result_is = refl;
    }
stands_heard allows erst steps first (Timings address len attributes old) asking now (Err stop) so is in_it =
    record {
      answers = Err stop;
      asks = asks_stop allows erst.entries three steps first (address ∷ len ∷ attributes ∷ []) so.1.before so.1.mid (timing_requests (count erst.entries)) stop asking.left now so.1.asks
          (timings_asked allows erst.entries so.1.before so.1.mid (Err stop) asking.left now
          (TimingsStop stop asking.left now so.0 (asking_performs allows erst.entries GetExecuteOperationTimings so.1.before so.1.mid asking now (Err stop) is so.1.stands)));
      result_is = refl;
    }
stands_heard allows erst steps first (Ended result left) asking now answer so is in_it = absurd (none-some asking in_it)

-- what its program does, the whole does
one_moves : {W : Type 0} (allows : W → Call → W → Type 0) (entries : List Entry) (steps : ℕ) (first : W) (asked : List Request) (told : List ℕ) (action : Action) (old asking : Asking) (now : W) →
    AskingMoves entries old asking → IsAsking allows entries steps first asked told action old now → IsAsking allows entries steps first asked told action asking now
one_moves allows entries steps first asked told action old asking now moves so =
    record { before = so.before; mid = so.mid; asks = so.asks; stands = asking_moves allows entries action so.before so.mid old asking now moves so.stands }

with_moved : {W : Type 0} (allows : W → Call → W → Type 0) (erst : Erst) (steps : ℕ) (first : W) (at : Finding) (old asking : Asking) (now : W) →
    asking_in at ≡ Some old → AskingMoves erst.entries old asking →
    FindingStands allows erst steps first at now → FindingStands allows erst steps first (with_asking at asking) now
with_moved allows erst steps first (Address mine) old asking now is moves so =
    one_moves allows erst.entries steps first _ _ _ mine asking now (subst (λ (a : Asking). AskingMoves erst.entries a asking) (sym (same_Some _ _ is)) moves) so
with_moved allows erst steps first (Length address mine) old asking now is moves so =
    one_moves allows erst.entries steps first _ _ _ mine asking now (subst (λ (a : Asking). AskingMoves erst.entries a asking) (sym (same_Some _ _ is)) moves) so
with_moved allows erst steps first (Attributes address len mine) old asking now is moves so =
    one_moves allows erst.entries steps first _ _ _ mine asking now (subst (λ (a : Asking). AskingMoves erst.entries a asking) (sym (same_Some _ _ is)) moves) so
with_moved allows erst steps first (Timings address len attributes mine) old asking now is moves so =
    (so.0, one_moves allows erst.entries steps first _ _ _ mine asking now (subst (λ (a : Asking). AskingMoves erst.entries a asking) (sym (same_Some _ _ is)) moves) so.1)
with_moved allows erst steps first (Ended result left) old asking now is moves so = absurd (none-some old is)

still_in : (at : Finding) (old asking : Asking) → asking_in at ≡ Some old → asking_in (with_asking at asking) ≡ Some asking
still_in (Address mine) old asking is = refl
still_in (Length address mine) old asking is = refl
still_in (Attributes address len mine) old asking is = refl
still_in (Timings address len attributes mine) old asking is = refl
still_in (Ended result left) old asking is = absurd (none-some old is)

pub finding_begins : {W : Type 0} (allows : W → Call → W → Type 0) (erst : Erst) (steps : ℕ) (first : W) → FindingStands allows erst steps first (finding_first erst.entries steps) first
finding_begins allows erst steps first = next_asked allows erst.entries steps first [] [] GetErrorLogAddressRange steps first (NoneLeft steps first)

pub finding_moves : {W : Type 0} (allows : W → Call → W → Type 0) (erst : Erst) (steps : ℕ) (first : W) (old at : Finding) (now : W) → FindingMoves erst.entries old at →
    FindingStands allows erst steps first old now → FindingStands allows erst steps first at now
finding_moves allows erst steps first old at now IsThere so = so
finding_moves allows erst steps first old at now (IsHeard before was asking answer moves is runs end) so =
    stands_heard allows erst steps first before asking now answer
    (with_moved allows erst steps first before was asking now is runs (finding_moves allows erst steps first old before now moves so)) end (still_in before was asking is)
finding_moves allows erst steps first old at now (GoesOn before was asking moves is runs) so =
    with_moved allows erst steps first before was asking now is runs (finding_moves allows erst steps first old before now moves so)

one_answers : {W : Type 0} (allows : W → Call → W → Type 0) (entries : List Entry) (steps : ℕ) (first : W) (asked : List Request) (told : List ℕ)
    (action : Action) (asking : Asking) (now : W) (answer : Result ℕ SpaceFault) (last : W) →
    IsAsking allows entries steps first asked told action asking now → AskingMade allows asking now answer last → IsAsking allows entries steps first asked told
    action (asking_answered asking answer) last
one_answers allows entries steps first asked told action asking now answer last so made =
    record { before = so.before; mid = so.mid; asks = so.asks; stands = asking_answers allows entries action so.before so.mid asking now answer last so.stands made }

pub finding_answers : {W : Type 0} (allows : W → Call → W → Type 0) (erst : Erst) (steps : ℕ) (first : W) (at : Finding) (now : W) (answer : Result ℕ SpaceFault) (last : W) →
    FindingStands allows erst steps first at now → FindingMade allows at now answer last → FindingStands allows erst steps first (finding_answered at answer) last
finding_answers allows erst steps first (Address asking) now answer last so made = one_answers allows erst.entries steps first _ _ _ asking now answer last so made
finding_answers allows erst steps first (Length address asking) now answer last so made = one_answers allows erst.entries steps first _ _ _ asking now answer last so made
finding_answers allows erst steps first (Attributes address len asking) now answer last so made = one_answers allows erst.entries steps first _ _ _ asking now answer last so made
finding_answers allows erst steps first (Timings address len attributes asking) now answer last so made = (so.0, one_answers allows erst.entries steps first _ _ _ asking now answer last so.1 made)
finding_answers allows erst steps first (Ended result left) now answer last so made = absurd made

pub finding_ends : {W : Type 0} (allows : W → Call → W → Type 0) (erst : Erst) (steps : ℕ) (first : W) (at : Finding) (now : W)
    (result : Result FoundRange AttachError) → finding_result at ≡ Some result →
    FindingStands allows erst steps first at now → Attaches allows erst steps first (client_result erst result) (finding_left at) now
finding_ends allows erst steps first (Address asking) now result is so = absurd (none-some result is)
finding_ends allows erst steps first (Length address asking) now result is so = absurd (none-some result is)
finding_ends allows erst steps first (Attributes address len asking) now result is so = absurd (none-some result is)
finding_ends allows erst steps first (Timings address len attributes asking) now result is so = absurd (none-some result is)
finding_ends allows erst steps first (Ended found left) now result is so =
    subst (λ (r : Result FoundRange AttachError). Attaches allows erst steps first (client_result erst r) left now) (same_Some _ _ is) so

-- the bound
start_bound : (entries : List Entry) (action : Action) (left : ℕ) → bound (asking_first entries action left).state left ≤ 4 * left
start_bound entries action left = bound_first (program_of (code_of action) entries) left

moved_bound : (entries : List Entry) (old asking : Asking) → AskingMoves entries old asking → bound asking.state asking.left ≤ bound old.state old.left
moved_bound entries old asking moves = bound_comes (program_of (code_of old.action) entries) 0 old.state old.left asking.state asking.left moves.1

bound_attributed : (entries : List Entry) (address len attributes left : ℕ) → finding_bound (attributed entries address len attributes left) ≤ 4 * left
bound_attributed entries address len attributes left =
    elim (count entries == 0) as (λ (b : Bool).
    finding_bound (if b then Ended (found_result address len attributes None) left else Timings address len attributes (asking_first entries GetExecuteOperationTimings left)) ≤ 4 * left) [
      | true ↦ omega arith
      | false ↦ start_bound entries GetExecuteOperationTimings left
    ]

bound_heard : (entries : List Entry) (at : Finding) (answer : Result ℕ RunStop) (left : ℕ) → finding_bound (heard_in entries at answer left) ≤ 4 * left
bound_heard entries (Address asking) (Ok number) left = start_bound entries GetErrorLogAddressRangeLength left
bound_heard entries (Length address asking) (Ok number) left = start_bound entries GetErrorLogAddressRangeAttributes left
bound_heard entries (Attributes address len asking) (Ok number) left = bound_attributed entries address len number left
bound_heard entries (Timings address len attributes asking) (Ok number) left = omega arith
bound_heard entries (Ended result before) (Ok number) left = omega arith
bound_heard entries (Address asking) (Err stop) left = omega arith
bound_heard entries (Length address asking) (Err stop) left = omega arith
bound_heard entries (Attributes address len asking) (Err stop) left = omega arith
bound_heard entries (Timings address len attributes asking) (Err stop) left = omega arith
bound_heard entries (Ended result before) (Err stop) left = omega arith

-- more than four accesses for each step that is left to the run
kept_bound : (state : RunState) (left : ℕ) → 4 * left ≤ bound state left
kept_bound (Ready c) left = omega arith
kept_bound (Awaiting task awaited) left = omega arith
kept_bound (RunEnded answer) left = omega arith

with_bound : (entries : List Entry) (at : Finding) (old asking : Asking) → asking_in at ≡ Some old → AskingMoves entries old asking → finding_bound (with_asking at asking) ≤ finding_bound at
with_bound entries (Address mine) old asking is moves = moved_bound entries mine asking (subst (λ (a : Asking). AskingMoves entries a asking) (sym (same_Some _ _ is)) moves)
with_bound entries (Length address mine) old asking is moves = moved_bound entries mine asking (subst (λ (a : Asking). AskingMoves entries a asking) (sym (same_Some _ _ is)) moves)
with_bound entries (Attributes address len mine) old asking is moves = moved_bound entries mine asking (subst (λ (a : Asking). AskingMoves entries a asking) (sym (same_Some _ _ is)) moves)
with_bound entries (Timings address len attributes mine) old asking is moves = moved_bound entries mine asking (subst (λ (a : Asking). AskingMoves entries a asking) (sym (same_Some _ _ is)) moves)
with_bound entries (Ended result left) old asking is moves = absurd (none-some old is)

spare_bound : (at : Finding) (old asking : Asking) → asking_in at ≡ Some old → 4 * asking.left ≤ finding_bound (with_asking at asking)
spare_bound (Address mine) old asking is = kept_bound asking.state asking.left
spare_bound (Length address mine) old asking is = kept_bound asking.state asking.left
spare_bound (Attributes address len mine) old asking is = kept_bound asking.state asking.left
spare_bound (Timings address len attributes mine) old asking is = kept_bound asking.state asking.left
spare_bound (Ended result left) old asking is = absurd (none-some old is)

pub finding_starts : (entries : List Entry) (steps : ℕ) → finding_bound (finding_first entries steps) ≤ 4 * steps
finding_starts entries steps = start_bound entries GetErrorLogAddressRange steps

pub finding_goes : (entries : List Entry) (old at : Finding) → FindingMoves entries old at → finding_bound at ≤ finding_bound old
finding_goes entries old at IsThere = omega arith
finding_goes entries old at (IsHeard before was asking answer moves is runs end) =
    omega (arith, bound_heard entries before answer asking.left, spare_bound before was asking is, with_bound entries before was asking is runs, finding_goes entries old before moves)
finding_goes entries old at (GoesOn before was asking moves is runs) = omega (arith, with_bound entries before was asking is runs, finding_goes entries old before moves)

pub finding_falls : (at : Finding) (answer : Result ℕ SpaceFault) (demand : Demand) → finding_demanded at ≡ Some demand → finding_bound (finding_answered at answer) < finding_bound at
finding_falls (Address asking) answer demand is = run_lowers asking.state asking.left answer demand is
finding_falls (Length address asking) answer demand is = run_lowers asking.state asking.left answer demand is
finding_falls (Attributes address len asking) answer demand is = run_lowers asking.state asking.left answer demand is
finding_falls (Timings address len attributes asking) answer demand is = run_lowers asking.state asking.left answer demand is
finding_falls (Ended result left) answer demand is = absurd (none-some demand is)
