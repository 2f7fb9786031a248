-- A stream that is cut into records step by step.
use Rattle.std.proofs.Common.{◌≡◌, ℕ, zero, suc, ◌+◌, ◌-◌, ◌<◌, ◌≤◌, inl, inr, Bool, true, false, cond, List, [], ◌∷◌, ◌++◌, length, take, drop, Option, Some}
use Rattle.std.proofs.Common.{None, Result, Ok, Err, refl, sym, ap, subst, ◌∙◌, arith, length-drop, append_assoc}
use Rattle.std.proofs.Common.{get_or}
use Rattle.std.specs.Prelude.{◌==◌, is_some}
use Rattle.std.proofs.lemmas.Bool.{cases_Bool, cond-true, cond-false}
use Rattle.std.proofs.lemmas.List.{append-nil, take-append-drop, length-take, take_all, take_at, drop_at, drop_more}
use Rattle.std.proofs.lemmas.Grind.{flat_map-append}
use Rattle.std.specs.List.{flat_map}
use Rattle.std.proofs.lemmas.List.Elements.{All-nil, All-push, All-head, All-tail}
use Rattle.std.proofs.Math.Seq.{take-add}
use Rattle.base_model.specs.Bytes.{joined}
use Rattle.apei_bytes.proofs.Puts.{joined-append}
use Rattle.cper_frame.specs.declared.error.FrameError.{FrameError}
use Rattle.cper_frame.specs.declared.error.FrameError.TheVariants.{Need}
use Rattle.cper_frame.specs.declared.fed.Fed.{Fed}
use Rattle.cper_frame.specs.declared.pieces.Progress.TheVariants.{Took, Stopped}
use Rattle.cper_frame.specs.Grammar.{RecordValue, IsRecord}
use Rattle.cper_frame.specs.Reading.{checked, record_of}
use Rattle.cper_frame.specs.Stream.{Reader, is_need, reader_holding, reader_failing, feed_result_by, feed_result, frame_of, without_frame, GetsOn, refusal}
use Rattle.cper_frame.specs.Stream.{IsRecordWithin, Splits, Waits, Going, Refused}
use Rattle.cper_frame.specs.Pieces.{Stepped, Passed as PassedPiece}
use Rattle.cper_frame.proofs.Checks.{Passed, passed, passes}
use Rattle.apei_bytes.proofs.Parts.{number_at-front}
use Rattle.cper_frame.proofs.Sound.{passed-front}
use Rattle.cper_frame.proofs.Streams.{Missing, missing, nothing, waits, stays}
use Rattle.cper_frame.proofs.Streams.Missing.{of_header, of_record}
use Rattle.cper_frame.proofs.Complete.{found_again}
use Rattle.cper_frame.proofs.Readers.{Cases}
use Rattle.cper_frame.proofs.Readers.Cases.{at_ok, at_need, at_err}
use Rattle.cper_frame.proofs.Terms.{record_length, feed_result_unless, frame_by, without_frame_by}

-- something is missing
some_of : (limit : ℕ) (bytes : List ℕ) (w : ℕ) → Missing limit bytes w → 0 < w
some_of limit bytes w (of_header short e) = omega arith
some_of limit bytes w (of_record long p e) = let less = p.less in omega arith

needs_some : (limit : ℕ) (bytes : List ℕ) (w : ℕ) → checked limit bytes ≡ Err (Need w) → 0 < w
needs_some limit bytes w e = some_of limit bytes w (missing limit bytes w e)

-- a record that is whole with more bytes is longer than what was held
longer_of : (limit : ℕ) (held rest : List ℕ) (w len : ℕ) → Missing limit held w → checked limit (held ++ rest) ≡ Ok len → length held < len
longer_of limit held rest w len (of_header short e) h =
    let p = passed limit (held ++ rest) len h in
    let heads = p.0.heads in
    let len_is = p.1 in
    omega arith
longer_of limit held rest w len (of_record long q e) h =
    let p = passed limit (held ++ rest) len h in
    let len_is = p.1 in
    let less = q.less in
    let same = number_at-front held rest 20 4 (omega arith) in
    omega arith

-- the front that passed passes alone
pub front_ok : (limit : ℕ) (bytes : List ℕ) (len : ℕ) → checked limit bytes ≡ Ok len → (length (take len bytes) ≡ len) × (checked limit (take len bytes) ≡ Ok len)
front_ok limit bytes len h =
    let p = passed limit bytes len h in
    let len_is = p.1 in
    let there = p.0.there in
    let size : length (take len bytes) ≡ len = length-take len bytes ∙ omega arith in
    let split : take len bytes ++ drop len bytes ≡ bytes = take-append-drop len bytes in
    let again = passed-front limit (take len bytes) (drop len bytes) (subst (Passed limit) (sym split) p.0) (ap record_length split ∙ p.1 ∙ sym size) in
    (size, passes limit (take len bytes) again.0 ∙ ap (λ (n : ℕ). Ok n) (again.1 ∙ size))

-- what stands first, over two lists
take_over : (xs ys : List ℕ) (n : ℕ) → length xs ≤ n → take n (xs ++ ys) ≡ xs ++ take (n - length xs) ys
take_over [] ys n h = ap (λ (k : ℕ). take k ys) (omega arith)
take_over (x ∷ xs) ys zero h = absurd (omega arith)
take_over (x ∷ xs) ys (suc n) h = ap (λ (zs : List ℕ). x ∷ zs) (take_over xs ys n (omega arith) ∙ ap (λ (k : ℕ). xs ++ take k ys) (omega arith))

-- what a reader that waits makes of a rest
fed_is : (r : Reader) (rest : List ℕ) (answer : Result ℕ FrameError) → r.failed ≡ None → checked r.limit (r.held ++ rest) ≡ answer → feed_result r rest ≡ feed_result_by r rest answer
fed_is r rest answer sound e = ap (feed_result_unless r rest) sound ∙ ap (feed_result_by r rest) e

same_fed : (f g : Fed) → ◌≡◌ {A = Result Fed FrameError} (Ok f) (Ok g) → f ≡ g
same_fed f g e = cc

refused_answer : (r : Reader) (rest : List ℕ) (error : FrameError) → is_need error ≡ false → (feed_result_by r rest (Err error)).1 ≡ Err error
refused_answer r rest error no_need =
    ap (λ (t : Bool). (cond {A = Reader × Result Fed FrameError} t (reader_holding r (r.held ++ rest), Ok (record { taken = length rest; whole = false }))
    (reader_failing r error, Err error)).1) no_need

pub none_step : (r new : Reader) (rest : List ℕ) (f : Fed) (before : List (List ℕ)) → Waits r → 0 < length rest → new ≡ (feed_result r rest).0 → Ok f ≡ (feed_result r rest).1 → frame_of new ≡ None
    → Cases (checked r.limit (r.held ++ rest)) → Stepped r new before before rest (Took f.taken)
none_step r new rest f before waits some a b none (at_ok len e) =
    let is = fed_is r rest (Ok len) waits.sound e in
    let new_is : new ≡ reader_holding r (take len (r.held ++ rest)) = a ∙ ap (λ (x : Reader × Result Fed FrameError). x.0) is in
    let whole = (front_ok r.limit (r.held ++ rest) len e).1 in
    let clash : ◌≡◌ {A = Option RecordValue} None (Some (record_of (take len (r.held ++ rest)))) = sym none ∙ ap frame_of new_is ∙ ap (frame_by (take len (r.held ++ rest))) whole in
    absurd (cc)
none_step r new rest f before waits some a b none (at_need k e) =
    let is = fed_is r rest (Err (Need k)) waits.sound e in
    let new_is : new ≡ reader_holding r (r.held ++ rest) = a ∙ ap (λ (x : Reader × Result Fed FrameError). x.0) is in
    let f_is : f ≡ record { taken = length rest; whole = false } = same_fed f (record { taken = length rest; whole = false }) (b ∙ ap (λ (x : Reader × Result Fed FrameError). x.1) is) in
    let taken_is : f.taken ≡ length rest = ap (λ (x : Fed). x.taken) f_is in
    let all : take f.taken rest ≡ rest = ap (λ (n : ℕ). take n rest) taken_is ∙ take_all (length rest) rest (omega arith) in
    subst (λ (x : Reader). Stepped r x before before rest (Took f.taken)) (sym new_is) (
      omega arith,
      omega arith,
      record { sound = refl; missing = (k, needs_some r.limit (r.held ++ rest) k e, e) },
      refl,
      λ stream going. record { whole = ap (λ (xs : List ℕ). stream ++ xs) all ∙ ap (λ (xs : List ℕ). xs ++ rest) going.whole ∙ append_assoc (joined before) r.held rest; each = going.each },
    )
none_step r new rest f before waits some a b none (at_err error e no_need) =
    let is = fed_is r rest (Err error) waits.sound e in
    let clash : ◌≡◌ {A = Result Fed FrameError} (Ok f) (Err error) =
    b ∙ ap (λ (x : Reader × Result Fed FrameError). x.1) is ∙ refused_answer r rest error no_need in
    absurd (cc)

pub some_step : (r new final : Reader) (rest : List ℕ) (f : Fed) (before after : List (List ℕ)) (value : RecordValue) → Waits r → new ≡ (feed_result r rest).0 →
    Ok f ≡ (feed_result r rest).1 → Some value ≡ frame_of new → IsRecord value new.held
    → final ≡ without_frame new → after ≡ before ++ new.held ∷ [] → f.taken ≤ length rest → Cases (checked r.limit (r.held ++ rest)) → Stepped r final before after rest (Took f.taken)
some_step r new final rest f before after value waits a b some is_record advance pushed within (at_ok len e) =
    let is = fed_is r rest (Ok len) waits.sound e in
    let held = take len (r.held ++ rest) in
    let new_is : new ≡ reader_holding r held = a ∙ ap (λ (x : Reader × Result Fed FrameError). x.0) is in
    let f_is : f ≡ record { taken = len - length r.held; whole = true } = same_fed f (record { taken = len - length r.held; whole = true }) (b ∙ ap (λ (x : Reader × Result Fed FrameError). x.1) is) in
    let taken_is : f.taken ≡ len - length r.held = ap (λ (x : Fed). x.taken) f_is in
    let front = front_ok r.limit (r.held ++ rest) len e in
    let more = longer_of r.limit r.held rest waits.missing.0 len (missing r.limit r.held waits.missing.0 waits.missing.2) e in
    let p = passed r.limit (r.held ++ rest) len e in
    let low = p.0.within in
    let len_is = p.1 in
    let final_is : final ≡ reader_holding r [] = advance ∙ ap without_frame new_is ∙ ap (without_frame_by (reader_holding r held)) front.1 in
    let after_is : after ≡ before ++ held ∷ [] = pushed ∙ ap (λ (x : Reader). before ++ x.held ∷ []) new_is in
    let size = front.0 in
    let record_is : IsRecordWithin r.limit held = record { within = omega arith; is_record = (value, subst (λ (x : Reader). IsRecord value x.held) new_is is_record) } in
    let taken : r.held ++ take f.taken rest ≡ held = ap (λ (n : ℕ). r.held ++ take n rest) taken_is ∙ sym (take_over r.held rest len (omega arith)) in
    subst (λ (x : Reader). Stepped r x before after rest (Took f.taken)) (sym final_is)
    (subst (λ (xs : List (List ℕ)). Stepped r (reader_holding r []) before xs rest (Took f.taken)) (sym after_is) (
      omega arith,
      within,
      record { sound = refl; missing = (128, omega arith, nothing r.limit) },
      refl,
      λ stream going. record {
        whole =
            ap (λ (xs : List ℕ). xs ++ take f.taken rest) going.whole
            ∙ append_assoc (joined before) r.held (take f.taken rest)
            ∙ ap (λ (xs : List ℕ). joined before ++ xs) taken
            ∙ ap (λ (xs : List ℕ). joined before ++ xs) (sym (append-nil held))
            ∙ sym (joined-append before (held ∷ []))
            ∙ sym (append-nil (joined (before ++ held ∷ [])));
        each = All-push (IsRecordWithin r.limit) before held going.each record_is;
      },
    ))
some_step r new final rest f before after value waits a b some is_record advance pushed within (at_need k e) =
    let is = fed_is r rest (Err (Need k)) waits.sound e in
    let new_is : new ≡ reader_holding r (r.held ++ rest) = a ∙ ap (λ (x : Reader × Result Fed FrameError). x.0) is in
    let clash : ◌≡◌ {A = Option RecordValue} (Some value) None = some ∙ ap frame_of new_is ∙ ap (frame_by (r.held ++ rest)) e in
    absurd (cc)
some_step r new final rest f before after value waits a b some is_record advance pushed within (at_err error e no_need) =
    let is = fed_is r rest (Err error) waits.sound e in
    let clash : ◌≡◌ {A = Result Fed FrameError} (Ok f) (Err error) =
    b ∙ ap (λ (x : Reader × Result Fed FrameError). x.1) is ∙ refused_answer r rest error no_need in
    absurd (cc)

-- one step and then another
pub going_on : (limit : ℕ) (stream front more : List ℕ) (records : List (List ℕ)) (held : List ℕ) → Going limit ((stream ++ front) ++ more) records held →
    Going limit (stream ++ (front ++ more)) records held
going_on limit stream front more records held g = subst (λ (xs : List ℕ). Going limit xs records held) (append_assoc stream front more) g

pub refused_on : (limit : ℕ) (stream front more : List ℕ) (records : List (List ℕ)) (error : FrameError) → Refused limit ((stream ++ front) ++ more) records
    error → Refused limit (stream ++ (front ++ more)) records error
refused_on limit stream front more records error g = subst (λ (xs : List ℕ). Refused limit xs records error) (append_assoc stream front more) g

-- nothing was taken yet
pub going_none : (limit : ℕ) (stream : List ℕ) (records : List (List ℕ)) (held : List ℕ) → Going limit stream records held → Going limit (stream ++ []) records held
going_none limit stream records held g = subst (λ (xs : List ℕ). Going limit xs records held) (sym (append-nil stream)) g

-- a piece, up to a place
pub record PieceSoFar (old now : Reader) (before after : List (List ℕ)) (piece : List ℕ) (at : ℕ) : Type 0 where
  pub within : at ≤ length piece
  pub waits : Waits now
  pub limit : now.limit ≡ old.limit
  pub going : (stream : List ℕ) → Going old.limit stream before old.held → Going old.limit (stream ++ take at piece) after now.held

pub piece_begins : (old : Reader) (before : List (List ℕ)) (piece : List ℕ) → Waits old → PieceSoFar old old before before piece 0
piece_begins old before piece waits = record { within = omega arith; waits = waits; limit = refl; going = λ stream g. going_none old.limit stream before old.held g }

pub piece_took : (old now new : Reader) (before middle after : List (List ℕ)) (piece rest : List ℕ) (at n : ℕ) → PieceSoFar old now before middle piece at →
    rest ≡ drop at piece → Stepped now new middle after rest (Took n)
    → PieceSoFar old new before after piece (at + n)
piece_took old now new before middle after piece rest at n so e step =
    let size = length-drop at piece in
    let same = ap length e in
    let within = so.within in
    let fits = step.1 in
    let taken : take (at + n) piece ≡ take at piece ++ take n rest = take-add at n piece ∙ ap (λ (xs : List ℕ). take at piece ++ take n xs) (sym e) in
    record {
      within = omega arith;
      waits = step.2;
      limit = step.3 ∙ so.limit;
      going = λ stream g.
          let here : Going now.limit (stream ++ take at piece) middle now.held = subst (λ (k : ℕ). Going k (stream ++ take at piece) middle now.held) (sym so.limit) (so.going stream g) in
          subst (λ (xs : List ℕ). Going old.limit (stream ++ xs) after new.held) (sym taken)
          (going_on old.limit stream (take at piece) (take n rest) after new.held
          (subst (λ (k : ℕ). Going k ((stream ++ take at piece) ++ take n rest) after new.held) so.limit (step.4 (stream ++ take at piece) here)));
    }

pub piece_stopped : (old now new : Reader) (before middle after : List (List ℕ)) (piece rest : List ℕ) (at : ℕ) (error : FrameError) →
    PieceSoFar old now before middle piece at → rest ≡ drop at piece → Stepped now new middle after rest (Stopped error)
    → PassedPiece old new before after piece (Some error)
piece_stopped old now new before middle after piece rest at error so e step = λ stream g.
    let here : Going now.limit (stream ++ take at piece) middle now.held = subst (λ (k : ℕ). Going k (stream ++ take at piece) middle now.held) (sym so.limit) (so.going stream g) in
    let all : take at piece ++ rest ≡ piece = ap (λ (xs : List ℕ). take at piece ++ xs) e ∙ take-append-drop at piece in
    subst (λ (xs : List ℕ). Refused old.limit (stream ++ xs) after error) all
    (refused_on old.limit stream (take at piece) rest after error
    (subst (λ (k : ℕ). Refused k ((stream ++ take at piece) ++ rest) after error) so.limit (step (stream ++ take at piece) here)))

pub piece_ends : (old now : Reader) (before after : List (List ℕ)) (piece : List ℕ) (at : ℕ) → PieceSoFar old now before after piece at → length piece ≤ at →
    PassedPiece old now before after piece None
piece_ends old now before after piece at so h =
    (so.waits, so.limit, λ stream g. subst (λ (xs : List ℕ). Going old.limit (stream ++ xs) after now.held) (take_all at piece h) (so.going stream g))

-- the stream, up to a piece
pub record StreamSoFar (limit : ℕ) (reader : Reader) (stream : List ℕ) (records : List (List ℕ)) : Type 0 where
  pub waits : Waits reader
  pub limit_is : reader.limit ≡ limit
  pub going : Going limit stream records reader.held

pub stream_begins : (limit : ℕ) (reader : Reader) → ◌≡◌ {A = Reader} reader (record { limit = limit; held = []; failed = None }) → StreamSoFar limit reader [] []
stream_begins limit reader e = subst (λ (r : Reader). StreamSoFar limit r [] []) (sym e) (record {
  waits = record { sound = refl; missing = (128, omega arith, nothing limit) };
  limit_is = refl;
  going = record { whole = refl; each = All-nil (IsRecordWithin limit) };
})

pub stream_stops : (limit : ℕ) (old new : Reader) (stream piece following : List ℕ) (before after : List (List ℕ)) (error : FrameError) →
    StreamSoFar limit old stream before → PassedPiece old new before after piece (Some error)
    → (rest : List ℕ) × Splits limit ((stream ++ piece) ++ following) after rest error × (is_need error ≡ false)
stream_stops limit old new stream piece following before after error so p =
    let r : Refused limit (stream ++ piece) after error = subst (λ (k : ℕ). Refused k (stream ++ piece) after error) so.limit_is
    (p stream (subst (λ (k : ℕ). Going k stream before old.held) (sym so.limit_is) so.going)) in (
      r.rest ++ following,
      record {
        whole = ap (λ (xs : List ℕ). xs ++ following) r.whole ∙ append_assoc (joined after) r.rest following;
        each = r.each;
        stops = stays limit r.rest following (ap waits r.stops ∙ r.no_need) ∙ r.stops;
      },
      r.no_need,
    )

pub stream_ends : (limit : ℕ) (reader : Reader) (stream : List ℕ) (records : List (List ℕ)) (so : StreamSoFar limit reader stream records)
    → Splits limit stream records reader.held (Need so.waits.missing.0)
stream_ends limit reader stream records so = record {
  whole = so.going.whole;
  each = so.going.each;
  stops = subst (λ (k : ℕ). checked k reader.held ≡ Err (Need so.waits.missing.0)) so.limit_is so.waits.missing.2;
}

-- only one reading
pub one_reading : (limit : ℕ) (stream : List ℕ) (records others : List (List ℕ)) (rest other_rest : List ℕ) (error other : FrameError) →
    Splits limit stream records rest error → Splits limit stream others other_rest other
    → (records ≡ others) × (error ≡ other)
one_reading limit stream [] [] rest other_rest error other a b =
    let same : ◌≡◌ {A = Result ℕ FrameError} (Err error) (Err other) = sym a.stops ∙ ap (checked limit) (sym a.whole ∙ b.whole) ∙ b.stops in
    (refl, cc)
one_reading limit stream [] (first ∷ others) rest other_rest error other a b =
    let is = All-head (IsRecordWithin limit) first others b.each in
    let found = found_again limit is.is_record.0 first (joined others ++ other_rest) is.is_record.1 is.within in
    let same : ◌≡◌ {A = Result ℕ FrameError} (Err error) (Ok (length first)) = sym a.stops ∙ ap (checked limit) (sym a.whole ∙ b.whole ∙ append_assoc first (joined others) other_rest) ∙ found in
    absurd (cc)
one_reading limit stream (first ∷ records) [] rest other_rest error other a b =
    let is = All-head (IsRecordWithin limit) first records a.each in
    let found = found_again limit is.is_record.0 first (joined records ++ rest) is.is_record.1 is.within in
    let same : ◌≡◌ {A = Result ℕ FrameError} (Err other) (Ok (length first)) = sym b.stops ∙ ap (checked limit) (sym b.whole ∙ a.whole ∙ append_assoc first (joined records) rest) ∙ found in
    absurd (cc)
one_reading limit stream (first ∷ records) (one ∷ others) rest other_rest error other a b =
    let is = All-head (IsRecordWithin limit) first records a.each in
    let also = All-head (IsRecordWithin limit) one others b.each in
    let left : stream ≡ first ++ (joined records ++ rest) = a.whole ∙ append_assoc first (joined records) rest in
    let right : stream ≡ one ++ (joined others ++ other_rest) = b.whole ∙ append_assoc one (joined others) other_rest in
    let found = ap (checked limit) left ∙ found_again limit is.is_record.0 first (joined records ++ rest) is.is_record.1 is.within in
    let again = ap (checked limit) right ∙ found_again limit also.is_record.0 one (joined others ++ other_rest) also.is_record.1 also.within in
    let lengths : ◌≡◌ {A = Result ℕ FrameError} (Ok (length first)) (Ok (length one)) = sym found ∙ again in
    let size : length first ≡ length one = cc in
    let same : first ≡ one = sym (take_at first (joined records ++ rest) (length first) refl) ∙ ap (take (length first)) (sym left ∙ right) ∙ take_at one
    (joined others ++ other_rest) (length first) (sym size) in
    let behind : drop (length first) stream ≡ joined records ++ rest = ap (drop (length first)) left ∙ drop_at first (joined records ++ rest) (length first) refl in
    let also_behind : drop (length first) stream ≡ joined others ++ other_rest = ap (drop (length first)) right ∙ drop_at one (joined others ++ other_rest) (length first) (sym size) in
    let next = one_reading limit (drop (length first) stream) records others rest other_rest error other
    (record { whole = behind; each = All-tail (IsRecordWithin limit) first records a.each; stops = a.stops })
    (record { whole = also_behind; each = All-tail (IsRecordWithin limit) one others b.each; stops = b.stops }) in
    (ap (λ (x : List ℕ). x ∷ records) same ∙ ap (λ (xs : List (List ℕ)). one ∷ xs) next.0, next.1)

-- what the whole answers, where a piece is refused
pub refused_split : (limit : ℕ) (old new : Reader) (stream piece following whole : List ℕ) (before after : List (List ℕ)) (e : FrameError) →
    StreamSoFar limit old stream before → PassedPiece old new before after piece (Some e)
    → whole ≡ (stream ++ piece) ++ following → (rest : List ℕ) × (error : FrameError) × Splits limit whole after rest error × (Some e ≡ refusal error)
refused_split limit old new stream piece following whole before after e so p all =
    let s = stream_stops limit old new stream piece following before after e so p in
    (s.0, e, subst (λ (xs : List ℕ). Splits limit xs after s.0 e) (sym all) s.1, sym (ap (λ (b : Bool). cond b None (Some e)) s.2))

pub refused_only : (limit : ℕ) (old new : Reader) (stream piece following whole : List ℕ) (before after others : List (List ℕ)) (e error : FrameError)
    (rest : List ℕ) → StreamSoFar limit old stream before → PassedPiece old new before after piece (Some e)
    → whole ≡ (stream ++ piece) ++ following → Splits limit whole others rest error → (after ≡ others) × (Some e ≡ refusal error)
refused_only limit old new stream piece following whole before after others e error rest so p all other =
    let s = refused_split limit old new stream piece following whole before after e so p all in
    let one = one_reading limit whole after others s.0 rest s.1 error s.2 other in
    (one.0, s.3 ∙ ap refusal one.1)

-- and where the pieces end
pub ended_split : (limit : ℕ) (reader : Reader) (stream whole : List ℕ) (records : List (List ℕ)) → StreamSoFar limit reader stream records → whole ≡ stream
    → (rest : List ℕ) × (error : FrameError) × Splits limit whole records rest error × (◌≡◌ {A = Option FrameError} None (refusal error))
ended_split limit reader stream whole records so all =
    (reader.held, Need so.waits.missing.0, subst (λ (xs : List ℕ). Splits limit xs records reader.held (Need so.waits.missing.0)) (sym all) (stream_ends limit reader stream records so), refl)

pub ended_only : (limit : ℕ) (reader : Reader) (stream whole : List ℕ) (records others : List (List ℕ)) (error : FrameError) (rest : List ℕ) →
    StreamSoFar limit reader stream records → whole ≡ stream → Splits limit whole others rest error
    → (records ≡ others) × (◌≡◌ {A = Option FrameError} None (refusal error))
ended_only limit reader stream whole records others error rest so all other =
    let s = ended_split limit reader stream whole records so all in
    let one = one_reading limit whole records others s.0 rest s.1 error s.2 other in
    (one.0, s.3 ∙ ap refusal one.1)

-- the pieces up to one, that one, and those behind it
pub whole_at : {X : Type 0} (f : X → List ℕ) (xs : List X) (i : ℕ) (x : X) → i < length xs → x ≡ get_or xs i x → flat_map f xs ≡ (flat_map f (take i xs) ++ f x) ++ flat_map f (drop (i + 1) xs)
whole_at f xs i x h e =
    let split : xs ≡ take i xs ++ (x ∷ drop (i + 1) xs) = sym (take-append-drop i xs) ∙ ap (λ ys. take i xs ++ ys) (drop_more xs i x h ∙ ap (λ y. y ∷ drop (i + 1) xs) (sym e)) in
    ap (flat_map f) split
    ∙ flat_map-append f (take i xs) (x ∷ drop (i + 1) xs)
    ∙ sym (append_assoc (flat_map f (take i xs)) (f x) (flat_map f (drop (i + 1) xs)))

-- a reader that took a piece gets on
whole_or_missing : (r : Reader) (gone : ℕ) → checked r.limit r.held ≡ cond (gone == 0) (Ok (length r.held)) (Err (Need gone)) → frame_of r ≡ None → checked r.limit r.held ≡ Err (Need gone)
whole_or_missing r gone state none = elim (cases_Bool (gone == 0)) [
  | inl whole ↦
      let e : checked r.limit r.held ≡ Ok (length r.held) = state ∙ cond-true (gone == 0) (Ok (length r.held)) (Err (Need gone)) whole in
      let clash : ◌≡◌ {A = Option RecordValue} None (Some (record_of r.held)) = sym none ∙ ap (frame_by r.held) e in
      absurd (cc)
  | inr some ↦ state ∙ cond-false (gone == 0) (Ok (length r.held)) (Err (Need gone)) some
]

pub gets_on : (r new : Reader) (gone : ℕ) (piece : List ℕ) (f : Fed) → r.failed ≡ None → checked r.limit r.held ≡ cond (gone == 0) (Ok (length r.held)) (Err (Need gone))
    → ◌≡◌ {A = Reader × Result Fed FrameError} (new, Ok f) (feed_result r piece) → Cases (checked r.limit (r.held ++ piece)) → GetsOn r new piece f
gets_on r new gone piece f sound state e (at_ok len h) =
    let all = e ∙ fed_is r piece (Ok len) sound h in
    let new_is : new ≡ reader_holding r (take len (r.held ++ piece)) = ap (λ (x : Reader × Result Fed FrameError). x.0) all in
    let f_is : f ≡ record { taken = len - length r.held; whole = true } = same_fed f (record { taken = len - length r.held; whole = true }) (ap (λ (x : Reader × Result Fed FrameError). x.1) all) in
    let taken_is : f.taken ≡ len - length r.held = ap (λ (x : Fed). x.taken) f_is in
    let whole_is : f.whole ≡ true = ap (λ (x : Fed). x.whole) f_is in
    record {
      some = λ none more.
          let longer = longer_of r.limit r.held piece gone len (missing r.limit r.held gone (whole_or_missing r gone state none)) h in
          omega arith;
      all = λ part_taken. let clash : true ≡ false = sym whole_is ∙ part_taken in absurd (cc);
      whole = whole_is ∙ sym (ap (λ (x : Reader). is_some (frame_of x)) new_is
          ∙ ap (λ (x : Result ℕ FrameError). is_some (frame_by (take len (r.held ++ piece)) x)) (front_ok r.limit (r.held ++ piece) len h).1);
    }
gets_on r new gone piece f sound state e (at_need k h) =
    let all = e ∙ fed_is r piece (Err (Need k)) sound h in
    let new_is : new ≡ reader_holding r (r.held ++ piece) = ap (λ (x : Reader × Result Fed FrameError). x.0) all in
    let f_is : f ≡ record { taken = length piece; whole = false } = same_fed f (record { taken = length piece; whole = false }) (ap (λ (x : Reader × Result Fed FrameError). x.1) all) in
    let taken_is : f.taken ≡ length piece = ap (λ (x : Fed). x.taken) f_is in
    record {
      some = λ none more. omega arith;
      all = λ part_taken. taken_is;
      whole = ap (λ (x : Fed). x.whole) f_is ∙ sym (ap (λ (x : Reader). is_some (frame_of x)) new_is ∙ ap (λ (x : Result ℕ FrameError). is_some (frame_by (r.held ++ piece) x)) h);
    }
gets_on r new gone piece f sound state e (at_err error h no_need) =
    let all = e ∙ fed_is r piece (Err error) sound h in
    let clash : ◌≡◌ {A = Result Fed FrameError} (Ok f) (Err error) = ap (λ (x : Reader × Result Fed FrameError). x.1) all ∙ refused_answer r piece error no_need in
    absurd (cc)
