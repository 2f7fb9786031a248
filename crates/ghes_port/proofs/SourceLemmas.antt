-- One source: how far it is, and its blocks.
use Rattle.std.proofs.Common.{◌≡◌, ◌∙◌, ℕ, zero, ◌+◌, ◌-◌, ◌<◌, ◌≤◌, inl, inr, min, nat_lt, Bool, true, false, if◌then◌else◌, Option, Some, None, List, [], ◌∷◌}
use Rattle.std.proofs.Common.{◌++◌, length, take, drop, All, refl, sym, ap, subst, arith}
use Rattle.std.proofs.lemmas.Bool.{cases_lt}
use Rattle.std.proofs.lemmas.Grind.{common_steps}
use Rattle.std.proofs.lemmas.List.{take_min, length-drop}
use Rattle.std.proofs.lemmas.List.Elements.{All-drop}
use Rattle.base_model.specs.Bytes.{part}
use Rattle.ghes_ack.proofs.RoomLemmas.{All-more}
use Rattle.ghes_port.specs.declared.maps.SourceMap.{SourceMap}
use Rattle.ghes_port.specs.declared.maps.AckRegister.{AckRegister}
use Rattle.ghes_port.specs.declared.stages.Stage.{Stage}
use Rattle.ghes_port.specs.declared.stages.Stage.TheVariants.{Hide, TellAddress, ReadFirst, SetAck, Fill, ReadAck, ClearAck, Show, Notify, Await}
use Rattle.ghes_port.specs.declared.stages.Unacknowledged.{Unacknowledged}
use Rattle.ghes_port.specs.declared.stages.Unacknowledged.TheVariants.{TellAgain, Forget}
use Rattle.ghes_port.specs.Machine.{SourceState, IsGood, after, submitted, kept, reset, stage_after, queue_after, addressed, filled, filled_more, frees, piece_at}
use Rattle.ghes_port.specs.Sound.{IsSource, IsWithin, HasBlock, HasAck, IsReached, IsPassing}

-- the first piece of the oldest block, if any, begins in it
pub fills_first : (len : ℕ) (queue : List (List ℕ)) → All (IsGood len) queue → IsWithin 0 queue
fills_first len [] all = refl
fills_first len (block ∷ rest) all = let h = (all zero [] (omega (arith))).fits.head in omega (arith, h)

block_more : (queue : List (List ℕ)) (block : List ℕ) → HasBlock queue → HasBlock (queue ++ block ∷ [])
block_more [] block some = tt
block_more (one ∷ rest) block some = tt

within_more : (piece : ℕ) (queue : List (List ℕ)) (block : List ℕ) → 20 ≤ length block → IsWithin piece queue → IsWithin piece (queue ++ block ∷ [])
within_more piece [] block head within = omega (arith, head, within)
within_more piece (one ∷ rest) block head within = within

-- with one block more
pub reached_more : (map : SourceMap) (queue : List (List ℕ)) (block : List ℕ) (stage : Stage) → 20 ≤ length block → IsReached map queue stage → IsReached map (queue ++ block ∷ []) stage
reached_more map queue block Hide head reached = tt
reached_more map queue block TellAddress head reached = tt
reached_more map queue block ReadFirst head reached = reached
reached_more map queue block (SetAck read) head reached = reached
reached_more map queue block (Fill piece) head reached = within_more piece queue block head reached
reached_more map queue block ReadAck head reached = (reached.0, block_more queue block reached.1)
reached_more map queue block (ClearAck read) head reached = (reached.0, block_more queue block reached.1)
reached_more map queue block Show head reached = block_more queue block reached
reached_more map queue block Notify head reached = block_more queue block reached
reached_more map queue block Await head reached = block_more queue block reached

after_address : (map : SourceMap) (queue : List (List ℕ)) (ack : Option AckRegister) → map.ack ≡ ack → IsWithin 0 queue → IsReached map queue (addressed ack)
after_address map queue None is within = within
after_address map queue (Some at) is within = subst HasAck (sym is) tt

-- after a stage in which no block is filled or waited for
pub reached_next : (map : SourceMap) (queue : List (List ℕ)) (stage : Stage) (value : ℕ) → IsPassing stage → All (IsGood map.len) queue → IsReached map queue stage
    → IsReached map queue (stage_after map queue stage value)
reached_next map queue Hide value passing all reached = tt
reached_next map queue TellAddress value passing all reached = after_address map queue map.ack refl (fills_first map.len queue all)
reached_next map queue ReadFirst value passing all reached = reached
reached_next map queue (SetAck read) value passing all reached = fills_first map.len queue all
reached_next map queue (Fill piece) value passing all reached = absurd passing
reached_next map queue ReadAck value passing all reached = reached
reached_next map queue (ClearAck read) value passing all reached = reached.1
reached_next map queue Show value passing all reached = reached
reached_next map queue Notify value passing all reached = reached
reached_next map queue Await value passing all reached = absurd passing

-- the bytes that a piece has
pub piece_is : (block : List ℕ) (from end : ℕ) → from < length block → end ≡ min (length block) (from + 64) → take (end - from) (drop from block) ≡ part block from 64
unfolding part
piece_is block from end begins end_is =
    let n : end - from ≡ min 64 (length (drop from block)) = grind (arith, length-drop from block, begins, end_is) in
    ap (λ (n : ℕ). take n (drop from block)) n ∙ take_min 64 (drop from block)

pub passes : (stage : Stage) → ((piece : ℕ) → stage ≡ Fill piece → ⊥) → (stage ≡ Await → ⊥) → IsPassing stage
passes Hide fills waits = tt
passes TellAddress fills waits = tt
passes ReadFirst fills waits = tt
passes (SetAck read) fills waits = tt
passes (Fill piece) fills waits = fills piece refl
passes ReadAck fills waits = tt
passes (ClearAck read) fills waits = tt
passes Show fills waits = tt
passes Notify fills waits = tt
passes Await fills waits = waits refl

-- after a piece, and after a look for the acknowledgement
piece_reached : (map : SourceMap) (block : List ℕ) (rest : List (List ℕ)) (piece : ℕ) (ack : Option AckRegister) (more : Bool) → map.ack ≡ ack → (more ≡ true → piece_at piece < length block)
    → IsReached map (block ∷ rest) (if more then Fill piece else filled ack)
piece_reached map block rest piece ack true is goes = goes refl
piece_reached map block rest piece None false is goes = tt
piece_reached map block rest piece (Some at) false is goes = (subst HasAck (sym is) tt, tt)

fill_reached : (map : SourceMap) (queue : List (List ℕ)) (piece : ℕ) → IsReached map queue (Fill piece) → IsReached map queue (filled_more map queue piece)
fill_reached map [] piece reached = reached
fill_reached map (block ∷ rest) piece reached = piece_reached map block rest (piece + 1) map.ack (nat_lt (piece_at (piece + 1)) (length block)) refl (is_more (piece_at (piece + 1)) (length block))
  where
    is_more : (n m : ℕ) → nat_lt n m ≡ true → n < m
    is_more n m is = elim (cases_lt n m) [ inl below ↦ below | inr above ↦ grind (arith, common_steps, is, above) ]

released : (map : SourceMap) (queue : List (List ℕ)) (free : Bool) → All (IsGood map.len) queue → HasBlock queue → IsReached map (if free then drop 1 queue else queue) (if free then Fill 0 else Await)
released map queue true good has = fills_first map.len (drop 1 queue) (All-drop (IsGood map.len) 1 queue good)
released map queue false good has = has

good_if : (len : ℕ) (queue : List (List ℕ)) (free : Bool) → All (IsGood len) queue → All (IsGood len) (if free then drop 1 queue else queue)
good_if len queue true good = All-drop (IsGood len) 1 queue good
good_if len queue false good = good

good_after : (map : SourceMap) (queue : List (List ℕ)) (stage : Stage) (value : ℕ) → All (IsGood map.len) queue → All (IsGood map.len) (queue_after map queue stage value)
good_after map queue Hide value good = good
good_after map queue TellAddress value good = good
good_after map queue ReadFirst value good = good
good_after map queue (SetAck v) value good = good
good_after map queue (Fill piece) value good = good
good_after map queue ReadAck value good = good
good_after map queue (ClearAck v) value good = good
good_after map queue Show value good = good
good_after map queue Notify value good = good
good_after map queue Await value good = good_if map.len queue (frees map.ack value) good

reached_after : (map : SourceMap) (queue : List (List ℕ)) (stage : Stage) (value : ℕ) → All (IsGood map.len) queue → IsReached map queue stage
    → IsReached map (queue_after map queue stage value) (stage_after map queue stage value)
reached_after map queue Hide value good reached = tt
reached_after map queue TellAddress value good reached = reached_next map queue TellAddress value tt good reached
reached_after map queue ReadFirst value good reached = reached
reached_after map queue (SetAck v) value good reached = fills_first map.len queue good
reached_after map queue (Fill piece) value good reached = fill_reached map queue piece reached
reached_after map queue ReadAck value good reached = reached
reached_after map queue (ClearAck v) value good reached = reached.1
reached_after map queue Show value good reached = reached
reached_after map queue Notify value good reached = reached
reached_after map queue Await value good reached = released map queue (frees map.ack value) good reached

-- a source stays one, whatever was read
pub source_after : (s : SourceState) (value : ℕ) → IsSource s → IsSource (after s value)
source_after s value is = record { placed = is.placed; good = good_after s.map s.queue s.stage value is.good; reached = reached_after s.map s.queue s.stage value is.good is.reached }

pub source_more : (s : SourceState) (block : List ℕ) → IsGood s.map.len block → IsSource s → IsSource (submitted s block)
source_more s block good is = record { placed = is.placed; good = All-more (IsGood s.map.len) s.queue block is.good good; reached = reached_more s.map s.queue block s.stage good.fits.head is.reached }

kept_good : (len : ℕ) (blocks : Unacknowledged) (queue : List (List ℕ)) → All (IsGood len) queue → All (IsGood len) (kept blocks queue)
kept_good len TellAgain queue good = good
kept_good len Forget queue good = λ k d within. absurd (omega (arith, within))

pub source_reset : (blocks : Unacknowledged) (s : SourceState) → IsSource s → IsSource (reset blocks s)
source_reset blocks s is = record { placed = is.placed; good = kept_good s.map.len blocks s.queue is.good; reached = tt }
