-- Each block is notified once.
use Rattle.std.proofs.Common.{◌≡◌, ℕ, ◌+◌, Bool, true, false, if◌then◌else◌, nat_lt, Option, Some, None, List, [], ◌∷◌, length, drop, refl, arith}
use Rattle.ghes_port.specs.declared.maps.SourceMap.{SourceMap}
use Rattle.ghes_port.specs.declared.maps.AckRegister.{AckRegister}
use Rattle.ghes_port.specs.declared.stages.Stage.{Stage}
use Rattle.ghes_port.specs.declared.stages.Stage.TheVariants.{Hide, TellAddress, ReadFirst, SetAck, Fill, ReadAck, ClearAck, Show, Notify, Await}
use Rattle.ghes_port.specs.Machine.{told_at, ack_read, ack_set, ack_cleared, ack_asked, piece_told, status_told, addressed, filled, filled_more, piece_at, frees, stage_after, queue_after}
use Rattle.ghes_port.specs.Sound.{IsReached, HasBlock}
use Rattle.ghes_port.specs.Readers.{notices_of, waited_for}

-- the accesses that are no notification, and the stages in which nothing is waited for
no_read : (ack : Option AckRegister) → notices_of (ack_read ack) ≡ 0
no_read None = refl
no_read (Some ack) = refl

no_set : (ack : Option AckRegister) (read : ℕ) → notices_of (ack_set ack read) ≡ 0
no_set None read = refl
no_set (Some ack) read = refl

no_clear : (ack : Option AckRegister) (read : ℕ) → notices_of (ack_cleared ack read) ≡ 0
no_clear None read = refl
no_clear (Some ack) read = refl

no_ask : (map : SourceMap) (ack : Option AckRegister) → notices_of (ack_asked map ack) ≡ 0
no_ask map None = refl
no_ask map (Some ack) = refl

no_piece : (map : SourceMap) (queue : List (List ℕ)) (piece : ℕ) → notices_of (piece_told map queue piece) ≡ 0
no_piece map [] piece = refl
no_piece map (block ∷ rest) piece = refl

no_status : (map : SourceMap) (queue : List (List ℕ)) → notices_of (status_told map queue) ≡ 0
no_status map [] = refl
no_status map (block ∷ rest) = refl

none_addressed : (ack : Option AckRegister) → waited_for (addressed ack) ≡ 0
none_addressed None = refl
none_addressed (Some ack) = refl

none_filled : (ack : Option AckRegister) (piece : ℕ) (more : Bool) → waited_for (if more then Fill piece else filled ack) ≡ 0
none_filled None piece true = refl
none_filled None piece false = refl
none_filled (Some ack) piece true = refl
none_filled (Some ack) piece false = refl

none_more : (map : SourceMap) (queue : List (List ℕ)) (piece : ℕ) → waited_for (filled_more map queue piece) ≡ 0
none_more map [] piece = refl
none_more map (block ∷ rest) piece = none_filled map.ack (piece + 1) (nat_lt (piece_at (piece + 1)) (length block))

given_back : (queue : List (List ℕ)) (free : Bool) (n told : ℕ) → HasBlock queue → told + length queue ≡ n + 1
    → told + length (if free then drop 1 queue else queue) ≡ n + waited_for (if free then Fill 0 else Await)
given_back [] free n told has at = absurd has
given_back (block ∷ rest) true n told has at = omega (arith, at)
given_back (block ∷ rest) false n told has at = at

pub notified : (map : SourceMap) (queue : List (List ℕ)) (stage : Stage) (value told n : ℕ) → IsReached map queue stage → told + length queue ≡ n + waited_for stage
    → told + notices_of (told_at map queue stage) + length (queue_after map queue stage value) ≡ n + waited_for (stage_after map queue stage value)
notified map queue Hide value told n reached at = omega (arith, at)
notified map queue TellAddress value told n reached at = omega (arith, at, none_addressed map.ack)
notified map queue ReadFirst value told n reached at = omega (arith, at, no_read map.ack)
notified map queue (SetAck read) value told n reached at = omega (arith, at, no_set map.ack read)
notified map queue (Fill piece) value told n reached at = omega (arith, at, no_piece map queue piece, none_more map queue piece)
notified map queue ReadAck value told n reached at = omega (arith, at, no_read map.ack)
notified map queue (ClearAck read) value told n reached at = omega (arith, at, no_clear map.ack read)
notified map queue Show value told n reached at = omega (arith, at, no_status map queue)
notified map queue Notify value told n reached at = omega (arith, at)
notified map queue Await value told n reached at =
    let back = given_back queue (frees map.ack value) n told reached at in
    let none = no_ask map map.ack in
    omega (arith, back, none)
