-- The blocks of the boot error region, one after another.
use Rattle.std.proofs.Common.{◌≡◌, ◌∙◌, ℕ, ◌+◌, ◌-◌, ◌≤◌, List, [], ◌∷◌, ◌++◌, length, take, map, All, Option, Some, None, Result, Ok, refl, sym, ap, subst, append_assoc, length-append, arith}
use Rattle.std.proofs.lemmas.List.{append-nil, map-append}
use Rattle.std.proofs.lemmas.List.Elements.{All-head, All-tail}
use Rattle.base_model.specs.Bytes.{part, joined}
use Rattle.ghes_block.specs.declared.error.BlockError.{BlockError}
use Rattle.ghes_block.specs.Region.{IsOneBlock, IsLaidOut, FindsNext, next_from, zeros}
use Rattle.ghes_block.proofs.RegionLemmas.{finds_next, laid_is_list, starts}
use Rattle.erst_machine.specs.MachineState.{MachineState, IsMachine}
use Rattle.script_text.specs.ScriptGrammar.{bert}
use Rattle.script_lines.specs.Streams.{stream_of}
use Rattle.apei_script.specs.Words.{Reply, at_step, said_at, words_of_block, reply_at, text_of_replies}
use Rattle.apei_script.specs.Happened.{IsListed}
use Rattle.apei_script.specs.Plays.{changes_in, LeftIn, InList}
use Rattle.apei_script.specs.Sessions.{Lists, ListsUnwritten}
use Rattle.apei_script.proofs.TurnLemmas.{at_last, replies-more}
use Rattle.std.specs.Prelude.{codes, decimal}

-- the first blocks were shown, and the others stand from a place on
pub record ListedSoFar (told_sink : Type 0) (machine : MachineState) (at count : ℕ) (written written_now : List ℕ) : Type 0 where
  pub before : List (List ℕ)
  pub after : List (List ℕ)
  pub left : ℕ
  pub laid : IsLaidOut (before ++ after) left machine.memory.region
  pub place : at ≡ length (joined before)
  pub counted : count ≡ length before
  pub few : count ≤ at
  pub text : told_sink → written_now ≡ written ++ (text_of_replies (said_at (changes_in machine) (map words_of_block before)))

pub listed_none : (told_sink : Type 0) (machine : MachineState) (written : List ℕ) → IsMachine machine → ListedSoFar told_sink machine 0 0 written written
listed_none told_sink machine written is = record {
  before = [];
  after = is.laid.0;
  left = is.laid.1;
  laid = is.laid.2;
  place = refl;
  counted = refl;
  few = omega arith;
  text = λ _. sym (append-nil written);
}

joined-append : (before after : List (List ℕ)) → joined (before ++ after) ≡ joined before ++ joined after
joined-append [] after = refl
joined-append (block ∷ before) after = ap (λ (xs : List ℕ). block ++ xs) (joined-append before after) ∙ sym (append_assoc block (joined before) (joined after))

length-joined : (before after : List (List ℕ)) → length (joined (before ++ after)) ≡ length (joined before) + length (joined after)
length-joined before after = ap length (joined-append before after) ∙ length-append (joined before) (joined after)

pub listed_within : (told_sink : Type 0) (machine : MachineState) (at count : ℕ) (written written_now : List ℕ) → IsMachine machine →
    ListedSoFar told_sink machine at count written written_now → at ≤ 16384
listed_within told_sink machine at count written written_now is so =
    let n : length machine.memory.region ≡ length (joined (so.before ++ so.after)) + length (zeros so.left) = ap length so.laid.region_is ∙ length-append
    (joined (so.before ++ so.after)) (zeros so.left) in
    omega (arith, n, length-joined so.before so.after, is.sizes.region, so.place)

all_behind : (before after : List (List ℕ)) → All IsOneBlock (before ++ after) → All IsOneBlock after
all_behind [] after all = all
all_behind (block ∷ before) after all = all_behind before after (All-tail IsOneBlock block (before ++ after) all)

-- the next block is found
pub record HasNext (after : List (List ℕ)) (region : List ℕ) (at next : ℕ) : Type 0 where
  pub rest : List (List ℕ)
  pub after_is : after ≡ part region at (next - at) ∷ rest
  pub head : at + 20 ≤ next
  pub size : length (part region at (next - at)) ≡ next - at

next_of : (region : List ℕ) (at next : ℕ) (after : List (List ℕ)) → All IsOneBlock after → FindsNext region at after → next_from region at ≡ Ok (Some next) → HasNext after region at next
next_of region at next [] each finds is = absurd (let both : ◌≡◌ {A = Result (Option ℕ) BlockError} (Ok None) (Ok (Some next)) = sym finds ∙ is in cc)
next_of region at next (block ∷ after) each finds is =
    let both : ◌≡◌ {A = Result (Option ℕ) BlockError} (Ok (Some (at + length block))) (Ok (Some next)) = sym finds.0 ∙ is in
    let e : at + length block ≡ next = cc in
    let n : next - at ≡ length block = omega (arith, e) in
    let long = (starts block [] (All-head IsOneBlock block after each)).2 in
    let here : part region at (next - at) ≡ block = ap (λ (k : ℕ). part region at k) n ∙ finds.1 in
    record {
      rest = after;
      after_is = ap (λ (x : List ℕ). x ∷ after) (sym here);
      head = omega (arith, e, long);
      size = ap length here ∙ sym n;
    }

pub has_next : (told_sink : Type 0) (machine : MachineState) (at count next : ℕ) (written written_now : List ℕ)
    (so : ListedSoFar told_sink machine at count written written_now) → next_from machine.memory.region at ≡ Ok (Some next)
    → HasNext so.after machine.memory.region at next
has_next told_sink machine at count next written written_now so is =
    let region = machine.memory.region in
    let finds : FindsNext region at so.after = subst (λ (k : ℕ). FindsNext region k so.after) (sym so.place)
    (finds_next region so.before so.after (laid_is_list region (so.before ++ so.after) so.left so.laid)) in
    next_of region at next so.after (all_behind so.before so.after so.laid.each) finds is

-- a block more was shown
pub listed_more : (told_sink : Type 0) (machine : MachineState) (at count next : ℕ) (written written_now written_then : List ℕ) → ListedSoFar told_sink machine at count written written_now
    → next_from machine.memory.region at ≡ Ok (Some next)
    → (told_sink → written_then ≡ written_now ++ reply_at (changes_in machine) (words_of_block (part machine.memory.region at (next - at)))) →
    ListedSoFar told_sink machine next (count + 1) written written_then
listed_more told_sink machine at count next written written_now written_then so is text =
    let region = machine.memory.region in
    let h = has_next told_sink machine at count next written written_now so is in
    let block = part region at (next - at) in
    let step = changes_in machine in
    let blocks : so.before ++ so.after ≡ (so.before ++ block ∷ []) ++ h.rest = ap (λ (xs : List (List ℕ)). so.before ++ xs) h.after_is ∙ sym (append_assoc so.before (block ∷ []) h.rest) in
    let size : length (joined (so.before ++ block ∷ [])) ≡ length (joined so.before) + (length block + 0) = length-joined so.before (block ∷ [])
    ∙ ap (λ (k : ℕ). length (joined so.before) + k) (length-append block []) in
    record {
      before = so.before ++ block ∷ [];
      after = h.rest;
      left = so.left;
      laid = subst (λ (xs : List (List ℕ)). IsLaidOut xs so.left region) blocks so.laid;
      place = omega (arith, size, h.size, h.head, so.place);
      counted = ap (λ (k : ℕ). k + 1) so.counted ∙ sym (length-append so.before (block ∷ []));
      few = omega (arith, so.few, h.head);
      text = λ t. text t
          ∙ ap (λ (xs : List ℕ). xs ++ reply_at step (words_of_block block)) (so.text t)
          ∙ replies-more step written (map words_of_block so.before) (words_of_block block)
          ∙ ap (λ (said : List (List ℕ)). written ++ (text_of_replies (said_at step said))) (sym (map-append words_of_block so.before (block ∷ [])));
    }

pub next_within : (told_sink : Type 0) (machine : MachineState) (at count next : ℕ) (written written_now : List ℕ) → IsMachine machine → ListedSoFar told_sink machine at count written written_now
    → next_from machine.memory.region at ≡ Ok (Some next) → next ≤ 16384
next_within told_sink machine at count next written written_now is so found =
    let silent : ListedSoFar ⊥ machine at count written written =
    record { before = so.before; after = so.after; left = so.left; laid = so.laid; place = so.place; counted = so.counted; few = so.few; text = λ t. absurd t } in
    listed_within ⊥ machine next (count + 1) written written is (listed_more ⊥ machine at count next written written written silent found (λ t. absurd t))

-- a part of the next block's line was written
pub listed_cut : (tells told_sink : Type 0) (machine : MachineState) (at count next : ℕ) (written written_now written_then : List ℕ) → ListedSoFar told_sink machine at count written written_now
    → next_from machine.memory.region at ≡ Ok (Some next)
    → (told_sink → (n : ℕ) × (written_then ≡ written_now ++ take n (reply_at (changes_in machine) (words_of_block (part machine.memory.region at (next - at))))))
    → ListsUnwritten tells (stream_of told_sink written written_then) machine
listed_cut tells told_sink machine at count next written written_now written_then so is text =
    let region = machine.memory.region in
    let h = has_next told_sink machine at count next written written_now so is in
    let block = part region at (next - at) in
    let step = changes_in machine in
    let bottom = (codes "bert " ++ decimal (length (so.before ++ so.after))) ∷ [] in
    let words : map words_of_block (so.before ++ so.after) ++ bottom ≡ map words_of_block so.before ++ words_of_block block ∷ (map words_of_block h.rest ++ bottom) =
    ap (λ (xs : List (List ℕ)). xs ++ bottom) (map-append words_of_block so.before so.after ∙ ap (λ (xs : List (List ℕ)). map words_of_block so.before ++ map words_of_block xs) h.after_is)
    ∙ append_assoc (map words_of_block so.before) (words_of_block block ∷ map words_of_block h.rest) bottom in
    record {
      words = map words_of_block (so.before ++ so.after) ++ bottom;
      before = said_at step (map words_of_block so.before);
      last = at_step step (words_of_block block);
      left =
          subst (λ (said : List Reply). LeftIn bert bert said (said_at step (map words_of_block so.before)) (at_step step (words_of_block block)))
          (sym (ap (said_at step) words ∙ map-append (at_step step) (map words_of_block so.before) (words_of_block block ∷ (map words_of_block h.rest ++ bottom))))
          (InList (said_at step (map words_of_block so.before)) (at_step step (words_of_block block)) (said_at step (map words_of_block h.rest ++ bottom)));
      happened = IsListed (so.before ++ so.after) so.left so.laid;
      text = λ t. let part = text t in (
        part.0,
        part.1 ∙ ap (λ (xs : List ℕ). xs ++ take part.0 (reply_at step (words_of_block block))) (so.text t),
      );
    }

none_left : (region : List ℕ) (at : ℕ) (after : List (List ℕ)) → FindsNext region at after → ((next : ℕ) → next_from region at ≡ Ok (Some next) → ⊥) → after ≡ []
none_left region at [] finds none = refl
none_left region at (block ∷ after) finds none = absurd (none (at + length block) finds.0)

all_listed : (told_sink : Type 0) (machine : MachineState) (at count : ℕ) (written written_now : List ℕ) (so : ListedSoFar told_sink machine at count written written_now)
    → ((next : ℕ) → next_from machine.memory.region at ≡ Ok (Some next) → ⊥) → so.before ++ so.after ≡ so.before
all_listed told_sink machine at count written written_now so none =
    let region = machine.memory.region in
    let finds : FindsNext region at so.after = subst (λ (k : ℕ). FindsNext region k so.after) (sym so.place)
    (finds_next region so.before so.after (laid_is_list region (so.before ++ so.after) so.left so.laid)) in
    ap (λ (xs : List (List ℕ)). so.before ++ xs) (none_left region at so.after finds none) ∙ append-nil so.before

-- all blocks were shown, and then their number
pub listed_all : (tells told_sink : Type 0) (machine : MachineState) (at count : ℕ) (written written_now written_then : List ℕ) → ListedSoFar told_sink machine at count written written_now
    → ((next : ℕ) → next_from machine.memory.region at ≡ Ok (Some next) → ⊥)
    → (told_sink → written_then ≡ written_now ++ reply_at (changes_in machine) (codes "bert " ++ decimal count)) → Lists tells (stream_of told_sink written written_then) machine
listed_all tells told_sink machine at count written written_now written_then so none text =
    let all = all_listed told_sink machine at count written written_now so none in
    let step = changes_in machine in
    record {
      words = map words_of_block so.before ++ (codes "bert " ++ decimal (length so.before)) ∷ [];
      happened = IsListed so.before so.left (subst (λ (xs : List (List ℕ)). IsLaidOut xs so.left machine.memory.region) all so.laid);
      text = λ t. text t
          ∙ ap (λ (n : ℕ). written_now ++ reply_at step (codes "bert " ++ decimal n)) so.counted
          ∙ ap (λ (xs : List ℕ). xs ++ reply_at step (codes "bert " ++ decimal (length so.before))) (so.text t)
          ∙ replies-more step written (map words_of_block so.before) (codes "bert " ++ decimal (length so.before));
    }

-- and a part of that line
pub listed_but : (tells told_sink : Type 0) (machine : MachineState) (at count : ℕ) (written written_now written_then : List ℕ) → ListedSoFar told_sink machine at count written written_now
    → ((next : ℕ) → next_from machine.memory.region at ≡ Ok (Some next) → ⊥)
    → (told_sink → (n : ℕ) × (written_then ≡ written_now ++ take n (reply_at (changes_in machine) (codes "bert " ++ decimal count)))) →
    ListsUnwritten tells (stream_of told_sink written written_then) machine
listed_but tells told_sink machine at count written written_now written_then so none text =
    let all = all_listed told_sink machine at count written written_now so none in
    let step = changes_in machine in
    record {
      words = map words_of_block so.before ++ (codes "bert " ++ decimal (length so.before)) ∷ [];
      before = said_at step (map words_of_block so.before);
      last = at_step step (codes "bert " ++ decimal (length so.before));
      left = at_last bert step (map words_of_block so.before) (codes "bert " ++ decimal (length so.before));
      happened = IsListed so.before so.left (subst (λ (xs : List (List ℕ)). IsLaidOut xs so.left machine.memory.region) all so.laid);
      text = λ t. let part = text t in (
        part.0,
        part.1
            ∙ ap (λ (n : ℕ). written_now ++ take part.0 (reply_at step (codes "bert " ++ decimal n))) so.counted
            ∙ ap (λ (xs : List ℕ). xs ++ take part.0 (reply_at step (codes "bert " ++ decimal (length so.before)))) (so.text t),
      );
    }
