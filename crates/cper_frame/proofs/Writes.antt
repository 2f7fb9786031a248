-- A record while it is written: its beginning, one section more, its end.
use Rattle.std.proofs.Common.{◌≡◌, ℕ, ◌+◌, ◌-◌, ◌*◌, ◌<◌, ◌≤◌, ◌^◌, List, [], ◌∷◌, ◌++◌, length, take, drop, refl, sym, ap, subst, ◌∙◌, arith, length-append, append_assoc}
use Rattle.std.specs.Prelude.{All, codes}
use Rattle.std.proofs.lemmas.List.{take-append-drop, length-take, take-take, drop-drop, append-nil}
use Rattle.std.proofs.lemmas.List.Elements.{All-nil, All-cons, All-append, All-weaker}
use Rattle.base_model.specs.Bytes.{part, spelled, joined, SameOutside}
use Rattle.base_model.proofs.BytesLemmas.{length-spelled, part-append, part-part, part-before, part-after, length-part, SameOutside-wider, length-joined}
use Rattle.apei_bytes.specs.Writing.{Wrote}
use Rattle.apei_bytes.proofs.Parts.{part-first, part-second, part-take}
use Rattle.apei_bytes.proofs.Puts.{wrote_there, wrote_others, joined-append}
use Rattle.cper_frame.specs.declared.heads.RecordHead.{RecordHead}
use Rattle.cper_frame.specs.declared.heads.SectionHead.{SectionHead}
use Rattle.cper_frame.specs.Grammar.{SectionValue, header_back, header, descriptor_fields, descriptors, bodies_from, IsRecordHead, IsSectionHead, IsSectionOf}
use Rattle.cper_frame.specs.Writer.{Given, sections_given, bodies_end, written_record, Writing, IsWritten}
use Rattle.cper_frame.proofs.Laws.{descriptor, length-header, length-descriptor}

length-sections_given : (at : ℕ) (given : List Given) → length (sections_given at given) ≡ length given
length-sections_given at [] = refl
length-sections_given at (section ∷ given) = let e = length-sections_given (at + length section.body) given in omega (arith, e)

sections_given-push : (at : ℕ) (given : List Given) (section : Given)
    → sections_given at (given ++ section ∷ []) ≡ sections_given at given ++ (record { head = section.head; offset = bodies_end at given; body = section.body }) ∷ []
sections_given-push at [] section = refl
sections_given-push at (first ∷ given) section =
    ap (λ (xs : List SectionValue). (record { head = first.head; offset = at; body = first.body }) ∷ xs) (sections_given-push (at + length first.body) given section)

bodies_end-push : (at : ℕ) (given : List Given) (section : Given) → bodies_end at (given ++ section ∷ []) ≡ bodies_end at given + length section.body
bodies_end-push at [] section = refl
bodies_end-push at (first ∷ given) section = bodies_end-push (at + length first.body) given section

descriptors-push : (sections : List SectionValue) (section : SectionValue) → descriptors (sections ++ section ∷ []) ≡ descriptors sections ++ joined (descriptor section)
unfolding descriptors
descriptors-push [] section = append-nil (joined (descriptor section))
descriptors-push (first ∷ sections) section =
    ap (λ (xs : List ℕ). joined (descriptor first) ++ xs) (descriptors-push sections section)
    ∙ sym (append_assoc (joined (descriptor first)) (descriptors sections) (joined (descriptor section)))

no_part : (bytes : List ℕ) (at : ℕ) → part bytes at (72 * 0) ≡ []
unfolding part
no_part bytes at = refl

sizes : (k m : ℕ) → m ≡ k + 1 → 72 * m ≡ 72 * k + 72
sizes k m e = omega arith

front_part : (bytes : List ℕ) (end n : ℕ) → n ≤ end → take n (take end bytes) ≡ part bytes 0 n
unfolding part
front_part bytes end n h = take-take n end bytes h

from_start : (xs ys : List ℕ) (n : ℕ) → drop (0 + n) xs ≡ drop (0 + n) ys → drop n xs ≡ drop n ys
from_start xs ys n e = subst (λ (k : ℕ). drop k xs ≡ drop k ys) (omega arith) e

pub begins : (before now : List ℕ) (head : RecordHead) (n : ℕ) → IsRecordHead head → bodies_from n ≤ length before → Wrote before now 0 128 (joined (header head n 0))
    → Writing before now head n [] (bodies_from n)
unfolding descriptors
begins before now head n is h w =
    let size = length-header head n 0 is in
    let others = subst (λ (k : ℕ). SameOutside 0 k before now) size (wrote_others before now 0 128 (joined (header head n 0)) w) in
    let wide = SameOutside-wider 0 128 0 (bodies_from n) before now (omega arith) (omega arith) others in
    let long = wide.same_length in
    record {
      few = omega arith;
      end_is = refl;
      behind = omega arith;
      room = omega arith;
      head_fits = is;
      header_is = ap (part now 0) (sym size) ∙ wrote_there before now 0 128 (joined (header head n 0)) w;
      descriptors_are = no_part now 128;
      sections_are = All-nil (IsSectionOf (bodies_from n) (take (bodies_from n) now));
      after = from_start now before (bodies_from n) wide.after;
      same_length = long;
    }

-- a section whose body stays where it is
same_section : (first end more : ℕ) (old new : List ℕ) (section : SectionValue) → end ≤ length old → end + more ≤ length new
    → ((at m : ℕ) → first ≤ at → at + m ≤ end → part new at m ≡ part old at m)
    → IsSectionOf first (take end old) section → IsSectionOf first (take (end + more) new) section
same_section first end more old new section h k same is =
    let within = is.within in
    let size = length-take end old in
    let larger = length-take (end + more) new in
    let low : section.offset + length section.body ≤ end = omega arith in
    record {
      head = is.head;
      behind = is.behind;
      within = omega arith;
      body =
          is.body
          ∙ part-take old end section.offset (length section.body) low
          ∙ sym (same section.offset (length section.body) is.behind low)
          ∙ sym (part-take new (end + more) section.offset (length section.body) (omega arith));
    }

-- a descriptor and a body were put
pub record PutSection (a b c : List ℕ) (k end : ℕ) (head : SectionHead) (body : List ℕ) : Type 0 where
  pub head_fits : IsSectionHead head
  pub descriptor_put : Wrote a b (128 + 72 * k) (128 + 72 * k + 72) (joined (descriptor_fields head end (length body)))
  pub body_put : Wrote b c end (end + length body) body

pub goes_on : (before a b c : List ℕ) (head : RecordHead) (n : ℕ) (given : List Given) (end : ℕ) (section : Given)
    → Writing before a head n given end → length given < n → PutSection a b c (length given) end section.head section.body
    → Writing before c head n (given ++ section ∷ []) (end + length section.body)
goes_on before a b c head n given end section w more put =
    let k = length given in
    let first = bodies_from n in
    let value : SectionValue = record { head = section.head; offset = end; body = section.body } in
    let size = length-descriptor value put.head_fits in
    let there : part b (128 + 72 * k) 72 ≡ joined (descriptor value) = ap (part b (128 + 72 * k)) (sym size) ∙ wrote_there a b (128 + 72 * k)
    (128 + 72 * k + 72) (joined (descriptor value)) put.descriptor_put in
    let ab = subst (λ (m : ℕ). SameOutside (128 + 72 * k) m a b) size (wrote_others a b (128 + 72 * k) (128 + 72 * k + 72) (joined (descriptor value)) put.descriptor_put) in
    let bc = wrote_others b c end (end + length section.body) section.body put.body_put in
    let behind = w.behind in
    let room = w.room in
    let fits = put.body_put.fits in
    let same_ab = ab.same_length in
    let same_bc = bc.same_length in
    let pushed = length-append given (section ∷ []) in
    let wide_ab = SameOutside-wider (128 + 72 * k) 72 0 end a b (omega arith) (omega arith) ab in
    let same : (at m : ℕ) → first ≤ at → at + m ≤ end → part c at m ≡ part a at m = λ at m low high.
    part-before end (length section.body) at m b c bc high ∙ part-after (128 + 72 * k) 72 at m a b ab (omega arith) in
    let value_is : sections_given first (given ++ section ∷ []) ≡ sections_given first given ++ value ∷ [] =
    sections_given-push first given section ∙ ap (λ (m : ℕ). sections_given first given ++ (record { head = section.head; offset = m; body = section.body }) ∷ []) (sym w.end_is) in
    let long : end + length section.body ≤ length c = omega arith in
    let larger : length (take (end + length section.body) c) ≡ end + length section.body = length-take (end + length section.body) c ∙ omega arith in
    let body : section.body ≡ part (take (end + length section.body) c) end (length section.body) =
    sym (part-take c (end + length section.body) end (length section.body) (omega arith) ∙ wrote_there b c end (end + length section.body) section.body put.body_put) in
    let last : IsSectionOf first (take (end + length section.body) c) value = record {
      head = put.head_fits;
      behind = behind;
      within = omega arith;
      body = body;
    } in
    let others = All-weaker (IsSectionOf first (take end a)) (IsSectionOf first (take (end + length section.body) c))
    (λ s is. same_section first end (length section.body) a c s room long same is) (sections_given first given) w.sections_are in
    let all = All-append (IsSectionOf first (take (end + length section.body) c)) (sections_given first given) (value ∷ []) others
    (All-cons (IsSectionOf first (take (end + length section.body) c)) value [] last (All-nil (IsSectionOf first (take (end + length section.body) c)))) in
    record {
      few = omega arith;
      end_is = ap (λ (m : ℕ). m + length section.body) w.end_is ∙ sym (bodies_end-push first given section);
      behind = omega arith;
      room = long;
      head_fits = w.head_fits;
      header_is = part-before end (length section.body) 0 128 b c bc (omega arith) ∙ part-before (128 + 72 * k) 72 0 128 a b ab (omega arith) ∙ w.header_is;
      descriptors_are =
          ap (part c 128) (sizes k (length (given ++ section ∷ [])) (omega arith))
          ∙ sym (part-append c 128 (72 * k) 72)
          ∙ ap (λ (xs : List ℕ). xs ++ part c (128 + 72 * k) 72) (part-before end (length section.body) 128 (72 * k) b c bc (omega arith) ∙ part-before
          (128 + 72 * k) 72 128 (72 * k) a b ab (omega arith) ∙ w.descriptors_are)
          ∙ ap (λ (xs : List ℕ). descriptors (sections_given first given) ++ xs) (part-before end (length section.body) (128 + 72 * k) 72 b c bc (omega arith) ∙ there)
          ∙ sym (descriptors-push (sections_given first given) value)
          ∙ ap descriptors (sym value_is);
      sections_are = subst (All (IsSectionOf first (take (end + length section.body) c))) (sym value_is) all;
      after =
          bc.after
          ∙ sym (drop-drop (length section.body) end b)
          ∙ ap (drop (length section.body)) (ap (λ (m : ℕ). drop m b) (omega arith) ∙ wide_ab.after ∙ ap (λ (m : ℕ). drop m a) (omega arith) ∙ w.after)
          ∙ drop-drop (length section.body) end before;
      same_length = same_bc ∙ same_ab ∙ w.same_length;
    }

-- a header up to its length, and behind it
abbrev before_length : RecordHead → ℕ → List (List ℕ)
before_length head n = codes "CPER" ∷ spelled 2 head.revision ∷ spelled 4 (2 ^ 32 - 1) ∷ spelled 2 n ∷ spelled 4 head.severity ∷ spelled 4 head.validation ∷ []

length-before_length : (head : RecordHead) (n : ℕ) → length (joined (before_length head n)) ≡ 20
unfolding spelled
length-before_length head n = length-joined (before_length head n)

header_split : (head : RecordHead) (n len : ℕ) → joined (header head n len) ≡ joined (before_length head n) ++ (spelled 4 len ++ joined (header_back head))
header_split head n len = joined-append (before_length head n) (spelled 4 len ∷ header_back head)

-- a field in the middle is put anew
patched : (a b xs m m' ys : List ℕ) → 128 ≤ length a → part a 0 128 ≡ xs ++ (m ++ ys) → length xs ≡ 20 → length m ≡ 4 → length m' ≡ 4 → Wrote a b 20 24 m' → part b 0 128 ≡ xs ++ (m' ++ ys)
patched a b xs m m' ys long e sx sm sm' w =
    let others = subst (λ (k : ℕ). SameOutside 20 k a b) sm' (wrote_others a b 20 24 m' w) in
    let there : part b 20 4 ≡ m' = ap (part b 20) (sym sm') ∙ wrote_there a b 20 24 m' w in
    let size : length (part a 0 128) ≡ 128 = length-part a 0 128 (omega arith) in
    let all : length (xs ++ (m ++ ys)) ≡ 128 = ap length (sym e) ∙ size in
    let sums = length-append xs (m ++ ys) in
    let sum = length-append m ys in
    let rest : length ys ≡ 104 = omega arith in
    let front : part a 0 20 ≡ xs = sym (part-part a 0 128 0 20 (omega arith)) ∙ ap (λ (zs : List ℕ). part zs 0 20) e ∙ part-first xs (m ++ ys) 20 sx in
    let back : part a 24 104 ≡ ys =
    sym (part-part a 0 128 24 104 (omega arith))
    ∙ ap (λ (zs : List ℕ). part zs 24 104) (e ∙ sym (append_assoc xs m ys))
    ∙ part-second (xs ++ m) ys 24 104 (omega (arith, length-append xs m)) rest in
    sym (part-append b 0 20 108)
    ∙ ap (λ (zs : List ℕ). part b 0 20 ++ zs) (sym (part-append b 20 4 104))
    ∙ ap (λ (zs : List ℕ). zs ++ (part b 20 4 ++ part b 24 104)) (part-before 20 4 0 20 a b others (omega arith) ∙ front)
    ∙ ap (λ (zs : List ℕ). xs ++ (zs ++ part b 24 104)) there
    ∙ ap (λ (zs : List ℕ). xs ++ (m' ++ zs)) (part-after 20 4 24 104 a b others (omega arith) ∙ back)

-- the record is whole
pub ends : (before a b : List ℕ) (head : RecordHead) (given : List Given) (end : ℕ) → Writing before a head (length given) given end → length given < 2 ^ 16 → end < 2 ^ 32
    → Wrote a b 20 24 (spelled 4 end) → IsWritten (written_record head given) end before b
ends before a b head given end w few short put =
    let n = length given in
    let first = bodies_from n in
    let sections = sections_given first given in
    let count = length-sections_given first given in
    let others = subst (λ (k : ℕ). SameOutside 20 k a b) (length-spelled 4 end) (wrote_others a b 20 24 (spelled 4 end) put) in
    let same_length = others.same_length in
    let room = w.room in
    let behind = w.behind in
    let wide = SameOutside-wider 20 4 0 end a b (omega arith) (omega arith) others in
    let size : length (take end b) ≡ end = length-take end b ∙ omega arith in
    let head_is : part b 0 128 ≡ joined (header head n end) =
    patched a b (joined (before_length head n)) (spelled 4 0) (spelled 4 end) (joined (header_back head)) (omega arith)
    (w.header_is ∙ header_split head n 0) (length-before_length head n) (length-spelled 4 0) (length-spelled 4 end) put
    ∙ sym (header_split head n end) in
    let descriptors_are : part b 128 (72 * n) ≡ descriptors sections = part-after 20 4 128 (72 * n) a b others (omega arith) ∙ w.descriptors_are in
    let all = All-weaker (IsSectionOf first (take end a)) (IsSectionOf first (take (end + 0) b))
    (λ s is. same_section first end 0 a b s room (omega arith) (λ at m low high. part-after 20 4 at m a b others (omega arith)) is) sections w.sections_are in
    let whole : take end b ≡ joined (header head n end) ++ descriptors sections ++ drop (128 + 72 * n) (take end b) =
    sym (take-append-drop (128 + 72 * n) (take end b))
    ∙ ap (λ (xs : List ℕ). xs ++ drop (128 + 72 * n) (take end b)) (front_part b end (128 + 72 * n) (omega arith) ∙ sym (part-append b 0 128 (72 * n)))
    ∙ ap (λ (xs : List ℕ). xs ++ part b 128 (72 * n) ++ drop (128 + 72 * n) (take end b)) head_is
    ∙ ap (λ (xs : List ℕ). joined (header head n end) ++ xs ++ drop (128 + 72 * n) (take end b)) descriptors_are in
    record {
      is_record = record {
        few = omega arith;
        short = omega arith;
        head = w.head_fits;
        sections = subst (λ (k : ℕ). All (IsSectionOf (bodies_from k) (take end b)) sections) (sym count) (subst (λ (k : ℕ). All (IsSectionOf first (take k b)) sections) (omega arith) all);
        spelling = (
          drop (128 + 72 * n) (take end b),
          whole
              ∙ ap (λ (k : ℕ). joined (header head k end) ++ descriptors sections ++ drop (128 + 72 * n) (take end b)) (sym count)
              ∙ ap (λ (k : ℕ). joined (header head (length sections) k) ++ descriptors sections ++ drop (128 + 72 * n) (take end b)) (sym size),
        );
      };
      after = from_start b a end wide.after ∙ w.after;
    }
