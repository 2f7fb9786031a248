-- A record while it is written.
use Rattle.std.specs.Prelude.{◌≡◌, ℕ, ◌+◌, ◌*◌, ◌^◌, ◌<◌, ◌≤◌, List, [], ◌∷◌, length, take, drop, All}
use Rattle.base_model.specs.Bytes.{part, joined}
use Rattle.cper_frame.specs.declared.heads.RecordHead.{RecordHead}
use Rattle.cper_frame.specs.declared.heads.SectionHead.{SectionHead}
use Rattle.cper_frame.specs.declared.writer.RecordWriter.{RecordWriter}
use Rattle.cper_frame.specs.Grammar.{SectionValue, RecordValue, header, descriptors, bodies_from, IsRecordHead, IsSectionOf, IsRecord}

-- a section that was given to the writer
pub record Given : Type 0 where
  pub head : SectionHead
  pub body : List ℕ

-- their bodies stand one after another, from a place on
abbrev pub sections_given : ℕ → List Given → List SectionValue
sections_given at [] = []
sections_given at (section ∷ sections) = record { head = section.head; offset = at; body = section.body } ∷ sections_given (at + length section.body) sections

-- where they end
abbrev pub bodies_end : ℕ → List Given → ℕ
bodies_end at [] = at
bodies_end at (section ∷ sections) = bodies_end (at + length section.body) sections

-- the record of a head and so many sections, as a writer places them
abbrev pub written_record : RecordHead → List Given → RecordValue
written_record head given = record { head = head; sections = sections_given (bodies_from (length given)) given }

-- how many bytes of a writer's are in use
abbrev pub used_by : RecordWriter → ℕ
used_by writer = writer.end

-- how many sections it was announced, and how many were given
abbrev pub announced_to : RecordWriter → ℕ
announced_to writer = writer.sections

abbrev pub given_to : RecordWriter → ℕ
given_to writer = writer.done

-- a writer that stands behind the descriptors, within its room
pub record IsRecordWriter (writer : RecordWriter) : Type 0 where
  pub behind : bodies_from writer.sections ≤ writer.end
  pub room : writer.end ≤ length writer.out.now
  pub short : writer.end < 2 ^ 32
  pub few : writer.sections < 2 ^ 16

-- nothing was written
pub record IsUnchanged (old new : RecordWriter) : Type 0 where
  pub bytes : new.out.now ≡ old.out.now
  pub used : new.end ≡ old.end
  pub given : new.done ≡ old.done
  pub announced : new.sections ≡ old.sections

-- the bytes up to `end` hold the head and these sections, of n announced ones; behind them they are as before
pub record Writing (before now : List ℕ) (head : RecordHead) (n : ℕ) (given : List Given) (end : ℕ) : Type 0 where
  pub few : length given ≤ n
  pub end_is : end ≡ bodies_end (bodies_from n) given
  pub behind : bodies_from n ≤ end
  pub room : end ≤ length now
  pub head_fits : IsRecordHead head
  pub header_is : part now 0 128 ≡ joined (header head n 0)
  pub descriptors_are : part now 128 (72 * length given) ≡ descriptors (sections_given (bodies_from n) given)
  pub sections_are : All (IsSectionOf (bodies_from n) (take end now)) (sections_given (bodies_from n) given)
  pub after : drop end now ≡ drop end before
  pub same_length : length now ≡ length before

-- the writer has written the head and these sections, of as many as were announced
pub record IsWriting (before : List ℕ) (head : RecordHead) (given : List Given) (writer : RecordWriter) : Type 0 where
  pub done : writer.done ≡ length given
  pub bytes : Writing before writer.out.now head writer.sections given writer.end

-- the first bytes are this record, and the others are as before
pub record IsWritten (value : RecordValue) (size : ℕ) (before now : List ℕ) : Type 0 where
  pub is_record : IsRecord value (take size now)
  pub after : drop size now ≡ drop size before
