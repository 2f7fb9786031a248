-- How a run ends that looks at a file.
use Rattle.std.proofs.Common.{◌≡◌, ◌∙◌, ℕ, ◌-◌, ◌*◌, ◌≤◌, inr, Bool, true, false, cond, List, [], ◌++◌, length, take, drop, min, replicate, Option, Some, None}
use Rattle.std.proofs.Common.{IfSome, IfOk, Result, Ok, Err, String, Global, string_bytes, refl, sym, ap, subst, arith}
use Rattle.std.proofs.Math.Seq.{take-length}
use Rattle.std.proofs.Math.Nat.{min_comm}
use Rattle.std.proofs.lemmas.Bool.{le-leb}
use Rattle.std.proofs.lemmas.List.{append-nil, length-take, take_all, take_min}
use Rattle.std.specs.Prelude.{MatchResult}
use Rattle.std.specs.Io.KnownBytes.{Appends}
use Rattle.std.specs.declared.alloc.AllocError.{AllocError}
use Rattle.flash_model.specs.declared.geometry.Geometry.{Geometry}
use Rattle.image_survey.specs.Headers.{IsFirstSector}
use Rattle.image_survey.specs.declared.header.FirstSector.{FirstSector}
use Rattle.apei_look.specs.Endings.{EndsBy, IsAll, IsTold}
use Rattle.apei_look.specs.Entries.{Entry, IsBeginning, IsFileOf}
use Rattle.apei_look.specs.Looks.{flash_in, IsFileLook, IsFlashLook, IsGiven, IsLook, IsLookAt, IsLookBy, IsLookOf, IsShow, IsTaken, IsWithin}
use Rattle.apei_look.specs.Places.{file_size, flash_at}
use Rattle.apei_look.specs.Refusals.{ended_as, length_checked, most_of, named_as}
use Rattle.apei_look.specs.declared.image_file.FileFault.TheVariants.{Unreadable, Missing, NoFile, Held}
use Rattle.apei_look.specs.declared.options.Options.{Options}
use Rattle.apei_look.specs.declared.options.Show.{Show}
use Rattle.apei_look.specs.declared.status.Status.{Status}
use Rattle.apei_look.specs.declared.status.Status.TheVariants.{Done, Words, SinkFault, File, BadGeometry, Length, Memory, NoRecord}
use Rattle.apei_look.specs.declared.status.Status.TheVariants as statuses
use Rattle.apei_look.specs.declared.unread.Unread.{Unread}

-- nothing was added
added_nothing : (w : Option (List ℕ)) → Appends w w []
added_nothing None = tt
added_nothing (Some xs) = sym (append-nil xs)

said_nothing : (P : List ℕ → Status → Type 0) (b a : Option (List ℕ)) (status : Status) → a ≡ b → P [] status
    → (said : List ℕ) × Appends b a said × P said status
said_nothing P b a status e p = ([], subst (λ w. Appends b w []) (sym e) (added_nothing b), p)

-- an ending that says nothing
pub ends_silent : (P : List ℕ → Status → Type 0) (b a : Option (List ℕ)) (status : Status) → a ≡ b → P [] status → EndsBy P b a status
ends_silent P b a Memory e p = e
ends_silent P b a (File Unreadable) e p = e
ends_silent P b a SinkFault e p = ([], SinkFault, p, (0, subst (λ w. Appends b w []) (sym e) (added_nothing b)))
ends_silent P b a Done e p = said_nothing P b a Done e p
ends_silent P b a (Words error) e p = said_nothing P b a (Words error) e p
ends_silent P b a (File Missing) e p = said_nothing P b a (File Missing) e p
ends_silent P b a (File NoFile) e p = said_nothing P b a (File NoFile) e p
ends_silent P b a (File Held) e p = said_nothing P b a (File Held) e p
ends_silent P b a BadGeometry e p = said_nothing P b a BadGeometry e p
ends_silent P b a (Length found wanted) e p = said_nothing P b a (Length found wanted) e p
ends_silent P b a (statuses.Unread unread) e p = said_nothing P b a (statuses.Unread unread) e p
ends_silent P b a (NoRecord id) e p = said_nothing P b a (NoRecord id) e p

-- an ending of one kind is one of a kind that follows from it
pub ends_weaker : (P Q : List ℕ → Status → Type 0) (b a : Option (List ℕ)) (status : Status)
    → ((said : List ℕ) (ending : Status) → P said ending → Q said ending) → EndsBy P b a status → EndsBy Q b a status
ends_weaker P Q b a Memory f h = h
ends_weaker P Q b a (File Unreadable) f h = h
ends_weaker P Q b a SinkFault f h = (h.0, h.1, f h.0 h.1 h.2, h.3)
ends_weaker P Q b a Done f h = (h.0, h.1, f h.0 Done h.2)
ends_weaker P Q b a (Words error) f h = (h.0, h.1, f h.0 (Words error) h.2)
ends_weaker P Q b a (File Missing) f h = (h.0, h.1, f h.0 (File Missing) h.2)
ends_weaker P Q b a (File NoFile) f h = (h.0, h.1, f h.0 (File NoFile) h.2)
ends_weaker P Q b a (File Held) f h = (h.0, h.1, f h.0 (File Held) h.2)
ends_weaker P Q b a BadGeometry f h = (h.0, h.1, f h.0 BadGeometry h.2)
ends_weaker P Q b a (Length found wanted) f h = (h.0, h.1, f h.0 (Length found wanted) h.2)
ends_weaker P Q b a (statuses.Unread unread) f h = (h.0, h.1, f h.0 (statuses.Unread unread) h.2)
ends_weaker P Q b a (NoRecord id) f h = (h.0, h.1, f h.0 (NoRecord id) h.2)

-- what is said of a file of another length
abbrev Ended : (P : List ℕ → Status → Type 0) (held size : ℕ) (said : List ℕ) → Status → Type 0
Ended P held size said status = (shown : Status) × P said shown × (status ≡ ended_as shown held size)

ends_chosen : (Q : List ℕ → Status → Type 0) (b a : Option (List ℕ)) (same : Bool) (held size : ℕ)
    → (said : List ℕ) × Appends b a said × Q said (cond same Done (Length held size)) → EndsBy Q b a (cond same Done (Length held size))
ends_chosen Q b a true held size h = h
ends_chosen Q b a false held size h = h

pub ends_ended : (P : List ℕ → Status → Type 0) (b a : Option (List ℕ)) (held size : ℕ) (shown : Status)
    → EndsBy P b a shown → EndsBy (Ended P held size) b a (ended_as shown held size)
ends_ended P b a held size Memory h = h
ends_ended P b a held size (File Unreadable) h = h
ends_ended P b a held size SinkFault h = (h.0, ended_as h.1 held size, (h.1, h.2, refl), h.3)
ends_ended P b a held size Done h = ends_chosen (Ended P held size) b a _ held size (h.0, h.1, (Done, h.2, refl))
ends_ended P b a held size (Words error) h = (h.0, h.1, (Words error, h.2, refl))
ends_ended P b a held size (File Missing) h = (h.0, h.1, (File Missing, h.2, refl))
ends_ended P b a held size (File NoFile) h = (h.0, h.1, (File NoFile, h.2, refl))
ends_ended P b a held size (File Held) h = (h.0, h.1, (File Held, h.2, refl))
ends_ended P b a held size BadGeometry h = (h.0, h.1, (BadGeometry, h.2, refl))
ends_ended P b a held size (Length found wanted) h = (h.0, h.1, (Length found wanted, h.2, refl))
ends_ended P b a held size (statuses.Unread unread) h = (h.0, h.1, (statuses.Unread unread, h.2, refl))
ends_ended P b a held size (NoRecord id) h = (h.0, h.1, (NoRecord id, h.2, refl))

-- a flash that was shown
pub shown_by : (show : Show) (is_medium : Bool) (geometry : Geometry) (held size : ℕ) (file flash : List ℕ) (b a : Option (List ℕ)) (shown status : Status)
    → size ≡ file_size is_medium geometry → flash ≡ flash_in is_medium geometry file → status ≡ ended_as shown held size
    → EndsBy (IsShow show is_medium geometry held flash) b a shown → EndsBy (IsLookBy show is_medium geometry held file) b a status
shown_by show is_medium geometry held size file flash b a shown status sized same ended h =
    let P = IsLookBy show is_medium geometry held file in
    let ends : EndsBy P b a (ended_as shown held (file_size is_medium geometry)) =
    ends_ended (IsShow show is_medium geometry held (flash_in is_medium geometry file)) b a held (file_size is_medium geometry) shown
    (subst (λ flash. EndsBy (IsShow show is_medium geometry held flash) b a shown) same h) in
    subst (λ status. EndsBy P b a status) (sym (ended ∙ ap (λ size. ended_as shown held size) sized)) ends

-- a file of at most so many bytes, and a longer one
within_ok : (IsShown : Type 0) (file : List ℕ) (most : ℕ) (said : List ℕ) (status : Status)
    → Ok tt ≡ length_checked (length file) most → IsShown → IsWithin IsShown file most said status
within_ok IsShown file most said status e shown = subst (λ r. MatchResult r (λ _. IsShown) (λ longer. (status ≡ longer) × (said ≡ []))) e shown

within_err : (IsShown : Type 0) (file : List ℕ) (most : ℕ) (said : List ℕ) (status : Status)
    → Err status ≡ length_checked (length file) most → said ≡ [] → IsWithin IsShown file most said status
within_err IsShown file most said status e none =
    let same : status ≡ status = refl in
    subst (λ r. MatchResult r (λ _. IsShown) (λ longer. (status ≡ longer) × (said ≡ []))) e (same, none)

checked_ok : (found most : ℕ) → found ≤ most → Ok tt ≡ length_checked found most
checked_ok found most within = ap (λ fits. cond fits (Ok tt) (Err (Length found most))) (sym (le-leb found most within))

-- all bytes of a file
all_bytes : (known : Entry) (size : ℕ) (image : List ℕ) → IsFileOf size known → IsBeginning (Some known) size image → image ≡ known.bytes
all_bytes known size image regular read = read.first ∙ ap (λ n. take n known.bytes) regular.sized ∙ take-length known.bytes

-- a flash alone, of which its geometry says that it is too long
pub flash_longer : (content : Option Entry) (show : Show) (guessed : Bool) (given geometry : Geometry) (size : ℕ) (image : List ℕ)
    (b a : Option (List ℕ)) (status : Status)
    → IfSome content (IsFileOf size) → IsBeginning content size image → size ≤ most_of guessed given → IsTaken guessed image given geometry
    → Err status ≡ length_checked size (geometry.slot_size * geometry.slots) → a ≡ b
    → IfSome content (λ known. EndsBy (IsFlashLook show guessed given known.bytes) b a status)
flash_longer None show guessed given geometry size image b a status regular read within taken longer e = tt
flash_longer (Some known) show guessed given geometry size image b a status regular read within taken longer e =
    let same = all_bytes known size image regular read in
    ends_silent (IsFlashLook show guessed given known.bytes) b a status e
    (within_ok _ known.bytes (most_of guessed given) [] status (checked_ok (length known.bytes) (most_of guessed given) (subst (λ n. n ≤ most_of guessed given) regular.sized within)) (
      geometry,
      subst (λ bytes. IsTaken guessed bytes given geometry) same taken,
      within_err _ known.bytes (geometry.slot_size * geometry.slots) [] status (longer ∙ ap (λ n. length_checked n (geometry.slot_size * geometry.slots)) regular.sized) refl,
    ))

-- one that is shown
pub flash_shown : (content : Option Entry) (show : Show) (guessed : Bool) (given geometry : Geometry) (size : ℕ) (image : List ℕ)
    (b a : Option (List ℕ)) (status : Status)
    → IfSome content (IsFileOf size) → IsBeginning content size image → size ≤ most_of guessed given → IsTaken guessed image given geometry
    → Ok tt ≡ length_checked size (geometry.slot_size * geometry.slots) → EndsBy (IsLookBy show false geometry size image) b a status
    → IfSome content (λ known. EndsBy (IsFlashLook show guessed given known.bytes) b a status)
flash_shown None show guessed given geometry size image b a status regular read within taken fits h = tt
flash_shown (Some known) show guessed given geometry size image b a status regular read within taken fits h =
    let same = all_bytes known size image regular read in
    ends_weaker (IsLookBy show false geometry size image) (IsFlashLook show guessed given known.bytes) b a status
    (λ said ending look. within_ok _ known.bytes (most_of guessed given) said ending
    (checked_ok (length known.bytes) (most_of guessed given) (subst (λ n. n ≤ most_of guessed given) regular.sized within)) (
      geometry,
      subst (λ bytes. IsTaken guessed bytes given geometry) same taken,
      within_ok _ known.bytes (geometry.slot_size * geometry.slots) said ending
          (fits ∙ ap (λ n. length_checked n (geometry.slot_size * geometry.slots)) regular.sized)
          (subst (λ bytes. IsLookBy show false geometry (length known.bytes) bytes said ending) same
          (subst (λ n. IsLookBy show false geometry n image said ending) regular.sized look)),
    )) h

-- the first bytes of a file
first_bytes : (known : Entry) (size most : ℕ) (bytes : List ℕ) → IsFileOf size known → IsBeginning (Some known) (min size most) bytes → bytes ≡ take most known.bytes
first_bytes known size most bytes regular read =
    read.first ∙ ap (λ n. take (min n most) known.bytes) regular.sized ∙ ap (λ n. take n known.bytes) (min_comm (length known.bytes) most)
    ∙ take_min most known.bytes

-- a flash is told by as many bytes as it has
same_fill : (n : ℕ) (file : List ℕ) → take n (take n file) ++ replicate (n - length (take n file)) 255 ≡ take n file ++ replicate (n - length file) 255
same_fill n file =
    let len = length-take n file in
    let rest : n - length (take n file) ≡ n - length file = grind (arith, len) in
    ap (λ (xs : List ℕ). xs ++ replicate (n - length (take n file)) 255) (take_all n (take n file) (grind (arith, len)))
    ∙ ap (λ (k : ℕ). take n file ++ replicate k 255) rest

pub medium_shown : (content : Option Entry) (show : Show) (geometry : Geometry) (size most : ℕ) (bytes : List ℕ)
    (b a : Option (List ℕ)) (status : Status)
    → IfSome content (IsFileOf size) → most ≡ file_size true geometry → IsBeginning content (min size most) bytes
    → EndsBy (IsLookBy show true geometry size bytes) b a status
    → IfSome content (λ known. EndsBy (IsLookBy show true geometry (length known.bytes) known.bytes) b a status)
medium_shown None show geometry size most bytes b a status regular whole read h = tt
medium_shown (Some known) show geometry size most bytes b a status regular whole read h =
    let n = file_size true geometry in
    let same : flash_in true geometry bytes ≡ flash_in true geometry known.bytes =
    ap (λ bytes. flash_in true geometry bytes) (first_bytes known size most bytes regular read ∙ ap (λ most. take most known.bytes) whole)
    ∙ ap (λ filled. drop (flash_at true geometry) filled) (same_fill n known.bytes) in
    ends_weaker (IsLookBy show true geometry size bytes) (IsLookBy show true geometry (length known.bytes) known.bytes) b a status
    (λ said ending look. subst (λ held. IsLookBy show true geometry held known.bytes said ending) regular.sized
    (look.0, subst (λ flash. IsShow show true geometry size flash said look.0) same look.1, look.2)) h

-- what a first sector says of a file
pub look_of : (content : Option Entry) (options : Options) (given : Geometry) (size : ℕ) (beginning : List ℕ) (first : FirstSector)
    (b a : Option (List ℕ)) (status : Status)
    → IfSome content (IsFileOf size) → IsBeginning content (min size 64) beginning → IsFirstSector beginning first
    → IfSome content (λ known. EndsBy (IsLookOf first options.show options.guess given known.bytes) b a status)
    → IfSome content (λ known. EndsBy (IsFileLook options given known.bytes) b a status)
look_of None options given size beginning first b a status regular read says h = tt
look_of (Some known) options given size beginning first b a status regular read says h =
    ends_weaker (IsLookOf first options.show options.guess given known.bytes) (IsFileLook options given known.bytes) b a status
    (λ said ending look. (first, subst (λ bytes. IsFirstSector bytes first) (first_bytes known size 64 beginning regular read) says, look)) h

-- what is said of a file that has so many bytes
pub of_size : (content : Option Entry) (P : ℕ → List ℕ → Status → Type 0) (size : ℕ) (b a : Option (List ℕ)) (status : Status)
    → IfSome content (IsFileOf size) → EndsBy (P size) b a status → IfSome content (λ known. EndsBy (P (length known.bytes)) b a status)
of_size None P size b a status regular h = tt
of_size (Some known) P size b a status regular h = subst (λ n. EndsBy (P n) b a status) regular.sized h

-- a file that is shown
pub shown_at : (entry content : Option Entry) (options : Options) (given : Geometry) (size : ℕ) (b a : Option (List ℕ)) (status : Status)
    → content ≡ entry → IfSome entry (IsFileOf size) → IfSome content (λ known. EndsBy (IsFileLook options given known.bytes) b a status)
    → IfSome entry (λ known. EndsBy (IsLookAt options given known) b a status)
shown_at None content options given size b a status same regular h = tt
shown_at (Some known) content options given size b a status same regular h =
    ends_weaker (IsFileLook options given known.bytes) (IsLookAt options given known) b a status
    (λ said ending look. inr (subst (λ n. IsFileOf n known) regular.sized regular, look))
    (subst (λ content. IfSome content (λ known. EndsBy (IsFileLook options given known.bytes) b a status)) same h)

-- a geometry within the limits
pub look_given : (entry : Option Entry) (options : Options) (given : Geometry) (b a : Option (List ℕ)) (answered status : Status)
    → answered ≡ status → IsGiven options given → IfSome entry (λ known. EndsBy (IsLookAt options given known) b a answered)
    → IfSome entry (λ known. EndsBy (IsLook options known) b a status)
look_given None options given b a answered status same is_given h = tt
look_given (Some known) options given b a answered status same is_given h =
    subst (λ status. EndsBy (IsLook options known) b a status) same
    (ends_weaker (IsLookAt options given known) (IsLook options known) b a answered (λ said ending look. inr (given, is_given, look)) h)

-- what is said of a medium that is not shown
said_unread : (P : List ℕ → Status → Type 0) (bytes : List ℕ) (unread : Unread) (b a : Option (List ℕ)) (said : Status) → P bytes (statuses.Unread unread)
    → EndsBy (IsAll bytes) b a said → EndsBy P b a (named_as said unread)
said_unread P bytes unread b a Memory p h = h
said_unread P bytes unread b a (File Unreadable) p h = h
said_unread P bytes unread b a SinkFault p h = (h.0, statuses.Unread unread, subst (λ said. P said (statuses.Unread unread)) (sym h.2.0) p, h.3)
said_unread P bytes unread b a Done p h = (h.0, h.1, subst (λ said. P said (statuses.Unread unread)) (sym h.2.0) p)
said_unread P bytes unread b a (Words error) p h = absurd (let e : Words error ≡ Done = h.2.1 in cc)
said_unread P bytes unread b a (File Missing) p h = absurd (let e : File Missing ≡ Done = h.2.1 in cc)
said_unread P bytes unread b a (File NoFile) p h = absurd (let e : File NoFile ≡ Done = h.2.1 in cc)
said_unread P bytes unread b a (File Held) p h = absurd (let e : File Held ≡ Done = h.2.1 in cc)
said_unread P bytes unread b a BadGeometry p h = absurd (let e : BadGeometry ≡ Done = h.2.1 in cc)
said_unread P bytes unread b a (Length found wanted) p h = absurd (let e : Length found wanted ≡ Done = h.2.1 in cc)
said_unread P bytes unread b a (statuses.Unread other) p h = absurd (let e : statuses.Unread other ≡ Done = h.2.1 in cc)
said_unread P bytes unread b a (NoRecord id) p h = absurd (let e : NoRecord id ≡ Done = h.2.1 in cc)

pub told_unread : (P : List ℕ → Status → Type 0) (bytes : List ℕ) (text : Result (String Global) AllocError) (unread : Unread) (b a : Option (List ℕ)) (said : Status)
    → IfOk text (λ words. string_bytes words ≡ bytes) → P bytes (statuses.Unread unread) → IsTold text b a said → EndsBy P b a (named_as said unread)
told_unread P bytes (Ok words) unread b a said is p told = said_unread P (string_bytes words) unread b a said (subst (λ xs. P xs (statuses.Unread unread)) (sym is) p) told
told_unread P bytes (Err error) unread b a said is p told = subst (λ status. EndsBy P b a (named_as status unread)) (sym told.0) told.1

-- a text that is shown
pub told_shown : (P : List ℕ → Status → Type 0) (Q : List ℕ → Type 0) (text : Result (String Global) AllocError) (b a : Option (List ℕ)) (status : Status)
    → ((said : List ℕ) → Q said → P said Done) → IfOk text (λ words. Q (string_bytes words)) → IsTold text b a status → EndsBy P b a status
told_shown P Q (Ok words) b a status shown is told =
    ends_weaker (IsAll (string_bytes words)) P b a status
    (λ said ending all. subst (λ e. P said e) (sym all.1) (subst (λ xs. P xs Done) (sym all.0) (shown (string_bytes words) is))) told
told_shown P Q (Err error) b a status shown is told = subst (λ status. EndsBy P b a status) (sym told.0) told.1
