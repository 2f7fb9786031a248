-- A file that is told to be a flash has the size of its geometry.
use Rattle.std.proofs.Common.{◌∙◌, ℕ, ◌*◌, ◌==◌, Bool, true, false, ◌||◌, if◌then◌else◌, List, length, codes, Option, Some, None, IfSome, sym, ap, subst}
use Rattle.image_survey.specs.declared.heads.Guess.{Guess}
use Rattle.image_survey.specs.Heads.{IsGuess, IsMost, last_turn}
use Rattle.show_findings.specs.declared.kinds.FileKind.{FileKind}
use Rattle.show_findings.specs.declared.kinds.FileKind.TheVariants.{Dump, Qemu, Medium, Records, Tables, Packed, MachineCheck, Dmesg, Empty, Blocks, Blank, Unknown}
use Rattle.show_findings.specs.Kinds.{IsKind, IsKindBy, first_of, kind_of_guess, told_kind}
use Rattle.show_findings.specs.Names.{ends, named_kind}
use Rattle.show_findings.specs.Shapes.{shaped_kind, is_blank, is_block}
use Rattle.show_findings.specs.Signatures.{begins, is_dump, is_known_table, is_sealed, signed_kind}
use Rattle.show_items.specs.Images.{HasSize, IsSized}

abbrev pub AreSized : Option FileKind → List ℕ → Type 0
AreSized told bytes = IfSome told (λ kind. IsSized kind bytes)

one_of : (b : Bool) (bytes : List ℕ) (x y : Option FileKind) → AreSized x bytes → AreSized y bytes → AreSized (if b then x else y) bytes
one_of true bytes x y first second = first
one_of false bytes x y first second = second

one_kind : (b : Bool) (bytes : List ℕ) (x y : FileKind) → IsSized x bytes → IsSized y bytes → IsSized (if b then x else y) bytes
one_kind true bytes x y first second = first
one_kind false bytes x y first second = second

signed_sized : (bytes : List ℕ) → AreSized (signed_kind bytes) bytes
signed_sized bytes =
    one_of (is_dump bytes) bytes (Some Dump) _ tt
    (one_of (begins (codes "ERSTSTOR") bytes) bytes (Some Qemu) _ tt
    (one_of (begins (codes "APEIERST") bytes) bytes (Some Medium) _ tt
    (one_of (begins (codes "CPER") bytes) bytes (Some Records) _ tt
    (one_of (is_known_table bytes || is_sealed bytes) bytes (Some Tables) None tt tt))))

named_sized : (name bytes : List ℕ) → AreSized (named_kind name) bytes
named_sized name bytes =
    one_of (ends (codes ".enc.z") name) bytes (Some Packed) _ tt
    (one_of (begins (codes "mce-erst-") name) bytes (Some MachineCheck) _ tt
    (one_of (begins (codes "dmesg-erst-") name) bytes (Some Dmesg) None tt tt))

shaped_sized : (bytes : List ℕ) → IsSized (shaped_kind bytes) bytes
shaped_sized bytes =
    one_kind (length bytes == 0) bytes Empty _ tt (one_kind (is_block bytes) bytes Blocks _ tt (one_kind (is_blank bytes) bytes Blank Unknown tt tt))

first_sized : (bytes : List ℕ) (first second : Option FileKind) → AreSized first bytes → AreSized second bytes → AreSized (first_of first second) bytes
first_sized bytes None second none sized = sized
first_sized bytes (Some kind) second sized other = sized

-- a geometry suits the file whose geometry it seems to be
guess_sized : (guess : Guess) (bytes : List ℕ) → IsMost bytes last_turn guess → HasSize guess.geometry bytes
guess_sized guess bytes most =
    let geometry = guess.geometry in
    sym (ap (λ (n : ℕ). n * geometry.slots) geometry.product ∙ ap (λ (n : ℕ). geometry.sector * geometry.per_slot * n) most.slots ∙ most.suits.whole)

untold_sized : (guess : Option Guess) (bytes : List ℕ) → IsGuess bytes guess → IsSized (kind_of_guess guess (shaped_kind bytes)) bytes
untold_sized None bytes is = shaped_sized bytes
untold_sized (Some guess) bytes is = guess_sized guess bytes is

sized_by : (told : Option FileKind) (bytes : List ℕ) (kind : FileKind) → AreSized told bytes → IsKindBy told bytes kind → IsSized kind bytes
sized_by None bytes kind sized is = subst (λ (it : FileKind). IsSized it bytes) (sym is.2) (untold_sized is.0 bytes is.1)
sized_by (Some told) bytes kind sized is = subst (λ (it : FileKind). IsSized it bytes) (sym is) sized

pub image_sized : (name bytes : List ℕ) (kind : FileKind) → IsKind name bytes kind → IsSized kind bytes
image_sized name bytes kind is =
    sized_by (told_kind name bytes) bytes kind (first_sized bytes (signed_kind bytes) (named_kind name) (signed_sized bytes) (named_sized name bytes)) is
