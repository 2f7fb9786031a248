-- What a command line asks for.
use Rattle.std.specs.Prelude.{◌≡◌, ℕ, ◌<◌, ◌≤◌, Bool, true, false, List, [], length, Option, Some, None, String, string_bytes, codes, decimal, map}
use Rattle.std.specs.Option.{option_map_or}
use Rattle.std.specs.Str.{bytes_eq}
use Rattle.std.specs.declared.alloc.Global.{Global}
use Rattle.clap.specs.Words.{Row, Text, fault_of, first_of, matches_of}
use Rattle.apei_look.specs.Commands.{the_command}
use Rattle.apei_look.specs.declared.options.Options.{Options}
use Rattle.apei_look.specs.declared.options.Show.{Show}
use Rattle.apei_look.specs.declared.options.Show.TheVariants.{Text as TheText, Json, Record as OfRecord}

-- a flag was given: clap keeps the text "true" of it
abbrev pub is_set : Text → List Row → Bool
is_set name rows = option_map_or (λ text. bytes_eq text (codes "true")) (first_of name rows) false

-- a text is a number below 2^64 in decimal digits, without a sign and without a zero before other digits
abbrev pub IsNumber : Text → ℕ → Type 0
IsNumber text n = (n ≤ 0xFFFF_FFFF_FFFF_FFFF) × (text ≡ decimal n)

-- the number that an option was given, or its default
abbrev pub IsGivenOr : ℕ → Option Text → ℕ → Type 0
IsGivenOr default None n = n ≡ default
IsGivenOr default (Some text) n = IsNumber text n

-- the one of two texts that is given; none where both are
abbrev pub one_of : Option Text → Option Text → Option Text
one_of None other = other
one_of (Some text) None = Some text
one_of (Some text) (Some other) = None

-- the path of the image, which has to be given and is not empty
abbrev pub IsImage : Option Text → String Global → Type 0
IsImage None image = ⊥
IsImage (Some path) image = (string_bytes image ≡ path) × (0 < length path)

-- JSON, one record, or text where neither is asked for; never both
abbrev pub IsShow : Bool → Option Text → Show → Type 0
IsShow true (Some digits) show = ⊥
IsShow true None show = show ≡ Json
IsShow false None show = show ≡ TheText
IsShow false (Some digits) show = (id : ℕ) × IsNumber digits id × (show ≡ OfRecord id)

-- the value of each option or its default; the path of the image is that of the option or stands by itself
pub record AreOptionsIn (rows : List Row) (options : Options) : Type 0 where
  pub image : IsImage (one_of (first_of (codes "image") rows) (first_of (codes "file") rows)) options.image
  pub sector : IsGivenOr 4096 (first_of (codes "sector") rows) options.sector
  pub per_slot : IsGivenOr 2 (first_of (codes "per-slot") rows) options.per_slot
  pub slots : IsGivenOr 32 (first_of (codes "slots") rows) options.slots
  pub guess : options.guess ≡ is_set (codes "guess") rows
  pub show : IsShow (is_set (codes "json") rows) (first_of (codes "record") rows) options.show

-- clap finds no fault in the words, and the options are what it then reads of them
pub record AreOptionsOf (words : List (String Global)) (options : Options) : Type 0 where
  pub taken : fault_of the_command (map string_bytes words) ≡ []
  pub values : AreOptionsIn (matches_of the_command (map string_bytes words)) options

-- the words are no command line of the program
abbrev pub AreBad : List (String Global) → Type 0
AreBad words = (options : Options) → ¬ AreOptionsOf words options
