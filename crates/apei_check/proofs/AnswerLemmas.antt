-- What is said of lines that were written.
use Rattle.std.proofs.Common.{◌≡◌, ℕ, ◌≤◌, List, length, take, subst}
use Rattle.std.proofs.lemmas.List.{take_all}
use Rattle.apei_check.specs.Shown.{Shows, ShowsPart, lines_shown}
use Rattle.apei_check.specs.declared.text.show.Show.{Show}
use Rattle.apei_check.specs.Written.{Writes, WritesPart}

-- so many lines as there are
pub wrote_all : (told : Type 0) (lines : List (List ℕ)) (i : ℕ) (a b : List ℕ) → length lines ≤ i → Writes told (take i lines) a b → Writes told lines a b
wrote_all told lines i a b long wrote = subst (λ (xs : List (List ℕ)). Writes told xs a b) (take_all i lines long) wrote

-- lines of a kind were written
pub shows : (told : Type 0) (Are : List (List ℕ) → Type 0) (lines : List (List ℕ)) (a b : List ℕ) → Are lines → Writes told lines a b → Shows told Are a b
shows told Are lines a b are wrote = record { lines = lines; are = are; text = wrote }

pub shows_part : (told : Type 0) (Are : List (List ℕ) → Type 0) (lines : List (List ℕ)) (a b : List ℕ) → Are lines → WritesPart told lines a b → ShowsPart told Are a b
shows_part told Are lines a b are wrote = record { lines = lines; are = are; count = wrote.count; text = wrote.text }

-- the lines of an item that are shown were written, the one on the whole being this one
pub shows_item : (told : Type 0) (Are : List (List ℕ) → Type 0) (show : Show) (line head : List ℕ) (parts : List (List ℕ)) (a b : List ℕ) → line ≡ head
    → Are (lines_shown show head parts) → Writes told (lines_shown show line parts) a b → Shows told Are a b
shows_item told Are show line head parts a b is are wrote =
    shows told Are (lines_shown show head parts) a b are (subst (λ (x : List ℕ). Writes told (lines_shown show x parts) a b) is wrote)

pub shows_item_part : (told : Type 0) (Are : List (List ℕ) → Type 0) (show : Show) (line head : List ℕ) (parts : List (List ℕ)) (a b : List ℕ) → line ≡ head
    → Are (lines_shown show head parts) → WritesPart told (lines_shown show line parts) a b → ShowsPart told Are a b
shows_item_part told Are show line head parts a b is are wrote =
    shows_part told Are (lines_shown show head parts) a b are (subst (λ (x : List ℕ). WritesPart told (lines_shown show x parts) a b) is wrote)
