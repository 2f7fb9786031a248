-- What the parts of a change say together.
use Rattle.std.proofs.Common.{◌≡◌, ◌∙◌, ℕ, ◌+◌, ◌≤◌, List, [], ◌∷◌, ◌++◌, length, replicate, sym, ap, subst}
use Rattle.base_model.specs.Bytes.{part, put_at}
use Rattle.base_model.proofs.BytesLemmas.{part-put_at}
use Rattle.base_model.specs.Flash.{Change}
use Rattle.erst_port.specs.Contents.{bytes_of, kind_of, IsAsked}
use Rattle.erst_port.specs.Dues.{MayPut}
use Rattle.erst_port.specs.declared.content.Content.{Content}
use Rattle.erst_port.specs.declared.content.Content.TheVariants as contents
use Rattle.erst_port.specs.declared.due.Kind.{Kind}
use Rattle.erst_port.specs.declared.due.Kind.TheVariants.{Program, Erase}
use Rattle.erst_port.specs.declared.log.Range.{Range}
use Rattle.erst_port.specs.declared.log.Log.{Log}
use Rattle.erst_port.proofs.Dues.{change_of}
use Rattle.erst_port.proofs.Logs.{Enters}

-- what is asked for may be put there
may_put : (sector : ℕ) (image : List ℕ) (at : ℕ) (content : Content) → IsAsked sector image at content → MayPut sector image (kind_of content) at (bytes_of content)
may_put sector image at (contents.Program bytes) asked =
    record { programs = λ _. asked.0; few = λ _. (asked.1, asked.2); erases = λ erase. absurd (let other : Program ≡ Erase = erase in cc) }
may_put sector image at (contents.Erase len) asked =
    record {
      programs = λ program. absurd (let other : Erase ≡ Program = program in cc);
      few = λ program. absurd (let other : Erase ≡ Program = program in cc);
      erases = λ _. (asked.0, ap (λ (n : ℕ). replicate n 0xFF) asked.1);
    }

pub may_be_put : (sector : ℕ) (image : List ℕ) (at : ℕ) (content : Content) (kind : Kind) → kind ≡ kind_of content → IsAsked sector image at content
    → MayPut sector image kind at (bytes_of content)
may_be_put sector image at content kind is asked =
    subst (λ (k : Kind). MayPut sector image k at (bytes_of content)) (sym is) (may_put sector image at content asked)

-- what stands in the range are the bytes that were put there
pub found_is : (image new found : List ℕ) (at len : ℕ) (bytes : List ℕ) → at + length bytes ≤ length image → new ≡ put_at image at bytes → len ≡ length bytes
    → found ≡ part new at len → found ≡ bytes
found_is image new found at len bytes within put size is =
    is ∙ ap (λ (n : ℕ). part new at n) size ∙ ap (λ (i : List ℕ). part i at (length bytes)) put ∙ part-put_at image at bytes within

-- the past behind the change
pub past_is : (past now : List Change) (before image : List ℕ) (at len : ℕ) (bytes : List ℕ) → now ≡ past ++ (record { before = before; at = at; len = len }) ∷ []
    → before ≡ image → len ≡ length bytes → now ≡ past ++ change_of image at bytes ∷ []
past_is past now before image at len bytes is same size =
    is ∙ ap (λ (b : List ℕ). past ++ (record { before = b; at = at; len = len }) ∷ []) same
    ∙ ap (λ (n : ℕ). past ++ (record { before = image; at = at; len = n }) ∷ []) size

-- the log behind it
pub enters : (old new : Log) (range : Range) (steps count : ℕ) (found bytes : List ℕ) → count ≡ steps → found ≡ bytes → Enters old steps range found new → Enters old count range bytes new
enters old new range steps count found bytes counted is made =
    subst (λ (n : ℕ). Enters old n range bytes new) (sym counted) (subst (λ (content : List ℕ). Enters old steps range content new) is made)
