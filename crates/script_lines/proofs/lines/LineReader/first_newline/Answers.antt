use Rattle.std.proofs.Common.{◌≡◌, ℕ, ◌+◌, List, length, take, drop, ap, subst, arith}
use Rattle.memchr.specs.Find.{Nowhere, NoneBefore, Passes, is_byte}
use Rattle.script_lines.specs.Lines.{Reading, IsOneLine, IsFirstLine}
use Rattle.script_lines.proofs.LineLemmas.{drop-pending, IsOneLine-each, IsFirstLine-found, IsOneLine-scanned, IsFirstLine-scanned}
use Rattle.script_lines.proofs.lines.LineReader.first_newline.Goals as goal

none : (searched bytes : List ℕ) (scanned : ℕ) → searched ≡ drop scanned bytes → IsOneLine (take scanned bytes) → Nowhere (Passes (is_byte 10) searched) 0 (length searched) → IsOneLine bytes
none searched bytes scanned e h nowhere =
    IsOneLine-scanned scanned bytes h (subst IsOneLine e (IsOneLine-each searched (λ k below. nowhere k (omega arith) below)))

some : (searched bytes : List ℕ) (scanned at : ℕ) → searched ≡ drop scanned bytes → IsOneLine (take scanned bytes)
    → NoneBefore (Passes (is_byte 10) searched) 0 (length searched) at → Passes (is_byte 10) searched at → IsFirstLine (scanned + at) bytes
some searched bytes scanned at e h first passes =
    IsFirstLine-scanned scanned at bytes h (subst (IsFirstLine at) e (IsFirstLine-found searched at first.high (λ k below. first.before k (omega arith) below) passes))

pub returns-in-None-clause-first : goal.returns-in-None-clause-first
returns-in-None-clause-first c =
    none _ _ c.args.scanned
    (drop-pending c.self.inside.start c.args.scanned c.self.inside.end c.self.inside.buffer.items c.deref.result.now c.args.self.now.pending
    c.deref.ensures.value (ap (λ (r : Reading). r.pending) c.self.view_is) c.requires.within (omega arith))
    c.requires.scanned c.in-None.ensures

pub returns-in-Some-clause-first : goal.returns-in-Some-clause-first
returns-in-Some-clause-first c =
    some _ _ c.args.scanned c.in-Some.at
    (drop-pending c.self.inside.start c.args.scanned c.self.inside.end c.self.inside.buffer.items c.deref.result.now c.args.self.now.pending
    c.deref.ensures.value (ap (λ (r : Reading). r.pending) c.self.view_is) c.requires.within (omega arith))
    c.requires.scanned c.in-Some.ensures.0 c.in-Some.ensures.1
