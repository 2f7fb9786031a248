use Rattle.std.proofs.Common.{◌≡◌, true, sym, ap, subst, ◌∙◌, arith}
use Rattle.std.specs.Prelude.{decimal}
use Rattle.std.specs.Str.{IsAscii}
use Rattle.std.proofs.lemmas.Str.{IsUtf8-from_ascii}
use Rattle.std.proofs.lemmas.Fmt.{IsAscii-decimal, parse-decimal}
use Rattle.std.proofs.lemmas.Slice.Eq.{slice_eq-Decides}
use Rattle.std.proofs.lemmas.Bool.Decides.{Decides-eqb}
use Rattle.apei_cli.proofs.DecimalLemmas.{number_some, number_none}
use Rattle.apei_cli.proofs.number.number.Goals as goal

pub returns-in_default-clause-number : goal.returns-in_default-clause-number
returns-in_default-clause-number c = λ n number.
    c.in_default.ensures.cases.0 (IsUtf8-from_ascii c.args.text.now (subst IsAscii (sym number.0) (IsAscii-decimal n number.1)))

pub returns-in_default-clause-value : goal.returns-in_default-clause-value
returns-in_default-clause-value c =
    sym (number_none c.args.text.now (λ n number.
    c.in_default.ensures.cases.0 (IsUtf8-from_ascii c.args.text.now (subst IsAscii (sym number.0) (IsAscii-decimal n number.1)))))

pub returns-in_default-parse-clause-number : goal.returns-in_default-parse-clause-number
returns-in_default-parse-clause-number c = λ n number.
    c.in_default-parse.not-Ok n (parse-decimal 64 n c.in-Ok.digits.now c.parse.result number.1 number.1 (c.in-Ok.ensures.cases.0 ∙ number.0) c.parse.ensures.value.0)

pub returns-in_default-parse-clause-value : goal.returns-in_default-parse-clause-value
returns-in_default-parse-clause-value c =
    sym (number_none c.args.text.now (λ n number.
    c.in_default-parse.not-Ok n (parse-decimal 64 n c.in-Ok.digits.now c.parse.result number.1 number.1 (c.in-Ok.ensures.cases.0 ∙ number.0) c.parse.ensures.value.0)))

pub returns-then-eq-clause-number : goal.returns-then-eq-clause-number
returns-then-eq-clause-number c =
    let same = slice_eq-Decides Decides-eqb c.as_bytes.result.now c.args.text.now c.eq.result c.eq.ensures in
    (sym (same.0 c.if-eq.true) ∙ c.as_bytes.ensures.value ∙ c.format.ensures.text, omega arith)

pub returns-then-eq-clause-value : goal.returns-then-eq-clause-value
returns-then-eq-clause-value c =
    let same = slice_eq-Decides Decides-eqb c.as_bytes.result.now c.args.text.now c.eq.result c.eq.ensures in
    sym (number_some c.args.text.now c.in-Ok-parse.number (sym (same.0 c.if-eq.true) ∙ c.as_bytes.ensures.value ∙ c.format.ensures.text, omega arith))

pub returns-else-eq-clause-number : goal.returns-else-eq-clause-number
returns-else-eq-clause-number c = λ n number.
    let same = slice_eq-Decides Decides-eqb c.as_bytes.result.now c.args.text.now c.eq.result c.eq.ensures in
    let read = parse-decimal 64 n c.in-Ok.digits.now c.parse.result number.1 number.1 (c.in-Ok.ensures.cases.0 ∙ number.0) c.parse.ensures.value.0 in
    let is : c.in-Ok-parse.number ≡ n = cc in
    let equal : c.eq.result ≡ true = same.1 (c.as_bytes.ensures.value ∙ c.format.ensures.text ∙ ap decimal is ∙ sym number.0) in
    absurd (cc)

pub returns-else-eq-clause-value : goal.returns-else-eq-clause-value
returns-else-eq-clause-value c =
    sym (number_none c.args.text.now (λ n number.
    let same = slice_eq-Decides Decides-eqb c.as_bytes.result.now c.args.text.now c.eq.result c.eq.ensures in
    let read = parse-decimal 64 n c.in-Ok.digits.now c.parse.result number.1 number.1 (c.in-Ok.ensures.cases.0 ∙ number.0) c.parse.ensures.value.0 in
    let is : c.in-Ok-parse.number ≡ n = cc in
    let equal : c.eq.result ≡ true = same.1 (c.as_bytes.ensures.value ∙ c.format.ensures.text ∙ ap decimal is ∙ sym number.0) in
    absurd (cc)))
