use Rattle.std.proofs.Common.{◌∙◌, ℕ, List, ◌++◌, ap, codes, string_bytes}
use Rattle.apei_look.specs.Frames.{bytes_text}
use Rattle.apei_look.proofs.TextLemmas.{three_texts}
use Rattle.apei_look.proofs.json_records.add_stamp.Goals as goal

pub returns : goal.returns
returns c =
    let label : List ℕ = codes ",\"time\":null,\"precise\":false,\"time_bytes\":\"" in
    let bytes : List ℕ = bytes_text c.args.stamp in
    c.in_ok-push_str-2.ensures.bytes
    ∙ ap (λ (t : List ℕ). t ++ codes "\"") (c.in_ok-add_bytes.ensures ∙ ap (λ (t : List ℕ). t ++ bytes) c.in_ok-push_str.ensures.bytes)
    ∙ three_texts (string_bytes c.args.out.now) label bytes (codes "\"")
