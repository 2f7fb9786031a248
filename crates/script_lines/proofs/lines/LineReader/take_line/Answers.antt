use Rattle.std.proofs.Common.{◌≡◌, ℕ, ◌+◌, ◌-◌, ◌≤◌, List, length, take, drop, refl, sym, ap, ◌∙◌, arith}
use Rattle.std.proofs.lemmas.List.{length-take, take-take}
use Rattle.script_lines.specs.Lines.{Reading}
use Rattle.script_lines.proofs.LineLemmas.{drop-pending}
use Rattle.script_lines.proofs.lines.LineReader.take_line.Goals as goal

-- the first bytes of some bytes of a buffer
first : (start end text : ℕ) (buffer pending : List ℕ) → take (end - start) (drop start buffer) ≡ pending → text ≤ length pending
    → take (start + text - start) (drop start buffer) ≡ take text pending
first start end text buffer pending is h =
    let fits : text ≤ end - start = omega (arith, ap length is, length-take (end - start) (drop start buffer)) in
    let width : start + text - start ≡ text = omega arith in
    ap (λ (w : ℕ). take w (drop start buffer)) width
    ∙ sym (take-take text (end - start) (drop start buffer) fits)
    ∙ ap (take text) is

pub returns : goal.returns
returns c =
    let inside = c.self.inside in
    let is = ap (λ (r : Reading). r.pending) c.self.view_is in
    let number = ap (λ (r : Reading). r.number) c.self.view_is in
    let end = ap (λ (r : Reading). r.end) c.self.view_is in
    record {
      line = first inside.start inside.end c.args.text inside.buffer.items c.args.self.now.pending is (omega arith);
      number = ap (λ (n : ℕ). n + 1) number;
      end = omega (arith, end);
      pending = drop-pending inside.start (c.args.text + c.args.newline) inside.end inside.buffer.items inside.buffer.items c.args.self.now.pending refl is c.requires.within (omega arith);
      at_end = ap (λ (r : Reading). r.at_end) c.self.view_is;
    }
