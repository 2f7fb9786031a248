use Rattle.std.proofs.Common.{◌≡◌, ◌∙◌, List, length, slice_get, ap, sym, subst, ◌<◌}
use Rattle.erst_entries.specs.declared.entries.Entry.{Entry}
use Rattle.erst_entries.specs.Programs.{Listed, entries_of}
use Rattle.erst_entries.proofs.Listing.{entries_of-all, slice_get-there}
use Rattle.erst_entries.proofs.programs.Program.entry.Goals as goal

pub returns-then-self : goal.returns-then-self
returns-then-self c =
    let is : entries_of c.self.inside.action c.self.inside.span.now ≡ c.args.self.now.entries = ap (λ (l : Listed). l.entries) c.self.view_is in
    let counted : length (entries_of c.self.inside.action c.self.inside.span.now) ≡ c.self.inside.len = c.self.invariant in
    let all : entries_of c.self.inside.action c.self.inside.span.now ≡ c.self.inside.span.now = entries_of-all c.self.inside.action c.self.inside.span.now (counted ∙ c.if-self.true) in
    let same : c.args.self.now.entries ≡ c.self.inside.span.now = sym is ∙ all in
    let within : c.args.index < length c.self.inside.span.now = subst (λ (xs : List Entry). c.args.index < length xs) same c.requires in
    ap (λ (xs : List Entry). slice_get xs c.args.index) same ∙ slice_get-there c.self.inside.span.now c.args.index _ within
