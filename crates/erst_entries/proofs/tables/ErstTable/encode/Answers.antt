use Rattle.std.proofs.Common.{◌≡◌, ◌∙◌, ◌++◌, ℕ, List, ap}
use Rattle.erst_entries.specs.declared.entries.Entry.{Entry}
use Rattle.erst_entries.specs.Layout.{Erst, spelling, front_spelling}
use Rattle.erst_entries.proofs.Terms.{entries_spelling}
use Rattle.erst_entries.proofs.tables.ErstTable.encode.Goals as goal

pub returns : goal.returns
unfolding spelling
returns c =
    let entries : c.deref.result.now ≡ c.args.self.now.entries = c.deref.ensures.value ∙ ap (λ (e : Erst). e.entries) c.self.view_is in
    c.in_ok-spell_entries.ensures
    ∙ ap (λ (xs : List ℕ). xs ++ entries_spelling c.deref.result.now) (c.in_ok-extend_from_slice.ensures.items ∙ ap (λ (xs : List ℕ). xs ++ c.front.result)
    c.in_ok-bytes.ensures.items ∙ c.front.ensures.value)
    ∙ ap (λ (es : List Entry). front_spelling c.args.self.now ++ entries_spelling es) entries
