use Rattle.std.proofs.Common.{ℕ, ◌+◌, ◌≤◌, ◌∙◌, List, length, replicate, sym, ap, subst}
use Rattle.std.proofs.lemmas.List.{with_items_is}
use Rattle.base_model.specs.Bytes.{put_at}
use Rattle.erst_port.specs.Contents.{bytes_of, IsAsked}
use Rattle.erst_port.specs.declared.content.Content.{Content}
use Rattle.erst_port.proofs.Puts.{rest_stays}
use Rattle.erst_port.proofs.content.Content.put.Goals as goal

pub returns-in-Program-clause-rest : goal.returns-in-Program-clause-rest
returns-in-Program-clause-rest c =
    let within = subst (λ (content : Content). c.args.at + length (bytes_of content) ≤ length c.args.image.now.items) c.in-Program.is c.requires.within in
    let put = with_items_is c.args.image.now c.program.new.image (c.program.auto.image ∙ c.deref_mut.ensures.len)
    ∙ c.program.ensures.bytes ∙ ap (λ (old : List ℕ). put_at old c.args.at c.in-Program.bytes.now) c.deref_mut.ensures.value in
    rw c.in-Program.is (rest_stays c.args.image.now.items _ c.args.at c.in-Program.bytes.now within put)

pub returns-in-Erase-clause-rest : goal.returns-in-Erase-clause-rest
returns-in-Erase-clause-rest c =
    let len = c.in-Erase.field-0 in
    let asked = subst (λ (content : Content). IsAsked c.args.sector c.args.image.now.items c.args.at content) c.in-Erase.is c.requires.asked in
    let within = subst (λ (content : Content). c.args.at + length (bytes_of content) ≤ length c.args.image.now.items) c.in-Erase.is c.requires.within in
    let put = with_items_is c.args.image.now c.erase.new.image (c.erase.auto.image ∙ c.deref_mut-in-Erase.ensures.len)
    ∙ c.erase.ensures.bytes ∙ ap (λ (n : ℕ). put_at c.deref_mut-in-Erase.result.now c.args.at (replicate n 0xFF)) (sym asked.1)
    ∙ ap (λ (old : List ℕ). put_at old c.args.at (replicate len 0xFF)) c.deref_mut-in-Erase.ensures.value in
    rw c.in-Erase.is (rest_stays c.args.image.now.items _ c.args.at (replicate len 0xFF) within put)
