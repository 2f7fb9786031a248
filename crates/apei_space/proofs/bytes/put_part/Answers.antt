use Rattle.std.proofs.Common.{◌≡◌, ℕ, ◌+◌, ◌-◌, ◌++◌, List, length, ap, sym, take, drop, ◌∙◌, arith, append_assoc}
use Rattle.std.proofs.lemmas.List.{drop-drop}
use Rattle.base_model.specs.Bytes.{put_at}
use Rattle.apei_space.proofs.bytes.put_part.Goals as goal

pub returns : goal.returns
unfolding put_at
returns c =
    let old = c.args.bytes.now in
    let at = c.args.at in
    let others = c.args.others.now in
    let n : at + length others - at ≡ length others = omega arith in
    ap (λ (ys : List ℕ). take at old ++ (ys ++ drop (at + length others - at) (drop at old))) c.copy_from_slice.ensures.after
    ∙ ap (λ (k : ℕ). take at old ++ (others ++ drop k (drop at old))) n
    ∙ ap (λ (zs : List ℕ). take at old ++ (others ++ zs)) (drop-drop (length others) at old)
    ∙ sym (append_assoc (take at old) others (drop (at + length others) old))
