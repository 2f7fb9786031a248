use Rattle.std.proofs.Common.{ℕ, ◌+◌, ◌-◌, ◌^◌, ◌∙◌, min, refl, ap, inl}
use Rattle.apei_c.specs.MemorySizes.{device_size}
use Rattle.apei_c.proofs.memory.tell_memory.Goals as goal

pub returns : goal.returns
returns c = inl (
  refl,
  (
    c.in-Some.geometry,
    c.in-Some.ensures.some,
    c.saturating_add.ensures ∙ ap (λ (n : ℕ). min (n + c.blocks_size.result) (2 ^ 64 - 1)) c.device_size.ensures ∙ ap (λ (n : ℕ). min (device_size + n) (2 ^ 64 - 1)) c.blocks_size.ensures.value,
  ),
)
