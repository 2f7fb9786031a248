-- What it says that no source is refused.
use Rattle.std.proofs.Common.{◌≡◌, ◌≢◌, ◌∙◌, ℕ, zero, suc, ◌+◌, ◌-◌, ◌*◌, ◌/◌, ◌^◌, ◌%◌, ◌<◌, ◌≤◌, ◌==◌, Bool, true, false, cond, not, nat_lt, ◌||◌, ◌&&◌, List}
use Rattle.std.proofs.Common.{[], ◌∷◌, ◌++◌, length, replicate, take, Option, Some, None, Result, Ok, Err, slice_get, refl, sym, ap, subst, arith}
use Rattle.std.proofs.lemmas.Bool.Decides.{nat_tests}
use Rattle.std.proofs.lemmas.List.{drop-replicate, take-replicate, length-replicate, take_all}
use Rattle.std.proofs.lemmas.Option.{slice_get_within}
use Rattle.std.proofs.Math.Nat.{mod-eq_of_lt}
use Rattle.std.proofs.lemmas.Nat.{pow_pos}
use Rattle.base_model.specs.Bytes.{part}
use Rattle.apei_tables.specs.declared.structure.Gas.{Gas}
use Rattle.apei_tables.specs.declared.registers.Place.TheVariants.{Memory}
use Rattle.apei_tables.specs.declared.registers.Register.{Register}
use Rattle.apei_tables.specs.declared.registers.BadRegister.{BadRegister}
use Rattle.apei_tables.specs.declared.registers.BadRegister.TheVariants.{Space, Access, Bits}
use Rattle.apei_tables.specs.declared.widths.Width.{Width}
use Rattle.apei_tables.specs.declared.widths.Width.TheVariants.{B8, B16, B32, B64}
use Rattle.apei_tables.specs.Access.{bits}
use Rattle.apei_tables.specs.Check.{checked, register_of}
use Rattle.apei_space.specs.declared.windows.Window.{Window}
use Rattle.apei_space.specs.Windows.{AreApart, total}
use Rattle.apei_space.specs.RamState.{RamState, FillsWindows}
use Rattle.apei_space.specs.Mapped.{IsMapped, AreMapped}
use Rattle.apei_tables.specs.declared.registers.Place.{Place}
use Rattle.apei_space.proofs.Placed.{placed, placed_fits}
use Rattle.hest_sources.specs.declared.sources.Ghes.{Ghes}
use Rattle.hest_sources.specs.declared.sources.Ack.{Ack}
use Rattle.hest_sources.specs.declared.sources.HestSource.{HestSource}
use Rattle.ghes_ack.specs.Machine.{zeros, started}
use Rattle.ghes_ack.specs.Maps.{bytes_at}
use Rattle.ghes_ack.proofs.PlacedLemmas.{bytes_placed}
use Rattle.ghes_hub.specs.declared.errors.HubError.{HubError}
use Rattle.ghes_hub.specs.declared.errors.HubError.TheVariants.{BlockLen, Status, Ack as BadAck, Clash}
use Rattle.ghes_hub.specs.declared.layouts.Layout.{Layout}
use Rattle.ghes_hub.specs.Layouts.{layout_kind, layout_windows, HasLayout, AreLaidOut, layout_window, AreBegun}
use Rattle.ghes_hub.specs.declared.source.Source.{Source}
use Rattle.ghes_hub.specs.Opens.{IsReady}
use Rattle.ghes_hub.specs.OneSource.{SourceStands}
use Rattle.ghes_hub.specs.Joins.{AreFree}
use Rattle.ghes_hub.specs.Refusals.{generics, is_status, has_ack, layout_of, layouts_from, clashes, source_refusal, sources_refusal, all_windows}
use Rattle.ghes_hub.proofs.OpenLemmas.{HaveBytes, free_is, clashes-append}
use Rattle.ghes_hub.proofs.ReadyLemmas.{Covers, plain_has, acknowledged_has, free_apart}

-- the source's own refusal, or one for a clash, or one of those behind it
abbrev first_refusal : Bool → HubError → Option HubError → Option HubError → Option HubError
first_refusal clash e later None = cond clash (Some e) later
first_refusal clash e later (Some why) = Some why

none_refused : (own : Option HubError) (clash : Bool) (e : HubError) (later : Option HubError) → first_refusal clash e later own ≡ None → (own ≡ None) × (clash ≡ false) × (later ≡ None)
none_refused None false e later is = (refl, refl, is)
none_refused None true e later is = absurd cc
none_refused (Some why) clash e later is = absurd cc

tests_none : (a b c : Bool) (x y z : HubError) → cond {A = Option HubError} a (Some x)
    (cond {A = Option HubError} b (Some y) (cond {A = Option HubError} c (Some z) None)) ≡ None → (a ≡ false) × (b ≡ false) × (c ≡ false)
tests_none false false false x y z e = (refl, refl, refl)
tests_none false false true x y z e = absurd cc
tests_none false true c x y z e = absurd cc
tests_none true b c x y z e = absurd cc

-- source number i with another acknowledgement
abbrev layout_by : ℕ → Ghes → Option Ack → Layout
layout_by i source ack = layout_of i (record source { ack = ack })

pub record Checked (source : Ghes) : Type 0 where
  pub low : 20 ≤ source.block_len
  pub high : source.block_len ≤ 4096
  pub ack : has_ack source.ack ≡ true

not_false : (b : Bool) → not b ≡ false → b ≡ true
not_false true e = refl
not_false false e = absurd cc

either_false : (a b : Bool) → (a || b) ≡ false → (a ≡ false) × (b ≡ false)
either_false false b e = (refl, e)
either_false true b e = absurd cc

pub checked_is : (i : ℕ) (source : Ghes) → source_refusal i source ≡ None → Checked source
checked_is i source e =
    let t = tests_none (nat_lt source.block_len 20 || nat_lt 4096 source.block_len) (not (is_status (checked source.status))) (not (has_ack source.ack))
    (BlockLen i source.block_len) (Status i) (BadAck i) e in
    let l = either_false (nat_lt source.block_len 20) (nat_lt 4096 source.block_len) t.0 in
    let l0 = l.0 in
    let l1 = l.1 in
    record { low = grind (arith, nat_tests); high = grind (arith, nat_tests); ack = not_false (has_ack source.ack) t.2 }

width_some : (w : Width) → 0 < bits w / 8
width_some B8 = omega arith
width_some B16 = omega arith
width_some B32 = omega arith
width_some B64 = omega arith

width_few : (w : Width) → bits w / 8 ≤ 8
width_few B8 = omega arith
width_few B16 = omega arith
width_few B32 = omega arith
width_few B64 = omega arith

have_bytes : (i : ℕ) (source : Ghes) (ack : Option Ack) → 20 ≤ source.block_len → HaveBytes (layout_windows (layout_by i source ack))
have_bytes i source None low = (omega arith, (omega (arith, low), tt))
have_bytes i source (Some ack) low = (omega arith, (width_some (register_of ack.register).access, (omega (arith, low), tt)))

few_bytes : (i : ℕ) (source : Ghes) (ack : Option Ack) → source.block_len ≤ 4096 → total (layout_windows (layout_by i source ack)) ≤ 4112
few_bytes i source None high = omega (arith, high)
few_bytes i source (Some ack) high = let w = width_few (register_of ack.register).access in omega (arith, high, w)

bytes-append : (xs ys : List Window) → HaveBytes xs → HaveBytes ys → HaveBytes (xs ++ ys)
bytes-append [] ys h k = k
bytes-append (x ∷ xs) ys h k = (h.0, bytes-append xs ys h.1 k)

total-append : (xs ys : List Window) → total (xs ++ ys) ≡ total xs + total ys
total-append [] ys = omega arith
total-append (x ∷ xs) ys = let r = total-append xs ys in omega (arith, r)

pub record Sound (earlier : List Window) (i : ℕ) (sources : List Ghes) : Type 0 where
  pub clash : clashes earlier (all_windows (layouts_from i sources)) ≡ false
  pub bytes : HaveBytes (all_windows (layouts_from i sources))
  pub few : total (all_windows (layouts_from i sources)) ≤ 4112 * length sources
  pub each : (k : ℕ) (layout : Layout) → slice_get (layouts_from i sources) k ≡ Some layout → (source : Ghes) × (slice_get sources k ≡ Some source) ×
      (layout ≡ layout_of (i + k) source) × Checked source

pub sound : (earlier : List Window) (i : ℕ) (sources : List Ghes) → sources_refusal earlier i sources ≡ None → Sound earlier i sources
sound earlier i [] none = record { clash = refl; bytes = tt; few = omega arith; each = λ k layout is. absurd cc }
sound earlier i (source ∷ sources) none =
    let no = none_refused (source_refusal i source) (clashes earlier (layout_windows (layout_of i source))) (Clash i)
    (sources_refusal (earlier ++ layout_windows (layout_of i source)) (i + 1) sources) none in
    let here = checked_is i source no.0 in
    let rest = sound (earlier ++ layout_windows (layout_of i source)) (i + 1) sources no.2 in
    record {
      clash = clashes-append earlier (layout_windows (layout_of i source)) (all_windows (layouts_from (i + 1) sources)) no.1 rest.clash;
      bytes = bytes-append (layout_windows (layout_of i source)) (all_windows (layouts_from (i + 1) sources)) (have_bytes i source source.ack here.low) rest.bytes;
      few = let a = total-append (layout_windows (layout_of i source)) (all_windows (layouts_from (i + 1) sources)) in let b =
          few_bytes i source source.ack here.high in let c = rest.few in omega (arith, a, b, c);
      each = λ k layout is. at k layout is here rest;
    } where
      at : (k : ℕ) (layout : Layout) → slice_get (layouts_from i (source ∷ sources)) k ≡ Some layout → Checked source →
          Sound (earlier ++ layout_windows (layout_of i source)) (i + 1) sources → (s : Ghes) × (slice_get (source ∷ sources) k ≡ Some s) ×
          (layout ≡ layout_of (i + k) s) × Checked s
      at zero layout is here rest = (
        source,
        refl,
        (let e : Some (layout_of i source) ≡ Some layout = is in let f : layout_of i source ≡ layout = cc in
            sym f ∙ ap (λ (n : ℕ). layout_of n source) (omega arith)),
        here,
      )
      at (suc k) layout is here rest = let r = rest.each k layout is in (r.0, r.1, r.2 ∙ ap (λ (n : ℕ). layout_of n r.0) (omega arith), r.3)

-- the acknowledge bits
register_is : (gas : Gas) (register : Register) → checked gas ≡ Ok register → register ≡ register_of gas
register_is gas register e = go (nat_lt 1 gas.space) (nat_lt 4 gas.access) (gas.width == 0 || nat_lt 64 (gas.offset + gas.width)) e where
  go : (a b c : Bool) → cond {A = Result Register BadRegister} a (Err (Space gas.space)) (cond {A = Result Register BadRegister} b (Err (Access gas.access))
      (cond {A = Result Register BadRegister} c (Err (Bits gas.offset gas.width)) (Ok (register_of gas)))) ≡ Ok register → register ≡ register_of gas
  go false false false e = cc
  go false false true e = absurd cc
  go false true c e = absurd cc
  go true b c e = absurd cc

both_true : (a b : Bool) → (a && b) ≡ true → (a ≡ true) × (b ≡ true)
both_true true b e = (refl, e)
both_true false b e = absurd cc

width_most : (w : Width) → 2 ^ bits w ≤ 2 ^ 64
width_most B8 = omega arith
width_most B16 = omega arith
width_most B32 = omega arith
width_most B64 = omega arith

ack_bits : (gas : Gas) (r : Result Register BadRegister) (write : ℕ) → checked gas ≡ r →
    elim r [ Ok register ↦ nat_lt 0 write && nat_lt (write * 2 ^ register.offset) (2 ^ bits register.access) | Err error ↦ false ] ≡ true →
    (0 < write * 2 ^ (register_of gas).offset % 2 ^ 64) × (write * 2 ^ (register_of gas).offset < 2 ^ bits (register_of gas).access)
ack_bits gas (Err error) write is e = absurd cc
ack_bits gas (Ok register) write is e =
    let same = register_is gas register is in
    let b = both_true (nat_lt 0 write) (nat_lt (write * 2 ^ register.offset) (2 ^ bits register.access)) e in
    let b0 = b.0 in
    let b1 = b.1 in
    let some : 0 < write = grind (arith, nat_tests) in
    let inside : write * 2 ^ register.offset < 2 ^ bits register.access = grind (arith, nat_tests) in
    let most = width_most register.access in
    let low = pow_pos register.offset in
    let whole : write * 2 ^ register.offset % 2 ^ 64 ≡ write * 2 ^ register.offset = mod-eq_of_lt (omega (arith, inside, most)) in
    subst (λ (r : Register). (0 < write * 2 ^ r.offset % 2 ^ 64) × (write * 2 ^ r.offset < 2 ^ bits r.access)) same (rw whole (product_some write (2 ^ register.offset) some low, inside)) where
      product_some : (a b : ℕ) → 0 < a → 0 < b → 0 < a * b
      product_some (suc a) (suc b) h k = omega arith
      product_some zero b h k = absurd (omega (arith, h))
      product_some a zero h k = absurd (omega (arith, k))

has_layout : (layouts : List Layout) (ram : RamState) (i n : ℕ) (source : Ghes) (ack : Option Ack) → Covers layouts ram → AreFree [] (all_windows layouts) →
    slice_get layouts i ≡ Some (layout_by n source ack) → 20 ≤ source.block_len → has_ack ack ≡ true → HasLayout (layout_by n source ack) ram
has_layout layouts ram i n source None covers free is low good =
    plain_has layouts ram i (record { status = source.status.address; window = record { block = _; len = source.block_len } }) covers free is low
has_layout layouts ram i n source (Some ack) covers free is low good =
    let b = ack_bits ack.register (checked ack.register) ack.write refl good in
    (acknowledged_has layouts ram i _ covers free is low, record { some = b.0; inside = b.1 })

pub laid_out : (sources : List Ghes) (ram : RamState) → sources_refusal [] 0 sources ≡ None → Covers (layouts_from 0 sources) ram → AreLaidOut (layouts_from 0 sources) ram
laid_out sources ram none covers =
    let s = sound [] 0 sources none in
    let free : AreFree [] (all_windows (layouts_from 0 sources)) = free_is [] [] (all_windows (layouts_from 0 sources)) s.bytes s.clash (λ at n off. off) in
    record {
      each = λ i layout is.
          let e = s.each i layout is in
          subst (λ (l : Layout). HasLayout l ram) (sym e.2) (has_layout (layouts_from 0 sources) ram i (0 + i) e.0 e.0.ack covers free (is ∙ ap Some e.2) e.3.low e.3.ack);
      apart = λ i j one other differ is_i is_j. free_apart (layouts_from 0 sources) i j one other differ free is_i is_j;
    }

pub all_free : (sources : List Ghes) → sources_refusal [] 0 sources ≡ None → AreFree [] (all_windows (layouts_from 0 sources))
all_free sources none = let s = sound [] 0 sources none in free_is [] [] (all_windows (layouts_from 0 sources)) s.bytes s.clash (λ at n off. off)

-- a memory of zeros shows zeros
pub record IsBlank (ram : RamState) : Type 0 where
  pub bytes : ram.bytes ≡ replicate (total ram.windows) 0

zero_part : (t b n : ℕ) → b + n ≤ t → part (replicate t 0) b n ≡ zeros n
unfolding part
zero_part t b n le = ap (take n) (drop-replicate b t 0) ∙ take-replicate n (t - b) 0 (omega (arith, le))

blank_window : (ram : RamState) (at n : ℕ) → IsBlank ram → FillsWindows ram → AreMapped ram.windows (Memory at) n → 0 < n → bytes_at ram (Memory at) n ≡ zeros n
blank_window ram at n blank fills mapped some =
    let p = placed ram.windows (Memory at) n fills.apart some mapped in
    let f = placed_fits ram.windows (Memory at) n p.0 fills.apart p.1 in
    bytes_placed ram (Memory at) n p.0 p.1 ∙ ap (λ (bytes : List ℕ). part bytes p.0 n) blank.bytes ∙ zero_part (total ram.windows) p.0 n f

blank_layout : (i : ℕ) (source : Ghes) (ack : Option Ack) (ram : RamState) → IsBlank ram → HasLayout (layout_by i source ack) ram → layout_window (layout_by i source ack) ram ≡ zeros source.block_len
blank_layout i source None ram blank h = let head = h.head in blank_window ram _ source.block_len blank h.fills h.block (omega (arith, head))
blank_layout i source (Some ack) ram blank h = let head = h.0.head in blank_window ram _ source.block_len blank h.0.fills h.0.block (omega (arith, head))

layout_at : (i : ℕ) (sources : List Ghes) (k : ℕ) (source : Ghes) → slice_get sources k ≡ Some source → slice_get (layouts_from i sources) k ≡ Some (layout_of (i + k) source)
layout_at i [] k source is = absurd cc
layout_at i (s ∷ sources) zero source is = let e : s ≡ source = (let both : Some s ≡ Some source = is in cc) in ap (λ (x : Ghes). Some (layout_of i x)) e
    ∙ ap (λ (n : ℕ). Some (layout_of n source)) (omega arith)
layout_at i (s ∷ sources) (suc k) source is = layout_at (i + 1) sources k source is ∙ ap (λ (n : ℕ). Some (layout_of n source)) (omega arith)

layouts_long : (i : ℕ) (sources : List Ghes) → length (layouts_from i sources) ≡ length sources
layouts_long i [] = refl
layouts_long i (s ∷ sources) = let r = layouts_long (i + 1) sources in omega (arith, r)

some_post : (list : List Source) (i : ℕ) → i < length list → (p : Source) × (slice_get list i ≡ Some p)
some_post [] i within = absurd (omega (arith, within))
some_post (x ∷ xs) zero within = (x, refl)
some_post (x ∷ xs) (suc i) within = some_post xs i (omega (arith, within))

pub is_ready : (table : List HestSource) (first ram : RamState) (list : List Source) (layouts : List Layout) → layouts ≡ layouts_from 0 (generics table) →
    sources_refusal [] 0 (generics table) ≡ None → length (generics table) ≢ 0 → length (generics table) ≤ 16 →
    IsBlank first → AreLaidOut (layouts_from 0 (generics table)) first → length list ≡ length layouts → AreBegun layouts first ram list → IsReady table (record { ram = ram; list = list })
is_ready table first ram list layouts are none some few blank laid count begun =
    let gens : List Ghes = generics table in
    let n = layouts_long 0 gens in
    let m = ap length are in
    record {
      count = count ∙ m ∙ n;
      some = omega (arith, count, m, n, some);
      few = omega (arith, count, m, n, few);
      layouts = begun.so_far ∙ ap (λ (k : ℕ). take k layouts) count ∙ take_all (length layouts) layouts (omega arith) ∙ are;
      stands = λ i source is.
          let here : slice_get (layouts_from 0 gens) i ≡ Some (layout_of i source) = layout_at 0 gens i source is ∙ ap (λ (k : ℕ). Some (layout_of k source)) (omega arith) in
          let within = slice_get_within gens i source is in
          let handover = some_post list i (omega (arith, count, m, n, within)) in
          let b = begun.begun i handover.0 handover.1 in
          let same : b.layout ≡ layout_of i source = (let both = sym b.is ∙ ap (λ (ls : List Layout). slice_get ls i) are ∙ here in cc) in
          let bytes : layout_window b.layout first ≡ zeros source.block_len = ap (λ (l : Layout). layout_window l first) same ∙ blank_layout i source source.ack
          first blank (laid.each i (layout_of i source) here) in
          record {
            handover = handover.0;
            is = handover.1;
            kind_is = b.kind ∙ ap layout_kind same;
            stands = subst (λ (w : List ℕ). SourceStands handover.0 ram (started w)) bytes b.stands;
          };
    }

pub covers_is : (layouts : List Layout) (ram : RamState) (windows ranges : List Window) (n : ℕ) →
    ram ≡ record { windows = windows; bytes = replicate (total windows) 0; waited = 0 } → AreApart windows → ranges ≡ all_windows layouts →
    ((at : Place) → IsMapped ranges at → IsMapped windows at) → Covers layouts ram
covers_is layouts ram windows ranges n is apart are mapped = subst (Covers layouts) (sym is) (record {
  fills = record { apart = apart; as_long = sym (length-replicate (total windows) 0) };
  mapped = λ at h. mapped at (subst (λ (ws : List Window). IsMapped ws at) (sym are) h);
})

pub blank_is : (ram : RamState) (windows : List Window) → ram ≡ record { windows = windows; bytes = replicate (total windows) 0; waited = 0 } → IsBlank ram
blank_is ram windows is = subst IsBlank (sym is) (record { bytes = refl })
