-- The walk over a table's structures.
use Rattle.std.proofs.Common.{◌≡◌, ℕ, ◌≤◌, List, [], ◌++◌, length, drop, Ok, refl, ap, ◌∙◌, arith, length-append, length-drop}
use Rattle.std.proofs.lemmas.Bool.{eqb-true, eq-eqb, ne_eqb}
use Rattle.std.proofs.lemmas.List.{nil_from_length}
use Rattle.base_model.specs.Bytes.{number_at, AreBytes}
use Rattle.base_model.proofs.BytesLemmas.{AreBytes-drop}
use Rattle.apei_bytes.specs.Walk.{AreItems, item_count}
use Rattle.apei_bytes.proofs.Walks.{GetsOn, IsFaithful, counts as items_counted, counts_again as items_again}
use Rattle.hest_sources.specs.declared.sources.HestSource.{HestSource}
use Rattle.hest_sources.specs.Layout.{IsSource}
use Rattle.hest_sources.specs.Walk.{structure_walk, source_count}
use Rattle.hest_sources.proofs.Terms.{sources_in}
use Rattle.hest_sources.proofs.Lengths.{measured, length_low, source_is, source_again}

pub gets_on : GetsOn structure_walk
gets_on = record {
  empty = refl;
  within = λ index at n rest h.
      let m = measured at n rest h in
      let low = length_low (number_at rest 0 2) at n rest m.by_kind in
      (omega arith, m.fits);
}

pub faithful : IsFaithful structure_walk IsSource (λ rest. rest ≡ [])
faithful = record {
  reads = λ index at n rest each h. source_is at n rest each h;
  ends = λ rest h. nil_from_length rest (eqb-true (length rest) 0 h);
  size_again = λ index at source front rest is. (source_again at source front rest (front ++ rest) is refl).length_is;
  item_again = λ at source front rest is. (source_again at source front rest (front ++ rest) is refl).source_is;
  goes_on = λ at source front rest is.
      let low = (source_again at source front rest (front ++ rest) is refl).low in
      let all = length-append front rest in
      ne_eqb (length (front ++ rest)) 0 (λ z. omega arith);
  ends_again = λ rest is. eq-eqb (length rest) 0 (ap length is);
}

-- these sources stand one after another, from a place on, and nothing behind them
abbrev pub AreSources : ℕ → List HestSource → List ℕ → Type 0
AreSources = AreItems IsSource (λ rest. rest ≡ [])

-- what was counted stands there
pub record Counts (n : ℕ) (table : List ℕ) : Type 0 where
  pub count : n ≡ length (sources_in table)
  pub all : AreSources 40 (sources_in table) (drop 40 table)

pub counts : (table : List ℕ) (n : ℕ) → AreBytes table → source_count table ≡ Ok n → Counts n table
counts table n each h =
    let less = length-drop 40 table in
    let c = items_counted structure_walk IsSource (λ rest. rest ≡ []) (length table) 0 40 n (drop 40 table) gets_on faithful (AreBytes-drop 40 table each) (omega arith) h in
    let count = c.count in
    record { count = omega arith; all = c.are_items }

-- and what stands there is counted and read again
pub record CountsAgain (table : List ℕ) (sources : List HestSource) : Type 0 where
  pub count : source_count table ≡ Ok (length sources)
  pub read : sources_in table ≡ sources

pub counts_again : (table : List ℕ) (sources : List HestSource) → AreSources 40 sources (drop 40 table) → CountsAgain table sources
counts_again table sources are =
    let less = length-drop 40 table in
    let c = items_again structure_walk IsSource (λ rest. rest ≡ []) sources (length table) 0 40 (drop 40 table) gets_on faithful are (omega arith) in
    record { count = c.count ∙ ap (λ (n : ℕ). Ok n) (omega arith); read = c.read }

-- there are as many as were read before, at least
pub count-le : (most index at n : ℕ) (rest : List ℕ) → AreBytes rest → length rest ≤ most → item_count structure_walk most index at rest ≡ Ok n → index ≤ n
count-le most index at n rest each k h =
    let c = items_counted structure_walk IsSource (λ rest. rest ≡ []) most index at n rest gets_on faithful each k h in
    let count = c.count in
    omega arith
