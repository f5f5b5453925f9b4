-- The rows of document 01's table laid flat: entry (i, j) of an array is at i * K + j, and the arrays whose rows are the table's are the table's
-- arrays. With the exactness theorem: arrays are the table exactly if their rows have the local properties and padding behind them.
-- Assumes nothing.
use Prim.Native.Nat.{ℕ, zero, suc, ◌+◌, ◌-◌, ◌*◌, ◌≤◌, ◌<◌}
use mathlib.Core.Path.{◌≡◌, refl, sym, ap, ◌∙◌}
use mathlib.Core.Logic.{◌≢◌, ◌↔◌, ◌⊎◌, inl, inr, ⊎_elim}
use mathlib.Core.List.{List, ◌++◌}
use native.Mathlib.Nat.{eq-or-lt_of_le, le_of_suc-le-suc, suc-mul, zero-mul, zero-add}
use native.Mathlib.Decide.{dec_lt}
use native.Mathlib.Omega.{arith}
use lib.ListN.{length, get_or, take, drop, replicate, length-append, length-map, get_or-append, get_or-map}
use lib.Seq.{get_or-append-add, get_or-take, get_or-drop, ext_get_or}
use Rattle.network.specs.Network.{Network, node_count}
use Rattle.network.specs.Accepted.{Accepted}
use Rattle.network.specs.Distance.{NONE}
use Rattle.network.specs.Nearest.{nearest}
use Rattle.network.specs.Rows.{row, rows_below, table_ids, table_distances, Sized, IsTable}
use Rattle.network.proofs.Lends.{row_fits}
use Rattle.network.proofs.Rows.{row_length}
use Rattle.rows.specs.Flat.{place, places, row_at, Flat}
use Rattle.rows.proofs.Flat.{places_length, places_at, flat_iff_exact}

-- two rows have no place in common
pub rows_apart : (c i j K : ℕ) → c ≢ i → j < K → (c * K + j < i * K) ⊎ (i * K + K ≤ c * K + j)
rows_apart c i j K n h =
    elim (dec_lt c i) [
      | yes l ↦ inl (omega (arith, row_fits c i K l))
      | no m ↦ inr (omega (arith, row_fits i c K (omega arith)))
    ]

-- lists of n rows that agree place by place are one list
module _ (K : ℕ) (xs ys : List ℕ) where
  entries_same : (n : ℕ) → ((i j : ℕ) → i < n → j < K → get_or xs (i * K + j) 0 ≡ get_or ys (i * K + j) 0) → (k : ℕ) → k < n * K → get_or xs k 0 ≡ get_or ys k 0
  entries_same zero h k l = absurd (omega (arith, zero-mul K))
  entries_same (suc n) h k l =
      elim (dec_lt k (n * K)) [
        | yes m ↦ entries_same n (λ i j a b. h i j (omega arith) b) k m
        | no m ↦
            let q : n * K + (k - n * K) ≡ k = omega arith in
            rw q at (h n (k - n * K) (omega arith) (omega (arith, suc-mul n K)))
      ]

  rows_same : (n : ℕ) → length xs ≡ n * K → length ys ≡ n * K → ((i j : ℕ) → i < n → j < K → get_or xs (i * K + j) 0 ≡ get_or ys (i * K + j) 0) → xs ≡ ys
  rows_same n p q h = ext_get_or 0 xs ys (p ∙ sym q) (λ k l. entries_same n h k (omega arith))

-- the rows below n, one after the other
module _ (g : Network) (P : List ℕ) (K : ℕ) where
  rows_length : (n : ℕ) → length (rows_below g P K n) ≡ n * K
  unfolding rows_below
  rows_length zero = sym (zero-mul K)
  rows_length (suc n) = simp length-append (omega (arith, rows_length n, row_length g P K n, suc-mul n K))

  rows_at : (n i j : ℕ) (z : ℕ × ℕ) → i < n → j < K → get_or (rows_below g P K n) (i * K + j) z ≡ get_or (row g P K i) j z
  unfolding rows_below
  rows_at zero i j z h l = absurd (omega arith)
  rows_at (suc n) i j z h l =
      ⊎_elim
      (λ (q : i ≡ n).
      let s : i * K + j ≡ length (rows_below g P K n) + j = omega (arith, rows_length n, ap (λ x. x * K) q) in
      ap (λ v. get_or (rows_below g P K n ++ row g P K n) v z) s
      ∙ get_or-append-add (rows_below g P K n) (row g P K n) j z
      ∙ ap (λ v. get_or (row g P K v) j z) (sym q))
      (λ m.
      get_or-append (rows_below g P K n) (row g P K n) z (i * K + j) (omega (arith, rows_length n, row_fits i n K m))
      ∙ rows_at n i j z m l)
      (eq-or-lt_of_le (le_of_suc-le-suc h))

  -- both arrays: their lengths, their entries, and their rows
  pub table_sized : Sized g K (table_ids g P K) (table_distances g P K)
  unfolding table_ids table_distances
  table_sized =
      record {
        all_ids = length-map (rows_below g P K (node_count g)) (λ x. x.0) ∙ rows_length (node_count g);
        all_dists = length-map (rows_below g P K (node_count g)) (λ x. x.1) ∙ rows_length (node_count g);
      }

  module _ (i j : ℕ) (h : i < node_count g) (l : j < K) where
    pub table_id : get_or (table_ids g P K) (i * K + j) 0 ≡ (get_or (row g P K i) j (0, 0)).0
    unfolding table_ids
    table_id =
        get_or-map (λ (x : ℕ × ℕ). x.0) (rows_below g P K (node_count g)) (i * K + j) (0, 0)
        ∙ ap (λ (x : ℕ × ℕ). x.0) (rows_at (node_count g) i j (0, 0) h l)

    pub table_distance : get_or (table_distances g P K) (i * K + j) 0 ≡ (get_or (row g P K i) j (0, 0)).1
    unfolding table_distances
    table_distance =
        get_or-map (λ (x : ℕ × ℕ). x.1) (rows_below g P K (node_count g)) (i * K + j) (0, 0)
        ∙ ap (λ (x : ℕ × ℕ). x.1) (rows_at (node_count g) i j (0, 0) h l)

  pub table_row : (i : ℕ) → i < node_count g → row_at (table_ids g P K) (table_distances g P K) K i ≡ row g P K i
  table_row i h =
      ext_get_or (0, 0) (row_at (table_ids g P K) (table_distances g P K) K i) (row g P K i)
      (places_length (table_ids g P K) (table_distances g P K) (i * K) K ∙ sym (row_length g P K i))
      (λ j s.
      let l : j < K = omega (arith, places_length (table_ids g P K) (table_distances g P K) (i * K) K) in
      places_at (table_ids g P K) (table_distances g P K) (i * K) K j (0, 0) l
      ∙ λ k. (table_id i j h l k, table_distance i j h l k))

-- arrays are the table exactly if their rows are its rows
module _ {g : Network} (P : List ℕ) (K : ℕ) (ids dists : List ℕ) where
  pub table_rows : IsTable g P K ids dists → (i : ℕ) → i < node_count g → row_at ids dists K i ≡ row g P K i
  table_rows t i h = rw (t.same_ids, t.same_dists) (table_row g P K i h)

  pub rows_table : Sized g K ids dists → ((i : ℕ) → i < node_count g → row_at ids dists K i ≡ row g P K i) → IsTable g P K ids dists
  rows_table s e =
      record {
        same_ids =
            rows_same K ids (table_ids g P K) (node_count g) s.all_ids (table_sized g P K).all_ids
            (λ i j h l. ap (λ (x : ℕ × ℕ). x.0) (entry i j h l) ∙ sym (table_id g P K i j h l));
        same_dists =
            rows_same K dists (table_distances g P K) (node_count g) s.all_dists (table_sized g P K).all_dists
            (λ i j h l. ap (λ (x : ℕ × ℕ). x.1) (entry i j h l) ∙ sym (table_distance g P K i j h l));
      }
    where
      entry : (i j : ℕ) → i < node_count g → j < K → place ids dists (i * K + j) ≡ get_or (row g P K i) j (0, 0)
      entry i j h l = sym (places_at ids dists (i * K) K j (0, 0) l) ∙ ap (λ xs. get_or xs j (0, 0)) (e i h)

  pub table_sizes : IsTable g P K ids dists → Sized g K ids dists
  table_sizes t = rw (t.same_ids, t.same_dists) (table_sized g P K)

  -- the exactness theorem over both arrays
  pub flat_iff_table : Accepted g → 1 ≤ K → Sized g K ids dists → Flat g P K ids dists ↔ IsTable g P K ids dists
  flat_iff_table ok k s =
      let e = flat_iff_exact ok P K ids dists k in
      (λ f. rows_table s (e.0 f), λ t. e.1 (table_rows t))

pub pad_at : (n j : ℕ) (x z : ℕ × ℕ) → j < n → get_or (replicate n x) j z ≡ x
pad_at zero j x z s = absurd (omega arith)
pad_at (suc n) zero x z s = refl
pad_at (suc n) (suc j) x z s = pad_at n j x z (omega arith)

-- the places of the table: entry j of row i is entry j of the nearest, or padding behind the last
module _ {g : Network} {P : List ℕ} {K : ℕ} {ids dists : List ℕ} (t : IsTable g P K ids dists) (i j : ℕ) (h : i < node_count g) (l : j < K) where
  pub table_place : place ids dists (i * K + j) ≡ get_or (row g P K i) j (0, 0)
  table_place = sym (places_at ids dists (i * K) K j (0, 0) l) ∙ ap (λ xs. get_or xs j (0, 0)) (table_rows P K ids dists t i h)

  pub table_entry : j < length (nearest g P i NONE K) → place ids dists (i * K + j) ≡ get_or (nearest g P i NONE K) j (0, 0)
  unfolding row
  table_entry m = table_place ∙ get_or-append (nearest g P i NONE K) (replicate (K - length (nearest g P i NONE K)) (NONE, NONE)) (0, 0) j m

  pub table_padding : length (nearest g P i NONE K) ≤ j → place ids dists (i * K + j) ≡ (NONE, NONE)
  unfolding row
  table_padding m =
      let n = length (nearest g P i NONE K) in
      let q : n + (j - n) ≡ j = omega arith in
      table_place
      ∙ ap (λ v. get_or (row g P K i) v (0, 0)) (sym q)
      ∙ get_or-append-add (nearest g P i NONE K) (replicate (K - n) (NONE, NONE)) (j - n) (0, 0)
      ∙ pad_at (K - n) (j - n) (NONE, NONE) (0, 0) (omega arith)

-- a row lent as the parts of both arrays
pub part_places : (ids dists : List ℕ) (at k : ℕ) → places (take k (drop at ids)) (take k (drop at dists)) 0 k ≡ places ids dists at k
part_places ids dists at k =
    ext_get_or (0, 0) (places (take k (drop at ids)) (take k (drop at dists)) 0 k) (places ids dists at k)
    (places_length (take k (drop at ids)) (take k (drop at dists)) 0 k ∙ sym (places_length ids dists at k))
    (λ j s.
    let l : j < k = omega (arith, places_length (take k (drop at ids)) (take k (drop at dists)) 0 k) in
    places_at (take k (drop at ids)) (take k (drop at dists)) 0 k j (0, 0) l
    ∙ ap (place (take k (drop at ids)) (take k (drop at dists))) (zero-add j)
    ∙ (λ m. (entry ids j l m, entry dists j l m))
    ∙ sym (places_at ids dists at k j (0, 0) l))
  where
    entry : (xs : List ℕ) (j : ℕ) → j < k → get_or (take k (drop at xs)) j 0 ≡ get_or xs (at + j) 0
    entry xs j l = get_or-take k (drop at xs) j 0 l ∙ get_or-drop at xs j 0
