-- Document 01, 'The table': 'Table check: yes exactly when both arrays are the table that build would write, whoever filled them.' Its tests, row by
-- row and arc by arc, over rows as the parts of both arrays that they are (xs of ids, ys of distances). A test passes where something is wrong, but
-- for `row_holds`, `comes_over`, `is_placed` and what they are made of. That the whole of them is `same_table` is proofs/CheckTable.antt's theorem.
-- Assumes nothing.
use Rattle.std.specs.Prelude.{ℕ, ◌+◌, ◌-◌, ◌*◌, ◌≤◌, ◌≡◌, Bool, cond, not, ◌&&◌, ◌||◌, List, eqb, ltb, leb, length, get_or}
use Rattle.network.specs.Network.{Network, node_count, neighbours_of, weights_of}
use Rattle.network.specs.Accepted.{Accepted}
use Rattle.network.specs.Distance.{NONE}
use Rattle.network.specs.Count.{any, count}
use Rattle.network.specs.Points.{lockers, marked}
use Rattle.network.specs.Nearest.{key}
use Rattle.network.specs.Rows.{row_entries, Sized}
use Rattle.rows.specs.Flat.{place}

-- place j of a row is p at distance d; a place of it is
unfoldable pub is_entry : List ℕ → List ℕ → ℕ → ℕ → ℕ → Bool
is_entry xs ys p d j = eqb (get_or xs j 0) p && eqb (get_or ys j 0) d

unfoldable pub row_holds : List ℕ → List ℕ → ℕ → ℕ → Bool
row_holds xs ys p d = any (is_entry xs ys p d) (length xs)

-- place j of a row is p, no farther than d; a place of it is
unfoldable pub is_within : List ℕ → List ℕ → ℕ → ℕ → ℕ → Bool
is_within xs ys p d j = eqb (get_or xs j 0) p && leb (get_or ys j 0) d

unfoldable pub has_within : List ℕ → List ℕ → ℕ → ℕ → Bool
has_within xs ys p d = any (is_within xs ys p d) (length xs)

-- a row is full, and its last entry does not come behind p at distance d
unfoldable pub ends_by : List ℕ → List ℕ → ℕ → ℕ → Bool
ends_by xs ys p d = not (eqb (get_or xs (length xs - 1) 0) NONE) && not (ltb (key (p, d)) (key (place xs ys (length xs - 1))))

-- p at distance d asks for no place in a row
unfoldable pub is_placed : List ℕ → List ℕ → ℕ → ℕ → Bool
is_placed xs ys p d = has_within xs ys p d || ends_by xs ys p d

-- how many of the first k ids of a row are p
unfoldable pub is_id : List ℕ → ℕ → ℕ → Bool
is_id xs p j = eqb (get_or xs j 0) p

unfoldable pub among : List ℕ → ℕ → ℕ → ℕ
among xs p k = count (is_id xs p) k

-- the node of the place before j has all its lockers before j
unfoldable pub whole_before : List ℕ → List ℕ → ℕ → Bool
whole_before P xs j = leb (lockers P (get_or xs (j - 1) 0)) (among xs (get_or xs (j - 1) 0) j)

-- place j repeats the place before it; or it begins a node: the one before has all its lockers, and comes before it
unfoldable pub repeats : List ℕ → List ℕ → ℕ → Bool
repeats xs ys j = eqb (get_or xs (j - 1) 0) (get_or xs j 0) && eqb (get_or ys (j - 1) 0) (get_or ys j 0)

unfoldable pub begins : List ℕ → List ℕ → List ℕ → ℕ → Bool
begins P xs ys j = whole_before P xs j && ltb (key (place xs ys (j - 1))) (key (place xs ys j))

-- place j follows a place that is no padding: its node is new and begins, or it repeats
unfoldable pub follows : List ℕ → List ℕ → List ℕ → ℕ → Bool
follows P xs ys j = not (eqb (get_or xs (j - 1) 0) NONE) && cond (eqb (among xs (get_or xs j 0) j) 0) (begins P xs ys j) (repeats xs ys j)

-- 'by distance then node [..]; the rest is NONE in both arrays', a node for each of its lockers: place j is half padding, or padding behind a node
-- that lacks a place; its node has no locker for it, or it does not follow the place before it
unfoldable pub bad_entry : List ℕ → List ℕ → List ℕ → ℕ → Bool
bad_entry P xs ys j = leb (lockers P (get_or xs j 0)) (among xs (get_or xs j 0) j) || (ltb 0 j && not (follows P xs ys j))

unfoldable pub bad_padding : List ℕ → List ℕ → List ℕ → ℕ → Bool
bad_padding P xs ys j = not (eqb (get_or ys j 0) NONE) || (ltb 0 j && not (whole_before P xs j))

unfoldable pub bad_place : List ℕ → List ℕ → List ℕ → ℕ → Bool
bad_place P xs ys j = cond (eqb (get_or xs j 0) NONE) (bad_padding P xs ys j) (bad_entry P xs ys j)

unfoldable pub bad_row : List ℕ → List ℕ → List ℕ → Bool
bad_row P xs ys = any (bad_place P xs ys) (length xs)

-- p at distance d comes from the row of c over an arc of weight w; over the arc of i at place j; over some arc of i
unfoldable pub comes_from : ℕ → List ℕ → List ℕ → ℕ → ℕ → ℕ → ℕ → Bool
comes_from K ids dists c w p d = leb w d && row_holds (row_entries K c ids) (row_entries K c dists) p (d - w)

unfoldable pub comes_at : Network → ℕ → List ℕ → List ℕ → ℕ → ℕ → ℕ → ℕ → Bool
comes_at g K ids dists i p d j = comes_from K ids dists (get_or (neighbours_of g i) j 0) (get_or (weights_of g i) j 0) p d

unfoldable pub comes_over : Network → ℕ → List ℕ → List ℕ → ℕ → ℕ → ℕ → Bool
comes_over g K ids dists i p d = any (comes_at g K ids dists i p d) (length (neighbours_of g i))

-- p at distance d is i's own point, or it comes over an arc; place j of row i holds neither that nor padding; some place does
unfoldable pub is_own : List ℕ → ℕ → ℕ → ℕ → Bool
is_own P i p d = eqb p i && eqb d 0 && marked P i

unfoldable pub is_supported : Network → List ℕ → ℕ → List ℕ → List ℕ → ℕ → ℕ → ℕ → Bool
is_supported g P K ids dists i p d = eqb p NONE || is_own P i p d || comes_over g K ids dists i p d

unfoldable pub unsupported_at : Network → List ℕ → ℕ → List ℕ → List ℕ → ℕ → ℕ → Bool
unsupported_at g P K ids dists i j = not (is_supported g P K ids dists i (get_or (row_entries K i ids) j 0) (get_or (row_entries K i dists) j 0))

unfoldable pub unsupported : Network → List ℕ → ℕ → List ℕ → List ℕ → ℕ → Bool
unsupported g P K ids dists i = any (unsupported_at g P K ids dists i) (length (row_entries K i ids))

-- a marked i lacks its own point
unfoldable pub lacks_own : List ℕ → List ℕ → List ℕ → ℕ → Bool
lacks_own P xs ys i = marked P i && not (row_holds xs ys i 0)

-- p at distance d asks for a place in a row; place m of a neighbour's row (us, vs) does, over an arc of weight w; some place does; some place
-- of the row of c does in row i; some place does over the arc of i at place j; over some arc of i
unfoldable pub asks_for : List ℕ → List ℕ → ℕ → ℕ → Bool
asks_for xs ys p d = not (eqb p NONE) && not (is_placed xs ys p d)

unfoldable pub asks_at : List ℕ → List ℕ → List ℕ → List ℕ → ℕ → ℕ → Bool
asks_at xs ys us vs w m = asks_for xs ys (get_or us m 0) (get_or vs m 0 + w)

unfoldable pub asks : List ℕ → List ℕ → List ℕ → List ℕ → ℕ → Bool
asks xs ys us vs w = any (asks_at xs ys us vs w) (length us)

unfoldable pub asks_from : ℕ → List ℕ → List ℕ → ℕ → ℕ → ℕ → Bool
asks_from K ids dists i c w = asks (row_entries K i ids) (row_entries K i dists) (row_entries K c ids) (row_entries K c dists) w

unfoldable pub asks_over : Network → ℕ → List ℕ → List ℕ → ℕ → ℕ → Bool
asks_over g K ids dists i j = asks_from K ids dists i (get_or (neighbours_of g i) j 0) (get_or (weights_of g i) j 0)

unfoldable pub unclosed : Network → ℕ → List ℕ → List ℕ → ℕ → Bool
unclosed g K ids dists i = any (asks_over g K ids dists i) (length (neighbours_of g i))

-- something is wrong with row i; with some row
unfoldable pub bad_node : Network → List ℕ → ℕ → List ℕ → List ℕ → ℕ → Bool
bad_node g P K ids dists i =
    bad_row P (row_entries K i ids) (row_entries K i dists)
    || lacks_own P (row_entries K i ids) (row_entries K i dists) i
    || unsupported g P K ids dists i
    || unclosed g K ids dists i

-- row i lies in both arrays
pub record HasRows (K : ℕ) (ids dists : List ℕ) (i : ℕ) : Type 0 where
  pub in_ids : i * K + K ≤ length ids
  pub in_dists : i * K + K ≤ length dists

-- an accepted network, at least one place to a row, and both arrays n × K long; and a byte for each node
pub record CanRead (g : Network) (K : ℕ) (ids dists : List ℕ) : Type 0 where
  pub accepted : Accepted g
  pub some : 1 ≤ K
  pub sized : Sized g K ids dists

pub record CanCheck (g : Network) (P : List ℕ) (K : ℕ) (ids dists : List ℕ) : Type 0 where
  pub readable : CanRead g K ids dists
  pub points : length P ≡ node_count g
