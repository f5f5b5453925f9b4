-- A table whose rows are freed of a point and filled again: what the steps of `remove` require and leave. Words of scratch: short flags n | queue. An
-- entry of the queue offers a point to a short row: its distance, and the tag of point and node. Any contents of the table are allowed.
-- Assumes nothing.
use Rattle.std.specs.Prelude.{ℕ, suc, ◌+◌, ◌-◌, ◌*◌, ◌≤◌, ◌<◌, ◌≡◌, ◌≢◌, ◌⊎◌, Bool, true, false, List, Option, IfSome, eqb, length, get_or, set, drop}
use Rattle.network.specs.Network.{Network, Arc, node_count, arc_count, neighbours_of}
use Rattle.network.specs.Accepted.{Accepted}
use Rattle.network.specs.Walk.{Walk}
use Rattle.network.specs.Distance.{NONE, LONGEST, dist}
use Rattle.network.specs.Points.{lockers, marked}
use Rattle.network.specs.Count.{count}
use Rattle.network.specs.Nearest.{key, nearest}
use Rattle.network.specs.Order.{Nearer, before, times}
use Rattle.network.specs.Rows.{pad, row, Sized}
use Rattle.expansion.specs.Queue.{Holds, Queue}
use Rattle.expansion.specs.Area.{Kept, Entered}
use Rattle.table.specs.Room.{arcs_left}
use Rattle.rows.specs.Flat.{row_at}
use Rattle.rows.specs.Take.{take_if}
use Rattle.rows.specs.Check.{among}
use Rattle.table.specs.declared.remove.Candidate.{Candidate}
use Rattle.table.specs.Candidate.{GivesOver, BestOf}
use Rattle.table.specs.Offer.{offer_of, arc_offer}

-- row i lacks the entry that it lost
abbrev pub is_short : List ℕ → ℕ → Bool
is_short xs i = eqb (get_or xs i 0) 1

-- ---- Freeing.
-- a flag for each of n rows, that lie in both arrays
pub record CanFree (xs ids dists : List ℕ) (n K : ℕ) : Type 0 where
  pub few : n ≤ 65535
  pub flags : n ≤ length xs
  pub fits : n * K ≤ length ids
  pub same : length dists ≡ length ids

-- row i has all lockers of x
abbrev pub has_all : List ℕ → List ℕ → ℕ → ℕ → ℕ → ℕ → Bool
has_all ids dists K x all i = eqb (times x (row_at ids dists K i)) all

-- one of x is taken out of the rows below `end` that have all, these are flagged, and they are `changed`
pub record Freed (xs ys ids dists ids' dists' : List ℕ) (K x all end changed : ℕ) : Type 0 where
  pub size : length ys ≡ length xs
  pub ids_size : length ids' ≡ length ids
  pub dists_size : length dists' ≡ length dists
  pub flagged : (i : ℕ) → i < end → has_all ids dists K x all i ≡ true → get_or ys i 0 ≡ 1
  pub others : (i : ℕ) → i < end → has_all ids dists K x all i ≡ false → get_or ys i 0 ≡ get_or xs i 0
  pub rest : (i : ℕ) → end ≤ i → get_or ys i 0 ≡ get_or xs i 0
  pub freed : (i : ℕ) → i < end → row_at ids' dists' K i ≡ take_if (has_all ids dists K x all i) x (row_at ids dists K i)
  pub later : (i : ℕ) → end ≤ i → row_at ids' dists' K i ≡ row_at ids dists K i
  pub counted : changed ≡ count (has_all ids dists K x all) end

-- ---- The first offers.
-- an empty queue behind the flags, with room for an entry for each row
pub record CanSeedShort (g : Network) (P xs ids dists : List ℕ) (K : ℕ) : Type 0 where
  pub accepted : Accepted g
  pub points : length P ≡ node_count g
  pub sized : Sized g K ids dists
  pub queue : Queue (drop (node_count g) xs) 0
  pub room : node_count g + 2 * node_count g ≤ length xs

-- the key is the best candidate of a short row below `end`
pub record SeedOf (g : Network) (P xs ids dists : List ℕ) (K end k : ℕ) : Type 0 where
  pub node : ℕ
  pub low : node < end
  pub short : is_short xs node ≡ true
  pub best : ℕ × ℕ
  pub gives : GivesOver g P ids dists K node (length (neighbours_of g node)) best
  pub is : k ≡ offer_of node best.0 best.1

-- a short row below `end` has its best candidate in the queue, where it has one
pub record HasSeed (g : Network) (P ids dists : List ℕ) (K i : ℕ) (Held : ℕ → Type 0) : Type 0 where
  pub best : Option Candidate
  pub is_best : BestOf g P ids dists K i (length (neighbours_of g i)) best
  pub held : IfSome best (λ c. Held (offer_of i c.point c.distance))

-- the short rows below `end` have their best candidates in the queue, and nothing else is there
pub record ShortSeeded (g : Network) (P xs ys ids dists : List ℕ) (K end len : ℕ) : Type 0 where
  pub frame : Kept xs ys (node_count g)
  pub few : len ≤ end
  pub queue : Queue (drop (node_count g) ys) len
  pub only : (k : ℕ) → Holds (drop (node_count g) ys) len k → SeedOf g P xs ids dists K end k
  pub all : (i : ℕ) → i < end → is_short xs i ≡ true → HasSeed g P ids dists K i (Holds (drop (node_count g) ys) len)

-- ---- Taking an offer.
-- (p, d) is put at the last place of a row that lacks a locker of p; else the row stays as it is. r says which
pub record PutLast (P ids dists ids' dists' : List ℕ) (p d : ℕ) (r : Bool) : Type 0 where
  pub taken : r ≡ true → (among ids p (length ids) < lockers P p) × (ids' ≡ set ids (length ids - 1) p) × (dists' ≡ set dists (length ids - 1) d)
  pub refused : r ≡ false → (lockers P p ≤ among ids p (length ids)) × (ids' ≡ ids) × (dists' ≡ dists)

-- row i has a flag, and lies in both arrays
pub record CanTakeIn (xs ids dists : List ℕ) (K i : ℕ) : Type 0 where
  pub flag : i < length xs
  pub some : 1 ≤ K
  pub fits : i * K + K ≤ length ids
  pub same : length dists ≡ length ids

-- short row i takes (p, d) at its last place and is short no more; or it stays as it is, for one of three reasons
pub record ShortTakes (P xs ys ids dists ids' dists' : List ℕ) (K i p d : ℕ) : Type 0 where
  pub short : is_short xs i ≡ true
  pub low : d ≤ LONGEST
  pub lacks : times p (row_at ids dists K i) < lockers P p
  pub words : ys ≡ set xs i 0
  pub row : row_at ids' dists' K i ≡ set (row_at ids dists K i) (K - 1) (p, d)

pub record ShortRefuses (P xs ys ids dists ids' dists' : List ℕ) (K i p d : ℕ) : Type 0 where
  pub words : ys ≡ xs
  pub row : row_at ids' dists' K i ≡ row_at ids dists K i
  pub why : (is_short xs i ≡ false) ⊎ ((LONGEST < d) ⊎ (lockers P p ≤ times p (row_at ids dists K i)))

-- one of both, by r; the other rows are as they were
pub record TakenIn (P xs ys ids dists ids' dists' : List ℕ) (K i p d : ℕ) (r : Bool) : Type 0 where
  pub size : length ys ≡ length xs
  pub ids_size : length ids' ≡ length ids
  pub dists_size : length dists' ≡ length dists
  pub others : (c : ℕ) → c ≢ i → row_at ids' dists' K c ≡ row_at ids dists K c
  pub taken : r ≡ true → ShortTakes P xs ys ids dists ids' dists' K i p d
  pub refused : r ≡ false → ShortRefuses P xs ys ids dists ids' dists' K i p d

-- ---- Offering it on.
-- the arcs of v before place `end` have each put in an entry, or lead to a row that is not short
abbrev pub OfferedShort : Network → List ℕ → List ℕ → ℕ → ℕ → ℕ → ℕ → ℕ → ℕ → Type 0
OfferedShort g xs ys len more v p d end =
    Entered (node_count g) xs ys len more end (arc_offer g v p d) (λ j. is_short xs (get_or (neighbours_of g v) j 0) ≡ true)

-- ---- Filling.
-- an entry is of nodes
pub record OfferEntry (n k : ℕ) : Type 0 where
  pub node : ℕ
  pub point : ℕ
  pub far : ℕ
  pub is : k ≡ offer_of node point far
  pub inside : node < n
  pub low : point < n

-- what waits, for a table of any contents: each short row takes once at the most, so the queue has room
pub record Waiting (g : Network) (xs : List ℕ) (len : ℕ) : Type 0 where
  pub queue : Queue (drop (node_count g) xs) len
  pub entries : (k : ℕ) → Holds (drop (node_count g) xs) len k → OfferEntry (node_count g) k
  pub room : len + arcs_left g (is_short xs) (node_count g) ≤ node_count g + arc_count g
  pub size : node_count g + 2 * (node_count g + arc_count g) ≤ length xs

-- what filling requires, of a table of any contents
pub record CanFill (g : Network) (xs : List ℕ) (len : ℕ) (ids dists : List ℕ) (K : ℕ) : Type 0 where
  pub accepted : Accepted g
  pub some : 2 ≤ K
  pub sized : Sized g K ids dists
  pub waiting : Waiting g xs len

-- i wants p: place K - 1 of its row is for a locker of p, the entry that a short row lacks
pub record Wants (g : Network) (Q : List ℕ) (K i p : ℕ) : Type 0 where
  pub nearer : Nearer g Q i NONE p
  pub low : before g Q i NONE (key (p, dist g i p)) ≤ K - 1
  pub high : K - 1 < before g Q i NONE (suc (key (p, dist g i p)))

-- the next node of a shortest way from i to p is short and wants p too
pub record Behind (g : Network) (Q xs : List ℕ) (K i p : ℕ) : Type 0 where
  pub to : ℕ
  pub weight : ℕ
  pub arc : Arc g i to weight
  pub sum : dist g i p ≡ weight + dist g to p
  pub short : is_short xs to ≡ true
  pub wants : Wants g Q K to p

-- an entry is a point of Q, with the sum of a walk
pub record Lead (g : Network) (Q : List ℕ) (k : ℕ) : Type 0 where
  pub node : ℕ
  pub point : ℕ
  pub far : ℕ
  pub is : k ≡ offer_of node point far
  pub inside : node < node_count g
  pub low : point < node_count g
  pub is_point : marked Q point ≡ true
  pub walk : Walk g node point far

-- a table on its way to the table of Q: rows are whole or short; what waits leads to points; and what a short row wants waits, or its next node is
-- short and wants it
pub record Mending (g : Network) (Q : List ℕ) (K : ℕ) (ids dists xs : List ℕ) (len : ℕ) : Type 0 where
  pub lacking : (i : ℕ) → i < node_count g → is_short xs i ≡ true → row_at ids dists K i ≡ pad K (nearest g Q i NONE (K - 1))
  pub whole : (i : ℕ) → i < node_count g → is_short xs i ≡ false → row_at ids dists K i ≡ row g Q K i
  pub leads : (k : ℕ) → Holds (drop (node_count g) xs) len k → Lead g Q k
  pub frontier :
      (i p : ℕ) → i < node_count g → is_short xs i ≡ true → Wants g Q K i p
      → Holds (drop (node_count g) xs) len (offer_of i p (dist g i p)) ⊎ Behind g Q xs K i p

-- filling leaves arrays of the same lengths, and a table that is being mended for P becomes the table of P
pub record FillLeft (g : Network) (P xs ys : List ℕ) (len : ℕ) (ids dists ids' dists' : List ℕ) (K : ℕ) : Type 0 where
  pub size : length ys ≡ length xs
  pub sized : Sized g K ids' dists'
  pub mended : Mending g P K ids dists xs len → (i : ℕ) → i < node_count g → row_at ids' dists' K i ≡ row g P K i
