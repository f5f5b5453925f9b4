-- The second expansion of lazy with extended pruning (source 000, section 4.2): it spreads the verified points over the network, and each node keeps
-- a row of k places for the nearest of them that came to it. The lent words are: found flags n | row ids n k | row words n k | queue, to their end.
-- Word of a place: 0 while it is empty, else its distance plus one. An entry of the queue: a distance, and as its tag the point and the node.
-- (No sentence of document 01: rows only hold sums of walks, and nothing is promised of how many there are.)
-- Assumes nothing.
use Rattle.std.specs.Prelude.{ℕ, suc, ◌+◌, ◌*◌, ◌%◌, ◌≤◌, ◌<◌, ◌≡◌, ◌≢◌, Bool, true, Option, None, Some, List, ltb, length, get_or, take, drop}
use Rattle.network.specs.Network.{Network, node_count, arc_count}
use Rattle.network.specs.Accepted.{Accepted}
use Rattle.network.specs.Walk.{Walk}
use Rattle.network.specs.Count.{total, sum_over}
use Rattle.network.specs.Points.{lockers, marked}
use Rattle.expansion.specs.Queue.{distance_of, Holds, Queue}
use Rattle.expansion.specs.Tags.{node_of, tag_parent}
use Rattle.expansion.specs.Area.{Kept}
use Rattle.expansion.specs.Expand.{word_distance}

-- the distance of a word of a row: NONE where the place is empty, else one less than the word
abbrev pub row_distance : ℕ → ℕ
row_distance word = word_distance 0 word

-- the point, the node and the distance of the entry with the key
abbrev pub point_of : ℕ → ℕ
point_of key = node_of key

abbrev pub beside_of : ℕ → ℕ
beside_of key = tag_parent (key % 4294967296)

abbrev pub far_of : ℕ → ℕ
far_of key = distance_of key

-- where the row words start, and the queue
abbrev pub words_base : ℕ → ℕ → ℕ
words_base n k = n + n * k

abbrev pub second_base : ℕ → ℕ → ℕ
second_base n k = n + 2 * (n * k)

abbrev pub second_queue : ℕ → ℕ → List ℕ → List ℕ
second_queue n k xs = drop (second_base n k) xs

-- place j of node u's row: its id, and its word
abbrev pub id_at : ℕ → ℕ → List ℕ → ℕ → ℕ → ℕ
id_at n k xs u j = get_or xs (n + u * k + j) 0

abbrev pub word_at : ℕ → ℕ → List ℕ → ℕ → ℕ → ℕ
word_at n k xs u j = get_or xs (words_base n k + u * k + j) 0

-- p is a mark, and d is the sum of a walk from u to it
pub record Source (g : Network) (M : List ℕ) (u p d : ℕ) : Type 0 where
  pub inside : p < node_count g
  pub point : marked M p ≡ true
  pub walk : Walk g u p d

-- rows without doubles, and a queue of `len` entries for nodes and points of the network
pub record Second (g : Network) (xs : List ℕ) (k len : ℕ) : Type 0 where
  pub fits : second_base (node_count g) k ≤ length xs
  pub queue : Queue (second_queue (node_count g) k xs) len
  pub points : (key : ℕ) → Holds (second_queue (node_count g) k xs) len key → point_of key < node_count g
  pub nodes : (key : ℕ) → Holds (second_queue (node_count g) k xs) len key → beside_of key < node_count g
  pub distinct :
      (u i j : ℕ) → u < node_count g → i < k → j < k → word_at (node_count g) k xs u i ≢ 0 → word_at (node_count g) k xs u j ≢ 0
      → id_at (node_count g) k xs u i ≡ id_at (node_count g) k xs u j → i ≡ j

-- what stands in the rows and waits in the queue are sums of walks to marks of M
pub record SecondSound (g : Network) (M xs : List ℕ) (k len : ℕ) : Type 0 where
  pub stands : (u j d : ℕ) → u < node_count g → j < k → word_at (node_count g) k xs u j ≡ suc d → Source g M u (id_at (node_count g) k xs u j) d
  pub waits : (key : ℕ) → Holds (second_queue (node_count g) k xs) len key → Source g M (beside_of key) (point_of key) (far_of key)

-- what the second expansion has left to do: each put lessens the distances in the rows, where an empty place counts as NONE, and adds at most A
-- entries
abbrev pub spread : ℕ → ℕ → List ℕ → ℕ
spread n k xs = total (λ i. row_distance (get_or xs (words_base n k + i) 0)) (n * k)

abbrev pub work : Network → ℕ → List ℕ → ℕ → ℕ
work g k xs len = spread (node_count g) k xs * (arc_count g + 2) + len

-- the parts of the words that are node u's row: its ids, and its words
abbrev pub row_ids : ℕ → ℕ → List ℕ → ℕ → List ℕ
row_ids n k xs u = take k (drop (n + u * k) xs)

abbrev pub row_words : ℕ → ℕ → List ℕ → ℕ → List ℕ
row_words n k xs u = take k (drop (words_base n k + u * k) xs)

-- p, at distance d, can take place r of a row: the place is empty or farther, and p is not in the row
pub record CanTake (ids words : List ℕ) (p d r : ℕ) : Type 0 where
  pub low : r < length words
  pub farther : d < row_distance (get_or words r 0)
  pub absent : (j : ℕ) → j < length words → get_or words j 0 ≢ 0 → get_or ids j 0 ≢ p

-- the place that p takes, if it takes one
abbrev pub PlaceFor : List ℕ → List ℕ → ℕ → ℕ → Option ℕ → Type 0
PlaceFor ids words p d None = Unit {0}
PlaceFor ids words p d (Some r) = CanTake ids words p d r

-- point p, at distance d from node u, can be put into u's row and offered to u's neighbours
pub record CanAdmit (g : Network) (xs : List ℕ) (k len p u d : ℕ) : Type 0 where
  pub accepted : Accepted g
  pub second : Second g xs k len
  pub inside : u < node_count g
  pub point : p < node_count g
  pub fits : d + 65535 < 4294967296

-- p was offered to the neighbours of u before place `end`, as far as the queue has room
pub record OfferedSecond (g : Network) (xs ys : List ℕ) (k len r p u d end : ℕ) : Type 0 where
  pub frame : Kept xs ys (second_base (node_count g) k)
  pub grown : r ≤ len + end
  pub second : Second g ys k r
  pub sound : (M : List ℕ) → Source g M u p d → SecondSound g M xs k len → SecondSound g M ys k r

-- p came to u at distance d
pub record Admitted (g : Network) (xs ys : List ℕ) (k len r p u d : ℕ) : Type 0 where
  pub frame : Kept xs ys (node_count g)
  pub second : Second g ys k r
  pub sound : (M : List ℕ) → Source g M u p d → SecondSound g M xs k len → SecondSound g M ys k r
  pub less : work g k ys r ≤ work g k xs len

-- the entries of a distance below l come to their nodes
pub record CanAdvance (g : Network) (xs : List ℕ) (k len l : ℕ) : Type 0 where
  pub accepted : Accepted g
  pub second : Second g xs k len
  pub fits : l + 65535 ≤ 4294967296

pub record Advanced (g : Network) (xs ys : List ℕ) (k len r : ℕ) : Type 0 where
  pub frame : Kept xs ys (node_count g)
  pub second : Second g ys k r
  pub sound : (M : List ℕ) → SecondSound g M xs k len → SecondSound g M ys k r

-- k of P's lockers stand in node u's row at distances below l
abbrev pub is_below : ℕ → ℕ → List ℕ → ℕ → ℕ → ℕ → Bool
is_below n k xs u l j = ltb (row_distance (word_at n k xs u j)) l

pub record Closed (P : List ℕ) (n : ℕ) (xs : List ℕ) (k u l : ℕ) : Type 0 where
  pub enough : k ≤ sum_over (is_below n k xs u l) (λ j. lockers P (id_at n k xs u j)) k
