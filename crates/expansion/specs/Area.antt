-- The area of an expansion: seats n | settled nodes n | node queue 2 n, from word b of a lent slice on: 4 n words. What the steps of an expansion
-- require and leave. The seat of node v is 0 while v neither waits nor is settled, i + 1 while it waits as entry i, n + 1 + l once it is settled at label l. Settled
-- nodes: in the order in which they were settled.
-- (No sentence of document 01: the answers of the expansions are network's definitions.)
-- Assumes nothing.
use Rattle.std.specs.Prelude.{ℕ, suc, ◌+◌, ◌-◌, ◌*◌, ◌≤◌, ◌<◌, ◌≡◌, ◌⊎◌, ◌↔◌, Bool, List, leb, length, get_or, drop}
use Rattle.network.specs.Network.{Network, node_count, neighbours_of, weights_of}
use Rattle.network.specs.Accepted.{Accepted}
use Rattle.network.specs.Count.{count}
use Rattle.expansion.specs.Queue.{Holds, Queue, key_of}
use Rattle.expansion.specs.Tags.{tag_of, node_of}
use Rattle.expansion.specs.NodeQueue.{NodeQueue, PoppedNode}

-- where the queue starts, and the queue
abbrev pub queue_base : ℕ → ℕ → ℕ
queue_base n b = b + 2 * n

abbrev pub queue_of : ℕ → List ℕ → ℕ → List ℕ
queue_of n xs b = drop (queue_base n b) xs

-- node v is settled with label l; an entry of label l waits for node v
pub record LabelAt (n : ℕ) (xs : List ℕ) (b v l : ℕ) : Type 0 where
  pub inside : v < n
  pub is : get_or xs (b + v) 0 ≡ suc (n + l)

pub record HeldAt (n : ℕ) (xs : List ℕ) (b len v l : ℕ) : Type 0 where
  pub parent : ℕ
  pub inside : v < n
  pub from : parent < n
  pub holds : Holds (queue_of n xs b) len (key_of l (tag_of v parent))

abbrev pub unsettled : ℕ → List ℕ → ℕ → ℕ → Bool
unsettled n xs b v = leb (get_or xs (b + v) 0) n

-- an entry of the queue, when `settled` nodes are settled: of nodes, with a label that fits
pub record NodeEntry (n settled key : ℕ) : Type 0 where
  pub label : ℕ
  pub node : ℕ
  pub parent : ℕ
  pub is : key ≡ key_of label (tag_of node parent)
  pub inside : node < n
  pub from : parent < n
  pub low : label ≤ 65535 * settled

-- node v stands in the list of settled nodes
pub record AmongSettled (n : ℕ) (xs : List ℕ) (b settled v : ℕ) : Type 0 where
  pub place : ℕ
  pub low : place < settled
  pub is : get_or xs (b + n + place) 0 ≡ v

-- an area in which `settled` nodes are settled and `len` nodes wait
pub record Area (n : ℕ) (xs : List ℕ) (b settled len : ℕ) : Type 0 where
  pub queue : NodeQueue n xs b (queue_base n b) len
  pub entries : (k : ℕ) → Holds (queue_of n xs b) len k → NodeEntry n settled k
  pub nodes : (i : ℕ) → i < settled → get_or xs (b + n + i) 0 < n
  pub rest : (i : ℕ) → settled ≤ i → i < n → get_or xs (b + n + i) 0 ≡ 0
  pub labelled : (v : ℕ) → v < n → n < get_or xs (b + v) 0 → AmongSettled n xs b settled v
  pub low : (v : ℕ) → v < n → n < get_or xs (b + v) 0 → get_or xs (b + v) 0 + 65535 ≤ 65535 * settled + suc n
  pub counted : settled + count (unsettled n xs b) n ≡ n

-- ys is as long as xs, and its words before `end` are those of xs
pub record Kept (xs ys : List ℕ) (end : ℕ) : Type 0 where
  pub size : length ys ≡ length xs
  pub words : (i : ℕ) → i < end → get_or ys i 0 ≡ get_or xs i 0

-- every word from b on is 0; ys is xs with the words from b on made 0
pub record Blank (xs : List ℕ) (b : ℕ) : Type 0 where
  pub zero : (j : ℕ) → b ≤ j → get_or xs j 0 ≡ 0

pub record Wiped (xs ys : List ℕ) (b : ℕ) : Type 0 where
  pub frame : Kept xs ys b
  pub blank : Blank ys b

-- ys is xs but for the queue and the seats of nodes that are not settled
pub record Moved (n : ℕ) (xs ys : List ℕ) (b : ℕ) : Type 0 where
  pub size : length ys ≡ length xs
  pub before : (j : ℕ) → j < b → get_or ys j 0 ≡ get_or xs j 0
  pub places : (i : ℕ) → i < n → get_or ys (b + n + i) 0 ≡ get_or xs (b + n + i) 0
  pub settled : (v : ℕ) → v < n → n < get_or xs (b + v) 0 → get_or ys (b + v) 0 ≡ get_or xs (b + v) 0
  pub others : (v : ℕ) → v < n → get_or xs (b + v) 0 ≤ n → get_or ys (b + v) 0 ≤ n

-- An entry left the queue: of those that waited, none has a lesser label, nor the same label and a smaller node. 'For that the queue must promise the
-- smaller node among equal distances' (Ask 4), and nothing of the parent.
pub record Took (n : ℕ) (xs ys : List ℕ) (b len left label node parent : ℕ) : Type 0 where
  pub some : 0 < len
  pub fewer : left ≡ len - 1
  pub inside : node < n
  pub tagged : parent < 65536
  pub first : (x m : ℕ) → HeldAt n xs b len x m → (label < m) ⊎ ((label ≡ m) × (node ≤ x))
  pub popped : PoppedNode n xs ys b (queue_base n b) len (key_of label (tag_of node parent))

-- an entry of the same node waits whose key is no greater
pub record AtOrBelow (q : List ℕ) (len k : ℕ) : Type 0 where
  pub key : ℕ
  pub holds : Holds q len key
  pub node : node_of key ≡ node_of k
  pub low : key ≤ k

-- some place before `end` puts in an entry, which has the key
pub record PutAmong (key : ℕ → ℕ) (Puts : ℕ → Type 0) (end k : ℕ) : Type 0 where
  pub place : ℕ
  pub low : place < end
  pub puts : Puts place
  pub is : k ≡ key place

-- the places before `end` that put in have each put their key into the queue behind `base` words, and no other key is new; `more` is its length
pub record Entered (base : ℕ) (xs ys : List ℕ) (len more end : ℕ) (key : ℕ → ℕ) (Puts : ℕ → Type 0) : Type 0 where
  pub frame : Kept xs ys base
  pub queue : Queue (drop base ys) more
  pub grown : more ≤ len + end
  pub holds : (k : ℕ) → Holds (drop base ys) more k ↔ (Holds (drop base xs) len k ⊎ PutAmong key Puts end k)

-- the entry that arc j of node v, settled at label l, puts in
abbrev pub arc_key : Network → ℕ → ℕ → ℕ → ℕ
arc_key g v l j = key_of (l + get_or (weights_of g v) j 0) (tag_of (get_or (neighbours_of g v) j 0) v)

-- the arcs of v before place `end` are followed: each leads to a settled node, or an entry waits there with no greater label
pub record Followed (g : Network) (xs ys : List ℕ) (b len more v l end : ℕ) : Type 0 where
  pub queue : NodeQueue (node_count g) ys b (queue_base (node_count g) b) more
  pub frame : Moved (node_count g) xs ys b
  pub old : (k : ℕ) → Holds (queue_of (node_count g) ys b) more k → Holds (queue_of (node_count g) xs b) len k ⊎ PutAmong (arc_key g v l) (λ j. get_or xs (b + get_or (neighbours_of g v) j 0) 0 ≤ node_count g) end k
  pub kept : (k : ℕ) → Holds (queue_of (node_count g) xs b) len k → AtOrBelow (queue_of (node_count g) ys b) more k
  pub there :
      (j : ℕ) → j < end → get_or xs (b + get_or (neighbours_of g v) j 0) 0 ≤ node_count g
      → AtOrBelow (queue_of (node_count g) ys b) more (arc_key g v l j)

-- what following the arcs of node v, settled at label l, requires
pub record CanFollow (g : Network) (xs : List ℕ) (b len v l : ℕ) : Type 0 where
  pub accepted : Accepted g
  pub inside : v < node_count g
  pub fits : l + 65535 < 4294967296
  pub queue : NodeQueue (node_count g) xs b (queue_base (node_count g) b) len
