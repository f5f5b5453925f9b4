-- The node queue: the queue of Queue.antt, from the word `at` of a list on, in which every node stands at most once, so that n entries are enough.
-- The word b + v, before the queue, is the seat of node v: i + 1 while v waits as entry i, which is below n; 0, or a word above n, while v doesn't
-- wait (0: it is not settled either; n + 1 + l: it is settled at label l).
-- Assumes nothing.
use Rattle.std.specs.Prelude.{ℕ, suc, ◌+◌, ◌-◌, ◌*◌, ◌≤◌, ◌<◌, ◌≡◌, ◌≢◌, ◌⊎◌, ◌↔◌, List, length, get_or, drop}
use Rattle.expansion.specs.Queue.{key_of, key_at, Holds, Queue, Popped, Put, Filled}
use Rattle.expansion.specs.Tags.{node_of}

-- the node of entry i
abbrev pub node_at : List ℕ → ℕ → ℕ
node_at q i = node_of (key_at q i)

-- node v does not wait
abbrev pub Free : ℕ → List ℕ → ℕ → ℕ → Type 0
Free n xs b v = (get_or xs (b + v) 0 ≡ 0) ⊎ (n < get_or xs (b + v) 0)

-- what a node queue of len entries is between calls
pub record NodeQueue (n : ℕ) (xs : List ℕ) (b at len : ℕ) : Type 0 where
  pub few : n ≤ 65535
  pub low : b + n ≤ at
  pub room : at + 2 * n ≤ length xs
  pub fits : len ≤ n
  pub queue : Queue (drop at xs) len
  pub inside : (i : ℕ) → i < len → node_at (drop at xs) i < n
  pub seat : (i : ℕ) → i < len → get_or xs (b + node_at (drop at xs) i) 0 ≡ suc i
  pub waits : (v i : ℕ) → v < n → get_or xs (b + v) 0 ≡ suc i → i < n → (i < len) × (node_at (drop at xs) i ≡ v)

-- ys is xs but for the queue, the seats of the nodes that wait, and v's seat
pub record Unmoved (n : ℕ) (xs ys : List ℕ) (b at v : ℕ) : Type 0 where
  pub size : length ys ≡ length xs
  pub before : (j : ℕ) → j < b → get_or ys j 0 ≡ get_or xs j 0
  pub between : (j : ℕ) → b + n ≤ j → j < at → get_or ys j 0 ≡ get_or xs j 0
  pub free : (u : ℕ) → u < n → u ≢ v → Free n xs b u → get_or ys (b + u) 0 ≡ get_or xs (b + u) 0

-- push: ys is xs with an entry of the key added, whose node did not wait
pub record PushedNode (n : ℕ) (xs ys : List ℕ) (b at len key : ℕ) : Type 0 where
  pub queue : NodeQueue n ys b at (len + 1)
  pub frame : Unmoved n xs ys b at (node_of key)
  pub holds : (k : ℕ) → Holds (drop at ys) (len + 1) k ↔ (Holds (drop at xs) len k ⊎ (k ≡ key))

-- entry i has the node of the key, and a greater key
pub record CanLower (q : List ℕ) (len i key : ℕ) : Type 0 where
  pub inside : i < len
  pub node : node_at q i ≡ node_of key
  pub less : key < key_at q i

-- lower: ys is xs with the entry of a node replaced by one of a lesser key
pub record LoweredNode (n : ℕ) (xs ys : List ℕ) (b at len key : ℕ) : Type 0 where
  pub queue : NodeQueue n ys b at len
  pub frame : Unmoved n xs ys b at (node_of key)
  pub here : Holds (drop at ys) len key
  pub old : (k : ℕ) → Holds (drop at ys) len k → Holds (drop at xs) len k ⊎ (k ≡ key)
  pub kept : (k : ℕ) → Holds (drop at xs) len k → Holds (drop at ys) len k ⊎ ((node_of k ≡ node_of key) × (key < k))

-- pop: ys is xs without its first entry, which has the key; its node does not wait any more, nor is it settled
pub record PoppedNode (n : ℕ) (xs ys : List ℕ) (b at len key : ℕ) : Type 0 where
  pub queue : NodeQueue n ys b at (len - 1)
  pub frame : Unmoved n xs ys b at (node_of key)
  pub popped : Popped (drop at xs) (drop at ys) len key
  pub gone : get_or ys (b + node_of key) 0 ≡ 0

-- clear: the queue is all 0, and no node waits; the other seats are as they were
pub record ClearedNodes (n : ℕ) (xs ys : List ℕ) (b at : ℕ) : Type 0 where
  pub size : length ys ≡ length xs
  pub before : (j : ℕ) → j < b → get_or ys j 0 ≡ get_or xs j 0
  pub between : (j : ℕ) → b + n ≤ j → j < at → get_or ys j 0 ≡ get_or xs j 0
  pub free : (u : ℕ) → u < n → Free n xs b u → get_or ys (b + u) 0 ≡ get_or xs (b + u) 0
  pub waited : (u i : ℕ) → u < n → get_or xs (b + u) 0 ≡ suc i → i < n → get_or ys (b + u) 0 ≡ 0
  pub zero : (j : ℕ) → at ≤ j → get_or ys j 0 ≡ 0

-- offer: the node of the key is settled, and nothing changes; or an entry of it waits with no greater key than this one, and none came in but this one,
-- for which none left but one of the same node with a greater key
pub record OfferedNode (n : ℕ) (xs ys : List ℕ) (b at len more key : ℕ) : Type 0 where
  pub queue : NodeQueue n ys b at more
  pub frame : Unmoved n xs ys b at (node_of key)
  pub settled : n < get_or xs (b + node_of key) 0 → ys ≡ xs
  pub waiting : get_or xs (b + node_of key) 0 ≤ n → (k : ℕ) × (Holds (drop at ys) more k) × (node_of k ≡ node_of key) × (k ≤ key)
  pub old : (k : ℕ) → Holds (drop at ys) more k → Holds (drop at xs) len k ⊎ ((k ≡ key) × (get_or xs (b + node_of key) 0 ≤ n))
  pub kept : (k : ℕ) → Holds (drop at xs) len k → Holds (drop at ys) more k ⊎ ((node_of k ≡ node_of key) × (key < k))

-- ---- What the inner functions promise.

-- entry i can be stored: its words, and its node's seat before the queue
pub record CanPut (xs : List ℕ) (b at i key : ℕ) : Type 0 where
  pub room : at + 2 * i + 2 ≤ length xs
  pub low : b + node_of key < at
  pub small : i < 65536

-- ys is xs with entry i made that of the key, and with its node's seat
pub record PutAt (xs ys : List ℕ) (b at i key : ℕ) : Type 0 where
  pub distance : ℕ
  pub tag : ℕ
  pub is : key_of distance tag ≡ key
  pub size : length ys ≡ length xs
  pub put : Put (drop at xs) (drop at ys) i distance tag
  pub seat : get_or ys (b + node_of key) 0 ≡ suc i
  pub words : (j : ℕ) → j < at → j ≢ b + node_of key → get_or ys j 0 ≡ get_or xs j 0

-- entry `from` can be copied over entry `to`
pub record CanShift (xs : List ℕ) (b at from to : ℕ) : Type 0 where
  pub room : at + 2 * from + 2 ≤ length xs
  pub put : CanPut xs b at to (key_at (drop at xs) from)

-- ys is xs with the words of entry i and node v's seat made 0
pub record Vacated (xs ys : List ℕ) (b at i v : ℕ) : Type 0 where
  pub size : length ys ≡ length xs
  pub put : Put (drop at xs) (drop at ys) i 0 0
  pub seat : get_or ys (b + v) 0 ≡ 0
  pub words : (j : ℕ) → j < at → j ≢ b + v → get_or ys j 0 ≡ get_or xs j 0

-- all entries but the hole's have their seats, and none of them is of the node of the carried key
pub record Seats (xs : List ℕ) (b at len hole key : ℕ) : Type 0 where
  pub few : len ≤ 65536
  pub room : at + 2 * len ≤ length xs
  pub own : b + node_of key < at
  pub low : (i : ℕ) → i < len → i ≢ hole → b + node_at (drop at xs) i < at
  pub seat : (i : ℕ) → i < len → i ≢ hole → get_or xs (b + node_at (drop at xs) i) 0 ≡ suc i
  pub other : (i : ℕ) → i < len → i ≢ hole → node_at (drop at xs) i ≢ node_of key

-- ys is xs with the hole filled by an entry of the key; all entries have their seats, and no other word before the queue changed
pub record FilledAt (xs ys : List ℕ) (b at len hole key : ℕ) : Type 0 where
  pub size : length ys ≡ length xs
  pub filled : Filled (drop at xs) (drop at ys) len hole key
  pub seat : (i : ℕ) → i < len → get_or ys (b + node_at (drop at ys) i) 0 ≡ suc i
  pub words :
      (j : ℕ) → j < at → j ≢ b + node_of key → ((i : ℕ) → i < len → i ≢ hole → j ≢ b + node_at (drop at xs) i)
      → get_or ys j 0 ≡ get_or xs j 0
