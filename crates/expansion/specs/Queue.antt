-- The queue: a binary heap in a list of words. Entry i is two words, its tag at 2 i and its distance at 2 i + 1: its key, as a machine has a 64-bit
-- number. Entries are ordered by that one number; the entries 2 i + 1 and 2 i + 2 are the children of entry i, and no entry has a key less than its
-- parent's. What a pop promises of the order is less: by distance, and by the node that the tag names first (Ask 4).
-- Assumes nothing.
use Rattle.std.specs.Prelude.{◌≡◌, ◌⊎◌, ◌≢◌, ◌↔◌, List, ℕ, zero, suc, ◌+◌, ◌-◌, ◌*◌, ◌/◌, ◌≤◌, ◌<◌, length, get_or, drop}
use Rattle.expansion.specs.Tags.{node_of}
use Rattle.expansion.specs.declared.queue.Entry.{Entry}

-- the key of a distance and a tag: a tag is below 2^32, so keys go by distance and then by tag
abbrev pub key_of : ℕ → ℕ → ℕ
key_of distance tag = distance * 4294967296 + tag

-- the key of an entry
abbrev pub entry_key : Entry → ℕ
entry_key e = key_of e.distance e.tag

-- the distance of the entry with the key
abbrev pub distance_of : ℕ → ℕ
distance_of key = key / 4294967296

-- the key of entry i
unfoldable pub key_at : List ℕ → ℕ → ℕ
key_at xs i = key_of (get_or xs (2 * i + 1) 0) (get_or xs (2 * i) 0)

-- the index of entry i's parent
abbrev pub parent_of : ℕ → ℕ
parent_of i = (i - 1) / 2

-- one of the first len entries has the key
pub record Holds (xs : List ℕ) (len key : ℕ) : Type 0 where
  pub index : ℕ
  pub inside : index < len
  pub is : key_at xs index ≡ key

-- one of the first len entries, other than entry i, has the key
pub record HoldsBeside (xs : List ℕ) (len i key : ℕ) : Type 0 where
  pub index : ℕ
  pub inside : index < len
  pub other : index ≢ i
  pub is : key_at xs index ≡ key

-- no entry has a key less than its parent's
abbrev pub HeapOrdered : List ℕ → ℕ → Type 0
HeapOrdered xs len = (i : ℕ) → 0 < i → i < len → key_at xs (parent_of i) ≤ key_at xs i

-- every word behind the first len entries is 0
abbrev pub ZeroFrom : List ℕ → ℕ → Type 0
ZeroFrom xs len = (j : ℕ) → 2 * len ≤ j → get_or xs j 0 ≡ 0

-- what a queue of len entries is between calls
pub record Queue (xs : List ℕ) (len : ℕ) : Type 0 where
  pub room : 2 * len ≤ length xs
  pub ordered : HeapOrdered xs len
  pub zeros : ZeroFrom xs len

-- push: ys is the queue xs with an entry of the key added
pub record Pushed (xs ys : List ℕ) (len key : ℕ) : Type 0 where
  pub queue : Queue ys (len + 1)
  pub size : length ys ≡ length xs
  pub holds : (k : ℕ) → Holds ys (len + 1) k ↔ (Holds xs len k ⊎ (k ≡ key))

-- 'the queue must promise the smaller node among equal distances' (Ask 4): an entry of key a comes out no later than one of key b where its distance is
-- less, or the same and its node no greater. Nothing is said of what else a tag holds (a search: the parent).
abbrev pub NoLater : ℕ → ℕ → Type 0
NoLater a b = (distance_of a < distance_of b) ⊎ ((distance_of a ≡ distance_of b) × (node_of a ≤ node_of b))

-- pop: ys is the queue xs without an entry of the key, which none precedes. What is held in ys was held in xs, and what was held in xs is kept or has
-- that key.
pub record Popped (xs ys : List ℕ) (len key : ℕ) : Type 0 where
  pub queue : Queue ys (len - 1)
  pub size : length ys ≡ length xs
  pub was : Holds xs len key
  pub first : (k : ℕ) → Holds xs len k → NoLater key k
  pub old : (k : ℕ) → Holds ys (len - 1) k → Holds xs len k
  pub kept : (k : ℕ) → Holds xs len k → Holds ys (len - 1) k ⊎ (k ≡ key)

-- least: r is the distance of an entry, and none has a lesser one
pub record LeastDistance (xs : List ℕ) (len r : ℕ) : Type 0 where
  pub key : ℕ
  pub holds : Holds xs len key
  pub is : r ≡ distance_of key
  pub least : (k : ℕ) → Holds xs len k → r ≤ distance_of k

-- The same of a queue that starts at the word `at` of a longer list and reaches to its end: what stands before it stays as it is.
pub record PushedAt (xs ys : List ℕ) (at len key : ℕ) : Type 0 where
  pub size : length ys ≡ length xs
  pub before : (i : ℕ) → i < at → get_or ys i 0 ≡ get_or xs i 0
  pub queue : Pushed (drop at xs) (drop at ys) len key

pub record PoppedAt (xs ys : List ℕ) (at len key : ℕ) : Type 0 where
  pub size : length ys ≡ length xs
  pub before : (i : ℕ) → i < at → get_or ys i 0 ≡ get_or xs i 0
  pub queue : Popped (drop at xs) (drop at ys) len key

-- ---- What the inner functions promise.

-- ys is xs with entry i made (distance, tag)
pub record Put (xs ys : List ℕ) (i distance tag : ℕ) : Type 0 where
  pub size : length ys ≡ length xs
  pub first : get_or ys (2 * i) 0 ≡ tag
  pub second : get_or ys (2 * i + 1) 0 ≡ distance
  pub words : (j : ℕ) → j ≢ 2 * i → j ≢ 2 * i + 1 → get_or ys j 0 ≡ get_or xs j 0
  pub here : key_at ys i ≡ key_of distance tag
  pub other : (j : ℕ) → j ≢ i → key_at ys j ≡ key_at xs j

-- c is the child of entry i with the least key
pub record LeastChild (xs : List ℕ) (len i c : ℕ) : Type 0 where
  pub inside : c < len
  pub low : 2 * i < c
  pub high : c ≤ 2 * i + 2
  pub least : (j : ℕ) → 0 < j → j < len → parent_of j ≡ i → key_at xs c ≤ key_at xs j

-- entry i has two children, with the keys a and b
pub record Children (xs : List ℕ) (len i a b : ℕ) : Type 0 where
  pub two : 2 * i + 2 < len
  pub left : a ≡ key_at xs (2 * i + 1)
  pub right : b ≡ key_at xs (2 * i + 2)

-- r is x if a is the lesser of a and b, else y
pub record Chosen {A : Type 0} (a b : ℕ) (x y r : A) : Type 0 where
  pub first : a ≤ b → r ≡ x
  pub second : b < a → r ≡ y

-- A hole, as Rust's BinaryHeap calls it: an index whose entry is out of the queue, so that its words mean nothing, until an entry is stored
-- there. All other entries are in order, and so are the hole's children with the hole's parent.
pub record Hole (xs : List ℕ) (len hole : ℕ) : Type 0 where
  pub fits : 2 * len ≤ length xs
  pub inside : hole < len
  pub order : (i : ℕ) → 0 < i → i < len → i ≢ hole → parent_of i ≢ hole → key_at xs (parent_of i) ≤ key_at xs i
  pub across : (i : ℕ) → 0 < hole → i < len → parent_of i ≡ hole → key_at xs (parent_of hole) ≤ key_at xs i

-- an entry of the key is in order with the hole's parent; with the hole's children
abbrev pub AtLeastParent : List ℕ → ℕ → ℕ → Type 0
AtLeastParent xs hole key = 0 < hole → key_at xs (parent_of hole) ≤ key

abbrev pub AtMostChildren : List ℕ → ℕ → ℕ → ℕ → Type 0
AtMostChildren xs len hole key = (i : ℕ) → 0 < i → i < len → parent_of i ≡ hole → key ≤ key_at xs i

-- an entry of the key may go into the hole or below it; into the hole or above it
pub record CanSink (xs : List ℕ) (len hole key : ℕ) : Type 0 where
  pub is_hole : Hole xs len hole
  pub at_least : AtLeastParent xs hole key

pub record CanRise (xs : List ℕ) (len hole key : ℕ) : Type 0 where
  pub is_hole : Hole xs len hole
  pub at_most : AtMostChildren xs len hole key

-- ys is xs with the hole filled by an entry of the key: it is in order, and holds the key and what xs holds beside the hole
pub record Filled (xs ys : List ℕ) (len hole key : ℕ) : Type 0 where
  pub ordered : HeapOrdered ys len
  pub size : length ys ≡ length xs
  pub behind : (j : ℕ) → 2 * len ≤ j → get_or ys j 0 ≡ get_or xs j 0
  pub holds : (k : ℕ) → Holds ys len k ↔ ((k ≡ key) ⊎ HoldsBeside xs len hole k)

-- ---- How far an entry sinks (Ask 2).

-- entry i lies so many levels below entry `top`: so often is a child's index taken on the way from `top` to i
abbrev pub LevelsBelow : ℕ → ℕ → ℕ → Type 0
LevelsBelow zero top i = i ≡ top
LevelsBelow (suc levels) top i = (0 < i) × LevelsBelow levels top (parent_of i)

-- entry i is on the way from the hole down to the place; both ends are on it
pub record OnWay (hole place i : ℕ) : Type 0 where
  pub above : ℕ
  pub rest : ℕ
  pub from : LevelsBelow above hole i
  pub to : LevelsBelow rest i place

-- "The step also returns how many entries it stored, shown to be one more than the levels that the entry sank." The entry of the key stands in its
-- final place, so many levels below the hole. Each entry on the way below the hole had a lesser key and stands one level higher now, so that an entry
-- came to stand at each index on the way; every entry off the way stands where it stood.
pub record Sank (xs ys : List ℕ) (len hole key stored : ℕ) : Type 0 where
  pub place : ℕ
  pub levels : ℕ
  pub inside : place < len
  pub below : LevelsBelow levels hole place
  pub here : key_at ys place ≡ key
  pub moved : (i : ℕ) → i ≢ hole → OnWay hole place i → (key_at xs i < key) × (key_at ys (parent_of i) ≡ key_at xs i)
  pub others : (i : ℕ) → OnWay hole place i ⊎ (key_at ys i ≡ key_at xs i)
  pub count : stored ≡ levels + 1
