-- A site's list for one nearest. The lent words are: the area of the expansion from all sites, 4 n, of which the first n are the seats | marks n |
-- members n. What the functions over them require and leave. (No sentence of document 02: the sheet is network's definition.)
-- Assumes nothing.
use Rattle.std.specs.Prelude.{ℕ, suc, ◌+◌, ◌*◌, ◌≤◌, ◌<◌, ◌≡◌, ◌≢◌, ◌⊎◌, Bool, true, not, ◌&&◌, List, eqb, length, get_or}
use Rattle.network.specs.Network.{Network, Arc, node_count, neighbours_of, weights_of}
use Rattle.network.specs.Accepted.{Accepted}
use Rattle.network.specs.Distance.{NONE, LONGEST, dist}
use Rattle.network.specs.Count.{count, sum_over}
use Rattle.network.specs.Points.{lockers}
use Rattle.expansion.specs.Area.{Kept}
use Rattle.expansion.specs.Expand.{label_in}
use Rattle.sheet.specs.declared.list.Members.{Members}

-- the list of q has node v: its mark is q and 1
abbrev pub is_member : ℕ → List ℕ → ℕ → ℕ → Bool
is_member n xs q v = eqb (get_or xs (4 * n + v) 0) (suc q)

-- node v stands among the first `size` members
pub record AmongMembers (n : ℕ) (xs : List ℕ) (size v : ℕ) : Type 0 where
  pub place : ℕ
  pub low : place < size
  pub is : get_or xs (5 * n + place) 0 ≡ v

-- the list of q has `size` nodes, in the words behind the marks, and `sum` households stand on them
pub record ListOf (n : ℕ) (H xs : List ℕ) (q size sum : ℕ) : Type 0 where
  pub few : n ≤ 65535
  pub room : 6 * n ≤ length xs
  pub site : q < n
  pub counted : size ≡ count (is_member n xs q) n
  pub summed : sum ≡ sum_over (is_member n xs q) (lockers H) n
  pub low : sum ≤ 255 * size
  pub member : (i : ℕ) → i < size → (get_or xs (5 * n + i) 0 < n) × (is_member n xs q (get_or xs (5 * n + i) 0) ≡ true)
  pub placed : (v : ℕ) → v < n → is_member n xs q v ≡ true → AmongMembers n xs size v

-- ys is xs with a list of q that has grown: its nodes stay, in their places, and no other mark is above q's
pub record ListGrown (n : ℕ) (H xs ys : List ℕ) (q size : ℕ) (r : Members) : Type 0 where
  pub frame : Kept xs ys (4 * n)
  pub list : ListOf n H ys q r.size r.sum
  pub grown : size ≤ r.size
  pub stays : (u : ℕ) → u < n → is_member n xs q u ≡ true → is_member n ys q u ≡ true
  pub places : (i : ℕ) → i < size → get_or ys (5 * n + i) 0 ≡ get_or xs (5 * n + i) 0
  pub marks : (u : ℕ) → u < n → get_or xs (4 * n + u) 0 ≤ suc q → get_or ys (4 * n + u) 0 ≤ suc q

-- node v is taken in
pub record CanTakeMember (n : ℕ) (xs H : List ℕ) (q v size sum : ℕ) : Type 0 where
  pub list : ListOf n H xs q size sum
  pub inside : v < n

pub record MemberTaken (n : ℕ) (xs ys H : List ℕ) (q v size : ℕ) (r : Members) : Type 0 where
  pub grows : ListGrown n H xs ys q size r
  pub here : is_member n ys q v ≡ true
  pub only : (u : ℕ) → u < n → is_member n ys q u ≡ true → (is_member n xs q u ≡ true) ⊎ (u ≡ v)

-- the node behind arc j of v is as much farther from its nearest site as the arc is long
abbrev pub Keeps : Network → List ℕ → ℕ → ℕ → Type 0
Keeps g xs v j =
    label_in (node_count g) xs 0 (get_or (neighbours_of g v) j 0) ≡ label_in (node_count g) xs 0 v + get_or (weights_of g v) j 0

-- u is behind such an arc of v, before arc `end`
pub record BehindMember (g : Network) (xs : List ℕ) (v end u : ℕ) : Type 0 where
  pub arc : ℕ
  pub low : arc < end
  pub leads : get_or (neighbours_of g v) arc 0 ≡ u
  pub keeps : Keeps g xs v arc

-- the arcs of v, whose label is a distance, are followed
pub record CanFollowMember (g : Network) (xs H : List ℕ) (q v size sum : ℕ) : Type 0 where
  pub accepted : Accepted g
  pub list : ListOf (node_count g) H xs q size sum
  pub inside : v < node_count g
  pub label : label_in (node_count g) xs 0 v ≤ LONGEST

pub record MemberFollowed (g : Network) (xs ys H : List ℕ) (q v size : ℕ) (r : Members) (end : ℕ) : Type 0 where
  pub grows : ListGrown (node_count g) H xs ys q size r
  pub there : (j : ℕ) → j < end → Keeps g xs v j → is_member (node_count g) ys q (get_or (neighbours_of g v) j 0) ≡ true
  pub only : (u : ℕ) → u < node_count g → is_member (node_count g) ys q u ≡ true → (is_member (node_count g) xs q u ≡ true) ⊎ BehindMember g xs v end u

-- the labels of the first n words: no node's is more than a neighbour's and the arc; a distance fits; q's own is 0
pub record LabelsAlong (g : Network) (xs : List ℕ) (q : ℕ) : Type 0 where
  pub own : label_in (node_count g) xs 0 q ≡ 0
  pub along : {u v w : ℕ} → Arc g u v w → label_in (node_count g) xs 0 u ≢ NONE → label_in (node_count g) xs 0 v ≤ label_in (node_count g) xs 0 u + w
  pub fits : (v : ℕ) → v < node_count g → label_in (node_count g) xs 0 v ≢ NONE → label_in (node_count g) xs 0 v ≤ LONGEST

-- the marks are those of sites before q
pub record CanList (g : Network) (xs : List ℕ) (q : ℕ) : Type 0 where
  pub accepted : Accepted g
  pub room : 6 * node_count g ≤ length xs
  pub site : q < node_count g
  pub labels : LabelsAlong g xs q
  pub marks : (u : ℕ) → u < node_count g → get_or xs (4 * node_count g + u) 0 ≤ q

-- q is as near to v as its label says
abbrev pub is_nearest : Network → List ℕ → ℕ → ℕ → Bool
is_nearest g xs q v = not (eqb (dist g q v) NONE) && eqb (label_in (node_count g) xs 0 v) (dist g q v)

-- the households on the nodes to which q is so near; the area is as it was
pub record ListLeft (g : Network) (xs ys H : List ℕ) (q sum : ℕ) : Type 0 where
  pub frame : Kept xs ys (4 * node_count g)
  pub marks : (u : ℕ) → u < node_count g → get_or ys (4 * node_count g + u) 0 ≤ suc q
  pub summed : sum ≡ sum_over (is_nearest g xs q) (lockers H) (node_count g)
