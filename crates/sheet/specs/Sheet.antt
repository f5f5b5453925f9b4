-- What the sheet requires and leaves. Document 02, Ask 1: 'A sheet call writes, for each node, the length of the list of a site there'. The lent words
-- are: the area of the expansion from all sites, 4 n | marks n | members n.
-- Assumes nothing.
use Rattle.std.specs.Prelude.{ℕ, suc, ◌+◌, ◌*◌, ◌≤◌, ◌<◌, ◌≡◌, List, length, get_or}
use Rattle.network.specs.Network.{Network, node_count}
use Rattle.network.specs.Accepted.{Accepted}
use Rattle.network.specs.Count.{select}
use Rattle.network.specs.Points.{marked}
use Rattle.network.specs.Households.{sheet_entry, sheet}
use Rattle.network.specs.Answers.{answered}
use Rattle.expansion.specs.Area.{Kept, Blank, Wiped}
use Rattle.network.specs.Distance.{dist_from}
use Rattle.expansion.specs.Expand.{label_in}

-- the nodes with a site
abbrev pub site_nodes : Network → List ℕ → List ℕ
site_nodes g T = select (marked T) (node_count g)

-- the labels of the first n words are the distances of the nearest sites
abbrev pub SiteLabels : Network → List ℕ → List ℕ → Type 0
SiteLabels g T xs = (v : ℕ) → v < node_count g → label_in (node_count g) xs 0 v ≡ dist_from g (site_nodes g T) v

-- the marks are those of sites before v
pub record CanEnter (g : Network) (T xs : List ℕ) (v : ℕ) : Type 0 where
  pub accepted : Accepted g
  pub room : 6 * node_count g ≤ length xs
  pub inside : v < node_count g
  pub labels : SiteLabels g T xs
  pub marks : (u : ℕ) → u < node_count g → get_or xs (4 * node_count g + u) 0 ≤ v

pub record EntryLeft (g : Network) (H T xs ys : List ℕ) (v r : ℕ) : Type 0 where
  pub frame : Kept xs ys (4 * node_count g)
  pub marks : (u : ℕ) → u < node_count g → get_or ys (4 * node_count g + u) 0 ≤ suc v
  pub entry : r ≡ sheet_entry g H T v

-- all entries: no mark is set
pub record CanWriteAll (g : Network) (T xs old : List ℕ) : Type 0 where
  pub accepted : Accepted g
  pub room : 6 * node_count g ≤ length xs
  pub labels : SiteLabels g T xs
  pub marks : (u : ℕ) → u < node_count g → get_or xs (4 * node_count g + u) 0 ≡ 0
  pub places : node_count g ≤ length old

pub record EntriesLeft (g : Network) (H T xs ys old new : List ℕ) : Type 0 where
  pub size : length ys ≡ length xs
  pub answers : new ≡ answered (sheet g H T) old

-- an accepted network with words that are all 0, and a place for each node
pub record CanSheet (g : Network) (xs old : List ℕ) : Type 0 where
  pub accepted : Accepted g
  pub blank : Blank xs 0
  pub room : 6 * node_count g ≤ length xs
  pub places : node_count g ≤ length old

pub record SheetLeft (g : Network) (H T xs ys old new : List ℕ) : Type 0 where
  pub area : Wiped xs ys 0
  pub answers : new ≡ answered (sheet g H T) old
