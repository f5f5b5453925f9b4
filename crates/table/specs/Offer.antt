-- Offers, which build and remove both put into their queue behind n words: a point, at a distance, to the row of a node.
-- Assumes nothing.
use Rattle.std.specs.Prelude.{ℕ, ◌+◌, ◌*◌, ◌≤◌, ◌<◌, ◌≡◌, List, Option, None, Some, length, get_or, drop}
use Rattle.network.specs.Network.{Network, node_count, neighbours_of, weights_of}
use Rattle.network.specs.Accepted.{Accepted}
use Rattle.expansion.specs.Queue.{Queue, PoppedAt, key_of}
use Rattle.expansion.specs.Tags.{tag_of}
use Rattle.table.specs.declared.offers.Offer.{Offer}

-- the entry that offers point p at distance d to row i
abbrev pub offer_of : ℕ → ℕ → ℕ → ℕ
offer_of i p d = key_of d (tag_of p i)

-- the first of the `len` offers behind n words is taken out, or none waits
pub record OfferTaken (xs ys : List ℕ) (n len : ℕ) (o : Offer) : Type 0 where
  pub some : 0 < len
  pub node_fits : o.node < 65536
  pub point_fits : o.point < 65536
  pub popped : PoppedAt xs ys n len (offer_of o.node o.point o.distance)

abbrev pub FirstTaken : List ℕ → List ℕ → ℕ → ℕ → Option Offer → Type 0
FirstTaken xs ys n len None = (len ≡ 0) × (ys ≡ xs)
FirstTaken xs ys n len (Some o) = OfferTaken xs ys n len o

-- what offering (p, d), of the row of v, to the nodes that v's arcs lead to requires: the distance and the queue have room for them
pub record CanOffer (g : Network) (xs : List ℕ) (len v p d : ℕ) : Type 0 where
  pub accepted : Accepted g
  pub inside : v < node_count g
  pub point : p < node_count g
  pub fits : d + 65535 < 4294967296
  pub queue : Queue (drop (node_count g) xs) len
  pub room : node_count g + 2 * (len + length (neighbours_of g v)) ≤ length xs

-- the entry of arc j of v
abbrev pub arc_offer : Network → ℕ → ℕ → ℕ → ℕ → ℕ
arc_offer g v p d j = offer_of (get_or (neighbours_of g v) j 0) p (d + get_or (weights_of g v) j 0)
