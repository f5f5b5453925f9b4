-- Document 02, Ask 6: 'A locker pays no rent to itself'. The lockers on q are not listed, and make no difference to anything else that q receives. The
-- theorem, `own_lockers` of proofs/OwnLockers.antt, is for every network.
-- Assumes nothing.
use Rattle.std.specs.Prelude.{ℕ, ◌≡◌, false, not, ◌&&◌, ◌≢◌, List, eqb, ltb, set}
use Rattle.network.specs.Network.{Network}
use Rattle.network.specs.Distance.{NONE, dist}
use Rattle.network.specs.Points.{others_nearer, verified, is_listed, listed, expanded}
use Rattle.network.specs.Visits.{visits}

pub record OwnLockers (g : Network) (P : List ℕ) (q k : ℕ) : Type 0 where
  -- 'Verify of the point on q says no'; 'a point on q isn't listed'
  pub says_no : verified g P q q k ≡ false
  pub unlisted : is_listed g P q k q ≡ false
  -- any other is verified by document 01's words
  pub others : (p : ℕ) → p ≢ q → verified g P p q k ≡ (not (eqb (dist g p q) NONE) && ltb (others_nearer g P p (dist g p q)) k)
  -- with w lockers on q, for every w, the list is the same; 'Expanded counts are untouched', and so is the order of visits (Ask 4)
  pub same_list_lem : (w : ℕ) → listed g (set P q w) q k ≡ listed g P q k
  pub same_count : (w : ℕ) → expanded g (set P q w) q k ≡ expanded g P q k
  pub same_visits : (w : ℕ) → visits g (set P q w) q k ≡ visits g P q k
