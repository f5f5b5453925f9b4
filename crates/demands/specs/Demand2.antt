-- Demand 2: who stands on the list of a site, by walks alone. Document 01, 'What a site receives', with Ask 6: 'point p is listed if it can be reached
-- from q and fewer than k other points p' have d(p, p') < d(p, q)', and 'a point on q isn't listed'; with Ask 8: each locker counts, and 'a locker has its
-- companions on the node as others at distance 0'. It speaks of the records that the public contracts ensure. The theorem is proofs/Demand2.antt's.
-- Assumes nothing.
use Rattle.std.specs.Prelude.{ℕ, ◌≤◌, ◌<◌, ◌≡◌, Bool, true, ◌≢◌, ◌↔◌, ◌⊎◌, length, get_or}
use mathlib.Core.List.{List, Memᴰ}
use Rattle.network.specs.Network.{Network, node_count}
use Rattle.network.specs.Count.{sum_over}
use Rattle.network.specs.Walk.{Walk}
use Rattle.network.specs.Answers.{Ascending, answered}
use Rattle.network.specs.Points.{lockers, marked, fewer_at, short_k}
use Rattle.conditions.specs.declared.answers.Listing.{Listing}
use Rattle.conditions.specs.Values.{rule_verdict}
use Rattle.site_calls.specs.Eager.{eager_outcome, short_outcome}
use Rattle.site_calls.specs.Lazy.{lazy_outcome}
use Rattle.site_calls.specs.Exported.{SearchExported, EagerExported}
use Rattle.table_calls.specs.TableCheck.{table_check_answer}
use Rattle.table_calls.specs.TableQuery.{TableQueryExported}

-- a walk joins a with b
pub record Joined (g : Network) (a b : ℕ) : Type 0 where
  pub sum : ℕ
  pub walk : Walk g a b sum

-- every walk from a to b is longer than `sum`; none is shorter
abbrev pub AllLonger : Network → ℕ → ℕ → ℕ → Type 0
AllLonger g a b sum = (s : ℕ) → Walk g a b s → sum < s

abbrev pub NoneShorter : Network → ℕ → ℕ → ℕ → Type 0
NoneShorter g a b sum = (s : ℕ) → Walk g a b s → sum ≤ s

-- x is strictly nearer to m than q is: a walk from m to x is shorter than every walk from m to q
pub record Closer (g : Network) (m q x : ℕ) : Type 0 where
  pub way : Joined g m x
  pub shorter : AllLonger g m q way.sum

-- so many of the lockers L stand on nodes that are: `test` passes exactly these nodes, and each of their lockers counts
pub record LockersCloser (g : Network) (L : List ℕ) (m q some : ℕ) : Type 0 where
  pub test : ℕ → Bool
  pub passes : (x : ℕ) → x < node_count g → (test x ≡ true) ↔ Closer g m q x
  pub counted : some ≡ sum_over test (lockers L) (node_count g)

-- p is on the list: it is not q, has a locker, can be reached, and fewer than k other lockers, all of the network but one of p's own, are nearer
pub record OnList (g : Network) (P : List ℕ) (q k p : ℕ) : Type 0 where
  pub inside : p < node_count g
  pub other : p ≢ q
  pub locker : marked P p ≡ true
  pub reach : Joined g q p
  pub some : ℕ
  pub nearer : LockersCloser g (fewer_at P p) p q some
  pub few : some < k

-- m is a node that eager's count counts: it 'can be reached from q' and has 'fewer than k points p (one on m included) with d(m, p) < d(m, q)'
pub record IsStep (g : Network) (P : List ℕ) (q k m : ℕ) : Type 0 where
  pub inside : m < node_count g
  pub reach : Joined g q m
  pub some : ℕ
  pub nearer : LockersCloser g P m q some
  pub few : some < k

-- a comes before b, 'by distance from the site and then by node' (Ask 4): a walk from q to a is shorter than every walk to b, or not longer, and a is less
pub record Precedes (g : Network) (q a b : ℕ) : Type 0 where
  pub way : Joined g q a
  pub before : AllLonger g q b way.sum ⊎ ((a < b) × NoneShorter g q b way.sum)

-- the steps of a site: these nodes, all of them and only them, in this order
pub record AreSteps (g : Network) (P : List ℕ) (q k : ℕ) (steps : List ℕ) : Type 0 where
  pub members : (m : ℕ) → Memᴰ m steps ↔ IsStep g P q k m
  pub rises : (i j : ℕ) → i < j → j < length steps → Precedes g q (get_or steps i 0) (get_or steps j 0)

-- the answers are a list that ascends by node, then the old entries; on it stand those by the rule, all of them and only them
pub record Lists (g : Network) (P : List ℕ) (q k : ℕ) (old new : List ℕ) (r : Listing) : Type 0 where
  pub list : List ℕ
  pub sized : r.length ≡ length list
  pub answers : new ≡ answered list old
  pub ascending : Ascending list
  pub members : (p : ℕ) → Memᴰ p list ↔ OnList g P q k p

-- the count is that of the steps; and the visits are the steps, then the old entries
pub record Counts (g : Network) (P : List ℕ) (q k : ℕ) (r : Listing) : Type 0 where
  pub steps : List ℕ
  pub are : AreSteps g P q k steps
  pub counted : r.count ≡ length steps

pub record ListsSteps (g : Network) (P : List ℕ) (q k : ℕ) (old new : List ℕ) (r : Listing) : Type 0 where
  pub count : Counts g P q k r
  pub visits : new ≡ answered count.steps old

-- What a search with number 0 has written, whatever it was lent: eager; lazy and lazy-EP, which have one contract; the short query, with its own k (Ask 10);
-- and the table query, where the table check says yes of the table that it was lent. Each clause is read alone.
pub record Demand2 (g : Network) (P : List ℕ) (q k : ℕ) (scratch old scratch' new : List ℕ) (r : Listing) : Type 0 where
  pub eager : (limit : ℕ) (visits visits' : List ℕ) → EagerExported (eager_outcome g P q k limit scratch old visits) r scratch' new visits' → r.number ≡ 0
      → Lists g P q k old new r × ListsSteps g P q k visits visits' r
  pub lazy : SearchExported (lazy_outcome g P q k scratch old) r scratch' new → r.number ≡ 0 → Lists g P q k old new r
  pub short : SearchExported (short_outcome g P q scratch old) r scratch' new → r.number ≡ 0 → Lists g P q short_k old new r × Counts g P q short_k r
  pub by_table : (K : ℕ) (ids distances : List ℕ) → (rule_verdict (table_check_answer g P K ids distances)).yes ≡ 1
      → TableQueryExported g P q k K (record { ids = ids; distances = distances; scratch = scratch; answers = old }) scratch' new r → r.number ≡ 0
      → Lists g P q k old new r

abbrev pub demand_2 : Type 0
demand_2 = (g : Network) (P : List ℕ) (q k : ℕ) (scratch old scratch' new : List ℕ) (r : Listing) → Demand2 g P q k scratch old scratch' new r
