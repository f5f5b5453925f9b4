-- What a call's number 0 leaves: no condition of the call is met.
-- Assumes nothing.
use Prim.Native.Nat.{ℕ, ◌≤◌, ◌<◌}
use mathlib.Core.Path.{◌≡◌, refl, sym}
use mathlib.Core.Bool.{Bool, true, false, cond}
use mathlib.Core.List.{List, []}
use native.Mathlib.Omega.{arith}
use lib.Dec.{leb}
use lib.ListN.{length}
use borrow.Author.Tests.{leb-false}
use Rattle.network.specs.Network.{Network, node_count, arc_count}
use Rattle.network.specs.Accepted.{Accepted}
use Rattle.network.specs.Check.{network_number}
use Rattle.network.specs.Points.{lockers, marked}
use Rattle.network.proofs.NumberZero.{number_zero}
use Rattle.network.specs.Scratch.{eager_words, scratch_words}
use Rattle.conditions.specs.declared.kind.Kind.{Kind}
use Rattle.conditions.specs.declared.kind.Kind.TheVariants.{Insert, Remove}
use Rattle.conditions.specs.Conditions.{points_number, node_number, table_number, k_number, table_k_number, short_number, full_number, unmarked_number, kind_number}
use Rattle.numbers.specs.Numbers.{network_points_number, site_number, query_number, distances_number, nearest_number, verify_number, search_number, limited_number, eager_number, table_check_number, build_number, table_node_number, change_number, table_query_number}
use Rattle.conditions.proofs.NotMet.{first_zero, number_none, points_ready, node_ready, k_ready, table_ready, short_ready, table_k_ready}
use Rattle.numbers.specs.Ready.{DistancesReady, QueryReady, NearestReady, SearchReady, LimitedReady, VerifyReady, TableReady, BuildReady, KindReady, ChangeReady, TableQueryReady}

-- the lists that several calls begin with
pub network_points_ready : (g : Network) (P : List ℕ) → network_points_number g P ≡ 0 → Accepted g × (length P ≡ node_count g)
unfolding network_points_number
network_points_ready g P e =
    let a = first_zero (network_number g) _ e in
    let b = first_zero (points_number (node_count g) P) [] a.1 in
    ((number_zero g).0 a.0, points_ready (node_count g) P b.0)

pub site_ready : (g : Network) (P : List ℕ) (node : ℕ) → site_number g P node ≡ 0 → Accepted g × (length P ≡ node_count g) × (node < node_count g)
unfolding site_number
site_ready g P node e =
    let a = first_zero (network_points_number g P) _ e in
    let b = first_zero (node_number (node_count g) node) [] a.1 in
    let r = network_points_ready g P a.0 in
    (r.0, r.1, node_ready (node_count g) node b.0)

-- each call
pub distances_ready : (g : Network) (node : ℕ) (scratch answers : List ℕ) → distances_number g node scratch answers ≡ 0 → DistancesReady g node scratch answers
unfolding distances_number
distances_ready g node scratch answers e =
    let a = first_zero (network_number g) _ e in
    let b = first_zero (node_number (node_count g) node) _ a.1 in
    let c = first_zero (short_number (length scratch) (scratch_words g 1)) _ b.1 in
    let d = first_zero (short_number (length answers) (node_count g)) [] c.1 in
    record {
      accepted = (number_zero g).0 a.0;
      inside = node_ready (node_count g) node b.0;
      room = short_ready (length scratch) (scratch_words g 1) c.0;
      places = short_ready (length answers) (node_count g) d.0;
    }

pub query_ready : (g : Network) (P : List ℕ) (node k : ℕ) (scratch : List ℕ) → query_number g P node k scratch ≡ 0 → QueryReady g P node k scratch
unfolding query_number
query_ready g P node k scratch e =
    let a = first_zero (site_number g P node) _ e in
    let b = first_zero (k_number k) _ a.1 in
    let c = first_zero (short_number (length scratch) (scratch_words g k)) [] b.1 in
    let s = site_ready g P node a.0 in
    let r = k_ready k b.0 in
    record {
      accepted = s.0;
      points = s.1;
      inside = s.2;
      some = r.0;
      few = r.1;
      room = short_ready (length scratch) (scratch_words g k) c.0;
    }

pub nearest_ready : (g : Network) (P : List ℕ) (node k : ℕ) (scratch ids distances : List ℕ) → nearest_number g P node k scratch ids distances ≡ 0
    → NearestReady g P node k scratch ids distances
unfolding nearest_number
nearest_ready g P node k scratch ids distances e =
    let a = first_zero (query_number g P node k scratch) _ e in
    let b = first_zero (short_number (length ids) k) _ a.1 in
    let c = first_zero (short_number (length distances) k) [] b.1 in
    record {
      query = query_ready g P node k scratch a.0;
      id_places = short_ready (length ids) k b.0;
      distance_places = short_ready (length distances) k c.0;
    }

pub search_ready : (g : Network) (P : List ℕ) (q k : ℕ) (scratch answers : List ℕ) → search_number g P q k scratch answers ≡ 0
    → SearchReady g P q k scratch answers
unfolding search_number
search_ready g P q k scratch answers e =
    let a = first_zero (query_number g P q k scratch) _ e in
    let b = first_zero (short_number (length answers) (node_count g)) [] a.1 in
    record { query = query_ready g P q k scratch a.0; places = short_ready (length answers) (node_count g) b.0 }

pub limited_ready : (g : Network) (P : List ℕ) (q k : ℕ) (scratch answers : List ℕ) → limited_number g P q k scratch answers ≡ 0
    → LimitedReady g P q k scratch answers
unfolding limited_number
limited_ready g P q k scratch answers e =
    let a = first_zero (site_number g P q) _ e in
    let b = first_zero (k_number k) _ a.1 in
    let c = first_zero (short_number (length scratch) (eager_words g)) _ b.1 in
    let d = first_zero (short_number (length answers) (node_count g)) [] c.1 in
    let s = site_ready g P q a.0 in
    record {
      accepted = s.0;
      points = s.1;
      inside = s.2;
      some = (k_ready k b.0).0;
      room = short_ready (length scratch) (eager_words g) c.0;
      places = short_ready (length answers) (node_count g) d.0;
    }

pub eager_ready : (g : Network) (P : List ℕ) (q k : ℕ) (scratch answers steps : List ℕ) → eager_number g P q k scratch answers steps ≡ 0
    → LimitedReady g P q k scratch answers × (node_count g ≤ length steps)
unfolding eager_number
eager_ready g P q k scratch answers steps e =
    let a = first_zero (limited_number g P q k scratch answers) _ e in
    let b = first_zero (short_number (length steps) (node_count g)) [] a.1 in
    (limited_ready g P q k scratch answers a.0, short_ready (length steps) (node_count g) b.0)

pub verify_ready : (g : Network) (P : List ℕ) (p q k : ℕ) (scratch : List ℕ) → verify_number g P p q k scratch ≡ 0 → VerifyReady g P p q k scratch
unfolding verify_number
verify_ready g P p q k scratch e =
    let a = first_zero (site_number g P p) _ e in
    let b = first_zero (node_number (node_count g) q) _ a.1 in
    let c = first_zero (k_number k) _ b.1 in
    let d = first_zero (short_number (length scratch) (eager_words g)) _ c.1 in
    let s = site_ready g P p a.0 in
    record {
      accepted = s.0;
      points = s.1;
      inside = s.2;
      inside_q = node_ready (node_count g) q b.0;
      room = short_ready (length scratch) (eager_words g) d.0;
    }

-- of an accepted network with a byte for each node, and 8
sized_ready : (g : Network) (P : List ℕ) (K : ℕ) (ids distances : List ℕ) → Accepted g → length P ≡ node_count g
    → table_number (node_count g) K (length ids) (length distances) ≡ 0 → TableReady g P K ids distances
sized_ready g P K ids distances a l e =
    let t = table_ready (node_count g) K (length ids) (length distances) e in
    record { accepted = a; points = l; least = t.0; most = t.1; sized = record { all_ids = t.2; all_dists = t.3 } }

pub table_check_ready : (g : Network) (P : List ℕ) (K : ℕ) (ids distances : List ℕ) → table_check_number g P K ids distances ≡ 0 → TableReady g P K ids distances
unfolding table_check_number
table_check_ready g P K ids distances e =
    let a = first_zero (network_points_number g P) _ e in
    let b = first_zero (table_number (node_count g) K (length ids) (length distances)) [] a.1 in
    let r = network_points_ready g P a.0 in
    sized_ready g P K ids distances r.0 r.1 b.0

pub build_ready : (g : Network) (P : List ℕ) (K : ℕ) (scratch ids distances : List ℕ) → build_number g P K scratch ids distances ≡ 0
    → BuildReady g P K scratch ids distances
unfolding build_number
build_ready g P K scratch ids distances e =
    let a = first_zero (table_check_number g P K ids distances) _ e in
    let b = first_zero (short_number (length scratch) (scratch_words g K)) [] a.1 in
    record { ready = table_check_ready g P K ids distances a.0; room = short_ready (length scratch) (scratch_words g K) b.0 }

-- of the same K by another name
pub ready_same : {g : Network} {P ids distances : List ℕ} {K L : ℕ} → L ≡ K → TableReady g P K ids distances → TableReady g P L ids distances
ready_same e r = rw e r

pub table_node_ready : (g : Network) (P : List ℕ) (node K : ℕ) (ids distances : List ℕ) → table_node_number g P node K ids distances ≡ 0
    → (node < node_count g) × TableReady g P K ids distances
unfolding table_node_number
table_node_ready g P node K ids distances e =
    let a = first_zero (site_number g P node) _ e in
    let b = first_zero (table_number (node_count g) K (length ids) (length distances)) [] a.1 in
    let r = site_ready g P node a.0 in
    (r.2, sized_ready g P K ids distances r.0 r.1 b.0)

-- 11 is not met: the byte is what the kind asks
pub kind_ready : (kind : Kind) (P : List ℕ) (node : ℕ) → kind_number kind P node ≡ 0 → KindReady kind P node
unfolding full_number unmarked_number
kind_ready Insert P node e = leb-false 15 (lockers P node) (number_none (leb 15 (lockers P node)) 11 (omega arith) e)
kind_ready Remove P node e = by (marked P node) e
  where
    by : (b : Bool) → ◌≡◌ {A = ℕ} (cond b 0 11) 0 → b ≡ true
    by true e = refl
    by false e = absurd (omega (arith, e))

pub change_ready : (kind : Kind) (g : Network) (P : List ℕ) (node K : ℕ) (scratch ids distances : List ℕ)
    → change_number kind g P node K scratch ids distances ≡ 0 → ChangeReady kind g P node K scratch ids distances
unfolding change_number
change_ready kind g P node K scratch ids distances e =
    let a = first_zero (table_node_number g P node K ids distances) _ e in
    let b = first_zero (short_number (length scratch) (scratch_words g K)) _ a.1 in
    let c = first_zero (kind_number kind P node) [] b.1 in
    let t = table_node_ready g P node K ids distances a.0 in
    record {
      inside = t.0;
      ready = t.1;
      room = short_ready (length scratch) (scratch_words g K) b.0;
      byte = kind_ready kind P node c.0;
    }

pub table_query_ready : (g : Network) (P : List ℕ) (q k K : ℕ) (ids distances scratch answers : List ℕ)
    → table_query_number g P q k K ids distances scratch answers ≡ 0 → TableQueryReady g P q k K ids distances scratch answers
unfolding table_query_number
table_query_ready g P q k K ids distances scratch answers e =
    let a = first_zero (table_node_number g P q K ids distances) _ e in
    let b = first_zero (table_k_number k K) _ a.1 in
    let c = first_zero (short_number (length scratch) (scratch_words g k)) _ b.1 in
    let d = first_zero (short_number (length answers) (node_count g)) [] c.1 in
    let t = table_node_ready g P q K ids distances a.0 in
    let m = table_k_ready k K b.0 in
    record {
      site = t.0;
      ready = t.1;
      some = m.0;
      few = m.1;
      room = short_ready (length scratch) (scratch_words g k) c.0;
      places = short_ready (length answers) (node_count g) d.0;
    }

-- ---- What the conditions behind a passed one ask: n, A and m are small. The number stands in front, so that `grind` finds the network of a passed test.

abbrev pub Small : Network → Type 0
Small g = (1 ≤ length g.starts) × (node_count g ≤ 65535) × (arc_count g ≤ 524288)

small : {g : Network} → Accepted g → Small g
small a = (omega (arith, a.some), a.few, a.few_arcs)

pub network_passed : (g : Network) → 0 ≡ network_number g → (network_number g ≡ 0) × (Small g)
network_passed g e = (sym e, small ((number_zero g).0 (sym e)))

pub points_passed : (g : Network) (P : List ℕ) → 0 ≡ network_points_number g P → (network_points_number g P ≡ 0) × (Small g)
points_passed g P e = (sym e, small (network_points_ready g P (sym e)).0)

pub site_passed : (g : Network) (P : List ℕ) (node : ℕ) → 0 ≡ site_number g P node → (site_number g P node ≡ 0) × (Small g)
site_passed g P node e = (sym e, small (site_ready g P node (sym e)).0)

pub query_passed : (g : Network) (P : List ℕ) (node k : ℕ) (scratch : List ℕ) → 0 ≡ query_number g P node k scratch → (query_number g P node k scratch ≡ 0) × (Small g)
query_passed g P node k scratch e = (sym e, small (query_ready g P node k scratch (sym e)).accepted)

pub limited_passed : (g : Network) (P : List ℕ) (q k : ℕ) (scratch answers : List ℕ) → 0 ≡ limited_number g P q k scratch answers
    → (limited_number g P q k scratch answers ≡ 0) × (Small g)
limited_passed g P q k scratch answers e = (sym e, small (limited_ready g P q k scratch answers (sym e)).accepted)

pub table_check_passed : (g : Network) (P : List ℕ) (K : ℕ) (ids distances : List ℕ) → 0 ≡ table_check_number g P K ids distances
    → (table_check_number g P K ids distances ≡ 0) × (Small g) × (K ≤ 17)
table_check_passed g P K ids distances e = let r = table_check_ready g P K ids distances (sym e) in (sym e, small r.accepted, r.most)

pub table_node_passed : (g : Network) (P : List ℕ) (node K : ℕ) (ids distances : List ℕ) → 0 ≡ table_node_number g P node K ids distances
    → (table_node_number g P node K ids distances ≡ 0) × (Small g) × (K ≤ 17)
table_node_passed g P node K ids distances e = let r = (table_node_ready g P node K ids distances (sym e)).1 in (sym e, small r.accepted, r.most)

pub k_passed : (k : ℕ) → 0 ≡ k_number k → (k_number k ≡ 0) × (k ≤ 16)
k_passed k e = (sym e, (k_ready k (sym e)).1)

pub table_k_passed : (k K : ℕ) → 0 ≡ table_k_number k K → (table_k_number k K ≡ 0) × (k < K)
table_k_passed k K e = (sym e, (table_k_ready k K (sym e)).1)
