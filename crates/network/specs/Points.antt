-- Document 01, 'What a site receives': the points, who is listed for a site, and how many nodes eager expands.
-- Assumes nothing.
use Rattle.std.specs.Prelude.{ℕ, ◌+◌, ◌-◌, Bool, not, ◌&&◌, List, eqb, ltb, get_or, set}
use Rattle.network.specs.Network.{Network, node_count}
use Rattle.network.specs.Distance.{NONE, dist}
use Rattle.network.specs.Count.{count, bit, sum_over, select}

-- 'A point byte becomes the number of lockers there, 0 to 15' (Ask 8): how many stand at a node, and whether any does
abbrev pub lockers : List ℕ → ℕ → ℕ
lockers P p = get_or P p 0

abbrev pub marked : List ℕ → ℕ → Bool
marked P p = ltb 0 (lockers P p)

-- 'Insert adds one, remove takes one' (Ask 8)
abbrev pub more_at : List ℕ → ℕ → List ℕ
more_at P x = set P x (lockers P x + 1)

abbrev pub fewer_at : List ℕ → ℕ → List ℕ
fewer_at P x = set P x (lockers P x - 1)

-- the nodes p with a locker and d(m, p) < e, and how many lockers they have: 'Each counts'; 'strictly nearer': an equal distance never counts
unfoldable pub is_nearer : Network → List ℕ → ℕ → ℕ → ℕ → Bool
is_nearer g P m e p = marked P p && ltb (dist g m p) e

unfoldable pub count_nearer : Network → List ℕ → ℕ → ℕ → ℕ
count_nearer g P m e = sum_over (is_nearer g P m e) (lockers P) (node_count g)

-- how many other lockers p' have d(p, p') < e: 'a locker has its companions on the node as others at distance 0', and itself 'doesn't count'
abbrev pub others_at : List ℕ → ℕ → ℕ → ℕ
others_at P p x = lockers P x - bit (eqb x p)

unfoldable pub others_nearer : Network → List ℕ → ℕ → ℕ → ℕ
others_nearer g P p e = sum_over (is_nearer g P p e) (others_at P p) (node_count g)

-- Verify: 'Verify of the point on q says no' (Ask 6), and else 'it can be reached from q and fewer than k other points p' have d(p, p') < d(p, q)'.
-- Roads run both ways, so p can be reached from q exactly if q can be from p (`dist_symmetric`).
unfoldable pub verified : Network → List ℕ → ℕ → ℕ → ℕ → Bool
verified g P p q k =
    let d = dist g p q in
    not (eqb p q) && (not (eqb d NONE) && ltb (others_nearer g P p d) k)

-- 'For query node q and k, point p is listed if' so: 'a point on q isn't listed' (Ask 6), nor one of several there. 'Lists are ascending by node'; 'a
-- node is listed once, as its lockers fare alike'.
unfoldable pub is_listed : Network → List ℕ → ℕ → ℕ → ℕ → Bool
is_listed g P q k p = marked P p && verified g P p q k

unfoldable pub listed : Network → List ℕ → ℕ → ℕ → List ℕ
listed g P q k = select (is_listed g P q k) (node_count g)

-- Eager's count: 'the number of nodes m that can be reached from q and have fewer than k points p (one on m included) with d(m, p) < d(m, q)': it
-- counts lockers
unfoldable pub is_expanded : Network → List ℕ → ℕ → ℕ → ℕ → Bool
is_expanded g P q k m =
    let d = dist g m q in
    not (eqb d NONE) && ltb (count_nearer g P m d) k

unfoldable pub expanded : Network → List ℕ → ℕ → ℕ → ℕ
expanded g P q k = count (is_expanded g P q k) (node_count g)

-- 'The short query takes k = 2 from now on' (Ask 10): its k; no other definition says it
abbrev pub short_k : ℕ
short_k = 2

-- 12: 'eager: the expanded count would exceed the limit'
unfoldable pub exceeds_limit : Network → List ℕ → ℕ → ℕ → ℕ → Bool
exceeds_limit g P q k limit = ltb limit (expanded g P q k)
