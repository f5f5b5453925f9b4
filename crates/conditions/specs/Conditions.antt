-- Document 01, 'Numbers of refusal', 6 to 12, and document 02's 14: the number of each condition, 0 where it is not met; and the first number of several.
-- 1 to 5 are the network's own (network, Check).
-- Assumes nothing.
use Rattle.std.specs.Prelude.{ℕ, ◌*◌, Bool, cond, not, ◌||◌, List, [], ◌∷◌, map, eqb, ltb, leb, length, get_or}
use Rattle.network.specs.Count.{any}
use Rattle.network.specs.Network.{Network}
use Rattle.network.specs.Points.{lockers, marked, exceeds_limit}
use Rattle.network.specs.Routes.{bad_route}
use Rattle.conditions.specs.declared.kind.Kind.{Kind}
use Rattle.conditions.specs.declared.kind.Kind.TheVariants.{Insert, Remove}

-- 'Conditions are tried from 1 upward, those whose subject the call has; the first met is returned'
unfoldable pub first_number : List ℕ → ℕ
first_number [] = 0
first_number (x ∷ xs) = cond (eqb x 0) (first_number xs) x

-- 'the first met is returned, and a number is returned only then': what a call of this number leaves, refused or accepted
abbrev pub by_number : {A : Type 0} → ℕ → A → A → A
by_number number refused accepted = cond (eqb number 0) accepted refused

-- 6: 'points has not n entries, or a byte above' 15, as '6 allows bytes up to 15' (Ask 8)
unfoldable pub bad_byte_at : List ℕ → ℕ → Bool
bad_byte_at P i = ltb 15 (get_or P i 0)

unfoldable pub points_number : ℕ → List ℕ → ℕ
points_number n P = cond (not (eqb (length P) n) || any (bad_byte_at P) (length P)) 6 0

-- 7: 'a node given is n or more'
unfoldable pub node_number : ℕ → ℕ → ℕ
node_number n v = cond (leb n v) 7 0

-- '7 for each node of the list' (Ask 7)
unfoldable pub nodes_number : ℕ → List ℕ → ℕ
nodes_number n R = first_number (map (node_number n) R)

-- 8: 'K not 2 to 17, or a table array not n × K long', of arrays of so many ids and distances
unfoldable pub table_number : ℕ → ℕ → ℕ → ℕ → ℕ
table_number n K idCount distanceCount = cond (ltb K 2 || ltb 17 K || not (eqb idCount (n * K)) || not (eqb distanceCount (n * K))) 8 0

-- 9: 'k is 0 or above 16'
unfoldable pub k_number : ℕ → ℕ
k_number k = cond (eqb k 0 || ltb 16 k) 9 0

-- 9: 'by table, above K - 1'
unfoldable pub table_k_number : ℕ → ℕ → ℕ
table_k_number k K = cond (eqb k 0 || leb K k) 9 0

-- 10: 'scratch shorter than S, or an array for answers shorter than n (nearest: than k)'; 'compares with 12 × n for' eager, verify and the short query
-- (Ask 5): an array of `have` entries where `need` are asked
unfoldable pub short_number : ℕ → ℕ → ℕ
short_number have need = cond (ltb have need) 10 0

-- 11: 'insert at 15, remove or verify at 0' (Ask 8). Bytes above 15 are 6's.
unfoldable pub full_number : List ℕ → ℕ → ℕ
full_number P p = cond (leb 15 (lockers P p)) 11 0

unfoldable pub unmarked_number : List ℕ → ℕ → ℕ
unmarked_number P p = cond (marked P p) 0 11

-- by the kind of the call that changes the table
abbrev pub kind_number : Kind → List ℕ → ℕ → ℕ
kind_number Insert P node = full_number P node
kind_number Remove P node = unmarked_number P node

-- 12: 'eager: the expanded count would exceed the limit'
abbrev pub over_limit : ℕ
over_limit = 12

unfoldable pub limit_number : Network → List ℕ → ℕ → ℕ → ℕ → ℕ
limit_number g P q k limit = cond (exceeds_limit g P q k limit) over_limit 0

-- '14, after 12, if the list is empty or two nodes in sequence have no road' (Ask 7)
unfoldable pub route_number : Network → List ℕ → ℕ
route_number g R = cond (bad_route g R) 14 0
