-- Document 01, 'Numbers of refusal': the number of each call, 'the first met' of its conditions in the document's order; and the lists of conditions
-- that several calls begin with.
-- Assumes nothing.
use Rattle.std.specs.Prelude.{ℕ, List, [], ◌∷◌, length}
use Rattle.network.specs.Network.{Network, node_count}
use Rattle.network.specs.Check.{network_number}
use Rattle.network.specs.Scratch.{eager_words, scratch_words}
use Rattle.conditions.specs.Conditions.{first_number, points_number, node_number, table_number, k_number, table_k_number, short_number, unmarked_number, kind_number}
use Rattle.conditions.specs.declared.kind.Kind.{Kind}

-- what every call with points tests first: 1 to 5, 6
unfoldable pub network_points_number : Network → List ℕ → ℕ
network_points_number g P =
    first_number
    (network_number g
    ∷ points_number (node_count g) P
    ∷ [])

-- what the calls with points and a node test first: 7 too
unfoldable pub site_number : Network → List ℕ → ℕ → ℕ
site_number g P node =
    first_number
    (network_points_number g P
    ∷ node_number (node_count g) node
    ∷ [])

-- what nearest, lazy and lazy-EP test first: 9, and 10 of scratch too, where m is k
unfoldable pub query_number : Network → List ℕ → ℕ → ℕ → List ℕ → ℕ
query_number g P node k scratch =
    first_number
    (site_number g P node
    ∷ k_number k
    ∷ short_number (length scratch) (scratch_words g k)
    ∷ [])

-- distances: 1 to 5, 7, 10; m is 1
unfoldable pub distances_number : Network → ℕ → List ℕ → List ℕ → ℕ
distances_number g node scratch answers =
    first_number
    (network_number g
    ∷ node_number (node_count g) node
    ∷ short_number (length scratch) (scratch_words g 1)
    ∷ short_number (length answers) (node_count g)
    ∷ [])

-- nearest: 1 to 5, 6, 7, 9, 10; m is k
unfoldable pub nearest_number : Network → List ℕ → ℕ → ℕ → List ℕ → List ℕ → List ℕ → ℕ
nearest_number g P node k scratch ids distances =
    first_number
    (query_number g P node k scratch
    ∷ short_number (length ids) k
    ∷ short_number (length distances) k
    ∷ [])

-- verify: 1 to 5, 6, 7 (p, then q), 9, 10 (12 × n: Ask 5), 11
unfoldable pub verify_number : Network → List ℕ → ℕ → ℕ → ℕ → List ℕ → ℕ
verify_number g P p q k scratch =
    first_number
    (site_number g P p
    ∷ node_number (node_count g) q
    ∷ k_number k
    ∷ short_number (length scratch) (eager_words g)
    ∷ unmarked_number P p
    ∷ [])

-- lazy and lazy-EP: 1 to 5, 6, 7, 9, 10; m is k
unfoldable pub search_number : Network → List ℕ → ℕ → ℕ → List ℕ → List ℕ → ℕ
search_number g P q k scratch answers =
    first_number
    (query_number g P q k scratch
    ∷ short_number (length answers) (node_count g)
    ∷ [])

-- the short query, and eager first: 1 to 5, 6, 7, 9, 10, which compares with 12 × n for every k (Ask 5)
unfoldable pub limited_number : Network → List ℕ → ℕ → ℕ → List ℕ → List ℕ → ℕ
limited_number g P q k scratch answers =
    first_number
    (site_number g P q
    ∷ k_number k
    ∷ short_number (length scratch) (eager_words g)
    ∷ short_number (length answers) (node_count g)
    ∷ [])

-- what eager tests: '10 if the new list's array is shorter than n' too (Ask 4)
unfoldable pub eager_number : Network → List ℕ → ℕ → ℕ → List ℕ → List ℕ → List ℕ → ℕ
eager_number g P q k scratch answers steps =
    first_number
    (limited_number g P q k scratch answers
    ∷ short_number (length steps) (node_count g)
    ∷ [])

-- what the table check tests, and build first: 1 to 5, 6, 8
unfoldable pub table_check_number : Network → List ℕ → ℕ → List ℕ → List ℕ → ℕ
table_check_number g P K ids distances =
    first_number
    (network_points_number g P
    ∷ table_number (node_count g) K (length ids) (length distances)
    ∷ [])

-- what build tests: 10 of scratch too, where m is K
unfoldable pub build_number : Network → List ℕ → ℕ → List ℕ → List ℕ → List ℕ → ℕ
build_number g P K scratch ids distances =
    first_number
    (table_check_number g P K ids distances
    ∷ short_number (length scratch) (scratch_words g K)
    ∷ [])

-- what the calls with a node and a table test first: 1 to 5, 6, 7, 8
unfoldable pub table_node_number : Network → List ℕ → ℕ → ℕ → List ℕ → List ℕ → ℕ
table_node_number g P node K ids distances =
    first_number
    (site_number g P node
    ∷ table_number (node_count g) K (length ids) (length distances)
    ∷ [])

-- insert and remove: 1 to 5, 6, 7, 8, 10, 11; m is K
unfoldable pub change_number : Kind → Network → List ℕ → ℕ → ℕ → List ℕ → List ℕ → List ℕ → ℕ
change_number kind g P node K scratch ids distances =
    first_number
    (table_node_number g P node K ids distances
    ∷ short_number (length scratch) (scratch_words g K)
    ∷ kind_number kind P node
    ∷ [])

-- what the table query tests: 9 and 10 too, where m is k
unfoldable pub table_query_number : Network → List ℕ → ℕ → ℕ → ℕ → List ℕ → List ℕ → List ℕ → List ℕ → ℕ
table_query_number g P q k K ids distances scratch answers =
    first_number
    (table_node_number g P q K ids distances
    ∷ table_k_number k K
    ∷ short_number (length scratch) (scratch_words g k)
    ∷ short_number (length answers) (node_count g)
    ∷ [])
