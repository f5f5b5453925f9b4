-- The tag of a search's entry: its node and its parent, the node whose arc led there, in one word. Both are below 65,536, so tags go by node and
-- then by parent. (The table's offers, and those of lazy-EP's second expansion, have a point in place of the node, and the node of the row in place of
-- the parent.)
-- Assumes nothing.
use Rattle.std.specs.Prelude.{ℕ, ◌+◌, ◌*◌, ◌/◌, ◌%◌}

abbrev pub tag_of : ℕ → ℕ → ℕ
tag_of node parent = node * 65536 + parent

abbrev pub tag_node : ℕ → ℕ
tag_node tag = tag / 65536

abbrev pub tag_parent : ℕ → ℕ
tag_parent tag = tag % 65536

-- the node of the entry with the key
abbrev pub node_of : ℕ → ℕ
node_of key = tag_node (key % 4294967296)
