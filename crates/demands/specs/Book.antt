-- Document 01, 'The plain book'. It is fed the build's network, marks and K, then each call's kind, node, K and scratch length.
-- Assumes nothing.
use Rattle.std.specs.Prelude.{ℕ, ◌*◌, List, [], ◌∷◌}
use Rattle.network.specs.Network.{Network, node_count}
use Rattle.network.specs.Rows.{rows_changed}
use Rattle.conditions.specs.declared.kind.Kind.{Kind}
use Rattle.conditions.specs.declared.answers.Update.{Update}
use Rattle.conditions.specs.Conditions.{first_number, by_number, node_number, table_number, short_number, kind_number}
use Rattle.network.specs.Scratch.{scratch_words}
use Rattle.table_calls.specs.Updated.{kind_marks}

-- 'each call's kind, node, K and scratch length'
pub record Call : Type 0 where
  pub kind : Kind
  pub node : ℕ
  pub places : ℕ
  pub scratch_length : ℕ

-- 'For each call it tries 7, 8, 10 and 11 in this order, 8 on the call's K with table arrays as long as the build's, 11 on its own marks', which
-- are bytes now: 'Insert adds one, remove takes one, in the plain book of document 01 too' (Ask 8).
unfoldable pub book_number : Network → ℕ → List ℕ → Call → ℕ
book_number g K P c =
    first_number
    (node_number (node_count g) c.node
    ∷ table_number (node_count g) c.places (node_count g * K) (node_count g * K)
    ∷ short_number c.scratch_length (scratch_words g c.places)
    ∷ kind_number c.kind P c.node
    ∷ [])

-- 'The first met is the call's number; the marks stay and the changed count is 0. With none met the number is 0, [..] and the changed count is the
-- number of nodes whose row, by the rule under the table, differs between the marks before and after.'
pub record Page : Type 0 where
  pub answer : Update
  pub marks : List ℕ

unfoldable pub book_call : Network → ℕ → List ℕ → Call → Page
book_call g K P c =
    by_number (book_number g K P c)
    (record { answer = record { number = book_number g K P c; changed = 0 }; marks = P })
    (record {
      answer = record { number = 0; changed = rows_changed g P (kind_marks c.kind P c.node) K };
      marks = kind_marks c.kind P c.node;
    })

-- 'Its state is one mark a node, at first the build's', how many lockers stand there: the answers to a list of calls, and the marks after it
unfoldable pub book_answers : Network → ℕ → List ℕ → List Call → List Update
book_answers g K P [] = []
book_answers g K P (c ∷ cs) = (book_call g K P c).answer ∷ book_answers g K (book_call g K P c).marks cs

unfoldable pub book_marks : Network → ℕ → List ℕ → List Call → List ℕ
book_marks g K P [] = P
book_marks g K P (c ∷ cs) = book_marks g K (book_call g K P c).marks cs
