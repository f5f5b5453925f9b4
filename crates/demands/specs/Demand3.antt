-- Demand 3: 'a single claim about the whole list, not one for each call; the list may be empty'. It speaks of the records that the public contracts
-- ensure. The theorem is proofs/Demand3.antt's.
-- Assumes nothing.
use Rattle.std.specs.Prelude.{ℕ, ◌≤◌, ◌<◌, ◌≡◌, ◌≢◌, ◌⊎◌, List, [], ◌∷◌, length, take, replicate}
use Rattle.network.specs.Network.{Network, node_count}
use Rattle.network.specs.Rows.{table_ids, table_distances, Sized}
use Rattle.network.specs.Points.{listed, expanded, short_k}
use Rattle.network.specs.Visits.{visits}
use Rattle.network.specs.Answers.{answered}
use Rattle.network.specs.Scratch.{eager_words, scratch_words}
use Rattle.conditions.specs.declared.answers.Update.{Update}
use Rattle.conditions.specs.declared.answers.Listing.{Listing}
use Rattle.conditions.specs.declared.kind.Kind.{Kind}
use Rattle.numbers.specs.Numbers.{build_number}
use Rattle.table_calls.specs.Build.{build_outcome}
use Rattle.table_calls.specs.Updated.{Arrays, ChangeExported}
use Rattle.site_calls.specs.Eager.{eager_outcome, short_outcome}
use Rattle.site_calls.specs.Lazy.{lazy_outcome}
use Rattle.table_calls.specs.TableQuery.{TableQueryExported}
use Rattle.site_calls.specs.Exported.{SearchExported, EagerExported}
use Rattle.demands.specs.Book.{Call, book_answers, book_marks}

-- an array of ours after a call that was lent `lent` and left `left`: it was that array, or another
abbrev pub OursAfter : List ℕ → List ℕ → List ℕ → List ℕ → Type 0
OursAfter ours lent left after = ((lent ≡ ours) × (after ≡ left)) ⊎ (after ≡ ours)

-- 'Its first call is lent the network and the marks that the build was lent and the table that it wrote, each later one these as the last call left
-- them. A call's node, K and scratch may be any. Refused calls lent another network, other marks or other table arrays may come in between'
pub data Run (g : Network) : List ℕ → List ℕ → List ℕ → List Call → List Update → List ℕ → List ℕ → List ℕ → Type 0 where
  ends : {P ids distances : List ℕ} → Run g P ids distances [] [] P ids distances
  call : {P ids distances : List ℕ} {c : Call} {cs : List Call} {r : Update} {rs : List Update} {P' ids' distances' : List ℕ}
      (scratch : List ℕ) (new : Arrays)
      → length scratch ≡ c.scratch_length
      → ChangeExported c.kind g c.node c.places (record { points = P; scratch = scratch; ids = ids; distances = distances }) new r
      → Run g new.points new.ids new.distances cs rs P' ids' distances'
      → Run g P ids distances (c ∷ cs) (r ∷ rs) P' ids' distances'
  foreign : {P ids distances P₁ ids₁ distances₁ : List ℕ} {cs : List Call} {rs : List Update} {P' ids' distances' : List ℕ}
      (kind : Kind) (other : Network) (node K : ℕ) (old new : Arrays) (r : Update)
      → ChangeExported kind other node K old new r
      → r.number ≢ 0
      → OursAfter P old.points new.points P₁
      → OursAfter ids old.ids new.ids ids₁
      → OursAfter distances old.distances new.distances distances₁
      → Run g P₁ ids₁ distances₁ cs rs P' ids' distances'
      → Run g P ids distances cs rs P' ids' distances'

-- a search says number 0 and writes the list of the site q
pub record Quotes (g : Network) (P : List ℕ) (q k : ℕ) (old new : List ℕ) (r : Listing) : Type 0 where
  pub number : r.number ≡ 0
  pub sized : r.length ≡ length (listed g P q k)
  pub answers : new ≡ answered (listed g P q k) old

-- 'The searches are then lent this network, these marks and arrays that 10 lets pass; the table query also the table with the build's K, eager a limit
-- of at least its expanded count.' What 10 lets pass is 12 × n entries of scratch for eager (Ask 5), S for the others. Whatever they leave by their
-- contracts is the one list, 'judged by the new wording' (Ask 6): `listed`, without a point on q; and eager's count and visits are the definitions'. Each
-- clause is read alone, over any arrays.
pub record Agree (g : Network) (P : List ℕ) (K : ℕ) (ids distances : List ℕ) (q k : ℕ) (scratch old scratch' new : List ℕ) (r : Listing) : Type 0 where
  pub eager :
      eager_words g ≤ length scratch → (limit : ℕ) → expanded g P q k ≤ limit → (steps steps' : List ℕ) → node_count g ≤ length steps
      → EagerExported (eager_outcome g P q k limit scratch old steps) r scratch' new steps'
      → Quotes g P q k old new r × (r.count ≡ expanded g P q k) × (steps' ≡ answered (visits g P q k) steps)
  pub lazy : scratch_words g k ≤ length scratch → SearchExported (lazy_outcome g P q k scratch old) r scratch' new → Quotes g P q k old new r
  pub by_table : scratch_words g k ≤ length scratch → k < K
      → TableQueryExported g P q k K (record { ids = ids; distances = distances; scratch = scratch; answers = old }) scratch' new r → Quotes g P q k old new r

-- an accepted call of eager, whatever limit, scratch and arrays it was lent: it returned r and left `left` in the array for the visits
pub record EagerCall (g : Network) (P : List ℕ) (q k : ℕ) (r : Listing) (left : List ℕ) : Type 0 where
  pub limit : ℕ
  pub scratch : List ℕ
  pub old : List ℕ
  pub steps : List ℕ
  pub scratch_after : List ℕ
  pub answers_after : List ℕ
  pub exported : EagerExported (eager_outcome g P q k limit scratch old steps) r scratch_after answers_after left
  pub accepted : r.number ≡ 0

-- Ask 4, 'the same steps on both machines': two such calls for one site and k count alike and write the same visits. The steps of a call are the first
-- `count` entries of its array for the visits.
abbrev pub SameSteps : Network → List ℕ → Type 0
SameSteps g P =
    (q k : ℕ) (a b : Listing) (visits-a visits-b : List ℕ) → EagerCall g P q k a visits-a → EagerCall g P q k b visits-b
    → (a.count ≡ b.count) × (take a.count visits-a ≡ take b.count visits-b)

-- Each call's number and changed count equal the book's. 'After the list the lent marks equal the book's, [..] and both table arrays hold the rows of
-- those marks', and the searches agree, those without a table for every k. Lazy and lazy-EP have one contract.
pub record Demand3 (g : Network) (P₀ : List ℕ) (K : ℕ) (calls : List Call) (answers : List Update) (P ids distances : List ℕ) : Type 0 where
  pub answered_so : answers ≡ book_answers g K P₀ calls
  pub marks : P ≡ book_marks g K P₀ calls
  pub table_ids_lem : ids ≡ table_ids g P K
  pub table_distances_lem : distances ≡ table_distances g P K
  pub agree : (q k : ℕ) → q < node_count g → 1 ≤ k → k ≤ 16 → (scratch old scratch' new : List ℕ) (r : Listing)
      → node_count g ≤ length old → Agree g P K ids distances q k scratch old scratch' new r
  -- the short query is eager with its own k (Ask 10) and limit 65,535, which no count exceeds
  pub short : (q : ℕ) → q < node_count g → (scratch old scratch' new : List ℕ) (r : Listing) → eager_words g ≤ length scratch → node_count g ≤ length old
      → SearchExported (short_outcome g P q scratch old) r scratch' new → Quotes g P q short_k old new r × (r.count ≡ expanded g P q short_k)
  -- both machines take the same steps
  pub steps : SameSteps g P
  -- the table is as built afresh: build, lent these marks, is accepted and writes the same arrays
  pub afresh : (scratch a b : List ℕ) → scratch_words g K ≤ length scratch → Sized g K a b
      → build_outcome g P K scratch a b ≡ record { number = 0; scratch = replicate (length scratch) 0; ids = ids; distances = distances }

-- after an accepted build, for every list
abbrev pub demand_3 : Type 0
demand_3 = (g : Network) (P₀ : List ℕ) (K : ℕ) (scratch ids distances : List ℕ) → build_number g P₀ K scratch ids distances ≡ 0
    → (calls : List Call) (answers : List Update) (P ids' distances' : List ℕ)
    → Run g P₀ (build_outcome g P₀ K scratch ids distances).ids (build_outcome g P₀ K scratch ids distances).distances calls answers P ids' distances'
    → Demand3 g P₀ K calls answers P ids' distances'
