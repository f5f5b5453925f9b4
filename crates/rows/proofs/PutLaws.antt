-- Laws of putting one entry into a row: its place, the shift behind it, and the row then as a list.
-- Assumes nothing.
use Prim.Native.Nat.{ℕ, zero, suc, ◌+◌, ◌-◌, ◌≤◌, ◌<◌}
use mathlib.Core.Path.{◌≡◌, refl, sym, ap, ◌∙◌}
use mathlib.Core.Bool.{true, false, false≢true}
use mathlib.Core.List.{List, [], ◌∷◌, ◌++◌}
use native.Mathlib.Nat.{le_of_suc-le-suc}
use native.Mathlib.Numerals.{add-one}
use native.Mathlib.Decide.{dec_le}
use native.Mathlib.Omega.{arith}
use lib.ListN.{length, take, drop, set, replicate}
use lib.Seq.{drop-length}
use Rattle.std.specs.List.{copy_within}
use Rattle.std.proofs.lemmas.List.{append-nil}
use borrow.Author.Tests.{lt-ltb, le-ltb}
use Rattle.network.specs.Distance.{NONE}
use Rattle.network.specs.Nearest.{key, insert}
use Rattle.network.specs.Rows.{pad}
use Rattle.network.proofs.Insert.{insert_behind, insert_before, insert_length}
use Rattle.rows.specs.Flat.{place, places}
use Rattle.rows.specs.Put.{takes, insert_at, FirstBehind, NoneBehind}

-- ---- The shift: what stands from the place on is copied up by one, and v is stored at the place.
moved_up : (n v : ℕ) (xs : List ℕ) → n ≡ length xs → take n (v ∷ xs) ≡ insert_at 0 v xs
unfolding insert_at
moved_up n v [] e = rw e
moved_up n v (x ∷ xs) e = rw e (ap (λ (l : List ℕ). v ∷ l) (moved_up (length xs) x xs refl))

shifted_at : (j v n : ℕ) (xs : List ℕ) → n + suc j ≡ length xs → set (take (suc j) xs ++ take n (drop j xs)) j v ≡ insert_at j v xs
unfolding insert_at
shifted_at j v n [] e = absurd (omega arith)
shifted_at zero v n (x ∷ xs) e = ap (λ (l : List ℕ). v ∷ l) (moved_up n x xs (omega arith))
shifted_at (suc j) v n (x ∷ xs) e = ap (λ (l : List ℕ). x ∷ l) (shifted_at j v n xs (omega arith))

pub insert_shift : (j v : ℕ) (xs ys : List ℕ) → j < length xs → ys ≡ copy_within xs j (length xs - 1) (j + 1) → set ys j v ≡ insert_at j v xs
insert_shift j v xs ys h e =
    let q : (j + 1) + (length xs - 1 - j) ≡ length xs = omega arith in
    rw (e, q, drop-length xs, append-nil, add-one) (shifted_at j v (length xs - 1 - j) xs (omega arith))

pub insert_size : (k v : ℕ) (xs : List ℕ) → length (insert_at k v xs) ≡ length xs
unfolding insert_at
insert_size k v [] = refl
insert_size zero v (x ∷ xs) = ap suc (insert_size zero x xs)
insert_size (suc k) v (x ∷ xs) = ap suc (insert_size k v xs)

-- ---- The clauses of `takes`.
takes_behind : (x y : ℕ × ℕ) (ys : List (ℕ × ℕ)) → key y ≤ key x → takes x (y ∷ ys) ≡ takes x ys
unfolding takes
takes_behind x y ys h = rw (le-ltb (key x) (key y) h)

takes_before : (x y : ℕ × ℕ) (ys : List (ℕ × ℕ)) → key x < key y → takes x (y ∷ ys) ≡ true
unfolding takes
takes_before x y ys h = rw (lt-ltb (key x) (key y) h)

takes_nil : (x : ℕ × ℕ) → takes x [] ≡ false
unfolding takes
takes_nil x = refl

-- ---- The row in two lists: one list of pairs.
pub places_nil : (ids dists : List ℕ) (at : ℕ) → places ids dists at 0 ≡ []
unfolding places
places_nil ids dists at = refl

places_tail : (q e : ℕ) (qs es : List ℕ) (at k : ℕ) → places (q ∷ qs) (e ∷ es) (suc at) k ≡ places qs es at k
unfolding places
places_tail q e qs es at zero = refl
places_tail q e qs es at (suc k) = ap (λ (l : List (ℕ × ℕ)). place qs es at ∷ l) (places_tail q e qs es (suc at) k)

pub places_cons : (q e : ℕ) (qs es : List ℕ) (k : ℕ) → places (q ∷ qs) (e ∷ es) 0 (suc k) ≡ (q, e) ∷ places qs es 0 k
unfolding places
places_cons q e qs es k = ap (λ (l : List (ℕ × ℕ)). (q, e) ∷ l) (places_tail q e qs es 0 k)

insert_front : (v x : ℕ) (xs : List ℕ) → insert_at 0 v (x ∷ xs) ≡ v ∷ insert_at 0 x xs
unfolding insert_at
insert_front v x xs = refl

insert_later : (j v x : ℕ) (xs : List ℕ) → insert_at (suc j) v (x ∷ xs) ≡ x ∷ insert_at j v xs
unfolding insert_at
insert_later j v x xs = refl

-- all entries move up by one, behind (q, e)
moved : (q e : ℕ) (ids dists : List ℕ) → length dists ≡ length ids
    → places (insert_at 0 q ids) (insert_at 0 e dists) 0 (length ids) ≡ take (length ids) ((q, e) ∷ places ids dists 0 (length ids))
moved q e [] dists h = places_nil (insert_at 0 q []) (insert_at 0 e dists) 0
moved q e (a ∷ rest) [] h = absurd (omega arith)
moved q e (a ∷ rest) (b ∷ bs) h =
    rw (insert_front q a rest, insert_front e b bs, places_cons q e (insert_at 0 a rest) (insert_at 0 b bs) (length rest), places_cons a b rest bs (length rest))
    (ap (λ (l : List (ℕ × ℕ)). (q, e) ∷ l) (moved a b rest bs (omega arith)))

module _ (p d : ℕ) where
  later : {q e j : ℕ} {qs es : List ℕ} → FirstBehind (q ∷ qs) (e ∷ es) p d (suc j) → FirstBehind qs es p d j
  later o = record { low = le_of_suc-le-suc o.low; before = λ i h. o.before (suc i) (omega arith); behind = o.behind }

  -- what `put_in` leaves
  pub put_row : (j : ℕ) (ids dists : List ℕ) → length dists ≡ length ids → FirstBehind ids dists p d j
      → places (insert_at j p ids) (insert_at j d dists) 0 (length ids) ≡ take (length ids) (insert (p, d) (places ids dists 0 (length ids)))
  put_row j [] dists h o = absurd (omega (arith, o.low))
  put_row j (q ∷ qs) [] h o = absurd (omega arith)
  put_row zero (q ∷ qs) (e ∷ es) h o =
      rw (insert_front p q qs, insert_front d e es, places_cons p d (insert_at 0 q qs) (insert_at 0 e es) (length qs), places_cons q e qs es (length qs), insert_before (p, d) (q, e) (places qs es 0 (length qs)) o.behind)
      (ap (λ (l : List (ℕ × ℕ)). (p, d) ∷ l) (moved q e qs es (omega arith)))
  put_row (suc j) (q ∷ qs) (e ∷ es) h o =
      rw (insert_later j p q qs, insert_later j d e es, places_cons q e (insert_at j p qs) (insert_at j d es) (length qs), places_cons q e qs es (length qs), insert_behind (p, d) (q, e) (places qs es 0 (length qs)) (o.before zero (omega arith)))
      (ap (λ (l : List (ℕ × ℕ)). (q, e) ∷ l) (put_row j qs es (omega arith) (later o)))

  pub put_taken : (j : ℕ) (ids dists : List ℕ) → length dists ≡ length ids → FirstBehind ids dists p d j
      → true ≡ takes (p, d) (places ids dists 0 (length ids))
  put_taken j [] dists h o = absurd (omega (arith, o.low))
  put_taken j (q ∷ qs) [] h o = absurd (omega arith)
  put_taken zero (q ∷ qs) (e ∷ es) h o =
      rw (places_cons q e qs es (length qs), takes_before (p, d) (q, e) (places qs es 0 (length qs)) o.behind) refl
  put_taken (suc j) (q ∷ qs) (e ∷ es) h o =
      rw (places_cons q e qs es (length qs), takes_behind (p, d) (q, e) (places qs es 0 (length qs)) (o.before zero (omega arith)))
      (put_taken j qs es (omega arith) (later o))

  -- where no entry comes behind
  pub put_none : (ids dists : List ℕ) → length dists ≡ length ids → NoneBehind ids dists p d → false ≡ takes (p, d) (places ids dists 0 (length ids))
  put_none [] dists h o = rw (places_nil [] dists 0, takes_nil (p, d)) refl
  put_none (q ∷ qs) [] h o = absurd (omega arith)
  put_none (q ∷ qs) (e ∷ es) h o =
      rw (places_cons q e qs es (length qs), takes_behind (p, d) (q, e) (places qs es 0 (length qs)) (o.before zero (omega arith)))
      (put_none qs es (omega arith) (record { before = λ i l. o.before (suc i) (omega arith) }))

-- ---- A row that does not take x is as it was; what is nearer is taken too.
pub not_taken : (x : ℕ × ℕ) (xs : List (ℕ × ℕ)) → takes x xs ≡ false → take (length xs) (insert x xs) ≡ xs
not_taken x [] t = refl
not_taken x (y ∷ ys) t =
    elim (dec_le (key y) (key x)) [
      | yes h ↦ rw (insert_behind x y ys h) (ap (λ (l : List (ℕ × ℕ)). y ∷ l) (not_taken x ys (sym (takes_behind x y ys h) ∙ t)))
      | no n ↦ absurd (false≢true (sym t ∙ takes_before x y ys (omega arith)))
    ]

pub takes_nearer : (x z : ℕ × ℕ) (xs : List (ℕ × ℕ)) → key z ≤ key x → takes x xs ≡ true → takes z xs ≡ true
takes_nearer x z [] l t = absurd (false≢true (sym (takes_nil x) ∙ t))
takes_nearer x z (y ∷ ys) l t =
    elim (dec_le (key y) (key z)) [
      | yes h ↦ takes_behind z y ys h ∙ takes_nearer x z ys l (sym (takes_behind x y ys (omega arith)) ∙ t)
      | no n ↦ takes_before z y ys (omega arith)
    ]

-- ---- The padding stands behind x.
take_replicate : (k m : ℕ) (z : ℕ × ℕ) → k ≤ m → take k (replicate m z) ≡ replicate k z
take_replicate zero m z h = refl
take_replicate (suc k) zero z h = absurd (omega arith)
take_replicate (suc k) (suc m) z h = ap (λ (l : List (ℕ × ℕ)). z ∷ l) (take_replicate k m z (le_of_suc-le-suc h))

pad_take : (K m : ℕ) (ys : List (ℕ × ℕ)) → K ≤ length ys + m → take K (ys ++ replicate m (NONE, NONE)) ≡ pad K (take K ys)
pad_take zero m ys h = refl
pad_take (suc K) m [] h =
    let q : suc K - 0 ≡ suc K = omega arith in
    rw q (take_replicate (suc K) m (NONE, NONE) (omega arith))
pad_take (suc K) m (y ∷ ys) h =
    let q : suc K - suc (length (take K ys)) ≡ K - length (take K ys) = omega arith in
    rw q (ap (λ (l : List (ℕ × ℕ)). y ∷ l) (pad_take K m ys (omega arith)))

insert_padding : (m : ℕ) (x : ℕ × ℕ) → key x < key (NONE, NONE) → insert x (replicate m (NONE, NONE)) ≡ x ∷ replicate m (NONE, NONE)
unfolding insert
insert_padding zero x h = refl
insert_padding (suc m) x h = insert_before x (NONE, NONE) (replicate m (NONE, NONE)) h

insert_padded : (m : ℕ) (x : ℕ × ℕ) (xs : List (ℕ × ℕ)) → key x < key (NONE, NONE)
    → insert x (xs ++ replicate m (NONE, NONE)) ≡ insert x xs ++ replicate m (NONE, NONE)
unfolding insert
insert_padded m x [] h = insert_padding m x h
insert_padded m x (y ∷ ys) h =
    elim (dec_le (key y) (key x)) [
      | yes l ↦
          rw (insert_behind x y (ys ++ replicate m (NONE, NONE)) l, insert_behind x y ys l)
          (ap (λ (l : List (ℕ × ℕ)). y ∷ l) (insert_padded m x ys h))
      | no n ↦ rw (insert_before x y (ys ++ replicate m (NONE, NONE)) (omega arith), insert_before x y ys (omega arith))
    ]

pub insert_pad : (K : ℕ) (x : ℕ × ℕ) (xs : List (ℕ × ℕ)) → key x < key (NONE, NONE)
    → take K (insert x (pad K xs)) ≡ pad K (take K (insert x xs))
insert_pad K x xs h =
    ap (take K) (insert_padded (K - length xs) x xs h)
    ∙ pad_take K (K - length xs) (insert x xs) (omega (arith, insert_length x xs))
