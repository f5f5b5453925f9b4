-- Laws of taking one point out of a row: its place, the shift behind it, and the row then as a list.
-- Assumes nothing.
use Prim.Native.Nat.{ℕ, zero, suc, ◌+◌, ◌-◌, ◌≤◌, ◌<◌}
use mathlib.Core.Path.{◌≡◌, refl, sym, ap, ◌∙◌}
use mathlib.Core.Bool.{true, false}
use mathlib.Core.Logic.{◌≢◌}
use mathlib.Core.List.{List, [], ◌∷◌, ◌++◌, Memᴰ, append_assoc}
use native.Mathlib.Nat.{le_of_suc-le-suc, not-suc-le-zero, zero-add}
use native.Mathlib.Decide.{ℕ_discrete, dec_lt, dec_le}
use native.Mathlib.Omega.{arith}
use lib.Dec.{eqb}
use lib.ListN.{length, get_or, set, replicate, length-set, length-append, get_or-eq_default}
use lib.Seq.{ext_get_or, get_or-set_same, get_or-set_other}
use borrow.Author.Tests.{eq-eqb, ne_eqb, eqb-true, eqb-false}
use Rattle.std.specs.Prelude.{◌==◌, Some, None}
use Rattle.std.specs.List.{position, position_or_len, CopiedTo, SameBelow}
use Rattle.std.proofs.lemmas.Grind.{common_steps}
use Rattle.std.proofs.lemmas.List.{get_or_default}
use Rattle.std.proofs.lemmas.List.Quantifiers.{position-Some}
use Rattle.std.proofs.lemmas.List.Sums.{fails_before_first}
use Rattle.network.specs.Distance.{NONE}
use Rattle.network.specs.Nearest.{key, insert}
use Rattle.network.specs.Order.{Ordered, times}
use Rattle.network.specs.Rows.{pad}
use Rattle.network.proofs.Ordered.{Small, key_pair}
use Rattle.network.proofs.Insert.{insert_behind, insert_before, insert_length, insert_nil}
use Rattle.rows.specs.Flat.{place, places}
use Rattle.rows.specs.Take.{take_out, TakenAt}
use Rattle.rows.specs.Check.{among}
use Rattle.rows.proofs.Flat.{places_length, places_at}
use Rattle.rows.proofs.CheckRows.{times_places}

-- ---- The place: the first that holds p, or none does.
pub record First (ids : List ℕ) (p r : ℕ) : Type 0 where
  pub low : r < length ids
  pub before : (j : ℕ) → j < r → get_or ids j 0 ≢ p
  pub here : get_or ids r 0 ≡ p

pub first_place : (ids : List ℕ) (p r : ℕ) → position (λ q. q == p) ids ≡ Some r → First ids p r
first_place ids p r e =
    let s = position-Some (λ q. q == p) ids r 0 e in
    record { low = s.0; before = λ j l. eqb-false _ _ (s.2 j l); here = eqb-true _ _ s.1 }

pub no_place : (ids : List ℕ) (p : ℕ) → position (λ q. q == p) ids ≡ None → (j : ℕ) → j < length ids → get_or ids j 0 ≢ p
no_place ids p e j l =
    let most : length ids ≤ position_or_len (λ q. q == p) ids = grind (arith, common_steps) in
    eqb-false _ _ (fails_before_first (λ q. q == p) ids j 0 (omega arith))

-- ---- The shift: what stands behind the place is copied down by one, and the last place is emptied.
pub take_shift : (xs ys : List ℕ) (place : ℕ) → place < length xs → length ys ≡ length xs → CopiedTo xs ys (place + 1) place (length xs - (place + 1)) → SameBelow xs ys place
    → TakenAt xs (set ys (length xs - 1) NONE) place
take_shift xs ys place h size copied kept =
    let last = length xs - 1 in
    record {
      size = simp length-set size;
      before = λ j l. get_or-set_other ys last j NONE 0 (omega arith) ∙ kept j 0 l;
      behind =
          λ j l m.
          elim (ℕ_discrete j last) [
            | yes e ↦
                rw e (get_or-set_same ys last NONE 0 (omega arith))
                ∙ sym (get_or-eq_default xs NONE {n = suc j} (omega arith))
            | no n ↦
                let q : (place + 1) + (j - place) ≡ suc j = omega arith in
                get_or-set_other ys last j NONE 0 n
                ∙ copied j 0 l (omega arith)
                ∙ rw q (get_or_default xs (suc j) 0 NONE (omega arith))
          ];
    }

-- ---- The clauses of `take_out`.
take_here : (p : ℕ) (y : ℕ × ℕ) (ys : List (ℕ × ℕ)) → y.0 ≡ p → take_out p (y ∷ ys) ≡ ys ++ (NONE, NONE) ∷ []
unfolding take_out
take_here p y ys e = rw (eq-eqb y.0 p e, take_out)

take_later : (p : ℕ) (y : ℕ × ℕ) (ys : List (ℕ × ℕ)) → y.0 ≢ p → take_out p (y ∷ ys) ≡ y ∷ take_out p ys
unfolding take_out
take_later p y ys n = rw (ne_eqb y.0 p n, take_out)

take-nil : (p : ℕ) → take_out p [] ≡ []
unfolding take_out
take-nil p = refl

-- ---- The row as a list, place by place.
take-length : (p : ℕ) (xs : List (ℕ × ℕ)) → length (take_out p xs) ≡ length xs
take-length p [] = ap length (take-nil p)
take-length p (y ∷ ys) =
    elim (ℕ_discrete y.0 p) [
      | yes e ↦ ap length (take_here p y ys e) ∙ simp length-append (omega arith)
      | no n ↦ ap length (take_later p y ys n) ∙ ap suc (take-length p ys)
    ]

module _ (p : ℕ) (z : ℕ × ℕ) where
  -- those before the place stay
  take_before : (xs : List (ℕ × ℕ)) (j r : ℕ) → r < length xs → ((i : ℕ) → i < r → (get_or xs i z).0 ≢ p) → j < r → get_or (take_out p xs) j z ≡ get_or xs j z
  take_before [] j r h all l = absurd (not-suc-le-zero h)
  take_before (y ∷ ys) j zero h all l = absurd (not-suc-le-zero l)
  take_before (y ∷ ys) zero (suc r) h all l = ap (λ t. get_or t zero z) (take_later p y ys (all zero (omega arith)))
  take_before (y ∷ ys) (suc j) (suc r) h all l =
      ap (λ t. get_or t (suc j) z) (take_later p y ys (all zero (omega arith)))
      ∙ take_before ys j r (le_of_suc-le-suc h) (λ i m. all (suc i) (omega arith)) (le_of_suc-le-suc l)

  -- those behind it move down by one, and an empty place follows
  behind_first : (ys : List (ℕ × ℕ)) (j : ℕ) → j < suc (length ys) → get_or (ys ++ (NONE, NONE) ∷ []) j z ≡ get_or ys j (NONE, NONE)
  behind_first [] zero h = refl
  behind_first [] (suc j) h = absurd (omega arith)
  behind_first (y ∷ ys) zero h = refl
  behind_first (y ∷ ys) (suc j) h = behind_first ys j (omega arith)

  take_behind : (xs : List (ℕ × ℕ)) (j r : ℕ) → r < length xs → ((i : ℕ) → i < r → (get_or xs i z).0 ≢ p) → (get_or xs r z).0 ≡ p → r ≤ j → j < length xs
      → get_or (take_out p xs) j z ≡ get_or xs (suc j) (NONE, NONE)
  take_behind [] j r h all e l m = absurd (not-suc-le-zero h)
  take_behind (y ∷ ys) j zero h all e l m = ap (λ t. get_or t j z) (take_here p y ys e) ∙ behind_first ys j m
  take_behind (y ∷ ys) zero (suc r) h all e l m = absurd (not-suc-le-zero l)
  take_behind (y ∷ ys) (suc j) (suc r) h all e l m =
      ap (λ t. get_or t (suc j) z) (take_later p y ys (all zero (omega arith)))
      ∙ take_behind ys j r (le_of_suc-le-suc h) (λ i n. all (suc i) (omega arith)) e (le_of_suc-le-suc l) (le_of_suc-le-suc m)

  -- a row without p stays
  take_absent : (xs : List (ℕ × ℕ)) → ((i : ℕ) → i < length xs → (get_or xs i z).0 ≢ p) → take_out p xs ≡ xs
  take_absent [] all = take-nil p
  take_absent (y ∷ ys) all = take_later p y ys (all zero (omega arith)) ∙ ap (λ l. y ∷ l) (take_absent ys (λ i l. all (suc i) (omega arith)))

-- ---- What `take_out` leaves.
module _ {ids dists ids' dists' : List ℕ} {p r : ℕ} (same : length dists ≡ length ids) (o : First ids p r) (t : TakenAt ids ids' r) (u : TakenAt dists dists' r) where
  abbrev row : List (ℕ × ℕ)
  row = places ids dists 0 (length ids)

  row_at : (j : ℕ) → j < length ids → get_or row j (0, 0) ≡ place ids dists j
  row_at j h = places_at ids dists 0 (length ids) j (0, 0) h ∙ ap (place ids dists) (zero-add j)

  long : length row ≡ length ids
  long = places_length ids dists 0 (length ids)

  id_at_lem : (j : ℕ) → j < length ids → (get_or row j (0, 0)).0 ≡ get_or ids j 0
  id_at_lem j h = ap (λ (x : ℕ × ℕ). x.0) (row_at j h)

  others : (j : ℕ) → j < r → (get_or row j (0, 0)).0 ≢ p
  others j h e = o.before j h (sym (id_at_lem j (omega (arith, o.low))) ∙ e)

  next_at : (j : ℕ) → j < length ids → get_or row (suc j) (NONE, NONE) ≡ (get_or ids (suc j) NONE, get_or dists (suc j) NONE)
  next_at j h =
      elim (dec_lt (suc j) (length ids)) [
        | yes l ↦
            places_at ids dists 0 (length ids) (suc j) (NONE, NONE) l
            ∙ ap (place ids dists) (zero-add (suc j))
            ∙ λ k. (get_or_default ids (suc j) 0 NONE l k, get_or_default dists (suc j) 0 NONE (omega (arith, same)) k)
        | no n ↦
            get_or-eq_default row (NONE, NONE) {n = suc j} (omega (arith, long))
            ∙ λ k. (
              sym (get_or-eq_default ids NONE {n = suc j} (omega arith)) k,
              sym (get_or-eq_default dists NONE {n = suc j} (omega (arith, same))) k,
            )
      ]

  new_at : (j : ℕ) → j < length ids → place ids' dists' j ≡ get_or (take_out p row) j (0, 0)
  new_at j h =
      elim (dec_lt j r) [
        | yes b ↦
            (λ k. (t.before j b k, u.before j b k))
            ∙ sym (row_at j h)
            ∙ sym (take_before p (0, 0) row j r (omega (arith, long, o.low)) others b)
        | no b ↦
            (λ k. (t.behind j (omega arith) h k, u.behind j (omega arith) (omega (arith, same)) k))
            ∙ sym (next_at j h)
            ∙ sym (take_behind p (0, 0) row j r (omega (arith, long, o.low)) others (id_at_lem r o.low ∙ o.here) (omega arith) (omega (arith, long)))
      ]

  pub taken_row : places ids' dists' 0 (length ids) ≡ take_out p (places ids dists 0 (length ids))
  taken_row =
      ext_get_or (0, 0) (places ids' dists' 0 (length ids)) (take_out p row)
      (places_length ids' dists' 0 (length ids) ∙ sym (take-length p row ∙ long))
      (λ j l.
      let h : j < length ids = omega (arith, places_length ids' dists' 0 (length ids)) in
      places_at ids' dists' 0 (length ids) j (0, 0) h ∙ ap (place ids' dists') (zero-add j) ∙ new_at j h)

-- a row that does not hold p is as it was
pub not_there : (ids dists : List ℕ) (p : ℕ) → ((j : ℕ) → j < length ids → get_or ids j 0 ≢ p) → places ids dists 0 (length ids) ≡ take_out p (places ids dists 0 (length ids))
not_there ids dists p none =
    sym (take_absent p (0, 0) (places ids dists 0 (length ids))
    (λ j l e.
    let h : j < length ids = omega (arith, places_length ids dists 0 (length ids)) in
    none j h (sym (ap (λ (x : ℕ × ℕ). x.0) (places_at ids dists 0 (length ids) j (0, 0) h ∙ ap (place ids dists) (zero-add j))) ∙ e)))

-- ---- Whether the row has all lockers of p.
module _ (ids dists : List ℕ) (p all c : ℕ) (e : c ≡ among ids p (length ids)) where
  counted : times p (places ids dists 0 (length ids)) ≡ c
  counted = times_places ids dists p (length ids) ∙ sym e

  pub has_all_lem : c ≡ all → true ≡ eqb (times p (places ids dists 0 (length ids))) all
  has_all_lem h = sym (eq-eqb (times p (places ids dists 0 (length ids))) all (counted ∙ h))

  pub has_not_all : c ≢ all → false ≡ eqb (times p (places ids dists 0 (length ids))) all
  has_not_all n = sym (ne_eqb (times p (places ids dists 0 (length ids))) all (λ q. n (sym counted ∙ q)))

-- ---- An entry that was put in comes out again: of those of its node, which are all alike, the first.
-- put in among its like, it stands first
insert_first : (x : ℕ × ℕ) (ys : List (ℕ × ℕ)) → Ordered (x ∷ ys) → ((y : ℕ × ℕ) → Memᴰ y ys → key y ≡ key x → y ≡ x) → insert x ys ≡ x ∷ ys
insert_first x [] r h = insert_nil x
insert_first x (y ∷ ys) r h =
    elim (dec_le (key y) (key x)) [
      | yes l ↦
          let e : y ≡ x = h y (Memᴰ.head refl) (omega (arith, r.0 y (Memᴰ.head refl))) in
          insert_behind x y ys l
          ∙ ap (λ l. y ∷ l) (insert_first x ys (λ z m. r.0 z (Memᴰ.tail m), r.1.1) (λ z m. h z (Memᴰ.tail m)))
          ∙ λ k. e k ∷ sym e k ∷ ys
      | no n ↦ insert_before x y ys (omega arith)
    ]

pub take_inserted : (p d : ℕ) (ys zs : List (ℕ × ℕ)) → Ordered ys → p < 4294967296 → Small ys → ((e : ℕ) → Memᴰ (p, e) ys → e ≡ d)
    → take_out p (insert (p, d) ys ++ zs) ≡ ys ++ (zs ++ (NONE, NONE) ∷ [])
take_inserted p d [] zs r b s h = ap (λ l. take_out p (l ++ zs)) (insert_nil (p, d)) ∙ take_here p (p, d) zs refl
take_inserted p d (y ∷ ys) zs r b s h =
    elim (dec_le (key y) (key (p, d))) [
      | yes l ↦
          elim (ℕ_discrete y.0 p) [
            | yes q ↦
                let e : y.1 ≡ d = h y.1 (Memᴰ.head (λ k. (sym q k, y.1))) in
                let same : y ≡ (p, d) = λ k. (q k, e k) in
                ap (λ l. take_out p (l ++ zs)) (insert_behind (p, d) y ys l)
                ∙ take_here p y (insert (p, d) ys ++ zs) q
                ∙ ap (λ l. (l ++ zs) ++ (NONE, NONE) ∷ [])
                (insert_first (p, d) ys (λ z m. omega (arith, r.0 z m, ap key same), r.1)
                (λ z m k. key_pair z (p, d) (s z (Memᴰ.tail m)) b k))
                ∙ append_assoc ((p, d) ∷ ys) zs ((NONE, NONE) ∷ [])
                ∙ λ k. sym same k ∷ (ys ++ (zs ++ (NONE, NONE) ∷ []))
            | no n ↦
                ap (λ l. take_out p (l ++ zs)) (insert_behind (p, d) y ys l)
                ∙ take_later p y (insert (p, d) ys ++ zs) n
                ∙ ap (λ l. y ∷ l) (take_inserted p d ys zs r.1 b (λ z m. s z (Memᴰ.tail m)) (λ e m. h e (Memᴰ.tail m)))
          ]
      | no n ↦
          ap (λ l. take_out p (l ++ zs)) (insert_before (p, d) y ys (omega arith))
          ∙ take_here p (p, d) (y ∷ ys ++ zs) refl
          ∙ append_assoc (y ∷ ys) zs ((NONE, NONE) ∷ [])
    ]

more_padding : (n : ℕ) (x : ℕ × ℕ) → replicate n x ++ x ∷ [] ≡ replicate (suc n) x
more_padding zero x = refl
more_padding (suc n) x = ap (λ l. x ∷ l) (more_padding n x)

pub take_row : (K p d : ℕ) (ys : List (ℕ × ℕ)) → length ys < K → Ordered ys → p < 4294967296 → Small ys → ((e : ℕ) → Memᴰ (p, e) ys → e ≡ d)
    → take_out p (pad K (insert (p, d) ys)) ≡ pad K ys
take_row K p d ys l r b s h =
    let q : suc (K - length (insert (p, d) ys)) ≡ K - length ys = omega (arith, insert_length (p, d) ys) in
    take_inserted p d ys (replicate (K - length (insert (p, d) ys)) (NONE, NONE)) r b s h
    ∙ ap (λ l. ys ++ l) (more_padding (K - length (insert (p, d) ys)) (NONE, NONE) ∙ ap (λ n. replicate n (NONE, NONE)) q)
