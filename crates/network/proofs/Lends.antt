-- A part of a list: its words; a row of several that are laid one after another. A part that is lent mutably, from the start or from the middle, and
-- comes back as another list of the same length: the words of the whole then.
-- Assumes nothing.
use Prim.Native.Nat.{ℕ, ◌+◌, ◌-◌, ◌*◌, ◌≤◌, ◌<◌}
use mathlib.Core.Path.{◌≡◌, sym, ap, ◌∙◌}
use mathlib.Core.List.{List, ◌++◌}
use native.Mathlib.Nat.{mul-le-mul_right}
use native.Mathlib.Omega.{arith}
use lib.ListN.{length, get_or, take, drop, length-append, length-drop, get_or-append}
use lib.Seq.{get_or-append-add, get_or-drop, get_or-take, length-take-le}
use borrow.Rule.Slice.PartMut.{mid_of, put_mid, post_of, same_len_mid, mid_len, drop_put}

-- the k words from a on: how many they are, and word j of them
pub mid_length : (a k : ℕ) (xs : List ℕ) → a + k ≤ length xs → length (mid_of a k xs) ≡ k
mid_length a k xs h = length-take-le k (drop a xs) (omega (arith, length-drop a xs))

pub mid_at : (a k : ℕ) (xs : List ℕ) (j : ℕ) → j < k → get_or (mid_of a k xs) j 0 ≡ get_or xs (a + j) 0
mid_at a k xs j h = get_or-take k (drop a xs) j 0 h ∙ get_or-drop a xs j 0

-- row i of n rows of K words each ends before they do
pub row_fits : (i n K : ℕ) → i < n → i * K + K ≤ n * K
row_fits i n K h = omega (arith, mul-le-mul_right K h)

-- ys is xs with its words from a up to e made zs
pub record Returned (xs ys : List ℕ) (a e : ℕ) (zs : List ℕ) : Type 0 where
  pub size : length ys ≡ length xs
  pub before : (i : ℕ) → i < a → get_or ys i 0 ≡ get_or xs i 0
  pub part : (i : ℕ) → a + i < e → get_or ys (a + i) 0 ≡ get_or zs i 0
  pub after : (i : ℕ) → e ≤ i → get_or ys i 0 ≡ get_or xs i 0

module _ (a e : ℕ) (xs zs : List ℕ) (low : a ≤ e) (fits : e ≤ length xs) (same : length zs ≡ length (mid_of a (e - a) xs)) where
  sized : length zs ≡ e - a
  sized = same ∙ mid_len a e xs fits

  pub returned : Returned xs (put_mid a (e - a) xs zs) a e zs
  returned =
      record { size = same_len_mid a (e - a) xs zs same; before = before; part = part; after = after }
    where
      head : length (take a xs) ≡ a
      head = length-take-le a xs (omega arith)

      before : (i : ℕ) → i < a → get_or (put_mid a (e - a) xs zs) i 0 ≡ get_or xs i 0
      before i h = get_or-append (take a xs) (zs ++ post_of a (e - a) xs) 0 i (omega (arith, head)) ∙ get_or-take a xs i 0 h

      part : (i : ℕ) → a + i < e → get_or (put_mid a (e - a) xs zs) (a + i) 0 ≡ get_or zs i 0
      part i h =
          ap (λ (j : ℕ). get_or (put_mid a (e - a) xs zs) (j + i) 0) (sym head)
          ∙ get_or-append-add (take a xs) (zs ++ post_of a (e - a) xs) i 0
          ∙ get_or-append zs (post_of a (e - a) xs) 0 i (omega (arith, sized))

      after : (i : ℕ) → e ≤ i → get_or (put_mid a (e - a) xs zs) i 0 ≡ get_or xs i 0
      after i h =
          let q : e + (i - e) ≡ i = omega arith in
          ap (λ (j : ℕ). get_or (put_mid a (e - a) xs zs) j 0) (sym q)
          ∙ sym (get_or-drop e (put_mid a (e - a) xs zs) (i - e) 0)
          ∙ ap (λ (l : List ℕ). get_or l (i - e) 0) (drop_put a e xs zs low fits sized)
          ∙ get_or-drop e xs (i - e) 0
          ∙ ap (λ (j : ℕ). get_or xs j 0) q

-- the first e words are lent
module _ (e : ℕ) (xs zs : List ℕ) (fits : e ≤ length xs) (same : length zs ≡ length (take e xs)) where
  first_sized : length zs ≡ e
  first_sized = same ∙ length-take-le e xs fits

  pub first_size : length (zs ++ drop e xs) ≡ length xs
  first_size = simp (length-append, length-drop) (omega (arith, first_sized))

  pub first_part : (i : ℕ) → i < e → get_or (zs ++ drop e xs) i 0 ≡ get_or zs i 0
  first_part i h = get_or-append zs (drop e xs) 0 i (omega (arith, first_sized))

  pub first_after : (i : ℕ) → e ≤ i → get_or (zs ++ drop e xs) i 0 ≡ get_or xs i 0
  first_after i h =
      let q : length zs + (i - e) ≡ i = omega (arith, first_sized) in
      let r : e + (i - e) ≡ i = omega arith in
      ap (λ (j : ℕ). get_or (zs ++ drop e xs) j 0) (sym q)
      ∙ get_or-append-add zs (drop e xs) (i - e) 0
      ∙ get_or-drop e xs (i - e) 0
      ∙ ap (λ (j : ℕ). get_or xs j 0) r
