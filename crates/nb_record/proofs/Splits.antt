-- The sorted list of those below a rank, and behind it that of the others.
use Rattle.std.proofs.Common.{◌≡◌, ℕ, Bool, true, false, not, ◌&&◌, ◌||◌, eqb, ltb, List, [], ◌∷◌, ◌++◌, length, sym, ap, ◌∙◌, refl, subst, inl, inr, arith}
use Rattle.std.specs.Prelude.{◌⊎◌, filter}
use Rattle.std.proofs.lemmas.Bool.{cond-true, cond-false}
use Rattle.std.proofs.lemmas.Bool.Decides.{nat_tests}
use Rattle.std.proofs.lemmas.List.Sorted.{length_permutation}
use Rattle.nb_model.specs.declared.body.Body.{Body}
use Rattle.nb_record.specs.Order.{precedes, insert_by, sorted_by}
use Rattle.nb_record.proofs.Sorting.{Each, either, insert_here, insert_behind, insert_nil, sorted_cons, sorted_nil, each_sorted, permuted, each_implied}

pub length-sorted_by : (rank : Body → ℕ) (bs : List Body) → length (sorted_by rank bs) ≡ length bs
length-sorted_by rank bs = length_permutation bs (sorted_by rank bs) (permuted rank bs)

-- ---- what a filter keeps

-- whether a body's rank is below a number, and whether it isn't
abbrev pub is_below : (Body → ℕ) → ℕ → Body → Bool
is_below rank t b = ltb (rank b) t

abbrev pub isnt_below : (Body → ℕ) → ℕ → Body → Bool
isnt_below rank t b = not (ltb (rank b) t)

pub filter_yes : (p : Body → Bool) (b : Body) (bs : List Body) → p b ≡ true → filter p (b ∷ bs) ≡ b ∷ filter p bs
filter_yes p b bs is = cond-true (p b) (b ∷ filter p bs) (filter p bs) is

pub filter_no : (p : Body → Bool) (b : Body) (bs : List Body) → p b ≡ false → filter p (b ∷ bs) ≡ filter p bs
filter_no p b bs is = cond-false (p b) (b ∷ filter p bs) (filter p bs) is

pub each_kept : (p : Body → Bool) (bs : List Body) → Each (λ b. p b ≡ true) (filter p bs)
each_kept p [] = tt
each_kept p (b ∷ bs) =
    elim (either (p b)) [
      | inl is ↦ subst (Each (λ c. p c ≡ true)) (sym (filter_yes p b bs is)) (is, each_kept p bs)
      | inr is ↦ subst (Each (λ c. p c ≡ true)) (sym (filter_no p b bs is)) (each_kept p bs)
    ]

-- ---- an insertion into one of two parts

insert_front : (rank : Body → ℕ) (b : Body) (fs cs : List Body) → Each (λ c. precedes rank b c ≡ true) cs → insert_by rank b (fs ++ cs) ≡ insert_by rank b fs ++ cs
insert_front rank b [] [] before = insert_nil rank b ∙ ap (λ l. l ++ []) (sym (insert_nil rank b))
insert_front rank b [] (c ∷ cs) before = insert_here rank b c cs before.0 ∙ ap (λ l. l ++ c ∷ cs) (sym (insert_nil rank b))
insert_front rank b (a ∷ fs) cs before =
    elim (either (precedes rank b a)) [
      | inl is ↦ insert_here rank b a (fs ++ cs) is ∙ ap (λ l. l ++ cs) (sym (insert_here rank b a fs is))
      | inr is ↦ insert_behind rank b a (fs ++ cs) is ∙ ap (λ l. a ∷ l) (insert_front rank b fs cs before) ∙ ap (λ l. l ++ cs) (sym (insert_behind rank b a fs is))
    ]

insert_back : (rank : Body → ℕ) (b : Body) (fs cs : List Body) → Each (λ a. precedes rank b a ≡ false) fs → insert_by rank b (fs ++ cs) ≡ fs ++ insert_by rank b cs
insert_back rank b [] cs behind = refl
insert_back rank b (a ∷ fs) cs behind = insert_behind rank b a (fs ++ cs) behind.0 ∙ ap (λ l. a ∷ l) (insert_back rank b fs cs behind.1)

lower : (m n t i j : ℕ) → ltb m t ≡ true → not (ltb n t) ≡ true → (ltb m n || (eqb m n && ltb i j)) ≡ true
lower m n t i j one other = grind (arith, nat_tests)

higher : (m n t i j : ℕ) → ltb m t ≡ true → ltb n t ≡ false → (ltb n m || (eqb n m && ltb j i)) ≡ false
higher m n t i j one other = grind (arith, nat_tests)

isnt : (t : Bool) → t ≡ false → not t ≡ true
isnt t is = ap not is

is_then : (t : Bool) → t ≡ true → not t ≡ false
is_then t is = ap not is

-- ---- the whole list

pub sorted_split : (rank : Body → ℕ) (t : ℕ) (bs : List Body) → sorted_by rank bs ≡ sorted_by rank (filter (is_below rank t) bs) ++ sorted_by rank (filter (isnt_below rank t) bs)
sorted_split rank t [] = sorted_nil rank ∙ ap (λ l. l ++ []) (sym (sorted_nil rank)) ∙ ap (λ l. sorted_by rank [] ++ l) (sym (sorted_nil rank))
sorted_split rank t (b ∷ bs) = sorted_cons rank b bs ∙ ap (insert_by rank b) (sorted_split rank t bs) ∙ put (either (ltb (rank b) t)) where
  low : List Body
  low = filter (is_below rank t) bs

  high : List Body
  high = filter (isnt_below rank t) bs

  put : (ltb (rank b) t ≡ true) ⊎ (ltb (rank b) t ≡ false) → insert_by rank b (sorted_by rank low ++ sorted_by rank high) ≡ sorted_by rank (filter (is_below rank t) (b ∷ bs)) ++ sorted_by rank (filter (isnt_below rank t) (b ∷ bs))
  put (inl is) =
      let before : Each (λ c. precedes rank b c ≡ true) (sorted_by rank high) =
      each_sorted (λ c. precedes rank b c ≡ true) rank high (each_implied (λ c. isnt_below rank t c ≡ true) (λ c. precedes rank b c ≡ true) high (λ c kept. lower (rank b) (rank c) t b.id c.id is kept) (each_kept (isnt_below rank t) bs)) in
      insert_front rank b (sorted_by rank low) (sorted_by rank high) before
      ∙ ap (λ l. l ++ sorted_by rank high) (sym (sorted_cons rank b low))
      ∙ ap (λ l. sorted_by rank l ++ sorted_by rank high) (sym (filter_yes (is_below rank t) b bs is))
      ∙ ap (λ l. sorted_by rank (filter (is_below rank t) (b ∷ bs)) ++ sorted_by rank l) (sym (filter_no (isnt_below rank t) b bs (is_then (ltb (rank b) t) is)))
  put (inr is) =
      let behind : Each (λ a. precedes rank b a ≡ false) (sorted_by rank low) =
      each_sorted (λ a. precedes rank b a ≡ false) rank low (each_implied (λ a. is_below rank t a ≡ true) (λ a. precedes rank b a ≡ false) low (λ a kept. higher (rank a) (rank b) t a.id b.id kept is) (each_kept (is_below rank t) bs)) in
      insert_back rank b (sorted_by rank low) (sorted_by rank high) behind
      ∙ ap (λ l. sorted_by rank low ++ l) (sym (sorted_cons rank b high))
      ∙ ap (λ l. sorted_by rank low ++ sorted_by rank l) (sym (filter_yes (isnt_below rank t) b bs (isnt (ltb (rank b) t) is)))
      ∙ ap (λ l. sorted_by rank l ++ sorted_by rank (filter (isnt_below rank t) (b ∷ bs))) (sym (filter_no (is_below rank t) b bs is))
