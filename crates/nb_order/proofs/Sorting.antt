-- A map of bodies by rank and id has them in order.
use Rattle.std.proofs.Common.{◌≡◌, ℕ, ◌+◌, ◌<◌, ◌≤◌, Bool, true, false, cond, ◌&&◌, ◌||◌, eqb, ltb, List, [], ◌∷◌, ◌++◌, length, take, Some, None, inl, inr, refl, sym, ap, subst, ◌∙◌, arith}
use Rattle.std.specs.Prelude.{All, IsPermutation, slice_get}
use Rattle.std.specs.List.{AllZip}
use Rattle.std.specs.List.Sorted.{IsStrictlySortedBy}
use Rattle.std.specs.declared.cmp.Ordering.{Ordering}
use Rattle.std.specs.declared.cmp.Ordering.TheVariants.{Less, Equal, Greater}
use Rattle.std.specs.Ordering.{ordering_then, nat_cmp, match_ordering, is_eq}
use Rattle.std.specs.BTreeMap.{insert_entry, is_at}
use Rattle.std.specs.Map.{keys_of, values_of, lookup}
use Rattle.std.proofs.lemmas.Bool.{eqb-true, cases_lt}
use Rattle.std.proofs.lemmas.List.{take_all, take_more}
use Rattle.std.proofs.lemmas.List.Elements.{All-tail}
use Rattle.std.proofs.lemmas.List.Sorted.{IsPermutation-refl, IsPermutation-push_more}
use Rattle.std.proofs.lemmas.Map.Keys.{sorted_head, sorted_tail}
use Rattle.std.proofs.lemmas.Option.{get_or_from_slice_get, slice_get_within, same_Some}
use Rattle.nb_model.specs.declared.body.Body.{Body}
use Rattle.nb_record.specs.Order.{precedes, insert_by, sorted_by, IsSortedByRank}
use Rattle.nb_record.proofs.Callers.{permuted, only}
use Rattle.nb_record.specs.Records.{body_of}
use Rattle.nb_record.specs.Order.{record_of}
use Rattle.nb_order.specs.Files.{HasBody, IsDouble}
use Rattle.nb_order.specs.Indexes.{IsIndexEntry, AreFirstIndexes, AreIndexesOf, AreReadTo, HasFirst}
use Rattle.nb_order.proofs.Reading.{first_of, length-first_of, first_of-at, has_first}

-- ---- the order of two keys

abbrev pub key_order : ℕ × ℕ → ℕ × ℕ → Ordering
key_order a b = ordering_then (nat_cmp a.0 b.0) (nat_cmp a.1 b.1)

-- what two numbers compare to, by whether the first is below the second, and whether they are equal
abbrev by_tests : Bool → Bool → Ordering
by_tests below same = cond below Less (cond same Equal Greater)

first_below : (p e q f : Bool) → ordering_then (by_tests p e) (by_tests q f) ≡ Less → (p || (e && q)) ≡ true
first_below true e q f is = refl
first_below false true true f is = refl
first_below false true false true is = cc
first_below false true false false is = cc
first_below false false q f is = cc

first_above : (p e q f : Bool) → ordering_then (by_tests p e) (by_tests q f) ≡ Greater → (p || (e && q)) ≡ false
first_above true e q f is = cc
first_above false true true f is = cc
first_above false true false true is = cc
first_above false true false false is = refl
first_above false false q f is = refl

both_same : (p e q f : Bool) → ordering_then (by_tests p e) (by_tests q f) ≡ Equal → f ≡ true
both_same true e q f is = cc
both_same false true true f is = cc
both_same false true false true is = refl
both_same false true false false is = cc
both_same false false q f is = cc

both_first : (p e q f : Bool) → ordering_then (by_tests p e) (by_tests q f) ≡ Equal → e ≡ true
both_first true e q f is = cc
both_first false true q f is = refl
both_first false false q f is = cc

module _ (rank : Body → ℕ) where
  abbrev pub key_of : Body → ℕ × ℕ
  key_of b = (rank b, b.id)

  before : (a b : Body) → key_order (key_of a) (key_of b) ≡ Less → precedes rank a b ≡ true
  before a b is = first_below (ltb (rank a) (rank b)) (eqb (rank a) (rank b)) (ltb a.id b.id) (eqb a.id b.id) is

  behind : (a b : Body) → key_order (key_of a) (key_of b) ≡ Greater → precedes rank a b ≡ false
  behind a b is = first_above (ltb (rank a) (rank b)) (eqb (rank a) (rank b)) (ltb a.id b.id) (eqb a.id b.id) is

  same_id : (a b : Body) → key_order (key_of a) (key_of b) ≡ Equal → a.id ≡ b.id
  same_id a b is =
      eqb-true a.id b.id (both_same (ltb (rank a) (rank b)) (eqb (rank a) (rank b)) (ltb a.id b.id) (eqb a.id b.id) is)

  same_rank : (a b : Body) → key_order (key_of a) (key_of b) ≡ Equal → rank a ≡ rank b
  same_rank a b is =
      eqb-true (rank a) (rank b) (both_first (ltb (rank a) (rank b)) (eqb (rank a) (rank b)) (ltb a.id b.id) (eqb a.id b.id) is)

  -- ---- an insertion

  insert_here : (b c : Body) (cs : List Body) → precedes rank b c ≡ true → insert_by rank b (c ∷ cs) ≡ b ∷ c ∷ cs
  unfolding insert_by
  insert_here b c cs is = ap (λ t. cond t (b ∷ c ∷ cs) (c ∷ insert_by rank b cs)) is

  insert_behind : (b c : Body) (cs : List Body) → precedes rank b c ≡ false → insert_by rank b (c ∷ cs) ≡ c ∷ insert_by rank b cs
  unfolding insert_by
  insert_behind b c cs is = ap (λ t. cond t (b ∷ c ∷ cs) (c ∷ insert_by rank b cs)) is

  insert_alone : (b : Body) → insert_by rank b [] ≡ b ∷ []
  unfolding insert_by
  insert_alone b = refl

  module _ (bodies : List Body) (b : Body) (n : ℕ) (at : slice_get bodies n ≡ Some b) where
    abbrev Entries : List ((ℕ × ℕ) × ℕ) → List Body → Type 0
    Entries es cs = AllZip (IsIndexEntry rank bodies) es cs

    abbrev entry : (ℕ × ℕ) × ℕ
    entry = (key_of b, n)

    own : IsIndexEntry rank bodies entry b
    own = record { key = refl; number = at }

    inserted_by : (o : Ordering) (e : (ℕ × ℕ) × ℕ) (es : List ((ℕ × ℕ) × ℕ)) (c : Body) (cs : List Body)
        → Entries (e ∷ es) (c ∷ cs) → lookup (is_at (key_order (key_of b))) (e ∷ es) ≡ None
        → key_order (key_of b) e.0 ≡ o
        → (lookup (is_at (key_order (key_of b))) es ≡ None → Entries (insert_entry key_order es (key_of b) n) (insert_by rank b cs))
        → Entries (match_ordering o (entry ∷ e ∷ es) ((e.0, n) ∷ es) (e ∷ insert_entry key_order es (key_of b) n)) (insert_by rank b (c ∷ cs))
    inserted_by Less e es c cs all none is rest =
        subst (Entries (entry ∷ e ∷ es))
        (sym (insert_here b c cs (before b c (ap (key_order (key_of b)) (sym all.0.key) ∙ is))))
        (own, all)
    inserted_by Equal e es c cs all none is rest =
        let found : Some e.1 ≡ None = ap (λ o. cond (is_eq o) (Some e.1) (lookup (is_at (key_order (key_of b))) es)) (sym is) ∙ none in
        cc
    inserted_by Greater e es c cs all none is rest =
        subst (Entries (e ∷ insert_entry key_order es (key_of b) n))
        (sym (insert_behind b c cs (behind b c (ap (key_order (key_of b)) (sym all.0.key) ∙ is))))
        (all.0, rest (ap (λ o. cond (is_eq o) (Some e.1) (lookup (is_at (key_order (key_of b))) es)) (sym is) ∙ none))

    inserted : (es : List ((ℕ × ℕ) × ℕ)) (cs : List Body) → Entries es cs → lookup (is_at (key_order (key_of b))) es ≡ None
        → Entries (insert_entry key_order es (key_of b) n) (insert_by rank b cs)
    inserted [] [] all none = subst (Entries (entry ∷ [])) (sym (insert_alone b)) (own, tt)
    inserted [] (c ∷ cs) all none = absurd all
    inserted (e ∷ es) [] all none = absurd all
    inserted (e ∷ es) (c ∷ cs) all none =
        inserted_by (key_order (key_of b) e.0) e es c cs all none refl (λ later. inserted es cs all.1 later)

    -- ---- an entry with the key of the body

    -- a body of the list with the body's rank and id, and with a number below the body's
    pub record IsDoubled : Type 0 where
      pub other : Body
      pub index : ℕ
      pub below : index < n
      pub there : slice_get bodies index ≡ Some other
      pub ranks : rank other ≡ rank b
      pub same : other.id ≡ b.id

    double_by : (o : Ordering) (e : (ℕ × ℕ) × ℕ) (es : List ((ℕ × ℕ) × ℕ)) (c : Body) (cs : List Body) (v : ℕ)
        → Entries (e ∷ es) (c ∷ cs) → All (λ number. number < n) (values_of (e ∷ es))
        → lookup (is_at (key_order (key_of b))) (e ∷ es) ≡ Some v → key_order (key_of b) e.0 ≡ o
        → (lookup (is_at (key_order (key_of b))) es ≡ Some v → IsDoubled) → IsDoubled
    double_by Less e es c cs v all numbers found is rest =
        rest (ap (λ o. cond (is_eq o) (Some e.1) (lookup (is_at (key_order (key_of b))) es)) (sym is) ∙ found)
    double_by Equal e es c cs v all numbers found is rest = record {
      other = c;
      index = e.1;
      below = numbers 0 0 (omega arith);
      there = all.0.number;
      ranks = sym (same_rank b c (ap (key_order (key_of b)) (sym all.0.key) ∙ is));
      same = sym (same_id b c (ap (key_order (key_of b)) (sym all.0.key) ∙ is));
    }
    double_by Greater e es c cs v all numbers found is rest =
        rest (ap (λ o. cond (is_eq o) (Some e.1) (lookup (is_at (key_order (key_of b))) es)) (sym is) ∙ found)

    double : (es : List ((ℕ × ℕ) × ℕ)) (cs : List Body) (v : ℕ) → Entries es cs → All (λ number. number < n) (values_of es)
        → lookup (is_at (key_order (key_of b))) es ≡ Some v → IsDoubled
    double [] cs v all numbers found = cc
    double (e ∷ es) [] v all numbers found = absurd all
    double (e ∷ es) (c ∷ cs) v all numbers found =
        double_by (key_order (key_of b) e.0) e es c cs v all numbers found refl
        (λ later. double es cs v all.1 (All-tail (λ number. number < n) e.1 (values_of es) numbers) later)

    pub doubled : (es : List ((ℕ × ℕ) × ℕ)) (key : ℕ × ℕ) (v : ℕ) → key ≡ key_of b → AreFirstIndexes rank bodies n es
        → All (λ number. number < n) (values_of es) → Some v ≡ lookup (is_at (key_order key)) es → IsDoubled
    doubled es key v is_key all numbers found =
        double es (sorted_by rank (take n bodies)) v all numbers
        (sym (subst (λ k. Some v ≡ lookup (is_at (key_order k)) es) is_key found))

  -- ---- the order of the entries is that of the bodies

  ordered : (bodies : List Body) (es : List ((ℕ × ℕ) × ℕ)) (cs : List Body) → AllZip (IsIndexEntry rank bodies) es cs
      → IsStrictlySortedBy key_order (keys_of es) → IsSortedByRank rank cs
  ordered bodies [] [] all rising = tt
  ordered bodies [] (c ∷ cs) all rising = absurd all
  ordered bodies (e ∷ es) [] all rising = absurd all
  ordered bodies (e ∷ []) (c ∷ []) all rising = tt
  ordered bodies (e ∷ []) (c ∷ d ∷ cs) all rising = absurd all.1
  ordered bodies (e ∷ f ∷ es) (c ∷ []) all rising = absurd all.1
  ordered bodies (e ∷ f ∷ es) (c ∷ d ∷ cs) all rising = (
    before c d (ap (λ k. key_order k (key_of d)) (sym all.0.key) ∙ ap (key_order e.0) (sym all.1.0.key)
        ∙ (sorted_head key_order e.0 (keys_of (f ∷ es)) rising).0),
    ordered bodies (f ∷ es) (d ∷ cs) all.1 (sorted_tail key_order e.0 (keys_of (f ∷ es)) rising),
  )

  sorted_one : (b : Body) (bs : List Body) → sorted_by rank (b ∷ bs) ≡ insert_by rank b (sorted_by rank bs)
  unfolding sorted_by
  sorted_one b bs = refl

  sorted_none : sorted_by rank [] ≡ []
  unfolding sorted_by
  sorted_none = refl

  -- the indexes of one more body
  pub indexes_more : (bodies : List Body) (b : Body) (n : ℕ) (es fs : List ((ℕ × ℕ) × ℕ)) (key : ℕ × ℕ)
      → slice_get bodies n ≡ Some b → key ≡ key_of b → AreFirstIndexes rank bodies n es
      → None ≡ lookup (is_at (key_order key)) es → fs ≡ insert_entry key_order es key n
      → IsStrictlySortedBy key_order (keys_of fs) → AreFirstIndexes rank bodies (n + 1) fs
  indexes_more bodies b n es fs key at is_key all none is rising =
      let front = take n bodies in
      let list = insert_by rank b (sorted_by rank front) in
      let lacks : lookup (is_at (key_order (key_of b))) es ≡ None =
      sym (subst (λ k. None ≡ lookup (is_at (key_order k)) es) is_key none) in
      let entries : AllZip (IsIndexEntry rank bodies) fs list =
      subst (λ l. AllZip (IsIndexEntry rank bodies) l list) (sym (is ∙ ap (λ k. insert_entry key_order es k n) is_key))
      (inserted bodies b n at es (sorted_by rank front) all lacks) in
      let same : IsPermutation (front ++ b ∷ []) list =
      IsPermutation-push_more front front list b (IsPermutation-refl front)
      (subst (IsPermutation (b ∷ front)) (sorted_one b front) (permuted rank (b ∷ front))) in
      let more : take (n + 1) bodies ≡ front ++ b ∷ [] =
      take_more bodies n b (slice_get_within bodies n b at)
      ∙ ap (λ c. front ++ c ∷ []) (get_or_from_slice_get bodies n b b at) in
      subst (λ l. AllZip (IsIndexEntry rank bodies) fs l)
      (only rank (front ++ b ∷ []) list same (ordered bodies fs list entries rising) ∙ ap (sorted_by rank) (sym more)) entries

  -- the indexes of no body, and of all
  pub indexes_none : (bodies : List Body) (es : List ((ℕ × ℕ) × ℕ)) → es ≡ [] → AreFirstIndexes rank bodies 0 es
  indexes_none bodies es is =
      subst (λ l. AllZip (IsIndexEntry rank bodies) l (sorted_by rank [])) (sym is)
      (subst (AllZip (IsIndexEntry rank bodies) []) (sym sorted_none) tt)

  numbers_of : (bodies : List Body) (es : List ((ℕ × ℕ) × ℕ)) (cs : List Body) → AllZip (IsIndexEntry rank bodies) es cs
      → AreIndexesOf bodies (values_of es) cs
  numbers_of bodies [] [] all = tt
  numbers_of bodies [] (c ∷ cs) all = absurd all
  numbers_of bodies (e ∷ es) [] all = absurd all
  numbers_of bodies (e ∷ es) (c ∷ cs) all = (all.0.number, numbers_of bodies es cs all.1)

  pub indexes_all : (bodies : List Body) (n : ℕ) (es : List ((ℕ × ℕ) × ℕ)) → length bodies ≤ n
      → AreFirstIndexes rank bodies n es → AreIndexesOf bodies (values_of es) (sorted_by rank bodies)
  indexes_all bodies n es within all =
      numbers_of bodies es (sorted_by rank bodies)
      (subst (λ l. AllZip (IsIndexEntry rank bodies) es (sorted_by rank l)) (take_all n bodies within) all)

-- ---- indexes read from a file

-- no index yet
pub read_none : (rank : Body → ℕ) (file : List ℕ) (es : List ((ℕ × ℕ) × ℕ)) → es ≡ [] → AreReadTo rank file 0 es
read_none rank file es is = record {
  has = λ j below. absurd (omega arith);
  indexes = λ bodies first within. indexes_none rank bodies es is;
}

-- the index of one body more
pub read_more : (rank : Body → ℕ) (file : List ℕ) (b : Body) (n : ℕ) (es fs : List ((ℕ × ℕ) × ℕ)) (key : ℕ × ℕ)
    → HasBody file n → b ≡ body_of (record_of file n) → key ≡ (rank b, b.id) → AreReadTo rank file n es
    → None ≡ lookup (is_at (key_order key)) es → fs ≡ insert_entry key_order es key n
    → IsStrictlySortedBy key_order (keys_of fs) → AreReadTo rank file (n + 1) fs
read_more rank file b n es fs key here is is_key all none added rising = record {
  has = λ j below. elim (cases_lt j n) [
    | inl before ↦ all.has j before
    | inr behind ↦ let same : n ≡ j = omega arith in subst (HasBody file) same here
  ];
  indexes = λ bodies first within.
      let inside : n < length bodies = omega arith in
      indexes_more rank bodies b n es fs key (first.held n inside ∙ ap Some (sym is)) is_key
      (all.indexes bodies first (omega arith)) none added rising;
}

-- a body whose rank and id stand among the indexes
pub read_double : (rank : Body → ℕ) (file : List ℕ) (b : Body) (n : ℕ) (es : List ((ℕ × ℕ) × ℕ)) (key : ℕ × ℕ) (v : ℕ)
    → HasBody file n → b ≡ body_of (record_of file n) → key ≡ (rank b, b.id) → AreReadTo rank file n es
    → All (λ number. number < n) (values_of es) → Some v ≡ lookup (is_at (key_order key)) es → IsDouble rank file n
read_double rank file b n es key v here is is_key all numbers found =
    let each : (j : ℕ) → j < n + 1 → HasBody file j = λ j below. elim (cases_lt j n) [
      | inl before ↦ all.has j before
      | inr behind ↦ let same : n ≡ j = omega arith in subst (HasBody file) same here
    ] in
    let bodies = first_of file (n + 1) in
    let first = has_first file (n + 1) each in
    let long = length-first_of file (n + 1) in
    let at : slice_get bodies n ≡ Some b = first_of-at file (n + 1) n (omega arith) ∙ ap Some (sym is) in
    let one = doubled rank bodies b n at es key v is_key (all.indexes bodies first (omega arith)) numbers found in
    let below = one.below in
    let same : one.other ≡ body_of (record_of file one.index) =
    same_Some one.other (body_of (record_of file one.index)) (sym one.there ∙ first_of-at file (n + 1) one.index (omega arith)) in
    record {
      earlier = one.index;
      before = one.below;
      same_rank = ap rank (sym same) ∙ one.ranks ∙ ap rank is;
      same_id = ap (λ (c : Body). c.id) (sym same) ∙ one.same ∙ ap (λ (c : Body). c.id) is;
    }

-- the numbers of a file's first bodies, in order
pub read_numbers : (rank : Body → ℕ) (file : List ℕ) (n : ℕ) (es : List ((ℕ × ℕ) × ℕ)) (bodies : List Body)
    → AreReadTo rank file n es → HasFirst file bodies → length bodies ≡ n → AreIndexesOf bodies (values_of es) (sorted_by rank bodies)
read_numbers rank file n es bodies all first long =
    indexes_all rank bodies n es (omega arith) (all.indexes bodies first (omega arith))
