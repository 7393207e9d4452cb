-- Taking out the pages of a file, the least recently used first.
use Rattle.std.proofs.Common.{◌≡◌, ◌≢◌, ℕ, suc, ◌+◌, ◌-◌, ◌<◌, ◌≤◌, ◌==◌, true, false, List, [], ◌∷◌, ◌++◌, length, take, drop, Some, None, slice_get, refl, sym, ap, subst, ◌∙◌, arith, append-nil, append_assoc, length-append, get_or, Contains, inl, inr}
use Rattle.std.proofs.lemmas.Bool.Decides.{nat_tests}
use Rattle.std.proofs.lemmas.List.{drop_more, drop_all, take_all}
use Rattle.std.proofs.lemmas.List.Elements.{filter-append}
use Rattle.std.proofs.Math.Seq.{take-suc}
use Rattle.std.specs.List.{AllByRecursion, IsDistinct}
use Rattle.std.proofs.lemmas.Map.Keys.{IsDistinct-head, IsDistinct-tail}
use Rattle.lru.proofs.Splits.{Contains-middle}
use Rattle.nb_host.specs.declared.page_name.PageName.{PageName}
use Rattle.std.proofs.lemmas.Option.{slice_get_cases}
use Rattle.nb_cache.specs.Sound.{AreResident}
use Rattle.nb_cache.specs.Stock.{Stock, HasFrames}
use Rattle.nb_cache.specs.View.{held_names}
use Rattle.nb_host.specs.Page.{same_page}
use Rattle.nb_cache.specs.Names.{without, without_file, used, IsWithoutFile}
use Rattle.nb_host.proofs.Callers.{same_page_refl}
use Rattle.nb_cache.proofs.Uses.{Lacks, without_lacking}

-- the names when those from the place `left` on were looked at
abbrev pub kept : ℕ → ℕ → List PageName → List PageName
kept file left old = without_file file (drop left old) ++ take left old

abbrev front : ℕ → ℕ → List PageName → List PageName
front file left old = without_file file (drop (left + 1) old) ++ take left old

last_of : (xs : List PageName) (k : PageName) → slice_get (xs ++ k ∷ []) (length (xs ++ k ∷ []) - 1) ≡ Some k
last_of [] k = refl
last_of (x ∷ []) k = refl
last_of (x ∷ y ∷ xs) k =
    let less : length (x ∷ y ∷ xs ++ k ∷ []) - 1 ≡ suc (length (y ∷ xs ++ k ∷ []) - 1) = omega arith in
    ap (λ i. slice_get (x ∷ y ∷ xs ++ k ∷ []) i) less ∙ last_of (y ∷ xs) k

lacks_last : (xs : List PageName) (k : PageName) → IsDistinct same_page (xs ++ k ∷ []) → Lacks k xs
lacks_last [] k distinct = tt
lacks_last (x ∷ xs) k distinct = (
  apart_last x xs k (IsDistinct-head same_page x (xs ++ k ∷ []) distinct),
  lacks_last xs k (IsDistinct-tail same_page x (xs ++ k ∷ []) distinct),
)
  where
    apart_sym : (a b : PageName) → same_page a b ≡ false → same_page b a ≡ false
    apart_sym a b apart = grind (arith, nat_tests)

    apart_last : (x : PageName) (xs : List PageName) (k : PageName)
        → AllByRecursion (λ y. same_page x y ≡ false) (xs ++ k ∷ []) → same_page k x ≡ false
    apart_last x [] k all = apart_sym x k all.0
    apart_last x (y ∷ xs) k all = apart_last x xs k all.1

without_last : (xs : List PageName) (k : PageName) → IsDistinct same_page (xs ++ k ∷ [])
    → without (k ∷ []) (xs ++ k ∷ []) ≡ xs
without_last xs k distinct =
    filter-append _ xs (k ∷ [])
    ∙ ap (λ l. l ++ without (k ∷ []) (k ∷ [])) (without_lacking k xs (lacks_last xs k distinct))
    ∙ ap (λ l. xs ++ l) (let here = same_page_refl k in rw here refl) ∙ append-nil xs

module _ (file left : ℕ) (old names : List PageName) (n : PageName) (within : left < length old) (are : names ≡ kept file (left + 1) old) (distinct : IsDistinct same_page names) (last : slice_get names (length names - 1) ≡ Some n) where
  split_at : (k : PageName) → take (left + 1) old ≡ take left old ++ k ∷ [] → names ≡ front file left old ++ k ∷ []
  split_at k taken =
      are ∙ ap (λ l. without_file file (drop (left + 1) old) ++ l) taken
      ∙ sym (append_assoc (without_file file (drop (left + 1) old)) (take left old) (k ∷ []))

  taken : take (left + 1) old ≡ take left old ++ get_or old left n ∷ []
  taken = let next : left + 1 ≡ suc left = omega arith in ap (λ i. take i old) next ∙ take-suc old left n within

  is_last : get_or old left n ≡ n
  is_last =
      let all = split_at (get_or old left n) taken in
      let there = subst (λ l. slice_get l (length l - 1) ≡ Some n) all last in
      let here = last_of (front file left old) (get_or old left n) in
      some_same (sym here ∙ there)
    where
      some_same : {a b : PageName} → Some a ≡ Some b → a ≡ b
      some_same same = (cc)

  pub names_split : names ≡ front file left old ++ n ∷ []
  names_split = subst (λ k. names ≡ front file left old ++ k ∷ []) is_last (split_at (get_or old left n) taken)

  rest : drop left old ≡ n ∷ drop (left + 1) old
  rest = subst (λ k. drop left old ≡ k ∷ drop (left + 1) old) is_last (drop_more old left n within)

  gone : without (n ∷ []) names ≡ front file left old
  gone =
      ap (λ l. without (n ∷ []) l) names_split
      ∙ without_last (front file left old) n (subst (IsDistinct same_page) names_split distinct)

  pub forgotten : (n.file == file) ≡ true → without (n ∷ []) names ≡ kept file left old
  forgotten here =
      let passed : without_file file (n ∷ drop (left + 1) old) ≡ without_file file (drop (left + 1) old) = rw here refl in
      gone ∙ ap (λ l. l ++ take left old) (sym passed)
      ∙ ap (λ l. without_file file l ++ take left old) (sym rest)

  pub moved : (pages : ℕ) → length names ≤ pages → (n.file == file) ≡ false
      → used pages (n ∷ []) names ≡ kept file left old
  moved pages few other =
      let passed : without_file file (n ∷ drop (left + 1) old) ≡ n ∷ without_file file (drop (left + 1) old) =
      rw other refl in
      let fits : length (n ∷ front file left old) ≤ pages =
      omega (arith, few, ap (λ l. length l) names_split, length-append (front file left old) (n ∷ [])) in
      ap (λ l. take pages (n ∷ l)) gone ∙ take_all pages (n ∷ front file left old) fits
      ∙ ap (λ l. l ++ take left old) (sym passed)
      ∙ ap (λ l. without_file file l ++ take left old) (sym rest)

  pub is_there : Contains names n
  is_there = subst (λ l. Contains l n) (sym names_split) (Contains-middle (front file left old) n [])

pub kept_none : (file left : ℕ) (old : List PageName) → left ≡ length old → old ≡ kept file left old
kept_none file left old all =
    sym (ap (λ l. without_file file l ++ take left old) (drop_all left old (omega (arith, all)))
    ∙ take_all left old (omega (arith, all)))

pub kept_all : (file left : ℕ) (old : List PageName) → left ≡ 0 → kept file left old ≡ without_file file old
kept_all file left old none = subst (λ i. kept file i old ≡ without_file file old) (sym none) (append-nil (without_file file old))

-- nothing is looked at where no name is left
pub is_some_last : (names : List PageName) → 0 < length names → slice_get names (length names - 1) ≢ None
is_some_last names some none =
    let there = slice_get_cases names (length names - 1) in
    elim there.1 [
      | inl one ↦ let both = sym one.2 ∙ none in (cc)
      | inr past ↦ omega (arith, past.0, some)
    ]

-- the pages of a file as far as they were taken out
pub record Forgets (file counter : ℕ) (old now : Stock) : Type 0 where
  pub within : counter ≤ length (held_names old.held)
  pub names : held_names now.held ≡ kept file (length (held_names old.held) - counter) (held_names old.held)
  pub others : IsWithoutFile file old.held now.held
  pub pages : now.pages ≡ old.pages
  pub frames : HasFrames (old.pages + 1) now
  pub sound : AreResident now.pages now.held

pub forgets_none : (file : ℕ) (old : Stock) → AreResident old.pages old.held → HasFrames (old.pages + 1) old
    → Forgets file 0 old old
forgets_none file old sound frames = record {
  within = omega arith;
  names = kept_none file (length (held_names old.held) - 0) (held_names old.held) (omega arith);
  others = record { fewer = λ h has. has; others = λ h has _. has; view = λ other bytes _. refl };
  pages = refl;
  frames = frames;
  sound = sound;
}

module _ (file counter : ℕ) (old now : Stock) (n : PageName) (so_far : Forgets file counter old now) (less : counter < length (held_names old.held)) (last : slice_get (held_names now.held) (length (held_names now.held) - 1) ≡ Some n) where
  abbrev left : ℕ
  left = length (held_names old.held) - (counter + 1)

  are : held_names now.held ≡ kept file (left + 1) (held_names old.held)
  are = let next : length (held_names old.held) - counter ≡ left + 1 = omega (arith, less) in
      so_far.names ∙ ap (λ i. kept file i (held_names old.held)) next

  within_old : left < length (held_names old.held)
  within_old = omega (arith, less)

  pub forgets_there : Contains (held_names now.held) n
  forgets_there = is_there file left (held_names old.held) (held_names now.held) n within_old are so_far.sound.distinct last

  pub forgets_next : (new : Stock)
      → (n.file ≡ file → held_names new.held ≡ without (n ∷ []) (held_names now.held))
      → (n.file ≢ file → held_names new.held ≡ used now.pages (n ∷ []) (held_names now.held))
      → IsWithoutFile file now.held new.held → new.pages ≡ now.pages
      → HasFrames (now.pages + 1) new → AreResident new.pages new.held → Forgets file (counter + 1) old new
  forgets_next new here other others pages frames sound = record {
    within = omega (arith, less);
    names = (elim (n.file == file) as (λ y. (n.file == file) ≡ y → held_names new.held ≡ kept file left (held_names old.held)) [
      | true ↦ λ test.
          here (grind (arith, nat_tests))
          ∙ forgotten file left (held_names old.held) (held_names now.held) n within_old are so_far.sound.distinct last test
      | false ↦ λ test.
          other (λ same. grind (arith, nat_tests))
          ∙ moved file left (held_names old.held) (held_names now.held) n within_old are so_far.sound.distinct last now.pages
          so_far.sound.bound test
    ]) refl;
    others = record {
      fewer = λ h has. so_far.others.fewer h (others.fewer h has);
      others = λ h has out. others.others h (so_far.others.others h has out) out;
      view = λ file bytes out. others.view file bytes out ∙ so_far.others.view file bytes out;
    };
    pages = pages ∙ so_far.pages;
    frames = subst (λ n. HasFrames (n + 1) new) so_far.pages frames;
    sound = sound;
  }
