-- The keys of a tree's cells differ.
use Rattle.std.proofs.Common.{◌≡◌, ℕ, zero, suc, ◌-◌, ◌<◌, List, [], ◌∷◌, ◌++◌, length, get_or, append-nil, sym, ap, ◌∙◌, subst, inl, inr, arith}
use Rattle.std.specs.Prelude.{◌≢◌, All, AllPairs}
use Rattle.std.specs.List.{flat_map}
use Rattle.std.proofs.lemmas.Bool.{cases_lt}
use Rattle.std.proofs.lemmas.List.{length-append, length_push, get_or_default, append_assoc, append_cancel_left}
use Rattle.std.proofs.lemmas.List.Elements.{All-nil, All-cons, All-head, All-tail, All-append, All-same, All-push, All-weaker}
use Rattle.std.proofs.lemmas.List.Kept.{AllPairs-cons}
use Rattle.nb_model.specs.declared.body.Body.{Body}
use Rattle.nb_model.specs.declared.params.Params.{Params}
use Rattle.nb_model.specs.Limits.{deepest_level}
use Rattle.nb_model.specs.Octree.{in_octant}
use Rattle.nb_model.specs.Gravity.{octants}
use Rattle.nb_key.specs.Morton.{key_of, AreOctants}
use Rattle.nb_key.proofs.Levels.{same_octants}
use Rattle.nb_record.specs.declared.cell.Cell.{Cell}
use Rattle.nb_record.specs.Cells.{kids_of, cell_for, cells_to_depth}
use Rattle.nb_record.proofs.Siblings.{octant_number}
use Rattle.nb_record.proofs.TreeCells.{cells-nil, cells-deepest, cells-leaf, cells-divided, octant_cells, octants_small, All-flat_map, All-octant_cells}

-- ---- pairs of a list

pairs_append : {X : Type 0} (R : X → X → Type 0) (xs ys : List X) → AllPairs R xs → AllPairs R ys → All (λ x. All (R x) ys) xs → AllPairs R (xs ++ ys)
pairs_append R [] ys left right across = right
pairs_append R (x ∷ xs) ys left right across =
    AllPairs-cons R x (xs ++ ys)
    (All-append (R x) xs ys (λ k d below. left 0 (suc k) d (omega arith) (omega arith)) (All-head (λ z. All (R z) ys) x xs across))
    (pairs_append R xs ys (λ i j d before within. left (suc i) (suc j) d (omega arith) (omega arith)) right (All-tail (λ z. All (R z) ys) x xs across))

-- lists of cells that follow one another, each with a property that keeps the cells of two of them apart
pairs_joined : {Y : Type 0} (R : Y → Y → Type 0) (Q : ℕ → Y → Type 0) (f : ℕ → List Y) → ((o p : ℕ) (a b : Y) → o < p → Q o a → Q p b → R a b) → (os : List ℕ) → AllPairs (λ o p. o < p) os → All (λ o. All (Q o) (f o)) os → All (λ o. AllPairs R (f o)) os → AllPairs R (flat_map f os)
pairs_joined R Q f apart [] rise each pairs = λ i j d before within. absurd (omega arith)
pairs_joined R Q f apart (o ∷ os) rise each pairs =
    let here : All (Q o) (f o) = All-head (λ p. All (Q p) (f p)) o os each in
    let behind : All (λ p. All (Q p) (f p)) os = All-tail (λ p. All (Q p) (f p)) o os each in
    let later : All (λ p. o < p) os = λ k d below. rise 0 (suc k) d (omega arith) (omega arith) in
    let across : All (λ a. All (R a) (flat_map f os)) (f o) =
    All-weaker (Q o) (λ a. All (R a) (flat_map f os))
    (λ a of_a. All-flat_map (R a) f os (λ k d below. All-weaker (Q (get_or os k d)) (R a) (λ b of_b. apart o (get_or os k d) a b (later k d below) of_a of_b) (f (get_or os k d)) (behind k d below)))
    (f o) here in
    pairs_append R (f o) (flat_map f os) (All-head (λ p. AllPairs R (f p)) o os pairs)
    (pairs_joined R Q f apart os (λ i j d before within. rise (suc i) (suc j) d (omega arith) (omega arith)) behind (All-tail (λ p. AllPairs R (f p)) o os pairs))
    across

octants_rise : AllPairs (λ o p. o < p) octants
octants_rise i j d before within = omega (arith, at i d (omega arith), at j d within) where
  at : (k : ℕ) (e : ℕ) → k < 8 → get_or octants k e ≡ k
  at k e below = get_or_default octants k e 0 below ∙ octant_number k below

-- ---- the keys under a cell

-- a cell that is the one to which these octants lead, or one below it
record IsUnder (path : List ℕ) (cell : Cell) : Type 0 where
  pub below : List ℕ
  pub octants : AreOctants (path ++ below)
  pub key : cell.key ≡ key_of (path ++ below)

under_itself : (all : List Body) (path : List ℕ) (bodies : List Body) (kids : ℕ) → AreOctants path → IsUnder path (cell_for all path bodies kids)
under_itself all path bodies kids are = record { below = []; octants = subst AreOctants (sym (append-nil path)) are; key = ap key_of (sym (append-nil path)) }

under_octant : (path : List ℕ) (octant : ℕ) (cell : Cell) → IsUnder (path ++ octant ∷ []) cell → IsUnder path cell
under_octant path octant cell is =
    let same : path ++ octant ∷ [] ++ is.below ≡ path ++ (octant ∷ is.below) = append_assoc path (octant ∷ []) is.below in
    record { below = octant ∷ is.below; octants = subst AreOctants same is.octants; key = is.key ∙ ap key_of same }

all_under : (params : Params) (all : List Body) (depth : ℕ) (path : List ℕ) (bodies : List Body) → AreOctants path → All (IsUnder path) (cells_to_depth params all depth path bodies)
all_under params all depth path [] are = All-same (IsUnder path) (cells_to_depth params all depth path []) [] (cells-nil params all depth path) (All-nil (IsUnder path))
all_under params all zero path (b ∷ bs) are =
    All-same (IsUnder path) (cells_to_depth params all zero path (b ∷ bs)) (cell_for all path (b ∷ bs) 0 ∷ []) (cells-deepest params all path b bs)
    (All-cons (IsUnder path) (cell_for all path (b ∷ bs) 0) [] (under_itself all path (b ∷ bs) 0 are) (All-nil (IsUnder path)))
all_under params all (suc depth) path (b ∷ bs) are =
    let kids = kids_of (deepest_level - 1 - depth) (b ∷ bs) in
    elim (cases_lt params.leaf (length (b ∷ bs))) [
      | inl many ↦
          All-same (IsUnder path) (cells_to_depth params all (suc depth) path (b ∷ bs)) (cell_for all path (b ∷ bs) kids ∷ octant_cells params all depth path (b ∷ bs)) (cells-divided params all depth path b bs many)
          (All-cons (IsUnder path) (cell_for all path (b ∷ bs) kids) (octant_cells params all depth path (b ∷ bs)) (under_itself all path (b ∷ bs) kids are)
          (All-octant_cells (IsUnder path) params all depth path (b ∷ bs)
          (λ octant below.
          let cells = cells_to_depth params all depth (path ++ octant ∷ []) (in_octant (deepest_level - 1 - depth) (b ∷ bs) octant) in
          All-weaker (IsUnder (path ++ octant ∷ [])) (IsUnder path) (under_octant path octant) cells
          (all_under params all depth (path ++ octant ∷ []) (in_octant (deepest_level - 1 - depth) (b ∷ bs) octant) (All-push (λ o. o < 8) path octant are below)))))
      | inr few ↦
          All-same (IsUnder path) (cells_to_depth params all (suc depth) path (b ∷ bs)) (cell_for all path (b ∷ bs) 0 ∷ []) (cells-leaf params all depth path b bs few)
          (All-cons (IsUnder path) (cell_for all path (b ∷ bs) 0) [] (under_itself all path (b ∷ bs) 0 are) (All-nil (IsUnder path)))
    ]

-- ---- they differ

abbrev Differ : Cell → Cell → Type 0
Differ a b = a.key ≢ b.key

-- lists of octants that go on from one list are one only where they go on alike
go_on_alike : (path : List ℕ) (o p : ℕ) (xs ys : List ℕ) → (path ++ o ∷ []) ++ xs ≡ (path ++ p ∷ []) ++ ys → o ≡ p
go_on_alike path o p xs ys same =
    let rest : o ∷ xs ≡ p ∷ ys = append_cancel_left path (o ∷ xs) (p ∷ ys) (sym (append_assoc path (o ∷ []) xs) ∙ same ∙ append_assoc path (p ∷ []) ys) in
    cc

octants_apart : (path : List ℕ) (o p : ℕ) (a b : Cell) → o < p → IsUnder (path ++ o ∷ []) a → IsUnder (path ++ p ∷ []) b → Differ a b
octants_apart path o p a b before of_a of_b same =
    let lists : path ++ o ∷ [] ++ of_a.below ≡ path ++ p ∷ [] ++ of_b.below =
    same_octants (path ++ o ∷ [] ++ of_a.below) (path ++ p ∷ [] ++ of_b.below) of_a.octants of_b.octants (sym of_a.key ∙ same ∙ of_b.key) in
    absurd (omega (arith, go_on_alike path o p of_a.below of_b.below lists, before))

octant_apart : (all : List Body) (path : List ℕ) (bodies : List Body) (kids octant : ℕ) → AreOctants path → (cell : Cell) → IsUnder (path ++ octant ∷ []) cell → Differ (cell_for all path bodies kids) cell
octant_apart all path bodies kids octant are cell is same =
    let lists : path ≡ path ++ octant ∷ [] ++ is.below = same_octants path (path ++ octant ∷ [] ++ is.below) are is.octants (same ∙ is.key) in
    absurd (omega (arith, ap length lists, length-append (path ++ octant ∷ []) is.below, length_push path octant))

pairs_one : (a : Cell) → AllPairs Differ (a ∷ [])
pairs_one a i j d before within = absurd (omega arith)

-- a cell and those of its octants, where those of each octant differ
divided_apart : (params : Params) (all : List Body) (depth : ℕ) (path : List ℕ) (bodies : List Body) (kids : ℕ) → AreOctants path → ((octant : ℕ) → octant < 8 → AllPairs Differ (cells_to_depth params all depth (path ++ octant ∷ []) (in_octant (deepest_level - 1 - depth) bodies octant))) → AllPairs Differ (cell_for all path bodies kids ∷ octant_cells params all depth path bodies)
divided_apart params all depth path bodies kids are apart =
    AllPairs-cons Differ (cell_for all path bodies kids) (octant_cells params all depth path bodies)
    (All-octant_cells (Differ (cell_for all path bodies kids)) params all depth path bodies
    (λ octant below. All-weaker (IsUnder (path ++ octant ∷ [])) (Differ (cell_for all path bodies kids)) (octant_apart all path bodies kids octant are) (cells octant) (under octant below)))
    (pairs_joined Differ (λ octant. IsUnder (path ++ octant ∷ [])) cells (octants_apart path) octants octants_rise
    (All-weaker (λ octant. octant < 8) (λ octant. All (IsUnder (path ++ octant ∷ [])) (cells octant)) under octants octants_small)
    (All-weaker (λ octant. octant < 8) (λ octant. AllPairs Differ (cells octant)) apart octants octants_small)) where
      cells : ℕ → List Cell
      cells octant = cells_to_depth params all depth (path ++ octant ∷ []) (in_octant (deepest_level - 1 - depth) bodies octant)

      under : (octant : ℕ) → octant < 8 → All (IsUnder (path ++ octant ∷ [])) (cells octant)
      under octant below =
          all_under params all depth (path ++ octant ∷ []) (in_octant (deepest_level - 1 - depth) bodies octant) (All-push (λ o. o < 8) path octant are below)

pub keys_differ : (params : Params) (all : List Body) (depth : ℕ) (path : List ℕ) (bodies : List Body) → AreOctants path → AllPairs (λ a b. a.key ≢ b.key) (cells_to_depth params all depth path bodies)
keys_differ params all depth path [] are = subst (AllPairs Differ) (sym (cells-nil params all depth path)) (λ i j d before within. absurd (omega arith))
keys_differ params all zero path (b ∷ bs) are = subst (AllPairs Differ) (sym (cells-deepest params all path b bs)) (pairs_one (cell_for all path (b ∷ bs) 0))
keys_differ params all (suc depth) path (b ∷ bs) are =
    elim (cases_lt params.leaf (length (b ∷ bs))) [
      | inl many ↦
          let kids = kids_of (deepest_level - 1 - depth) (b ∷ bs) in
          let apart = λ (octant : ℕ) (below : octant < 8). keys_differ params all depth (path ++ octant ∷ []) (in_octant (deepest_level - 1 - depth) (b ∷ bs) octant) (All-push (λ o. o < 8) path octant are below) in
          subst (AllPairs Differ) (sym (cells-divided params all depth path b bs many)) (divided_apart params all depth path (b ∷ bs) kids are apart)
      | inr few ↦ subst (AllPairs Differ) (sym (cells-leaf params all depth path b bs few)) (pairs_one (cell_for all path (b ∷ bs) 0))
    ]
