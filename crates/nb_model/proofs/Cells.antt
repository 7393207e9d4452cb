-- The force of a cell, one equation a way.
use Rattle.std.proofs.Common.{◌≡◌, ◌≢◌, ℕ, zero, suc, ◌+◌, ◌-◌, ◌<◌, ◌≤◌, Bool, true, false, cond, not, ◌&&◌, ◌||◌, List, [], ◌∷◌, length, map, take, get_or, refl, ap, ◌∙◌, sym, inl, inr, arith}
use Rattle.std.specs.Prelude.{nat_le}
use Rattle.std.proofs.lemmas.Bool.{cond-true, cond-false, le-leb, lt-leb, cases_lt}
use Rattle.std.proofs.lemmas.List.{take_all}
use Rattle.nb_model.specs.declared.body.At.{At}
use Rattle.nb_model.specs.declared.body.V3.{V3}
use Rattle.nb_model.specs.declared.body.Body.{Body}
use Rattle.nb_model.specs.declared.params.Params.{Params}
use Rattle.nb_model.specs.Limits.{deepest_level}
use Rattle.nb_model.specs.Vector.{zero_vector, plus, vector_sum}
use Rattle.nb_model.specs.Octree.{in_octant, is_same_cell, total_mass, centre_of_mass}
use Rattle.nb_model.specs.Gravity.{pull, is_far, cell_holds, is_accepted, direct_sum, octants, cell_force, force_to_depth, force_on}
use Rattle.nb_model.specs.Laws.{IsForceByCases}
use Rattle.nb_model.proofs.Vectors.{vector_sum_more}

-- what the octants of a cell give
abbrev pub octant_forces : Params → At → ℕ → List Body → V3
octant_forces params p level bodies =
    vector_sum (map (λ octant. force_on params p (level + 1) (in_octant level bodies octant)) octants)

-- ---- the force at a level

pub force_on-deepest : (params : Params) (p : At) (bodies : List Body) → force_on params p deepest_level bodies ≡ cell_force params p deepest_level bodies (direct_sum params p bodies)
unfolding force_to_depth
force_on-deepest params p bodies = refl

force_to_depth-suc : (params : Params) (p : At) (below level : ℕ) (bodies : List Body) → deepest_level - 1 - below ≡ level → force_to_depth params p (suc below) bodies ≡ cell_force params p level bodies (cond (nat_le (length bodies) params.leaf) (direct_sum params p bodies) (vector_sum (map (λ octant. force_to_depth params p below (in_octant level bodies octant)) octants)))
unfolding force_to_depth
force_to_depth-suc params p below level bodies e =
    ap (λ l. cell_force params p l bodies (cond (nat_le (length bodies) params.leaf) (direct_sum params p bodies) (vector_sum (map (λ octant. force_to_depth params p below (in_octant l bodies octant)) octants)))) e

pub force_on-above : (params : Params) (p : At) (level : ℕ) (bodies : List Body) → level < deepest_level → force_on params p level bodies ≡ cell_force params p level bodies (cond (nat_le (length bodies) params.leaf) (direct_sum params p bodies) (octant_forces params p level bodies))
force_on-above params p level bodies above =
    let more : deepest_level - level ≡ suc (deepest_level - (level + 1)) = omega arith in
    let back : deepest_level - 1 - (deepest_level - (level + 1)) ≡ level = omega arith in
    ap (λ below. force_to_depth params p below bodies) more ∙ force_to_depth-suc params p (deepest_level - (level + 1)) level bodies back

-- ---- the ways of a cell

pub cell_force-accepted : (params : Params) (p : At) (level : ℕ) (bodies : List Body) (opened : V3) → bodies ≢ [] → is_accepted params p level bodies ≡ true → cell_force params p level bodies opened ≡ pull params p (total_mass bodies) (centre_of_mass bodies)
cell_force-accepted params p level [] opened some taken = absurd (some refl)
cell_force-accepted params p level (b ∷ bs) opened some taken =
    cond-true (is_accepted params p level (b ∷ bs)) (pull params p (total_mass (b ∷ bs)) (centre_of_mass (b ∷ bs))) opened taken

pub cell_force-opened : (params : Params) (p : At) (level : ℕ) (bodies : List Body) (opened : V3) → bodies ≢ [] → is_accepted params p level bodies ≡ false → cell_force params p level bodies opened ≡ opened
cell_force-opened params p level [] opened some refused = absurd (some refl)
cell_force-opened params p level (b ∷ bs) opened some refused =
    cond-false (is_accepted params p level (b ∷ bs)) (pull params p (total_mass (b ∷ bs)) (centre_of_mass (b ∷ bs))) opened refused

-- ---- the four cases

force_to_depth-nil : (params : Params) (p : At) (below : ℕ) → force_to_depth params p below [] ≡ zero_vector
unfolding force_to_depth
force_to_depth-nil params p zero = refl
force_to_depth-nil params p (suc below) = refl

pub force_on-nil : (params : Params) (p : At) (level : ℕ) → force_on params p level [] ≡ zero_vector
force_on-nil params p level = force_to_depth-nil params p (deepest_level - level)

pub force_on-accepted : (params : Params) (p : At) (level : ℕ) (bodies : List Body) → level ≤ deepest_level → bodies ≢ [] → is_accepted params p level bodies ≡ true → force_on params p level bodies ≡ pull params p (total_mass bodies) (centre_of_mass bodies)
force_on-accepted params p level bodies within some taken =
    elim (cases_lt level deepest_level) [
      | inl above ↦ force_on-above params p level bodies above ∙ cell_force-accepted params p level bodies (cond (nat_le (length bodies) params.leaf) (direct_sum params p bodies) (octant_forces params p level bodies)) some taken
      | inr deep ↦ at_deepest (omega arith)
    ] where
      at_deepest : level ≡ deepest_level → force_on params p level bodies ≡ pull params p (total_mass bodies) (centre_of_mass bodies)
      at_deepest e =
          ap (λ l. force_on params p l bodies) e ∙ force_on-deepest params p bodies ∙ cell_force-accepted params p deepest_level bodies (direct_sum params p bodies) some (ap (λ l. is_accepted params p l bodies) (sym e) ∙ taken)

pub force_on-deepest_leaf : (params : Params) (p : At) (level : ℕ) (bodies : List Body) → level ≡ deepest_level → bodies ≢ [] → is_accepted params p level bodies ≡ false → force_on params p level bodies ≡ direct_sum params p bodies
force_on-deepest_leaf params p level bodies e some refused =
    ap (λ l. force_on params p l bodies) e ∙ force_on-deepest params p bodies ∙ cell_force-opened params p deepest_level bodies (direct_sum params p bodies) some (ap (λ l. is_accepted params p l bodies) (sym e) ∙ refused)

pub force_on-small_leaf : (params : Params) (p : At) (level : ℕ) (bodies : List Body) → level ≤ deepest_level → length bodies ≤ params.leaf → bodies ≢ [] → is_accepted params p level bodies ≡ false → force_on params p level bodies ≡ direct_sum params p bodies
force_on-small_leaf params p level bodies within few some refused =
    elim (cases_lt level deepest_level) [
      | inl above ↦ force_on-above params p level bodies above ∙ cell_force-opened params p level bodies (cond (nat_le (length bodies) params.leaf) (direct_sum params p bodies) (octant_forces params p level bodies)) some refused ∙ cond-true (nat_le (length bodies) params.leaf) (direct_sum params p bodies) (octant_forces params p level bodies) (le-leb (length bodies) params.leaf few)
      | inr deep ↦ force_on-deepest_leaf params p level bodies (omega arith) some refused
    ]

pub force_on-divided : (params : Params) (p : At) (level : ℕ) (bodies : List Body) → level < deepest_level → params.leaf < length bodies → bodies ≢ [] → is_accepted params p level bodies ≡ false → force_on params p level bodies ≡ octant_forces params p level bodies
force_on-divided params p level bodies above many some refused =
    force_on-above params p level bodies above ∙ cell_force-opened params p level bodies (cond (nat_le (length bodies) params.leaf) (direct_sum params p bodies) (octant_forces params p level bodies)) some refused ∙ cond-false (nat_le (length bodies) params.leaf) (direct_sum params p bodies) (octant_forces params p level bodies) (lt-leb (length bodies) params.leaf many)

pub force_by_cases : (params : Params) (p : At) (level : ℕ) (bodies : List Body) → level ≤ deepest_level → IsForceByCases params p level bodies
force_by_cases params p level bodies within = record {
  empty = λ none. ap (λ b. force_on params p level b) none ∙ force_on-nil params p level;
  accepted = λ some taken. force_on-accepted params p level bodies within some taken;
  leaf = λ some refused small. elim small [
    | inl few ↦ force_on-small_leaf params p level bodies within few some refused
    | inr deep ↦ force_on-deepest_leaf params p level bodies deep some refused
  ];
  divided = λ some refused many above. force_on-divided params p level bodies above many some refused;
}

-- ---- as the code tests and adds up

-- whether a cell holds p shows at its first body
cell_holds-first : (level : ℕ) (p : At) (bodies : List Body) (d : Body) → bodies ≢ [] → cell_holds level p bodies ≡ is_same_cell level p (get_or bodies 0 d).at
cell_holds-first level p [] d some = absurd (some refl)
cell_holds-first level p (b ∷ bs) d some = refl

not_opened : (inside far : Bool) → (not inside && far) ≡ not (inside || not far)
not_opened true far = refl
not_opened false true = refl
not_opened false false = refl

pub is_accepted-opens : (params : Params) (p : At) (level : ℕ) (bodies : List Body) (d : Body) {centre : At} {inside opened : Bool} → bodies ≢ [] → centre ≡ centre_of_mass bodies → inside ≡ is_same_cell level p (get_or bodies 0 d).at → opened ≡ (inside || not (is_far params p level centre)) → is_accepted params p level bodies ≡ not opened
is_accepted-opens params p level bodies d {centre} {inside} {opened} some middle held test =
    let holding : cell_holds level p bodies ≡ inside = cell_holds-first level p bodies d some ∙ sym held in
    ap (λ t. not t && is_far params p level (centre_of_mass bodies)) holding ∙ ap (λ c. not inside && is_far params p level c) (sym middle) ∙ not_opened inside (is_far params p level centre) ∙ ap not (sym test)

octants_at : (i : ℕ) → i < 8 → get_or octants i 0 ≡ i
octants_at zero _ = omega arith
octants_at (suc zero) _ = omega arith
octants_at (suc (suc zero)) _ = omega arith
octants_at (suc (suc (suc zero))) _ = omega arith
octants_at (suc (suc (suc (suc zero)))) _ = omega arith
octants_at (suc (suc (suc (suc (suc zero))))) _ = omega arith
octants_at (suc (suc (suc (suc (suc (suc zero)))))) _ = omega arith
octants_at (suc (suc (suc (suc (suc (suc (suc zero))))))) _ = omega arith
octants_at (suc (suc (suc (suc (suc (suc (suc (suc k)))))))) below = absurd (omega arith)

pub octant_forces_more : (params : Params) (p : At) (level : ℕ) (bodies : List Body) (i : ℕ) → i < 8 → vector_sum (map (λ octant. force_on params p (level + 1) (in_octant level bodies octant)) (take (i + 1) octants)) ≡ plus (vector_sum (map (λ octant. force_on params p (level + 1) (in_octant level bodies octant)) (take i octants))) (force_on params p (level + 1) (in_octant level bodies i))
octant_forces_more params p level bodies i more =
    let force = λ (octant : ℕ). force_on params p (level + 1) (in_octant level bodies octant) in
    vector_sum_more force octants i 0 more ∙ ap (λ k. plus (vector_sum (map force (take i octants))) (force k)) (octants_at i more)

pub octant_forces_all : (params : Params) (p : At) (level : ℕ) (bodies : List Body) (i : ℕ) → 8 ≤ i → vector_sum (map (λ octant. force_on params p (level + 1) (in_octant level bodies octant)) (take i octants)) ≡ octant_forces params p level bodies
octant_forces_all params p level bodies i all =
    ap (λ os. vector_sum (map (λ octant. force_on params p (level + 1) (in_octant level bodies octant)) os)) (take_all i octants all)
