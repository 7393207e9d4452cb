-- The lists that a page of cells and a page of bodies say, by their indexes.
use Rattle.std.proofs.Common.{◌≡◌, ℕ, zero, suc, ◌<◌, ◌↔◌, List, [], ◌∷◌, length, get_or, Some, None, sym, ap, ◌∙◌, refl, inl, inr, arith}
use Rattle.std.specs.Prelude.{◌≢◌, slice_get, All}
use Rattle.std.proofs.lemmas.Bool.{cases_lt}
use Rattle.std.proofs.lemmas.List.{length_push, get_or_append_left, get_or_push}
use Rattle.std.proofs.lemmas.Option.{slice_get-get_or}
use Rattle.nb_model.specs.declared.body.Body.{Body}
use Rattle.nb_record.specs.declared.cell.Cell.{Cell}
use Rattle.nb_record.specs.Fields.{u64_at}
use Rattle.nb_record.specs.Pages.{record_count}
use Rattle.nb_record.specs.Records.{body_record, body_of, first_bodies, bodies_of, cell_record, cell_of, first_cells, cells_of}
use Rattle.nb_record.specs.Looking.{index_of_key}
use Rattle.nb_record.proofs.Searching.{find_some, find_first, find_none, find_lacks}

-- ---- cells

length-first_cells : (n : ℕ) (bytes : List ℕ) → length (first_cells n bytes) ≡ n
unfolding first_cells
length-first_cells zero bytes = refl
length-first_cells (suc n) bytes = omega (arith, length_push (first_cells n bytes) (cell_of (cell_record n bytes)), length-first_cells n bytes)

get_or-first_cells : (n i : ℕ) (bytes : List ℕ) (d : Cell) → i < n → get_or (first_cells n bytes) i d ≡ cell_of (cell_record i bytes)
unfolding first_cells
get_or-first_cells zero i bytes d below = absurd (omega arith)
get_or-first_cells (suc n) i bytes d below =
    let long = length-first_cells n bytes in
    elim (cases_lt i n) [
      | inl before ↦ get_or_append_left (first_cells n bytes) (cell_of (cell_record n bytes) ∷ []) d i (omega (arith, long)) ∙ get_or-first_cells n i bytes d before
      | inr from ↦
          let last : i ≡ n = omega arith in
          get_or_push (first_cells n bytes) (cell_of (cell_record n bytes)) d i (long ∙ sym last) ∙ ap (λ k. cell_of (cell_record k bytes)) (sym last)
    ]

pub length-cells_of : (bytes : List ℕ) → length (cells_of bytes) ≡ record_count bytes
length-cells_of bytes = length-first_cells (record_count bytes) bytes

pub cell_at : (bytes : List ℕ) (i : ℕ) → i < record_count bytes → slice_get (cells_of bytes) i ≡ Some (cell_of (cell_record i bytes))
cell_at bytes i below =
    let cell = cell_of (cell_record i bytes) in
    slice_get-get_or (cells_of bytes) i cell (omega (arith, length-cells_of bytes)) ∙ ap (λ c. Some c) (get_or-first_cells (record_count bytes) i bytes cell below)

-- ---- the index of a key

pub key_found : (bytes : List ℕ) (key i : ℕ) → index_of_key key bytes ≡ Some i → (i < record_count bytes) × (u64_at 0 (cell_record i bytes) ≡ key)
key_found bytes key i is =
    let found = find_some (record_count bytes) 0 key bytes i is in
    (omega (arith, found.1), found.2)

pub key_first : (bytes : List ℕ) (key i : ℕ) → index_of_key key bytes ≡ Some i → (j : ℕ) → j < i → u64_at 0 (cell_record j bytes) ≢ key
key_first bytes key i is j before = find_first (record_count bytes) 0 key bytes i is j (omega arith) before

pub key_lacking : (bytes : List ℕ) (key : ℕ) → (index_of_key key bytes ≡ None) ↔ All (λ c. c.key ≢ key) (cells_of bytes)
key_lacking bytes key = (into, back) where
  into : index_of_key key bytes ≡ None → All (λ c. c.key ≢ key) (cells_of bytes)
  into is k d below same =
      let within : k < record_count bytes = omega (arith, length-cells_of bytes) in
      find_none (record_count bytes) 0 key bytes is k (omega arith) (omega arith) (ap (λ c. c.key) (sym (get_or-first_cells (record_count bytes) k bytes d within)) ∙ same)

  back : All (λ c. c.key ≢ key) (cells_of bytes) → index_of_key key bytes ≡ None
  back all =
      find_lacks (record_count bytes) 0 key bytes
      (λ k from to same.
      let within : k < record_count bytes = omega arith in
      let cell = cell_of (cell_record k bytes) in
      all k cell (omega (arith, length-cells_of bytes)) (ap (λ c. c.key) (get_or-first_cells (record_count bytes) k bytes cell within) ∙ same))

-- ---- bodies

length-first_bodies : (n : ℕ) (bytes : List ℕ) → length (first_bodies n bytes) ≡ n
unfolding first_bodies
length-first_bodies zero bytes = refl
length-first_bodies (suc n) bytes = omega (arith, length_push (first_bodies n bytes) (body_of (body_record n bytes)), length-first_bodies n bytes)

get_or-first_bodies : (n i : ℕ) (bytes : List ℕ) (d : Body) → i < n → get_or (first_bodies n bytes) i d ≡ body_of (body_record i bytes)
unfolding first_bodies
get_or-first_bodies zero i bytes d below = absurd (omega arith)
get_or-first_bodies (suc n) i bytes d below =
    let long = length-first_bodies n bytes in
    elim (cases_lt i n) [
      | inl before ↦ get_or_append_left (first_bodies n bytes) (body_of (body_record n bytes) ∷ []) d i (omega (arith, long)) ∙ get_or-first_bodies n i bytes d before
      | inr from ↦
          let last : i ≡ n = omega arith in
          get_or_push (first_bodies n bytes) (body_of (body_record n bytes)) d i (long ∙ sym last) ∙ ap (λ k. body_of (body_record k bytes)) (sym last)
    ]

pub length-bodies_of : (bytes : List ℕ) → length (bodies_of bytes) ≡ record_count bytes
length-bodies_of bytes = length-first_bodies (record_count bytes) bytes

pub body_at : (bytes : List ℕ) (i : ℕ) → i < record_count bytes → slice_get (bodies_of bytes) i ≡ Some (body_of (body_record i bytes))
body_at bytes i below =
    let body = body_of (body_record i bytes) in
    slice_get-get_or (bodies_of bytes) i body (omega (arith, length-bodies_of bytes)) ∙ ap (λ b. Some b) (get_or-first_bodies (record_count bytes) i bytes body below)
