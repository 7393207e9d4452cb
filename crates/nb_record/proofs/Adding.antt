-- What a write leaves of a page's header and of its records.
use Rattle.std.proofs.Common.{◌≡◌, ℕ, zero, suc, ◌+◌, ◌-◌, ◌*◌, ◌^◌, ◌<◌, ◌≤◌, List, [], ◌∷◌, ◌++◌, length, take, drop, sym, ap, ◌∙◌, subst, refl, arith}
use Rattle.std.specs.Prelude.{replicate}
use Rattle.std.proofs.Math.Nat.{mul-add}
use Rattle.std.proofs.lemmas.Nat.{column_fits}
use Rattle.std.proofs.lemmas.List.{drop-drop, drop-replicate}
use Rattle.nb_model.specs.declared.body.Body.{Body}
use Rattle.nb_record.specs.declared.cell.Cell.{Cell}
use Rattle.nb_host.specs.declared.page_name.TheConstants.{PAGE_SIZE}
use Rattle.nb_record.specs.declared.sizes.TheConstants.{HEADER_SIZE, BODY_SIZE, CELL_SIZE, BODIES_PER_PAGE, CELLS_PER_PAGE}
use Rattle.nb_record.specs.Fields.{u64_at, u64_bytes, written}
use Rattle.nb_record.specs.Pages.{page_number, record_count, page_next, IsCellPage, IsBodyPage}
use Rattle.nb_record.specs.Records.{body_record, body_of, first_bodies, bodies_of, cell_record, cell_of, first_cells, cells_of}
use Rattle.nb_record.specs.Writing.{zero_page, empty_page, with_record, records_end, IsZeroPadded}
use Rattle.nb_record.proofs.Writes.{length-written, part_before, part_after, part_here, length-u64_bytes, word_before, word_after, word_here}

-- ---- one more record

-- a piece is a record of this size, and the page has room for it
pub record HasRoom (size : ℕ) (piece bytes : List ℕ) : Type 0 where
  pub fits : length piece ≡ size
  pub room : HEADER_SIZE + size * record_count bytes + size ≤ length bytes
  pub count : record_count bytes + 1 < 2 ^ 64

length-with_piece : (size : ℕ) (piece bytes : List ℕ) → HasRoom size piece bytes → length (written (HEADER_SIZE + size * record_count bytes) piece bytes) ≡ length bytes
length-with_piece size piece bytes has = length-written (HEADER_SIZE + size * record_count bytes) piece bytes (omega (arith, has.fits, has.room))

pub number_kept : (size : ℕ) (piece bytes : List ℕ) → HasRoom size piece bytes → page_number (with_record size piece bytes) ≡ page_number bytes
number_kept size piece bytes has =
    let inner = written (HEADER_SIZE + size * record_count bytes) piece bytes in
    let long = length-with_piece size piece bytes has in
    word_before 8 (u64_bytes (record_count bytes + 1)) inner 0 (omega (arith, has.room, long)) (omega arith)
    ∙ word_before (HEADER_SIZE + size * record_count bytes) piece bytes 0 (omega (arith, has.room)) (omega arith)

pub word_kept : (size : ℕ) (piece bytes : List ℕ) (k : ℕ) → HasRoom size piece bytes → 16 ≤ k → k + 8 ≤ HEADER_SIZE → u64_at k (with_record size piece bytes) ≡ u64_at k bytes
word_kept size piece bytes k has from to =
    let inner = written (HEADER_SIZE + size * record_count bytes) piece bytes in
    let long = length-with_piece size piece bytes has in
    word_after 8 (u64_bytes (record_count bytes + 1)) inner k (omega (arith, has.room, long)) (omega (arith, length-u64_bytes (record_count bytes + 1)))
    ∙ word_before (HEADER_SIZE + size * record_count bytes) piece bytes k (omega (arith, has.room)) (omega arith)

pub count_more : (size : ℕ) (piece bytes : List ℕ) → HasRoom size piece bytes → record_count (with_record size piece bytes) ≡ record_count bytes + 1
count_more size piece bytes has =
    let long = length-with_piece size piece bytes has in
    word_here 8 (record_count bytes + 1) (written (HEADER_SIZE + size * record_count bytes) piece bytes) (omega (arith, has.room, long)) has.count

-- a record behind the header is read past the count
past_count : (size : ℕ) (piece bytes : List ℕ) (k : ℕ) → HasRoom size piece bytes → drop (HEADER_SIZE + k) (with_record size piece bytes) ≡ drop (HEADER_SIZE + k) (written (HEADER_SIZE + size * record_count bytes) piece bytes)
past_count size piece bytes k has =
    let long = length-with_piece size piece bytes has in
    part_after 8 (u64_bytes (record_count bytes + 1)) (written (HEADER_SIZE + size * record_count bytes) piece bytes) (HEADER_SIZE + k) (omega (arith, has.room, long)) (omega (arith, length-u64_bytes (record_count bytes + 1)))

pub record_kept : (size : ℕ) (piece bytes : List ℕ) (i : ℕ) → HasRoom size piece bytes → i < record_count bytes → take size (drop (HEADER_SIZE + size * i) (with_record size piece bytes)) ≡ take size (drop (HEADER_SIZE + size * i) bytes)
record_kept size piece bytes i has before =
    let row : size * i + size ≤ size * record_count bytes = column_fits size i size (record_count bytes) before (omega arith) in
    ap (take size) (past_count size piece bytes (size * i) has)
    ∙ part_before (HEADER_SIZE + size * record_count bytes) piece bytes (HEADER_SIZE + size * i) size (omega (arith, has.room)) (omega (arith, row))

pub record_new : (size : ℕ) (piece bytes : List ℕ) → HasRoom size piece bytes → take size (drop (HEADER_SIZE + size * record_count bytes) (with_record size piece bytes)) ≡ piece
record_new size piece bytes has =
    ap (take size) (past_count size piece bytes (size * record_count bytes) has)
    ∙ part_here (HEADER_SIZE + size * record_count bytes) piece bytes size (omega (arith, has.room)) has.fits

-- ---- the lists

first_cells_same : (n : ℕ) (a b : List ℕ) → ((i : ℕ) → i < n → cell_record i a ≡ cell_record i b) → first_cells n a ≡ first_cells n b
unfolding first_cells
first_cells_same zero a b same = refl
first_cells_same (suc n) a b same =
    ap (λ l. l ++ cell_of (cell_record n a) ∷ []) (first_cells_same n a b (λ i below. same i (omega arith)))
    ∙ ap (λ r. first_cells n b ++ cell_of r ∷ []) (same n (omega arith))

first_cells_more : (n : ℕ) (bytes : List ℕ) → first_cells (n + 1) bytes ≡ first_cells n bytes ++ cell_of (cell_record n bytes) ∷ []
unfolding first_cells
first_cells_more n bytes =
    let more : n + 1 ≡ suc n = omega arith in
    ap (λ m. first_cells m bytes) more

pub cells_added : (piece bytes : List ℕ) (cell : Cell) → HasRoom CELL_SIZE piece bytes → cell_of piece ≡ cell → cells_of (with_record CELL_SIZE piece bytes) ≡ cells_of bytes ++ cell ∷ []
cells_added piece bytes cell has is =
    let new = with_record CELL_SIZE piece bytes in
    ap (λ n. first_cells n new) (count_more CELL_SIZE piece bytes has)
    ∙ first_cells_more (record_count bytes) new
    ∙ ap (λ l. l ++ cell_of (cell_record (record_count bytes) new) ∷ []) (first_cells_same (record_count bytes) new bytes (λ i below. record_kept CELL_SIZE piece bytes i has below))
    ∙ ap (λ r. cells_of bytes ++ cell_of r ∷ []) (record_new CELL_SIZE piece bytes has)
    ∙ ap (λ c. cells_of bytes ++ c ∷ []) is

first_bodies_same : (n : ℕ) (a b : List ℕ) → ((i : ℕ) → i < n → body_record i a ≡ body_record i b) → first_bodies n a ≡ first_bodies n b
unfolding first_bodies
first_bodies_same zero a b same = refl
first_bodies_same (suc n) a b same =
    ap (λ l. l ++ body_of (body_record n a) ∷ []) (first_bodies_same n a b (λ i below. same i (omega arith)))
    ∙ ap (λ r. first_bodies n b ++ body_of r ∷ []) (same n (omega arith))

first_bodies_more : (n : ℕ) (bytes : List ℕ) → first_bodies (n + 1) bytes ≡ first_bodies n bytes ++ body_of (body_record n bytes) ∷ []
unfolding first_bodies
first_bodies_more n bytes =
    let more : n + 1 ≡ suc n = omega arith in
    ap (λ m. first_bodies m bytes) more

pub bodies_added : (piece bytes : List ℕ) (body : Body) → HasRoom BODY_SIZE piece bytes → body_of piece ≡ body → bodies_of (with_record BODY_SIZE piece bytes) ≡ bodies_of bytes ++ body ∷ []
bodies_added piece bytes body has is =
    let new = with_record BODY_SIZE piece bytes in
    ap (λ n. first_bodies n new) (count_more BODY_SIZE piece bytes has)
    ∙ first_bodies_more (record_count bytes) new
    ∙ ap (λ l. l ++ body_of (body_record (record_count bytes) new) ∷ []) (first_bodies_same (record_count bytes) new bytes (λ i below. record_kept BODY_SIZE piece bytes i has below))
    ∙ ap (λ r. bodies_of bytes ++ body_of r ∷ []) (record_new BODY_SIZE piece bytes has)
    ∙ ap (λ c. bodies_of bytes ++ c ∷ []) is

-- ---- the form

-- a page of the form has its own number
pub numbered_cells : (page : ℕ) (bytes : List ℕ) → IsCellPage page bytes → IsCellPage (page_number bytes) bytes
numbered_cells page bytes is = subst (λ n. IsCellPage n bytes) (sym is.number) is

pub numbered_bodies : (page : ℕ) (bytes : List ℕ) → IsBodyPage page bytes → IsBodyPage (page_number bytes) bytes
numbered_bodies page bytes is = subst (λ n. IsBodyPage n bytes) (sym is.number) is

pub cell_page_added : (piece bytes : List ℕ) → HasRoom CELL_SIZE piece bytes → record_count bytes < CELLS_PER_PAGE → IsCellPage (page_number bytes) bytes → IsCellPage (page_number bytes) (with_record CELL_SIZE piece bytes)
cell_page_added piece bytes has room is =
    let next : page_next (with_record CELL_SIZE piece bytes) ≡ page_next bytes = word_kept CELL_SIZE piece bytes 16 has (omega arith) (omega arith) in
    record {
      number = number_kept CELL_SIZE piece bytes has;
      count = omega (arith, count_more CELL_SIZE piece bytes has);
      next = λ some. omega (arith, next, is.next (λ none. some (next ∙ none)));
      zeros = word_kept CELL_SIZE piece bytes 24 has (omega arith) (omega arith) ∙ is.zeros;
    }

pub body_page_added : (piece bytes : List ℕ) → HasRoom BODY_SIZE piece bytes → record_count bytes < BODIES_PER_PAGE → IsBodyPage (page_number bytes) bytes → IsBodyPage (page_number bytes) (with_record BODY_SIZE piece bytes)
body_page_added piece bytes has room is = record {
  number = number_kept BODY_SIZE piece bytes has;
  count = omega (arith, count_more BODY_SIZE piece bytes has);
  next = word_kept BODY_SIZE piece bytes 16 has (omega arith) (omega arith) ∙ is.next;
  zeros = word_kept BODY_SIZE piece bytes 24 has (omega arith) (omega arith) ∙ is.zeros;
}

-- ---- zeros behind the last record

pub padded_added : (size : ℕ) (piece bytes : List ℕ) → HasRoom size piece bytes → IsZeroPadded size bytes → IsZeroPadded size (with_record size piece bytes)
padded_added size piece bytes has padded =
    let new = with_record size piece bytes in
    let end = records_end size bytes in
    let ends : records_end size new ≡ end + size = omega (arith, ap (λ n. size * n) (count_more size piece bytes has), mul-add size (record_count bytes) 1) in
    let behind : drop (end + size) new ≡ drop (end + size) bytes =
    ap (λ k. drop k new) (regroup HEADER_SIZE (size * record_count bytes) size)
    ∙ past_count size piece bytes (size * record_count bytes + size) has
    ∙ part_after end piece bytes (HEADER_SIZE + (size * record_count bytes + size)) (omega (arith, has.room)) (omega (arith, has.fits))
    ∙ ap (λ k. drop k bytes) (sym (regroup HEADER_SIZE (size * record_count bytes) size)) in
    ap (λ k. drop k new) ends
    ∙ behind
    ∙ sym (drop-drop size end bytes)
    ∙ ap (drop size) padded
    ∙ drop-replicate size (PAGE_SIZE - end) 0
    ∙ ap (λ k. replicate k 0) (omega (arith, ends)) where
      regroup : (a b c : ℕ) → a + b + c ≡ a + (b + c)
      regroup a b c = omega arith

-- ---- the next page

-- a page with another next page
abbrev pub with_next : ℕ → List ℕ → List ℕ
with_next page bytes = written 16 (u64_bytes page) bytes

pub next_is : (page : ℕ) (bytes : List ℕ) → length bytes ≡ PAGE_SIZE → page < 2 ^ 64 → page_next (with_next page bytes) ≡ page
next_is page bytes long fits = word_here 16 page bytes (omega arith) fits

pub next_count : (page : ℕ) (bytes : List ℕ) → length bytes ≡ PAGE_SIZE → record_count (with_next page bytes) ≡ record_count bytes
next_count page bytes long = word_before 16 (u64_bytes page) bytes 8 (omega arith) (omega arith)

pub next_cells : (page : ℕ) (bytes : List ℕ) → length bytes ≡ PAGE_SIZE → cells_of (with_next page bytes) ≡ cells_of bytes
next_cells page bytes long =
    ap (λ n. first_cells n (with_next page bytes)) (next_count page bytes long)
    ∙ first_cells_same (record_count bytes) (with_next page bytes) bytes
    (λ i below. ap (take CELL_SIZE) (part_after 16 (u64_bytes page) bytes (HEADER_SIZE + CELL_SIZE * i) (omega arith) (omega (arith, length-u64_bytes page))))

pub next_form : (page : ℕ) (bytes : List ℕ) → length bytes ≡ PAGE_SIZE → page < 2 ^ 64 → page_number bytes < page → IsCellPage (page_number bytes) bytes → IsCellPage (page_number bytes) (with_next page bytes)
next_form page bytes long fits later is = record {
  number = word_before 16 (u64_bytes page) bytes 0 (omega arith) (omega arith);
  count = omega (arith, next_count page bytes long, is.count);
  next = λ some. omega (arith, next_is page bytes long fits);
  zeros = word_after 16 (u64_bytes page) bytes 24 (omega arith) (omega (arith, length-u64_bytes page)) ∙ is.zeros;
}

pub next_padded : (page : ℕ) (bytes : List ℕ) → length bytes ≡ PAGE_SIZE → IsZeroPadded CELL_SIZE bytes → IsZeroPadded CELL_SIZE (with_next page bytes)
next_padded page bytes long padded =
    let new = with_next page bytes in
    let ends : records_end CELL_SIZE new ≡ records_end CELL_SIZE bytes = omega (arith, next_count page bytes long) in
    ap (λ k. drop k new) ends
    ∙ part_after 16 (u64_bytes page) bytes (records_end CELL_SIZE bytes) (omega arith) (omega (arith, length-u64_bytes page))
    ∙ padded
    ∙ ap (λ k. replicate (PAGE_SIZE - k) 0) (sym ends)

-- ---- an empty page

zero_words : (u64_at 8 zero_page ≡ 0) × (u64_at 16 zero_page ≡ 0) × (u64_at 24 zero_page ≡ 0)
unfolding u64_at zero_page
zero_words = (refl, refl, refl)

length-zero_page : length zero_page ≡ PAGE_SIZE
unfolding zero_page
length-zero_page = refl

empty_word : (page k : ℕ) → 8 ≤ k → u64_at k (empty_page page) ≡ u64_at k zero_page
empty_word page k from = word_after 0 (u64_bytes page) zero_page k (omega arith) (omega (arith, length-u64_bytes page))

pub empty_count : (page : ℕ) → record_count (empty_page page) ≡ 0
empty_count page = empty_word page 8 (omega arith) ∙ zero_words.0

empty_number : (page : ℕ) → page < 2 ^ 64 → page_number (empty_page page) ≡ page
empty_number page fits = word_here 0 page zero_page (omega arith) fits

pub empty_next : (page : ℕ) → page_next (empty_page page) ≡ 0
empty_next page = empty_word page 16 (omega arith) ∙ zero_words.1

empty_zeros : (page : ℕ) → u64_at 24 (empty_page page) ≡ 0
empty_zeros page = empty_word page 24 (omega arith) ∙ zero_words.2

pub empty_cells : (page : ℕ) → page < 2 ^ 64 → IsCellPage page (empty_page page)
empty_cells page fits = record {
  number = empty_number page fits;
  count = omega (arith, empty_count page);
  next = λ some. absurd (some (empty_next page));
  zeros = empty_zeros page;
}

pub empty_bodies : (page : ℕ) → page < 2 ^ 64 → IsBodyPage page (empty_page page)
empty_bodies page fits = record { number = empty_number page fits; count = omega (arith, empty_count page); next = empty_next page; zeros = empty_zeros page }

pub empty_says_no_cell : (page : ℕ) → cells_of (empty_page page) ≡ []
unfolding first_cells
empty_says_no_cell page = ap (λ n. first_cells n (empty_page page)) (empty_count page)

pub empty_says_no_body : (page : ℕ) → bodies_of (empty_page page) ≡ []
unfolding first_bodies
empty_says_no_body page = ap (λ n. first_bodies n (empty_page page)) (empty_count page)

zeros_from : (k : ℕ) → drop k zero_page ≡ replicate (PAGE_SIZE - k) 0
unfolding zero_page
zeros_from k = drop-replicate k PAGE_SIZE 0

pub empty_padded : (size page : ℕ) → IsZeroPadded size (empty_page page)
empty_padded size page =
    let none = empty_count page in
    let end : records_end size (empty_page page) ≡ HEADER_SIZE = omega (arith, ap (λ n. size * n) none) in
    ap (λ k. drop k (empty_page page)) end
    ∙ part_after 0 (u64_bytes page) zero_page HEADER_SIZE (omega arith) (omega (arith, length-u64_bytes page))
    ∙ zeros_from HEADER_SIZE
    ∙ ap (λ k. replicate (PAGE_SIZE - k) 0) (sym end)
