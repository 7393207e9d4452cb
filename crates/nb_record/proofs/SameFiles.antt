-- A page is a function of its records, and a file of bodies of its list, where the bytes behind the last record are zeros.
use Rattle.std.proofs.Common.{◌≡◌, ℕ, zero, suc, ◌+◌, ◌-◌, ◌*◌, ◌/◌, ◌%◌, ◌^◌, ◌<◌, ◌≤◌, List, length, get_or, drop, eqb, sym, ap, subst, ◌∙◌, inl, inr, arith}
use Rattle.std.specs.Prelude.{slice_get, replicate}
use Rattle.std.specs.Int.{w64, cast_unsigned}
use Rattle.std.proofs.Math.Nat.{div-add-mod, mod-lt, div-lt_iff_lt-mul, mul_comm}
use Rattle.std.proofs.lemmas.Bool.{cases_lt, cases_eq}
use Rattle.std.proofs.lemmas.Bool.Decides.{nat_tests}
use Rattle.std.proofs.lemmas.Grind.{same_number_lists}
use Rattle.std.proofs.lemmas.Int.{of_z-to_z}
use Rattle.std.proofs.lemmas.List.{get_or-drop, get_or-take, get_or_past, length-take, length-take-le, length-drop}
use Rattle.std.proofs.lemmas.Option.{slice_get-get_or, same_Some}
use Rattle.byteorder.specs.Endian.{little_from}
use Rattle.byteorder.specs.Numbers.{little_from-lt}
use Rattle.nb_model.specs.declared.body.V3.{V3}
use Rattle.nb_model.specs.declared.body.Body.{Body}
use Rattle.nb_record.specs.declared.cell.Cell.{Cell}
use Rattle.nb_host.specs.declared.page_name.TheConstants.{PAGE_SIZE}
use Rattle.nb_host.specs.Page.{page_start, page_of}
use Rattle.nb_record.specs.declared.sizes.TheConstants.{HEADER_SIZE, BODY_SIZE, CELL_SIZE, KICK_AT, BODIES_PER_PAGE}
use Rattle.nb_record.specs.Fields.{u64_at, u32_at, i64_at}
use Rattle.nb_record.specs.Pages.{page_number, record_count, page_next, IsCellPage}
use Rattle.nb_record.specs.Records.{body_record, body_of, kick_of, IsBodyRecord, cell_record, cell_of, cells_of}
use Rattle.nb_record.specs.Writing.{records_end, IsZeroPadded, IsZeroPaddedFile, AreBytes}
use Rattle.nb_record.specs.Order.{pages_for, record_of, HoldsKickedBodies}
use Rattle.nb_record.proofs.Lists.{length-cells_of, cell_at}

-- ---- numbers and their bytes

-- each element is below 256, and past the end 0
abbrev Small : List ℕ → Type 0
Small xs = (k : ℕ) → get_or xs k 0 < 256

small : (xs : List ℕ) → AreBytes xs → Small xs
small xs are k =
    elim (cases_lt k (length xs)) [
      | inl within ↦ are k 0 within
      | inr past ↦ subst (λ b. b < 256) (sym (get_or_past xs k 0 past)) (omega arith)
    ]

small-drop : (n : ℕ) (xs : List ℕ) → Small xs → Small (drop n xs)
small-drop n xs are k = subst (λ b. b < 256) (sym (get_or-drop n xs k 0)) (are (n + k))

digits : (a b r s : ℕ) → a < 256 → b < 256 → a + 256 * r ≡ b + 256 * s → (a ≡ b) × (r ≡ s)
digits a b r s first second same = (omega arith, omega arith)

same_from : (n i : ℕ) (xs ys : List ℕ) → Small xs → Small ys → little_from i n xs ≡ little_from i n ys → (k : ℕ) → i ≤ k → k < i + n → get_or xs k 0 ≡ get_or ys k 0
same_from zero i xs ys sx sy same k from to = absurd (omega arith)
same_from (suc n) i xs ys sx sy same k from to =
    let parts = digits (get_or xs i 0) (get_or ys i 0) (little_from (suc i) n xs) (little_from (suc i) n ys) (sx i) (sy i) same in
    elim (cases_eq i k) [
      | inl here ↦ ap (λ j. get_or xs j 0) (sym here) ∙ parts.0 ∙ ap (λ j. get_or ys j 0) here
      | inr later ↦ same_from n (suc i) xs ys sx sy parts.1 k (omega arith) (omega arith)
    ]

same_field : (n at : ℕ) (xs ys : List ℕ) → Small xs → Small ys → little_from 0 n (drop at xs) ≡ little_from 0 n (drop at ys) → (k : ℕ) → at ≤ k → k < at + n → get_or xs k 0 ≡ get_or ys k 0
same_field n at xs ys sx sy same k from to =
    let whole : at + (k - at) ≡ k = omega arith in
    ap (λ j. get_or xs j 0) (sym whole)
    ∙ sym (get_or-drop at xs (k - at) 0)
    ∙ same_from n 0 (drop at xs) (drop at ys) (small-drop at xs sx) (small-drop at ys sy) same (k - at) (omega arith) (omega arith)
    ∙ get_or-drop at ys (k - at) 0
    ∙ ap (λ j. get_or ys j 0) whole

same_word : (at : ℕ) (xs ys : List ℕ) → Small xs → Small ys → u64_at at xs ≡ u64_at at ys → (k : ℕ) → at ≤ k → k < at + 8 → get_or xs k 0 ≡ get_or ys k 0
unfolding u64_at
same_word at xs ys sx sy same k from to = same_field 8 at xs ys sx sy same k from to

same_short : (at : ℕ) (xs ys : List ℕ) → Small xs → Small ys → u32_at at xs ≡ u32_at at ys → (k : ℕ) → at ≤ k → k < at + 4 → get_or xs k 0 ≡ get_or ys k 0
unfolding u32_at
same_short at xs ys sx sy same k from to = same_field 4 at xs ys sx sy same k from to

word_small : (at : ℕ) (xs : List ℕ) → Small xs → u64_at at xs < 2 ^ 64
unfolding u64_at
word_small at xs sx =
    let below = little_from-lt 0 8 (drop at xs) (small-drop at xs sx) in
    omega arith

signed_back : (at : ℕ) (xs ys : List ℕ) → Small xs → Small ys → i64_at at xs ≡ i64_at at ys → u64_at at xs ≡ u64_at at ys
signed_back at xs ys sx sy same =
    sym (of_z-to_z w64 (u64_at at xs) (word_small at xs sx)) ∙ ap (cast_unsigned w64) same ∙ of_z-to_z w64 (u64_at at ys) (word_small at ys sy)

-- ---- records

flags : (a b : ℕ) → a ≤ 1 → b ≤ 1 → eqb a 1 ≡ eqb b 1 → a ≡ b
flags a b first second same = grind (arith, nat_tests)

-- what two records of a body and a kick say is the same
record SaysSame (x y : List ℕ) : Type 0 where
  left : IsBodyRecord x
  right : IsBodyRecord y
  body : body_of x ≡ body_of y
  kick : kick_of x ≡ kick_of y

same_record_byte : (x y : List ℕ) → Small x → Small y → SaysSame x y → (k : ℕ) → k < BODY_SIZE → get_or x k 0 ≡ get_or y k 0
same_record_byte x y sx sy is k below =
    let id = same_word 0 x y sx sy (ap (λ (b : Body). b.id) is.body) k in
    let mass = same_short 8 x y sx sy (ap (λ (b : Body). b.mass) is.body) k in
    let flag = same_short 12 x y sx sy (flags (u32_at 12 x) (u32_at 12 y) is.left.flag is.right.flag (ap (λ (b : Body). b.out) is.body)) k in
    let px = same_word 16 x y sx sy (ap (λ (b : Body). b.at.x) is.body) k in
    let py = same_word 24 x y sx sy (ap (λ (b : Body). b.at.y) is.body) k in
    let pz = same_word 32 x y sx sy (ap (λ (b : Body). b.at.z) is.body) k in
    let vx = same_word 40 x y sx sy (signed_back 40 x y sx sy (ap (λ (b : Body). b.v.x) is.body)) k in
    let vy = same_word 48 x y sx sy (signed_back 48 x y sx sy (ap (λ (b : Body). b.v.y) is.body)) k in
    let vz = same_word 56 x y sx sy (signed_back 56 x y sx sy (ap (λ (b : Body). b.v.z) is.body)) k in
    let kx = same_word KICK_AT x y sx sy (signed_back KICK_AT x y sx sy (ap (λ (v : V3). v.x) is.kick)) k in
    let ky = same_word (KICK_AT + 8) x y sx sy (signed_back (KICK_AT + 8) x y sx sy (ap (λ (v : V3). v.y) is.kick)) k in
    let kz = same_word (KICK_AT + 16) x y sx sy (signed_back (KICK_AT + 16) x y sx sy (ap (λ (v : V3). v.z) is.kick)) k in
    elim (cases_lt k 8) [
      | inl a ↦ id (omega arith) (omega arith)
      | inr b ↦
          elim (cases_lt k 12) [
            | inl a ↦ mass (omega arith) (omega arith)
            | inr c ↦
                elim (cases_lt k 16) [
                  | inl a ↦ flag (omega arith) (omega arith)
                  | inr d ↦
                      elim (cases_lt k 24) [
                        | inl a ↦ px (omega arith) (omega arith)
                        | inr e ↦
                            elim (cases_lt k 32) [
                              | inl a ↦ py (omega arith) (omega arith)
                              | inr f ↦
                                  elim (cases_lt k 40) [
                                    | inl a ↦ pz (omega arith) (omega arith)
                                    | inr g ↦
                                        elim (cases_lt k 48) [
                                          | inl a ↦ vx (omega arith) (omega arith)
                                          | inr h ↦
                                              elim (cases_lt k 56) [
                                                | inl a ↦ vy (omega arith) (omega arith)
                                                | inr i ↦
                                                    elim (cases_lt k KICK_AT) [
                                                      | inl a ↦ vz (omega arith) (omega arith)
                                                      | inr j ↦
                                                          elim (cases_lt k (KICK_AT + 8)) [
                                                            | inl a ↦ kx (omega arith) (omega arith)
                                                            | inr l ↦
                                                                elim (cases_lt k (KICK_AT + 16)) [ inl a ↦ ky (omega arith) (omega arith) | inr m ↦ kz (omega arith) (omega arith) ]
                                                          ]
                                                    ]
                                              ]
                                        ]
                                  ]
                            ]
                      ]
                ]
          ]
    ]

-- ---- pages

-- two pages have one header, and one record at each index
record HaveSameRecords (size : ℕ) (x y : List ℕ) : Type 0 where
  some : 0 < size
  left : length x ≡ PAGE_SIZE
  right : length y ≡ PAGE_SIZE
  number : page_number x ≡ page_number y
  count : record_count x ≡ record_count y
  next : page_next x ≡ page_next y
  zeros : u64_at 24 x ≡ u64_at 24 y
  record_byte : (i j : ℕ) → i < record_count x → j < size → get_or x (HEADER_SIZE + (size * i + j)) 0 ≡ get_or y (HEADER_SIZE + (size * i + j)) 0
  padded : IsZeroPadded size x
  also_padded : IsZeroPadded size y

same_page : (size : ℕ) (x y : List ℕ) → Small x → Small y → HaveSameRecords size x y → x ≡ y
same_page size x y sx sy is = same_number_lists x y (is.left ∙ sym is.right) byte where
  among : (m : ℕ) → m < size * record_count x → get_or x (HEADER_SIZE + m) 0 ≡ get_or y (HEADER_SIZE + m) 0
  among m below =
      let whole = div-add-mod m size in
      let within : m / size < record_count x = (div-lt_iff_lt-mul is.some).1 (subst (λ e. m < e) (mul_comm size (record_count x)) below) in
      subst (λ e. get_or x (HEADER_SIZE + e) 0 ≡ get_or y (HEADER_SIZE + e) 0) whole
      (is.record_byte (m / size) (m % size) within (mod-lt m is.some))

  behind : (m : ℕ) → get_or x (records_end size x + m) 0 ≡ get_or y (records_end size x + m) 0
  behind m =
      let ends : records_end size x ≡ records_end size y = ap (λ n. HEADER_SIZE + size * n) is.count in
      sym (get_or-drop (records_end size x) x m 0)
      ∙ ap (λ l. get_or l m 0) (is.padded ∙ ap (λ e. replicate (PAGE_SIZE - e) 0) ends ∙ sym is.also_padded)
      ∙ get_or-drop (records_end size y) y m 0
      ∙ ap (λ e. get_or y (e + m) 0) (sym ends)

  byte : (k : ℕ) → k < length x → get_or x k 0 ≡ get_or y k 0
  byte k within =
      elim (cases_lt k 8) [
        | inl a ↦ same_word 0 x y sx sy is.number k (omega arith) (omega arith)
        | inr b ↦
            elim (cases_lt k 16) [
              | inl a ↦ same_word 8 x y sx sy is.count k (omega arith) (omega arith)
              | inr c ↦
                  elim (cases_lt k 24) [
                    | inl a ↦ same_word 16 x y sx sy is.next k (omega arith) (omega arith)
                    | inr d ↦
                        elim (cases_lt k HEADER_SIZE) [
                          | inl a ↦ same_word 24 x y sx sy is.zeros k (omega arith) (omega arith)
                          | inr e ↦
                              elim (cases_lt k (records_end size x)) [
                                | inl a ↦
                                    let at : HEADER_SIZE + (k - HEADER_SIZE) ≡ k = omega arith in
                                    subst (λ j. get_or x j 0 ≡ get_or y j 0) at (among (k - HEADER_SIZE) (omega arith))
                                | inr f ↦
                                    let at : records_end size x + (k - records_end size x) ≡ k = omega arith in
                                    subst (λ j. get_or x j 0 ≡ get_or y j 0) at (behind (k - records_end size x))
                              ]
                        ]
                  ]
            ]
      ]

-- ---- pages of cells

cell_byte : (page : List ℕ) (i j : ℕ) → j < CELL_SIZE → get_or (cell_record i page) j 0 ≡ get_or page (HEADER_SIZE + (CELL_SIZE * i + j)) 0
cell_byte page i j below =
    get_or-take CELL_SIZE (drop (HEADER_SIZE + CELL_SIZE * i) page) j 0 below
    ∙ get_or-drop (HEADER_SIZE + CELL_SIZE * i) page j 0
    ∙ ap (λ e. get_or page e 0) (omega arith)

small-cell : (page : List ℕ) (i : ℕ) → Small page → Small (cell_record i page)
small-cell page i are k =
    elim (cases_lt k CELL_SIZE) [
      | inl below ↦ subst (λ b. b < 256) (sym (cell_byte page i k below)) (are (HEADER_SIZE + (CELL_SIZE * i + k)))
      | inr past ↦ subst (λ b. b < 256) (sym (get_or_past (cell_record i page) k 0 (omega (arith, length-take CELL_SIZE (drop (HEADER_SIZE + CELL_SIZE * i) page))))) (omega arith)
    ]

same_cell_byte : (x y : List ℕ) → Small x → Small y → cell_of x ≡ cell_of y → (k : ℕ) → k < CELL_SIZE → get_or x k 0 ≡ get_or y k 0
same_cell_byte x y sx sy is k below =
    let key = same_word 0 x y sx sy (ap (λ (c : Cell). c.key) is) k in
    let mass = same_word 8 x y sx sy (ap (λ (c : Cell). c.mass) is) k in
    let px = same_word 16 x y sx sy (ap (λ (c : Cell). c.centre.x) is) k in
    let py = same_word 24 x y sx sy (ap (λ (c : Cell). c.centre.y) is) k in
    let pz = same_word 32 x y sx sy (ap (λ (c : Cell). c.centre.z) is) k in
    let first = same_word 40 x y sx sy (ap (λ (c : Cell). c.first) is) k in
    let count = same_word 48 x y sx sy (ap (λ (c : Cell). c.count) is) k in
    let kids = same_word 56 x y sx sy (ap (λ (c : Cell). c.kids) is) k in
    elim (cases_lt k 8) [
      | inl a ↦ key (omega arith) (omega arith)
      | inr b ↦
          elim (cases_lt k 16) [
            | inl a ↦ mass (omega arith) (omega arith)
            | inr c ↦
                elim (cases_lt k 24) [
                  | inl a ↦ px (omega arith) (omega arith)
                  | inr d ↦
                      elim (cases_lt k 32) [
                        | inl a ↦ py (omega arith) (omega arith)
                        | inr e ↦
                            elim (cases_lt k 40) [
                              | inl a ↦ pz (omega arith) (omega arith)
                              | inr f ↦
                                  elim (cases_lt k 48) [
                                    | inl a ↦ first (omega arith) (omega arith)
                                    | inr g ↦
                                        elim (cases_lt k 56) [ inl a ↦ count (omega arith) (omega arith) | inr h ↦ kids (omega arith) (omega arith) ]
                                  ]
                            ]
                      ]
                ]
          ]
    ]

pub same_cell_page : (page : ℕ) (a b : List ℕ) → AreBytes a → AreBytes b → length a ≡ PAGE_SIZE → length b ≡ PAGE_SIZE → IsCellPage page a → IsCellPage page b
    → IsZeroPadded CELL_SIZE a → IsZeroPadded CELL_SIZE b → page_next a ≡ page_next b → cells_of a ≡ cells_of b → a ≡ b
same_cell_page page a b are_a are_b left right form_a form_b padded_a padded_b nexts cells =
    let sa = small a are_a in
    let sb = small b are_b in
    let counts : record_count a ≡ record_count b = sym (length-cells_of a) ∙ ap length cells ∙ length-cells_of b in
    same_page CELL_SIZE a b sa sb
    (record {
      some = omega arith;
      left = left;
      right = right;
      number = form_a.number ∙ sym form_b.number;
      count = counts;
      next = nexts;
      zeros = form_a.zeros ∙ sym form_b.zeros;
      record_byte = λ i j within k.
          let also : i < record_count b = omega arith in
          let cell : cell_of (cell_record i a) ≡ cell_of (cell_record i b) =
          same_Some (cell_of (cell_record i a)) (cell_of (cell_record i b)) (sym (cell_at a i within) ∙ ap (λ l. slice_get l i) cells ∙ cell_at b i also) in
          sym (cell_byte a i j k)
          ∙ same_cell_byte (cell_record i a) (cell_record i b) (small-cell a i sa) (small-cell b i sb) cell j k
          ∙ cell_byte b i j k;
      padded = padded_a;
      also_padded = padded_b;
    })

-- ---- files

page_byte : (file : List ℕ) (p i : ℕ) → i < PAGE_SIZE → get_or (page_of file p) i 0 ≡ get_or file (page_start p + i) 0
page_byte file p i below = get_or-take PAGE_SIZE (drop (page_start p) file) i 0 below ∙ get_or-drop (page_start p) file i 0

small-page : (file : List ℕ) (p : ℕ) → Small file → Small (page_of file p)
small-page file p are i =
    elim (cases_lt i PAGE_SIZE) [
      | inl below ↦ subst (λ b. b < 256) (sym (page_byte file p i below)) (are (page_start p + i))
      | inr past ↦ subst (λ b. b < 256) (sym (get_or_past (page_of file p) i 0 (omega (arith, length-take PAGE_SIZE (drop (page_start p) file))))) (omega arith)
    ]

pub same_pages : (n : ℕ) (a b : List ℕ) → length a ≡ page_start n → length b ≡ page_start n → ((p : ℕ) → p < n → page_of a p ≡ page_of b p) → a ≡ b
same_pages n a b left right same = same_number_lists a b (left ∙ sym right) byte where
  byte : (k : ℕ) → k < length a → get_or a k 0 ≡ get_or b k 0
  byte k within =
      let p = k / PAGE_SIZE in
      let i = k % PAGE_SIZE in
      let at : page_start p + i ≡ k = omega arith in
      ap (λ j. get_or a j 0) (sym at)
      ∙ sym (page_byte a p i (omega arith))
      ∙ ap (λ l. get_or l i 0) (same p (omega arith))
      ∙ page_byte b p i (omega arith)
      ∙ ap (λ j. get_or b j 0) at

record_byte : (page : List ℕ) (i j : ℕ) → j < BODY_SIZE → get_or (body_record i page) j 0 ≡ get_or page (HEADER_SIZE + (BODY_SIZE * i + j)) 0
record_byte page i j below =
    get_or-take BODY_SIZE (drop (HEADER_SIZE + BODY_SIZE * i) page) j 0 below
    ∙ get_or-drop (HEADER_SIZE + BODY_SIZE * i) page j 0
    ∙ ap (λ e. get_or page e 0) (omega arith)

page_length : (file : List ℕ) (p : ℕ) → page_start (p + 1) ≤ length file → length (page_of file p) ≡ PAGE_SIZE
page_length file p within = length-take-le PAGE_SIZE (drop (page_start p) file) (omega (arith, length-drop (page_start p) file))

small-record : (file : List ℕ) (j : ℕ) → Small file → Small (record_of file j)
small-record file j are k =
    let page = page_of file (j / BODIES_PER_PAGE) in
    let small_page = small-page file (j / BODIES_PER_PAGE) are in
    elim (cases_lt k BODY_SIZE) [
      | inl below ↦ subst (λ b. b < 256) (sym (record_byte page (j % BODIES_PER_PAGE) k below)) (small_page (HEADER_SIZE + (BODY_SIZE * (j % BODIES_PER_PAGE) + k)))
      | inr past ↦ subst (λ b. b < 256) (sym (get_or_past (record_of file j) k 0 (omega (arith, length-take BODY_SIZE (drop (HEADER_SIZE + BODY_SIZE * (j % BODIES_PER_PAGE)) page))))) (omega arith)
    ]

pub same_file : (a b : List ℕ) (kick : Body → V3) (bodies : List Body) → AreBytes a → AreBytes b → IsZeroPaddedFile BODY_SIZE a → IsZeroPaddedFile BODY_SIZE b
    → HoldsKickedBodies a kick bodies → HoldsKickedBodies b kick bodies → a ≡ b
same_file a b kick bodies are_a are_b padded_a padded_b has_a has_b = same_pages (pages_for (length bodies)) a b has_a.bodies.whole has_b.bodies.whole each where
  sa : Small a
  sa = small a are_a

  sb : Small b
  sb = small b are_b

  says : (j : ℕ) → j < length bodies → SaysSame (record_of a j) (record_of b j)
  says j below =
      let d = body_of (record_of a j) in
      let is = slice_get-get_or bodies j d below in
      record {
        left = has_a.bodies.records j below;
        right = has_b.bodies.records j below;
        body = same_Some (body_of (record_of a j)) (body_of (record_of b j)) (sym (has_a.bodies.held j below) ∙ has_b.bodies.held j below);
        kick = has_a.kicks j (get_or bodies j d) is ∙ sym (has_b.kicks j (get_or bodies j d) is);
      }

  each : (p : ℕ) → p < pages_for (length bodies) → page_of a p ≡ page_of b p
  each p below =
      let x = page_of a p in
      let y = page_of b p in
      let form_x = has_a.bodies.pages p below in
      let form_y = has_b.bodies.pages p below in
      let counts_x = has_a.bodies.counts p below in
      let counts_y = has_b.bodies.counts p below in
      same_page BODY_SIZE x y (small-page a p sa) (small-page b p sb)
      (record {
        some = omega arith;
        left = page_length a p (omega (arith, has_a.bodies.whole));
        right = page_length b p (omega (arith, has_b.bodies.whole));
        number = form_x.number ∙ sym form_y.number;
        count = counts_x ∙ sym counts_y;
        next = form_x.next ∙ sym form_y.next;
        zeros = form_x.zeros ∙ sym form_y.zeros;
        record_byte = λ i j within k.
            let index = BODIES_PER_PAGE * p + i in
            let small_i : i < BODIES_PER_PAGE = omega (arith, form_x.count) in
            let at_page : index / BODIES_PER_PAGE ≡ p = omega arith in
            let at_index : index % BODIES_PER_PAGE ≡ i = omega arith in
            let inside : index < length bodies = omega (arith, counts_x) in
            let same = same_record_byte (record_of a index) (record_of b index) (small-record a index sa) (small-record b index sb) (says index inside) j k in
            sym (record_byte x i j k)
            ∙ subst (λ q. get_or (body_record i (page_of a q)) j 0 ≡ get_or (body_record i (page_of b q)) j 0) at_page
            (subst (λ r. get_or (body_record r (page_of a (index / BODIES_PER_PAGE))) j 0 ≡ get_or (body_record r (page_of b (index / BODIES_PER_PAGE))) j 0) at_index same)
            ∙ record_byte y i j k;
        padded = padded_a p (omega (arith, has_a.bodies.whole));
        also_padded = padded_b p (omega (arith, has_b.bodies.whole));
      })
