-- A file of bodies holds one list, and each of its bodies has a page and an index there.
use Rattle.std.proofs.Common.{◌≡◌, ℕ, zero, suc, ◌-◌, ◌/◌, ◌%◌, ◌<◌, List, length, sym, ◌∙◌, arith}
use Rattle.std.proofs.lemmas.List.{same_lists}
use Rattle.std.proofs.lemmas.Option.{get_or_from_slice_get}
use Rattle.nb_model.specs.declared.body.Body.{Body}
use Rattle.nb_host.specs.Page.{page_start}
use Rattle.nb_record.specs.declared.sizes.TheConstants.{BODIES_PER_PAGE}
use Rattle.nb_record.specs.Records.{body_of}
use Rattle.nb_record.specs.Order.{pages_for, count_on, record_of, HoldsBodies}

pub page_within : (count j : ℕ) → j < count → j / BODIES_PER_PAGE < pages_for count
page_within count j below = omega arith

pub index_within : (count j : ℕ) → j < count → j % BODIES_PER_PAGE < count_on count (j / BODIES_PER_PAGE)
index_within count j below = grind arith

same_pages : (a b : ℕ) → page_start (pages_for a) ≡ page_start (pages_for b) → pages_for a ≡ pages_for b
same_pages a b same = omega arith

-- the last page tells the count
same_count : (a b : ℕ) → pages_for a ≡ pages_for b → (0 < pages_for a → count_on a (pages_for a - 1) ≡ count_on b (pages_for a - 1)) → a ≡ b
same_count zero b pages last = omega arith
same_count (suc a) b pages last =
    let same = last (omega arith) in
    grind arith

pub one_list : (file : List ℕ) (xs ys : List Body) → HoldsBodies file xs → HoldsBodies file ys → xs ≡ ys
one_list file xs ys left right =
    let pages : pages_for (length xs) ≡ pages_for (length ys) = same_pages (length xs) (length ys) (sym left.whole ∙ right.whole) in
    let last = pages_for (length xs) - 1 in
    let long : length xs ≡ length ys = same_count (length xs) (length ys) pages (λ some. sym (left.counts last (omega arith)) ∙ right.counts last (omega arith)) in
    same_lists xs ys long
    (λ j d below. get_or_from_slice_get xs j (body_of (record_of file j)) d (left.held j below) ∙ sym (get_or_from_slice_get ys j (body_of (record_of file j)) d (right.held j (omega arith))))
