-- A table of cells in a file of pages (the hash of Warren and Salmon 1993): the low bits of a cell's key name the page at
-- which the chain of pages begins that holds it.
use Rattle.std.specs.Prelude.{◌≡◌, ◌≢◌, ℕ, zero, suc, ◌%◌, ◌^◌, ◌<◌, ◌≤◌, ◌==◌, if◌then◌else◌, List, [], ◌∷◌, length, filter, All, IsPermutation}
use Rattle.std.specs.List.{flat_map}
use Rattle.nb_record.specs.declared.cell.Cell.{Cell}
use Rattle.nb_record.specs.Pages.{page_next, IsCellPage}
use Rattle.nb_record.specs.Records.{cells_of, IsCell}
use Rattle.nb_host.specs.Page.{page_start, page_of}

-- the number of the page that follows page p of a file, 0 for none
abbrev pub next_of : List ℕ → ℕ → ℕ
next_of file p = page_next (page_of file p)

-- the pages of a chain from page p on, at most n of them
unfoldable pub chain : List ℕ → ℕ → ℕ → List ℕ
chain file zero p = []
chain file (suc n) p = p ∷ (if next_of file p == 0 then [] else chain file n (next_of file p))

-- the cells on the pages of the chain that begins at page p, in a file of so many pages
abbrev pub cells_on_chain : List ℕ → ℕ → ℕ → List Cell
cells_on_chain file pages p = flat_map (λ q. cells_of (page_of file q)) (chain file pages p)

-- page q is the next page of exactly one page
pub record IsNextOnce (file : List ℕ) (pages q : ℕ) : Type 0 where
  pub before : ℕ
  pub within : before < pages
  pub is : next_of file before ≡ q
  pub one : (p : ℕ) → p < pages → next_of file p ≡ q → p ≡ before

-- The file is a table of these cells, with so many bits and pages. Each page is of the form, and a next page is one of
-- the file's. The pages below 2 ^ bits begin the chains, and each other follows exactly one. The chain that begins at
-- page h holds exactly the cells whose key has h as its low bits, each once.
pub record IsCellTable (file : List ℕ) (bits pages : ℕ) (cells : List Cell) : Type 0 where
  pub whole : length file ≡ page_start pages
  pub begins : 2 ^ bits ≤ pages
  pub forms : (p : ℕ) → p < pages → IsCellPage p (page_of file p)
  pub records : (p : ℕ) → p < pages → All IsCell (cells_of (page_of file p))
  pub nexts : (p : ℕ) → p < pages → next_of file p < pages
  pub first : (p : ℕ) → p < pages → next_of file p ≢ 0 → 2 ^ bits ≤ next_of file p
  pub follows : (q : ℕ) → 2 ^ bits ≤ q → q < pages → IsNextOnce file pages q
  pub chains : (h : ℕ) → h < 2 ^ bits → IsPermutation (cells_on_chain file pages h) (filter (λ c. c.key % 2 ^ bits == h) cells)
