-- The pages of a file, counted from 0, and their names.
use Rattle.std.specs.Prelude.{◌≡◌, ℕ, ⊤, ◌+◌, ◌*◌, ◌<◌, ◌≤◌, ◌⊎◌, Bool, ◌&&◌, ◌==◌, List, [], ◌∷◌, length, take, drop}
use Rattle.std.specs.List.{AllByRecursion}
use Rattle.nb_host.specs.declared.page_name.PageName.{PageName}
use Rattle.nb_host.specs.declared.page_name.TheConstants.{PAGE_SIZE}

-- where page p begins, in bytes
abbrev pub page_start : ℕ → ℕ
page_start page = page * PAGE_SIZE

-- the bytes of page p, fewer than a page's where the file ends within it
abbrev pub page_of : List ℕ → ℕ → List ℕ
page_of file page = take PAGE_SIZE (drop (page_start page) file)

-- page p is whole: the file doesn't end before it does
abbrev pub HasPage : List ℕ → ℕ → Type 0
HasPage file page = page_start (page + 1) ≤ length file

-- Names of pages.

abbrev pub same_page : PageName → PageName → Bool
same_page a b = (a.file == b.file) && (a.page == b.page)

-- by file, then by page
abbrev pub IsBefore : PageName → PageName → Type 0
IsBefore a b = (a.file < b.file) ⊎ ((a.file ≡ b.file) × (a.page < b.page))

abbrev pub IsRising : List PageName → Type 0
IsRising [] = ⊤
IsRising (n ∷ names) = AllByRecursion (IsBefore n) names × IsRising names
